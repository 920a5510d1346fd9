-- What the headline and the limits refuse, tried on a language of which each source goes on for ever and writes nothing, on one of which
-- each writes an A before something undefined, and on a run of the machine.
use Rattle.bk_filters.proofs.Terms.{◌≡◌, ℕ, inl, inr, List, [], ◌∷◌, None, Some, Bool, refl, sym, subst, arith, ◌∙◌, append-nil, ⊤, pos, End, Status, StepLimit, Registers, Streams, Language, OneBegins, Agrees, Runs}
use Rattle.bk_machine.specs.Runs.{Going, Over, run, Devices, Follows, Finished, Ran}

abbrev endless : Language
endless = record {
  Accepted = λ source. ⊤;
  Refused = λ source fault. ⊥;
  Startless = λ source. ⊥;
  Ends = λ source input taken bytes end. ⊥;
  GoesOn = λ source input turns bytes. bytes ≡ [];
  Holds = λ source words. ⊤;
  Enough = λ source input steps words. ⊥;
  EnoughFor = λ source input turns steps words. ⊤;
}

-- it never ends with 0
never_ends : (source input : List ℕ) (steps words : ℕ) (read written : List ℕ) → Agrees endless source input steps words (Status (pos 0)) read written → ⊥
never_ends source input steps words read written agrees = agrees.1 (λ turns. ([], refl))

-- it stops at the limit of steps, and has written nothing
stops_at_the_limit : (source input : List ℕ) (steps words : ℕ) → Agrees endless source input steps words StepLimit [] []
stops_at_the_limit source input steps words = (
  record { of_end = λ taken bytes last ends. absurd ends; of_turns = λ goes. (0, [], [], refl, refl); of_any = λ turns bytes goes. inl ([], goes) },
  (λ turns bytes goes enough. ([], sym (append-nil bytes ∙ goes))),
  (λ enough. enough),
)

-- nothing is run of a source without START, in any language
nothing_runs : (language : Language) (source : List ℕ) (end : End) (steps words : ℕ) (before after : Streams)
    → language.Startless source → Runs language source end steps words before after → ⊥
nothing_runs language source end steps words before after none runs = runs.starts none

-- of which each source writes an A in its first turn, and then does something undefined
abbrev undefined_later : Language
undefined_later = record {
  Accepted = λ source. ⊤;
  Refused = λ source fault. ⊥;
  Startless = λ source. ⊥;
  Ends = λ source input taken bytes end. ⊥;
  GoesOn = λ source input turns bytes. (turns ≡ 1) × (bytes ≡ 65 ∷ []);
  Holds = λ source words. ⊤;
  Enough = λ source input steps words. ⊥;
  EnoughFor = λ source input turns steps words. ⊥;
}

heads : (x y : ℕ) (xs ys : List ℕ) → x ∷ xs ≡ y ∷ ys → x ≡ y
heads x y xs ys is = cc

other_bytes : OneBegins (65 ∷ []) (90 ∷ 90 ∷ []) → ⊥
other_bytes (inl more) = let e = heads 65 90 [] (90 ∷ more.0) more.1 in omega (arith, e)
other_bytes (inr more) = let e = heads 90 65 (90 ∷ []) more.0 more.1 in omega (arith, e)

-- nothing but the A is written before that, however few the steps are
no_other_bytes : (source input : List ℕ) (steps words : ℕ) (read : List ℕ) → Agrees undefined_later source input steps words StepLimit read (90 ∷ 90 ∷ []) → ⊥
no_other_bytes source input steps words read agrees = other_bytes (agrees.0.of_any 1 (65 ∷ []) (refl, refl))

-- nor does it end without
no_other_end : (source input : List ℕ) (steps words : ℕ) (read : List ℕ) → Agrees undefined_later source input steps words (Status (pos 0)) read [] → ⊥
no_other_end source input steps words read agrees = let more = agrees.2 1 (65 ∷ []) (refl, refl) in let z : [] ≡ 65 ∷ more.0 = more.1 in cc

-- From one machine, with one input, a run that did all of its steps did not end of itself: neither limit stands for the other, nor the
-- limit of steps for an end that comes within them.
module _ (Holds : List ℕ → Type 0) (e : End) (n : ℕ) (store first second : List ℕ) (r p q : Registers) (input rest left taken one other : List ℕ) (was reported over : Bool) where
  abbrev before : Devices
  before = record { left = Some input; held = []; ended = was; taken = Some taken; passed = None }

  abbrev paused : Devices
  paused = record { left = Some rest; held = []; ended = reported; taken = Some one; passed = None }

  abbrev ended : Devices
  ended = record { left = Some left; held = []; ended = over; taken = Some other; passed = None }

  not_both : Follows paused rest → Follows ended left → Ran Holds StepLimit n store r first p before paused → Finished Holds e n store r before ended → ⊥
  not_both follows ends goes stops =
      let here : run n store r input [] ≡ Going first p rest goes.written = subst (λ i. run n store r i [] ≡ Going first p rest goes.written) (sym goes.exchanged.delivered) (goes.leads rest [] follows) in
      let there : run n store r input [] ≡ Over e left stops.written = subst (λ i. run n store r i [] ≡ Over e left stops.written) (sym stops.exchanged.delivered) (stops.ends left [] ends) in
      let both = sym here ∙ there in cc
