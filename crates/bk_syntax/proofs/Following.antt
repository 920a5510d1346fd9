-- What there is behind some symbols, and behind one more.
use Rattle.bk_syntax.proofs.Terms.{◌≡◌, ℕ, zero, suc, ◌-◌, ◌+◌, ◌<◌, length, get_or, take, arith, List, [], ◌∷◌, ◌++◌, true, false, Option, Some, None, Result, Ok, Err, replicate, refl, sym, ap, subst, ◌∙◌, ◌⊎◌, inl, inr, append_assoc, append-nil, take_more, map-append, take-length, Bor, PlacedFault, position_of, Refused, Fault, UnexpectedSymbol, WrongSectionTag, Kind, Token, Symbol, symbol_of, symbols_of, Frames, ParserState, Declarations, declarations_in, no_declarations, tag_of, Closing, closed_by, in_front, plain_after, plain_by, plain, Applies, unfinished_on, above, stack, stack_of, state, Steps, reading, tags, Closes, goes_to, steps, leads, AfterSymbols, answered, reached, error_of, Advances, AnswersAtEnd, stepped, opens_kind, closes_kind, stack_none, Kind as k, Unfinished, Unfinished as b, Stop, Stop as s}
use Rattle.bk_frames.specs.declared.frame.OpenExpression.TheVariants as o
use Rattle.bk_frames.specs.declared.frame.Phrase.TheVariants as p
use Rattle.bk_frames.specs.declared.frame.Member.TheVariants as m
use Rattle.bk_frames.specs.declared.frame.Clause.TheVariants as c
use Rattle.bk_frames.specs.declared.frame.Place.TheVariants as a
use Rattle.bk_frames.specs.declared.frame.Point.TheVariants as t
use Rattle.bk_frames.specs.declared.frame.Frame.{Frame}
use Rattle.bk_tree.specs.declared.tree.Decl.{Decl}
use Rattle.bk_grammar.specs.Machine.{Stack, State, due, in_section, opens, closes, stepped_by, step, whole, going, run}
use Rattle.bk_syntax.proofs.Openings.{tags_none}
use Rattle.bk_syntax.proofs.Tags.{tag_stands, symbol_stands}

pub nothing_in_front : (r : Option (List Symbol)) → r ≡ in_front [] r
nothing_in_front None = refl
nothing_in_front (Some us) = refl

pub both_in_front : (ps qs : List Symbol) (r : Option (List Symbol)) → in_front ps (in_front qs r) ≡ in_front (ps ++ qs) r
both_in_front ps qs None = refl
both_in_front ps qs (Some us) = ap Some (sym (append_assoc ps qs us))

pub goes_some : (f : State → Option State) (r : Option State) (y : State) → goes_to f r ≡ Some y → (z : State) × (r ≡ Some z) × (f z ≡ Some y)
goes_some f None y h = absurd cc
goes_some f (Some z) y h = (z, refl, h)

pub leads_both : (ps qs : List Symbol) (x y : State) → leads ps x ≡ Some y → leads (ps ++ qs) x ≡ leads qs y
leads_both [] qs x y h = let same : x ≡ y = cc in ap (leads qs) same
leads_both (t ∷ ps) qs x y h = let g = goes_some (leads ps) (step x t) y h in ap (goes_to (leads (ps ++ qs))) g.1 ∙ leads_both ps qs g.0 y g.2

leads_then : (ps : List Symbol) (n : ℕ) (t : Symbol) (r : Option State) → ((x : State) → leads ps x ≡ steps n t x) → goes_to (leads ps) r ≡ goes_to (steps n t) r
leads_then ps n t None h = refl
leads_then ps n t (Some x) h = h x

pub leads_runs : (ps : List Symbol) (x y : State) (us : List Symbol) → leads ps x ≡ Some y → run (ps ++ us) x ≡ run us y
leads_runs [] x y us h = let same : x ≡ y = cc in ap (run us) same
leads_runs (t ∷ ps) x y us h = let g = goes_some (leads ps) (step x t) y h in stepped x g.0 t (ps ++ us) g.1 ∙ leads_runs ps g.0 y us g.2

-- what comes behind them is read from there
pub reads : {ts : List Symbol} {opens : List (List ℕ)} {x : State} (b : AfterSymbols ts opens x) (us : List Symbol) → reading (b.plainly ++ us) ≡ run us x
reads {x = x} b us = leads_runs b.plainly (due (in_section no_declarations)) x us b.comes

-- before the first symbol
pub from_start : AfterSymbols [] [] (due (in_section no_declarations))
from_start = record { plainly = []; brackets = λ us. nothing_in_front (plain us []); comes = refl }

-- behind one symbol more, which stands for these plain ones
pub behind_one : (ts : List Symbol) (t : Symbol) (before after : List (List ℕ)) (x y : State) (ps : List Symbol) → AfterSymbols ts before x
    → ((us : List Symbol) → plain (t ∷ us) before ≡ in_front ps (plain us after)) → leads ps x ≡ Some y → AfterSymbols (ts ++ t ∷ []) after y
behind_one ts t before after x y ps b h g = record {
  plainly = b.plainly ++ ps;
  brackets = λ us. ap (λ z. plain z []) (append_assoc ts (t ∷ []) us) ∙ b.brackets (t ∷ us) ∙ ap (in_front b.plainly) (h us) ∙ both_in_front b.plainly ps (plain us after);
  comes = leads_both b.plainly ps (due (in_section no_declarations)) x b.comes ∙ g;
}

leads_steps : (n : ℕ) (t : Symbol) (x : State) → leads (replicate n t) x ≡ steps n t x
leads_steps zero t x = refl
leads_steps (suc n) t x = leads_then (replicate n t) n t (step x t) (leads_steps n t)

goes_none : (f : State → Option State) (r : Option State) → goes_to f r ≡ None → (r ≡ None) ⊎ ((z : State) × (r ≡ Some z) × (f z ≡ None))
goes_none f None h = inl refl
goes_none f (Some z) h = inr (z, refl, h)

pub stopped : (x : State) (t : Symbol) (us : List Symbol) → step x t ≡ None → run (t ∷ us) x ≡ Err (t ∷ us)
unfolding run
stopped x t us h = ap (λ y. going (t ∷ us) (run us) y) h

-- at one of so many symbols the machine stops
stops : (n : ℕ) (t : Symbol) (x : State) → steps n t x ≡ None → (u v : List Symbol) × (replicate n t ≡ u ++ t ∷ v) × ((us : List Symbol) → run (replicate n t ++ us) x ≡ Err ((t ∷ v) ++ us))
stops zero t x h = absurd cc
stops (suc n) t x h = elim (goes_none (steps n t) (step x t) h) [
  | inl g ↦ ([], replicate n t, refl, λ us. stopped x t (replicate n t ++ us) g)
  | inr g ↦ let j = stops n t g.0 g.2 in (t ∷ j.0, j.1, ap (λ (z : List Symbol). t ∷ z) j.2, λ us. stepped x g.0 t (replicate n t ++ us) g.1 ∙ j.3 us)
]

pub plain_end : (opens : List (List ℕ)) → plain [] opens ≡ Some []
unfolding plain
plain_end opens = refl

-- a symbol at which the machine stops is an unexpected one
pub unexpected : (ts : List Symbol) (t : Symbol) (before after : List (List ℕ)) (x : State) (n : ℕ) → AfterSymbols ts before x
    → ((us : List Symbol) → plain (t ∷ us) before ≡ in_front (replicate n t) (plain us after)) → steps n t x ≡ None → Applies UnexpectedSymbol ts t
unexpected ts t before after x n b h stop =
    let j = stops n t x stop in
    let p = b.plainly in
    let rs = replicate n t in
    let is : plain (ts ++ t ∷ []) [] ≡ Some ((p ++ j.0) ++ t ∷ j.1) =
    b.brackets (t ∷ []) ∙ ap (in_front p) (h []) ∙ ap (λ z. in_front p (in_front rs z)) (plain_end after)
    ∙ ap (λ (z : List Symbol). Some (p ++ z)) (append-nil rs ∙ j.2) ∙ ap Some (sym (append_assoc p j.0 (t ∷ j.1))) in
    let at : reading ((p ++ j.0) ++ t ∷ j.1) ≡ Err (t ∷ j.1) =
    ap reading (append_assoc p j.0 (t ∷ j.1) ∙ ap (λ (z : List Symbol). p ++ z) (sym j.2)) ∙ reads b rs
    ∙ ap (λ z. run z x) (sym (append-nil rs)) ∙ j.3 [] ∙ ap Err (append-nil (t ∷ j.1)) in
    let none = symbol_stands (ts ++ t ∷ []) (p ++ j.0) t j.1 is at in
    ((λ w. none w.0 w.1 w.2), ((λ e. absurd cc), λ w. none w.0 w.1 w.2))

-- a symbol at which the tag clause fails has a wrong tag
pub wrong_tag : (ts : List Symbol) (t : Symbol) (before : List (List ℕ)) (x : State) → AfterSymbols ts before x → plain (t ∷ []) before ≡ None → Applies WrongSectionTag ts t
wrong_tag ts t before x b h =
    let is : plain (ts ++ t ∷ []) [] ≡ None = b.brackets (t ∷ []) ∙ ap (in_front b.plainly) h in
    ((λ w. tag_stands (ts ++ t ∷ []) w.0 w.1 is w.2), is)

-- a symbol that opens a section
pub plain_open : (t : Symbol) (us : List Symbol) (before : List (List ℕ)) → opens t.kind ≡ true → plain (t ∷ us) before ≡ in_front (t ∷ []) (plain us (tag_of t.text ∷ before))
unfolding plain
plain_open t us before h = ap (λ z. plain_by t z (plain us) before) (opens_kind t.kind h)

other_by : (t : Symbol) (y : Kind) (f : List (List ℕ) → Option (List Symbol)) (before : List (List ℕ)) → opens y ≡ false → closes y ≡ false → plain_by t y f before ≡ in_front (t ∷ []) (f before)
other_by t k.SectionOpen f before h j = absurd cc
other_by t k.SectionClose f before h j = absurd cc
other_by t _ f before h j = refl

-- one that neither opens nor closes
pub plain_other : (t : Symbol) (us : List Symbol) (before : List (List ℕ)) → opens t.kind ≡ false → closes t.kind ≡ false → plain (t ∷ us) before ≡ in_front (t ∷ []) (plain us before)
unfolding plain
plain_other t us before h j = other_by t t.kind (plain us) before h j

-- one that closes
pub plain_close : (t : Symbol) (us : List Symbol) (before : List (List ℕ)) (r : Option Closing) → closes t.kind ≡ true → closed_by t (tag_of t.text) before ≡ r → plain (t ∷ us) before ≡ plain_after (plain us) r
unfolding plain
plain_close t us before r h j = ap (λ z. plain_by t z (plain us) before) (closes_kind t.kind h) ∙ ap (plain_after (plain us)) j

pub steps_more : (n : ℕ) (t : Symbol) (x : State) → 0 < n → steps n t x ≡ goes_to (steps (n - 1) t) (step x t)
steps_more zero t x h = absurd (omega arith)
steps_more (suc n) t x h = let e : suc n - 1 ≡ n = omega arith in ap (λ (m : ℕ). goes_to (steps m t) (step x t)) (sym e)

-- a symbol is answered by as many steps as it has plain symbols
pub step_answered : (r : Result Unit Stop) (now : ParserState) (new : Frames) (xs : List (Bor (List ℕ))) (u : List Symbol) (t : Symbol) (before after : List (List ℕ)) (x : State) (n : ℕ)
    → Steps (stack_of new) (reached r now) (steps n t x) → tags xs ≡ after → ((us : List Symbol) → plain (t ∷ us) before ≡ in_front (replicate n t) (plain us after)) → AfterSymbols u before x
    → Advances new xs (answered (reached (error_of r) now) (position_of t)) u t
step_answered (Ok _) now new xs u t before after x n go are h b =
    let y = state (stack_of new) now in
    let P : List (List ℕ) → Type 0 = λ z. AfterSymbols (u ++ t ∷ []) z y in
    subst P (sym are) (behind_one u t before after x y (replicate n t) b h (leads_steps n t x ∙ go))
step_answered (Err s.Memory) now new xs u t before after x n go are h b = tt
step_answered (Err s.Unexpected) now new xs u t before after x n go are h b = (refl, unexpected u t before after x n b h go)

last_unfinished : (st : Stack) (x : Frame) (xs : List Frame) → (y : Unfinished) × (below : Stack) × (above st (x ∷ xs) ≡ unfinished_on y below)
last_unfinished st x [] = (x.unfinished, st, refl)
last_unfinished st x (y ∷ ys) = last_unfinished (unfinished_on x.unfinished st) y ys

unfinished_more : (x : Unfinished) (st : Stack) → whole (Some (due (unfinished_on x st))) ≡ Err []
unfinished_more (b.Point (t.Goto l)) st = refl
unfinished_more (b.Place (a.Let l xs)) st = refl
unfinished_more (b.Clause (c.Valof l)) st = refl
unfinished_more (b.Member (m.Function n fs)) st = refl
unfinished_more (b.Phrase p.Start) st = refl
unfinished_more (b.OpenExpression (o.Parens l)) st = refl
unfinished_more x st = refl

-- with something begun above the declarations the section is not whole
pub not_whole : (ds : List Decl) (xs : List Frame) → 0 < length xs → whole (Some (due (stack ds xs))) ≡ Err []
unfolding stack
not_whole ds [] h = absurd (omega arith)
not_whole ds (x ∷ xs) h = let l = last_unfinished (in_section (declarations_in ds)) x xs in ap (λ z. whole (Some (due z))) l.2 ∙ unfinished_more l.0 l.1

pub run_end : (x : State) → run [] x ≡ whole (stepped_by x 1 [] k.Semicolon)
unfolding run
run_end x = refl

pub one_further : (ts : List Token) (i : ℕ) (t : Token) (opens : List (List ℕ)) (x : State) → i < length ts → t ≡ get_or ts i t
    → AfterSymbols (symbols_of (take i ts) ++ symbol_of t ∷ []) opens x → AfterSymbols (symbols_of (take (i + 1) ts)) opens x
one_further ts i t opens x lt at b =
    let P : List Symbol → Type 0 = λ z. AfterSymbols z opens x in
    subst P (sym (ap symbols_of (take_more ts i t lt ∙ ap (λ z. take i ts ++ z ∷ []) (sym at)) ∙ map-append symbol_of (take i ts) (t ∷ []))) b

-- the brackets of all the symbols
pub plain_all : (ts : List Symbol) (opens : List (List ℕ)) (x : State) (b : AfterSymbols ts opens x) → plain ts [] ≡ Some b.plainly
plain_all ts opens x b = ap (λ z. plain z []) (sym (append-nil ts)) ∙ b.brackets [] ∙ ap (in_front b.plainly) (plain_end opens) ∙ ap Some (append-nil b.plainly)

pub reading_all : (ts : List Symbol) (opens : List (List ℕ)) (x : State) (b : AfterSymbols ts opens x) → reading b.plainly ≡ run [] x
reading_all ts opens x b = ap reading (sym (append-nil b.plainly)) ∙ reads b []

pub closed : (r : Result Unit Stop) (now : ParserState) (new : Frames) (xs ys zs : List (Bor (List ℕ))) (u : List Symbol) (t : Symbol) (x : State) (n k : ℕ) → closes t.kind ≡ true → zs ≡ ys → Closes (Some n) t (tag_of t.text) zs
    → k ≡ length ys - n → xs ≡ take k ys → Steps (stack_of new) (reached r now) (steps n t x) → AfterSymbols u (tags ys) x → Advances new xs (answered (reached (error_of r) now) (position_of t)) u t
closed r now new xs ys zs u t x n k holds same h left is go b =
    let P : List (Bor (List ℕ)) → Type 0 = λ z. Closes (Some n) t (tag_of t.text) z in
    let q : closed_by t (tag_of t.text) (tags ys) ≡ Some (record { closings = replicate n t; still = tags (take (length ys - n) ys) }) = subst P same h in
    step_answered r now new xs u t (tags ys) (tags (take (length ys - n) ys)) x n go (ap tags (is ∙ ap (λ (j : ℕ). take j ys) left)) (λ us. plain_close t us (tags ys) _ holds q) b

pub not_closed : (ys zs : List (Bor (List ℕ))) (u : List Symbol) (t : Symbol) (x : State) → closes t.kind ≡ true → zs ≡ ys → Closes None t (tag_of t.text) zs → AfterSymbols u (tags ys) x → Applies WrongSectionTag u t
not_closed ys zs u t x holds same h b =
    let P : List (Bor (List ℕ)) → Type 0 = λ z. Closes None t (tag_of t.text) z in
    wrong_tag u t (tags ys) x b (plain_close t [] (tags ys) None holds (subst P same h))

pub due_empty : (ds : List Decl) (xs : List Frame) → length xs ≡ 0 → due (stack ds xs) ≡ due (in_section (declarations_in ds))
unfolding stack
due_empty ds [] h = refl
due_empty ds (x ∷ xs) h = absurd (omega arith)

pub whole_empty : (ds : List Decl) (xs : List Frame) → length xs ≡ 0 → whole (Some (due (stack ds xs))) ≡ Ok (declarations_in ds)
unfolding stack
whole_empty ds [] h = refl
whole_empty ds (x ∷ xs) h = absurd (omega arith)

pub ends_wrong : (q : Refused PlacedFault) (r : Result Declarations (List Symbol)) (end : ℕ) → q ≡ Fault (record { at = end; kind = UnexpectedSymbol }) → r ≡ Err [] → AnswersAtEnd (Err q) r end
ends_wrong q r end is h = let P : Refused PlacedFault → Type 0 = λ z. AnswersAtEnd (Err z) r end in subst P (sym is) (h, refl, refl)

pub from_nothing : (ds : List Decl) (xs : List Frame) (ys : List (Bor (List ℕ))) → ds ≡ [] → xs ≡ [] → ys ≡ [] → AfterSymbols [] (tags ys) (due (stack ds xs))
from_nothing ds xs ys none nothing closed_all =
    let at : stack ds xs ≡ in_section no_declarations = ap (λ z. stack z xs) none ∙ ap (stack []) nothing ∙ stack_none [] in
    let P : Stack → Type 0 = λ z. AfterSymbols [] (tags ys) (due z) in
    let Q : List (List ℕ) → Type 0 = λ z. AfterSymbols [] z (due (in_section no_declarations)) in
    subst P (sym at) (subst Q (sym (ap tags closed_all ∙ tags_none)) from_start)

pub all_read : (ts : List Token) (i : ℕ) (opens : List (List ℕ)) (x : State) → i ≡ length ts → AfterSymbols (symbols_of (take i ts)) opens x → AfterSymbols (symbols_of ts) opens x
all_read ts i opens x is b = let P : List Token → Type 0 = λ z. AfterSymbols (symbols_of z) opens x in subst P (ap (λ (n : ℕ). take n ts) is ∙ take-length ts) b
