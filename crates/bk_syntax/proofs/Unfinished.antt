-- Symbols with which the machine goes on begin a section.
use Rattle.bk_syntax.proofs.Terms.{◌≡◌, ℕ, Bool, true, false, cond, List, [], ◌∷◌, ◌++◌, Option, Some, None, Err, refl, sym, ap, subst, ◌∙◌, Kind, Symbol, no_declarations, tag_of, Closing, same_tag, one_more, up_to_tag, without_tag, closed_by, in_front, plain, depth_of_declarations, nodes_of_declarations, Completes, State, due, in_section, opens, closes, stepped_by, step, run, reading, goes_to, leads, AfterSymbols, stepped, opens_kind, closes_kind, Tagged, Fits, Fit, FitUnder, After, step_fits, Always, possible, Kind as k}
use Rattle.bk_grammar.specs.SyntaxFault.{Begins, Any}
use Rattle.bk_syntax.proofs.Applies.{whole_err}
use Rattle.bk_syntax.proofs.Exact.{reads_the_grammar}
use Rattle.bk_syntax.proofs.Following.{nothing_in_front, both_in_front, leads_both, leads_runs, plain_end, plain_open, plain_other, plain_close, plain_all, reading_all, run_end, stopped}
use Rattle.bk_syntax.proofs.Onward.{Completion}
use Rattle.bk_syntax.proofs.Attained.{state_completion}

-- the machine stops at none of these symbols
abbrev Passes : List Symbol → State → Type 0
Passes ps x = (t : Symbol) (v : List Symbol) → run ps x ≡ Err (t ∷ v) → ⊥

-- plain symbols that lead from a state with these sections open to one with those
record Walk (ps : List Symbol) (os : List (List ℕ)) (x : State) (left : List (List ℕ)) : Type 0 where
  next : State
  fits : Fits next left
  comes : leads ps x ≡ Some next

-- ---- one plain symbol

passed : (t : Symbol) (ps : List Symbol) (x : State) (r : Option State) → step x t ≡ r → Passes (t ∷ ps) x → (y : State) × (r ≡ Some y)
passed t ps x None is h = absurd (h t ps (stopped x t ps is))
passed t ps x (Some y) is h = (y, refl)

-- a symbol that neither opens nor closes a section
plain_fits : (t : Kind) (r : Option State) (os : List (List ℕ)) → opens t ≡ false → closes t ≡ false → After t r os → Fit r os
plain_fits k.SectionOpen r os h j f = absurd cc
plain_fits k.SectionClose r os h j f = absurd cc
plain_fits _ r os h j f = f

walk_one : (t : Symbol) (ps : List Symbol) (os left : List (List ℕ)) (x : State) → ((y : State) → step x t ≡ Some y → Fits y left) → Passes (t ∷ ps) x → Walk (t ∷ []) os x left
walk_one t ps os left x f h = let p = passed t ps x (step x t) refl h in record { next = p.0; fits = f p.0 p.1; comes = ap (goes_to (leads [])) p.1 }

-- ---- closings

-- so many closings leave these sections open
abbrev Pops : Symbol → List Symbol → List (List ℕ) → List (List ℕ) → Type 0
Pops t [] os left = os ≡ left
Pops t (q ∷ qs) [] left = q ≡ t
Pops t (q ∷ qs) (tag ∷ os) left = (q ≡ t) × Pops t qs os left

abbrev PopsAll : Symbol → List (List ℕ) → Option Closing → Type 0
PopsAll t os None = Unit {0}
PopsAll t os (Some c) = Pops t c.closings os c.still

one_more_pops : (t : Symbol) (tag : List ℕ) (os : List (List ℕ)) (r : Option Closing) → PopsAll t os r → PopsAll t (tag ∷ os) (one_more t r)
one_more_pops t tag os None h = tt
one_more_pops t tag os (Some c) h = (refl, h)

tag_pops : (b : Bool) (t : Symbol) (tag : List ℕ) (os : List (List ℕ)) (r : Option Closing) → PopsAll t os r → PopsAll t (tag ∷ os) (cond b (Some (record { closings = t ∷ []; still = os })) (one_more t r))
tag_pops true t tag os r h = (refl, refl)
tag_pops false t tag os r h = one_more_pops t tag os r h

up_to_pops : (t : Symbol) (tag : List ℕ) (os : List (List ℕ)) → PopsAll t os (up_to_tag t tag os)
up_to_pops t tag [] = tt
up_to_pops t tag (x ∷ os) = tag_pops (same_tag tag x) t x os (up_to_tag t tag os) (up_to_pops t tag os)

without_pops : (t : Symbol) (os : List (List ℕ)) → PopsAll t os (without_tag t os)
without_pops t [] = refl
without_pops t ([] ∷ os) = (refl, refl)
without_pops t ((x ∷ xs) ∷ os) = tt

closed_pops : (t : Symbol) (tag : List ℕ) (os : List (List ℕ)) → PopsAll t os (closed_by t tag os)
closed_pops t [] os = without_pops t os
closed_pops t (x ∷ xs) os = up_to_pops t (x ∷ xs) os

close_fits : (x : State) (t : Symbol) (os : List (List ℕ)) → closes t.kind ≡ true → Fits x os → (y : State) → step x t ≡ Some y → FitUnder (Some y) os
close_fits x t os is f y s =
    let P : Kind → Type 0 = λ z. After z (step x t) os in
    let Q : Option State → Type 0 = λ z. FitUnder z os in
    subst Q s (subst P (closes_kind t.kind is) (step_fits x t os f))

walk_closings : (t : Symbol) (qs ps : List Symbol) (os left : List (List ℕ)) (x : State) → closes t.kind ≡ true → Pops t qs os left → Fits x os → Passes (qs ++ ps) x → Walk qs os x left
walk_closings t [] ps os left x is h f p = record { next = x; fits = subst (Fits x) h f; comes = refl }
walk_closings t (q ∷ qs) ps [] left x is h f p =
    let P : Symbol → Type 0 = λ z. closes z.kind ≡ true in
    let s = passed q (qs ++ ps) x (step x q) refl p in
    absurd (close_fits x q [] (subst P (sym h) is) f s.0 s.1)
walk_closings t (q ∷ qs) ps (tag ∷ os) left x is h f p =
    let P : Symbol → Type 0 = λ z. closes z.kind ≡ true in
    let s = passed q (qs ++ ps) x (step x q) refl p in
    let w = walk_closings t qs ps os left s.0 is h.1 (close_fits x q (tag ∷ os) (subst P (sym h.0) is) f s.0 s.1).1 (λ u v e. p u v (stepped x s.0 q (qs ++ ps) s.1 ∙ e)) in
    record { next = w.next; fits = w.fits; comes = ap (goes_to (leads qs)) s.1 ∙ w.comes }

-- ---- one symbol, and the others

-- what one symbol stands for, and what is left of the others
record Passed (t : Symbol) (ts ps : List Symbol) (os : List (List ℕ)) (x : State) : Type 0 where
  closings : List Symbol
  left : List (List ℕ)
  brackets : (us : List Symbol) → plain (t ∷ us) os ≡ in_front closings (plain us left)
  walk : Walk closings os x left
  rest : List Symbol
  others : plain ts left ≡ Some rest
  parts : ps ≡ closings ++ rest
  passes : Passes rest walk.next

pub in_front_some : (qs : List Symbol) (r : Option (List Symbol)) (ps : List Symbol) → in_front qs r ≡ Some ps → (rest : List Symbol) × (r ≡ Some rest) × (ps ≡ qs ++ rest)
in_front_some qs None ps h = absurd cc
in_front_some qs (Some us) ps h = (us, refl, cc)

-- one symbol that stands for these
pass : (t : Symbol) (ts ps : List Symbol) (os left : List (List ℕ)) (x : State) (qs : List Symbol) → ((us : List Symbol) → plain (t ∷ us) os ≡ in_front qs (plain us left)) → plain (t ∷ ts) os ≡ Some ps → Passes ps x
    → ((rest : List Symbol) → Passes (qs ++ rest) x → Walk qs os x left) → Passed t ts ps os x
pass t ts ps os left x qs b h p w =
    let r = in_front_some qs (plain ts left) ps (sym (b ts) ∙ h) in
    let P : List Symbol → Type 0 = λ z. Passes z x in
    let q = subst P r.2 p in
    let walk = w r.0 q in
    record { closings = qs; left = left; brackets = b; walk = walk; rest = r.0; others = r.1; parts = r.2; passes = λ u v e. q u v (leads_runs qs x walk.next r.0 walk.comes ∙ e) }

tag_tagged : (x : List ℕ) → Tagged (tag_of x)
tag_tagged [] = ([], refl)
tag_tagged (a ∷ []) = ([], refl)
tag_tagged (a ∷ (b ∷ x)) = (x, refl)

open_fits : (x : State) (t : Symbol) (os : List (List ℕ)) → opens t.kind ≡ true → Fits x os → (y : State) → step x t ≡ Some y → Fits y (tag_of t.text ∷ os)
open_fits x t os is f y s =
    let P : Kind → Type 0 = λ z. After z (step x t) os in
    let Q : Option State → Type 0 = λ z. Fit z (tag_of t.text ∷ os) in
    let g = subst P (opens_kind t.kind is) (step_fits x t os f) in
    subst Q s (g (tag_of t.text) (tag_tagged t.text))

other_fits : (x : State) (t : Symbol) (os : List (List ℕ)) → opens t.kind ≡ false → closes t.kind ≡ false → Fits x os → (y : State) → step x t ≡ Some y → Fits y os
other_fits x t os o c f y s =
    let Q : Option State → Type 0 = λ z. Fit z os in
    subst Q s (plain_fits t.kind (step x t) os o c (step_fits x t os f))

pass_close : (t : Symbol) (ts ps : List Symbol) (os : List (List ℕ)) (x : State) (r : Option Closing) → closes t.kind ≡ true → Fits x os → closed_by t (tag_of t.text) os ≡ r → plain (t ∷ ts) os ≡ Some ps → Passes ps x → Passed t ts ps os x
pass_close t ts ps os x None is f e h p = absurd (let w = plain_close t ts os None is e in cc)
pass_close t ts ps os x (Some c) is f e h p =
    let P : Option Closing → Type 0 = λ z. PopsAll t os z in
    let pops = subst P e (closed_pops t (tag_of t.text) os) in
    pass t ts ps os c.still x c.closings (λ us. plain_close t us os (Some c) is e) h p (λ rest q. walk_closings t c.closings rest os c.still x is pops f q)

pass_open : (b : Bool) (t : Symbol) (ts ps : List Symbol) (os : List (List ℕ)) (x : State) → opens t.kind ≡ b → closes t.kind ≡ false → Fits x os → plain (t ∷ ts) os ≡ Some ps → Passes ps x → Passed t ts ps os x
pass_open true t ts ps os x o c f h p = pass t ts ps os (tag_of t.text ∷ os) x (t ∷ []) (λ us. plain_open t us os o) h p (λ rest q. walk_one t rest os (tag_of t.text ∷ os) x (open_fits x t os o f) q)
pass_open false t ts ps os x o c f h p = pass t ts ps os os x (t ∷ []) (λ us. plain_other t us os o c) h p (λ rest q. walk_one t rest os os x (other_fits x t os o c f) q)

pass_symbol : (b : Bool) (t : Symbol) (ts ps : List Symbol) (os : List (List ℕ)) (x : State) → closes t.kind ≡ b → Fits x os → plain (t ∷ ts) os ≡ Some ps → Passes ps x → Passed t ts ps os x
pass_symbol true t ts ps os x c f h p = pass_close t ts ps os x (closed_by t (tag_of t.text) os) c f refl h p
pass_symbol false t ts ps os x c f h p = pass_open (opens t.kind) t ts ps os x refl c f h p

-- these symbols, plainly these, lead to a state that fits the sections that are open there
record Walked (ts ps : List Symbol) (os : List (List ℕ)) (x : State) : Type 0 where
  last : State
  left : List (List ℕ)
  fits : Fits last left
  comes : leads ps x ≡ Some last
  brackets : (us : List Symbol) → plain (ts ++ us) os ≡ in_front ps (plain us left)

walked : (ts ps : List Symbol) (os : List (List ℕ)) (x : State) → Fits x os → plain ts os ≡ Some ps → Passes ps x → Walked ts ps os x
walked [] ps os x f h p =
    let none : ps ≡ [] = let q = plain_end os in cc in
    record { last = x; left = os; fits = f; comes = ap (λ z. leads z x) none; brackets = λ us. nothing_in_front (plain us os) ∙ ap (λ z. in_front z (plain us os)) (sym none) }
walked (t ∷ ts) ps os x f h p =
    let s = pass_symbol (closes t.kind) t ts ps os x refl f h p in
    let r = walked ts s.rest s.left s.walk.next s.walk.fits s.others s.passes in
    record {
      last = r.last;
      left = r.left;
      fits = r.fits;
      comes = ap (λ z. leads z x) s.parts ∙ leads_both s.closings s.rest x s.walk.next s.walk.comes ∙ r.comes;
      brackets = λ us. s.brackets (ts ++ us) ∙ ap (in_front s.closings) (r.brackets us) ∙ both_in_front s.closings s.rest (plain us r.left) ∙ ap (λ z. in_front z (plain us r.left)) (sym s.parts);
    }

-- a way on from there makes a section of them
begins_with : (P : ℕ → ℕ → Type 0) (ts ps : List Symbol) → plain ts [] ≡ Some ps → Passes ps (due (in_section no_declarations))
    → ((os : List (List ℕ)) (x : State) → leads ps (due (in_section no_declarations)) ≡ Some x → Fits x os → Completion P os x) → Begins (λ ds. P (depth_of_declarations ds) (nodes_of_declarations ds)) ts
begins_with P ts ps h p f =
    let start : State = due (in_section no_declarations) in
    let w = walked ts ps [] start refl h p in
    let e = f w.left w.last w.comes w.fits in
    let section = (reads_the_grammar e.tree (ps ++ e.symbols)).1 (leads_runs ps start w.last e.symbols w.comes ∙ e.runs) in
    (e.symbols, e.tree, record { plainly = ps ++ e.symbols; brackets = w.brackets e.symbols ∙ ap (in_front ps) e.brackets; section = section }, e.has)

-- behind all the symbols nothing is left at which the machine could stop
none_left : (x : State) → Passes [] x
none_left x t v e = let w = whole_err (stepped_by x 1 [] k.Semicolon) (t ∷ v) (sym (run_end x) ∙ e) in absurd cc

pub goes_on_begins : (ts ps : List Symbol) → plain ts [] ≡ Some ps → ((t : Symbol) (v : List Symbol) → reading ps ≡ Err (t ∷ v) → ⊥) → Begins Any ts
goes_on_begins ts ps h p = begins_with Always ts ps h p (λ os x c f. state_completion Always os x f (possible x os f))

-- a way on from the state behind what was read so far
behind_with : (P : ℕ → ℕ → Type 0) (ts : List Symbol) (opens : List (List ℕ)) (x : State) → AfterSymbols ts opens x → ((os : List (List ℕ)) → Fits x os → Completion P os x) → Begins (λ ds. P (depth_of_declarations ds) (nodes_of_declarations ds)) ts
behind_with P ts opens x b g =
    begins_with P ts b.plainly (plain_all ts opens x b) (λ t v e. none_left x t v (sym (reading_all ts opens x b) ∙ e))
    (λ os y c f.
    let is : y ≡ x = let p = c in let q = b.comes in cc in
    let Q : State → Type 0 = λ z. Completion P os z in
    let F : State → Type 0 = λ z. Fits z os in
    subst Q (sym is) (g os (subst F is f)))

pub behind_begins : (ts : List Symbol) (opens : List (List ℕ)) (x : State) → AfterSymbols ts opens x → Begins Any ts
behind_begins ts opens x b = behind_with Always ts opens x b (λ os f. state_completion Always os x f (possible x os f))

-- what can be completed behind the symbols begins with them
pub completes_begins_with : (P : ℕ → ℕ → Type 0) (ts : List Symbol) (opens : List (List ℕ)) (x : State) → AfterSymbols ts opens x → Completes P x → Begins (λ ds. P (depth_of_declarations ds) (nodes_of_declarations ds)) ts
completes_begins_with P ts opens x b h = behind_with P ts opens x b (λ os f. state_completion P os x f h)
