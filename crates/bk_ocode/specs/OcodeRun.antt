-- Rests, stretches and runs of OCODE.
use Rattle.std.specs.Prelude.{◌≡◌, ℕ, zero, suc, ◌+◌, ◌==◌, Bool, true, false, List, [], ◌∷◌, length, Option, Some, None, pos, not, ◌&&◌, ⊤, if◌then◌else◌}
use Rattle.std.specs.Option.{option_map_or}
use Rattle.bk_base.specs.declared.run_end.End.{End}
use Rattle.bk_base.specs.declared.run_end.End.TheVariants.{Status}
use Rattle.bk_ocode.specs.Depth.{next_depth}
use Rattle.bk_ocode.specs.Cells.{Content, Unset, Temporary, Held, write}
use Rattle.bk_ocode.specs.OcodeState.{Placement, Placed, Callables, Control, Inside, Following, At, State, Next, Goes, Ends, Wild}
use Rattle.bk_ocode.specs.OcodeStep.{is_label, step}
use Rattle.bk_ocode.specs.declared.stmt.Stmt.{Stmt}
use Rattle.bk_ocode.specs.declared.stmt.Stmt.TheVariants.{Entry, Label, CallFunction, CallRoutine}

-- A rest of a section: its number, the depth there, whether the result in hand becomes an item, and what follows it.
-- The rests are the entries, the places after a LAB, and those after a call.
pub record Rest : Type 0 where
  pub place : ℕ
  pub depth : ℕ
  pub takes : Bool
  pub keeps : Bool
  pub following : List Stmt

-- the rest at a statement that has depth k before it
abbrev pub rest_of : Placement → ℕ → Stmt → List Stmt → Option Rest
rest_of places k (Entry l name) rest =
    Some (record { place = places.label l; depth = 2; takes = false; keeps = false; following = Entry l name ∷ rest })
rest_of places k (Label l) rest = Some (record { place = places.label l; depth = k; takes = false; keeps = true; following = rest })
rest_of places k (CallFunction n) rest =
    Some (record { place = places.call (length rest); depth = n; takes = true; keeps = false; following = rest })
rest_of places k (CallRoutine n) rest =
    Some (record { place = places.call (length rest); depth = n; takes = false; keeps = false; following = rest })
rest_of places k s rest = None

abbrev pub or_rest : Option Rest → List Rest → List Rest
or_rest None more = more
or_rest (Some r) more = r ∷ more

-- all rests of statements, with the depth before the first
abbrev pub rests : Placement → ℕ → List Stmt → List Rest
rests places k [] = []
rests places k (s ∷ rest) = or_rest (rest_of places k s rest) (rests places (next_depth k s) rest)

abbrev pub rests_of : Placed → List Rest
rests_of own = rests own.places 0 own.stmts

-- On from a rest, which is no step. After a call of a function the result in hand becomes the item on top, unset if none
-- came; after a LAB it stays in hand.
abbrev pub in_hand : Option Content → Content
in_hand None = Unset
in_hand (Some content) = content

abbrev pub kept : Bool → Option Content → Option Content
kept true hand = hand
kept false hand = None

abbrev pub resumed_by : Bool → Placed → Rest → State → State
resumed_by true own r s = record s {
  control = Inside own (r.depth + 1) r.following;
  cells = write s.cells (s.frame + r.depth) (Held Temporary (in_hand s.hand));
  hand = None;
  written = (s.frame + r.depth) ∷ s.written;
}
resumed_by false own r s = record s { control = Inside own r.depth r.following; hand = kept r.keeps s.hand }

abbrev pub resumed : Placed → Rest → State → State
resumed own r s = resumed_by r.takes own r s

-- at a rest: after a LAB, or at a number that is none of a routine
abbrev pub IsAtRest : Callables → Control → Type 0
IsAtRest callables (Inside own depth rest) = ⊥
IsAtRest callables (Following own label) = ⊤
IsAtRest callables (At n) = callables.routine n ≡ None

-- A stretch: n steps to the next rest, a call of an entry, or a return taken. A routine of the library is a step on the way.
module _ (callables : Callables) where
  pub data Stretch : ℕ → State → State → Type 0 where
    last : (s t : State) → step callables s ≡ Goes t → IsAtRest callables t.control → Stretch 1 s t
    more : (n : ℕ) (s t u : State) → step callables s ≡ Goes t → Stretch n t u → Stretch (suc n) s u

  -- a stretch that ends the run
  pub data Final : ℕ → State → End → State → Type 0 where
    end : (s t : State) (e : End) → step callables s ≡ Ends e t → Final 1 s e t
    before : (n : ℕ) (s t u : State) (e : End) → step callables s ≡ Goes t → Final n t e u → Final (suc n) s e u

-- A program: its sections in their placements, what can be called, and the number to which START returns.
pub record Program : Type 0 where
  pub sections : List Placed
  pub callables : Callables
  pub home : ℕ

-- the entry or the place after a call that has a number
abbrev pub find_rest : List Rest → ℕ → Option Rest
find_rest [] n = None
find_rest (r ∷ rest) n = if not r.keeps && r.place == n then Some r else find_rest rest n

-- the rest after the LAB of a label, with the depth before the first statement
abbrev pub label_rest : Placement → ℕ → List Stmt → ℕ → Option Rest
label_rest places k [] l = None
label_rest places k (s ∷ rest) l = if is_label l s then rest_of places k s rest else label_rest places (next_depth k s) rest l

-- a state at a rest of one of the sections goes on from there
abbrev pub resumed_in : List Placed → ℕ → State → Option State
resumed_in [] n s = None
resumed_in (own ∷ others) n s = option_map_or (λ r. Some (resumed own r s)) (find_rest (rests_of own) n) (resumed_in others n s)

-- A step of a program. At START's link the run ends with 0.
abbrev pub at_number : Program → ℕ → State → Next
at_number program n s =
    if n == program.home then Ends (Status (pos 0)) s
    else option_map_or (λ _. step program.callables s)
    (program.callables.routine n)
    (option_map_or (λ t. step program.callables t) (resumed_in program.sections n s) Wild)

abbrev pub program_step_from : Program → State → Control → Next
program_step_from program s (Inside own k rest) = step program.callables s
program_step_from program s (Following own l) =
    option_map_or (λ r. step program.callables (resumed own r s)) (label_rest own.places 0 own.stmts l) Wild
program_step_from program s (At n) = at_number program n s

abbrev pub program_step : Program → State → Next
program_step program s = program_step_from program s s.control

-- n steps of a program, or fewer where it ends or is wild
abbrev pub then_run : (State → Next) → Next → Next
then_run go (Goes s) = go s
then_run go (Ends e s) = Ends e s
then_run go Wild = Wild

abbrev pub run : Program → ℕ → State → Next
run program zero s = Goes s
run program (suc n) s = then_run (run program n) (program_step program s)
