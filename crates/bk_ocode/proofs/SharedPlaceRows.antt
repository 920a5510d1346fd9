-- Small programs in which several rests have one number, computed by the step of OCODE, and assignments to labels without a word.
use Rattle.bk_ocode.proofs.Terms.{◌≡◌, ℕ, ◌+◌, ◌==◌, pos, [], ◌∷◌, refl, Bool, true, false, Option, Some, None, List, if◌then◌else◌, End, Status, Word, Variable, Temporary, Link, Cell, Free, Held, write, Wrch, At, State, Next, Goes, Ends, Wild, global_place, Program, run, Global, Static, Stmt, Number, Load, Assign, Label, Jump, JumpIf, Stack, Entry, Save, CallRoutine, Return, EndProcedure, DataLabel, Globals}

abbrev program_of : (ℕ → ℕ) → (ℕ → ℕ) → List Stmt → Program
program_of label call stmts = record {
  sections = record { stmts = stmts; places = record { label = label; text = λ n. 3000; call = call } } ∷ [];
  callables = record { is_entry = λ n. n == 2001; routine = λ n. if n == 1020 then Some Wrch else None };
  home = 3;
}

-- at the entry 2001, with the links of START at 5000
abbrev started : Cell → State
started word = record {
  control = At 2001;
  cells = write (write (write (write (λ place. Free) (global_place 4) (Held Variable (Word 1020))) 2003 word) 5000 (Held Link (Word 4990))) 5001 (Held Link (Word 3));
  frame = 5000;
  hand = None;
  input = [];
  output = [];
  written = [];
}

abbrev ended : Next → Option (End × List ℕ)
ended (Goes s) = None
ended (Ends e s) = Some (e, s.output)
ended Wild = None

-- the entry is at 2001, and all other labels are at 2002
abbrev one_place : ℕ → ℕ
one_place l = if l == 1 then 2001 else 2002

-- Two LABs one behind the other, as `IF A DO IF B DO C` has them: the run comes to its end.
two_labels : ended (run (program_of one_place (λ n. 4000 + n)
    (Entry 1 [] ∷ Save 2 ∷ Label 2 ∷ Label 3 ∷ Return ∷ EndProcedure ∷ Globals [] ∷ [])) 6 (started Free))
    ≡ Some (Status (pos 0), [])
two_labels = refl

-- A LAB right behind a call, as `IF A DO WRCH(65)` has it.
label_behind_call : ended (run (program_of one_place (λ n. 2002)
    (Entry 1 [] ∷ Save 2 ∷ Stack 4 ∷ Number (pos 65) ∷ Load (Global 4) ∷ CallRoutine 2 ∷ Label 2 ∷ Return ∷ EndProcedure ∷ Globals [] ∷ [])) 10 (started Free))
    ≡ Some (Status (pos 0), 65 ∷ [])
label_behind_call = refl

-- Two LABs to which jumps lead go on each behind its own.
jumps_to_both : ended (run (program_of one_place (λ n. 4000 + n)
    (Entry 1 [] ∷ Save 2 ∷ Jump 3 ∷ Label 2 ∷ Label 3 ∷ Number (pos 1) ∷ JumpIf true 4 ∷ Jump 2 ∷ Label 4 ∷ Return ∷ EndProcedure ∷ Globals [] ∷ [])) 20 (started Free))
    ≡ Some (Status (pos 0), [])
jumps_to_both = refl

-- An assignment to a label of data writes the word of its items. Where no item stands behind its DATALAB the label has the number
-- of what comes next: a word that is not in use, a temporary, or the link of START's frame. Then it is wild.
abbrev is_wild : Next → Bool
is_wild Wild = true
is_wild (Goes s) = false
is_wild (Ends e s) = false

abbrev assigned : ℕ → Cell → Next
assigned place word =
    run (program_of (λ l. if l == 1 then 2001 else place) (λ n. 4000 + n)
    (Entry 1 [] ∷ Save 2 ∷ Number (pos 7) ∷ Assign (Static 2) ∷ Return ∷ EndProcedure ∷ DataLabel 2 ∷ Globals [] ∷ [])) 4 (started word)

abbrev content_at : ℕ → Next → Option Cell
content_at place (Goes s) = Some (s.cells place)
content_at place (Ends e s) = Some (s.cells place)
content_at place Wild = None

item_assigned : content_at 2003 (assigned 2003 (Held Variable (Word 5))) ≡ Some (Held Variable (Word 7))
item_assigned = refl

no_word_assigned : is_wild (assigned 2003 Free) ≡ true
no_word_assigned = refl

temporary_assigned : is_wild (assigned 2003 (Held Temporary (Word 5))) ≡ true
temporary_assigned = refl

link_assigned : is_wild (assigned 5000 Free) ≡ true
link_assigned = refl
