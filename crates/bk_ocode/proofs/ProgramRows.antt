-- Small programs, computed by the step of OCODE: a loop, a string, and a call whose left operand is an item below it.
use Rattle.bk_ocode.proofs.Terms.{◌≡◌, ℕ, ◌+◌, ◌==◌, pos, [], ◌∷◌, refl, Bool, true, false, Option, Some, None, List, if◌then◌else◌, digits, packed_word, End, Status, DivideByZero, Word, Variable, Link, Cell, Free, Held, write, Wrch, Writes, Writen, Placement, At, State, Next, Goes, Ends, Wild, global_place, Program, run, Local, Global, Static, Contents, Stmt, Number, Query, Load, Address, Text, Monadic, Dyadic, Assign, AssignAt, Jump, JumpIf, Label, GiveResult, TakeResult, Stack, Store, Entry, Save, CallFunction, CallRoutine, ReturnItem, Return, EndProcedure, DataLabel, DataAddress, Globals, codes}
use Rattle.bk_base.specs.Format.{parts}
use Rattle.bk_ocode.specs.Telling.{format_bytes}
use Rattle.bk_ocode.specs.declared.stmt.Dyadic.TheVariants.{Add, Divide, AtMost}

-- where things lie in these programs
abbrev places : Placement
places = record { label = λ l. 2000 + l; text = λ n. 3000; call = λ n. 4000 + n }

abbrev program_of : List Stmt → Program
program_of stmts = record {
  sections = record { stmts = stmts; places = places } ∷ [];
  callables = record {
    is_entry = λ n. n == 2001;
    routine = λ n. if n == 1020 then Some Wrch else if n == 1024 then Some Writes else if n == 1026 then Some Writen else None;
  };
  home = 3;
}

-- START is the entry with this label; the library's globals, the word behind label 2 and a string are set
abbrev cells : ℕ → Cell
cells =
    write (write (write (write (write (write (write (λ place. Free) (global_place 4) (Held Variable (Word 1020)))
    (global_place 6) (Held Variable (Word 1024))) (global_place 7) (Held Variable (Word 1026)))
    2002 (Held Variable (Word 2001))) 3000 (Held Variable (Word (packed_word 2 72 73 0))))
    5000 (Held Link (Word 4990))) 5001 (Held Link (Word 3))

abbrev started : ℕ → State
started entry = record { control = At (2000 + entry); cells = cells; frame = 5000; hand = None; input = []; output = []; written = [] }

abbrev ended : Next → Option (End × List ℕ)
ended (Goes s) = None
ended (Ends e s) = Some (e, s.output)
ended Wild = None

-- WRITES of a string
hello : ended (run (program_of
    (Entry 1 [] ∷ Save 2 ∷ Stack 4 ∷ Text (72 ∷ 73 ∷ []) ∷ Load (Global 6) ∷ CallRoutine 2 ∷ Return ∷ EndProcedure ∷ Globals [] ∷ [])) 9 (started 1))
    ≡ Some (Status (pos 0), 72 ∷ 73 ∷ [])
unfolding digits
hello = refl

-- FOR I = 1 TO 3 DO WRITEN(I)
counting : ended (run (program_of
    (Entry 1 [] ∷ Save 2 ∷ Number (pos 1) ∷ Number (pos 3) ∷ Store ∷ Jump 2 ∷ Label 3 ∷ Stack 6 ∷ Load (Local 2) ∷ Load (Global 7) ∷ CallRoutine 4
    ∷ Label 4 ∷ Load (Local 2) ∷ Number (pos 1) ∷ Dyadic Add ∷ Assign (Local 2) ∷ Label 2 ∷ Load (Local 2) ∷ Load (Local 3) ∷ Dyadic AtMost ∷ JumpIf true 3
    ∷ Label 5 ∷ Stack 2 ∷ Return ∷ EndProcedure ∷ Globals [] ∷ [])) 100 (started 1))
    ≡ Some (Status (pos 0), codes "123")
unfolding digits
counting = refl

-- F sets the variable whose address it gets; the left operand is pushed before
left_first : ended (run (program_of
    (Entry 1 [] ∷ Save 3 ∷ Number (pos 10) ∷ Load (Local 2) ∷ AssignAt ∷ Number (pos 1) ∷ GiveResult 3 ∷ Label 3 ∷ TakeResult 3 ∷ ReturnItem ∷ EndProcedure
    ∷ Entry 4 [] ∷ Save 2 ∷ Number (pos 5) ∷ Store ∷ Stack 5 ∷ Load (Local 2) ∷ Stack 8 ∷ Address (Local 2) ∷ Load (Static 2) ∷ CallFunction 6 ∷ Dyadic Add
    ∷ Load (Global 7) ∷ CallRoutine 3 ∷ Stack 5 ∷ Number (pos 32) ∷ Load (Global 4) ∷ CallRoutine 3 ∷ Stack 5 ∷ Load (Local 2) ∷ Load (Global 7) ∷ CallRoutine 3
    ∷ Stack 2 ∷ Return ∷ EndProcedure ∷ DataLabel 2 ∷ DataAddress 1 ∷ Globals [] ∷ [])) 100 (started 4))
    ≡ Some (Status (pos 0), codes "6 10")
unfolding digits
left_first = refl

-- a division by zero ends the run, with what was written before it
by_zero : ended (run (program_of
    (Entry 1 [] ∷ Save 2 ∷ Stack 4 ∷ Number (pos 65) ∷ Load (Global 4) ∷ CallRoutine 2 ∷ Number (pos 7) ∷ Number (pos 0) ∷ Dyadic Divide
    ∷ ReturnItem ∷ EndProcedure ∷ Globals [] ∷ [])) 20 (started 1))
    ≡ Some (DivideByZero, 65 ∷ [])
unfolding digits
by_zero = refl

-- a format: each directive, and `%` before another letter
formats : format_bytes (λ a. Some (60 + a)) (λ w. Some (w ∷ [])) (parts (codes "%N%%%C%i3%Q%S")) 3 ≡ Some (codes "63%@ 65%QB")
unfolding digits
formats = refl

-- reading an unset word by RV and then using it as a number is wild, and reading a link is wild
abbrev is_wild : Next → Bool
is_wild Wild = true
is_wild (Goes s) = false
is_wild (Ends e s) = false

link_read : is_wild (run (program_of (Entry 1 [] ∷ Save 2 ∷ Number (pos 5000) ∷ Monadic Contents ∷ ReturnItem ∷ EndProcedure ∷ Globals [] ∷ [])) 4 (started 1)) ≡ true
unfolding digits
link_read = refl

unset_added : is_wild (run (program_of (Entry 1 [] ∷ Save 2 ∷ Query ∷ Number (pos 1) ∷ Dyadic Add ∷ ReturnItem ∷ EndProcedure ∷ Globals [] ∷ [])) 5 (started 1)) ≡ true
unfolding digits
unset_added = refl
