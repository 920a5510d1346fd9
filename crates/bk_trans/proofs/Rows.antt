-- Worked rows: the statements of small sections.
use Rattle.bk_trans.proofs.Words.{◌≡◌, true, false, pos, negsuc, List, [], ◌∷◌, map, refl, Declarations, name, number, text, truth, query, parens, unary, binary, choice, apply, valof, table, none, more, assign, call, goto, label, case_of, default, when, test, while, for_loop, switch, result, simple, block, repeat, repeat_while, no_commands, also, constants, definitions, no_declarations, declare, no_items, item, routine, function, variables, no_definitions, define, no_starts, value, vector, Local, Stmt, Number, True, Query, Load, Text, Monadic, Dyadic, LoadByte, Assign, AssignAt, AssignByte, Jump, JumpIf, GiveResult, TakeResult, Stack, Store, Entry, Save, CallFunction, CallRoutine, ReturnItem, Return, EndProcedure, Switch, Finish, DataLabel, DataNumber, DataAddress, Globals, meanings, words}
use Rattle.bk_trans.proofs.Terms.{Operator as o, Prefix as q, Simple as w, Sort as s, Global, Static, Monadic as m, Dyadic as d, Address, Label, program_of, scheme}

abbrev pub translated : Declarations → List Stmt
translated ds = scheme (program_of ds (meanings ds) (words ds))

-- sections, each with its statements
abbrev rows : List (Declarations × List Stmt)
rows =
    -- the least program
    (
      declare (constants 1 s.Global (item 1 (83 ∷ 84 ∷ 65 ∷ 82 ∷ 84 ∷ []) (number 1 1) no_items)) (declare (definitions 1 (define (routine 1 (83 ∷ 84 ∷ 65 ∷ 82 ∷ 84 ∷ []) ([]) (simple 1 w.Finish)) no_definitions)) no_declarations),
      Entry 1 (83 ∷ 84 ∷ 65 ∷ 82 ∷ 84 ∷ []) ∷ Save 2 ∷ Finish ∷ Return ∷ EndProcedure ∷ Globals (record { number = 1; label = 1 } ∷ []) ∷ [],
    )
    -- the left operand comes first
    ∷ (
      declare (constants 1 s.Global (item 1 (83 ∷ 84 ∷ 65 ∷ 82 ∷ 84 ∷ []) (number 1 1) (item 1 (83 ∷ 84 ∷ 79 ∷ 80 ∷ []) (number 1 2) (item 1 (82 ∷ 68 ∷ 67 ∷ 72 ∷ []) (number 1 3) (item 1 (87 ∷ 82 ∷ 67 ∷ 72 ∷ []) (number 1 4) (item 1 (78 ∷ 69 ∷ 87 ∷ 76 ∷ 73 ∷ 78 ∷ 69 ∷ []) (number 1 5) (item 1 (87 ∷ 82 ∷ 73 ∷ 84 ∷ 69 ∷ 83 ∷ []) (number 1 6) (item 1 (87 ∷ 82 ∷ 73 ∷ 84 ∷ 69 ∷ 78 ∷ []) (number 1 7) (item 1 (87 ∷ 82 ∷ 73 ∷ 84 ∷ 69 ∷ 68 ∷ []) (number 1 8) (item 1 (71 ∷ 69 ∷ 84 ∷ 66 ∷ 89 ∷ 84 ∷ 69 ∷ []) (number 1 9) (item 1 (80 ∷ 85 ∷ 84 ∷ 66 ∷ 89 ∷ 84 ∷ 69 ∷ []) (number 1 10) no_items))))))))))) (declare (constants 1 s.Manifest (item 1 (69 ∷ 78 ∷ 68 ∷ 83 ∷ 84 ∷ 82 ∷ 69 ∷ 65 ∷ 77 ∷ 67 ∷ 72 ∷ []) (unary 1 q.Minus (number 1 1)) (item 1 (66 ∷ 89 ∷ 84 ∷ 69 ∷ 83 ∷ 80 ∷ 69 ∷ 82 ∷ 87 ∷ 79 ∷ 82 ∷ 68 ∷ []) (number 1 4) no_items))) (declare (definitions 1 (define (function 1 (70 ∷ []) ((record { at = 1; letters = (80 ∷ []) }) ∷ []) (valof 1 (block 1 no_declarations (also (assign 1 (more (unary 1 q.Contents (name 1 (80 ∷ []))) none) (more (number 1 10) none)) (also (result 1 (number 1 1)) no_commands))))) no_definitions)) (declare (definitions 1 (define (routine 1 (83 ∷ 84 ∷ 65 ∷ 82 ∷ 84 ∷ []) ([]) (block 1 (declare (definitions 1 (define (variables 1 ((record { at = 1; letters = (88 ∷ []) }) ∷ []) (value (number 1 5) no_starts)) no_definitions)) no_declarations) (also (call 1 (name 1 (87 ∷ 82 ∷ 73 ∷ 84 ∷ 69 ∷ 78 ∷ [])) (more (binary 1 o.Add 1 (name 1 (88 ∷ [])) (apply 1 1 (name 1 (70 ∷ [])) (more (unary 1 q.Address (name 1 (88 ∷ []))) none))) none)) (also (call 1 (name 1 (87 ∷ 82 ∷ 67 ∷ 72 ∷ [])) (more (number 1 32) none)) (also (call 1 (name 1 (87 ∷ 82 ∷ 73 ∷ 84 ∷ 69 ∷ 78 ∷ [])) (more (name 1 (88 ∷ [])) none)) no_commands))))) no_definitions)) no_declarations))),
      Entry 1 (70 ∷ []) ∷ Save 3 ∷ Number (pos 10) ∷ Load (Local 2) ∷ AssignAt ∷ Number (pos 1) ∷ GiveResult 3 ∷ Label 3 ∷ TakeResult 3 ∷ ReturnItem ∷ EndProcedure ∷ Entry 4 (83 ∷ 84 ∷ 65 ∷ 82 ∷ 84 ∷ []) ∷ Save 2 ∷ Number (pos 5) ∷ Store ∷ Stack 5 ∷ Load (Local 2) ∷ Stack 8 ∷ Address (Local 2) ∷ Load (Static 2) ∷ CallFunction 6 ∷ Dyadic d.Add ∷ Load (Global 7) ∷ CallRoutine 3 ∷ Stack 5 ∷ Number (pos 32) ∷ Load (Global 4) ∷ CallRoutine 3 ∷ Stack 5 ∷ Load (Local 2) ∷ Load (Global 7) ∷ CallRoutine 3 ∷ Stack 2 ∷ Return ∷ EndProcedure ∷ DataLabel 2 ∷ DataAddress 1 ∷ Globals (record { number = 1; label = 4 } ∷ []) ∷ [],
    )
    -- a FOR
    ∷ (
      declare (constants 1 s.Global (item 1 (83 ∷ 84 ∷ 65 ∷ 82 ∷ 84 ∷ []) (number 1 1) (item 1 (83 ∷ 84 ∷ 79 ∷ 80 ∷ []) (number 1 2) (item 1 (82 ∷ 68 ∷ 67 ∷ 72 ∷ []) (number 1 3) (item 1 (87 ∷ 82 ∷ 67 ∷ 72 ∷ []) (number 1 4) (item 1 (78 ∷ 69 ∷ 87 ∷ 76 ∷ 73 ∷ 78 ∷ 69 ∷ []) (number 1 5) (item 1 (87 ∷ 82 ∷ 73 ∷ 84 ∷ 69 ∷ 83 ∷ []) (number 1 6) (item 1 (87 ∷ 82 ∷ 73 ∷ 84 ∷ 69 ∷ 78 ∷ []) (number 1 7) (item 1 (87 ∷ 82 ∷ 73 ∷ 84 ∷ 69 ∷ 68 ∷ []) (number 1 8) (item 1 (71 ∷ 69 ∷ 84 ∷ 66 ∷ 89 ∷ 84 ∷ 69 ∷ []) (number 1 9) (item 1 (80 ∷ 85 ∷ 84 ∷ 66 ∷ 89 ∷ 84 ∷ 69 ∷ []) (number 1 10) no_items))))))))))) (declare (constants 1 s.Manifest (item 1 (69 ∷ 78 ∷ 68 ∷ 83 ∷ 84 ∷ 82 ∷ 69 ∷ 65 ∷ 77 ∷ 67 ∷ 72 ∷ []) (unary 1 q.Minus (number 1 1)) (item 1 (66 ∷ 89 ∷ 84 ∷ 69 ∷ 83 ∷ 80 ∷ 69 ∷ 82 ∷ 87 ∷ 79 ∷ 82 ∷ 68 ∷ []) (number 1 4) no_items))) (declare (definitions 1 (define (routine 1 (83 ∷ 84 ∷ 65 ∷ 82 ∷ 84 ∷ []) ([]) (for_loop 1 (record { at = 1; letters = (73 ∷ []) }) (number 1 1) (number 1 3) none (call 1 (name 1 (87 ∷ 82 ∷ 73 ∷ 84 ∷ 69 ∷ 78 ∷ [])) (more (name 1 (73 ∷ [])) none)))) no_definitions)) no_declarations)),
      Entry 1 (83 ∷ 84 ∷ 65 ∷ 82 ∷ 84 ∷ []) ∷ Save 2 ∷ Number (pos 1) ∷ Number (pos 3) ∷ Store ∷ Jump 2 ∷ Label 3 ∷ Stack 6 ∷ Load (Local 2) ∷ Load (Global 7) ∷ CallRoutine 4 ∷ Label 4 ∷ Load (Local 2) ∷ Number (pos 1) ∷ Dyadic d.Add ∷ Assign (Local 2) ∷ Label 2 ∷ Load (Local 2) ∷ Load (Local 3) ∷ Dyadic d.AtMost ∷ JumpIf true 3 ∷ Label 5 ∷ Stack 2 ∷ Return ∷ EndProcedure ∷ Globals (record { number = 1; label = 1 } ∷ []) ∷ [],
    )
    -- a condition
    ∷ (
      declare (definitions 1 (define (function 1 (70 ∷ []) ((record { at = 1; letters = (65 ∷ []) }) ∷ (record { at = 1; letters = (66 ∷ []) }) ∷ []) (choice 1 1 (binary 1 o.Both 1 (name 1 (65 ∷ [])) (name 1 (66 ∷ []))) (name 1 (65 ∷ [])) (name 1 (66 ∷ [])))) no_definitions)) no_declarations,
      Entry 1 (70 ∷ []) ∷ Save 4 ∷ Load (Local 2) ∷ JumpIf false 3 ∷ Load (Local 3) ∷ JumpIf false 3 ∷ Load (Local 2) ∷ GiveResult 4 ∷ Label 3 ∷ Load (Local 3) ∷ GiveResult 4 ∷ Label 4 ∷ TakeResult 4 ∷ ReturnItem ∷ EndProcedure ∷ DataLabel 2 ∷ DataAddress 1 ∷ Globals ([]) ∷ [],
    )
    -- GOTO into a loop
    ∷ (
      declare (constants 1 s.Global (item 1 (83 ∷ 84 ∷ 65 ∷ 82 ∷ 84 ∷ []) (number 1 1) (item 1 (83 ∷ 84 ∷ 79 ∷ 80 ∷ []) (number 1 2) (item 1 (82 ∷ 68 ∷ 67 ∷ 72 ∷ []) (number 1 3) (item 1 (87 ∷ 82 ∷ 67 ∷ 72 ∷ []) (number 1 4) (item 1 (78 ∷ 69 ∷ 87 ∷ 76 ∷ 73 ∷ 78 ∷ 69 ∷ []) (number 1 5) (item 1 (87 ∷ 82 ∷ 73 ∷ 84 ∷ 69 ∷ 83 ∷ []) (number 1 6) (item 1 (87 ∷ 82 ∷ 73 ∷ 84 ∷ 69 ∷ 78 ∷ []) (number 1 7) (item 1 (87 ∷ 82 ∷ 73 ∷ 84 ∷ 69 ∷ 68 ∷ []) (number 1 8) (item 1 (71 ∷ 69 ∷ 84 ∷ 66 ∷ 89 ∷ 84 ∷ 69 ∷ []) (number 1 9) (item 1 (80 ∷ 85 ∷ 84 ∷ 66 ∷ 89 ∷ 84 ∷ 69 ∷ []) (number 1 10) no_items))))))))))) (declare (constants 1 s.Manifest (item 1 (69 ∷ 78 ∷ 68 ∷ 83 ∷ 84 ∷ 82 ∷ 69 ∷ 65 ∷ 77 ∷ 67 ∷ 72 ∷ []) (unary 1 q.Minus (number 1 1)) (item 1 (66 ∷ 89 ∷ 84 ∷ 69 ∷ 83 ∷ 80 ∷ 69 ∷ 82 ∷ 87 ∷ 79 ∷ 82 ∷ 68 ∷ []) (number 1 4) no_items))) (declare (definitions 1 (define (routine 1 (83 ∷ 84 ∷ 65 ∷ 82 ∷ 84 ∷ []) ([]) (block 1 (declare (definitions 1 (define (variables 1 ((record { at = 1; letters = (73 ∷ []) }) ∷ []) (value (number 1 0) no_starts)) no_definitions)) no_declarations) (also (goto 1 (record { at = 1; letters = (77 ∷ []) })) (also (while 1 true (binary 1 o.Less 1 (name 1 (73 ∷ [])) (number 1 3)) (block 1 no_declarations (also (call 1 (name 1 (87 ∷ 82 ∷ 67 ∷ 72 ∷ [])) (more (number 1 65) none)) (also (label 1 (77 ∷ []) (call 1 (name 1 (87 ∷ 82 ∷ 67 ∷ 72 ∷ [])) (more (number 1 66) none))) (also (assign 1 (more (name 1 (73 ∷ [])) none) (more (binary 1 o.Add 1 (name 1 (73 ∷ [])) (number 1 1)) none)) no_commands))))) (also (call 1 (name 1 (87 ∷ 82 ∷ 67 ∷ 72 ∷ [])) (more (number 1 67) none)) no_commands))))) no_definitions)) no_declarations)),
      Entry 1 (83 ∷ 84 ∷ 65 ∷ 82 ∷ 84 ∷ []) ∷ Save 2 ∷ Number (pos 0) ∷ Store ∷ Stack 3 ∷ Jump 5 ∷ Stack 3 ∷ Jump 2 ∷ Label 3 ∷ Stack 5 ∷ Number (pos 65) ∷ Load (Global 4) ∷ CallRoutine 3 ∷ Label 5 ∷ Stack 5 ∷ Number (pos 66) ∷ Load (Global 4) ∷ CallRoutine 3 ∷ Load (Local 2) ∷ Number (pos 1) ∷ Dyadic d.Add ∷ Assign (Local 2) ∷ Label 2 ∷ Load (Local 2) ∷ Number (pos 3) ∷ Dyadic d.Less ∷ JumpIf true 3 ∷ Label 4 ∷ Stack 5 ∷ Number (pos 67) ∷ Load (Global 4) ∷ CallRoutine 3 ∷ Stack 2 ∷ Return ∷ EndProcedure ∷ Globals (record { number = 1; label = 1 } ∷ []) ∷ [],
    )
    -- GOTO out of a block with a VEC
    ∷ (
      declare (constants 1 s.Global (item 1 (83 ∷ 84 ∷ 65 ∷ 82 ∷ 84 ∷ []) (number 1 1) (item 1 (83 ∷ 84 ∷ 79 ∷ 80 ∷ []) (number 1 2) (item 1 (82 ∷ 68 ∷ 67 ∷ 72 ∷ []) (number 1 3) (item 1 (87 ∷ 82 ∷ 67 ∷ 72 ∷ []) (number 1 4) (item 1 (78 ∷ 69 ∷ 87 ∷ 76 ∷ 73 ∷ 78 ∷ 69 ∷ []) (number 1 5) (item 1 (87 ∷ 82 ∷ 73 ∷ 84 ∷ 69 ∷ 83 ∷ []) (number 1 6) (item 1 (87 ∷ 82 ∷ 73 ∷ 84 ∷ 69 ∷ 78 ∷ []) (number 1 7) (item 1 (87 ∷ 82 ∷ 73 ∷ 84 ∷ 69 ∷ 68 ∷ []) (number 1 8) (item 1 (71 ∷ 69 ∷ 84 ∷ 66 ∷ 89 ∷ 84 ∷ 69 ∷ []) (number 1 9) (item 1 (80 ∷ 85 ∷ 84 ∷ 66 ∷ 89 ∷ 84 ∷ 69 ∷ []) (number 1 10) no_items))))))))))) (declare (constants 1 s.Manifest (item 1 (69 ∷ 78 ∷ 68 ∷ 83 ∷ 84 ∷ 82 ∷ 69 ∷ 65 ∷ 77 ∷ 67 ∷ 72 ∷ []) (unary 1 q.Minus (number 1 1)) (item 1 (66 ∷ 89 ∷ 84 ∷ 69 ∷ 83 ∷ 80 ∷ 69 ∷ 82 ∷ 87 ∷ 79 ∷ 82 ∷ 68 ∷ []) (number 1 4) no_items))) (declare (definitions 1 (define (routine 1 (83 ∷ 84 ∷ 65 ∷ 82 ∷ 84 ∷ []) ([]) (block 1 (declare (definitions 1 (define (variables 1 ((record { at = 1; letters = (78 ∷ []) }) ∷ []) (value (number 1 0) no_starts)) no_definitions)) no_declarations) (also (label 1 (76 ∷ []) (block 1 (declare (definitions 1 (define (variables 1 ((record { at = 1; letters = (86 ∷ []) }) ∷ []) (vector 1 (number 1 10) no_starts)) no_definitions)) no_declarations) (also (assign 1 (more (binary 1 o.Subscript 1 (name 1 (86 ∷ [])) (number 1 0)) none) (more (name 1 (78 ∷ [])) none)) (also (assign 1 (more (name 1 (78 ∷ [])) none) (more (binary 1 o.Add 1 (name 1 (78 ∷ [])) (number 1 1)) none)) (also (when 1 true (binary 1 o.Less 1 (binary 1 o.Subscript 1 (name 1 (86 ∷ [])) (number 1 0)) (number 1 2)) (goto 1 (record { at = 1; letters = (76 ∷ []) }))) no_commands))))) (also (call 1 (name 1 (87 ∷ 82 ∷ 73 ∷ 84 ∷ 69 ∷ 78 ∷ [])) (more (name 1 (78 ∷ [])) none)) no_commands)))) no_definitions)) no_declarations)),
      Entry 1 (83 ∷ 84 ∷ 65 ∷ 82 ∷ 84 ∷ []) ∷ Save 2 ∷ Number (pos 0) ∷ Store ∷ Label 2 ∷ Stack 14 ∷ Address (Local 3) ∷ Store ∷ Load (Local 2) ∷ Load (Local 14) ∷ Number (pos 0) ∷ Dyadic d.Add ∷ AssignAt ∷ Load (Local 2) ∷ Number (pos 1) ∷ Dyadic d.Add ∷ Assign (Local 2) ∷ Load (Local 14) ∷ Number (pos 0) ∷ Dyadic d.Add ∷ Monadic m.Contents ∷ Number (pos 2) ∷ Dyadic d.Less ∷ JumpIf false 3 ∷ Stack 3 ∷ Jump 2 ∷ Stack 15 ∷ Label 3 ∷ Stack 3 ∷ Stack 5 ∷ Load (Local 2) ∷ Load (Global 7) ∷ CallRoutine 3 ∷ Stack 2 ∷ Return ∷ EndProcedure ∷ Globals (record { number = 1; label = 1 } ∷ []) ∷ [],
    )
    -- a switch
    ∷ (
      declare (constants 1 s.Global (item 1 (83 ∷ 84 ∷ 65 ∷ 82 ∷ 84 ∷ []) (number 1 1) (item 1 (83 ∷ 84 ∷ 79 ∷ 80 ∷ []) (number 1 2) (item 1 (82 ∷ 68 ∷ 67 ∷ 72 ∷ []) (number 1 3) (item 1 (87 ∷ 82 ∷ 67 ∷ 72 ∷ []) (number 1 4) (item 1 (78 ∷ 69 ∷ 87 ∷ 76 ∷ 73 ∷ 78 ∷ 69 ∷ []) (number 1 5) (item 1 (87 ∷ 82 ∷ 73 ∷ 84 ∷ 69 ∷ 83 ∷ []) (number 1 6) (item 1 (87 ∷ 82 ∷ 73 ∷ 84 ∷ 69 ∷ 78 ∷ []) (number 1 7) (item 1 (87 ∷ 82 ∷ 73 ∷ 84 ∷ 69 ∷ 68 ∷ []) (number 1 8) (item 1 (71 ∷ 69 ∷ 84 ∷ 66 ∷ 89 ∷ 84 ∷ 69 ∷ []) (number 1 9) (item 1 (80 ∷ 85 ∷ 84 ∷ 66 ∷ 89 ∷ 84 ∷ 69 ∷ []) (number 1 10) no_items))))))))))) (declare (constants 1 s.Manifest (item 1 (69 ∷ 78 ∷ 68 ∷ 83 ∷ 84 ∷ 82 ∷ 69 ∷ 65 ∷ 77 ∷ 67 ∷ 72 ∷ []) (unary 1 q.Minus (number 1 1)) (item 1 (66 ∷ 89 ∷ 84 ∷ 69 ∷ 83 ∷ 80 ∷ 69 ∷ 82 ∷ 87 ∷ 79 ∷ 82 ∷ 68 ∷ []) (number 1 4) no_items))) (declare (definitions 1 (define (routine 1 (83 ∷ 84 ∷ 65 ∷ 82 ∷ 84 ∷ []) ([]) (for_loop 1 (record { at = 1; letters = (73 ∷ []) }) (number 1 1) (number 1 4) none (block 1 no_declarations (also (switch 1 (name 1 (73 ∷ [])) (block 1 no_declarations (also (case_of 1 (number 1 1) (call 1 (name 1 (87 ∷ 82 ∷ 67 ∷ 72 ∷ [])) (more (number 1 65) none))) (also (case_of 1 (number 1 2) (call 1 (name 1 (87 ∷ 82 ∷ 67 ∷ 72 ∷ [])) (more (number 1 66) none))) (also (simple 1 w.EndCase) (also (case_of 1 (number 1 4) (call 1 (name 1 (87 ∷ 82 ∷ 67 ∷ 72 ∷ [])) (more (number 1 68) none))) no_commands)))))) (also (call 1 (name 1 (87 ∷ 82 ∷ 67 ∷ 72 ∷ [])) (more (number 1 46) none)) no_commands))))) no_definitions)) no_declarations)),
      Entry 1 (83 ∷ 84 ∷ 65 ∷ 82 ∷ 84 ∷ []) ∷ Save 2 ∷ Number (pos 1) ∷ Number (pos 4) ∷ Store ∷ Jump 2 ∷ Label 3 ∷ Load (Local 2) ∷ Switch 6 (record { value = (pos 1); label = 7 } ∷ record { value = (pos 2); label = 8 } ∷ record { value = (pos 4); label = 9 } ∷ []) ∷ Label 7 ∷ Stack 6 ∷ Number (pos 65) ∷ Load (Global 4) ∷ CallRoutine 4 ∷ Label 8 ∷ Stack 6 ∷ Number (pos 66) ∷ Load (Global 4) ∷ CallRoutine 4 ∷ Stack 4 ∷ Jump 6 ∷ Stack 4 ∷ Label 9 ∷ Stack 6 ∷ Number (pos 68) ∷ Load (Global 4) ∷ CallRoutine 4 ∷ Label 6 ∷ Stack 6 ∷ Number (pos 46) ∷ Load (Global 4) ∷ CallRoutine 4 ∷ Label 4 ∷ Load (Local 2) ∷ Number (pos 1) ∷ Dyadic d.Add ∷ Assign (Local 2) ∷ Label 2 ∷ Load (Local 2) ∷ Load (Local 3) ∷ Dyadic d.AtMost ∷ JumpIf true 3 ∷ Label 5 ∷ Stack 2 ∷ Return ∷ EndProcedure ∷ Globals (record { number = 1; label = 1 } ∷ []) ∷ [],
    )
    -- many forms
    ∷ (
      declare (constants 1 s.Global (item 1 (83 ∷ 84 ∷ 65 ∷ 82 ∷ 84 ∷ []) (number 1 1) (item 1 (83 ∷ 84 ∷ 79 ∷ 80 ∷ []) (number 1 2) (item 1 (82 ∷ 68 ∷ 67 ∷ 72 ∷ []) (number 1 3) (item 1 (87 ∷ 82 ∷ 67 ∷ 72 ∷ []) (number 1 4) (item 1 (78 ∷ 69 ∷ 87 ∷ 76 ∷ 73 ∷ 78 ∷ 69 ∷ []) (number 1 5) (item 1 (87 ∷ 82 ∷ 73 ∷ 84 ∷ 69 ∷ 83 ∷ []) (number 1 6) (item 1 (87 ∷ 82 ∷ 73 ∷ 84 ∷ 69 ∷ 78 ∷ []) (number 1 7) (item 1 (87 ∷ 82 ∷ 73 ∷ 84 ∷ 69 ∷ 68 ∷ []) (number 1 8) (item 1 (71 ∷ 69 ∷ 84 ∷ 66 ∷ 89 ∷ 84 ∷ 69 ∷ []) (number 1 9) (item 1 (80 ∷ 85 ∷ 84 ∷ 66 ∷ 89 ∷ 84 ∷ 69 ∷ []) (number 1 10) no_items))))))))))) (declare (constants 1 s.Manifest (item 1 (69 ∷ 78 ∷ 68 ∷ 83 ∷ 84 ∷ 82 ∷ 69 ∷ 65 ∷ 77 ∷ 67 ∷ 72 ∷ []) (unary 1 q.Minus (number 1 1)) (item 1 (66 ∷ 89 ∷ 84 ∷ 69 ∷ 83 ∷ 80 ∷ 69 ∷ 82 ∷ 87 ∷ 79 ∷ 82 ∷ 68 ∷ []) (number 1 4) no_items))) (declare (constants 1 s.Static (item 1 (83 ∷ []) (number 1 5) (item 1 (85 ∷ []) (unary 1 q.Minus (number 1 7)) no_items))) (declare (constants 1 s.Manifest (item 1 (75 ∷ []) (number 1 3) (item 1 (75 ∷ 75 ∷ []) (binary 1 o.Times 1 (name 1 (75 ∷ [])) (number 1 2)) no_items))) (declare (definitions 1 (define (function 1 (70 ∷ []) ((record { at = 1; letters = (65 ∷ []) }) ∷ []) (valof 1 (block 1 (declare (definitions 1 (define (function 1 (71 ∷ []) ((record { at = 1; letters = (88 ∷ []) }) ∷ []) (binary 1 o.Add 1 (name 1 (88 ∷ [])) (name 1 (83 ∷ [])))) (define (routine 1 (72 ∷ []) ([]) (assign 1 (more (name 1 (85 ∷ [])) none) (more (binary 1 o.Subscript 1 (parens 1 (table 1 (more (number 1 1) (more (name 1 (75 ∷ [])) (more (unary 1 q.Minus (name 1 (75 ∷ 75 ∷ []))) none))))) (number 1 2)) none))) no_definitions))) no_declarations) (also (call 1 (name 1 (72 ∷ [])) none) (also (result 1 (apply 1 1 (name 1 (71 ∷ [])) (more (choice 1 1 (name 1 (65 ∷ [])) (number 1 1) (number 1 2)) none))) no_commands))))) (define (routine 1 (80 ∷ []) ((record { at = 1; letters = (65 ∷ []) }) ∷ (record { at = 1; letters = (66 ∷ []) }) ∷ (record { at = 1; letters = (67 ∷ []) }) ∷ []) (block 1 (declare (definitions 1 (define (variables 1 ((record { at = 1; letters = (86 ∷ []) }) ∷ (record { at = 1; letters = (87 ∷ []) }) ∷ []) (vector 1 (name 1 (75 ∷ 75 ∷ [])) (value (query 1) no_starts))) (define (variables 1 ((record { at = 1; letters = (90 ∷ []) }) ∷ []) (value (apply 1 1 (name 1 (70 ∷ [])) (more (name 1 (65 ∷ [])) none)) no_starts)) no_definitions))) no_declarations) (also (assign 1 (more (binary 1 o.Subscript 1 (name 1 (65 ∷ [])) (name 1 (66 ∷ []))) (more (name 1 (83 ∷ [])) (more (binary 1 o.Byte 1 (name 1 (86 ∷ [])) (number 1 1)) (more (unary 1 q.Contents (name 1 (87 ∷ []))) (more (name 1 (87 ∷ 82 ∷ 67 ∷ 72 ∷ [])) none))))) (more (number 1 1) (more (number 1 2) (more (number 1 3) (more (number 1 4) (more (name 1 (80 ∷ [])) none)))))) (also (when 1 false (binary 1 o.Either 1 (binary 1 o.Equal 1 (name 1 (65 ∷ [])) (number 1 1)) (binary 1 o.Both 1 (unary 1 q.Not (parens 1 (binary 1 o.Both 1 (binary 1 o.Less 1 (name 1 (66 ∷ [])) (name 1 (67 ∷ []))) (binary 1 o.Less 1 (name 1 (67 ∷ [])) (number 1 2))))) (name 1 (67 ∷ [])))) (block 1 no_declarations (also (repeat_while 1 false (simple 1 w.Break) (truth 1 true)) no_commands))) (also (test 1 (binary 1 o.Either 1 (unary 1 q.Not (name 1 (65 ∷ []))) (name 1 (66 ∷ []))) (repeat 1 (simple 1 w.Loop)) (simple 1 w.Return)) (also (switch 1 (name 1 (65 ∷ [])) (block 1 no_declarations (also (default 1 (assign 1 (more (name 1 (65 ∷ [])) none) (more (unary 1 q.Minus (name 1 (66 ∷ []))) none))) (also (case_of 1 (number 1 1) (case_of 1 (unary 1 q.Minus (number 1 2)) (label 1 (76 ∷ []) (while 1 false (name 1 (66 ∷ [])) (block 1 no_declarations (also (assign 1 (more (name 1 (67 ∷ [])) none) (more (binary 1 o.ShiftRight 1 (name 1 (67 ∷ [])) (number 1 1)) none)) (also (when 1 true (name 1 (67 ∷ [])) (goto 1 (record { at = 1; letters = (76 ∷ []) }))) (also (simple 1 w.Loop) no_commands)))))))) (also (simple 1 w.EndCase) no_commands))))) (also (for_loop 1 (record { at = 1; letters = (73 ∷ []) }) (unary 1 q.Plus (apply 1 1 (name 1 (70 ∷ [])) (more (valof 1 (result 1 (text 1 (65 ∷ 66 ∷ [])))) none))) (number 1 10) (more (unary 1 q.Minus (number 1 2)) none) (block 1 (declare (definitions 1 (define (variables 1 ((record { at = 1; letters = (81 ∷ []) }) ∷ []) (value (unary 1 q.Address (binary 1 o.Subscript 1 (name 1 (86 ∷ [])) (number 1 1))) no_starts)) no_definitions)) no_declarations) (also (assign 1 (more (name 1 (67 ∷ [])) none) (more (unary 1 q.Address (parens 1 (name 1 (81 ∷ [])))) none)) (also (simple 1 w.Break) no_commands)))) (also (assign 1 (more (name 1 (66 ∷ [])) none) (more (valof 1 (repeat_while 1 true (block 1 (declare (definitions 1 (define (variables 1 ((record { at = 1; letters = (84 ∷ []) }) ∷ []) (value (number 1 1) no_starts)) no_definitions)) no_declarations) (also (label 1 (77 ∷ []) (assign 1 (more (name 1 (84 ∷ [])) none) (more (binary 1 o.Add 1 (name 1 (84 ∷ [])) (number 1 1)) none))) (also (when 1 true (binary 1 o.Same 1 (name 1 (84 ∷ [])) (number 1 5)) (goto 1 (record { at = 1; letters = (77 ∷ []) }))) (also (simple 1 w.Return) no_commands)))) (binary 1 o.Byte 1 (name 1 (65 ∷ [])) (number 1 3)))) none)) (also (simple 1 w.Finish) no_commands))))))))) no_definitions))) no_declarations)))),
      Entry 3 (70 ∷ []) ∷ Save 3 ∷ Stack 5 ∷ Load (Static 9) ∷ CallRoutine 3 ∷ Stack 5 ∷ Load (Local 2) ∷ JumpIf false 11 ∷ Number (pos 1) ∷ GiveResult 12 ∷ Label 11 ∷ Number (pos 2) ∷ GiveResult 12 ∷ Label 12 ∷ TakeResult 5 ∷ Load (Static 7) ∷ CallFunction 3 ∷ GiveResult 5 ∷ Stack 3 ∷ Label 5 ∷ TakeResult 3 ∷ ReturnItem ∷ EndProcedure ∷ Entry 6 (71 ∷ []) ∷ Save 3 ∷ Load (Local 2) ∷ Load (Static 1) ∷ Dyadic d.Add ∷ ReturnItem ∷ EndProcedure ∷ Entry 8 (72 ∷ []) ∷ Save 2 ∷ Address (Static 10) ∷ Number (pos 2) ∷ Dyadic d.Add ∷ Monadic m.Contents ∷ Assign (Static 2) ∷ Return ∷ EndProcedure ∷ Entry 13 (80 ∷ []) ∷ Save 5 ∷ Stack 12 ∷ Address (Local 5) ∷ Query ∷ Stack 16 ∷ Load (Local 2) ∷ Load (Static 4) ∷ CallFunction 14 ∷ Store ∷ Number (pos 1) ∷ Load (Local 2) ∷ Load (Local 3) ∷ Dyadic d.Add ∷ AssignAt ∷ Number (pos 2) ∷ Assign (Static 1) ∷ Number (pos 3) ∷ Load (Local 12) ∷ Number (pos 1) ∷ AssignByte ∷ Number (pos 4) ∷ Load (Local 13) ∷ AssignAt ∷ Load (Static 14) ∷ Assign (Global 4) ∷ Load (Local 2) ∷ Number (pos 1) ∷ Dyadic d.Equal ∷ JumpIf true 15 ∷ Load (Local 3) ∷ Load (Local 4) ∷ Dyadic d.Less ∷ JumpIf false 18 ∷ Load (Local 4) ∷ Number (pos 2) ∷ Dyadic d.Less ∷ JumpIf true 17 ∷ Label 18 ∷ Load (Local 4) ∷ JumpIf true 15 ∷ Label 17 ∷ Label 19 ∷ Stack 15 ∷ Jump 21 ∷ Stack 15 ∷ Label 20 ∷ True ∷ JumpIf false 19 ∷ Label 21 ∷ Label 15 ∷ Load (Local 2) ∷ JumpIf false 24 ∷ Load (Local 3) ∷ JumpIf false 22 ∷ Label 24 ∷ Label 25 ∷ Stack 15 ∷ Jump 25 ∷ Stack 15 ∷ Jump 25 ∷ Label 26 ∷ Jump 23 ∷ Label 22 ∷ Return ∷ Label 23 ∷ Load (Local 2) ∷ Switch 28 (record { value = (pos 1); label = 29 } ∷ record { value = (negsuc 1); label = 30 } ∷ []) ∷ Label 28 ∷ Load (Local 3) ∷ Monadic m.Negate ∷ Assign (Local 2) ∷ Label 29 ∷ Label 30 ∷ Label 31 ∷ Jump 32 ∷ Label 33 ∷ Load (Local 4) ∷ Number (pos 1) ∷ Dyadic d.ShiftRight ∷ Assign (Local 4) ∷ Load (Local 4) ∷ JumpIf false 35 ∷ Stack 15 ∷ Jump 31 ∷ Stack 15 ∷ Label 35 ∷ Stack 15 ∷ Jump 32 ∷ Stack 15 ∷ Label 32 ∷ Load (Local 3) ∷ JumpIf false 33 ∷ Label 34 ∷ Stack 15 ∷ Jump 27 ∷ Stack 15 ∷ Label 27 ∷ Stack 17 ∷ Text (65 ∷ 66 ∷ []) ∷ GiveResult 40 ∷ Label 40 ∷ TakeResult 17 ∷ Load (Static 4) ∷ CallFunction 15 ∷ Number (pos 10) ∷ Store ∷ Jump 36 ∷ Label 37 ∷ Load (Local 12) ∷ Number (pos 1) ∷ Dyadic d.Add ∷ Store ∷ Address (Local 17) ∷ Assign (Local 4) ∷ Stack 17 ∷ Jump 39 ∷ Stack 18 ∷ Stack 17 ∷ Label 38 ∷ Load (Local 15) ∷ Number (negsuc 1) ∷ Dyadic d.Add ∷ Assign (Local 15) ∷ Label 36 ∷ Load (Local 15) ∷ Load (Local 16) ∷ Dyadic d.AtLeast ∷ JumpIf true 37 ∷ Label 39 ∷ Stack 15 ∷ Label 42 ∷ Number (pos 1) ∷ Store ∷ Label 45 ∷ Load (Local 15) ∷ Number (pos 1) ∷ Dyadic d.Add ∷ Assign (Local 15) ∷ Load (Local 15) ∷ Number (pos 5) ∷ Dyadic d.Eqv ∷ JumpIf false 46 ∷ Stack 16 ∷ Jump 45 ∷ Stack 16 ∷ Label 46 ∷ Return ∷ Stack 15 ∷ Label 43 ∷ Load (Local 2) ∷ Number (pos 3) ∷ LoadByte ∷ JumpIf true 42 ∷ Label 44 ∷ Label 41 ∷ TakeResult 15 ∷ Assign (Local 3) ∷ Finish ∷ Stack 5 ∷ Return ∷ EndProcedure ∷ DataLabel 1 ∷ DataNumber (pos 5) ∷ DataLabel 2 ∷ DataNumber (negsuc 6) ∷ DataLabel 4 ∷ DataAddress 3 ∷ DataLabel 7 ∷ DataAddress 6 ∷ DataLabel 9 ∷ DataAddress 8 ∷ DataLabel 10 ∷ DataNumber (pos 1) ∷ DataNumber (pos 3) ∷ DataNumber (negsuc 5) ∷ DataLabel 14 ∷ DataAddress 13 ∷ Globals ([]) ∷ [],
    )
    ∷ []

rows_right : map (λ row. translated row.0) rows ≡ map (λ row. row.1) rows
rows_right = refl
