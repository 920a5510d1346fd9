-- Worked rows: the whole list of faults of small sections with several, as a program apart from this kit gives it.
use Rattle.bk_scope.proofs.Terms.{true, List, [], ◌∷◌, refl, Operator as o, Prefix as q, Simple as w, Sort as sort, name, number, parens, unary, binary, choice, apply, valof, table, none, more, empty, assign, call, goto, label, case_of, default, when, test, for_loop, switch, result, simple, block, no_commands, also, constants, definitions, no_declarations, declare, no_items, item, routine, function, variables, no_definitions, define, no_starts, value, vector, text_of, not_declared, declared_twice, dynamic_name, not_constant, divided_by_zero, case_repeated, default_repeated, no_loop, no_switchon, no_result_or_return, label_not_here, global_out_of_range, vec_out_of_range, frame_too_large, not_assignable, two_procedures}
use Rattle.bk_scope.proofs.RowsOfTests.{at_line, at_breach, Row, tells, Right}

abbrev rows : List Row
rows =
    -- LET F() BE X + Y := A % B
    tells (at_breach 1 (not_declared (text_of (88 ∷ []))) ∷ at_breach 1 (not_assignable) ∷ at_breach 1 (not_declared (text_of (89 ∷ []))) ∷ at_breach 1 (not_declared (text_of (65 ∷ []))) ∷ at_breach 1 (not_declared (text_of (66 ∷ []))) ∷ [])
    (declare (definitions 1 (define (routine 1 (70 ∷ []) ([]) (assign 1 (more (binary 1 o.Add 1 (name 1 (88 ∷ [])) (name 1 (89 ∷ []))) none) (more (binary 1 o.Byte 1 (name 1 (65 ∷ [])) (name 1 (66 ∷ []))) none))) no_definitions)) no_declarations)
    -- LET F() BE (X) := Y
    ∷ tells (at_breach 1 (not_assignable) ∷ at_breach 1 (not_declared (text_of (88 ∷ []))) ∷ at_breach 1 (not_declared (text_of (89 ∷ []))) ∷ [])
    (declare (definitions 1 (define (routine 1 (70 ∷ []) ([]) (assign 1 (more (parens 1 (name 1 (88 ∷ []))) none) (more (name 1 (89 ∷ [])) none))) no_definitions)) no_declarations)
    -- LET F(A) BE $( LET G() = 1 < VALOF $( LET P() = A; RESULTIS FOO $) < 3; BREAK $)
    ∷ tells (at_breach 1 (dynamic_name (text_of (65 ∷ []))) ∷ at_breach 1 (not_declared (text_of (70 ∷ 79 ∷ 79 ∷ []))) ∷ at_breach 1 (dynamic_name (text_of (65 ∷ []))) ∷ at_breach 1 (not_declared (text_of (70 ∷ 79 ∷ 79 ∷ []))) ∷ at_breach 1 (no_loop) ∷ [])
    (declare (definitions 1 (define (routine 1 (70 ∷ []) (at_line 1 (65 ∷ []) ∷ []) (block 1 (declare (definitions 1 (define (function 1 (71 ∷ []) ([]) (binary 1 o.Both 1 (binary 1 o.Less 1 (number 1 1) (valof 1 (block 1 (declare (definitions 1 (define (function 1 (80 ∷ []) ([]) (name 1 (65 ∷ []))) no_definitions)) no_declarations) (also (result 1 (name 1 (70 ∷ 79 ∷ 79 ∷ []))) no_commands)))) (binary 1 o.Less 1 (valof 1 (block 1 (declare (definitions 1 (define (function 1 (80 ∷ []) ([]) (name 1 (65 ∷ []))) no_definitions)) no_declarations) (also (result 1 (name 1 (70 ∷ 79 ∷ 79 ∷ []))) no_commands))) (number 1 3)))) no_definitions)) no_declarations) (also (simple 1 w.Break) no_commands))) no_definitions)) no_declarations)
    -- GLOBAL $( P:100 $) LET P() = 0 LET F() = 1 < VALOF $( LET P() = 2; RESULTIS FOO $) < 3
    ∷ tells (at_breach 1 (two_procedures (text_of (80 ∷ []))) ∷ at_breach 1 (not_declared (text_of (70 ∷ 79 ∷ 79 ∷ []))) ∷ at_breach 1 (two_procedures (text_of (80 ∷ []))) ∷ at_breach 1 (not_declared (text_of (70 ∷ 79 ∷ 79 ∷ []))) ∷ [])
    (declare (constants 1 sort.Global (item 1 (80 ∷ []) (number 1 100) no_items)) (declare (definitions 1 (define (function 1 (80 ∷ []) ([]) (number 1 0)) no_definitions)) (declare (definitions 1 (define (function 1 (70 ∷ []) ([]) (binary 1 o.Both 1 (binary 1 o.Less 1 (number 1 1) (valof 1 (block 1 (declare (definitions 1 (define (function 1 (80 ∷ []) ([]) (number 1 2)) no_definitions)) no_declarations) (also (result 1 (name 1 (70 ∷ 79 ∷ 79 ∷ []))) no_commands)))) (binary 1 o.Less 1 (valof 1 (block 1 (declare (definitions 1 (define (function 1 (80 ∷ []) ([]) (number 1 2)) no_definitions)) no_declarations) (also (result 1 (name 1 (70 ∷ 79 ∷ 79 ∷ []))) no_commands))) (number 1 3)))) no_definitions)) no_declarations)))
    -- GLOBAL $( P:100 $) LET F() = 1 < VALOF $( LET P() = 2; RESULTIS FOO $) < 3
    ∷ tells (at_breach 1 (not_declared (text_of (70 ∷ 79 ∷ 79 ∷ []))) ∷ at_breach 1 (two_procedures (text_of (80 ∷ []))) ∷ at_breach 1 (not_declared (text_of (70 ∷ 79 ∷ 79 ∷ []))) ∷ [])
    (declare (constants 1 sort.Global (item 1 (80 ∷ []) (number 1 100) no_items)) (declare (definitions 1 (define (function 1 (70 ∷ []) ([]) (binary 1 o.Both 1 (binary 1 o.Less 1 (number 1 1) (valof 1 (block 1 (declare (definitions 1 (define (function 1 (80 ∷ []) ([]) (number 1 2)) no_definitions)) no_declarations) (also (result 1 (name 1 (70 ∷ 79 ∷ 79 ∷ []))) no_commands)))) (binary 1 o.Less 1 (valof 1 (block 1 (declare (definitions 1 (define (function 1 (80 ∷ []) ([]) (number 1 2)) no_definitions)) no_declarations) (also (result 1 (name 1 (70 ∷ 79 ∷ 79 ∷ []))) no_commands))) (number 1 3)))) no_definitions)) no_declarations))
    -- LET F() BE F(1 < VALOF $( L: GOTO M; L: RESULTIS 1 $) < 3)
    ∷ tells (at_breach 1 (not_declared (text_of (77 ∷ []))) ∷ at_breach 1 (declared_twice (text_of (76 ∷ []))) ∷ at_breach 1 (not_declared (text_of (77 ∷ []))) ∷ at_breach 1 (declared_twice (text_of (76 ∷ []))) ∷ [])
    (declare (definitions 1 (define (routine 1 (70 ∷ []) ([]) (call 1 (name 1 (70 ∷ [])) (more (binary 1 o.Both 1 (binary 1 o.Less 1 (number 1 1) (valof 1 (block 1 no_declarations (also (label 1 (76 ∷ []) (goto 1 (at_line 1 (77 ∷ [])))) (also (label 1 (76 ∷ []) (result 1 (number 1 1))) no_commands))))) (binary 1 o.Less 1 (valof 1 (block 1 no_declarations (also (label 1 (76 ∷ []) (goto 1 (at_line 1 (77 ∷ [])))) (also (label 1 (76 ∷ []) (result 1 (number 1 1))) no_commands)))) (number 1 3))) none))) no_definitions)) no_declarations)
    -- LET F() = TABLE !X, A + B!C, D -> 1, E, G(H), 1/0 + Q, 2 REM (1-1), 1/0
    ∷ tells (at_breach 1 (not_constant) ∷ at_breach 1 (not_declared (text_of (88 ∷ []))) ∷ at_breach 1 (not_declared (text_of (65 ∷ []))) ∷ at_breach 1 (not_declared (text_of (66 ∷ []))) ∷ at_breach 1 (not_constant) ∷ at_breach 1 (not_declared (text_of (67 ∷ []))) ∷ at_breach 1 (not_declared (text_of (68 ∷ []))) ∷ at_breach 1 (not_constant) ∷ at_breach 1 (not_declared (text_of (69 ∷ []))) ∷ at_breach 1 (not_declared (text_of (71 ∷ []))) ∷ at_breach 1 (not_constant) ∷ at_breach 1 (not_declared (text_of (72 ∷ []))) ∷ at_breach 1 (divided_by_zero) ∷ at_breach 1 (not_declared (text_of (81 ∷ []))) ∷ at_breach 1 (divided_by_zero) ∷ at_breach 1 (divided_by_zero) ∷ [])
    (declare (definitions 1 (define (function 1 (70 ∷ []) ([]) (table 1 (more (unary 1 q.Contents (name 1 (88 ∷ []))) (more (binary 1 o.Add 1 (name 1 (65 ∷ [])) (binary 1 o.Subscript 1 (name 1 (66 ∷ [])) (name 1 (67 ∷ [])))) (more (choice 1 1 (name 1 (68 ∷ [])) (number 1 1) (name 1 (69 ∷ []))) (more (apply 1 1 (name 1 (71 ∷ [])) (more (name 1 (72 ∷ [])) none)) (more (binary 1 o.Add 1 (binary 1 o.Over 1 (number 1 1) (number 1 0)) (name 1 (81 ∷ []))) (more (binary 1 o.Rem 1 (number 1 2) (parens 1 (binary 1 o.Subtract 1 (number 1 1) (number 1 1)))) (more (binary 1 o.Over 1 (number 1 1) (number 1 0)) none))))))))) no_definitions)) no_declarations)
    -- LET F(A) BE $( LET G() BE F(TABLE A, L + 1); L: F(TABLE L, A) $)
    ∷ tells (at_breach 1 (dynamic_name (text_of (65 ∷ []))) ∷ at_breach 1 (not_constant) ∷ at_breach 1 (not_declared (text_of (76 ∷ []))) ∷ at_breach 1 (not_constant) ∷ at_breach 1 (label_not_here (text_of (76 ∷ []))) ∷ at_breach 1 (not_constant) ∷ [])
    (declare (definitions 1 (define (routine 1 (70 ∷ []) (at_line 1 (65 ∷ []) ∷ []) (block 1 (declare (definitions 1 (define (routine 1 (71 ∷ []) ([]) (call 1 (name 1 (70 ∷ [])) (more (table 1 (more (name 1 (65 ∷ [])) (more (binary 1 o.Add 1 (name 1 (76 ∷ [])) (number 1 1)) none))) none))) no_definitions)) no_declarations) (also (label 1 (76 ∷ []) (call 1 (name 1 (70 ∷ [])) (more (table 1 (more (name 1 (76 ∷ [])) (more (name 1 (65 ∷ [])) none))) none))) no_commands))) no_definitions)) no_declarations)
    -- LET F(A) BE $( LET G() BE GOTO A; L: M := L; (L) := 1; @L := 2; F(@(A%1), @A, @5) $)
    ∷ tells (at_breach 1 (dynamic_name (text_of (65 ∷ []))) ∷ at_breach 1 (label_not_here (text_of (65 ∷ []))) ∷ at_breach 1 (not_declared (text_of (77 ∷ []))) ∷ at_breach 1 (not_assignable) ∷ at_breach 1 (label_not_here (text_of (76 ∷ []))) ∷ at_breach 1 (not_assignable) ∷ at_breach 1 (label_not_here (text_of (76 ∷ []))) ∷ at_breach 1 (not_assignable) ∷ at_breach 1 (label_not_here (text_of (76 ∷ []))) ∷ at_breach 1 (not_assignable) ∷ at_breach 1 (not_assignable) ∷ at_breach 1 (not_assignable) ∷ [])
    (declare (definitions 1 (define (routine 1 (70 ∷ []) (at_line 1 (65 ∷ []) ∷ []) (block 1 (declare (definitions 1 (define (routine 1 (71 ∷ []) ([]) (goto 1 (at_line 1 (65 ∷ [])))) no_definitions)) no_declarations) (also (label 1 (76 ∷ []) (assign 1 (more (name 1 (77 ∷ [])) none) (more (name 1 (76 ∷ [])) none))) (also (assign 1 (more (parens 1 (name 1 (76 ∷ []))) none) (more (number 1 1) none)) (also (assign 1 (more (unary 1 q.Address (name 1 (76 ∷ []))) none) (more (number 1 2) none)) (also (call 1 (name 1 (70 ∷ [])) (more (unary 1 q.Address (parens 1 (binary 1 o.Byte 1 (name 1 (65 ∷ [])) (number 1 1)))) (more (unary 1 q.Address (name 1 (65 ∷ []))) (more (unary 1 q.Address (number 1 5)) none)))) no_commands)))))) no_definitions)) no_declarations)
    -- LET F(A, A) BE $( LET X, X = 1, X; LET Y = VEC Z AND F() = 1 AND Y = 2; A: A: GOTO Y $)
    ∷ tells (at_breach 1 (declared_twice (text_of (65 ∷ []))) ∷ at_breach 1 (declared_twice (text_of (88 ∷ []))) ∷ at_breach 1 (not_declared (text_of (88 ∷ []))) ∷ at_breach 1 (not_declared (text_of (90 ∷ []))) ∷ at_breach 1 (declared_twice (text_of (89 ∷ []))) ∷ at_breach 1 (declared_twice (text_of (65 ∷ []))) ∷ at_breach 1 (label_not_here (text_of (89 ∷ []))) ∷ [])
    (declare (definitions 1 (define (routine 1 (70 ∷ []) (at_line 1 (65 ∷ []) ∷ at_line 1 (65 ∷ []) ∷ []) (block 1 (declare (definitions 1 (define (variables 1 (at_line 1 (88 ∷ []) ∷ at_line 1 (88 ∷ []) ∷ []) (value (number 1 1) (value (name 1 (88 ∷ [])) no_starts))) no_definitions)) (declare (definitions 1 (define (variables 1 (at_line 1 (89 ∷ []) ∷ []) (vector 1 (name 1 (90 ∷ [])) no_starts)) (define (function 1 (70 ∷ []) ([]) (number 1 1)) (define (variables 1 (at_line 1 (89 ∷ []) ∷ []) (value (number 1 2) no_starts)) no_definitions)))) no_declarations)) (also (label 1 (65 ∷ []) (label 1 (65 ∷ []) (goto 1 (at_line 1 (89 ∷ []))))) no_commands))) no_definitions)) no_declarations)
    -- GLOBAL $( F:1; G:1; H:1000; I:-1 $) LET F(G) BE $( LET F() BE $( LET G() BE BREAK $) $) AND G() = 1 AND G() = 2
    ∷ tells (at_breach 1 (global_out_of_range) ∷ at_breach 1 (global_out_of_range) ∷ at_breach 1 (two_procedures (text_of (70 ∷ []))) ∷ at_breach 1 (no_loop) ∷ at_breach 1 (two_procedures (text_of (71 ∷ []))) ∷ at_breach 1 (declared_twice (text_of (71 ∷ []))) ∷ at_breach 1 (two_procedures (text_of (71 ∷ []))) ∷ [])
    (declare (constants 1 sort.Global (item 1 (70 ∷ []) (number 1 1) (item 1 (71 ∷ []) (number 1 1) (item 1 (72 ∷ []) (number 1 1000) (item 1 (73 ∷ []) (unary 1 q.Minus (number 1 1)) no_items))))) (declare (definitions 1 (define (routine 1 (70 ∷ []) (at_line 1 (71 ∷ []) ∷ []) (block 1 (declare (definitions 1 (define (routine 1 (70 ∷ []) ([]) (block 1 (declare (definitions 1 (define (routine 1 (71 ∷ []) ([]) (simple 1 w.Break)) no_definitions)) no_declarations) no_commands)) no_definitions)) no_declarations) no_commands)) (define (function 1 (71 ∷ []) ([]) (number 1 1)) (define (function 1 (71 ∷ []) ([]) (number 1 2)) no_definitions)))) no_declarations))
    -- LET F() BE SWITCHON X INTO $( CASE 1: CASE Y: DEFAULT: CASE 2-1: SWITCHON 1 INTO $( CASE 1: CASE Y: CASE 1: DEFAULT: $); DEFAULT: CASE 1: $)
    ∷ tells (at_breach 1 (not_declared (text_of (88 ∷ []))) ∷ at_breach 1 (not_declared (text_of (89 ∷ []))) ∷ at_breach 1 (case_repeated) ∷ at_breach 1 (not_declared (text_of (89 ∷ []))) ∷ at_breach 1 (case_repeated) ∷ at_breach 1 (default_repeated) ∷ at_breach 1 (case_repeated) ∷ [])
    (declare (definitions 1 (define (routine 1 (70 ∷ []) ([]) (switch 1 (name 1 (88 ∷ [])) (block 1 no_declarations (also (case_of 1 (number 1 1) (case_of 1 (name 1 (89 ∷ [])) (default 1 (case_of 1 (binary 1 o.Subtract 1 (number 1 2) (number 1 1)) (switch 1 (number 1 1) (block 1 no_declarations (also (case_of 1 (number 1 1) (case_of 1 (name 1 (89 ∷ [])) (case_of 1 (number 1 1) (default 1 empty)))) no_commands))))))) (also (default 1 (case_of 1 (number 1 1) empty)) no_commands))))) no_definitions)) no_declarations)
    -- LET F() BE $( CASE X: DEFAULT: ENDCASE; LOOP; RESULTIS Q $)
    ∷ tells (at_breach 1 (no_switchon) ∷ at_breach 1 (not_declared (text_of (88 ∷ []))) ∷ at_breach 1 (no_switchon) ∷ at_breach 1 (no_switchon) ∷ at_breach 1 (no_loop) ∷ at_breach 1 (no_result_or_return) ∷ at_breach 1 (not_declared (text_of (81 ∷ []))) ∷ [])
    (declare (definitions 1 (define (routine 1 (70 ∷ []) ([]) (block 1 no_declarations (also (case_of 1 (name 1 (88 ∷ [])) (default 1 (simple 1 w.EndCase))) (also (simple 1 w.Loop) (also (result 1 (name 1 (81 ∷ []))) no_commands))))) no_definitions)) no_declarations)
    -- LET F() = VALOF $( RETURN; RESULTIS VALOF $( BREAK; RESULTIS LOOPING $) $)
    ∷ tells (at_breach 1 (no_result_or_return) ∷ at_breach 1 (no_loop) ∷ at_breach 1 (not_declared (text_of (76 ∷ 79 ∷ 79 ∷ 80 ∷ 73 ∷ 78 ∷ 71 ∷ []))) ∷ [])
    (declare (definitions 1 (define (function 1 (70 ∷ []) ([]) (valof 1 (block 1 no_declarations (also (simple 1 w.Return) (also (result 1 (valof 1 (block 1 no_declarations (also (simple 1 w.Break) (also (result 1 (name 1 (76 ∷ 79 ∷ 79 ∷ 80 ∷ 73 ∷ 78 ∷ 71 ∷ []))) no_commands))))) no_commands))))) no_definitions)) no_declarations)
    -- LET F() BE $( LET A, B = VEC 32767, VEC 32767; LET F(C, C) BE $( LET V, V = VEC 32767, VEC 32768; X() $); Y() $)
    ∷ tells (at_breach 1 (frame_too_large) ∷ at_breach 1 (declared_twice (text_of (67 ∷ []))) ∷ at_breach 1 (declared_twice (text_of (86 ∷ []))) ∷ at_breach 1 (vec_out_of_range) ∷ at_breach 1 (not_declared (text_of (88 ∷ []))) ∷ at_breach 1 (not_declared (text_of (89 ∷ []))) ∷ [])
    (declare (definitions 1 (define (routine 1 (70 ∷ []) ([]) (block 1 (declare (definitions 1 (define (variables 1 (at_line 1 (65 ∷ []) ∷ at_line 1 (66 ∷ []) ∷ []) (vector 1 (number 1 32767) (vector 1 (number 1 32767) no_starts))) no_definitions)) (declare (definitions 1 (define (routine 1 (70 ∷ []) (at_line 1 (67 ∷ []) ∷ at_line 1 (67 ∷ []) ∷ []) (block 1 (declare (definitions 1 (define (variables 1 (at_line 1 (86 ∷ []) ∷ at_line 1 (86 ∷ []) ∷ []) (vector 1 (number 1 32767) (vector 1 (number 1 32768) no_starts))) no_definitions)) no_declarations) (also (call 1 (name 1 (88 ∷ [])) none) no_commands))) no_definitions)) no_declarations)) (also (call 1 (name 1 (89 ∷ [])) none) no_commands))) no_definitions)) no_declarations)
    -- LET F() BE FOR I = I TO J BY K DO $( LET I = I; M: I := K; M: NEXT() $)
    ∷ tells (at_breach 1 (not_declared (text_of (73 ∷ []))) ∷ at_breach 1 (not_declared (text_of (74 ∷ []))) ∷ at_breach 1 (not_declared (text_of (75 ∷ []))) ∷ at_breach 1 (not_declared (text_of (75 ∷ []))) ∷ at_breach 1 (declared_twice (text_of (77 ∷ []))) ∷ at_breach 1 (not_declared (text_of (78 ∷ 69 ∷ 88 ∷ 84 ∷ []))) ∷ [])
    (declare (definitions 1 (define (routine 1 (70 ∷ []) ([]) (for_loop 1 (at_line 1 (73 ∷ [])) (name 1 (73 ∷ [])) (name 1 (74 ∷ [])) (more (name 1 (75 ∷ [])) none) (block 1 (declare (definitions 1 (define (variables 1 (at_line 1 (73 ∷ []) ∷ []) (value (name 1 (73 ∷ [])) no_starts)) no_definitions)) no_declarations) (also (label 1 (77 ∷ []) (assign 1 (more (name 1 (73 ∷ [])) none) (more (name 1 (75 ∷ [])) none))) (also (label 1 (77 ∷ []) (call 1 (name 1 (78 ∷ 69 ∷ 88 ∷ 84 ∷ [])) none)) no_commands))))) no_definitions)) no_declarations)
    -- MANIFEST $( A = 1; A = B; C = A + D/0; E = 1/0 $) STATIC $( S = S; T = C; S = 1 $)
    ∷ tells (at_breach 1 (declared_twice (text_of (65 ∷ []))) ∷ at_breach 1 (not_declared (text_of (66 ∷ []))) ∷ at_breach 1 (not_declared (text_of (68 ∷ []))) ∷ at_breach 1 (divided_by_zero) ∷ at_breach 1 (not_declared (text_of (83 ∷ []))) ∷ at_breach 1 (declared_twice (text_of (83 ∷ []))) ∷ [])
    (declare (constants 1 sort.Manifest (item 1 (65 ∷ []) (number 1 1) (item 1 (65 ∷ []) (name 1 (66 ∷ [])) (item 1 (67 ∷ []) (binary 1 o.Add 1 (name 1 (65 ∷ [])) (binary 1 o.Over 1 (name 1 (68 ∷ [])) (number 1 0))) (item 1 (69 ∷ []) (binary 1 o.Over 1 (number 1 1) (number 1 0)) no_items))))) (declare (constants 1 sort.Static (item 1 (83 ∷ []) (name 1 (83 ∷ [])) (item 1 (84 ∷ []) (name 1 (67 ∷ [])) (item 1 (83 ∷ []) (number 1 1) no_items)))) no_declarations))
    -- LET F() BE TEST A & VALOF $( LET X, Y = B, VEC 3; RESULTIS X!Y $) DO X := 1 OR Y := 2
    ∷ tells (at_breach 1 (not_declared (text_of (65 ∷ []))) ∷ at_breach 1 (not_declared (text_of (66 ∷ []))) ∷ at_breach 1 (not_declared (text_of (88 ∷ []))) ∷ at_breach 1 (not_assignable) ∷ at_breach 1 (not_declared (text_of (89 ∷ []))) ∷ at_breach 1 (not_assignable) ∷ [])
    (declare (definitions 1 (define (routine 1 (70 ∷ []) ([]) (test 1 (binary 1 o.Both 1 (name 1 (65 ∷ [])) (valof 1 (block 1 (declare (definitions 1 (define (variables 1 (at_line 1 (88 ∷ []) ∷ at_line 1 (89 ∷ []) ∷ []) (value (name 1 (66 ∷ [])) (vector 1 (number 1 3) no_starts))) no_definitions)) no_declarations) (also (result 1 (binary 1 o.Subscript 1 (name 1 (88 ∷ [])) (name 1 (89 ∷ [])))) no_commands)))) (assign 1 (more (name 1 (88 ∷ [])) none) (more (number 1 1) none)) (assign 1 (more (name 1 (89 ∷ [])) none) (more (number 1 2) none)))) no_definitions)) no_declarations)
    -- LET F() BE $( L: $( LET L = 1; GOTO L; L: GOTO L; M: $( L: GOTO M $) $) $)
    ∷ tells (at_breach 1 (declared_twice (text_of (76 ∷ []))) ∷ [])
    (declare (definitions 1 (define (routine 1 (70 ∷ []) ([]) (block 1 no_declarations (also (label 1 (76 ∷ []) (block 1 (declare (definitions 1 (define (variables 1 (at_line 1 (76 ∷ []) ∷ []) (value (number 1 1) no_starts)) no_definitions)) no_declarations) (also (goto 1 (at_line 1 (76 ∷ []))) (also (label 1 (76 ∷ []) (goto 1 (at_line 1 (76 ∷ [])))) (also (label 1 (77 ∷ []) (block 1 no_declarations (also (label 1 (76 ∷ []) (goto 1 (at_line 1 (77 ∷ [])))) no_commands))) no_commands))))) no_commands))) no_definitions)) no_declarations)
    -- LET F() BE $( X, 5, Z%1, (A+B)!C, -D := V, W, 1, 2, 3 $)
    ∷ tells (at_breach 1 (not_declared (text_of (88 ∷ []))) ∷ at_breach 1 (not_assignable) ∷ at_breach 1 (not_assignable) ∷ at_breach 1 (not_declared (text_of (90 ∷ []))) ∷ at_breach 1 (not_declared (text_of (65 ∷ []))) ∷ at_breach 1 (not_declared (text_of (66 ∷ []))) ∷ at_breach 1 (not_declared (text_of (67 ∷ []))) ∷ at_breach 1 (not_assignable) ∷ at_breach 1 (not_declared (text_of (68 ∷ []))) ∷ at_breach 1 (not_declared (text_of (86 ∷ []))) ∷ at_breach 1 (not_declared (text_of (87 ∷ []))) ∷ [])
    (declare (definitions 1 (define (routine 1 (70 ∷ []) ([]) (block 1 no_declarations (also (assign 1 (more (name 1 (88 ∷ [])) (more (number 1 5) (more (binary 1 o.Byte 1 (name 1 (90 ∷ [])) (number 1 1)) (more (binary 1 o.Subscript 1 (parens 1 (binary 1 o.Add 1 (name 1 (65 ∷ [])) (name 1 (66 ∷ [])))) (name 1 (67 ∷ []))) (more (unary 1 q.Minus (name 1 (68 ∷ []))) none))))) (more (name 1 (86 ∷ [])) (more (name 1 (87 ∷ [])) (more (number 1 1) (more (number 1 2) (more (number 1 3) none)))))) no_commands))) no_definitions)) no_declarations)
    -- LET F(X) BE $( X := VALOF $( L: GOTO K; GOTO L; RETURN $); K: GOTO L $)
    ∷ tells (at_breach 1 (not_declared (text_of (76 ∷ []))) ∷ [])
    (declare (definitions 1 (define (routine 1 (70 ∷ []) (at_line 1 (88 ∷ []) ∷ []) (block 1 no_declarations (also (assign 1 (more (name 1 (88 ∷ [])) none) (more (valof 1 (block 1 no_declarations (also (label 1 (76 ∷ []) (goto 1 (at_line 1 (75 ∷ [])))) (also (goto 1 (at_line 1 (76 ∷ []))) (also (simple 1 w.Return) no_commands))))) none)) (also (label 1 (75 ∷ []) (goto 1 (at_line 1 (76 ∷ [])))) no_commands)))) no_definitions)) no_declarations)
    -- LET F(X, Y) = VALOF $( LET A, B, V = X, Y, VEC 5; FOR I = A TO B BY 2 DO V!I := F(A -> B, I) + (VALOF $( LET Q = I; M: IF Q < X < Y GOTO M; RESULTIS @Q $)); RESULTIS TABLE 1, 2 + 3 $)
    ∷ tells []
    (declare (definitions 1 (define (function 1 (70 ∷ []) (at_line 1 (88 ∷ []) ∷ at_line 1 (89 ∷ []) ∷ []) (valof 1 (block 1 (declare (definitions 1 (define (variables 1 (at_line 1 (65 ∷ []) ∷ at_line 1 (66 ∷ []) ∷ at_line 1 (86 ∷ []) ∷ []) (value (name 1 (88 ∷ [])) (value (name 1 (89 ∷ [])) (vector 1 (number 1 5) no_starts)))) no_definitions)) no_declarations) (also (for_loop 1 (at_line 1 (73 ∷ [])) (name 1 (65 ∷ [])) (name 1 (66 ∷ [])) (more (number 1 2) none) (assign 1 (more (binary 1 o.Subscript 1 (name 1 (86 ∷ [])) (name 1 (73 ∷ []))) none) (more (binary 1 o.Add 1 (apply 1 1 (name 1 (70 ∷ [])) (more (choice 1 1 (name 1 (65 ∷ [])) (name 1 (66 ∷ [])) (name 1 (73 ∷ []))) none)) (parens 1 (valof 1 (block 1 (declare (definitions 1 (define (variables 1 (at_line 1 (81 ∷ []) ∷ []) (value (name 1 (73 ∷ [])) no_starts)) no_definitions)) no_declarations) (also (label 1 (77 ∷ []) (when 1 true (binary 1 o.Both 1 (binary 1 o.Less 1 (name 1 (81 ∷ [])) (name 1 (88 ∷ []))) (binary 1 o.Less 1 (name 1 (88 ∷ [])) (name 1 (89 ∷ [])))) (goto 1 (at_line 1 (77 ∷ []))))) (also (result 1 (unary 1 q.Address (name 1 (81 ∷ [])))) no_commands)))))) none))) (also (result 1 (table 1 (more (number 1 1) (more (binary 1 o.Add 1 (number 1 2) (number 1 3)) none)))) no_commands))))) no_definitions)) no_declarations)
    -- GLOBAL $( G:9 $) STATIC $( S = 'A'; T = 2 $) LET G(A) BE $( LET H(B) = VALOF $( LET Z = B; L: IF Z GOTO L; RESULTIS S $) AND K = VEC 9 AND W = A; SWITCHON H(W) INTO $( CASE 1: CASE 3: ENDCASE; DEFAULT: !K, K%1, T := 1, 2, 3 $) $) LET Q() = T
    ∷ tells []
    (declare (constants 1 sort.Global (item 1 (71 ∷ []) (number 1 9) no_items)) (declare (constants 1 sort.Static (item 1 (83 ∷ []) (number 1 65) (item 1 (84 ∷ []) (number 1 2) no_items))) (declare (definitions 1 (define (routine 1 (71 ∷ []) (at_line 1 (65 ∷ []) ∷ []) (block 1 (declare (definitions 1 (define (function 1 (72 ∷ []) (at_line 1 (66 ∷ []) ∷ []) (valof 1 (block 1 (declare (definitions 1 (define (variables 1 (at_line 1 (90 ∷ []) ∷ []) (value (name 1 (66 ∷ [])) no_starts)) no_definitions)) no_declarations) (also (label 1 (76 ∷ []) (when 1 true (name 1 (90 ∷ [])) (goto 1 (at_line 1 (76 ∷ []))))) (also (result 1 (name 1 (83 ∷ []))) no_commands))))) (define (variables 1 (at_line 1 (75 ∷ []) ∷ []) (vector 1 (number 1 9) no_starts)) (define (variables 1 (at_line 1 (87 ∷ []) ∷ []) (value (name 1 (65 ∷ [])) no_starts)) no_definitions)))) no_declarations) (also (switch 1 (apply 1 1 (name 1 (72 ∷ [])) (more (name 1 (87 ∷ [])) none)) (block 1 no_declarations (also (case_of 1 (number 1 1) (case_of 1 (number 1 3) (simple 1 w.EndCase))) (also (default 1 (assign 1 (more (unary 1 q.Contents (name 1 (75 ∷ []))) (more (binary 1 o.Byte 1 (name 1 (75 ∷ [])) (number 1 1)) (more (name 1 (84 ∷ [])) none))) (more (number 1 1) (more (number 1 2) (more (number 1 3) none))))) no_commands)))) no_commands))) no_definitions)) (declare (definitions 1 (define (function 1 (81 ∷ []) ([]) (name 1 (84 ∷ []))) no_definitions)) no_declarations))))
    -- LET F(X) BE $( X: GOTO X $)
    ∷ tells []
    (declare (definitions 1 (define (routine 1 (70 ∷ []) (at_line 1 (88 ∷ []) ∷ []) (block 1 no_declarations (also (label 1 (88 ∷ []) (goto 1 (at_line 1 (88 ∷ [])))) no_commands))) no_definitions)) no_declarations)
    -- LET F(X) BE $( LET X = X; X: GOTO X $) AND G(F) BE $( F: FOR F = 1 TO 2 DO F: GOTO F $)
    ∷ tells []
    (declare (definitions 1 (define (routine 1 (70 ∷ []) (at_line 1 (88 ∷ []) ∷ []) (block 1 (declare (definitions 1 (define (variables 1 (at_line 1 (88 ∷ []) ∷ []) (value (name 1 (88 ∷ [])) no_starts)) no_definitions)) no_declarations) (also (label 1 (88 ∷ []) (goto 1 (at_line 1 (88 ∷ [])))) no_commands))) (define (routine 1 (71 ∷ []) (at_line 1 (70 ∷ []) ∷ []) (block 1 no_declarations (also (label 1 (70 ∷ []) (for_loop 1 (at_line 1 (70 ∷ [])) (number 1 1) (number 1 2) none (label 1 (70 ∷ []) (goto 1 (at_line 1 (70 ∷ [])))))) no_commands))) no_definitions))) no_declarations)
    -- LET F(X) BE SWITCHON X INTO $( CASE 1: SWITCHON X INTO $( CASE 1: DEFAULT: $); CASE 2: SWITCHON X INTO CASE 2: F(X); DEFAULT: CASE 3: $)
    ∷ tells []
    (declare (definitions 1 (define (routine 1 (70 ∷ []) (at_line 1 (88 ∷ []) ∷ []) (switch 1 (name 1 (88 ∷ [])) (block 1 no_declarations (also (case_of 1 (number 1 1) (switch 1 (name 1 (88 ∷ [])) (block 1 no_declarations (also (case_of 1 (number 1 1) (default 1 empty)) no_commands)))) (also (case_of 1 (number 1 2) (switch 1 (name 1 (88 ∷ [])) (case_of 1 (number 1 2) (call 1 (name 1 (70 ∷ [])) (more (name 1 (88 ∷ [])) none))))) (also (default 1 (case_of 1 (number 1 3) empty)) no_commands)))))) no_definitions)) no_declarations)
    -- LET F(X) BE $( SWITCHON X INTO CASE 1: SWITCHON X INTO CASE 1: F(X); SWITCHON X INTO CASE 1: $( CASE 1: F(Y) $) $)
    ∷ tells (at_breach 1 (case_repeated) ∷ at_breach 1 (not_declared (text_of (89 ∷ []))) ∷ [])
    (declare (definitions 1 (define (routine 1 (70 ∷ []) (at_line 1 (88 ∷ []) ∷ []) (block 1 no_declarations (also (switch 1 (name 1 (88 ∷ [])) (case_of 1 (number 1 1) (switch 1 (name 1 (88 ∷ [])) (case_of 1 (number 1 1) (call 1 (name 1 (70 ∷ [])) (more (name 1 (88 ∷ [])) none)))))) (also (switch 1 (name 1 (88 ∷ [])) (case_of 1 (number 1 1) (block 1 no_declarations (also (case_of 1 (number 1 1) (call 1 (name 1 (70 ∷ [])) (more (name 1 (89 ∷ [])) none))) no_commands)))) no_commands)))) no_definitions)) no_declarations)
    ∷ []

rows_right : Right rows
rows_right = refl
