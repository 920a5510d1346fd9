-- Worked rows: what is found wrong in small sections.
use Rattle.bk_scope.proofs.Terms.{◌≡◌, ℕ, Some, List, [], ◌∷◌, map, refl, Operator as o, Simple as w, Sort as s, Mention, Expression, Command, Declaration, Declarations, name, number, binary, valof, none, more, empty, assign, call, case_of, switch, simple, block, no_commands, also, constants, definitions, no_declarations, declare, no_items, item, routine, function, variables, no_definitions, define, no_starts, value, vector, Wrong, Breach, text_of, declared_twice, dynamic_name, divided_by_zero, case_repeated, no_loop, no_result_or_return, vec_out_of_range, frame_too_large, two_procedures, first_reported, faults}

abbrev breach : ℕ → Wrong → Breach
breach l w = record { at = l; wrong = w }

abbrev at_line : ℕ → ℕ → Mention
at_line l x = record { at = l; letters = x ∷ [] }

-- the name of this letter, on this line
abbrev n : ℕ → ℕ → Expression
n l x = name l (x ∷ [])

abbrev section : Declaration → Declarations
section d = declare d no_declarations

abbrev routine_of : ℕ → ℕ → Command → Declaration
routine_of l x c = definitions l (define (routine l (x ∷ []) [] c) no_definitions)

abbrev function_of : ℕ → ℕ → Expression → Declaration
function_of l x e = definitions l (define (function l (x ∷ []) [] e) no_definitions)

-- sections in each of which this alone is wrong
abbrev rows : List (Declarations × Breach)
rows =
    -- STATIC $( A = 1/0 $)
    (section (constants 1 s.Static (item 1 (65 ∷ []) (binary 1 o.Over 1 (number 1 1) (number 1 0)) no_items)), breach 1 divided_by_zero)
    -- LET F(A,A) = A
    ∷ (section (definitions 1 (define (function 1 (70 ∷ []) (at_line 1 65 ∷ at_line 1 65 ∷ []) (n 1 65)) no_definitions)), breach 1 (declared_twice (text_of (65 ∷ []))))
    -- LET S() BE BREAK
    ∷ (section (routine_of 1 83 (simple 1 w.Break)), breach 1 no_loop)
    -- LET F() = VALOF $( RETURN $)
    ∷ (section (function_of 1 70 (valof 1 (block 1 no_declarations (also (simple 1 w.Return) no_commands)))), breach 1 no_result_or_return)
    -- LET F() BE $( LET V = VEC 32768; V!0 := 1 $)
    ∷ (section (routine_of 1 70 (block 1 (section (definitions 1 (define (variables 1 (at_line 1 86 ∷ []) (vector 1 (number 1 32768) no_starts)) no_definitions))) (also (assign 1 (more (binary 1 o.Subscript 1 (n 1 86) (number 1 0)) none) (more (number 1 1) none)) no_commands))), breach 1 vec_out_of_range)
    -- LET F() BE $( LET A, B = VEC 32767, VEC 32767; A!0 := 1 $)
    ∷ (section (routine_of 1 70 (block 1 (section (definitions 1 (define (variables 1 (at_line 1 65 ∷ at_line 1 66 ∷ []) (vector 1 (number 1 32767) (vector 1 (number 1 32767) no_starts))) no_definitions))) (also (assign 1 (more (binary 1 o.Subscript 1 (n 1 65) (number 1 0)) none) (more (number 1 1) none)) no_commands))), breach 1 frame_too_large)
    -- GLOBAL $( F:100; G:100 $), line 2 LET F() = 1, line 3 LET G() = 2
    ∷ (declare (constants 1 s.Global (item 1 (70 ∷ []) (number 1 100) (item 1 (71 ∷ []) (number 1 100) no_items))) (declare (function_of 2 70 (number 2 1)) (section (function_of 3 71 (number 3 2)))), breach 3 (two_procedures (text_of (71 ∷ []))))
    -- line 2 LET S() BE $( LET X = 1, line 4 LET F() = X, line 5 F() $)
    ∷ (section (routine_of 2 83 (block 3 (declare (definitions 3 (define (variables 3 (at_line 3 88 ∷ []) (value (number 3 1) no_starts)) no_definitions)) (section (function_of 4 70 (n 4 88)))) (also (call 5 (n 5 70) none) no_commands))), breach 4 (dynamic_name (text_of (88 ∷ []))))
    -- a SWITCHON with CASE 1 on line 5 and on line 6
    ∷ (section (routine_of 2 83 (switch 3 (number 3 1) (block 4 no_declarations (also (case_of 5 (number 5 1) empty) (also (case_of 6 (number 6 1) empty) no_commands))))), breach 6 case_repeated)
    ∷ []

rows_right : map (λ row. first_reported (faults row.0)) rows ≡ map (λ row. Some row.1) rows
rows_right = refl
