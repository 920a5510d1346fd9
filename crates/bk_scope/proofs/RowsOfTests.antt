-- The sections of the tests as worked rows: the whole list of faults of each, as a program apart from this kit gives it.
-- Where a text inserts a header, a GLOBAL with its names stands in its place.
use Rattle.bk_scope.proofs.Terms.{◌≡◌, ℕ, true, false, List, [], ◌∷◌, map, refl, Operator as o, Prefix as q, Simple as w, Sort as sort, Mention, Declarations, name, number, text, truth, parens, unary, binary, apply, valof, table, none, more, empty, assign, call, goto, label, case_of, default, when, while, for_loop, switch, result, simple, block, repeat, no_commands, also, constants, definitions, no_declarations, declare, no_items, item, routine, function, variables, no_definitions, define, no_starts, value, vector, Wrong, Breach, text_of, not_declared, declared_twice, dynamic_name, not_constant, divided_by_zero, case_repeated, default_repeated, no_loop, no_switchon, no_result_or_return, label_not_here, global_out_of_range, vec_out_of_range, frame_too_large, not_assignable, two_procedures, all_reported, faults}

abbrev pub at_line : ℕ → List ℕ → Mention
at_line l x = record { at = l; letters = x }

abbrev pub at_breach : ℕ → Wrong → Breach
at_breach l x = record { at = l; wrong = x }

-- a section, and its faults
pub data Row : Type 0 where
  tells : List Breach → Declarations → Row

abbrev reported_of : Row → List Breach
reported_of (tells bs ds) = all_reported (faults ds)

abbrev faults_of : Row → List Breach
faults_of (tells bs ds) = bs

abbrev pub Right : List Row → Type 0
Right rows = map reported_of rows ≡ map faults_of rows

abbrev rows : List Row
rows =
    -- GLOBAL $( WRCH:4; WRITEN:7; RDCH:3; WRITES:6; ENDSTREAMCH:50 $) LET START() BE WRITES("HELLO*N")
    tells []
    (declare (constants 1 sort.Global (item 1 (87 ∷ 82 ∷ 67 ∷ 72 ∷ []) (number 1 4) (item 1 (87 ∷ 82 ∷ 73 ∷ 84 ∷ 69 ∷ 78 ∷ []) (number 1 7) (item 1 (82 ∷ 68 ∷ 67 ∷ 72 ∷ []) (number 1 3) (item 1 (87 ∷ 82 ∷ 73 ∷ 84 ∷ 69 ∷ 83 ∷ []) (number 1 6) (item 1 (69 ∷ 78 ∷ 68 ∷ 83 ∷ 84 ∷ 82 ∷ 69 ∷ 65 ∷ 77 ∷ 67 ∷ 72 ∷ []) (number 1 50) no_items)))))) (declare (definitions 1 (define (routine 1 (83 ∷ 84 ∷ 65 ∷ 82 ∷ 84 ∷ []) ([]) (call 1 (name 1 (87 ∷ 82 ∷ 73 ∷ 84 ∷ 69 ∷ 83 ∷ [])) (more (text 1 (72 ∷ 69 ∷ 76 ∷ 76 ∷ 79 ∷ 10 ∷ [])) none))) no_definitions)) no_declarations))
    -- GLOBAL $( WRCH:4; WRITEN:7; RDCH:3; WRITES:6; ENDSTREAMCH:50 $) / LET START() BE / $( LET C = RDCH() /    UNTIL C = ENDSTREAMCH DO $( WRCH(C); C := RDCH() $) /    WRITEN(RDCH()) / $)
    ∷ tells []
    (declare (constants 1 sort.Global (item 1 (87 ∷ 82 ∷ 67 ∷ 72 ∷ []) (number 1 4) (item 1 (87 ∷ 82 ∷ 73 ∷ 84 ∷ 69 ∷ 78 ∷ []) (number 1 7) (item 1 (82 ∷ 68 ∷ 67 ∷ 72 ∷ []) (number 1 3) (item 1 (87 ∷ 82 ∷ 73 ∷ 84 ∷ 69 ∷ 83 ∷ []) (number 1 6) (item 1 (69 ∷ 78 ∷ 68 ∷ 83 ∷ 84 ∷ 82 ∷ 69 ∷ 65 ∷ 77 ∷ 67 ∷ 72 ∷ []) (number 1 50) no_items)))))) (declare (definitions 2 (define (routine 2 (83 ∷ 84 ∷ 65 ∷ 82 ∷ 84 ∷ []) ([]) (block 3 (declare (definitions 3 (define (variables 3 (at_line 3 (67 ∷ []) ∷ []) (value (apply 3 3 (name 3 (82 ∷ 68 ∷ 67 ∷ 72 ∷ [])) none) no_starts)) no_definitions)) no_declarations) (also (while 4 false (binary 4 o.Equal 4 (name 4 (67 ∷ [])) (name 4 (69 ∷ 78 ∷ 68 ∷ 83 ∷ 84 ∷ 82 ∷ 69 ∷ 65 ∷ 77 ∷ 67 ∷ 72 ∷ []))) (block 4 no_declarations (also (call 4 (name 4 (87 ∷ 82 ∷ 67 ∷ 72 ∷ [])) (more (name 4 (67 ∷ [])) none)) (also (assign 4 (more (name 4 (67 ∷ [])) none) (more (apply 4 4 (name 4 (82 ∷ 68 ∷ 67 ∷ 72 ∷ [])) none) none)) no_commands)))) (also (call 5 (name 5 (87 ∷ 82 ∷ 73 ∷ 84 ∷ 69 ∷ 78 ∷ [])) (more (apply 5 5 (name 5 (82 ∷ 68 ∷ 67 ∷ 72 ∷ [])) none) none)) no_commands)))) no_definitions)) no_declarations))
    -- GLOBAL $( WRCH:4; WRITEN:7; RDCH:3; WRITES:6; ENDSTREAMCH:50 $) / LET F(P) = VALOF $( !P := 10; RESULTIS 1 $) / LET START() BE / $( LET X = 5 /    WRITEN(X + F(@X)); WRCH('*S'); WRITEN(X) / $)
    ∷ tells []
    (declare (constants 1 sort.Global (item 1 (87 ∷ 82 ∷ 67 ∷ 72 ∷ []) (number 1 4) (item 1 (87 ∷ 82 ∷ 73 ∷ 84 ∷ 69 ∷ 78 ∷ []) (number 1 7) (item 1 (82 ∷ 68 ∷ 67 ∷ 72 ∷ []) (number 1 3) (item 1 (87 ∷ 82 ∷ 73 ∷ 84 ∷ 69 ∷ 83 ∷ []) (number 1 6) (item 1 (69 ∷ 78 ∷ 68 ∷ 83 ∷ 84 ∷ 82 ∷ 69 ∷ 65 ∷ 77 ∷ 67 ∷ 72 ∷ []) (number 1 50) no_items)))))) (declare (definitions 2 (define (function 2 (70 ∷ []) (at_line 2 (80 ∷ []) ∷ []) (valof 2 (block 2 no_declarations (also (assign 2 (more (unary 2 q.Contents (name 2 (80 ∷ []))) none) (more (number 2 10) none)) (also (result 2 (number 2 1)) no_commands))))) no_definitions)) (declare (definitions 3 (define (routine 3 (83 ∷ 84 ∷ 65 ∷ 82 ∷ 84 ∷ []) ([]) (block 4 (declare (definitions 4 (define (variables 4 (at_line 4 (88 ∷ []) ∷ []) (value (number 4 5) no_starts)) no_definitions)) no_declarations) (also (call 5 (name 5 (87 ∷ 82 ∷ 73 ∷ 84 ∷ 69 ∷ 78 ∷ [])) (more (binary 5 o.Add 5 (name 5 (88 ∷ [])) (apply 5 5 (name 5 (70 ∷ [])) (more (unary 5 q.Address (name 5 (88 ∷ []))) none))) none)) (also (call 5 (name 5 (87 ∷ 82 ∷ 67 ∷ 72 ∷ [])) (more (number 5 32) none)) (also (call 5 (name 5 (87 ∷ 82 ∷ 73 ∷ 84 ∷ 69 ∷ 78 ∷ [])) (more (name 5 (88 ∷ [])) none)) no_commands))))) no_definitions)) no_declarations)))
    -- GLOBAL $( WRCH:4; WRITEN:7; RDCH:3; WRITES:6; ENDSTREAMCH:50 $) / LET START() BE / $( LET I = 0 /    GOTO M /    WHILE I < 3 DO /    $( WRCH('A') /    M: WRCH('B') /       I := I + 1 /    $) /    WRCH('C') / $)
    ∷ tells []
    (declare (constants 1 sort.Global (item 1 (87 ∷ 82 ∷ 67 ∷ 72 ∷ []) (number 1 4) (item 1 (87 ∷ 82 ∷ 73 ∷ 84 ∷ 69 ∷ 78 ∷ []) (number 1 7) (item 1 (82 ∷ 68 ∷ 67 ∷ 72 ∷ []) (number 1 3) (item 1 (87 ∷ 82 ∷ 73 ∷ 84 ∷ 69 ∷ 83 ∷ []) (number 1 6) (item 1 (69 ∷ 78 ∷ 68 ∷ 83 ∷ 84 ∷ 82 ∷ 69 ∷ 65 ∷ 77 ∷ 67 ∷ 72 ∷ []) (number 1 50) no_items)))))) (declare (definitions 2 (define (routine 2 (83 ∷ 84 ∷ 65 ∷ 82 ∷ 84 ∷ []) ([]) (block 3 (declare (definitions 3 (define (variables 3 (at_line 3 (73 ∷ []) ∷ []) (value (number 3 0) no_starts)) no_definitions)) no_declarations) (also (goto 4 (at_line 4 (77 ∷ []))) (also (while 5 true (binary 5 o.Less 5 (name 5 (73 ∷ [])) (number 5 3)) (block 6 no_declarations (also (call 6 (name 6 (87 ∷ 82 ∷ 67 ∷ 72 ∷ [])) (more (number 6 65) none)) (also (label 7 (77 ∷ []) (call 7 (name 7 (87 ∷ 82 ∷ 67 ∷ 72 ∷ [])) (more (number 7 66) none))) (also (assign 8 (more (name 8 (73 ∷ [])) none) (more (binary 8 o.Add 8 (name 8 (73 ∷ [])) (number 8 1)) none)) no_commands))))) (also (call 10 (name 10 (87 ∷ 82 ∷ 67 ∷ 72 ∷ [])) (more (number 10 67) none)) no_commands))))) no_definitions)) no_declarations))
    -- GLOBAL $( WRCH:4; WRITEN:7; RDCH:3; WRITES:6; ENDSTREAMCH:50 $) / LET START() BE / $( FOR I = 1 TO 3 DO /       FOR J = 1 TO 3 DO /       $( IF I*J = 4 GOTO OUT /          WRITEN(I*J); WRCH('*S') /       $) /    OUT: WRCH('.') / $)
    ∷ tells []
    (declare (constants 1 sort.Global (item 1 (87 ∷ 82 ∷ 67 ∷ 72 ∷ []) (number 1 4) (item 1 (87 ∷ 82 ∷ 73 ∷ 84 ∷ 69 ∷ 78 ∷ []) (number 1 7) (item 1 (82 ∷ 68 ∷ 67 ∷ 72 ∷ []) (number 1 3) (item 1 (87 ∷ 82 ∷ 73 ∷ 84 ∷ 69 ∷ 83 ∷ []) (number 1 6) (item 1 (69 ∷ 78 ∷ 68 ∷ 83 ∷ 84 ∷ 82 ∷ 69 ∷ 65 ∷ 77 ∷ 67 ∷ 72 ∷ []) (number 1 50) no_items)))))) (declare (definitions 2 (define (routine 2 (83 ∷ 84 ∷ 65 ∷ 82 ∷ 84 ∷ []) ([]) (block 3 no_declarations (also (for_loop 3 (at_line 3 (73 ∷ [])) (number 3 1) (number 3 3) none (for_loop 4 (at_line 4 (74 ∷ [])) (number 4 1) (number 4 3) none (block 5 no_declarations (also (when 5 true (binary 5 o.Equal 5 (binary 5 o.Times 5 (name 5 (73 ∷ [])) (name 5 (74 ∷ []))) (number 5 4)) (goto 5 (at_line 5 (79 ∷ 85 ∷ 84 ∷ [])))) (also (call 6 (name 6 (87 ∷ 82 ∷ 73 ∷ 84 ∷ 69 ∷ 78 ∷ [])) (more (binary 6 o.Times 6 (name 6 (73 ∷ [])) (name 6 (74 ∷ []))) none)) (also (call 6 (name 6 (87 ∷ 82 ∷ 67 ∷ 72 ∷ [])) (more (number 6 32) none)) no_commands)))))) (also (label 8 (79 ∷ 85 ∷ 84 ∷ []) (call 8 (name 8 (87 ∷ 82 ∷ 67 ∷ 72 ∷ [])) (more (number 8 46) none))) no_commands)))) no_definitions)) no_declarations))
    -- GLOBAL $( WRCH:4; WRITEN:7; RDCH:3; WRITES:6; ENDSTREAMCH:50 $) / LET START() BE / $( LET N = 0 /    L: N := N + 1 /    WRITEN(10 + VALOF $( IF N < 3 DO GOTO L /                         RESULTIS N $)) /    WRCH('.') /    N := 1 + VALOF $( RETURN $) /    WRCH('X') / $)
    ∷ tells []
    (declare (constants 1 sort.Global (item 1 (87 ∷ 82 ∷ 67 ∷ 72 ∷ []) (number 1 4) (item 1 (87 ∷ 82 ∷ 73 ∷ 84 ∷ 69 ∷ 78 ∷ []) (number 1 7) (item 1 (82 ∷ 68 ∷ 67 ∷ 72 ∷ []) (number 1 3) (item 1 (87 ∷ 82 ∷ 73 ∷ 84 ∷ 69 ∷ 83 ∷ []) (number 1 6) (item 1 (69 ∷ 78 ∷ 68 ∷ 83 ∷ 84 ∷ 82 ∷ 69 ∷ 65 ∷ 77 ∷ 67 ∷ 72 ∷ []) (number 1 50) no_items)))))) (declare (definitions 2 (define (routine 2 (83 ∷ 84 ∷ 65 ∷ 82 ∷ 84 ∷ []) ([]) (block 3 (declare (definitions 3 (define (variables 3 (at_line 3 (78 ∷ []) ∷ []) (value (number 3 0) no_starts)) no_definitions)) no_declarations) (also (label 4 (76 ∷ []) (assign 4 (more (name 4 (78 ∷ [])) none) (more (binary 4 o.Add 4 (name 4 (78 ∷ [])) (number 4 1)) none))) (also (call 5 (name 5 (87 ∷ 82 ∷ 73 ∷ 84 ∷ 69 ∷ 78 ∷ [])) (more (binary 5 o.Add 5 (number 5 10) (valof 5 (block 5 no_declarations (also (when 5 true (binary 5 o.Less 5 (name 5 (78 ∷ [])) (number 5 3)) (goto 5 (at_line 5 (76 ∷ [])))) (also (result 6 (name 6 (78 ∷ []))) no_commands))))) none)) (also (call 7 (name 7 (87 ∷ 82 ∷ 67 ∷ 72 ∷ [])) (more (number 7 46) none)) (also (assign 8 (more (name 8 (78 ∷ [])) none) (more (binary 8 o.Add 8 (number 8 1) (valof 8 (block 8 no_declarations (also (simple 8 w.Return) no_commands)))) none)) (also (call 9 (name 9 (87 ∷ 82 ∷ 67 ∷ 72 ∷ [])) (more (number 9 88) none)) no_commands))))))) no_definitions)) no_declarations))
    -- GLOBAL $( WRCH:4; WRITEN:7; RDCH:3; WRITES:6; ENDSTREAMCH:50 $) / LET START() BE FOR I = 1 TO 4 DO / $( SWITCHON I INTO /    $( CASE 1: WRCH('A') /       CASE 2: WRCH('B'); ENDCASE /       CASE 4: WRCH('D') /    $) /    WRCH('.') / $)
    ∷ tells []
    (declare (constants 1 sort.Global (item 1 (87 ∷ 82 ∷ 67 ∷ 72 ∷ []) (number 1 4) (item 1 (87 ∷ 82 ∷ 73 ∷ 84 ∷ 69 ∷ 78 ∷ []) (number 1 7) (item 1 (82 ∷ 68 ∷ 67 ∷ 72 ∷ []) (number 1 3) (item 1 (87 ∷ 82 ∷ 73 ∷ 84 ∷ 69 ∷ 83 ∷ []) (number 1 6) (item 1 (69 ∷ 78 ∷ 68 ∷ 83 ∷ 84 ∷ 82 ∷ 69 ∷ 65 ∷ 77 ∷ 67 ∷ 72 ∷ []) (number 1 50) no_items)))))) (declare (definitions 2 (define (routine 2 (83 ∷ 84 ∷ 65 ∷ 82 ∷ 84 ∷ []) ([]) (for_loop 2 (at_line 2 (73 ∷ [])) (number 2 1) (number 2 4) none (block 3 no_declarations (also (switch 3 (name 3 (73 ∷ [])) (block 4 no_declarations (also (case_of 4 (number 4 1) (call 4 (name 4 (87 ∷ 82 ∷ 67 ∷ 72 ∷ [])) (more (number 4 65) none))) (also (case_of 5 (number 5 2) (call 5 (name 5 (87 ∷ 82 ∷ 67 ∷ 72 ∷ [])) (more (number 5 66) none))) (also (simple 5 w.EndCase) (also (case_of 6 (number 6 4) (call 6 (name 6 (87 ∷ 82 ∷ 67 ∷ 72 ∷ [])) (more (number 6 68) none))) no_commands)))))) (also (call 8 (name 8 (87 ∷ 82 ∷ 67 ∷ 72 ∷ [])) (more (number 8 46) none)) no_commands))))) no_definitions)) no_declarations))
    -- GLOBAL $( WRCH:4; WRITEN:7; RDCH:3; WRITES:6; ENDSTREAMCH:50 $) / LET START() BE / $( LET V = VEC 1 /    V%0, V%1, V%2 := 2, 'O', 'K' /    WRITES(V); WRITEN(V%0 + V%1) / $)
    ∷ tells []
    (declare (constants 1 sort.Global (item 1 (87 ∷ 82 ∷ 67 ∷ 72 ∷ []) (number 1 4) (item 1 (87 ∷ 82 ∷ 73 ∷ 84 ∷ 69 ∷ 78 ∷ []) (number 1 7) (item 1 (82 ∷ 68 ∷ 67 ∷ 72 ∷ []) (number 1 3) (item 1 (87 ∷ 82 ∷ 73 ∷ 84 ∷ 69 ∷ 83 ∷ []) (number 1 6) (item 1 (69 ∷ 78 ∷ 68 ∷ 83 ∷ 84 ∷ 82 ∷ 69 ∷ 65 ∷ 77 ∷ 67 ∷ 72 ∷ []) (number 1 50) no_items)))))) (declare (definitions 2 (define (routine 2 (83 ∷ 84 ∷ 65 ∷ 82 ∷ 84 ∷ []) ([]) (block 3 (declare (definitions 3 (define (variables 3 (at_line 3 (86 ∷ []) ∷ []) (vector 3 (number 3 1) no_starts)) no_definitions)) no_declarations) (also (assign 4 (more (binary 4 o.Byte 4 (name 4 (86 ∷ [])) (number 4 0)) (more (binary 4 o.Byte 4 (name 4 (86 ∷ [])) (number 4 1)) (more (binary 4 o.Byte 4 (name 4 (86 ∷ [])) (number 4 2)) none))) (more (number 4 2) (more (number 4 79) (more (number 4 75) none)))) (also (call 5 (name 5 (87 ∷ 82 ∷ 73 ∷ 84 ∷ 69 ∷ 83 ∷ [])) (more (name 5 (86 ∷ [])) none)) (also (call 5 (name 5 (87 ∷ 82 ∷ 73 ∷ 84 ∷ 69 ∷ 78 ∷ [])) (more (binary 5 o.Add 5 (binary 5 o.Byte 5 (name 5 (86 ∷ [])) (number 5 0)) (binary 5 o.Byte 5 (name 5 (86 ∷ [])) (number 5 1))) none)) no_commands))))) no_definitions)) no_declarations))
    -- MANIFEST $( A = 1; B = A + 1 $) GLOBAL $( G:B; H:999 $) LET F() = G + A
    ∷ tells []
    (declare (constants 1 sort.Manifest (item 1 (65 ∷ []) (number 1 1) (item 1 (66 ∷ []) (binary 1 o.Add 1 (name 1 (65 ∷ [])) (number 1 1)) no_items))) (declare (constants 1 sort.Global (item 1 (71 ∷ []) (name 1 (66 ∷ [])) (item 1 (72 ∷ []) (number 1 999) no_items))) (declare (definitions 1 (define (function 1 (70 ∷ []) ([]) (binary 1 o.Add 1 (name 1 (71 ∷ [])) (name 1 (65 ∷ [])))) no_definitions)) no_declarations)))
    -- LET F() = G() AND G() = F()
    ∷ tells []
    (declare (definitions 1 (define (function 1 (70 ∷ []) ([]) (apply 1 1 (name 1 (71 ∷ [])) none)) (define (function 1 (71 ∷ []) ([]) (apply 1 1 (name 1 (70 ∷ [])) none)) no_definitions))) no_declarations)
    -- LET F() BE $( LET X = 1; LET X = X; F() $)
    ∷ tells []
    (declare (definitions 1 (define (routine 1 (70 ∷ []) ([]) (block 1 (declare (definitions 1 (define (variables 1 (at_line 1 (88 ∷ []) ∷ []) (value (number 1 1) no_starts)) no_definitions)) (declare (definitions 1 (define (variables 1 (at_line 1 (88 ∷ []) ∷ []) (value (name 1 (88 ∷ [])) no_starts)) no_definitions)) no_declarations)) (also (call 1 (name 1 (70 ∷ [])) none) no_commands))) no_definitions)) no_declarations)
    -- LET F() BE $( LET X = 1; X: GOTO X $)
    ∷ tells []
    (declare (definitions 1 (define (routine 1 (70 ∷ []) ([]) (block 1 (declare (definitions 1 (define (variables 1 (at_line 1 (88 ∷ []) ∷ []) (value (number 1 1) no_starts)) no_definitions)) no_declarations) (also (label 1 (88 ∷ []) (goto 1 (at_line 1 (88 ∷ [])))) no_commands))) no_definitions)) no_declarations)
    -- LET F() BE $( L: FINISH $) AND G() BE $( L: GOTO L $)
    ∷ tells []
    (declare (definitions 1 (define (routine 1 (70 ∷ []) ([]) (block 1 no_declarations (also (label 1 (76 ∷ []) (simple 1 w.Finish)) no_commands))) (define (routine 1 (71 ∷ []) ([]) (block 1 no_declarations (also (label 1 (76 ∷ []) (goto 1 (at_line 1 (76 ∷ [])))) no_commands))) no_definitions))) no_declarations)
    -- STATIC $( S = 1 $) LET F() BE $( (S) := @(S); !S, S!1 := 2, @(S!1); F := 1 $)
    ∷ tells []
    (declare (constants 1 sort.Static (item 1 (83 ∷ []) (number 1 1) no_items)) (declare (definitions 1 (define (routine 1 (70 ∷ []) ([]) (block 1 no_declarations (also (assign 1 (more (parens 1 (name 1 (83 ∷ []))) none) (more (unary 1 q.Address (parens 1 (name 1 (83 ∷ [])))) none)) (also (assign 1 (more (unary 1 q.Contents (name 1 (83 ∷ []))) (more (binary 1 o.Subscript 1 (name 1 (83 ∷ [])) (number 1 1)) none)) (more (number 1 2) (more (unary 1 q.Address (parens 1 (binary 1 o.Subscript 1 (name 1 (83 ∷ [])) (number 1 1)))) none))) (also (assign 1 (more (name 1 (70 ∷ [])) none) (more (number 1 1) none)) no_commands))))) no_definitions)) no_declarations))
    -- LET F(X) BE IF (X & ~X) DO SWITCHON X INTO $( $( LET Y = X; ENDCASE $); DEFAULT: LOOP REPEAT $)
    ∷ tells []
    (declare (definitions 1 (define (routine 1 (70 ∷ []) (at_line 1 (88 ∷ []) ∷ []) (when 1 true (parens 1 (binary 1 o.Both 1 (name 1 (88 ∷ [])) (unary 1 q.Not (name 1 (88 ∷ []))))) (switch 1 (name 1 (88 ∷ [])) (block 1 no_declarations (also (block 1 (declare (definitions 1 (define (variables 1 (at_line 1 (89 ∷ []) ∷ []) (value (name 1 (88 ∷ [])) no_starts)) no_definitions)) no_declarations) (also (simple 1 w.EndCase) no_commands)) (also (default 1 (repeat 1 (simple 1 w.Loop))) no_commands)))))) no_definitions)) no_declarations)
    -- LET F() BE FOR I = 1 TO 2 BY -1 DO $( IF I = 1 LOOP; BREAK $)
    ∷ tells []
    (declare (definitions 1 (define (routine 1 (70 ∷ []) ([]) (for_loop 1 (at_line 1 (73 ∷ [])) (number 1 1) (number 1 2) (more (unary 1 q.Minus (number 1 1)) none) (block 1 no_declarations (also (when 1 true (binary 1 o.Equal 1 (name 1 (73 ∷ [])) (number 1 1)) (simple 1 w.Loop)) (also (simple 1 w.Break) no_commands))))) no_definitions)) no_declarations)
    -- LET F() BE SWITCHON 1 INTO $( CASE 1: SWITCHON 2 INTO CASE 1: DEFAULT: CASE 2: $)
    ∷ tells []
    (declare (definitions 1 (define (routine 1 (70 ∷ []) ([]) (switch 1 (number 1 1) (block 1 no_declarations (also (case_of 1 (number 1 1) (switch 1 (number 1 2) (case_of 1 (number 1 1) (default 1 (case_of 1 (number 1 2) empty))))) no_commands)))) no_definitions)) no_declarations)
    -- GLOBAL $( F:100 $) LET F() BE $( LET G(F) BE $( LET F() BE FINISH; F() $); G(1) $)
    ∷ tells []
    (declare (constants 1 sort.Global (item 1 (70 ∷ []) (number 1 100) no_items)) (declare (definitions 1 (define (routine 1 (70 ∷ []) ([]) (block 1 (declare (definitions 1 (define (routine 1 (71 ∷ []) (at_line 1 (70 ∷ []) ∷ []) (block 1 (declare (definitions 1 (define (routine 1 (70 ∷ []) ([]) (simple 1 w.Finish)) no_definitions)) no_declarations) (also (call 1 (name 1 (70 ∷ [])) none) no_commands))) no_definitions)) no_declarations) (also (call 1 (name 1 (71 ∷ [])) (more (number 1 1) none)) no_commands))) no_definitions)) no_declarations))
    -- LET F() = VALOF $( L: GOTO L $) + VALOF $( L: GOTO L $)
    ∷ tells []
    (declare (definitions 1 (define (function 1 (70 ∷ []) ([]) (binary 1 o.Add 1 (valof 1 (block 1 no_declarations (also (label 1 (76 ∷ []) (goto 1 (at_line 1 (76 ∷ [])))) no_commands))) (valof 1 (block 1 no_declarations (also (label 1 (76 ∷ []) (goto 1 (at_line 1 (76 ∷ [])))) no_commands))))) no_definitions)) no_declarations)
    -- LET F() BE $( LET A, B = VEC 32767, VEC 32762; FINISH $)
    ∷ tells []
    (declare (definitions 1 (define (routine 1 (70 ∷ []) ([]) (block 1 (declare (definitions 1 (define (variables 1 (at_line 1 (65 ∷ []) ∷ at_line 1 (66 ∷ []) ∷ []) (vector 1 (number 1 32767) (vector 1 (number 1 32762) no_starts))) no_definitions)) no_declarations) (also (simple 1 w.Finish) no_commands))) no_definitions)) no_declarations)
    -- LET F() = TABLE 1, -1, 'A', TRUE, 1 << 3 | #17, 1 = 2 NEQV NOT 0
    ∷ tells []
    (declare (definitions 1 (define (function 1 (70 ∷ []) ([]) (table 1 (more (number 1 1) (more (unary 1 q.Minus (number 1 1)) (more (number 1 65) (more (truth 1 true) (more (binary 1 o.Either 1 (binary 1 o.ShiftLeft 1 (number 1 1) (number 1 3)) (number 1 15)) (more (binary 1 o.Differ 1 (binary 1 o.Equal 1 (number 1 1) (number 1 2)) (unary 1 q.Not (number 1 0))) none)))))))) no_definitions)) no_declarations)
    -- STATIC $( A = 1/0 $)
    ∷ tells (at_breach 1 (divided_by_zero) ∷ [])
    (declare (constants 1 sort.Static (item 1 (65 ∷ []) (binary 1 o.Over 1 (number 1 1) (number 1 0)) no_items)) no_declarations)
    -- LET F(A,A) = A
    ∷ tells (at_breach 1 (declared_twice (text_of (65 ∷ []))) ∷ [])
    (declare (definitions 1 (define (function 1 (70 ∷ []) (at_line 1 (65 ∷ []) ∷ at_line 1 (65 ∷ []) ∷ []) (name 1 (65 ∷ []))) no_definitions)) no_declarations)
    -- LET START() BE BREAK
    ∷ tells (at_breach 1 (no_loop) ∷ [])
    (declare (definitions 1 (define (routine 1 (83 ∷ 84 ∷ 65 ∷ 82 ∷ 84 ∷ []) ([]) (simple 1 w.Break)) no_definitions)) no_declarations)
    -- LET F() = VALOF $( RETURN $)
    ∷ tells (at_breach 1 (no_result_or_return) ∷ [])
    (declare (definitions 1 (define (function 1 (70 ∷ []) ([]) (valof 1 (block 1 no_declarations (also (simple 1 w.Return) no_commands)))) no_definitions)) no_declarations)
    -- LET F() BE $( LET V = VEC 32768; V!0 := 1 $)
    ∷ tells (at_breach 1 (vec_out_of_range) ∷ [])
    (declare (definitions 1 (define (routine 1 (70 ∷ []) ([]) (block 1 (declare (definitions 1 (define (variables 1 (at_line 1 (86 ∷ []) ∷ []) (vector 1 (number 1 32768) no_starts)) no_definitions)) no_declarations) (also (assign 1 (more (binary 1 o.Subscript 1 (name 1 (86 ∷ [])) (number 1 0)) none) (more (number 1 1) none)) no_commands))) no_definitions)) no_declarations)
    -- LET F() BE $( LET A, B = VEC 32767, VEC 32767; A!0 := 1 $)
    ∷ tells (at_breach 1 (frame_too_large) ∷ [])
    (declare (definitions 1 (define (routine 1 (70 ∷ []) ([]) (block 1 (declare (definitions 1 (define (variables 1 (at_line 1 (65 ∷ []) ∷ at_line 1 (66 ∷ []) ∷ []) (vector 1 (number 1 32767) (vector 1 (number 1 32767) no_starts))) no_definitions)) no_declarations) (also (assign 1 (more (binary 1 o.Subscript 1 (name 1 (65 ∷ [])) (number 1 0)) none) (more (number 1 1) none)) no_commands))) no_definitions)) no_declarations)
    -- LET F() BE $( LET A, B = VEC 32767, VEC 32763; FINISH $)
    ∷ tells (at_breach 1 (frame_too_large) ∷ [])
    (declare (definitions 1 (define (routine 1 (70 ∷ []) ([]) (block 1 (declare (definitions 1 (define (variables 1 (at_line 1 (65 ∷ []) ∷ at_line 1 (66 ∷ []) ∷ []) (vector 1 (number 1 32767) (vector 1 (number 1 32763) no_starts))) no_definitions)) no_declarations) (also (simple 1 w.Finish) no_commands))) no_definitions)) no_declarations)
    -- GLOBAL $( F:100; G:100 $) / LET F() = 1 / LET G() = 2
    ∷ tells (at_breach 3 (two_procedures (text_of (71 ∷ []))) ∷ [])
    (declare (constants 1 sort.Global (item 1 (70 ∷ []) (number 1 100) (item 1 (71 ∷ []) (number 1 100) no_items))) (declare (definitions 2 (define (function 2 (70 ∷ []) ([]) (number 2 1)) no_definitions)) (declare (definitions 3 (define (function 3 (71 ∷ []) ([]) (number 3 2)) no_definitions)) no_declarations)))
    -- GLOBAL $( WRCH:4; WRITEN:7; RDCH:3; WRITES:6; ENDSTREAMCH:50 $) / LET START() BE / $( LET X = 1 /    LET F() = X /    WRITEN(F()) / $)
    ∷ tells (at_breach 4 (dynamic_name (text_of (88 ∷ []))) ∷ [])
    (declare (constants 1 sort.Global (item 1 (87 ∷ 82 ∷ 67 ∷ 72 ∷ []) (number 1 4) (item 1 (87 ∷ 82 ∷ 73 ∷ 84 ∷ 69 ∷ 78 ∷ []) (number 1 7) (item 1 (82 ∷ 68 ∷ 67 ∷ 72 ∷ []) (number 1 3) (item 1 (87 ∷ 82 ∷ 73 ∷ 84 ∷ 69 ∷ 83 ∷ []) (number 1 6) (item 1 (69 ∷ 78 ∷ 68 ∷ 83 ∷ 84 ∷ 82 ∷ 69 ∷ 65 ∷ 77 ∷ 67 ∷ 72 ∷ []) (number 1 50) no_items)))))) (declare (definitions 2 (define (routine 2 (83 ∷ 84 ∷ 65 ∷ 82 ∷ 84 ∷ []) ([]) (block 3 (declare (definitions 3 (define (variables 3 (at_line 3 (88 ∷ []) ∷ []) (value (number 3 1) no_starts)) no_definitions)) (declare (definitions 4 (define (function 4 (70 ∷ []) ([]) (name 4 (88 ∷ []))) no_definitions)) no_declarations)) (also (call 5 (name 5 (87 ∷ 82 ∷ 73 ∷ 84 ∷ 69 ∷ 78 ∷ [])) (more (apply 5 5 (name 5 (70 ∷ [])) none) none)) no_commands))) no_definitions)) no_declarations))
    -- GLOBAL $( WRCH:4; WRITEN:7; RDCH:3; WRITES:6; ENDSTREAMCH:50 $) / LET START() BE FOR I = 1 TO 4 DO / $( SWITCHON I INTO /    $( CASE 1: WRCH('A') /       CASE 2: WRCH('B'); ENDCASE /       CASE 1: WRCH('D') /    $) /    WRCH('.') / $)
    ∷ tells (at_breach 6 (case_repeated) ∷ [])
    (declare (constants 1 sort.Global (item 1 (87 ∷ 82 ∷ 67 ∷ 72 ∷ []) (number 1 4) (item 1 (87 ∷ 82 ∷ 73 ∷ 84 ∷ 69 ∷ 78 ∷ []) (number 1 7) (item 1 (82 ∷ 68 ∷ 67 ∷ 72 ∷ []) (number 1 3) (item 1 (87 ∷ 82 ∷ 73 ∷ 84 ∷ 69 ∷ 83 ∷ []) (number 1 6) (item 1 (69 ∷ 78 ∷ 68 ∷ 83 ∷ 84 ∷ 82 ∷ 69 ∷ 65 ∷ 77 ∷ 67 ∷ 72 ∷ []) (number 1 50) no_items)))))) (declare (definitions 2 (define (routine 2 (83 ∷ 84 ∷ 65 ∷ 82 ∷ 84 ∷ []) ([]) (for_loop 2 (at_line 2 (73 ∷ [])) (number 2 1) (number 2 4) none (block 3 no_declarations (also (switch 3 (name 3 (73 ∷ [])) (block 4 no_declarations (also (case_of 4 (number 4 1) (call 4 (name 4 (87 ∷ 82 ∷ 67 ∷ 72 ∷ [])) (more (number 4 65) none))) (also (case_of 5 (number 5 2) (call 5 (name 5 (87 ∷ 82 ∷ 67 ∷ 72 ∷ [])) (more (number 5 66) none))) (also (simple 5 w.EndCase) (also (case_of 6 (number 6 1) (call 6 (name 6 (87 ∷ 82 ∷ 67 ∷ 72 ∷ [])) (more (number 6 68) none))) no_commands)))))) (also (call 8 (name 8 (87 ∷ 82 ∷ 67 ∷ 72 ∷ [])) (more (number 8 46) none)) no_commands))))) no_definitions)) no_declarations))
    -- GLOBAL $( DOUBLE:100 $) / LET START() BE WRITEN(DUBLE(21))
    ∷ tells (at_breach 2 (not_declared (text_of (87 ∷ 82 ∷ 73 ∷ 84 ∷ 69 ∷ 78 ∷ []))) ∷ at_breach 2 (not_declared (text_of (68 ∷ 85 ∷ 66 ∷ 76 ∷ 69 ∷ []))) ∷ [])
    (declare (constants 1 sort.Global (item 1 (68 ∷ 79 ∷ 85 ∷ 66 ∷ 76 ∷ 69 ∷ []) (number 1 100) no_items)) (declare (definitions 2 (define (routine 2 (83 ∷ 84 ∷ 65 ∷ 82 ∷ 84 ∷ []) ([]) (call 2 (name 2 (87 ∷ 82 ∷ 73 ∷ 84 ∷ 69 ∷ 78 ∷ [])) (more (apply 2 2 (name 2 (68 ∷ 85 ∷ 66 ∷ 76 ∷ 69 ∷ [])) (more (number 2 21) none)) none))) no_definitions)) no_declarations))
    -- GLOBAL $( WRCH:4; WRITEN:7; RDCH:3; WRITES:6; ENDSTREAMCH:50 $) LET START() BE WRITEN(duble(21))
    ∷ tells (at_breach 1 (not_declared (text_of (68 ∷ 85 ∷ 66 ∷ 76 ∷ 69 ∷ []))) ∷ [])
    (declare (constants 1 sort.Global (item 1 (87 ∷ 82 ∷ 67 ∷ 72 ∷ []) (number 1 4) (item 1 (87 ∷ 82 ∷ 73 ∷ 84 ∷ 69 ∷ 78 ∷ []) (number 1 7) (item 1 (82 ∷ 68 ∷ 67 ∷ 72 ∷ []) (number 1 3) (item 1 (87 ∷ 82 ∷ 73 ∷ 84 ∷ 69 ∷ 83 ∷ []) (number 1 6) (item 1 (69 ∷ 78 ∷ 68 ∷ 83 ∷ 84 ∷ 82 ∷ 69 ∷ 65 ∷ 77 ∷ 67 ∷ 72 ∷ []) (number 1 50) no_items)))))) (declare (definitions 1 (define (routine 1 (83 ∷ 84 ∷ 65 ∷ 82 ∷ 84 ∷ []) ([]) (call 1 (name 1 (87 ∷ 82 ∷ 73 ∷ 84 ∷ 69 ∷ 78 ∷ [])) (more (apply 1 1 (name 1 (68 ∷ 85 ∷ 66 ∷ 76 ∷ 69 ∷ [])) (more (number 1 21) none)) none))) no_definitions)) no_declarations))
    -- MANIFEST $( A = "X" $)
    ∷ tells (at_breach 1 (not_constant) ∷ [])
    (declare (constants 1 sort.Manifest (item 1 (65 ∷ []) (text 1 (88 ∷ [])) no_items)) no_declarations)
    -- MANIFEST $( A = / 1 ! 2 $)
    ∷ tells (at_breach 2 (not_constant) ∷ [])
    (declare (constants 1 sort.Manifest (item 1 (65 ∷ []) (binary 2 o.Subscript 2 (number 2 1) (number 2 2)) no_items)) no_declarations)
    -- MANIFEST $( A = 1; B = / A(1) $)
    ∷ tells (at_breach 2 (not_constant) ∷ [])
    (declare (constants 1 sort.Manifest (item 1 (65 ∷ []) (number 1 1) (item 1 (66 ∷ []) (apply 2 2 (name 2 (65 ∷ [])) (more (number 2 1) none)) no_items))) no_declarations)
    -- STATIC $( S = 1 $) LET F() = TABLE S
    ∷ tells (at_breach 1 (not_constant) ∷ [])
    (declare (constants 1 sort.Static (item 1 (83 ∷ []) (number 1 1) no_items)) (declare (definitions 1 (define (function 1 (70 ∷ []) ([]) (table 1 (more (name 1 (83 ∷ [])) none))) no_definitions)) no_declarations))
    -- MANIFEST $( A = B $)
    ∷ tells (at_breach 1 (not_declared (text_of (66 ∷ []))) ∷ [])
    (declare (constants 1 sort.Manifest (item 1 (65 ∷ []) (name 1 (66 ∷ [])) no_items)) no_declarations)
    -- STATIC $( A = 1; B = A $)
    ∷ tells (at_breach 1 (not_declared (text_of (65 ∷ []))) ∷ [])
    (declare (constants 1 sort.Static (item 1 (65 ∷ []) (number 1 1) (item 1 (66 ∷ []) (name 1 (65 ∷ [])) no_items))) no_declarations)
    -- MANIFEST $( A = 1 REM 0; B = A; C = D $)
    ∷ tells (at_breach 1 (divided_by_zero) ∷ at_breach 1 (not_declared (text_of (68 ∷ []))) ∷ [])
    (declare (constants 1 sort.Manifest (item 1 (65 ∷ []) (binary 1 o.Rem 1 (number 1 1) (number 1 0)) (item 1 (66 ∷ []) (name 1 (65 ∷ [])) (item 1 (67 ∷ []) (name 1 (68 ∷ [])) no_items)))) no_declarations)
    -- GLOBAL $( A:1000 $)
    ∷ tells (at_breach 1 (global_out_of_range) ∷ [])
    (declare (constants 1 sort.Global (item 1 (65 ∷ []) (number 1 1000) no_items)) no_declarations)
    -- GLOBAL $( A:-1 $)
    ∷ tells (at_breach 1 (global_out_of_range) ∷ [])
    (declare (constants 1 sort.Global (item 1 (65 ∷ []) (unary 1 q.Minus (number 1 1)) no_items)) no_declarations)
    -- GLOBAL $( A:1; A:2 $)
    ∷ tells (at_breach 1 (declared_twice (text_of (65 ∷ []))) ∷ [])
    (declare (constants 1 sort.Global (item 1 (65 ∷ []) (number 1 1) (item 1 (65 ∷ []) (number 1 2) no_items))) no_declarations)
    -- LET F() BE $( LET X, Y = 1, X; F() $)
    ∷ tells (at_breach 1 (not_declared (text_of (88 ∷ []))) ∷ [])
    (declare (definitions 1 (define (routine 1 (70 ∷ []) ([]) (block 1 (declare (definitions 1 (define (variables 1 (at_line 1 (88 ∷ []) ∷ at_line 1 (89 ∷ []) ∷ []) (value (number 1 1) (value (name 1 (88 ∷ [])) no_starts))) no_definitions)) no_declarations) (also (call 1 (name 1 (70 ∷ [])) none) no_commands))) no_definitions)) no_declarations)
    -- LET F() BE $( LET A = L; L: F(A) $)
    ∷ tells (at_breach 1 (not_declared (text_of (76 ∷ []))) ∷ [])
    (declare (definitions 1 (define (routine 1 (70 ∷ []) ([]) (block 1 (declare (definitions 1 (define (variables 1 (at_line 1 (65 ∷ []) ∷ []) (value (name 1 (76 ∷ [])) no_starts)) no_definitions)) no_declarations) (also (label 1 (76 ∷ []) (call 1 (name 1 (70 ∷ [])) (more (name 1 (65 ∷ [])) none))) no_commands))) no_definitions)) no_declarations)
    -- LET F() BE $( L: F(L) $)
    ∷ tells (at_breach 1 (label_not_here (text_of (76 ∷ []))) ∷ [])
    (declare (definitions 1 (define (routine 1 (70 ∷ []) ([]) (block 1 no_declarations (also (label 1 (76 ∷ []) (call 1 (name 1 (70 ∷ [])) (more (name 1 (76 ∷ [])) none))) no_commands))) no_definitions)) no_declarations)
    -- LET F() BE $( L: L := 1 $)
    ∷ tells (at_breach 1 (label_not_here (text_of (76 ∷ []))) ∷ at_breach 1 (not_assignable) ∷ [])
    (declare (definitions 1 (define (routine 1 (70 ∷ []) ([]) (block 1 no_declarations (also (label 1 (76 ∷ []) (assign 1 (more (name 1 (76 ∷ [])) none) (more (number 1 1) none))) no_commands))) no_definitions)) no_declarations)
    -- LET F() BE $( L: (L) := 1 $)
    ∷ tells (at_breach 1 (not_assignable) ∷ at_breach 1 (label_not_here (text_of (76 ∷ []))) ∷ [])
    (declare (definitions 1 (define (routine 1 (70 ∷ []) ([]) (block 1 no_declarations (also (label 1 (76 ∷ []) (assign 1 (more (parens 1 (name 1 (76 ∷ []))) none) (more (number 1 1) none))) no_commands))) no_definitions)) no_declarations)
    -- LET F() BE $( L: F(@L) $)
    ∷ tells (at_breach 1 (label_not_here (text_of (76 ∷ []))) ∷ at_breach 1 (not_assignable) ∷ [])
    (declare (definitions 1 (define (routine 1 (70 ∷ []) ([]) (block 1 no_declarations (also (label 1 (76 ∷ []) (call 1 (name 1 (70 ∷ [])) (more (unary 1 q.Address (name 1 (76 ∷ []))) none))) no_commands))) no_definitions)) no_declarations)
    -- LET F() BE $( L: / L: F() $)
    ∷ tells (at_breach 2 (declared_twice (text_of (76 ∷ []))) ∷ [])
    (declare (definitions 1 (define (routine 1 (70 ∷ []) ([]) (block 1 no_declarations (also (label 1 (76 ∷ []) (label 2 (76 ∷ []) (call 2 (name 2 (70 ∷ [])) none))) no_commands))) no_definitions)) no_declarations)
    -- LET F() BE GOTO F
    ∷ tells (at_breach 1 (label_not_here (text_of (70 ∷ []))) ∷ [])
    (declare (definitions 1 (define (routine 1 (70 ∷ []) ([]) (goto 1 (at_line 1 (70 ∷ [])))) no_definitions)) no_declarations)
    -- LET F() BE GOTO L
    ∷ tells (at_breach 1 (not_declared (text_of (76 ∷ []))) ∷ [])
    (declare (definitions 1 (define (routine 1 (70 ∷ []) ([]) (goto 1 (at_line 1 (76 ∷ [])))) no_definitions)) no_declarations)
    -- LET F() BE $( F(VALOF $( L: RESULTIS 1 $)); GOTO L $)
    ∷ tells (at_breach 1 (not_declared (text_of (76 ∷ []))) ∷ [])
    (declare (definitions 1 (define (routine 1 (70 ∷ []) ([]) (block 1 no_declarations (also (call 1 (name 1 (70 ∷ [])) (more (valof 1 (block 1 no_declarations (also (label 1 (76 ∷ []) (result 1 (number 1 1))) no_commands))) none)) (also (goto 1 (at_line 1 (76 ∷ []))) no_commands)))) no_definitions)) no_declarations)
    -- GLOBAL $( L:100 $) / LET F() BE $( L: $( LET G() BE / GOTO L; G() $) $)
    ∷ tells (at_breach 3 (label_not_here (text_of (76 ∷ []))) ∷ [])
    (declare (constants 1 sort.Global (item 1 (76 ∷ []) (number 1 100) no_items)) (declare (definitions 2 (define (routine 2 (70 ∷ []) ([]) (block 2 no_declarations (also (label 2 (76 ∷ []) (block 2 (declare (definitions 2 (define (routine 2 (71 ∷ []) ([]) (goto 3 (at_line 3 (76 ∷ [])))) no_definitions)) no_declarations) (also (call 3 (name 3 (71 ∷ [])) none) no_commands))) no_commands))) no_definitions)) no_declarations))
    -- LET F(X) BE $( LET G() BE GOTO X; G() $)
    ∷ tells (at_breach 1 (dynamic_name (text_of (88 ∷ []))) ∷ at_breach 1 (label_not_here (text_of (88 ∷ []))) ∷ [])
    (declare (definitions 1 (define (routine 1 (70 ∷ []) (at_line 1 (88 ∷ []) ∷ []) (block 1 (declare (definitions 1 (define (routine 1 (71 ∷ []) ([]) (goto 1 (at_line 1 (88 ∷ [])))) no_definitions)) no_declarations) (also (call 1 (name 1 (71 ∷ [])) none) no_commands))) no_definitions)) no_declarations)
    -- GLOBAL $( F:100 $) LET F() BE $( LET F() BE FINISH; F() $)
    ∷ tells (at_breach 1 (two_procedures (text_of (70 ∷ []))) ∷ [])
    (declare (constants 1 sort.Global (item 1 (70 ∷ []) (number 1 100) no_items)) (declare (definitions 1 (define (routine 1 (70 ∷ []) ([]) (block 1 (declare (definitions 1 (define (routine 1 (70 ∷ []) ([]) (simple 1 w.Finish)) no_definitions)) no_declarations) (also (call 1 (name 1 (70 ∷ [])) none) no_commands))) no_definitions)) no_declarations))
    -- LET F() BE 1 := 2
    ∷ tells (at_breach 1 (not_assignable) ∷ [])
    (declare (definitions 1 (define (routine 1 (70 ∷ []) ([]) (assign 1 (more (number 1 1) none) (more (number 1 2) none))) no_definitions)) no_declarations)
    -- MANIFEST $( M = 1 $) LET F() BE M := 2
    ∷ tells (at_breach 1 (not_assignable) ∷ [])
    (declare (constants 1 sort.Manifest (item 1 (77 ∷ []) (number 1 1) no_items)) (declare (definitions 1 (define (routine 1 (70 ∷ []) ([]) (assign 1 (more (name 1 (77 ∷ [])) none) (more (number 1 2) none))) no_definitions)) no_declarations))
    -- LET F() BE X := 2
    ∷ tells (at_breach 1 (not_declared (text_of (88 ∷ []))) ∷ at_breach 1 (not_assignable) ∷ [])
    (declare (definitions 1 (define (routine 1 (70 ∷ []) ([]) (assign 1 (more (name 1 (88 ∷ [])) none) (more (number 1 2) none))) no_definitions)) no_declarations)
    -- LET F() BE ( / X) := 2
    ∷ tells (at_breach 1 (not_assignable) ∷ at_breach 2 (not_declared (text_of (88 ∷ []))) ∷ [])
    (declare (definitions 1 (define (routine 1 (70 ∷ []) ([]) (assign 1 (more (parens 1 (name 2 (88 ∷ []))) none) (more (number 2 2) none))) no_definitions)) no_declarations)
    -- LET F(A) BE F(@(A%0))
    ∷ tells (at_breach 1 (not_assignable) ∷ [])
    (declare (definitions 1 (define (routine 1 (70 ∷ []) (at_line 1 (65 ∷ []) ∷ []) (call 1 (name 1 (70 ∷ [])) (more (unary 1 q.Address (parens 1 (binary 1 o.Byte 1 (name 1 (65 ∷ [])) (number 1 0)))) none))) no_definitions)) no_declarations)
    -- LET F(A) BE / A + A := 1
    ∷ tells (at_breach 2 (not_assignable) ∷ [])
    (declare (definitions 1 (define (routine 1 (70 ∷ []) (at_line 1 (65 ∷ []) ∷ []) (assign 2 (more (binary 2 o.Add 2 (name 2 (65 ∷ [])) (name 2 (65 ∷ []))) none) (more (number 2 1) none))) no_definitions)) no_declarations)
    -- LET F() BE RESULTIS 1
    ∷ tells (at_breach 1 (no_result_or_return) ∷ [])
    (declare (definitions 1 (define (routine 1 (70 ∷ []) ([]) (result 1 (number 1 1))) no_definitions)) no_declarations)
    -- LET F() BE F(VALOF $( LET G() BE RESULTIS 1; G() $))
    ∷ tells (at_breach 1 (no_result_or_return) ∷ [])
    (declare (definitions 1 (define (routine 1 (70 ∷ []) ([]) (call 1 (name 1 (70 ∷ [])) (more (valof 1 (block 1 (declare (definitions 1 (define (routine 1 (71 ∷ []) ([]) (result 1 (number 1 1))) no_definitions)) no_declarations) (also (call 1 (name 1 (71 ∷ [])) none) no_commands))) none))) no_definitions)) no_declarations)
    -- LET F() BE FOR I = 1 TO 2 DO F(VALOF LOOP)
    ∷ tells (at_breach 1 (no_loop) ∷ [])
    (declare (definitions 1 (define (routine 1 (70 ∷ []) ([]) (for_loop 1 (at_line 1 (73 ∷ [])) (number 1 1) (number 1 2) none (call 1 (name 1 (70 ∷ [])) (more (valof 1 (simple 1 w.Loop)) none)))) no_definitions)) no_declarations)
    -- LET F() BE SWITCHON 1 INTO F(VALOF ENDCASE)
    ∷ tells (at_breach 1 (no_switchon) ∷ [])
    (declare (definitions 1 (define (routine 1 (70 ∷ []) ([]) (switch 1 (number 1 1) (call 1 (name 1 (70 ∷ [])) (more (valof 1 (simple 1 w.EndCase)) none)))) no_definitions)) no_declarations)
    -- LET F() BE SWITCHON 1 INTO $( LET A = 1; CASE 1: F(A) $)
    ∷ tells (at_breach 1 (no_switchon) ∷ [])
    (declare (definitions 1 (define (routine 1 (70 ∷ []) ([]) (switch 1 (number 1 1) (block 1 (declare (definitions 1 (define (variables 1 (at_line 1 (65 ∷ []) ∷ []) (value (number 1 1) no_starts)) no_definitions)) no_declarations) (also (case_of 1 (number 1 1) (call 1 (name 1 (70 ∷ [])) (more (name 1 (65 ∷ [])) none))) no_commands)))) no_definitions)) no_declarations)
    -- LET F() BE SWITCHON 1 INTO $( DEFAULT: F(); / DEFAULT: F() $)
    ∷ tells (at_breach 2 (default_repeated) ∷ [])
    (declare (definitions 1 (define (routine 1 (70 ∷ []) ([]) (switch 1 (number 1 1) (block 1 no_declarations (also (default 1 (call 1 (name 1 (70 ∷ [])) none)) (also (default 2 (call 2 (name 2 (70 ∷ [])) none)) no_commands))))) no_definitions)) no_declarations)
    -- LET F() = 1 AND / F() = 2
    ∷ tells (at_breach 2 (declared_twice (text_of (70 ∷ []))) ∷ [])
    (declare (definitions 1 (define (function 1 (70 ∷ []) ([]) (number 1 1)) (define (function 2 (70 ∷ []) ([]) (number 2 2)) no_definitions))) no_declarations)
    -- LET F() BE / $( LET A, B = VEC 32767, VEC 32767 / C() $)
    ∷ tells (at_breach 1 (frame_too_large) ∷ at_breach 3 (not_declared (text_of (67 ∷ []))) ∷ [])
    (declare (definitions 1 (define (routine 1 (70 ∷ []) ([]) (block 2 (declare (definitions 2 (define (variables 2 (at_line 2 (65 ∷ []) ∷ at_line 2 (66 ∷ []) ∷ []) (vector 2 (number 2 32767) (vector 2 (number 2 32767) no_starts))) no_definitions)) no_declarations) (also (call 3 (name 3 (67 ∷ [])) none) no_commands))) no_definitions)) no_declarations)
    -- LET F() BE / $( LET A, B = VEC 32767, VEC 40000 / C() $)
    ∷ tells (at_breach 2 (vec_out_of_range) ∷ at_breach 3 (not_declared (text_of (67 ∷ []))) ∷ [])
    (declare (definitions 1 (define (routine 1 (70 ∷ []) ([]) (block 2 (declare (definitions 2 (define (variables 2 (at_line 2 (65 ∷ []) ∷ at_line 2 (66 ∷ []) ∷ []) (vector 2 (number 2 32767) (vector 2 (number 2 40000) no_starts))) no_definitions)) no_declarations) (also (call 3 (name 3 (67 ∷ [])) none) no_commands))) no_definitions)) no_declarations)
    -- GLOBAL $( G:100 $) MANIFEST $( M = 7 $) STATIC $( S = M $) / LET F(A, B) BE $( LET X = A; L: G := X + M; S := B; F(A); GOTO L $)
    ∷ tells []
    (declare (constants 1 sort.Global (item 1 (71 ∷ []) (number 1 100) no_items)) (declare (constants 1 sort.Manifest (item 1 (77 ∷ []) (number 1 7) no_items)) (declare (constants 1 sort.Static (item 1 (83 ∷ []) (name 1 (77 ∷ [])) no_items)) (declare (definitions 2 (define (routine 2 (70 ∷ []) (at_line 2 (65 ∷ []) ∷ at_line 2 (66 ∷ []) ∷ []) (block 2 (declare (definitions 2 (define (variables 2 (at_line 2 (88 ∷ []) ∷ []) (value (name 2 (65 ∷ [])) no_starts)) no_definitions)) no_declarations) (also (label 2 (76 ∷ []) (assign 2 (more (name 2 (71 ∷ [])) none) (more (binary 2 o.Add 2 (name 2 (88 ∷ [])) (name 2 (77 ∷ []))) none))) (also (assign 2 (more (name 2 (83 ∷ [])) none) (more (name 2 (66 ∷ [])) none)) (also (call 2 (name 2 (70 ∷ [])) (more (name 2 (65 ∷ [])) none)) (also (goto 2 (at_line 2 (76 ∷ []))) no_commands)))))) no_definitions)) no_declarations))))
    ∷ []

rows_right : Right rows
rows_right = refl
