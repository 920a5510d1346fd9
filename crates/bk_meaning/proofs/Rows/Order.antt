-- In which order things are done, and how often.
use Rattle.bk_meaning.proofs.Terms.{List, true, false, [], ◌∷◌, refl, Operator as o, Prefix as q, Simple as k, Sort as s, status, Ends, Going}
use Rattle.bk_meaning.proofs.Rows.Nodes.{named, number, text, truth, parens, unary, binary, choice, apply, valof, assign, call, case, default, when, test, while, for_loop, switch, result, simple, compound, block, repeat, repeat_while, constants, item, lets, routine, variables, value, with_header, Row, takes, Right, a_function, a_routine, a_variable, a_vector, contents, element, main, plus, program, set, store, wrch, writes}
use Rattle.bk_meaning.proofs.Rows.Names as n

abbrev rows : List Row
rows =
    -- Arguments from left to right, then the procedure.
    --   LET P(C) = VALOF $( WRCH(C); RESULTIS C $)
    --   LET Q() = VALOF $( WRCH('Q'); RESULTIS P $)
    --   LET START() BE (Q())(P('A'), P('B'))
    takes 38 [] (Ends (65 ∷ 66 ∷ 81 ∷ 65 ∷ []) [] 3 (status 0)) (Going (65 ∷ 66 ∷ 81 ∷ 65 ∷ []) [] 3 1)
    (program (a_function n.p (n.c ∷ []) (valof (compound (wrch (named n.c) ∷ result (named n.c) ∷ []))) ∷ a_function n.q [] (valof (compound (wrch
    (number 81) ∷ result (named n.p) ∷ []))) ∷ a_routine n.start [] (call (parens (apply (named n.q) [])) (apply (named n.p) (number 65 ∷ []) ∷ apply
    (named n.p) (number 66 ∷ []) ∷ [])) ∷ []))
    -- Operands from left to right.
    --   LET P(C) = VALOF $( WRCH(C); RESULTIS C $)
    --   LET START() BE $( LET V = VEC 2; V!2 := 'Z'; WRCH((V + (P('B') - 'A'))!(P('A') - '@')); WRCH(P('C') - P('B') + 'A') $)
    ∷ takes 65 [] (Ends (66 ∷ 65 ∷ 90 ∷ 67 ∷ 66 ∷ 66 ∷ []) [] 3 (status 0)) (Going (66 ∷ 65 ∷ 90 ∷ 67 ∷ 66 ∷ []) [] 3 1)
    (program (a_function n.p (n.c ∷ []) (valof (compound (wrch (named n.c) ∷ result (named n.c) ∷ []))) ∷ a_routine n.start [] (block (a_vector n.v
    (number 2) ∷ []) (store (element (named n.v) (number 2)) (number 90) ∷ wrch (element (parens (plus (named n.v) (parens (binary o.Subtract (apply
    (named n.p) (number 66 ∷ [])) (number 65))))) (parens (binary o.Subtract (apply (named n.p) (number 65 ∷ [])) (number 64)))) ∷ wrch (plus (binary
    o.Subtract (apply (named n.p) (number 67 ∷ [])) (apply (named n.p) (number 66 ∷ []))) (number 65)) ∷ [])) ∷ []))
    -- The value of an assignment comes before its destination.
    --   LET P(C) = VALOF $( WRCH(C); RESULTIS 0 $)
    --   LET START() BE $( LET V = VEC 0; V!P('D') := P('V'); !(V + P('E')) := P('W') $)
    ∷ takes 51 [] (Ends (86 ∷ 68 ∷ 87 ∷ 69 ∷ []) [] 3 (status 0)) (Going (86 ∷ 68 ∷ 87 ∷ 69 ∷ []) [] 3 1)
    (program (a_function n.p (n.c ∷ []) (valof (compound (wrch (named n.c) ∷ result (number 0) ∷ []))) ∷ a_routine n.start [] (block (a_vector n.v
    (number 0) ∷ []) (store (element (named n.v) (apply (named n.p) (number 68 ∷ []))) (apply (named n.p) (number 86 ∷ [])) ∷ store (contents (parens
    (plus (named n.v) (apply (named n.p) (number 69 ∷ []))))) (apply (named n.p) (number 87 ∷ [])) ∷ [])) ∷ []))
    -- Several assignments are done one after another.
    --   LET START() BE $( LET A, B = 1, 2; A, B := B, A; WRCH('0' + A); WRCH('0' + B) $)
    ∷ takes 19 [] (Ends (50 ∷ 50 ∷ []) [] 2 (status 0)) (Going (50 ∷ []) [] 2 1)
    (main (block (lets (variables (n.a ∷ n.b ∷ []) (value (number 1) ∷ value (number 2) ∷ []) ∷ []) ∷ []) (assign (named n.a ∷ named n.b ∷ []) (named
    n.b ∷ named n.a ∷ []) ∷ wrch (plus (number 48) (named n.a)) ∷ wrch (plus (number 48) (named n.b)) ∷ [])))
    -- `&` in a condition stops at a false first part.
    --   LET P(C, B) = VALOF $( WRCH(C); RESULTIS B $)
    --   LET START() BE $( IF P('A', FALSE) & P('B', TRUE) DO WRCH('!'); IF P('C', TRUE) & P('D', TRUE) DO WRCH('!') $)
    ∷ takes 41 [] (Ends (65 ∷ 67 ∷ 68 ∷ 33 ∷ []) [] 3 (status 0)) (Going (65 ∷ 67 ∷ 68 ∷ []) [] 3 1)
    (program (a_function n.p (n.c ∷ n.b ∷ []) (valof (compound (wrch (named n.c) ∷ result (named n.b) ∷ []))) ∷ a_routine n.start [] (compound (when
    true (binary o.Both (apply (named n.p) (number 65 ∷ truth false ∷ [])) (apply (named n.p) (number 66 ∷ truth true ∷ []))) (wrch (number 33)) ∷
    when true (binary o.Both (apply (named n.p) (number 67 ∷ truth true ∷ [])) (apply (named n.p) (number 68 ∷ truth true ∷ []))) (wrch (number 33)) ∷
    [])) ∷ []))
    -- `|` in a condition stops at a true first part.
    --   LET P(C, B) = VALOF $( WRCH(C); RESULTIS B $)
    --   LET START() BE $( IF P('A', TRUE) | P('B', TRUE) DO WRCH('!'); IF P('C', FALSE) | P('D', FALSE) DO WRCH('!') $)
    ∷ takes 41 [] (Ends (65 ∷ 33 ∷ 67 ∷ 68 ∷ []) [] 3 (status 0)) (Going (65 ∷ 33 ∷ 67 ∷ 68 ∷ []) [] 3 1)
    (program (a_function n.p (n.c ∷ n.b ∷ []) (valof (compound (wrch (named n.c) ∷ result (named n.b) ∷ []))) ∷ a_routine n.start [] (compound (when
    true (binary o.Either (apply (named n.p) (number 65 ∷ truth true ∷ [])) (apply (named n.p) (number 66 ∷ truth true ∷ []))) (wrch (number 33)) ∷
    when true (binary o.Either (apply (named n.p) (number 67 ∷ truth false ∷ [])) (apply (named n.p) (number 68 ∷ truth false ∷ []))) (wrch (number
    33)) ∷ [])) ∷ []))
    -- As a value `&` works on all bits of both sides.
    --   LET P(C, B) = VALOF $( WRCH(C); RESULTIS B $)
    --   LET START() BE WRCH('0' + (P('A', 4) & P('B', 6)))
    ∷ takes 28 [] (Ends (65 ∷ 66 ∷ 52 ∷ []) [] 3 (status 0)) (Going (65 ∷ 66 ∷ []) [] 3 1)
    (program (a_function n.p (n.c ∷ n.b ∷ []) (valof (compound (wrch (named n.c) ∷ result (named n.b) ∷ []))) ∷ a_routine n.start [] (wrch (plus
    (number 48) (parens (binary o.Both (apply (named n.p) (number 65 ∷ number 4 ∷ [])) (apply (named n.p) (number 66 ∷ number 6 ∷ [])))))) ∷ []))
    -- NOT in a condition turns its truth, through parentheses.
    --   LET START() BE $( TEST NOT (2 & 1) DO WRCH('N') OR WRCH('Y'); WRCH('0' + ((NOT 2) & 7)) $)
    ∷ takes 20 [] (Ends (89 ∷ 53 ∷ []) [] 2 (status 0)) (Going (89 ∷ []) [] 2 1)
    (main (compound (test (unary q.Not (parens (binary o.Both (number 2) (number 1)))) (wrch (number 78)) (wrch (number 89)) ∷ wrch (plus (number 48)
    (parens (binary o.Both (parens (unary q.Not (number 2))) (number 7)))) ∷ [])))
    -- B of a chain is evaluated each time that its part is.
    --   LET P(C) = VALOF $( WRCH(C); RESULTIS C $)
    --   LET START() BE $( IF P('A') < P('B') < P('C') DO WRCH('1'); IF P('B') < P('A') < P('C') DO WRCH('2') $)
    ∷ takes 71 [] (Ends (65 ∷ 66 ∷ 66 ∷ 67 ∷ 49 ∷ 66 ∷ 65 ∷ []) [] 3 (status 0)) (Going (65 ∷ 66 ∷ 66 ∷ 67 ∷ 49 ∷ 66 ∷ 65 ∷ []) [] 3 1)
    (program (a_function n.p (n.c ∷ []) (valof (compound (wrch (named n.c) ∷ result (named n.c) ∷ []))) ∷ a_routine n.start [] (compound (when true
    (binary o.Both (binary o.Less (apply (named n.p) (number 65 ∷ [])) (apply (named n.p) (number 66 ∷ []))) (binary o.Less (apply (named n.p) (number
    66 ∷ [])) (apply (named n.p) (number 67 ∷ [])))) (wrch (number 49)) ∷ when true (binary o.Both (binary o.Less (apply (named n.p) (number 66 ∷ []))
    (apply (named n.p) (number 65 ∷ []))) (binary o.Less (apply (named n.p) (number 65 ∷ [])) (apply (named n.p) (number 67 ∷ [])))) (wrch (number
    50)) ∷ [])) ∷ []))
    -- FOR takes its limit once.
    --   LET START() BE
    --   $( LET N = 2; FOR I = 1 TO N DO $( N := N + 1; WRCH('0' + I) $) $)
    ∷ takes 29 [] (Ends (49 ∷ 50 ∷ []) [] 2 (status 0)) (Going (49 ∷ []) [] 2 1)
    (main (block (a_variable n.n (number 2) ∷ []) (for_loop n.i (number 1) (named n.n) [] (compound (set n.n (plus (named n.n) (number 1)) ∷ wrch
    (plus (number 48) (named n.i)) ∷ [])) ∷ [])))
    -- FOR tests and steps on its variable, which the body may change.
    --   LET START() BE FOR I = 1 TO 6 DO $( I := I + 1; WRCH('0' + I) $)
    ∷ takes 38 [] (Ends (50 ∷ 52 ∷ 54 ∷ []) [] 2 (status 0)) (Going (50 ∷ 52 ∷ []) [] 2 1)
    (main (for_loop n.i (number 1) (number 6) [] (compound (set n.i (plus (named n.i) (number 1)) ∷ wrch (plus (number 48) (named n.i)) ∷ []))))
    -- FOR with a step below 0, and one that does not run.
    --   LET START() BE $( FOR I = 3 TO 1 BY -1 DO WRCH('0' + I); FOR I = 2 TO 1 DO WRCH('!') $)
    ∷ takes 24 [] (Ends (51 ∷ 50 ∷ 49 ∷ []) [] 2 (status 0)) (Going (51 ∷ 50 ∷ 49 ∷ []) [] 2 1)
    (main (compound (for_loop n.i (number 3) (number 1) (unary q.Minus (number 1) ∷ []) (wrch (plus (number 48) (named n.i))) ∷ for_loop n.i (number
    2) (number 1) [] (wrch (number 33)) ∷ [])))
    -- FOR over the addresses of one object.
    --   LET START() BE $( LET V = VEC 2; FOR P = V TO V + 2 DO !P := P - V + 'A'; WRCH(V!0); WRCH(V!2) $)
    ∷ takes 44 [] (Ends (65 ∷ 67 ∷ []) [] 2 (status 0)) (Going (65 ∷ []) [] 2 1)
    (main (block (a_vector n.v (number 2) ∷ []) (for_loop n.p (named n.v) (plus (named n.v) (number 2)) [] (store (contents (named n.p)) (plus (binary
    o.Subtract (named n.p) (named n.v)) (number 65))) ∷ wrch (element (named n.v) (number 0)) ∷ wrch (element (named n.v) (number 2)) ∷ [])))
    -- WHILE, UNTIL, REPEATWHILE and REPEATUNTIL.
    --   LET START() BE
    --   $( LET I = 0;
    --      WHILE I < 2 DO I := I + 1;
    --      UNTIL I = 4 DO I := I + 1;
    --      $( I := I + 1; WRCH('0' + I) $) REPEATWHILE I < 6;
    --      WRCH('A') REPEATUNTIL TRUE
    --   $)
    ∷ takes 80 [] (Ends (53 ∷ 54 ∷ 65 ∷ []) [] 2 (status 0)) (Going (53 ∷ 54 ∷ 65 ∷ []) [] 2 1)
    (main (block (a_variable n.i (number 0) ∷ []) (while true (binary o.Less (named n.i) (number 2)) (set n.i (plus (named n.i) (number 1))) ∷ while
    false (binary o.Equal (named n.i) (number 4)) (set n.i (plus (named n.i) (number 1))) ∷ repeat_while true (compound (set n.i (plus (named n.i)
    (number 1)) ∷ wrch (plus (number 48) (named n.i)) ∷ [])) (binary o.Less (named n.i) (number 6)) ∷ repeat_while false (wrch (number 65)) (truth
    true) ∷ [])))
    -- BREAK and LOOP in each kind of loop.
    --   LET START() BE
    --   $( LET I = 0;
    --      FOR J = 1 TO 9 DO $( IF J = 2 DO LOOP; IF J = 4 DO BREAK; WRCH('0' + J) $);
    --      WHILE TRUE DO $( I := I + 1; IF I < 3 DO LOOP; BREAK $);
    --      $( I := I + 1; IF I < 6 DO LOOP; BREAK $) REPEAT;
    --      $( I := I + 1; IF I = 7 DO LOOP; WRCH('R') $) REPEATWHILE I < 8;
    --      WRCH('0' + I)
    --   $)
    ∷ takes 165 [] (Ends (49 ∷ 51 ∷ 82 ∷ 56 ∷ []) [] 2 (status 0)) (Going (49 ∷ 51 ∷ 82 ∷ []) [] 2 1)
    (main (block (a_variable n.i (number 0) ∷ []) (for_loop n.j (number 1) (number 9) [] (compound (when true (binary o.Equal (named n.j) (number 2))
    (simple k.Loop) ∷ when true (binary o.Equal (named n.j) (number 4)) (simple k.Break) ∷ wrch (plus (number 48) (named n.j)) ∷ [])) ∷ while true
    (truth true) (compound (set n.i (plus (named n.i) (number 1)) ∷ when true (binary o.Less (named n.i) (number 3)) (simple k.Loop) ∷ simple k.Break
    ∷ [])) ∷ repeat (compound (set n.i (plus (named n.i) (number 1)) ∷ when true (binary o.Less (named n.i) (number 6)) (simple k.Loop) ∷ simple
    k.Break ∷ [])) ∷ repeat_while true (compound (set n.i (plus (named n.i) (number 1)) ∷ when true (binary o.Equal (named n.i) (number 7)) (simple
    k.Loop) ∷ wrch (number 82) ∷ [])) (binary o.Less (named n.i) (number 8)) ∷ wrch (plus (number 48) (named n.i)) ∷ [])))
    -- A formal without an argument is unset, and may be set.
    --   LET F(A, B) = VALOF $( B := A + 1; RESULTIS B $)
    --   LET START() BE WRCH(F('A'))
    ∷ takes 14 [] (Ends (66 ∷ []) [] 2 (status 0)) (Going [] [] 2 1)
    (program (a_function n.f (n.a ∷ n.b ∷ []) (valof (compound (set n.b (plus (named n.a) (number 1)) ∷ result (named n.b) ∷ []))) ∷ a_routine n.start
    [] (wrch (apply (named n.f) (number 65 ∷ []))) ∷ []))
    -- All values of a LET come before its names.
    --   LET START() BE
    --   $( LET A = 1; $( LET A = A + 1 AND B = A; WRCH('0' + A); WRCH('0' + B) $) $)
    ∷ takes 20 [] (Ends (50 ∷ 49 ∷ []) [] 2 (status 0)) (Going (50 ∷ []) [] 2 1)
    (main (block (a_variable n.a (number 1) ∷ []) (block (lets (variables (n.a ∷ []) (value (plus (named n.a) (number 1)) ∷ []) ∷ variables (n.b ∷ [])
    (value (named n.a) ∷ []) ∷ []) ∷ []) (wrch (plus (number 48) (named n.a)) ∷ wrch (plus (number 48) (named n.b)) ∷ []) ∷ [])))
    -- A later procedure of a global replaces an earlier one, also a routine of the library.
    --   GLOBAL $( F:100 $)
    --   LET F() BE WRCH('1')
    --   AND WRCH(C) BE WRITED(C, 0)
    --   .
    --   GLOBAL $( F:100 $)
    --   LET F() BE WRITES("2")
    --   LET START() BE F()
    ∷ takes 5 [] (Ends (50 ∷ []) [] 3 (status 0)) (Going [] [] 2 1)
    (with_header (constants s.Global (item n.f (number 100) ∷ []) ∷ lets (routine n.f [] (wrch (number 49)) ∷ routine n.wrch (n.c ∷ []) (call (named
    n.writed) (named n.c ∷ number 0 ∷ [])) ∷ []) ∷ []) ∷ with_header (constants s.Global (item n.f (number 100) ∷ []) ∷ a_routine n.f [] (writes (text
    (50 ∷ []))) ∷ a_routine n.start [] (call (named n.f) []) ∷ []) ∷ [])
    -- TEST and `->` take one branch.
    --   LET START() BE $( TEST TRUE DO WRCH('A') OR WRCH('B'); UNLESS FALSE DO WRCH('C'); WRCH(FALSE -> 'D', 'E') $)
    ∷ takes 16 [] (Ends (65 ∷ 67 ∷ 69 ∷ []) [] 2 (status 0)) (Going (65 ∷ 67 ∷ []) [] 2 1)
    (main (compound (test (truth true) (wrch (number 65)) (wrch (number 66)) ∷ when false (truth false) (wrch (number 67)) ∷ wrch (choice (truth
    false) (number 68) (number 69)) ∷ [])))
    -- A switch goes to its DEFAULT, or does nothing.
    --   LET START() BE FOR I = 1 TO 2 DO
    --   $( SWITCHON I INTO $( DEFAULT: WRCH('D'); CASE 2: WRCH('2') $);
    --      SWITCHON I INTO WRCH('!')
    --   $)
    ∷ takes 28 [] (Ends (68 ∷ 50 ∷ 50 ∷ []) [] 2 (status 0)) (Going (68 ∷ 50 ∷ 50 ∷ []) [] 2 1)
    (main (for_loop n.i (number 1) (number 2) [] (compound (switch (named n.i) (compound (default (wrch (number 68)) ∷ case (number 2) (wrch (number
    50)) ∷ [])) ∷ switch (named n.i) (wrch (number 33)) ∷ []))))
    ∷ []

rows_right : Right rows
rows_right = refl
