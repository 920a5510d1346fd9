-- Exits out of a VALOF, and what they leave behind.
use Rattle.bk_meaning.proofs.Terms.{List, true, [], ◌∷◌, ◌++◌, refl, Operator as o, Simple as k, status, divide_by_zero, digits, Ends, Going, Undefined, address, beyond}
use Rattle.bk_meaning.proofs.Rows.Nodes.{named, number, binary, choice, apply, valof, call, goto, label, case, when, for_loop, switch, result, simple, compound, block, Row, takes, Right, a_function, a_routine, a_variable, a_vector, main, plus, program, set, wrch, writen}
use Rattle.bk_meaning.proofs.Rows.Names as n

abbrev rows : List Row
rows =
    -- RESULTIS, out of a loop, a switch and a block.
    --   LET START() BE $( LET N = VALOF FOR I = 1 TO 9 DO SWITCHON I INTO $( CASE 3: $( LET X = I; RESULTIS X $) $); WRCH('0' + N) $)
    takes 26 [] (Ends (51 ∷ []) [] 2 (status 0)) (Going [] [] 1 1)
    (main (block (a_variable n.n (valof (for_loop n.i (number 1) (number 9) [] (switch (named n.i) (compound (case (number 3) (block (a_variable n.x
    (named n.i) ∷ []) (result (named n.x) ∷ [])) ∷ []))))) ∷ []) (wrch (plus (number 48) (named n.n)) ∷ [])))
    -- A VALOF that ends without RESULTIS is unset, and may be dropped.
    --   LET START() BE $( LET X = VALOF WRCH('A'); X := VALOF WRCH('B') $)
    ∷ takes 12 [] (Ends (65 ∷ 66 ∷ []) [] 2 (status 0)) (Going (65 ∷ 66 ∷ []) [] 2 1)
    (main (block (a_variable n.x (valof (wrch (number 65))) ∷ []) (set n.x (valof (wrch (number 66))) ∷ [])))
    -- GOTO to a label before it.
    --   LET START() BE $( LET N = 0; L: N := N + 1; WRITEN(10 + VALOF $( IF N < 3 DO GOTO L; RESULTIS N $)); WRCH('.') $)
    ∷ takes 56 [] (Ends ((digits 13) ++ (46 ∷ [])) [] 2 (status 0)) (Going (digits 13) [] 2 1)
    (main (block (a_variable n.n (number 0) ∷ []) (label n.l (set n.n (plus (named n.n) (number 1))) ∷ writen (plus (number 10) (valof (compound (when
    true (binary o.Less (named n.n) (number 3)) (goto n.l) ∷ result (named n.n) ∷ [])))) ∷ wrch (number 46) ∷ [])))
    -- GOTO to a label behind it: neither the operator nor the call nor the store happens.
    --   LET START() BE $( LET N = 1; N := 10 + VALOF GOTO L; N := 2; L: WRCH('0' + N) $)
    ∷ takes 14 [] (Ends (49 ∷ []) [] 2 (status 0)) (Going [] [] 1 1)
    (main (block (a_variable n.n (number 1) ∷ []) (set n.n (plus (number 10) (valof (goto n.l))) ∷ set n.n (number 2) ∷ label n.l (wrch (plus (number
    48) (named n.n))) ∷ [])))
    -- GOTO out of an argument: later arguments are not reached.
    --   LET P(C) = VALOF $( WRCH(C); RESULTIS C $)
    --   LET START() BE $( START(P('A'), VALOF GOTO L, P('B')); L: WRCH('.') $)
    ∷ takes 19 [] (Ends (65 ∷ 46 ∷ []) [] 3 (status 0)) (Going (65 ∷ []) [] 3 1)
    (program (a_function n.p (n.c ∷ []) (valof (compound (wrch (named n.c) ∷ result (named n.c) ∷ []))) ∷ a_routine n.start [] (compound (call (named
    n.start) (apply (named n.p) (number 65 ∷ []) ∷ valof (goto n.l) ∷ apply (named n.p) (number 66 ∷ []) ∷ []) ∷ label n.l (wrch (number 46)) ∷ [])) ∷
    []))
    -- GOTO out of a VALOF in a VALOF in a FOR with a block; their objects are dead behind it.
    --   LET START() BE $( LET P = 0; FOR I = 1 TO 3 DO $( LET V = VEC 2; P := V; WRITEN(VALOF RESULTIS 1 + VALOF GOTO L) $); L: WRCH('A'); WRCH(P -> 'B', 'C') $)
    ∷ takes 26 [] (Undefined (65 ∷ []) [] 2 1 (beyond (address 5 0))) (Going (65 ∷ []) [] 2 1)
    (main (block (a_variable n.p (number 0) ∷ []) (for_loop n.i (number 1) (number 3) [] (block (a_vector n.v (number 2) ∷ []) (set n.p (named n.v) ∷
    writen (valof (result (plus (number 1) (valof (goto n.l))))) ∷ [])) ∷ label n.l (wrch (number 65)) ∷ wrch (choice (named n.p) (number 66) (number
    67)) ∷ [])))
    -- RETURN out of a VALOF leaves the routine.
    --   LET F() BE $( LET N = 1; N := 1 + VALOF $( WRCH('A'); RETURN $); WRCH('!') $)
    --   LET START() BE $( F(); WRCH('B') $)
    ∷ takes 18 [] (Ends (65 ∷ 66 ∷ []) [] 3 (status 0)) (Going (65 ∷ []) [] 3 1)
    (program (a_routine n.f [] (block (a_variable n.n (number 1) ∷ []) (set n.n (plus (number 1) (valof (compound (wrch (number 65) ∷ simple k.Return
    ∷ [])))) ∷ wrch (number 33) ∷ [])) ∷ a_routine n.start [] (compound (call (named n.f) [] ∷ wrch (number 66) ∷ [])) ∷ []))
    -- FINISH in a VALOF.
    --   LET START() BE $( WRCH('A'); WRITEN(VALOF FINISH); WRCH('!') $)
    ∷ takes 7 [] (Ends (65 ∷ []) [] 2 (status 0)) (Going (65 ∷ []) [] 2 1)
    (main (compound (wrch (number 65) ∷ writen (valof (simple k.Finish)) ∷ wrch (number 33) ∷ [])))
    -- STOP in a VALOF.
    --   LET START() BE $( WRCH('A'); WRITEN(VALOF STOP(7)); WRCH('!') $)
    ∷ takes 9 [] (Ends (65 ∷ []) [] 2 (status 7)) (Going (65 ∷ []) [] 2 1)
    (main (compound (wrch (number 65) ∷ writen (valof (call (named n.stop) (number 7 ∷ []))) ∷ wrch (number 33) ∷ [])))
    -- A division by zero in a VALOF.
    --   LET START() BE $( WRCH('A'); WRITEN(VALOF RESULTIS 1 REM 0); WRCH('!') $)
    ∷ takes 10 [] (Ends (65 ∷ []) [] 2 (divide_by_zero 1)) (Going (65 ∷ []) [] 2 1)
    (main (compound (wrch (number 65) ∷ writen (valof (result (binary o.Rem (number 1) (number 0)))) ∷ wrch (number 33) ∷ [])))
    -- BREAK, LOOP and ENDCASE in a VALOF are those of loops and switches in it.
    --   LET START() BE $( LET N = VALOF $( FOR I = 1 TO 9 DO $( IF I = 2 DO LOOP; IF I = 4 DO BREAK; SWITCHON I INTO $( CASE 1: ENDCASE; CASE 3: WRCH('3') $) $); RESULTIS 5 $); WRCH('0' + N) $)
    ∷ takes 63 [] (Ends (51 ∷ 53 ∷ []) [] 2 (status 0)) (Going (51 ∷ []) [] 2 1)
    (main (block (a_variable n.n (valof (compound (for_loop n.i (number 1) (number 9) [] (compound (when true (binary o.Equal (named n.i) (number 2))
    (simple k.Loop) ∷ when true (binary o.Equal (named n.i) (number 4)) (simple k.Break) ∷ switch (named n.i) (compound (case (number 1) (simple
    k.EndCase) ∷ case (number 3) (wrch (number 51)) ∷ [])) ∷ [])) ∷ result (number 5) ∷ []))) ∷ []) (wrch (plus (number 48) (named n.n)) ∷ [])))
    -- A VALOF has labels of its own, which hide those around it.
    --   LET START() BE $( GOTO M; L: WRCH('O'); FINISH; M: WRCH(VALOF $( GOTO L; L: RESULTIS 'I' $)); GOTO L $)
    ∷ takes 20 [] (Ends (73 ∷ 79 ∷ []) [] 2 (status 0)) (Going (73 ∷ 79 ∷ []) [] 2 1)
    (main (compound (goto n.m ∷ label n.l (wrch (number 79)) ∷ simple k.Finish ∷ label n.m (wrch (valof (compound (goto n.l ∷ label n.l (result
    (number 73)) ∷ [])))) ∷ goto n.l ∷ [])))
    ∷ []

rows_right : Right rows
rows_right = refl
