-- GOTO and SWITCHON into each form of command that can be entered.
use Rattle.bk_meaning.proofs.Terms.{List, true, false, [], ◌∷◌, refl, Operator as o, Simple as k, Sort as s, status, Ends, Going}
use Rattle.bk_meaning.proofs.Rows.Nodes.{named, number, truth, binary, call, goto, label, case, default, when, test, while, for_loop, switch, simple, compound, block, repeat, repeat_while, constants, item, Row, takes, Right, a_routine, a_variable, a_vector, element, main, plus, program, set, store, wrch}
use Rattle.bk_meaning.proofs.Rows.Names as n

abbrev rows : List Row
rows =
    -- Into a WHILE, which then goes on looping.
    --   LET START() BE $( LET I = 0; GOTO M; WHILE I < 3 DO $( WRCH('A'); M: WRCH('B'); I := I + 1 $); WRCH('C') $)
    takes 55 [] (Ends (66 ∷ 65 ∷ 66 ∷ 65 ∷ 66 ∷ 67 ∷ []) [] 2 (status 0)) (Going (66 ∷ 65 ∷ 66 ∷ 65 ∷ 66 ∷ []) [] 2 1)
    (main (block (a_variable n.i (number 0) ∷ []) (goto n.m ∷ while true (binary o.Less (named n.i) (number 3)) (compound (wrch (number 65) ∷ label
    n.m (wrch (number 66)) ∷ set n.i (plus (named n.i) (number 1)) ∷ [])) ∷ wrch (number 67) ∷ [])))
    -- Into an UNTIL.
    --   LET START() BE $( LET I = 0; GOTO M; UNTIL I = 2 DO $( WRCH('A'); M: WRCH('B'); I := I + 1 $) $)
    ∷ takes 35 [] (Ends (66 ∷ 65 ∷ 66 ∷ []) [] 2 (status 0)) (Going (66 ∷ 65 ∷ 66 ∷ []) [] 2 1)
    (main (block (a_variable n.i (number 0) ∷ []) (goto n.m ∷ while false (binary o.Equal (named n.i) (number 2)) (compound (wrch (number 65) ∷ label
    n.m (wrch (number 66)) ∷ set n.i (plus (named n.i) (number 1)) ∷ [])) ∷ [])))
    -- Into a REPEAT.
    --   LET START() BE $( LET I = 0; GOTO M; $( WRCH('A'); M: WRCH('B'); I := I + 1; IF I = 2 DO BREAK $) REPEAT $)
    ∷ takes 38 [] (Ends (66 ∷ 65 ∷ 66 ∷ []) [] 2 (status 0)) (Going (66 ∷ 65 ∷ 66 ∷ []) [] 2 1)
    (main (block (a_variable n.i (number 0) ∷ []) (goto n.m ∷ repeat (compound (wrch (number 65) ∷ label n.m (wrch (number 66)) ∷ set n.i (plus (named
    n.i) (number 1)) ∷ when true (binary o.Equal (named n.i) (number 2)) (simple k.Break) ∷ [])) ∷ [])))
    -- Into a REPEATWHILE.
    --   LET START() BE $( LET I = 0; GOTO M; $( WRCH('A'); M: WRCH('B'); I := I + 1 $) REPEATWHILE I < 2 $)
    ∷ takes 35 [] (Ends (66 ∷ 65 ∷ 66 ∷ []) [] 2 (status 0)) (Going (66 ∷ 65 ∷ 66 ∷ []) [] 2 1)
    (main (block (a_variable n.i (number 0) ∷ []) (goto n.m ∷ repeat_while true (compound (wrch (number 65) ∷ label n.m (wrch (number 66)) ∷ set n.i
    (plus (named n.i) (number 1)) ∷ [])) (binary o.Less (named n.i) (number 2)) ∷ [])))
    -- Into a REPEATUNTIL.
    --   LET START() BE $( LET I = 0; GOTO M; $( WRCH('A'); M: WRCH('B'); I := I + 1 $) REPEATUNTIL I = 2 $)
    ∷ takes 35 [] (Ends (66 ∷ 65 ∷ 66 ∷ []) [] 2 (status 0)) (Going (66 ∷ 65 ∷ 66 ∷ []) [] 2 1)
    (main (block (a_variable n.i (number 0) ∷ []) (goto n.m ∷ repeat_while false (compound (wrch (number 65) ∷ label n.m (wrch (number 66)) ∷ set n.i
    (plus (named n.i) (number 1)) ∷ [])) (binary o.Equal (named n.i) (number 2)) ∷ [])))
    -- Into an IF and an UNLESS, without their tests.
    --   LET START() BE $( GOTO M; IF FALSE DO $( WRCH('A'); M: WRCH('B') $); GOTO K; UNLESS TRUE DO $( WRCH('A'); K: WRCH('C') $) $)
    ∷ takes 17 [] (Ends (66 ∷ 67 ∷ []) [] 2 (status 0)) (Going (66 ∷ []) [] 2 1)
    (main (compound (goto n.m ∷ when true (truth false) (compound (wrch (number 65) ∷ label n.m (wrch (number 66)) ∷ [])) ∷ goto n.k ∷ when false
    (truth true) (compound (wrch (number 65) ∷ label n.k (wrch (number 67)) ∷ [])) ∷ [])))
    -- Into both branches of a TEST.
    --   LET START() BE $( GOTO M; TEST FALSE DO $( WRCH('!'); M: WRCH('A') $) OR $( WRCH('!'); K: WRCH('B'); FINISH $); GOTO K $)
    ∷ takes 18 [] (Ends (65 ∷ 66 ∷ []) [] 2 (status 0)) (Going (65 ∷ 66 ∷ []) [] 2 1)
    (main (compound (goto n.m ∷ test (truth false) (compound (wrch (number 33) ∷ label n.m (wrch (number 65)) ∷ [])) (compound (wrch (number 33) ∷
    label n.k (wrch (number 66)) ∷ simple k.Finish ∷ [])) ∷ goto n.k ∷ [])))
    -- Into a compound in a compound.
    --   LET START() BE $( GOTO M; $( WRCH('!'); $( WRCH('!'); M: WRCH('A') $); WRCH('B') $) $)
    ∷ takes 12 [] (Ends (65 ∷ 66 ∷ []) [] 2 (status 0)) (Going (65 ∷ []) [] 2 1)
    (main (compound (goto n.m ∷ compound (wrch (number 33) ∷ compound (wrch (number 33) ∷ label n.m (wrch (number 65)) ∷ []) ∷ wrch (number 66) ∷ [])
    ∷ [])))
    -- Past a label, a CASE and a DEFAULT before the one that is sought.
    --   LET START() BE $( GOTO M; SWITCHON 1 INTO $( WRCH('!'); K: CASE 1: DEFAULT: M: WRCH('A'); ENDCASE; CASE 2: WRCH('!') $); WRCH('B') $)
    ∷ takes 16 [] (Ends (65 ∷ 66 ∷ []) [] 2 (status 0)) (Going (65 ∷ []) [] 2 1)
    (main (compound (goto n.m ∷ switch (number 1) (compound (wrch (number 33) ∷ label n.k (case (number 1) (default (label n.m (wrch (number 65))))) ∷
    simple k.EndCase ∷ case (number 2) (wrch (number 33)) ∷ [])) ∷ wrch (number 66) ∷ [])))
    -- Into a SWITCHON by a label: ENDCASE still leaves it.
    --   LET START() BE $( GOTO M; SWITCHON 1 INTO $( CASE 1: WRCH('!'); M: WRCH('A'); CASE 2: WRCH('B'); ENDCASE; CASE 3: WRCH('!') $); WRCH('C') $)
    ∷ takes 17 [] (Ends (65 ∷ 66 ∷ 67 ∷ []) [] 2 (status 0)) (Going (65 ∷ 66 ∷ []) [] 2 1)
    (main (compound (goto n.m ∷ switch (number 1) (compound (case (number 1) (wrch (number 33)) ∷ label n.m (wrch (number 65)) ∷ case (number 2) (wrch
    (number 66)) ∷ simple k.EndCase ∷ case (number 3) (wrch (number 33)) ∷ [])) ∷ wrch (number 67) ∷ [])))
    -- A CASE inside a WHILE inside the switch.
    --   LET START() BE $( LET I = 0; SWITCHON 2 INTO WHILE I < 3 DO $( CASE 1: WRCH('A'); CASE 2: WRCH('B'); I := I + 1 $) $)
    ∷ takes 55 [] (Ends (66 ∷ 65 ∷ 66 ∷ 65 ∷ 66 ∷ []) [] 2 (status 0)) (Going (66 ∷ 65 ∷ 66 ∷ 65 ∷ 66 ∷ []) [] 2 1)
    (main (block (a_variable n.i (number 0) ∷ []) (switch (number 2) (while true (binary o.Less (named n.i) (number 3)) (compound (case (number 1)
    (wrch (number 65)) ∷ case (number 2) (wrch (number 66)) ∷ set n.i (plus (named n.i) (number 1)) ∷ []))) ∷ [])))
    -- A CASE in a branch of a TEST, and a DEFAULT in the other.
    --   LET F(N) BE SWITCHON N INTO TEST TRUE DO $( WRCH('!'); CASE 1: WRCH('A') $) OR $( WRCH('!'); DEFAULT: WRCH('D') $)
    --   LET START() BE $( F(1); F(2) $)
    ∷ takes 23 [] (Ends (65 ∷ 68 ∷ []) [] 3 (status 0)) (Going (65 ∷ []) [] 3 1)
    (program (a_routine n.f (n.n ∷ []) (switch (named n.n) (test (truth true) (compound (wrch (number 33) ∷ case (number 1) (wrch (number 65)) ∷ []))
    (compound (wrch (number 33) ∷ default (wrch (number 68)) ∷ [])))) ∷ a_routine n.start [] (compound (call (named n.f) (number 1 ∷ []) ∷ call (named
    n.f) (number 2 ∷ []) ∷ [])) ∷ []))
    -- A CASE of an inner switch is not one of the outer.
    --   LET START() BE $( SWITCHON 2 INTO $( CASE 1: SWITCHON 2 INTO $( CASE 2: WRCH('!') $); ENDCASE; DEFAULT: WRCH('D') $) $)
    ∷ takes 8 [] (Ends (68 ∷ []) [] 2 (status 0)) (Going [] [] 1 1)
    (main (compound (switch (number 2) (compound (case (number 1) (switch (number 2) (compound (case (number 2) (wrch (number 33)) ∷ []))) ∷ simple
    k.EndCase ∷ default (wrch (number 68)) ∷ [])) ∷ [])))
    -- A label of a FOR's body, from inside it.
    --   LET START() BE $( FOR I = 1 TO 2 DO $( LET J = I; L: WRCH('0' + J); J := J + 2; IF J < 4 DO GOTO L $) $)
    ∷ takes 57 [] (Ends (49 ∷ 51 ∷ 50 ∷ []) [] 2 (status 0)) (Going (49 ∷ 51 ∷ 50 ∷ []) [] 2 1)
    (main (compound (for_loop n.i (number 1) (number 2) [] (block (a_variable n.j (named n.i) ∷ []) (label n.l (wrch (plus (number 48) (named n.j))) ∷
    set n.j (plus (named n.j) (number 2)) ∷ when true (binary o.Less (named n.j) (number 4)) (goto n.l) ∷ [])) ∷ [])))
    -- From a block to a label in front of it: its own objects are new, those of the scope are kept.
    --   LET START() BE $( LET N = 0; L: $( LET V = VEC 0; V!0 := N; N := N + 1; WRCH('0' + V!0); IF N < 3 DO GOTO L $) $)
    ∷ takes 80 [] (Ends (48 ∷ 49 ∷ 50 ∷ []) [] 2 (status 0)) (Going (48 ∷ 49 ∷ 50 ∷ []) [] 2 1)
    (main (block (a_variable n.n (number 0) ∷ []) (label n.l (block (a_vector n.v (number 0) ∷ []) (store (element (named n.v) (number 0)) (named n.n)
    ∷ set n.n (plus (named n.n) (number 1)) ∷ wrch (plus (number 48) (element (named n.v) (number 0))) ∷ when true (binary o.Less (named n.n) (number
    3)) (goto n.l) ∷ [])) ∷ [])))
    -- Backwards in one scope.
    --   LET START() BE $( LET N = 0; L: N := N + 1; WRCH('0' + N); IF N < 3 DO GOTO L; WRCH('.') $)
    ∷ takes 53 [] (Ends (49 ∷ 50 ∷ 51 ∷ 46 ∷ []) [] 2 (status 0)) (Going (49 ∷ 50 ∷ 51 ∷ []) [] 2 1)
    (main (block (a_variable n.n (number 0) ∷ []) (label n.l (set n.n (plus (named n.n) (number 1))) ∷ wrch (plus (number 48) (named n.n)) ∷ when true
    (binary o.Less (named n.n) (number 3)) (goto n.l) ∷ wrch (number 46) ∷ [])))
    -- CASEs of constant expressions.
    --   MANIFEST $( A = 'A' $)
    --   LET START() BE $( FOR I = 'A' TO 'C' DO SWITCHON I INTO $( CASE A: WRCH('1'); ENDCASE; CASE A + 1: WRCH('2'); ENDCASE; DEFAULT: WRCH('3') $) $)
    ∷ takes 29 [] (Ends (49 ∷ 50 ∷ 51 ∷ []) [] 2 (status 0)) (Going (49 ∷ 50 ∷ []) [] 2 1)
    (program (constants s.Manifest (item n.a (number 65) ∷ []) ∷ a_routine n.start [] (compound (for_loop n.i (number 65) (number 67) [] (switch
    (named n.i) (compound (case (named n.a) (wrch (number 49)) ∷ simple k.EndCase ∷ case (plus (named n.a) (number 1)) (wrch (number 50)) ∷ simple
    k.EndCase ∷ default (wrch (number 51)) ∷ []))) ∷ [])) ∷ []))
    ∷ []

rows_right : Right rows
rows_right = refl
