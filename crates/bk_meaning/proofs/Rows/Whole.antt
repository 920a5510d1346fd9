-- Whole programs.
use Rattle.bk_meaning.proofs.Terms.{List, true, false, [], ◌∷◌, ◌++◌, refl, Operator as o, Simple as k, Sort as s, status, divide_by_zero, no_start, digits, Ends, Going}
use Rattle.bk_meaning.proofs.Rows.Nodes.{named, number, text, binary, choice, apply, valof, table, call, goto, label, case, when, while, for_loop, switch, result, simple, compound, block, constants, item, lets, function, variables, value, vector, with_header, Takes, Row, takes, Right, means, a_function, a_routine, a_variable, a_vector, address_of, contents, element, main, plus, program, set, store, wrch, writen, writes}
use Rattle.bk_meaning.proofs.Rows.Names as n

-- Two calls.
--   LET START() BE $( WRCH('H'); WRCH('I') $)
hi : Takes 7 [] (Ends (72 ∷ 73 ∷ []) [] 2 (status 0)) (Going (72 ∷ []) [] 2 1)
    (main (compound (wrch (number 72) ∷ wrch (number 73) ∷ [])))
hi = (refl, refl)

abbrev rows : List Row
rows =
    -- No START: nothing runs.
    --   LET F() BE FINISH
    means 0 [] (Ends [] [] 0 no_start)
    (program (a_routine n.f [] (simple k.Finish) ∷ []))
    -- Copying the input.
    --   LET START() BE
    --   $( LET C = RDCH();
    --      UNTIL C = ENDSTREAMCH DO $( WRCH(C); C := RDCH() $);
    --      WRITEN(RDCH())
    --   $)
    -- Input: 65 66.
    ∷ takes 35 (65 ∷ 66 ∷ []) (Ends ((65 ∷ 66 ∷ []) ++ digits 4294967295) [] 2 (status 0)) (Going (65 ∷ 66 ∷ []) [] 2 1)
    (main (block (a_variable n.c (apply (named n.rdch) []) ∷ []) (while false (binary o.Equal (named n.c) (named n.endstreamch)) (compound (wrch
    (named n.c) ∷ set n.c (apply (named n.rdch) []) ∷ [])) ∷ writen (apply (named n.rdch) []) ∷ [])))
    -- Division by zero.
    --   LET START() BE $( WRCH('A'); WRITEN(7/0) $)
    ∷ takes 8 [] (Ends (65 ∷ []) [] 2 (divide_by_zero 1)) (Going (65 ∷ []) [] 2 1)
    (main (compound (wrch (number 65) ∷ writen (binary o.Over (number 7) (number 0)) ∷ [])))
    -- A `;` before `!`.
    --   LET START() BE $( LET A, B, V = 0, 7, VEC 0; A := B; !V := A; WRITEN(!V) $)
    ∷ takes 16 [] (Ends (digits 7) [] 2 (status 0)) (Going [] [] 1 1)
    (main (block (lets (variables (n.a ∷ n.b ∷ n.v ∷ []) (value (number 0) ∷ value (number 7) ∷ vector (number 0) ∷ []) ∷ []) ∷ []) (set n.a (named
    n.b) ∷ store (contents (named n.v)) (named n.a) ∷ writen (contents (named n.v)) ∷ [])))
    -- The left operand comes first.
    --   LET F(P) = VALOF $( !P := 10; RESULTIS 1 $)
    --   LET START() BE $( LET X = 5; WRITEN(X + F(@X)); WRCH('*S'); WRITEN(X) $)
    ∷ takes 25 [] (Ends (((digits 6) ++ (32 ∷ [])) ++ digits 10) [] 2 (status 0)) (Going ((digits 6) ++ (32 ∷ [])) [] 2 1)
    (program (a_function n.f (n.p ∷ []) (valof (compound (store (contents (named n.p)) (number 10) ∷ result (number 1) ∷ []))) ∷ a_routine n.start []
    (block (a_variable n.x (number 5) ∷ []) (writen (plus (named n.x) (apply (named n.f) (address_of (named n.x) ∷ []))) ∷ wrch (number 32) ∷ writen
    (named n.x) ∷ [])) ∷ []))
    -- GOTO out of a block with a VEC.
    --   LET START() BE
    --   $( LET N = 0;
    --      L: $( LET V = VEC 10; V!0 := N; N := N + 1; IF V!0 < 2 DO GOTO L $);
    --      WRITEN(N)
    --   $)
    ∷ takes 68 [] (Ends (digits 3) [] 2 (status 0)) (Going [] [] 1 1)
    (main (block (a_variable n.n (number 0) ∷ []) (label n.l (block (a_vector n.v (number 10) ∷ []) (store (element (named n.v) (number 0)) (named
    n.n) ∷ set n.n (plus (named n.n) (number 1)) ∷ when true (binary o.Less (element (named n.v) (number 0)) (number 2)) (goto n.l) ∷ [])) ∷ writen
    (named n.n) ∷ [])))
    -- Missing arguments, and further ones.
    --   LET F(A, B) = A
    --   LET START() BE $( WRITEN(F(1)); WRITEN(F(1, 2, 3)) $)
    ∷ takes 15 [] (Ends ((digits 1) ++ digits 1) [] 2 (status 0)) (Going (digits 1) [] 2 1)
    (program (a_function n.f (n.a ∷ n.b ∷ []) (named n.a) ∷ a_routine n.start [] (compound (writen (apply (named n.f) (number 1 ∷ [])) ∷ writen (apply
    (named n.f) (number 1 ∷ number 2 ∷ number 3 ∷ [])) ∷ [])) ∷ []))
    -- FOR.
    --   LET START() BE FOR I = 1 TO 3 DO WRITEN(I)
    ∷ takes 14 [] (Ends (((digits 1) ++ digits 2) ++ digits 3) [] 2 (status 0)) (Going ((digits 1) ++ digits 2) [] 2 1)
    (main (for_loop n.i (number 1) (number 3) [] (writen (named n.i))))
    -- A switch, whose first case falls into the second.
    --   LET START() BE FOR I = 1 TO 4 DO
    --   $( SWITCHON I INTO $( CASE 1: WRCH('A'); CASE 2: WRCH('B'); ENDCASE; CASE 4: WRCH('D') $);
    --      WRCH('.')
    --   $)
    ∷ takes 51 [] (Ends (65 ∷ 66 ∷ 46 ∷ 66 ∷ 46 ∷ 46 ∷ 68 ∷ 46 ∷ []) [] 2 (status 0)) (Going (65 ∷ 66 ∷ 46 ∷ 66 ∷ 46 ∷ 46 ∷ 68 ∷ []) [] 2 1)
    (main (for_loop n.i (number 1) (number 4) [] (compound (switch (named n.i) (compound (case (number 1) (wrch (number 65)) ∷ case (number 2) (wrch
    (number 66)) ∷ simple k.EndCase ∷ case (number 4) (wrch (number 68)) ∷ [])) ∷ wrch (number 46) ∷ []))))
    -- Two sections, one global.
    --   GLOBAL $( DOUBLE:100 $)
    --   LET DOUBLE(N) = N + N
    --   .
    --   GLOBAL $( DOUBLE:100 $)
    --   LET START() BE WRITEN(DOUBLE(21))
    ∷ takes 8 [] (Ends (digits 42) [] 2 (status 0)) (Going [] [] 2 1)
    (with_header (constants s.Global (item n.double (number 100) ∷ []) ∷ a_function n.double (n.n ∷ []) (plus (named n.n) (named n.n)) ∷ []) ∷
    with_header (constants s.Global (item n.double (number 100) ∷ []) ∷ a_routine n.start [] (writen (apply (named n.double) (number 21 ∷ []))) ∷ [])
    ∷ [])
    -- Recursion.
    --   LET FACT(N) = N = 0 -> 1, N * FACT(N - 1)
    --   LET START() BE WRITEN(FACT(5))
    ∷ takes 65 [] (Ends (digits 120) [] 7 (status 0)) (Going [] [] 7 1)
    (program (a_function n.fact (n.n ∷ []) (choice (binary o.Equal (named n.n) (number 0)) (number 1) (binary o.Times (named n.n) (apply (named
    n.fact) (binary o.Subtract (named n.n) (number 1) ∷ [])))) ∷ a_routine n.start [] (writen (apply (named n.fact) (number 5 ∷ []))) ∷ []))
    -- GOTO out of two FORs.
    --   LET START() BE
    --   $( FOR I = 1 TO 3 DO FOR J = 1 TO 3 DO $( IF I * J = 4 DO GOTO OUT; WRITEN(I * J); WRCH('*S') $);
    --      OUT: WRCH('.')
    --   $)
    ∷ takes 87 [] (Ends (((((((((digits 1) ++ (32 ∷ [])) ++ digits 2) ++ (32 ∷ [])) ++ digits 3) ++ (32 ∷ [])) ++ digits 2) ++ (32 ∷ [])) ++ (46 ∷ [])) [] 2 (status 0))
    (Going ((((((((digits 1) ++ (32 ∷ [])) ++ digits 2) ++ (32 ∷ [])) ++ digits 3) ++ (32 ∷ [])) ++ digits 2) ++ (32 ∷ [])) [] 2 1)
    (main (compound (for_loop n.i (number 1) (number 3) [] (for_loop n.j (number 1) (number 3) [] (compound (when true (binary o.Equal (binary o.Times
    (named n.i) (named n.j)) (number 4)) (goto n.out) ∷ writen (binary o.Times (named n.i) (named n.j)) ∷ wrch (number 32) ∷ []))) ∷ label n.out (wrch
    (number 46)) ∷ [])))
    -- The formals of a call are consecutive.
    --   LET SUM(A, B, C) = VALOF
    --   $( LET V, S = @A, 0; FOR I = 0 TO 2 DO S := S + V!I; RESULTIS S $)
    --   LET START() BE WRITEN(SUM(3, 4, 5))
    ∷ takes 41 [] (Ends (digits 12) [] 2 (status 0)) (Going [] [] 2 1)
    (program (a_function n.sum (n.a ∷ n.b ∷ n.c ∷ []) (valof (block (lets (variables (n.v ∷ n.s ∷ []) (value (address_of (named n.a)) ∷ value (number
    0) ∷ []) ∷ []) ∷ []) (for_loop n.i (number 0) (number 2) [] (set n.s (plus (named n.s) (element (named n.v) (named n.i)))) ∷ result (named n.s) ∷
    []))) ∷ a_routine n.start [] (writen (apply (named n.sum) (number 3 ∷ number 4 ∷ number 5 ∷ []))) ∷ []))
    -- A table keeps what was written into it.
    --   LET START() BE FOR I = 1 TO 2 DO
    --   $( LET T = TABLE 5, 6, 7; T!1 := T!1 + 1; WRITEN(T!1) $)
    ∷ takes 38 [] (Ends ((digits 7) ++ digits 8) [] 2 (status 0)) (Going (digits 7) [] 2 1)
    (main (for_loop n.i (number 1) (number 2) [] (block (a_variable n.t (table (number 5 ∷ number 6 ∷ number 7 ∷ [])) ∷ []) (store (element (named
    n.t) (number 1)) (plus (element (named n.t) (number 1)) (number 1)) ∷ writen (element (named n.t) (number 1)) ∷ []))))
    -- A string can be changed.
    --   LET START() BE
    --   $( LET S = "ABC"; PUTBYTE(S, 1, 'X'); FOR I = 1 TO GETBYTE(S, 0) DO WRCH(GETBYTE(S, I)) $)
    ∷ takes 34 [] (Ends (88 ∷ 66 ∷ 67 ∷ []) [] 2 (status 0)) (Going (88 ∷ 66 ∷ []) [] 2 1)
    (main (block (a_variable n.s (text (65 ∷ 66 ∷ 67 ∷ [])) ∷ []) (call (named n.putbyte) (named n.s ∷ number 1 ∷ number 88 ∷ []) ∷ for_loop n.i
    (number 1) (apply (named n.getbyte) (named n.s ∷ number 0 ∷ [])) [] (wrch (apply (named n.getbyte) (named n.s ∷ named n.i ∷ []))) ∷ [])))
    -- Procedures inside procedures, statics and manifests.
    --   STATIC $( K = 3 $)
    --   LET START() BE
    --   $( LET X = 1;
    --      LET F(A) = A + K + G(A)
    --      AND G(B) = VALOF $( LET H(C) = C * 2; RESULTIS H(B) $);
    --      MANIFEST $( W = 4; Z = W + 1 $);
    --      WRITES("S"); WRITEN(F(Z) + X); WRITES("T*N")
    --   $)
    ∷ takes 32 [] (Ends (((83 ∷ []) ++ digits 19) ++ (84 ∷ 10 ∷ [])) [] 4 (status 0)) (Going ((83 ∷ []) ++ digits 19) [] 4 1)
    (program (constants s.Static (item n.k (number 3) ∷ []) ∷ a_routine n.start [] (block (a_variable n.x (number 1) ∷ lets (function n.f (n.a ∷ [])
    (plus (plus (named n.a) (named n.k)) (apply (named n.g) (named n.a ∷ []))) ∷ function n.g (n.b ∷ []) (valof (block (a_function n.h (n.c ∷ [])
    (binary o.Times (named n.c) (number 2)) ∷ []) (result (apply (named n.h) (named n.b ∷ [])) ∷ []))) ∷ []) ∷ constants s.Manifest (item n.w (number
    4) ∷ item n.z (plus (named n.w) (number 1)) ∷ []) ∷ []) (writes (text (83 ∷ [])) ∷ writen (plus (apply (named n.f) (named n.z ∷ [])) (named n.x))
    ∷ writes (text (84 ∷ 10 ∷ [])) ∷ [])) ∷ []))
    -- One turn.
    --   LET START() BE FINISH
    ∷ takes 1 [] (Ends [] [] 1 (status 0)) (Going [] [] 1 1)
    (main (simple k.Finish))
    -- STOP ends the run.
    --   LET START() BE $( WRCH('A'); STOP(3) $)
    ∷ takes 7 [] (Ends (65 ∷ []) [] 2 (status 3)) (Going (65 ∷ []) [] 2 1)
    (main (compound (wrch (number 65) ∷ call (named n.stop) (number 3 ∷ []) ∷ [])))
    -- STOP gives its word.
    --   LET START() BE STOP(4294967295)
    ∷ takes 3 [] (Ends [] [] 2 (status 4294967295)) (Going [] [] 1 1)
    (main (call (named n.stop) (number 4294967295 ∷ [])))
    -- FINISH ends the run, in a call inside an expression too.
    --   LET F() = VALOF FINISH
    --   LET START() BE WRITEN(1 + F())
    ∷ takes 7 [] (Ends [] [] 2 (status 0)) (Going [] [] 2 1)
    (program (a_function n.f [] (valof (simple k.Finish)) ∷ a_routine n.start [] (writen (plus (number 1) (apply (named n.f) []))) ∷ []))
    -- RETURN leaves a routine, out of loops.
    --   LET F(N) BE FOR I = 1 TO 9 DO $( IF I > N DO RETURN; WRCH('A' + I) $)
    --   LET START() BE $( F(2); F(1) $)
    ∷ takes 58 [] (Ends (66 ∷ 67 ∷ 66 ∷ []) [] 3 (status 0)) (Going (66 ∷ 67 ∷ 66 ∷ []) [] 3 1)
    (program (a_routine n.f (n.n ∷ []) (for_loop n.i (number 1) (number 9) [] (compound (when true (binary o.Greater (named n.i) (named n.n)) (simple
    k.Return) ∷ wrch (plus (number 65) (named n.i)) ∷ []))) ∷ a_routine n.start [] (compound (call (named n.f) (number 2 ∷ []) ∷ call (named n.f)
    (number 1 ∷ []) ∷ [])) ∷ []))
    -- A routine called as a function gives what may be stored and dropped.
    --   LET F() BE WRCH('F')
    --   LET START() BE $( LET X = F(); X := F(); F(F()) $)
    ∷ takes 24 [] (Ends (70 ∷ 70 ∷ 70 ∷ 70 ∷ []) [] 3 (status 0)) (Going (70 ∷ 70 ∷ 70 ∷ []) [] 3 1)
    (program (a_routine n.f [] (wrch (number 70)) ∷ a_routine n.start [] (block (a_variable n.x (apply (named n.f) []) ∷ []) (set n.x (apply (named
    n.f) []) ∷ call (named n.f) (apply (named n.f) [] ∷ []) ∷ [])) ∷ []))
    ∷ []

rows_right : Right rows
rows_right = refl
