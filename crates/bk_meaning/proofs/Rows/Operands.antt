-- Addresses, procedures and routines of the library as operands, forms that change nothing, and what is undefined of addresses.
use Rattle.bk_meaning.proofs.Terms.{List, true, false, [], ◌∷◌, refl, Operator as o, empty, status, Ends, Going, Undefined, address, beyond}
use Rattle.bk_meaning.proofs.Rows.Nodes.{named, number, parens, binary, case, default, label, when, switch, compound, block, lets, variables, value, Row, takes, Right, a_vector, address_of, contents, element, main, plus, set, store, wrch}
use Rattle.bk_meaning.proofs.Rows.Names as n

abbrev rows : List Row
rows =
    -- A number plus an address.
    --   LET START() BE $( LET V = VEC 1; V!1 := 'A'; WRCH(!(1 + V)); WRCH(1!V) $)
    takes 20 [] (Ends (65 ∷ 65 ∷ []) [] 2 (status 0)) (Going (65 ∷ []) [] 2 1)
    (main (block (a_vector n.v (number 1) ∷ []) (store (element (named n.v) (number 1)) (number 65) ∷ wrch (contents (parens (plus (number 1) (named
    n.v)))) ∷ wrch (element (number 1) (named n.v)) ∷ [])))
    -- A routine of the library is true, and is not 0.
    --   LET START() BE
    --   $( IF WRCH DO WRCH('A'); IF WRCH = 0 DO WRCH('B'); IF 0 = WRCH DO WRCH('C')
    --      IF WRCH ~= 0 DO WRCH('D'); UNLESS 0 ~= WRCH DO WRCH('E') $)
    ∷ takes 25 [] (Ends (65 ∷ 68 ∷ []) [] 2 (status 0)) (Going (65 ∷ 68 ∷ []) [] 2 1)
    (main (compound (when true (named n.wrch) (wrch (number 65)) ∷ when true (binary o.Equal (named n.wrch) (number 0)) (wrch (number 66)) ∷ when true
    (binary o.Equal (number 0) (named n.wrch)) (wrch (number 67)) ∷ when true (binary o.Unequal (named n.wrch) (number 0)) (wrch (number 68)) ∷ when
    false (binary o.Unequal (number 0) (named n.wrch)) (wrch (number 69)) ∷ [])))
    -- 0 differs from an address and from a procedure.
    --   LET START() BE
    --   $( LET V = VEC 1
    --      IF 0 = V DO WRCH('A'); IF 0 ~= V DO WRCH('B'); IF 0 = START DO WRCH('C'); IF 0 ~= START DO WRCH('D') $)
    ∷ takes 25 [] (Ends (66 ∷ 68 ∷ []) [] 2 (status 0)) (Going (66 ∷ []) [] 2 1)
    (main (block (a_vector n.v (number 1) ∷ []) (when true (binary o.Equal (number 0) (named n.v)) (wrch (number 65)) ∷ when true (binary o.Unequal
    (number 0) (named n.v)) (wrch (number 66)) ∷ when true (binary o.Equal (number 0) (named n.start)) (wrch (number 67)) ∷ when true (binary
    o.Unequal (number 0) (named n.start)) (wrch (number 68)) ∷ [])))
    -- `<` and `<=` on places of one vector.
    --   LET START() BE
    --   $( LET V = VEC 1
    --      IF V < V + 1 DO WRCH('A'); IF V + 1 < V DO WRCH('B'); IF V <= V DO WRCH('C'); IF V + 1 <= V DO WRCH('D'); IF V < V DO WRCH('E') $)
    ∷ takes 35 [] (Ends (65 ∷ 67 ∷ []) [] 2 (status 0)) (Going (65 ∷ 67 ∷ []) [] 2 1)
    (main (block (a_vector n.v (number 1) ∷ []) (when true (binary o.Less (named n.v) (plus (named n.v) (number 1))) (wrch (number 65)) ∷ when true
    (binary o.Less (plus (named n.v) (number 1)) (named n.v)) (wrch (number 66)) ∷ when true (binary o.AtMost (named n.v) (named n.v)) (wrch (number
    67)) ∷ when true (binary o.AtMost (plus (named n.v) (number 1)) (named n.v)) (wrch (number 68)) ∷ when true (binary o.Less (named n.v) (named
    n.v)) (wrch (number 69)) ∷ [])))
    -- Parentheses around a destination, and around the operand of `@`, change nothing.
    --   LET START() BE $( LET A, B = 0, 0; (A) := 65; B := !(@(A)); WRCH(B) $)
    ∷ takes 18 [] (Ends (65 ∷ []) [] 2 (status 0)) (Going [] [] 1 1)
    (main (block (lets (variables (n.a ∷ n.b ∷ []) (value (number 0) ∷ value (number 0) ∷ []) ∷ []) ∷ []) (store (parens (named n.a)) (number 65) ∷
    set n.b (contents (parens (address_of (parens (named n.a))))) ∷ wrch (named n.b) ∷ [])))
    -- Nothing behind a label, a CASE and DEFAULT.
    --   LET START() BE
    --   $( L: ; SWITCHON 2 INTO $( CASE 1: WRCH('B'); DEFAULT: $)
    --      WRCH('A'); SWITCHON 1 INTO $( CASE 1: $) $)
    ∷ takes 13 [] (Ends (65 ∷ []) [] 2 (status 0)) (Going (65 ∷ []) [] 2 1)
    (main (compound (label n.l empty ∷ switch (number 2) (compound (case (number 1) (wrch (number 66)) ∷ default empty ∷ [])) ∷ wrch (number 65) ∷
    switch (number 1) (compound (case (number 1) empty ∷ [])) ∷ [])))
    -- The difference of two addresses of a dead object.
    --   LET START() BE $( LET P, Q = 0, 0; $( LET V = VEC 1; P := V; Q := V + 1 $); WRCH('A'); P := Q - P $)
    ∷ takes 22 [] (Undefined (65 ∷ []) [] 2 1 (beyond (address 5 0))) (Going (65 ∷ []) [] 2 1)
    (main (block (lets (variables (n.p ∷ n.q ∷ []) (value (number 0) ∷ value (number 0) ∷ []) ∷ []) ∷ []) (block (a_vector n.v (number 1) ∷ []) (set
    n.p (named n.v) ∷ set n.q (plus (named n.v) (number 1)) ∷ []) ∷ wrch (number 65) ∷ set n.p (binary o.Subtract (named n.q) (named n.p)) ∷ [])))
    -- Whether two addresses of a dead object are equal.
    --   LET START() BE $( LET P, Q = 0, 0; $( LET V = VEC 1; P := V; Q := V + 1 $); WRCH('A'); IF P = Q DO WRCH('B') $)
    ∷ takes 22 [] (Undefined (65 ∷ []) [] 2 1 (beyond (address 5 0))) (Going (65 ∷ []) [] 2 1)
    (main (block (lets (variables (n.p ∷ n.q ∷ []) (value (number 0) ∷ value (number 0) ∷ []) ∷ []) ∷ []) (block (a_vector n.v (number 1) ∷ []) (set
    n.p (named n.v) ∷ set n.q (plus (named n.v) (number 1)) ∷ []) ∷ wrch (number 65) ∷ when true (binary o.Equal (named n.p) (named n.q)) (wrch
    (number 66)) ∷ [])))
    -- The order of two addresses of a dead object.
    --   LET START() BE $( LET P, Q = 0, 0; $( LET V = VEC 1; P := V; Q := V + 1 $); WRCH('A'); IF P <= Q DO WRCH('B') $)
    ∷ takes 22 [] (Undefined (65 ∷ []) [] 2 1 (beyond (address 5 0))) (Going (65 ∷ []) [] 2 1)
    (main (block (lets (variables (n.p ∷ n.q ∷ []) (value (number 0) ∷ value (number 0) ∷ []) ∷ []) ∷ []) (block (a_vector n.v (number 1) ∷ []) (set
    n.p (named n.v) ∷ set n.q (plus (named n.v) (number 1)) ∷ []) ∷ wrch (number 65) ∷ when true (binary o.AtMost (named n.p) (named n.q)) (wrch
    (number 66)) ∷ [])))
    -- The order of a place and of one outside of its object.
    --   LET START() BE $( LET V = VEC 1; WRCH('A'); IF V < V + 3 DO WRCH('B') $)
    ∷ takes 12 [] (Undefined (65 ∷ []) [] 2 1 (beyond (address 3 3))) (Going (65 ∷ []) [] 2 1)
    (main (block (a_vector n.v (number 1) ∷ []) (wrch (number 65) ∷ when true (binary o.Less (named n.v) (plus (named n.v) (number 3))) (wrch (number
    66)) ∷ [])))
    ∷ []

rows_right : Right rows
rows_right = refl
