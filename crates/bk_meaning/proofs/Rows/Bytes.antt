-- Bytes of words, and words of which only some bytes are set.
use Rattle.bk_meaning.proofs.Terms.{List, true, [], ◌∷◌, ◌++◌, refl, Operator as o, Prefix as q, Sort as s, status, digits, Ends, Going}
use Rattle.bk_meaning.proofs.Rows.Nodes.{named, number, text, parens, unary, binary, apply, assign, call, when, for_loop, compound, block, constants, item, Row, takes, Right, a_function, a_routine, a_variable, a_vector, address_of, element, main, plus, program, store, wrch, writen, writes}
use Rattle.bk_meaning.proofs.Rows.Names as n

abbrev rows : List Row
rows =
    -- A string of three bytes in a word; the last is never set.
    --   LET START() BE $( LET V = VEC 0; PUTBYTE(V, 0, 2); PUTBYTE(V, 1, 'B'); PUTBYTE(V, 2, 'C'); WRITES(V) $)
    takes 21 [] (Ends (66 ∷ 67 ∷ []) [] 2 (status 0)) (Going [] [] 2 1)
    (main (block (a_vector n.v (number 0) ∷ []) (call (named n.putbyte) (named n.v ∷ number 0 ∷ number 2 ∷ []) ∷ call (named n.putbyte) (named n.v ∷
    number 1 ∷ number 66 ∷ []) ∷ call (named n.putbyte) (named n.v ∷ number 2 ∷ number 67 ∷ []) ∷ writes (named n.v) ∷ [])))
    -- Four bytes that are set are a number.
    --   LET START() BE $( LET V = VEC 0; FOR I = 0 TO 3 DO V%I := I + 1; IF V!0 = #X04030201 DO WRCH('Y') $)
    ∷ takes 46 [] (Ends (89 ∷ []) [] 2 (status 0)) (Going [] [] 1 1)
    (main (block (a_vector n.v (number 0) ∷ []) (for_loop n.i (number 0) (number 3) [] (store (binary o.Byte (named n.v) (named n.i)) (plus (named
    n.i) (number 1))) ∷ when true (binary o.Equal (element (named n.v) (number 0)) (number 67305985)) (wrch (number 89)) ∷ [])))
    -- A byte that is set twice, and a byte modulo 256.
    --   LET START() BE $( LET V = VEC 0; V%1 := 'A'; V%1 := 'B' + 256; WRCH(V%1) $)
    ∷ takes 20 [] (Ends (66 ∷ []) [] 2 (status 0)) (Going [] [] 1 1)
    (main (block (a_vector n.v (number 0) ∷ []) (store (binary o.Byte (named n.v) (number 1)) (number 65) ∷ store (binary o.Byte (named n.v) (number
    1)) (plus (number 66) (number 256)) ∷ wrch (binary o.Byte (named n.v) (number 1)) ∷ [])))
    -- A byte of a number, and a byte put into one.
    --   LET START() BE $( LET X = #X44434241; WRCH((@X)%2); (@X)%0 := 'Z'; IF X = #X4443425A DO WRCH('Y') $)
    ∷ takes 24 [] (Ends (67 ∷ 89 ∷ []) [] 2 (status 0)) (Going (67 ∷ []) [] 2 1)
    (main (block (a_variable n.x (number 1145258561) ∷ []) (wrch (binary o.Byte (parens (address_of (named n.x))) (number 2)) ∷ store (binary o.Byte
    (parens (address_of (named n.x))) (number 0)) (number 90) ∷ when true (binary o.Equal (named n.x) (number 1145258586)) (wrch (number 89)) ∷ [])))
    -- A word written into a partly set one is read whole.
    --   LET START() BE $( LET V = VEC 0; V%0 := 1; V!0 := 'A'; WRCH(V!0); WRCH(V%0) $)
    ∷ takes 23 [] (Ends (65 ∷ 65 ∷ []) [] 2 (status 0)) (Going (65 ∷ []) [] 2 1)
    (main (block (a_vector n.v (number 0) ∷ []) (store (binary o.Byte (named n.v) (number 0)) (number 1) ∷ store (element (named n.v) (number 0))
    (number 65) ∷ wrch (element (named n.v) (number 0)) ∷ wrch (binary o.Byte (named n.v) (number 0)) ∷ [])))
    -- A byte below byte 0 is one of the word before.
    --   LET START() BE $( LET V = VEC 1; V!0 := #X42000000; WRCH((V + 1)%(-1)) $)
    ∷ takes 18 [] (Ends (66 ∷ []) [] 2 (status 0)) (Going [] [] 1 1)
    (main (block (a_vector n.v (number 1) ∷ []) (store (element (named n.v) (number 0)) (number 1107296256) ∷ wrch (binary o.Byte (parens (plus (named
    n.v) (number 1))) (parens (unary q.Minus (number 1)))) ∷ [])))
    -- Byte 5 is byte 1 of the next word.
    --   LET START() BE $( LET V = VEC 1; V!1 := #X4100; WRCH(V%5); V%(-0) := 'B'; WRCH(GETBYTE(V + 1, -4)) $)
    ∷ takes 29 [] (Ends (65 ∷ 66 ∷ []) [] 2 (status 0)) (Going (65 ∷ []) [] 2 1)
    (main (block (a_vector n.v (number 1) ∷ []) (store (element (named n.v) (number 1)) (number 16640) ∷ wrch (binary o.Byte (named n.v) (number 5)) ∷
    store (binary o.Byte (named n.v) (parens (unary q.Minus (number 0)))) (number 66) ∷ wrch (apply (named n.getbyte) (plus (named n.v) (number 1) ∷
    unary q.Minus (number 4) ∷ [])) ∷ [])))
    -- Bytes as destinations and operands.
    --   LET START() BE $( LET V = VEC 1; V%0, V%1, V%2 := 2, 'O', 'K'; WRITES(V); WRITEN(V%0 + V%1) $)
    ∷ takes 28 [] (Ends ((79 ∷ 75 ∷ []) ++ digits 81) [] 2 (status 0)) (Going (79 ∷ 75 ∷ []) [] 2 1)
    (main (block (a_vector n.v (number 1) ∷ []) (assign (binary o.Byte (named n.v) (number 0) ∷ binary o.Byte (named n.v) (number 1) ∷ binary o.Byte
    (named n.v) (number 2) ∷ []) (number 2 ∷ number 79 ∷ number 75 ∷ []) ∷ writes (named n.v) ∷ writen (plus (binary o.Byte (named n.v) (number 0))
    (binary o.Byte (named n.v) (number 1))) ∷ [])))
    -- The last word of a string is filled with zeros.
    --   LET START() BE $( LET S = "ABCD"; IF S!1 = 'D' DO WRCH('Y'); WRCH('0' + S%0) $)
    ∷ takes 19 [] (Ends (89 ∷ 52 ∷ []) [] 2 (status 0)) (Going (89 ∷ []) [] 2 1)
    (main (block (a_variable n.s (text (65 ∷ 66 ∷ 67 ∷ 68 ∷ [])) ∷ []) (when true (binary o.Equal (element (named n.s) (number 1)) (number 68)) (wrch
    (number 89)) ∷ wrch (plus (number 48) (binary o.Byte (named n.s) (number 0))) ∷ [])))
    -- Bytes of a formal.
    --   LET F(A) = (@A)%1
    --   LET START() BE $( WRCH(F(#X4100)) $)
    ∷ takes 11 [] (Ends (65 ∷ []) [] 2 (status 0)) (Going [] [] 2 1)
    (program (a_function n.f (n.a ∷ []) (binary o.Byte (parens (address_of (named n.a))) (number 1)) ∷ a_routine n.start [] (compound (wrch (apply
    (named n.f) (number 16640 ∷ [])) ∷ [])) ∷ []))
    -- Sums and differences of addresses, and their order.
    --   LET START() BE $( LET V = VEC 3; LET P = V + 3; IF P - V = 3 & P > V & V + 1 = P - 2 & V ~= 0 & P + 1 >= P DO WRCH('Y'); IF V - 1 = V + (-1) DO WRCH('Z') $)
    ∷ takes 51 [] (Ends (89 ∷ 90 ∷ []) [] 2 (status 0)) (Going (89 ∷ []) [] 2 1)
    (main (block (a_vector n.v (number 3) ∷ a_variable n.p (plus (named n.v) (number 3)) ∷ []) (when true (binary o.Both (binary o.Both (binary o.Both
    (binary o.Both (binary o.Equal (binary o.Subtract (named n.p) (named n.v)) (number 3)) (binary o.Greater (named n.p) (named n.v))) (binary o.Equal
    (plus (named n.v) (number 1)) (binary o.Subtract (named n.p) (number 2)))) (binary o.Unequal (named n.v) (number 0))) (binary o.AtLeast (plus
    (named n.p) (number 1)) (named n.p))) (wrch (number 89)) ∷ when true (binary o.Equal (binary o.Subtract (named n.v) (number 1)) (plus (named n.v)
    (parens (unary q.Minus (number 1))))) (wrch (number 90)) ∷ [])))
    -- The globals are one object.
    --   GLOBAL $( G:100 $)
    --   LET START() BE $( (@START)!99 := 'A'; WRCH(G); IF @G - @START = 99 DO WRCH('Y') $)
    ∷ takes 22 [] (Ends (65 ∷ 89 ∷ []) [] 2 (status 0)) (Going (65 ∷ []) [] 2 1)
    (program (constants s.Global (item n.g (number 100) ∷ []) ∷ a_routine n.start [] (compound (store (element (parens (address_of (named n.start)))
    (number 99)) (number 65) ∷ wrch (named n.g) ∷ when true (binary o.Equal (binary o.Subtract (address_of (named n.g)) (address_of (named n.start)))
    (number 99)) (wrch (number 89)) ∷ [])) ∷ []))
    ∷ []

rows_right : Right rows
rows_right = refl
