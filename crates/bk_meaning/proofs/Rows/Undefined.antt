-- Acts that are undefined, a kind each; the turn before, the run still goes on.
use Rattle.bk_meaning.proofs.Terms.{List, true, [], ◌∷◌, refl, Operator as o, Prefix as q, Sort as s, Going, Undefined, address, procedure, unset, number as word, never_set, no_cell, no_byte, beyond, no_address, no_number, no_byte_value, apart, no_procedure, no_argument, argument}
use Rattle.bk_meaning.proofs.Rows.Nodes.{named, number, text, query, parens, unary, binary, apply, call, default, when, for_loop, switch, compound, block, constants, item, lets, variables, value, Row, takes, Right, a_function, a_routine, a_variable, a_vector, address_of, contents, element, main, plus, program, set, store, wrch, writen, writes}
use Rattle.bk_meaning.proofs.Rows.Names as n

abbrev rows : List Row
rows =
    -- Reading an unset variable.
    --   LET START() BE $( LET A, B = ?, 1; WRCH('A'); B := A $)
    takes 9 [] (Undefined (65 ∷ []) [] 2 1 (no_cell (address 3 0))) (Going (65 ∷ []) [] 2 1)
    (main (block (lets (variables (n.a ∷ n.b ∷ []) (value query ∷ value (number 1) ∷ []) ∷ []) ∷ []) (wrch (number 65) ∷ set n.b (named n.a) ∷ [])))
    -- Reading a formal without an argument.
    --   LET F(A, B) = B
    --   LET START() BE WRCH(F(1))
    ∷ takes 5 [] (Undefined [] [] 2 1 (no_cell (address 4 1))) (Going [] [] 2 1)
    (program (a_function n.f (n.a ∷ n.b ∷ []) (named n.b) ∷ a_routine n.start [] (wrch (apply (named n.f) (number 1 ∷ []))) ∷ []))
    -- Reading a global that nothing sets.
    --   GLOBAL $( G:100 $)
    --   LET START() BE $( WRCH('A'); G := G $)
    ∷ takes 6 [] (Undefined (65 ∷ []) [] 2 1 (no_cell (address 0 100))) (Going (65 ∷ []) [] 2 1)
    (program (constants s.Global (item n.g (number 100) ∷ []) ∷ a_routine n.start [] (compound (wrch (number 65) ∷ set n.g (named n.g) ∷ [])) ∷ []))
    -- An access behind the end of an object.
    --   LET START() BE $( LET V = VEC 1; V!1 := 5; V!2 := 5 $)
    ∷ takes 13 [] (Undefined [] [] 1 1 (no_cell (address 3 2))) (Going [] [] 1 1)
    (main (block (a_vector n.v (number 1) ∷ []) (store (element (named n.v) (number 1)) (number 5) ∷ store (element (named n.v) (number 2)) (number 5)
    ∷ [])))
    -- An access before the beginning of an object.
    --   LET START() BE $( LET V = VEC 1; V!(-1) := 5 $)
    ∷ takes 10 [] (Undefined [] [] 1 1 (no_cell (address 3 4294967295))) (Going [] [] 1 1)
    (main (block (a_vector n.v (number 1) ∷ []) (store (element (named n.v) (parens (unary q.Minus (number 1)))) (number 5) ∷ [])))
    -- An access through a number.
    --   LET START() BE $( LET X = 5; X := !16 $)
    ∷ takes 6 [] (Undefined [] [] 1 1 (no_address (word 16))) (Going [] [] 1 1)
    (main (block (a_variable n.x (number 5) ∷ []) (set n.x (contents (number 16)) ∷ [])))
    -- An access to a variable whose block was left.
    --   LET START() BE $( LET P = 0; WRCH('A'); $( LET X = 5; P := @X $); WRITEN(!P) $)
    ∷ takes 16 [] (Undefined (65 ∷ []) [] 2 1 (no_cell (address 4 0))) (Going (65 ∷ []) [] 2 1)
    (main (block (a_variable n.p (number 0) ∷ []) (wrch (number 65) ∷ block (a_variable n.x (number 5) ∷ []) (set n.p (address_of (named n.x)) ∷ []) ∷
    writen (contents (named n.p)) ∷ [])))
    -- An access to a formal whose call is over.
    --   LET F(A) = @A
    --   LET START() BE $( LET P = F(1); WRCH('A'); WRCH(!P) $)
    ∷ takes 13 [] (Undefined (65 ∷ []) [] 2 1 (no_cell (address 4 0))) (Going (65 ∷ []) [] 2 1)
    (program (a_function n.f (n.a ∷ []) (address_of (named n.a)) ∷ a_routine n.start [] (block (a_variable n.p (apply (named n.f) (number 1 ∷ [])) ∷
    []) (wrch (number 65) ∷ wrch (contents (named n.p)) ∷ [])) ∷ []))
    -- An operator on the address of a dead object.
    --   LET START() BE $( LET P = 0; $( LET X = 5; P := @X $); P := P + 1 $)
    ∷ takes 14 [] (Undefined [] [] 1 1 (beyond (address 4 1))) (Going [] [] 1 1)
    (main (block (a_variable n.p (number 0) ∷ []) (block (a_variable n.x (number 5) ∷ []) (set n.p (address_of (named n.x)) ∷ []) ∷ set n.p (plus
    (named n.p) (number 1)) ∷ [])))
    -- Comparing the address of a dead object with 0.
    --   LET START() BE $( LET P = 0; $( LET X = 5; P := @X $); IF P = 0 DO WRCH('A') $)
    ∷ takes 14 [] (Undefined [] [] 1 1 (beyond (address 4 0))) (Going [] [] 1 1)
    (main (block (a_variable n.p (number 0) ∷ []) (block (a_variable n.x (number 5) ∷ []) (set n.p (address_of (named n.x)) ∷ []) ∷ when true (binary
    o.Equal (named n.p) (number 0)) (wrch (number 65)) ∷ [])))
    -- The truth of the address of a dead object.
    --   LET START() BE $( LET P = 0; $( LET X = 5; P := @X $); IF P DO WRCH('A') $)
    ∷ takes 12 [] (Undefined [] [] 1 1 (beyond (address 4 0))) (Going [] [] 1 1)
    (main (block (a_variable n.p (number 0) ∷ []) (block (a_variable n.x (number 5) ∷ []) (set n.p (address_of (named n.x)) ∷ []) ∷ when true (named
    n.p) (wrch (number 65)) ∷ [])))
    -- Subtracting addresses of two objects.
    --   LET START() BE $( LET A, B = 1, 2; WRITEN(@A - @B) $)
    ∷ takes 10 [] (Undefined [] [] 1 1 apart) (Going [] [] 1 1)
    (main (block (lets (variables (n.a ∷ n.b ∷ []) (value (number 1) ∷ value (number 2) ∷ []) ∷ []) ∷ []) (writen (binary o.Subtract (address_of
    (named n.a)) (address_of (named n.b))) ∷ [])))
    -- Comparing addresses of two objects.
    --   LET START() BE $( LET A, B = 1, 2; IF @A = @B DO WRCH('A') $)
    ∷ takes 10 [] (Undefined [] [] 1 1 apart) (Going [] [] 1 1)
    (main (block (lets (variables (n.a ∷ n.b ∷ []) (value (number 1) ∷ value (number 2) ∷ []) ∷ []) ∷ []) (when true (binary o.Equal (address_of
    (named n.a)) (address_of (named n.b))) (wrch (number 65)) ∷ [])))
    -- Ordering addresses past the end of their object.
    --   LET START() BE $( LET V = VEC 1; IF V + 3 > V DO WRCH('A') $)
    ∷ takes 9 [] (Undefined [] [] 1 1 (beyond (address 3 3))) (Going [] [] 1 1)
    (main (block (a_vector n.v (number 1) ∷ []) (when true (binary o.Greater (plus (named n.v) (number 3)) (named n.v)) (wrch (number 65)) ∷ [])))
    -- The truth of an address past the end of its object.
    --   LET START() BE $( LET V = VEC 1; IF V + 2 DO WRCH('A'); IF V + 3 DO WRCH('B') $)
    ∷ takes 14 [] (Undefined (65 ∷ []) [] 2 1 (beyond (address 3 3))) (Going (65 ∷ []) [] 2 1)
    (main (block (a_vector n.v (number 1) ∷ []) (when true (plus (named n.v) (number 2)) (wrch (number 65)) ∷ when true (plus (named n.v) (number 3))
    (wrch (number 66)) ∷ [])))
    -- Comparing an address with a number that is not 0.
    --   LET START() BE $( LET V = VEC 1; IF V = 1 DO WRCH('A') $)
    ∷ takes 7 [] (Undefined [] [] 1 1 (no_number (address 3 0))) (Going [] [] 1 1)
    (main (block (a_vector n.v (number 1) ∷ []) (when true (binary o.Equal (named n.v) (number 1)) (wrch (number 65)) ∷ [])))
    -- The sum of two addresses.
    --   LET START() BE $( LET V = VEC 1; V := V + V $)
    ∷ takes 7 [] (Undefined [] [] 1 1 (no_number (address 3 0))) (Going [] [] 1 1)
    (main (block (a_vector n.v (number 1) ∷ []) (set n.v (plus (named n.v) (named n.v)) ∷ [])))
    -- An address taken from a number.
    --   LET START() BE $( LET V = VEC 1; V := 1 - V $)
    ∷ takes 7 [] (Undefined [] [] 1 1 (no_number (address 3 0))) (Going [] [] 1 1)
    (main (block (a_vector n.v (number 1) ∷ []) (set n.v (binary o.Subtract (number 1) (named n.v)) ∷ [])))
    -- Another operator on an address.
    --   LET START() BE $( LET V = VEC 1; V := V * 1 $)
    ∷ takes 7 [] (Undefined [] [] 1 1 (no_number (address 3 0))) (Going [] [] 1 1)
    (main (block (a_vector n.v (number 1) ∷ []) (set n.v (binary o.Times (named n.v) (number 1)) ∷ [])))
    -- Bits of an address.
    --   LET START() BE $( LET V = VEC 1; V := V & 1 $)
    ∷ takes 7 [] (Undefined [] [] 1 1 (no_number (address 3 0))) (Going [] [] 1 1)
    (main (block (a_vector n.v (number 1) ∷ []) (set n.v (binary o.Both (named n.v) (number 1)) ∷ [])))
    -- A prefix operator on an address.
    --   LET START() BE $( LET V = VEC 1; V := +V $)
    ∷ takes 6 [] (Undefined [] [] 1 1 (no_number (address 3 0))) (Going [] [] 1 1)
    (main (block (a_vector n.v (number 1) ∷ []) (set n.v (unary q.Plus (named n.v)) ∷ [])))
    -- An operator on a procedure.
    --   LET START() BE $( LET X = START + 0; WRCH('A') $)
    ∷ takes 5 [] (Undefined [] [] 1 1 (no_number (procedure 1))) (Going [] [] 1 1)
    (main (block (a_variable n.x (plus (named n.start) (number 0)) ∷ []) (wrch (number 65) ∷ [])))
    -- Comparing two procedures.
    --   LET START() BE $( IF START = START DO WRCH('A') $)
    ∷ takes 5 [] (Undefined [] [] 1 1 (no_number (procedure 1))) (Going [] [] 1 1)
    (main (compound (when true (binary o.Equal (named n.start) (named n.start)) (wrch (number 65)) ∷ [])))
    -- An operator on an unset value.
    --   LET START() BE $( LET X = ? + 1; WRCH('A') $)
    ∷ takes 5 [] (Undefined [] [] 1 1 never_set) (Going [] [] 1 1)
    (main (block (a_variable n.x (plus query (number 1)) ∷ []) (wrch (number 65) ∷ [])))
    -- An unset value divided by zero.
    --   LET START() BE $( LET X = ?/0; WRCH('A') $)
    ∷ takes 5 [] (Undefined [] [] 1 1 never_set) (Going [] [] 1 1)
    (main (block (a_variable n.x (binary o.Over query (number 0)) ∷ []) (wrch (number 65) ∷ [])))
    -- The truth of an unset value.
    --   LET START() BE $( IF ? DO WRCH('A') $)
    ∷ takes 3 [] (Undefined [] [] 1 1 never_set) (Going [] [] 1 1)
    (main (compound (when true query (wrch (number 65)) ∷ [])))
    -- A switch on an unset value.
    --   LET START() BE $( SWITCHON ? INTO WRCH('A') $)
    ∷ takes 3 [] (Undefined [] [] 1 1 never_set) (Going [] [] 1 1)
    (main (compound (switch query (wrch (number 65)) ∷ [])))
    -- A switch on an address.
    --   LET START() BE $( LET V = VEC 1; SWITCHON V INTO $( DEFAULT: WRCH('A') $) $)
    ∷ takes 5 [] (Undefined [] [] 1 1 (no_number (address 3 0))) (Going [] [] 1 1)
    (main (block (a_vector n.v (number 1) ∷ []) (switch (named n.v) (compound (default (wrch (number 65)) ∷ [])) ∷ [])))
    -- A call of a number.
    --   LET START() BE $( WRCH('A'); (5)(1) $)
    ∷ takes 8 [] (Undefined (65 ∷ []) [] 2 1 (no_procedure (word 5))) (Going (65 ∷ []) [] 2 1)
    (main (compound (wrch (number 65) ∷ call (parens (number 5)) (number 1 ∷ []) ∷ [])))
    -- A call of an unset value.
    --   LET F() BE WRCH('F')
    --   LET START() BE $( (F())() $)
    ∷ takes 8 [] (Undefined (70 ∷ []) [] 3 1 (no_procedure unset)) (Going [] [] 2 1)
    (program (a_routine n.f [] (wrch (number 70)) ∷ a_routine n.start [] (compound (call (parens (apply (named n.f) [])) [] ∷ [])) ∷ []))
    -- A routine of the library without a needed argument.
    --   LET START() BE $( WRCH('A'); WRCH() $)
    ∷ takes 6 [] (Undefined (65 ∷ []) [] 2 1 (argument 1 no_argument)) (Going (65 ∷ []) [] 2 1)
    (main (compound (wrch (number 65) ∷ call (named n.wrch) [] ∷ [])))
    -- A routine of the library with an address for a number.
    --   LET START() BE $( LET V = VEC 1; WRCH(V) $)
    ∷ takes 6 [] (Undefined [] [] 2 1 (argument 1 (no_number (address 3 0)))) (Going [] [] 1 1)
    (main (block (a_vector n.v (number 1) ∷ []) (wrch (named n.v) ∷ [])))
    -- A routine of the library with a number for an address.
    --   LET START() BE $( WRCH('A'); WRITES(5) $)
    ∷ takes 7 [] (Undefined (65 ∷ []) [] 2 1 (argument 1 (no_address (word 5)))) (Going (65 ∷ []) [] 2 1)
    (main (compound (wrch (number 65) ∷ writes (number 5) ∷ [])))
    -- STOP of an address.
    --   LET START() BE $( LET V = VEC 1; STOP(V) $)
    ∷ takes 6 [] (Undefined [] [] 2 1 (argument 1 (no_number (address 3 0)))) (Going [] [] 1 1)
    (main (block (a_vector n.v (number 1) ∷ []) (call (named n.stop) (named n.v ∷ []) ∷ [])))
    -- GETBYTE with its arguments the other way round.
    --   LET START() BE $( LET V = VEC 1; V!0 := 5; WRCH('A'); WRCH(GETBYTE(1, V)) $)
    ∷ takes 16 [] (Undefined (65 ∷ []) [] 2 1 (argument 2 (no_number (address 3 0)))) (Going (65 ∷ []) [] 2 1)
    (main (block (a_vector n.v (number 1) ∷ []) (store (element (named n.v) (number 0)) (number 5) ∷ wrch (number 65) ∷ wrch (apply (named n.getbyte)
    (number 1 ∷ named n.v ∷ [])) ∷ [])))
    -- A byte of a cell with an address.
    --   LET START() BE $( LET V = VEC 1; V!0 := V; WRCH(V%0) $)
    ∷ takes 12 [] (Undefined [] [] 1 1 (no_byte (address 3 0) 0)) (Going [] [] 1 1)
    (main (block (a_vector n.v (number 1) ∷ []) (store (element (named n.v) (number 0)) (named n.v) ∷ wrch (binary o.Byte (named n.v) (number 0)) ∷
    [])))
    -- A byte put into a cell with an address.
    --   LET START() BE $( LET V = VEC 1; V!0 := V; V%0 := 1 $)
    ∷ takes 13 [] (Undefined [] [] 1 1 (no_byte (address 3 0) 0)) (Going [] [] 1 1)
    (main (block (a_vector n.v (number 1) ∷ []) (store (element (named n.v) (number 0)) (named n.v) ∷ store (binary o.Byte (named n.v) (number 0))
    (number 1) ∷ [])))
    -- A byte that is not set.
    --   LET START() BE $( LET V = VEC 0; V%1 := 7; WRITEN(V%0) $)
    ∷ takes 12 [] (Undefined [] [] 1 1 (no_byte (address 3 0) 0)) (Going [] [] 1 1)
    (main (block (a_vector n.v (number 0) ∷ []) (store (binary o.Byte (named n.v) (number 1)) (number 7) ∷ writen (binary o.Byte (named n.v) (number
    0)) ∷ [])))
    -- A number of which three bytes are set.
    --   LET START() BE $( LET V = VEC 0; V%0 := 1; V%1 := 2; V%2 := 3; WRCH('A'); V!0 := V!0 $)
    ∷ takes 25 [] (Undefined (65 ∷ []) [] 2 1 (no_cell (address 3 0))) (Going (65 ∷ []) [] 2 1)
    (main (block (a_vector n.v (number 0) ∷ []) (store (binary o.Byte (named n.v) (number 0)) (number 1) ∷ store (binary o.Byte (named n.v) (number
    1)) (number 2) ∷ store (binary o.Byte (named n.v) (number 2)) (number 3) ∷ wrch (number 65) ∷ store (element (named n.v) (number 0)) (element
    (named n.v) (number 0)) ∷ [])))
    -- A byte behind the end of an object.
    --   LET START() BE $( LET V = VEC 0; V%3 := 7; V%4 := 7 $)
    ∷ takes 13 [] (Undefined [] [] 1 1 (no_byte (address 3 0) 4)) (Going [] [] 1 1)
    (main (block (a_vector n.v (number 0) ∷ []) (store (binary o.Byte (named n.v) (number 3)) (number 7) ∷ store (binary o.Byte (named n.v) (number
    4)) (number 7) ∷ [])))
    -- An address put into a byte.
    --   LET START() BE $( LET V = VEC 0; V%0 := V $)
    ∷ takes 8 [] (Undefined [] [] 1 1 (no_byte_value (address 3 0))) (Going [] [] 1 1)
    (main (block (a_vector n.v (number 0) ∷ []) (store (binary o.Byte (named n.v) (number 0)) (named n.v) ∷ [])))
    -- A string that goes on past its object.
    --   LET START() BE $( LET V = VEC 0; V!0 := 4; WRCH('A'); WRITES(V) $)
    ∷ takes 14 [] (Undefined (65 ∷ []) [] 2 1 (argument 1 (no_byte (address 3 0) 4))) (Going (65 ∷ []) [] 2 1)
    (main (block (a_vector n.v (number 0) ∷ []) (store (element (named n.v) (number 0)) (number 4) ∷ wrch (number 65) ∷ writes (named n.v) ∷ [])))
    -- WRITEF with an argument too few: nothing of it is written.
    --   LET START() BE $( WRITEF("A%NB%N", 1) $)
    ∷ takes 5 [] (Undefined [] [] 2 1 (argument 3 no_argument)) (Going [] [] 1 1)
    (main (compound (call (named n.writef) (text (65 ∷ 37 ∷ 78 ∷ 66 ∷ 37 ∷ 78 ∷ []) ∷ number 1 ∷ []) ∷ [])))
    -- WRITEF with a number where a string is needed.
    --   LET START() BE $( WRITEF("A%S", 1) $)
    ∷ takes 5 [] (Undefined [] [] 2 1 (argument 2 (no_address (word 1)))) (Going [] [] 1 1)
    (main (compound (call (named n.writef) (text (65 ∷ 37 ∷ 83 ∷ []) ∷ number 1 ∷ []) ∷ [])))
    -- FOR from an unset start.
    --   LET START() BE $( FOR I = ? TO 3 DO WRCH('A') $)
    ∷ takes 4 [] (Undefined [] [] 1 1 (no_cell (address 3 0))) (Going [] [] 1 1)
    (main (compound (for_loop n.i query (number 3) [] (wrch (number 65)) ∷ [])))
    -- FOR to an unset limit.
    --   LET START() BE $( FOR I = 1 TO ? DO WRCH('A') $)
    ∷ takes 4 [] (Undefined [] [] 1 1 never_set) (Going [] [] 1 1)
    (main (compound (for_loop n.i (number 1) query [] (wrch (number 65)) ∷ [])))
    -- An access through a procedure.
    --   LET START() BE $( LET X = 5; X := !START $)
    ∷ takes 6 [] (Undefined [] [] 1 1 (no_address (procedure 1))) (Going [] [] 1 1)
    (main (block (a_variable n.x (number 5) ∷ []) (set n.x (contents (named n.start)) ∷ [])))
    -- Ordering an address against 0.
    --   LET START() BE $( LET V = VEC 1; IF V > 0 DO WRCH('A') $)
    ∷ takes 7 [] (Undefined [] [] 1 1 (no_number (address 3 0))) (Going [] [] 1 1)
    (main (block (a_vector n.v (number 1) ∷ []) (when true (binary o.Greater (named n.v) (number 0)) (wrch (number 65)) ∷ [])))
    -- Ordering addresses of two objects.
    --   LET START() BE $( LET A, B = 1, 2; IF @A < @B DO WRCH('A') $)
    ∷ takes 10 [] (Undefined [] [] 1 1 apart) (Going [] [] 1 1)
    (main (block (lets (variables (n.a ∷ n.b ∷ []) (value (number 1) ∷ value (number 2) ∷ []) ∷ []) ∷ []) (when true (binary o.Less (address_of (named
    n.a)) (address_of (named n.b))) (wrch (number 65)) ∷ [])))
    -- Comparing a procedure with a number that is not 0.
    --   LET START() BE $( IF START ~= 0 DO WRCH('A'); IF START = 1 DO WRCH('B') $)
    ∷ takes 12 [] (Undefined (65 ∷ []) [] 2 1 (no_number (procedure 1))) (Going (65 ∷ []) [] 2 1)
    (main (compound (when true (binary o.Unequal (named n.start) (number 0)) (wrch (number 65)) ∷ when true (binary o.Equal (named n.start) (number
    1)) (wrch (number 66)) ∷ [])))
    -- Comparing an unset value with 0.
    --   LET START() BE $( IF ? = 0 DO WRCH('A') $)
    ∷ takes 5 [] (Undefined [] [] 1 1 never_set) (Going [] [] 1 1)
    (main (compound (when true (binary o.Equal query (number 0)) (wrch (number 65)) ∷ [])))
    -- A call of an address.
    --   LET START() BE $( LET V = VEC 1; V(1) $)
    ∷ takes 6 [] (Undefined [] [] 2 1 (no_procedure (address 3 0))) (Going [] [] 1 1)
    (main (block (a_vector n.v (number 1) ∷ []) (call (named n.v) (number 1 ∷ []) ∷ [])))
    -- A switch on a procedure.
    --   LET START() BE $( SWITCHON START INTO $( DEFAULT: WRCH('A') $) $)
    ∷ takes 3 [] (Undefined [] [] 1 1 (no_number (procedure 1))) (Going [] [] 1 1)
    (main (compound (switch (named n.start) (compound (default (wrch (number 65)) ∷ [])) ∷ [])))
    -- A byte whose number is an address.
    --   LET START() BE $( LET V = VEC 1; V!0 := 5; WRCH(V%V) $)
    ∷ takes 12 [] (Undefined [] [] 1 1 (no_number (address 3 0))) (Going [] [] 1 1)
    (main (block (a_vector n.v (number 1) ∷ []) (store (element (named n.v) (number 0)) (number 5) ∷ wrch (binary o.Byte (named n.v) (named n.v)) ∷
    [])))
    -- A string of which a byte is not set.
    --   LET START() BE $( LET V = VEC 1; V%0 := 2; V%1 := 'A'; WRITES(V) $)
    ∷ takes 16 [] (Undefined [] [] 2 1 (argument 1 (no_byte (address 3 0) 2))) (Going [] [] 1 1)
    (main (block (a_vector n.v (number 1) ∷ []) (store (binary o.Byte (named n.v) (number 0)) (number 2) ∷ store (binary o.Byte (named n.v) (number
    1)) (number 65) ∷ writes (named n.v) ∷ [])))
    -- WRITED without a width.
    --   LET START() BE $( WRCH('A'); WRITED(5) $)
    ∷ takes 7 [] (Undefined (65 ∷ []) [] 2 1 (argument 2 no_argument)) (Going (65 ∷ []) [] 2 1)
    (main (compound (wrch (number 65) ∷ call (named n.writed) (number 5 ∷ []) ∷ [])))
    -- A byte put into a cell with a procedure.
    --   LET START() BE $( LET X = START; (@X)%0 := 1 $)
    ∷ takes 10 [] (Undefined [] [] 1 1 (no_byte (address 3 0) 0)) (Going [] [] 1 1)
    (main (block (a_variable n.x (named n.start) ∷ []) (store (binary o.Byte (parens (address_of (named n.x))) (number 0)) (number 1) ∷ [])))
    -- A second unset formal, used by an operator.
    --   LET F(A, B) = A + B
    --   LET START() BE $( WRCH(F('A')) $)
    ∷ takes 8 [] (Undefined [] [] 2 1 (no_cell (address 4 1))) (Going [] [] 2 1)
    (program (a_function n.f (n.a ∷ n.b ∷ []) (plus (named n.a) (named n.b)) ∷ a_routine n.start [] (compound (wrch (apply (named n.f) (number 65 ∷
    [])) ∷ [])) ∷ []))
    ∷ []

rows_right : Right rows
rows_right = refl
