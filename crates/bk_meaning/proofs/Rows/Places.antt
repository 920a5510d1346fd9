-- Where undefined acts and divisions by zero are, and where the turns run out: each program has that node at a position of its own.
use Rattle.bk_meaning.proofs.Terms.{List, true, [], ◌∷◌, refl, Operator as o, Prefix as q, Undefined, Going, Ends, divide_by_zero, address, procedure, number as word, never_set, no_cell, no_address, no_number, no_procedure, no_argument, argument}
use Rattle.bk_tree.specs.Tree as t
use Rattle.bk_meaning.proofs.Rows.Nodes.{number, call, when, block, lets, variables, value, query, Row, means, Right, a_function, a_routine, a_variable, a_vector, compound, expressions, main, named, program, set, store, wrch}
use Rattle.bk_meaning.proofs.Rows.Names as n

abbrev rows : List Row
rows =
    -- The name of a variable that is not set.
    --   LET START() BE $( LET A, B = ?, 1; WRCH('A'); B := A $)
    means 30 [] (Undefined (65 ∷ []) [] 2 7 (no_cell (address 3 0)))
    (main (block (lets (variables (n.a ∷ n.b ∷ []) (value query ∷ value (number 1) ∷ []) ∷ []) ∷ []) (wrch (number 65) ∷ set n.b (t.name 7 n.a) ∷ [])))
    -- The operator between two operands, after them.
    --   LET START() BE $( LET X = START + 1; $)
    ∷ means 30 [] (Undefined [] [] 1 8 (no_number (procedure 1)))
    (main (block (a_variable n.x (t.binary 6 o.Add 8 (t.name 6 n.start) (t.number 9 1)) ∷ []) []))
    -- The operand, where that is undefined.
    --   LET START() BE $( LET X = ?; X := X + START() $)
    ∷ means 30 [] (Undefined [] [] 1 6 (no_cell (address 3 0)))
    (main (block (a_variable n.x query ∷ []) (set n.x (t.binary 6 o.Add 8 (t.name 6 n.x) (t.apply 9 10 (t.name 9 n.start) t.none)) ∷ [])))
    -- `!` before a number, and the operator of a condition.
    --   LET START() BE $( LET X = 5; X := !X $)
    ∷ means 30 [] (Undefined [] [] 1 6 (no_address (word 5)))
    (main (block (a_variable n.x (number 5) ∷ []) (set n.x (t.unary 6 q.Contents (t.name 7 n.x)) ∷ [])))
    --   LET START() BE IF ? DO WRCH('A')
    ∷ means 30 [] (Undefined [] [] 1 9 never_set)
    (main (when true (t.query 9) (wrch (number 65))))
    -- The parenthesis of a call for its value, and the first symbol of one that is a command.
    --   LET START() BE $( LET X = 3(); $)
    ∷ means 30 [] (Undefined [] [] 2 11 (no_procedure (word 3)))
    (main (block (a_variable n.x (t.apply 10 11 (t.number 10 3) t.none) ∷ []) []))
    --   LET START() BE WRITEN()
    ∷ means 30 [] (Undefined [] [] 2 12 (argument 1 no_argument))
    (main (t.call 12 (named n.writen) t.none))
    -- Inside a procedure that is called: its own act, and not the call.
    --   LET F(A) = A + F
    --   LET START() BE WRCH(F(1))
    ∷ means 30 [] (Undefined [] [] 2 5 (no_number (procedure 1)))
    (program (a_function n.f (n.a ∷ []) (t.binary 3 o.Add 5 (t.name 3 n.a) (t.name 6 n.f)) ∷ a_routine n.start [] (t.call 20 (named n.wrch) (expressions (t.apply 21 22 (t.name 21 n.f) (expressions (number 1 ∷ [])) ∷ []))) ∷ []))
    -- A destination: its operator.
    --   LET START() BE $( LET V = VEC 1; V!2 := 5 $)
    ∷ means 30 [] (Undefined [] [] 1 15 (no_cell (address 3 2)))
    (main (block (a_vector n.v (number 1) ∷ []) (store (t.binary 14 o.Subscript 15 (t.name 14 n.v) (t.number 16 2)) (number 5) ∷ [])))
    -- The name of the variable of a FOR, whose limit is not set.
    --   LET START() BE FOR I = 1 TO ? DO WRCH('A')
    ∷ means 30 [] (Undefined [] [] 1 16 never_set)
    (main (t.for_loop 4 (record { at = 16; letters = n.i }) (number 1) query t.none (wrch (number 65))))
    -- The expression of a SWITCHON.
    --   LET START() BE SWITCHON START INTO $( $)
    ∷ means 30 [] (Undefined [] [] 1 17 (no_number (procedure 1)))
    (main (t.switch 4 (t.name 17 n.start) (compound [])))
    -- A division by zero: its operator.
    --   LET START() BE $( LET X = 1/0; $)
    ∷ means 30 [] (Ends [] [] 1 (divide_by_zero 8))
    (main (block (a_variable n.x (t.binary 6 o.Over 8 (t.number 6 1) (t.number 9 0)) ∷ []) []))
    -- The node for which no turn is left: a call that is a command, a further round of a loop, and the condition before it.
    --   LET START() BE WRITEN()
    ∷ means 0 [] (Going [] [] 1 12)
    (main (t.call 12 (named n.writen) t.none))
    --   LET START() BE WHILE TRUE DO $( $)
    ∷ means 3 [] (Going [] [] 1 14)
    (main (t.while 14 true (t.truth 15 true) t.empty))
    ∷ means 2 [] (Going [] [] 1 15)
    (main (t.while 14 true (t.truth 15 true) t.empty))
    -- The name of the variable of a FOR, before a further round, and the VEC of a LET.
    --   LET START() BE FOR I = 1 TO 2 DO $( $)
    ∷ means 3 [] (Going [] [] 1 16)
    (main (t.for_loop 4 (record { at = 16; letters = n.i }) (number 1) (number 2) t.none t.empty))
    --   LET START() BE $( LET V = VEC 1; $)
    ∷ means 2 [] (Going [] [] 1 19)
    (main (block (t.definitions 17 (t.define (t.variables 18 (record { at = 18; letters = n.v } ∷ []) (t.vector 19 (number 1) t.no_starts)) t.no_definitions) ∷ []) []))
    ∷ []

rows_right : Right rows
rows_right = refl
