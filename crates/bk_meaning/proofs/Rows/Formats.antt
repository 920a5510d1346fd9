-- WRITEF, and numbers in columns.
use Rattle.bk_meaning.proofs.Terms.{List, [], ◌∷◌, ◌++◌, refl, Prefix as q, status, digits, Ends, Going}
use Rattle.bk_base.specs.Format.{aligned}
use Rattle.bk_meaning.proofs.Rows.Nodes.{named, number, text, unary, call, compound, Row, takes, Right, main, wrch, writen}
use Rattle.bk_meaning.proofs.Rows.Names as n

abbrev rows : List Row
rows =
    -- Each directive.
    --   LET START() BE $( WRITEF("%N+%N=%I4 %S%C%%*N", 2, 3, 5, "OK", '!'); WRITEF("A%Q%") $)
    takes 12 [] (Ends ((digits 2 ++ (43 ∷ (digits 3 ++ (61 ∷ (aligned 5 4 ++ (32 ∷ (79 ∷ (75 ∷ (33 ∷ (37 ∷ (10 ∷ []))))))))))) ++ (65 ∷ 37 ∷ 81 ∷ 37 ∷ [])) [] 2 (status 0))
    (Going (digits 2 ++ (43 ∷ (digits 3 ++ (61 ∷ (aligned 5 4 ++ (32 ∷ (79 ∷ (75 ∷ (33 ∷ (37 ∷ (10 ∷ []))))))))))) [] 2 1)
    (main (compound (call (named n.writef) (text (37 ∷ 78 ∷ 43 ∷ 37 ∷ 78 ∷ 61 ∷ 37 ∷ 73 ∷ 52 ∷ 32 ∷ 37 ∷ 83 ∷ 37 ∷ 67 ∷ 37 ∷ 37 ∷ 10 ∷ []) ∷ number 2
    ∷ number 3 ∷ number 5 ∷ text (79 ∷ 75 ∷ []) ∷ number 33 ∷ []) ∷ call (named n.writef) (text (65 ∷ 37 ∷ 81 ∷ 37 ∷ []) ∷ []) ∷ [])))
    -- Letter case is ignored.
    --   LET START() BE $( WRITEF("%s%c%n%i2.", "OK", '!', 7, 8) $)
    ∷ takes 8 [] (Ends (79 ∷ (75 ∷ (33 ∷ (digits 7 ++ (aligned 8 2 ++ (46 ∷ [])))))) [] 2 (status 0)) (Going [] [] 1 1)
    (main (compound (call (named n.writef) (text (37 ∷ 115 ∷ 37 ∷ 99 ∷ 37 ∷ 110 ∷ 37 ∷ 105 ∷ 50 ∷ 46 ∷ []) ∷ text (79 ∷ 75 ∷ []) ∷ number 33 ∷ number
    7 ∷ number 8 ∷ []) ∷ [])))
    -- What begins no directive stands for itself and takes no argument.
    --   LET START() BE $( WRITEF("%%N%x%I%IA%C", 'Y') $)
    ∷ takes 5 [] (Ends (37 ∷ 78 ∷ 37 ∷ 120 ∷ 37 ∷ 73 ∷ 37 ∷ 73 ∷ 65 ∷ 89 ∷ []) [] 2 (status 0)) (Going [] [] 1 1)
    (main (compound (call (named n.writef) (text (37 ∷ 37 ∷ 78 ∷ 37 ∷ 120 ∷ 37 ∷ 73 ∷ 37 ∷ 73 ∷ 65 ∷ 37 ∷ 67 ∷ []) ∷ number 89 ∷ []) ∷ [])))
    -- Arguments left over are dropped.
    --   LET START() BE $( WRITEF("A", 1, 2); WRITEF("%C", 'B', 3) $)
    ∷ takes 11 [] (Ends (65 ∷ 66 ∷ []) [] 2 (status 0)) (Going (65 ∷ []) [] 2 1)
    (main (compound (call (named n.writef) (text (65 ∷ []) ∷ number 1 ∷ number 2 ∷ []) ∷ call (named n.writef) (text (37 ∷ 67 ∷ []) ∷ number 66 ∷
    number 3 ∷ []) ∷ [])))
    -- An empty format.
    --   LET START() BE $( WRITEF(""); WRCH('.') $)
    ∷ takes 7 [] (Ends (46 ∷ []) [] 2 (status 0)) (Going [] [] 2 1)
    (main (compound (call (named n.writef) (text [] ∷ []) ∷ wrch (number 46) ∷ [])))
    -- WRITED.
    --   LET START() BE $( WRITED(5, 3); WRITED(-5, 1); WRITED(7, -1); WRITED(7, 300) $)
    ∷ takes 19 [] (Ends ((((aligned 5 3) ++ aligned 4294967291 1) ++ aligned 7 4294967295) ++ aligned 7 300) [] 2 (status 0))
    (Going (((aligned 5 3) ++ aligned 4294967291 1) ++ aligned 7 4294967295) [] 2 1)
    (main (compound (call (named n.writed) (number 5 ∷ number 3 ∷ []) ∷ call (named n.writed) (unary q.Minus (number 5) ∷ number 1 ∷ []) ∷ call (named
    n.writed) (number 7 ∷ unary q.Minus (number 1) ∷ []) ∷ call (named n.writed) (number 7 ∷ number 300 ∷ []) ∷ [])))
    -- WRITEN of the least number and of -1.
    --   LET START() BE $( WRITEN(2147483648); NEWLINE(); WRITEN(-1) $)
    ∷ takes 10 [] (Ends (((digits 2147483648) ++ (10 ∷ [])) ++ digits 4294967295) [] 2 (status 0)) (Going ((digits 2147483648) ++ (10 ∷ [])) [] 2 1)
    (main (compound (writen (number 2147483648) ∷ call (named n.newline) [] ∷ writen (unary q.Minus (number 1)) ∷ [])))
    ∷ []

rows_right : Right rows
rows_right = refl
