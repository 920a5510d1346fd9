-- Worked rows, read by the machine.
use Rattle.bk_syntax.proofs.Terms.{◌≡◌, ℕ, true, List, [], ◌∷◌, None, Ok, Err, refl, Kind, Symbol, Expression, Command, name, unary, binary, choice, call, when, repeat, block, label, empty, none, also, no_commands, no_declarations, declare, definitions, define, no_definitions, routine, function, run, reading, Kind as k, Operator as o, Prefix as p}

-- the name of this letter
abbrev v : ℕ → Symbol
v letter = record { kind = k.Name; line = 1; place = None; text = letter ∷ [] }

abbrev s : Kind → Symbol
s kind = record { kind = kind; line = 1; place = None; text = [] }

abbrev n : ℕ → Expression
n letter = name 1 (letter ∷ [])

-- behind LET F() =
abbrev Gives : List Symbol → Expression → Type 0
Gives ts e = reading (s k.Let ∷ v 70 ∷ s k.Open ∷ s k.Close ∷ s k.Equal ∷ ts) ≡ Ok (declare (definitions 1 (define (function 1 (70 ∷ []) [] e) no_definitions)) no_declarations)

-- behind LET F() BE
abbrev Acts : List Symbol → Command → Type 0
Acts ts c = reading (s k.Let ∷ v 70 ∷ s k.Open ∷ s k.Close ∷ s k.Be ∷ ts) ≡ Ok (declare (definitions 1 (define (routine 1 (70 ∷ []) [] c) no_definitions)) no_declarations)

-- -A!B
minus_word : Gives (s k.Minus ∷ v 65 ∷ s k.Bang ∷ v 66 ∷ []) (unary 1 p.Minus (binary 1 o.Subscript 1 (n 65) (n 66)))
unfolding run
minus_word = refl

-- !A!B
word_word : Gives (s k.Bang ∷ v 65 ∷ s k.Bang ∷ v 66 ∷ []) (unary 1 p.Contents (binary 1 o.Subscript 1 (n 65) (n 66)))
unfolding run
word_word = refl

-- @A!B
address_word : Gives (s k.At ∷ v 65 ∷ s k.Bang ∷ v 66 ∷ []) (unary 1 p.Address (binary 1 o.Subscript 1 (n 65) (n 66)))
unfolding run
address_word = refl

-- NOT A = B
not_equal : Gives (s k.Not ∷ v 65 ∷ s k.Equal ∷ v 66 ∷ []) (unary 1 p.Not (binary 1 o.Equal 1 (n 65) (n 66)))
unfolding run
not_equal = refl

-- A + -B * C
plus_minus : Gives (v 65 ∷ s k.Plus ∷ s k.Minus ∷ v 66 ∷ s k.Star ∷ v 67 ∷ []) (binary 1 o.Add 1 (n 65) (unary 1 p.Minus (binary 1 o.Times 1 (n 66) (n 67))))
unfolding run
plus_minus = refl

-- A < B < C
chain : Gives (v 65 ∷ s k.Less ∷ v 66 ∷ s k.Less ∷ v 67 ∷ []) (binary 1 o.Both 1 (binary 1 o.Less 1 (n 65) (n 66)) (binary 1 o.Less 1 (n 66) (n 67)))
unfolding run
chain = refl

-- A -> B, C -> D, E
choices : Gives (v 65 ∷ s k.Arrow ∷ v 66 ∷ s k.Comma ∷ v 67 ∷ s k.Arrow ∷ v 68 ∷ s k.Comma ∷ v 69 ∷ []) (choice 1 1 (n 65) (n 66) (choice 1 1 (n 67) (n 68) (n 69)))
unfolding run
choices = refl

-- IF A DO B() REPEAT
if_repeat : Acts (s k.If ∷ v 65 ∷ s k.Do ∷ v 66 ∷ s k.Open ∷ s k.Close ∷ s k.Repeat ∷ []) (when 1 true (n 65) (repeat 1 (call 1 (n 66) none)))
unfolding run
if_repeat = refl

-- $( L: REPEAT $)
label_repeat : Acts (s k.SectionOpen ∷ v 76 ∷ s k.Colon ∷ s k.Repeat ∷ s k.SectionClose ∷ []) (block 1 no_declarations (also (repeat 1 (label 1 (76 ∷ []) empty)) no_commands))
unfolding run
label_repeat = refl

-- A,B := TABLE C,D is refused at TABLE
table_refused : reading (s k.Let ∷ v 70 ∷ s k.Open ∷ s k.Close ∷ s k.Be ∷ v 65 ∷ s k.Comma ∷ v 66 ∷ s k.Assign ∷ s k.Table ∷ v 67 ∷ s k.Comma ∷ v 68 ∷ []) ≡ Err (s k.Table ∷ v 67 ∷ s k.Comma ∷ v 68 ∷ [])
unfolding run
table_refused = refl

-- a section that ends too early is refused at its end
end_refused : reading (s k.Let ∷ v 70 ∷ s k.Open ∷ s k.Close ∷ s k.Be ∷ []) ≡ Err []
unfolding run
end_refused = refl
