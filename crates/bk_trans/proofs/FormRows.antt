-- Worked forms: what the table of the scheme in docs/SCHEME.md says of each, read off that table. Each form stands in a procedure
-- F(A, B), whose name means no global: its entry is L1, the word of its name L2, the first label of the form L3, and its depth 4.
use Rattle.bk_trans.proofs.Words.{◌≡◌, ℕ, true, false, pos, negsuc, List, [], ◌∷◌, ◌++◌, map, refl, Operator, Mention, Expression, Expressions, Command, Commands, Declarations, Definition, name, number, text, truth, query, parens, unary, binary, choice, apply, valof, table, none, more, empty, assign, call, goto, label, case_of, default, when, test, while, for_loop, switch, result, simple, block, repeat, repeat_while, no_commands, also, constants, definitions, no_declarations, declare, no_items, item, routine, function, variables, no_definitions, define, no_starts, value, vector, Local, Stmt}
use Rattle.bk_trans.proofs.Terms.{Operator as o, Prefix as q, Simple as w, Sort as s, Global, Static, Monadic as m, Dyadic as d, Stmt as t}
use Rattle.bk_trans.proofs.Rows.{translated}

abbrev mention : ℕ → Mention
mention x = record { at = 1; letters = x ∷ [] }

-- A, B, C, F, L and M
abbrev a : Expression
a = name 1 (65 ∷ [])

abbrev b : Expression
b = name 1 (66 ∷ [])

abbrev c : Expression
c = name 1 (67 ∷ [])

abbrev f : Expression
f = name 1 (70 ∷ [])

abbrev k : ℕ → Expression
k n = number 1 n

abbrev just : Expression → Expressions
just e = more e none

abbrev pair : Expression → Expression → Expressions
pair x y = more x (just y)

abbrev only : Command → Commands
only x = also x no_commands

abbrev formals : List Mention
formals = mention 65 ∷ mention 66 ∷ []

abbrev section_of : Definition → Declarations
section_of x = declare (definitions 1 (define x no_definitions)) no_declarations

-- the procedure, with these statements between its SAVE and its return, and these data behind the word of its name
abbrev entry : List Stmt → List Stmt
entry body = t.Entry 1 (70 ∷ []) ∷ t.Save 4 ∷ body

abbrev ending : List Stmt → List Stmt
ending more_data = t.EndProcedure ∷ t.DataLabel 2 ∷ t.DataAddress 1 ∷ (more_data ++ t.Globals [] ∷ [])

-- a row: F(A, B) = E pushes so, A and B and an operator give so, F(A, B) BE C does so, a section becomes so
data Row : Type 0 where
  pushes : Expression → List Stmt → Row
  operates : Operator → List Stmt → Row
  does : Command → List Stmt → Row
  translates : Declarations → List Stmt → Row

-- A := 1, and its statements
abbrev act : Command
act = assign 1 (just a) (just (k 1))

abbrev done : List Stmt
done = t.Number (pos 1) ∷ t.Assign (Local 2) ∷ []

abbrev push_a : Stmt
push_a = t.Load (Local 2)

abbrev push_b : Stmt
push_b = t.Load (Local 3)

abbrev section_in : Row → Declarations
section_in (pushes e code) = section_of (function 1 (70 ∷ []) formals e)
section_in (operates x code) = section_of (function 1 (70 ∷ []) formals (binary 1 x 1 a b))
section_in (does x code) = section_of (routine 1 (70 ∷ []) formals x)
section_in (translates ds code) = ds

abbrev code_in : Row → List Stmt
code_in (pushes e code) = entry (code ++ t.ReturnItem ∷ ending [])
code_in (operates x code) = entry ((push_a ∷ push_b ∷ code) ++ t.ReturnItem ∷ ending [])
code_in (does x code) = entry (code ++ t.Return ∷ ending [])
code_in (translates ds code) = code

-- the scheme gives the code of each
abbrev Right : List Row → Type 0
Right rows = map (λ row. translated (section_in row)) rows ≡ map code_in rows

-- OPERANDS
abbrev operands : List Row
operands =
    -- 7
    pushes (k 7) (t.Number (pos 7) ∷ [])
    -- #XFFFFFFFF
    ∷ pushes (k 4294967295) (t.Number (negsuc 0) ∷ [])
    -- "AB"
    ∷ pushes (text 1 (65 ∷ 66 ∷ [])) (t.Text (65 ∷ 66 ∷ []) ∷ [])
    ∷ pushes (truth 1 true) (t.True ∷ [])
    ∷ pushes (truth 1 false) (t.False ∷ [])
    -- ?
    ∷ pushes (query 1) (t.Query ∷ [])
    -- (B)
    ∷ pushes (parens 1 b) (push_b ∷ [])
    -- F itself, a static word
    ∷ pushes f (t.Load (Static 2) ∷ [])
    ∷ []

operands_right : Right operands
operands_right = refl

-- PREFIX OPERATORS
abbrev prefixes : List Row
prefixes =
    pushes (unary 1 q.Plus a) (push_a ∷ [])
    ∷ pushes (unary 1 q.Minus (k 5)) (t.Number (pos 5) ∷ t.Monadic m.Negate ∷ [])
    ∷ pushes (unary 1 q.Not a) (push_a ∷ t.Monadic m.Not ∷ [])
    ∷ pushes (unary 1 q.Contents a) (push_a ∷ t.Monadic m.Contents ∷ [])
    -- @A, @(A), @F, @!A, @(A!B)
    ∷ pushes (unary 1 q.Address a) (t.Address (Local 2) ∷ [])
    ∷ pushes (unary 1 q.Address (parens 1 a)) (t.Address (Local 2) ∷ [])
    ∷ pushes (unary 1 q.Address f) (t.Address (Static 2) ∷ [])
    ∷ pushes (unary 1 q.Address (unary 1 q.Contents a)) (push_a ∷ [])
    ∷ pushes (unary 1 q.Address (binary 1 o.Subscript 1 a b)) (push_a ∷ push_b ∷ t.Dyadic d.Add ∷ [])
    ∷ []

prefixes_right : Right prefixes
prefixes_right = refl

-- OPERATORS: A, B, and then
abbrev operators : List Row
operators =
    operates o.Subscript (t.Dyadic d.Add ∷ t.Monadic m.Contents ∷ [])
    ∷ operates o.Byte (t.LoadByte ∷ [])
    ∷ operates o.Times (t.Dyadic d.Multiply ∷ [])
    ∷ operates o.Over (t.Dyadic d.Divide ∷ [])
    ∷ operates o.Rem (t.Dyadic d.Remainder ∷ [])
    ∷ operates o.Add (t.Dyadic d.Add ∷ [])
    ∷ operates o.Subtract (t.Dyadic d.Subtract ∷ [])
    ∷ operates o.Equal (t.Dyadic d.Equal ∷ [])
    ∷ operates o.Unequal (t.Dyadic d.Unequal ∷ [])
    ∷ operates o.Less (t.Dyadic d.Less ∷ [])
    ∷ operates o.Greater (t.Dyadic d.Greater ∷ [])
    ∷ operates o.AtMost (t.Dyadic d.AtMost ∷ [])
    ∷ operates o.AtLeast (t.Dyadic d.AtLeast ∷ [])
    ∷ operates o.ShiftLeft (t.Dyadic d.ShiftLeft ∷ [])
    ∷ operates o.ShiftRight (t.Dyadic d.ShiftRight ∷ [])
    -- outside conditions both operands of & and | are pushed
    ∷ operates o.Both (t.Dyadic d.And ∷ [])
    ∷ operates o.Either (t.Dyadic d.Or ∷ [])
    ∷ operates o.Same (t.Dyadic d.Eqv ∷ [])
    ∷ operates o.Differ (t.Dyadic d.Neqv ∷ [])
    -- the second operand lies one deeper: A + F(B)
    ∷ pushes (binary 1 o.Add 1 a (apply 1 1 f (just b)))
    (push_a ∷ t.Stack 7 ∷ push_b ∷ t.Load (Static 2) ∷ t.CallFunction 5 ∷ t.Dyadic d.Add ∷ [])
    ∷ []

operators_right : Right operators
operators_right = refl

-- CALLS, VALOF, CHOICES, TABLES
abbrev calls : List Row
calls =
    -- F(A, B)
    pushes (apply 1 1 f (pair a b)) (t.Stack 6 ∷ push_a ∷ push_b ∷ t.Load (Static 2) ∷ t.CallFunction 4 ∷ [])
    -- F(A, F(B))
    ∷ pushes (apply 1 1 f (pair a (apply 1 1 f (just b))))
    (t.Stack 6 ∷ push_a ∷ t.Stack 9 ∷ push_b ∷ t.Load (Static 2) ∷ t.CallFunction 7 ∷ t.Load (Static 2) ∷ t.CallFunction 4 ∷ [])
    -- (A -> A, B)(): the procedure has its labels before those of the arguments, and is pushed behind them
    ∷ pushes (apply 1 1 (choice 1 1 a a b) (just (valof 1 (result 1 b))))
    (t.Stack 6 ∷ push_b ∷ t.GiveResult 5 ∷ t.Label 5 ∷ t.TakeResult 6
    ∷ push_a ∷ t.JumpIf false 3 ∷ push_a ∷ t.GiveResult 4 ∷ t.Label 3 ∷ push_b ∷ t.GiveResult 4 ∷ t.Label 4 ∷ t.TakeResult 7 ∷ t.CallFunction 4 ∷ [])
    -- VALOF RESULTIS A
    ∷ pushes (valof 1 (result 1 a)) (push_a ∷ t.GiveResult 3 ∷ t.Label 3 ∷ t.TakeResult 4 ∷ [])
    -- A -> B, 1
    ∷ pushes (choice 1 1 a b (k 1))
    (push_a ∷ t.JumpIf false 3 ∷ push_b ∷ t.GiveResult 4 ∷ t.Label 3 ∷ t.Number (pos 1) ∷ t.GiveResult 4 ∷ t.Label 4 ∷ t.TakeResult 4 ∷ [])
    -- TABLE 1, -2
    ∷ translates (section_of (function 1 (70 ∷ []) formals (table 1 (pair (k 1) (unary 1 q.Minus (k 2))))))
    (entry (t.Address (Static 3) ∷ t.ReturnItem ∷ ending (t.DataLabel 3 ∷ t.DataNumber (pos 1) ∷ t.DataNumber (negsuc 1) ∷ [])))
    ∷ []

calls_right : Right calls
calls_right = refl

-- CONDITIONS
abbrev conditions : List Row
conditions =
    -- IF A & B DO A := 1: either is 0, and the command is passed by
    does (when 1 true (binary 1 o.Both 1 a b) act)
    (push_a ∷ t.JumpIf false 3 ∷ push_b ∷ t.JumpIf false 3 ∷ done ++ t.Label 3 ∷ [])
    -- UNLESS A & B DO A := 1
    ∷ does (when 1 false (binary 1 o.Both 1 a b) act)
    (push_a ∷ t.JumpIf false 4 ∷ push_b ∷ t.JumpIf true 3 ∷ t.Label 4 ∷ done ++ t.Label 3 ∷ [])
    -- IF A | B DO A := 1
    ∷ does (when 1 true (binary 1 o.Either 1 a b) act)
    (push_a ∷ t.JumpIf true 4 ∷ push_b ∷ t.JumpIf false 3 ∷ t.Label 4 ∷ done ++ t.Label 3 ∷ [])
    -- UNLESS A | B DO A := 1
    ∷ does (when 1 false (binary 1 o.Either 1 a b) act)
    (push_a ∷ t.JumpIf true 3 ∷ push_b ∷ t.JumpIf true 3 ∷ done ++ t.Label 3 ∷ [])
    -- IF NOT (A & B) DO A := 1
    ∷ does (when 1 true (unary 1 q.Not (parens 1 (binary 1 o.Both 1 a b))) act)
    (push_a ∷ t.JumpIf false 4 ∷ push_b ∷ t.JumpIf true 3 ∷ t.Label 4 ∷ done ++ t.Label 3 ∷ [])
    ∷ []

conditions_right : Right conditions
conditions_right = refl

-- COMMANDS
abbrev commands : List Row
commands =
    does empty []
    -- A := B
    ∷ does (assign 1 (just a) (just b)) (push_b ∷ t.Assign (Local 2) ∷ [])
    -- A, B := B, A: one after the other
    ∷ does (assign 1 (pair a b) (pair b a)) (push_b ∷ t.Assign (Local 2) ∷ push_a ∷ t.Assign (Local 3) ∷ [])
    -- !A := B
    ∷ does (assign 1 (just (unary 1 q.Contents a)) (just b)) (push_b ∷ push_a ∷ t.AssignAt ∷ [])
    -- A!B := 1
    ∷ does (assign 1 (just (binary 1 o.Subscript 1 a b)) (just (k 1)))
    (t.Number (pos 1) ∷ push_a ∷ push_b ∷ t.Dyadic d.Add ∷ t.AssignAt ∷ [])
    -- A%B := 1
    ∷ does (assign 1 (just (binary 1 o.Byte 1 a b)) (just (k 1))) (t.Number (pos 1) ∷ push_a ∷ push_b ∷ t.AssignByte ∷ [])
    -- (A) := B, F := B
    ∷ does (assign 1 (pair (parens 1 a) f) (pair b b)) (push_b ∷ t.Assign (Local 2) ∷ push_b ∷ t.Assign (Static 2) ∷ [])
    -- F(A)
    ∷ does (call 1 f (just a)) (t.Stack 6 ∷ push_a ∷ t.Load (Static 2) ∷ t.CallRoutine 4 ∷ [])
    -- $( L: GOTO L $)
    ∷ does (block 1 no_declarations (only (label 1 (76 ∷ []) (goto 1 (mention 76))))) (t.Label 3 ∷ t.Stack 4 ∷ t.Jump 3 ∷ t.Stack 4 ∷ [])
    -- IF A DO A := 1
    ∷ does (when 1 true a act) (push_a ∷ t.JumpIf false 3 ∷ done ++ t.Label 3 ∷ [])
    -- UNLESS A DO A := 1
    ∷ does (when 1 false a act) (push_a ∷ t.JumpIf true 3 ∷ done ++ t.Label 3 ∷ [])
    -- TEST A DO A := 1 OR F(A)
    ∷ does (test 1 a act (call 1 f (just a)))
    (push_a ∷ t.JumpIf false 3 ∷ done ++ t.Jump 4 ∷ t.Label 3 ∷ t.Stack 6 ∷ push_a ∷ t.Load (Static 2) ∷ t.CallRoutine 4 ∷ t.Label 4 ∷ [])
    -- WHILE A DO A := 1
    ∷ does (while 1 true a act) (t.Jump 3 ∷ t.Label 4 ∷ done ++ t.Label 3 ∷ push_a ∷ t.JumpIf true 4 ∷ t.Label 5 ∷ [])
    -- UNTIL A DO $( LOOP; BREAK $)
    ∷ does (while 1 false a (block 1 no_declarations (also (simple 1 w.Loop) (only (simple 1 w.Break)))))
    (t.Jump 3 ∷ t.Label 4 ∷ t.Stack 4 ∷ t.Jump 3 ∷ t.Stack 4 ∷ t.Stack 4 ∷ t.Jump 5 ∷ t.Stack 4 ∷ t.Label 3 ∷ push_a ∷ t.JumpIf false 4 ∷ t.Label 5 ∷ [])
    -- $( LOOP; BREAK $) REPEAT
    ∷ does (repeat 1 (block 1 no_declarations (also (simple 1 w.Loop) (only (simple 1 w.Break)))))
    (t.Label 3 ∷ t.Stack 4 ∷ t.Jump 3 ∷ t.Stack 4 ∷ t.Stack 4 ∷ t.Jump 4 ∷ t.Stack 4 ∷ t.Jump 3 ∷ t.Label 4 ∷ [])
    -- $( LOOP; BREAK $) REPEATWHILE A
    ∷ does (repeat_while 1 true (block 1 no_declarations (also (simple 1 w.Loop) (only (simple 1 w.Break)))) a)
    (t.Label 3 ∷ t.Stack 4 ∷ t.Jump 4 ∷ t.Stack 4 ∷ t.Stack 4 ∷ t.Jump 5 ∷ t.Stack 4 ∷ t.Label 4 ∷ push_a ∷ t.JumpIf true 3 ∷ t.Label 5 ∷ [])
    -- A := 1 REPEATUNTIL A
    ∷ does (repeat_while 1 false act a) (t.Label 3 ∷ done ++ t.Label 4 ∷ push_a ∷ t.JumpIf false 3 ∷ t.Label 5 ∷ [])
    -- FOR I = A TO B DO $( LOOP; BREAK $): the limit is taken once, into slot 5
    ∷ does (for_loop 1 (mention 73) a b none (block 1 no_declarations (also (simple 1 w.Loop) (only (simple 1 w.Break)))))
    (push_a ∷ push_b ∷ t.Store ∷ t.Jump 3 ∷ t.Label 4 ∷ t.Stack 6 ∷ t.Jump 5 ∷ t.Stack 6 ∷ t.Stack 6 ∷ t.Jump 6 ∷ t.Stack 6
    ∷ t.Label 5 ∷ t.Load (Local 4) ∷ t.Number (pos 1) ∷ t.Dyadic d.Add ∷ t.Assign (Local 4)
    ∷ t.Label 3 ∷ t.Load (Local 4) ∷ t.Load (Local 5) ∷ t.Dyadic d.AtMost ∷ t.JumpIf true 4 ∷ t.Label 6 ∷ t.Stack 4 ∷ [])
    -- FOR I = A TO B BY -2 DO B := I
    ∷ does (for_loop 1 (mention 73) a b (just (unary 1 q.Minus (k 2))) (assign 1 (just b) (just (name 1 (73 ∷ [])))))
    (push_a ∷ push_b ∷ t.Store ∷ t.Jump 3 ∷ t.Label 4 ∷ t.Load (Local 4) ∷ t.Assign (Local 3)
    ∷ t.Label 5 ∷ t.Load (Local 4) ∷ t.Number (negsuc 1) ∷ t.Dyadic d.Add ∷ t.Assign (Local 4)
    ∷ t.Label 3 ∷ t.Load (Local 4) ∷ t.Load (Local 5) ∷ t.Dyadic d.AtLeast ∷ t.JumpIf true 4 ∷ t.Label 6 ∷ t.Stack 4 ∷ [])
    -- SWITCHON A INTO $( CASE 2: A := 1; ENDCASE; CASE -1: DEFAULT: A := 1 $)
    ∷ does (switch 1 a (block 1 no_declarations (also (case_of 1 (k 2) act) (also (simple 1 w.EndCase) (only (case_of 1 (unary 1 q.Minus (k 1)) (default 1 act)))))))
    (push_a ∷ t.Switch 6 (record { value = pos 2; label = 4 } ∷ record { value = negsuc 0; label = 5 } ∷ [])
    ∷ t.Label 4 ∷ done ++ t.Stack 4 ∷ t.Jump 3 ∷ t.Stack 4 ∷ t.Label 5 ∷ t.Label 6 ∷ done ++ t.Label 3 ∷ [])
    -- SWITCHON A INTO CASE 1: A := 1, without a DEFAULT
    ∷ does (switch 1 a (case_of 1 (k 1) act))
    (push_a ∷ t.Switch 3 (record { value = pos 1; label = 4 } ∷ []) ∷ t.Label 4 ∷ done ++ t.Label 3 ∷ [])
    ∷ does (simple 1 w.Return) (t.Return ∷ [])
    ∷ does (simple 1 w.Finish) (t.Finish ∷ [])
    ∷ []

commands_right : Right commands
commands_right = refl

-- BLOCKS
abbrev blocks : List Row
blocks =
    -- $( A := 1; A := 1 $)
    does (block 1 no_declarations (also act (only act))) (done ++ done)
    -- $( LET C, D = A, B; C := 1 $): one STORE behind all
    ∷ does (block 1 (declare (definitions 1 (define (variables 1 (mention 67 ∷ mention 68 ∷ []) (value a (value b no_starts))) no_definitions)) no_declarations) (only (assign 1 (just c) (just (k 1)))))
    (push_a ∷ push_b ∷ t.Store ∷ t.Number (pos 1) ∷ t.Assign (Local 4) ∷ t.Stack 4 ∷ [])
    -- $( LET V = VEC 3 AND C = A; C := 1 $): words 0 to 3 in slots 4 to 7, V in slot 8, C in slot 9
    ∷ does (block 1 (declare (definitions 1 (define (variables 1 (mention 86 ∷ []) (vector 1 (k 3) no_starts)) (define (variables 1 (mention 67 ∷ []) (value a no_starts)) no_definitions))) no_declarations) (only (assign 1 (just c) (just (k 1)))))
    (t.Stack 8 ∷ t.Address (Local 4) ∷ push_a ∷ t.Store ∷ t.Number (pos 1) ∷ t.Assign (Local 9) ∷ t.Stack 4 ∷ [])
    -- $( MANIFEST $( C = 7 $); A := C $)
    ∷ does (block 1 (declare (constants 1 s.Manifest (item 1 (67 ∷ []) (k 7) no_items)) no_declarations) (only (assign 1 (just a) (just c))))
    (t.Number (pos 7) ∷ t.Assign (Local 2) ∷ t.Stack 4 ∷ [])
    -- $( GLOBAL $( C:7 $); A := C; C := @C $)
    ∷ does (block 1 (declare (constants 1 s.Global (item 1 (67 ∷ []) (k 7) no_items)) no_declarations) (also (assign 1 (just a) (just c)) (only (assign 1 (just c) (just (unary 1 q.Address c))))))
    (t.Load (Global 7) ∷ t.Assign (Local 2) ∷ t.Address (Global 7) ∷ t.Assign (Global 7) ∷ t.Stack 4 ∷ [])
    -- F(A, B) BE $( STATIC $( C = -1 $); A := C; C := @C $)
    ∷ translates (section_of (routine 1 (70 ∷ []) formals (block 1 (declare (constants 1 s.Static (item 1 (67 ∷ []) (unary 1 q.Minus (k 1)) no_items)) no_declarations) (also (assign 1 (just a) (just c)) (only (assign 1 (just c) (just (unary 1 q.Address c))))))))
    (entry (t.Load (Static 3) ∷ t.Assign (Local 2) ∷ t.Address (Static 3) ∷ t.Assign (Static 3) ∷ t.Stack 4 ∷ t.Return ∷ ending (t.DataLabel 3 ∷ t.DataNumber (negsuc 0) ∷ [])))
    -- F(A, B) BE $( LET C() BE A(); C() $) with A a formal of its own: the inner procedure stands behind the outer one, no STORE
    ∷ translates (section_of (routine 1 (70 ∷ []) formals (block 1 (declare (definitions 1 (define (routine 1 (67 ∷ []) (mention 65 ∷ []) (call 1 a none)) no_definitions)) no_declarations) (only (call 1 c none)))))
    (entry (t.Stack 6 ∷ t.Load (Static 4) ∷ t.CallRoutine 4 ∷ t.Stack 4 ∷ t.Return ∷ t.EndProcedure
    ∷ t.Entry 3 (67 ∷ []) ∷ t.Save 3 ∷ t.Stack 5 ∷ t.Load (Local 2) ∷ t.CallRoutine 3 ∷ t.Return
    ∷ ending (t.DataLabel 4 ∷ t.DataAddress 3 ∷ [])))
    -- GLOBAL $( C:9; F:3 $); LET F() BE FINISH AND C() = 1: a procedure of a global has an entry alone; globals in the order of nodes
    ∷ translates (declare (constants 1 s.Global (item 1 (67 ∷ []) (k 9) (item 1 (70 ∷ []) (k 3) no_items)))
    (declare (definitions 1 (define (routine 1 (70 ∷ []) [] (simple 1 w.Finish)) (define (function 1 (67 ∷ []) [] (k 1)) no_definitions))) no_declarations))
    (t.Entry 1 (70 ∷ []) ∷ t.Save 2 ∷ t.Finish ∷ t.Return ∷ t.EndProcedure ∷ t.Entry 2 (67 ∷ []) ∷ t.Save 2 ∷ t.Number (pos 1) ∷ t.ReturnItem ∷ t.EndProcedure
    ∷ t.Globals (record { number = 3; label = 1 } ∷ record { number = 9; label = 2 } ∷ []) ∷ [])
    ∷ []

blocks_right : Right blocks
blocks_right = refl
