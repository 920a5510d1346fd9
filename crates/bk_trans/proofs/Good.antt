-- What the code of a part of the named tree asks for, in procedure p with depth s: each name's word is there, a jump finds its
-- label, each command stands where it may, CASEs differ, and the frame has room.
pub use Rattle.bk_trans.proofs.Words.{◌≡◌, ℕ, ◌+◌, ◌<◌, ◌≤◌, ◌^◌, Bool, true, false, Some, List, [], ◌∷◌, ◌++◌, ⊤, FRAME_WORDS, GLOBAL_NUMBER, Bound, AllDiffer, IsLabel, IsDepth, Use, Every, Simple as w, Bound as b, Goal, Target, count, after_definition, after_declaration, after_declarations, goal_of, arith, ◌-◌, not, cond, map, refl, subst, ◌∙◌, signed, OCODE_LABEL, Case, Stmt, AreCases, jumps, results, AllJump, Fits, done, lands, takes, every_front, every_back, first_bytes, zero, suc, Option, None, length, slice_get, sym, ap, length-append, NoneOf, every_both, every_at, ℤ, int_lt, pos, length-take, NAME_BYTES, Operator, Prefix, Standing, body, Typed, enters, goes, returns, gives, begins, points, ends, inr, ◌==◌, eqb-true, eq-eqb, OCODE_STATEMENTS, GlobalEntry, joined, IsGlobal, AreEntries, outside, ended, AllEntries, sets, times_set, total_both, all_found}
use Rattle.bk_ocode.specs.Typing as typing
use Rattle.bk_trans.specs.Program.{Term, Terms, Condition, Lvalue, Lvalues, NamedCommand, NamedCommands, Declaration, Declarations, Definition, Definitions, Starts, named, parens, unary, address, binary, choice, apply, valof, none, more, holds, within, fails, both, either, word, contents, subscript, byte, inside, nowhere, onto, assign, call, goto, label, case_of, default, when, test, while, for_loop, switch, result, simple, block, repeat, repeat_while, no_named_commands, also, statics, lets, no_declarations, declare, variables, no_definitions, define, no_starts, value, vector}
pub use Rattle.bk_trans.proofs.Marks.{Mark, marks, marks_each, marks_if, marks_at, marks_onto, marks_all_onto, marks_from, marks_by_turns, marks_in, marks_through, marks_of_declaration, marks_of_declarations, marks_of_definition, marks_of_definitions, marks_of_starts, AllRight, Right, connective_mark}
pub use Rattle.bk_trans.proofs.Once.{no_more, set_both, words_none}

-- which exits there are
pub record Exits : Type 0 where
  pub loop : Bool
  pub switch : Bool
  pub valof : Bool

abbrev pub no_exits : Exits
no_exits = record { loop = false; switch = false; valof = false }

abbrev pub in_loop : Exits → Exits
in_loop x = record { loop = true; switch = x.switch; valof = x.valof }

abbrev pub in_switch : Exits → Exits
in_switch x = record { loop = x.loop; switch = true; valof = x.valof }

abbrev pub in_valof : Exits
in_valof = record { loop = false; switch = false; valof = true }

-- a label to which a jump of procedure p goes, and the label of a word
abbrev pub IsGoal : (ℕ → Use) → ℕ → Goal → Type 0
IsGoal plan p g = (plan g.label ≡ typing.jumps p g.depth) × IsLabel g.label × IsDepth g.depth

abbrev pub IsWord : (ℕ → Use) → ℕ → Type 0
IsWord plan l = (plan l ≡ typing.word) × IsLabel l

-- what a name means that is pushed at depth s, and one that is stored with depth s, its value included
abbrev pub Pushed : (ℕ → Use) → List Target → ℕ → Bound → Type 0
Pushed plan ts s (b.Constant v) = ⊤
Pushed plan ts s (b.Global (Some g)) = g ≤ GLOBAL_NUMBER
Pushed plan ts s (b.Static m) = IsWord plan ((goal_of ts m).label)
Pushed plan ts s (b.Variable k i) = (2 ≤ i) × (i + 1 ≤ s)
Pushed plan ts s _ = ⊥

abbrev pub Held : (ℕ → Use) → List Target → ℕ → Bound → Type 0
Held plan ts s (b.Global (Some g)) = g ≤ GLOBAL_NUMBER
Held plan ts s (b.Static m) = IsWord plan ((goal_of ts m).label)
Held plan ts s (b.Variable k i) = (2 ≤ i) × (i + 1 ≤ s)
Held plan ts s _ = ⊥

abbrev pub Goes : (ℕ → Use) → List Target → ℕ → Bound → Type 0
Goes plan ts p (b.Label k m) = IsGoal plan p (goal_of ts m)
Goes plan ts p _ = ⊥

-- the words of the CASEs that belong to a SWITCHON
abbrev mutual
  pub case_words : NamedCommand → List ℕ
  case_words (label b c) = case_words c
  case_words (case_of w c) = w ∷ case_words c
  case_words (default c) = case_words c
  case_words (when b e c) = case_words c
  case_words (test e a b) = case_words a ++ case_words b
  case_words (while b e c) = case_words c
  case_words (block no_declarations cs) = case_words_through cs
  case_words (repeat c) = case_words c
  case_words (repeat_while b c e) = case_words c
  case_words _ = []

  pub case_words_through : NamedCommands → List ℕ
  case_words_through no_named_commands = []
  case_words_through (also c cs) = case_words c ++ case_words_through cs

abbrev pub AllWords : List ℕ → Type 0
AllWords vs = Every (λ v. v < 2 ^ 32) vs

abbrev pub Room : ℕ → Type 0
Room d = d ≤ FRAME_WORDS

abbrev mutual
  pub Good : (ℕ → Use) → List Target → ℕ → ℕ → Term → Type 0
  Good plan ts p s (named x) = Pushed plan ts s x × Room (s + 1)
  Good plan ts p s (parens e) = Good plan ts p s e
  Good plan ts p s (unary q e) = Good plan ts p s e
  Good plan ts p s (address x) = GoodAt plan ts p s x × Room (s + 1)
  Good plan ts p s (binary o a b) = Good plan ts p s a × Good plan ts p (s + 1) b
  Good plan ts p s (choice c a b) = GoodIf plan ts p s c × Good plan ts p s a × Good plan ts p s b
  Good plan ts p s (apply e es) = GoodEach plan ts p (s + 2) es × Good plan ts p (s + 2 + count es) e
  Good plan ts p s (valof c) = GoodIn plan ts p in_valof s c × Room (s + 1)
  Good plan ts p s _ = Room (s + 1)

  pub GoodEach : (ℕ → Use) → List Target → ℕ → ℕ → Terms → Type 0
  GoodEach plan ts p s none = ⊤
  GoodEach plan ts p s (more e es) = Good plan ts p s e × GoodEach plan ts p (s + 1) es

  pub GoodIf : (ℕ → Use) → List Target → ℕ → ℕ → Condition → Type 0
  GoodIf plan ts p s (holds e) = Good plan ts p s e
  GoodIf plan ts p s (within c) = GoodIf plan ts p s c
  GoodIf plan ts p s (fails c) = GoodIf plan ts p s c
  GoodIf plan ts p s (both a b) = GoodIf plan ts p s a × GoodIf plan ts p s b
  GoodIf plan ts p s (either a b) = GoodIf plan ts p s a × GoodIf plan ts p s b

  pub GoodAt : (ℕ → Use) → List Target → ℕ → ℕ → Lvalue → Type 0
  GoodAt plan ts p s (word x) = Held plan ts s x
  GoodAt plan ts p s (contents e) = Good plan ts p s e
  GoodAt plan ts p s (subscript a b) = Good plan ts p s a × Good plan ts p (s + 1) b
  GoodAt plan ts p s (inside x) = GoodAt plan ts p s x
  GoodAt plan ts p s _ = ⊥

  -- what is stored into, with depth s, and a value above
  pub GoodOnto : (ℕ → Use) → List Target → ℕ → ℕ → Lvalue → Type 0
  GoodOnto plan ts p s (word x) = Held plan ts s x
  GoodOnto plan ts p s (contents e) = Good plan ts p (s + 1) e
  GoodOnto plan ts p s (subscript a b) = Good plan ts p (s + 1) a × Good plan ts p (s + 1 + 1) b
  GoodOnto plan ts p s (byte a b) = Good plan ts p (s + 1) a × Good plan ts p (s + 1 + 1) b
  GoodOnto plan ts p s (inside x) = GoodOnto plan ts p s x
  GoodOnto plan ts p s nowhere = ⊥

  -- those of an assignment: what has no other beside it gives no code
  pub GoodAllOnto : (ℕ → Use) → List Target → ℕ → ℕ → Lvalues → Terms → Type 0
  GoodAllOnto plan ts p s (onto x xs) (more e es) = GoodOnto plan ts p s x × GoodAllOnto plan ts p s xs es
  GoodAllOnto plan ts p s _ _ = ⊤

  pub GoodFrom : (ℕ → Use) → List Target → ℕ → ℕ → Terms → Lvalues → Type 0
  GoodFrom plan ts p s (more e es) (onto x xs) = Good plan ts p s e × GoodFrom plan ts p s es xs
  GoodFrom plan ts p s _ _ = ⊤

  pub GoodIn : (ℕ → Use) → List Target → ℕ → Exits → ℕ → NamedCommand → Type 0
  GoodIn plan ts p x s (assign ys es) = GoodAllOnto plan ts p s ys es × GoodFrom plan ts p s es ys
  GoodIn plan ts p x s (call e es) = GoodEach plan ts p (s + 2) es × Good plan ts p (s + 2 + count es) e
  GoodIn plan ts p x s (goto y) = Goes plan ts p y
  GoodIn plan ts p x s (label y c) = GoodIn plan ts p x s c
  GoodIn plan ts p x s (case_of v c) = GoodIn plan ts p x s c
  GoodIn plan ts p x s (default c) = GoodIn plan ts p x s c
  GoodIn plan ts p x s (when t e c) = GoodIf plan ts p s e × GoodIn plan ts p x s c
  GoodIn plan ts p x s (test e c d) = GoodIf plan ts p s e × GoodIn plan ts p x s c × GoodIn plan ts p x s d
  GoodIn plan ts p x s (while t e c) = GoodIf plan ts p s e × GoodIn plan ts p (in_loop x) s c
  GoodIn plan ts p x s (for_loop e f k c) = Good plan ts p s e × Good plan ts p (s + 1) f × Room (s + 4) × GoodIn plan ts p (in_loop x) (s + 2) c
  GoodIn plan ts p x s (switch e c) = Good plan ts p s e × AllDiffer (case_words c) × AllWords (case_words c) × GoodIn plan ts p (in_switch x) s c
  GoodIn plan ts p x s (result e) = (x.valof ≡ true) × Good plan ts p s e
  GoodIn plan ts p x s (simple w.Break) = x.loop ≡ true
  GoodIn plan ts p x s (simple w.Loop) = x.loop ≡ true
  GoodIn plan ts p x s (simple w.EndCase) = x.switch ≡ true
  GoodIn plan ts p x s (block no_declarations cs) = GoodThrough plan ts p x s cs
  GoodIn plan ts p x s (block (declare h hs) cs) = GoodDeclared plan ts p s (declare h hs) × GoodThrough plan ts p x (after_declarations s (declare h hs)) cs
  GoodIn plan ts p x s (repeat c) = GoodIn plan ts p (in_loop x) s c
  GoodIn plan ts p x s (repeat_while t c e) = GoodIn plan ts p (in_loop x) s c × GoodIf plan ts p s e
  GoodIn plan ts p x s _ = ⊤

  pub GoodThrough : (ℕ → Use) → List Target → ℕ → Exits → ℕ → NamedCommands → Type 0
  GoodThrough plan ts p x s no_named_commands = ⊤
  GoodThrough plan ts p x s (also c cs) = GoodIn plan ts p x s c × GoodThrough plan ts p x s cs

  -- procedures are apart
  pub GoodDeclared : (ℕ → Use) → List Target → ℕ → ℕ → Declarations → Type 0
  GoodDeclared plan ts p t no_declarations = ⊤
  GoodDeclared plan ts p t (declare h hs) = GoodOneDeclared plan ts p t h × GoodDeclared plan ts p (after_declaration t h) hs

  pub GoodOneDeclared : (ℕ → Use) → List Target → ℕ → ℕ → Declaration → Type 0
  GoodOneDeclared plan ts p t (statics ks) = ⊤
  GoodOneDeclared plan ts p t (lets ds) = GoodDefined plan ts p t ds

  pub GoodDefined : (ℕ → Use) → List Target → ℕ → ℕ → Definitions → Type 0
  GoodDefined plan ts p t no_definitions = ⊤
  GoodDefined plan ts p t (define d ds) = GoodOneDefined plan ts p t d × GoodDefined plan ts p (after_definition t d) ds

  pub GoodOneDefined : (ℕ → Use) → List Target → ℕ → ℕ → Definition → Type 0
  GoodOneDefined plan ts p t (variables is) = GoodStarted plan ts p t is
  GoodOneDefined plan ts p t _ = ⊤

  pub GoodStarted : (ℕ → Use) → List Target → ℕ → ℕ → Starts → Type 0
  GoodStarted plan ts p t no_starts = ⊤
  GoodStarted plan ts p t (value e is) = Good plan ts p t e × GoodStarted plan ts p (t + 1) is
  GoodStarted plan ts p t (vector k is) = Room (t + k + 2) × GoodStarted plan ts p (t + k + 2) is
