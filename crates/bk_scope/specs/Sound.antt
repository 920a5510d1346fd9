-- What holds at each node of a section without faults, by what is in scope there, what is around it and where it is
-- (the arguments are those of `reported`): each name that is used means something of its own procedure or of all, a variable's
-- place is in the frame below its depth there, a label's own name means a label of its procedure, and a procedure's own name
-- a static word or a global; each constant that is asked for has a word within its bounds, a word is asked for where there is one, each command is where it may, and no frame is too large.
use Rattle.std.specs.Prelude.{◌≡◌, ℕ, ◌+◌, ◌<◌, ◌≤◌, true, false, Option, Some, None, List, [], length}
use Rattle.bk_base.specs.declared.limit.TheConstants.{GLOBAL_NUMBER, VEC_NUMBER, FRAME_WORDS}
use Rattle.bk_tree.specs.declared.tree.Prefix.{Prefix}
use Rattle.bk_tree.specs.declared.tree.Prefix.TheVariants as q
use Rattle.bk_tree.specs.declared.tree.Simple.{Simple}
use Rattle.bk_tree.specs.declared.tree.Simple.TheVariants as w
use Rattle.bk_tree.specs.declared.tree.Sort.TheVariants as sort
use Rattle.bk_tree.specs.Tree.{Expression, Expressions, Command, Commands, Declaration, Declarations, Items, Definition, Definitions, Starts, name, number, text, truth, query, parens, unary, binary, choice, apply, valof, table, none, more, empty, assign, call, goto, label, case_of, default, when, test, while, for_loop, switch, result, simple, block, repeat, repeat_while, no_commands, also, constants, definitions, no_declarations, declare, no_items, item, routine, function, variables, no_definitions, define, no_starts, value, vector}
use Rattle.bk_tree.specs.Parts.{at_expression, size}
use Rattle.bk_scope.specs.declared.bound.Bound.{Bound}
use Rattle.bk_scope.specs.declared.bound.Bound.TheVariants.{Constant, Global, Static, Variable, Label}
use Rattle.bk_scope.specs.declared.place.Enclosing.{Enclosing}
use Rattle.bk_scope.specs.declared.role.Role.{Role}
use Rattle.bk_scope.specs.declared.role.Role.TheVariants.{Value, Truth, Destination}
use Rattle.bk_scope.specs.Scope.{Binding, bound_in, bind}
use Rattle.bk_scope.specs.Constants.{constant_word}
use Rattle.bk_scope.specs.Places.{kept, deeper, looping, switching, labelled, valued, called, outermost}
use Rattle.bk_scope.specs.Entering.{labels_of, labels_of_each, with_formals}
use Rattle.bk_scope.specs.Names.{parenthesised, role_of_operand, role_of_operands, place_of_second, words_of_start}
use Rattle.bk_scope.specs.Spots.{Spot, procedures_in, onward, past, numbered, following, after_each, after_done, after_declared, after_one_declared, after_one_defined, after_constant, symbols_each, beginning}
use Rattle.bk_scope.specs.Points.{Point, deepest}
use Rattle.bk_scope.specs.Scoping.{labels_in_scope, procedures_in_scope, place_after_one_defined, scope_after_one, place_after_one, scope_after, place_after_all}
use Rattle.bk_scope.specs.Faults.{addressed, assigned, reported, reported_done}

-- what a name that is used in procedure k means, where its frame has depth d; outside procedures there is no frame
abbrev pub Usable : ℕ → ℕ → Option Bound → Type 0
Usable k d None = ⊥
Usable k d (Some (Constant v)) = (w : ℕ) × (v ≡ Some w)
Usable k d (Some (Global g)) = (n : ℕ) × (g ≡ Some n) × (n ≤ GLOBAL_NUMBER)
Usable k d (Some (Static n)) = Unit {0}
Usable k d (Some (Variable j i)) = (j ≡ k) × (1 ≤ k → (2 ≤ i) × (i < d))
Usable k d (Some (Label j m)) = ⊥

-- a label of procedure k
abbrev pub GoesTo : ℕ → Option Bound → Type 0
GoesTo k y = (m : ℕ) × (y ≡ Some (Label k m))

-- what a procedure's own name means: a static word, or a global
abbrev pub Callable : Option Bound → Type 0
Callable (Some (Static n)) = Unit {0}
Callable (Some (Global g)) = (n : ℕ) × (g ≡ Some n) × (n ≤ GLOBAL_NUMBER)
Callable _ = ⊥

abbrev pub HasWord : Option ℕ → Type 0
HasWord y = (w : ℕ) × (y ≡ Some w)

abbrev pub HasWordUpTo : ℕ → Option ℕ → Type 0
HasWordUpTo most y = (w : ℕ) × (y ≡ Some w) × (w ≤ most)

abbrev pub HaveWords : List Binding → Expressions → Type 0
HaveWords bs none = Unit {0}
HaveWords bs (more e es) = HasWord (constant_word bs e) × HaveWords bs es

abbrev pub PrefixSound : Prefix → List Binding → Expression → Type 0
PrefixSound q.Address bs e = addressed bs e ≡ true
PrefixSound _ bs e = Unit {0}

-- a command of one word is where it may
abbrev pub Applies : Enclosing → Simple → Type 0
Applies p w.Break = p.in_loop ≡ true
Applies p w.Loop = p.in_loop ≡ true
Applies p w.EndCase = p.in_switch ≡ true
Applies p w.Return = p.in_routine ≡ true
Applies p w.Finish = Unit {0}

abbrev pub InSwitch : Enclosing → Type 0
InSwitch p = (m : ℕ) × (p.switch ≡ Some m)

-- items
abbrev pub ManifestsSound : List Binding → Items → Type 0
ManifestsSound bs no_items = Unit {0}
ManifestsSound bs (item l x e is) = HasWord (constant_word bs e) × ManifestsSound (bind x (Constant (constant_word bs e)) bs) is

abbrev pub StaticsSound : List Binding → Items → Type 0
StaticsSound bs no_items = Unit {0}
StaticsSound bs (item l x e is) = HasWord (constant_word bs e) × StaticsSound bs is

abbrev pub GlobalsSound : List Binding → Items → Type 0
GlobalsSound bs no_items = Unit {0}
GlobalsSound bs (item l x e is) = HasWordUpTo GLOBAL_NUMBER (constant_word bs e) × GlobalsSound bs is

-- a procedure's frame, with so many formals, by what is reported of its body
abbrev pub FrameSound : ℕ → List Point → Type 0
FrameSound formals body = deepest (kept (formals + 2)) body ≤ FRAME_WORDS

abbrev mutual
  pub Sound : Role → List Binding → Enclosing → Spot → Expression → Type 0
  Sound r bs p s (name l x) = Usable p.procedure p.depth (bound_in bs x)
  Sound r bs p s (number l n) = Unit {0}
  Sound r bs p s (text l x) = Unit {0}
  Sound r bs p s (truth l b) = Unit {0}
  Sound r bs p s (query l) = Unit {0}
  Sound r bs p s (parens l e) = Sound (parenthesised r) bs p (past 1 s) e
  Sound r bs p s (unary l f e) = PrefixSound f bs e × Sound (role_of_operand f r e) bs p (past 1 s) e
  Sound r bs p s (binary l f m a b) = Sound (role_of_operands f r) bs p s a × Sound (role_of_operands f r) bs (place_of_second f r p) (past 1 (following a s)) b
  Sound r bs p s (choice l m c a b) = Sound Truth bs p s c × Sound Value bs p (past 1 (following c s)) a × Sound Value bs p (following a (past 1 (following c s))) b
  Sound r bs p s (apply l m e es) = Sound Value bs (deeper (size es + 2) p) s e × SoundEach 1 bs (deeper 2 p) (past 1 (following e s)) es
  Sound r bs p s (valof l c) = SoundDone (labels_in_scope p.procedure (s.number + 1) (labels_of c) bs) (labelled s.number (valued p)) (onward 1 (1 + length (labels_of c)) s) c
  Sound r bs p s (table l es) = HaveWords bs es

  pub SoundEach : ℕ → List Binding → Enclosing → Spot → Expressions → Type 0
  SoundEach n bs p s none = Unit {0}
  SoundEach n bs p s (more e es) = Sound Value bs p s e × SoundEach n bs (deeper n p) (following e s) es

  pub SoundDestinations : List Binding → Enclosing → Spot → Expressions → Type 0
  SoundDestinations bs p s none = Unit {0}
  SoundDestinations bs p s (more e es) = (assigned bs e ≡ true) × Sound (Destination false (at_expression e)) bs p s e × SoundDestinations bs p (following e s) es

  pub SoundDone : List Binding → Enclosing → Spot → Command → Type 0
  SoundDone bs p s empty = Unit {0}
  SoundDone bs p s (assign l xs es) = SoundDestinations bs (deeper 1 p) s xs × SoundEach 0 bs p (after_each xs s) es
  SoundDone bs p s (call l e es) = Sound Value bs (deeper (size es + 2) p) s e × SoundEach 1 bs (deeper 2 p) (following e s) es
  SoundDone bs p s (goto l x) = GoesTo p.procedure (bound_in bs x.letters)
  SoundDone bs p s (label l x c) = GoesTo p.procedure (bound_in bs x) × SoundDone bs p (past 1 s) c
  SoundDone bs p s (case_of l e c) = InSwitch p × HasWord (constant_word bs e) × SoundDone bs p (after_constant e (past 1 s)) c
  SoundDone bs p s (default l c) = InSwitch p × SoundDone bs p (past 1 s) c
  SoundDone bs p s (when l b e c) = Sound Truth bs p s e × SoundDone bs p (following e s) c
  SoundDone bs p s (test l e a b) = Sound Truth bs p s e × SoundDone bs p (following e s) a × SoundDone bs p (after_done a (following e s)) b
  SoundDone bs p s (while l b e c) = Sound Truth bs p s e × SoundDone bs (looping p) (following e s) c
  SoundDone bs p s (for_loop l x a b h c) =
      let u : Spot = onward (symbols_each h) 0 (following b (following a s)) in
      Sound Value bs p s a × Sound Value bs (deeper 1 p) (following a s) b × HaveWords bs h
      × SoundDone (labels_in_scope p.procedure (u.number + 1) (labels_of c) (bind x.letters (Variable p.procedure p.depth) bs)) (labelled u.number (looping (deeper 2 p))) (numbered (1 + length (labels_of c)) u) c
  SoundDone bs p s (switch l e c) = Sound Value bs p s e × SoundDone bs (switching (following e s).number p) (numbered 1 (following e s)) c
  SoundDone bs p s (result l e) = (p.in_valof ≡ true) × Sound Value bs p (past 1 s) e
  SoundDone bs p s (simple l f) = Applies p f
  SoundDone bs p s (block l no_declarations cs) = SoundDoneEach bs p s cs
  SoundDone bs p s (block l (declare d ds) cs) =
      let u : Spot = after_declared (declare d ds) s in
      SoundDeclared bs p s (declare d ds)
      × SoundDoneEach (labels_in_scope p.procedure (u.number + 1) (labels_of_each cs) (scope_after bs p s (declare d ds))) (labelled u.number (place_after_all bs p s (declare d ds))) (numbered (1 + length (labels_of_each cs)) u) cs
  SoundDone bs p s (repeat l c) = SoundDone bs (looping p) s c
  SoundDone bs p s (repeat_while l b c e) = SoundDone bs (looping p) s c × Sound Truth bs p (after_done c s) e

  pub SoundDoneEach : List Binding → Enclosing → Spot → Commands → Type 0
  SoundDoneEach bs p s no_commands = Unit {0}
  SoundDoneEach bs p s (also c cs) = SoundDone bs p s c × SoundDoneEach bs p (after_done c s) cs

  pub SoundDeclared : List Binding → Enclosing → Spot → Declarations → Type 0
  SoundDeclared bs p s no_declarations = Unit {0}
  SoundDeclared bs p s (declare d ds) = SoundOneDeclared bs p s d × SoundDeclared (scope_after_one bs p s d) (place_after_one bs p s d) (after_one_declared d s) ds

  pub SoundOneDeclared : List Binding → Enclosing → Spot → Declaration → Type 0
  SoundOneDeclared bs p s (constants l sort.Manifest is) = ManifestsSound bs is
  SoundOneDeclared bs p s (constants l sort.Static is) = StaticsSound bs is
  SoundOneDeclared bs p s (constants l sort.Global is) = GlobalsSound bs is
  SoundOneDeclared bs p s (definitions l ds) = SoundDefined (procedures_in_scope (s.number + 1) ds bs) p (numbered (1 + procedures_in ds) s) ds

  pub SoundDefined : List Binding → Enclosing → Spot → Definitions → Type 0
  SoundDefined bs p s no_definitions = Unit {0}
  SoundDefined bs p s (define d ds) = SoundOneDefined bs p s d × SoundDefined bs (place_after_one_defined bs p d) (after_one_defined d s) ds

  pub SoundOneDefined : List Binding → Enclosing → Spot → Definition → Type 0
  SoundOneDefined bs p s (routine l x fs c) =
      let cs : List Binding = labels_in_scope s.number (s.number + 2) (labels_of c) (with_formals s.number 2 fs bs) in
      let q : Enclosing = labelled (s.number + 1) (called true s.number (length fs)) in
      let u : Spot = onward (1 + length fs) (2 + length (labels_of c)) s in
      Callable (bound_in bs x) × FrameSound (length fs) (reported_done cs q u c) × SoundDone cs q u c
  SoundOneDefined bs p s (function l x fs e) =
      let cs : List Binding = with_formals s.number 2 fs bs in
      let q : Enclosing = called false s.number (length fs) in
      let u : Spot = onward (1 + length fs) 1 s in
      Callable (bound_in bs x) × FrameSound (length fs) (reported Value cs q u e) × Sound Value cs q u e
  SoundOneDefined bs p s (variables l xs is) = SoundStarted bs p (past (length xs) s) is

  pub SoundStarted : List Binding → Enclosing → Spot → Starts → Type 0
  SoundStarted bs p s no_starts = Unit {0}
  SoundStarted bs p s (value e is) = Sound Value bs p s e × SoundStarted bs (deeper 1 p) (following e s) is
  SoundStarted bs p s (vector l e is) = HasWordUpTo VEC_NUMBER (constant_word bs e) × SoundStarted bs (deeper (words_of_start bs e + 1) p) (after_constant e s) is

-- a whole section
abbrev pub SoundSection : Declarations → Type 0
SoundSection ds = SoundDeclared [] outermost beginning ds
