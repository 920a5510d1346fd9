-- What is reported of each node, by what is in scope there (`bs`), what is around it (`p`) and where it is (`s`).
use Rattle.std.specs.Prelude.{ℕ, ◌+◌, ◌==◌, nat_lt, Bool, true, false, cond, Option, Some, None, List, [], ◌∷◌, ◌++◌, length}
use Rattle.bk_base.specs.declared.limit.TheConstants.{GLOBAL_NUMBER, VEC_NUMBER, FRAME_WORDS}
use Rattle.bk_tree.specs.declared.tree.Operator.TheVariants as o
use Rattle.bk_tree.specs.declared.tree.Prefix.{Prefix}
use Rattle.bk_tree.specs.declared.tree.Prefix.TheVariants as q
use Rattle.bk_tree.specs.declared.tree.Simple.{Simple}
use Rattle.bk_tree.specs.declared.tree.Simple.TheVariants as w
use Rattle.bk_tree.specs.declared.tree.Sort.TheVariants as sort
use Rattle.bk_tree.specs.Tree.{Mention, Expression, Expressions, Command, Commands, Declaration, Declarations, Items, Definition, Definitions, Starts, name, number, text, truth, query, parens, unary, binary, choice, apply, valof, table, none, more, empty, assign, call, goto, label, case_of, default, when, test, while, for_loop, switch, result, simple, block, repeat, repeat_while, no_commands, also, constants, definitions, no_declarations, declare, no_items, item, routine, function, variables, no_definitions, define, no_starts, value, vector}
use Rattle.bk_tree.specs.Parts.{at_expression, size}
use Rattle.bk_scope.specs.declared.bound.Bound.{Bound}
use Rattle.bk_scope.specs.declared.bound.Bound.TheVariants.{Constant, Global, Static, Variable, Label}
use Rattle.bk_scope.specs.declared.place.Enclosing.{Enclosing}
use Rattle.bk_scope.specs.declared.role.Role.{Role}
use Rattle.bk_scope.specs.declared.role.Role.TheVariants.{Value, Truth, Destination}
use Rattle.bk_scope.specs.Scope.{Binding, bound_in, bind, has_address}
use Rattle.bk_scope.specs.Wrong.{Wrong, text_of, not_declared, declared_twice, dynamic_name, not_constant, divided_by_zero, case_repeated, default_repeated, no_loop, no_switchon, no_result_or_return, label_not_here, global_out_of_range, vec_out_of_range, frame_too_large, not_assignable, two_procedures}
use Rattle.bk_scope.specs.Constants.{constant_word, is_prefix_of_constants, is_infix_of_constants, divides_by_zero}
use Rattle.bk_scope.specs.Found.{naming, choosing, defaulting, setting}
use Rattle.bk_scope.specs.Places.{kept, deeper, looping, switching, labelled, valued, called, outermost}
use Rattle.bk_scope.specs.Entering.{labels_of, labels_of_each, with_formals}
use Rattle.bk_scope.specs.Names.{parenthesised, role_of_operand, role_of_operands, place_of_second, words_of_start}
use Rattle.bk_scope.specs.Spots.{Spot, procedures_in, onward, past, numbered, following, after_each, after_done, after_declared, after_one_declared, after_one_defined, after_constant, symbols_each, beginning}
use Rattle.bk_scope.specs.Points.{Point, Fault, meaning, word, depth, at, claiming, judged, in_order, deepest, without_depths, meanings_of, words_of}
use Rattle.bk_scope.specs.Scoping.{labels_in_scope, procedures_in_scope, place_after_one_defined, scope_after_one, place_after_one, scope_after, place_after_all}

-- one if it is so
abbrev pub unless : Bool → List Point → List Point
unless b xs = cond b [] xs

-- a name that is used in procedure k: a variable of another procedure and a label are wrong
abbrev pub used_at : ℕ → ℕ → ℕ → List ℕ → Option Bound → List Point
used_at k n l x None = at n l (not_declared (text_of x))
used_at k n l x (Some (Variable j d)) = cond (j == k) (meaning (Variable j d) ∷ []) (at n l (dynamic_name (text_of x)))
used_at k n l x (Some (Label j m)) = at n l (label_not_here (text_of x))
used_at k n l x (Some b) = meaning b ∷ []

-- where a GOTO goes: to a label of its own procedure
abbrev pub gone_to : ℕ → ℕ → ℕ → List ℕ → Option Bound → List Point
gone_to k n l x None = at n l (not_declared (text_of x))
gone_to k n l x (Some (Label j m)) = cond (j == k) (meaning (Label j m) ∷ []) (at n l (label_not_here (text_of x)))
gone_to k n l x (Some (Variable j d)) = unless (j == k) (at n l (dynamic_name (text_of x))) ++ at n l (label_not_here (text_of x))
gone_to k n l x (Some b) = at n l (label_not_here (text_of x))

-- a name in a constant of procedure k
abbrev pub constant_name : ℕ → ℕ → ℕ → List ℕ → Option Bound → List Point
constant_name k n l x None = at n l (not_declared (text_of x))
constant_name k n l x (Some (Constant v)) = []
constant_name k n l x (Some (Variable j d)) = unless (j == k) (at n l (dynamic_name (text_of x))) ++ at n l not_constant
constant_name k n l x (Some (Label j m)) = at n l not_constant ++ at n l (label_not_here (text_of x))
constant_name k n l x (Some b) = at n l not_constant

-- What is wrong with a constant of procedure k. A VALOF and a TABLE in it are wrong as they are: what is in them is not
-- looked at.
abbrev mutual
  pub constant_wrongs : List Binding → ℕ → Spot → Expression → List Point
  constant_wrongs bs k s (name l x) = constant_name k s.place l x (bound_in bs x)
  constant_wrongs bs k s (number l n) = []
  constant_wrongs bs k s (truth l b) = []
  constant_wrongs bs k s (parens l e) = constant_wrongs bs k (past 1 s) e
  constant_wrongs bs k s (unary l r e) = unless (is_prefix_of_constants r) (at s.place l not_constant) ++ constant_wrongs bs k (past 1 s) e
  constant_wrongs bs k s (binary l r m a b) =
      cond (divides_by_zero r (constant_word bs a) (constant_word bs b)) (at s.place l divided_by_zero) [] ++ constant_wrongs bs k s a
      ++ unless (is_infix_of_constants r) (at (after_constant a s).place m not_constant) ++ constant_wrongs bs k (past 1 (after_constant a s)) b
  constant_wrongs bs k s (choice l m c a b) =
      constant_wrongs bs k s c ++ at (after_constant c s).place m not_constant
      ++ constant_wrongs bs k (past 1 (after_constant c s)) a ++ constant_wrongs bs k (after_constant a (past 1 (after_constant c s))) b
  constant_wrongs bs k s (apply l m f es) =
      constant_wrongs bs k s f ++ at (after_constant f s).place m not_constant ++ constant_wrongs_each bs k (past 1 (after_constant f s)) es
  constant_wrongs bs k s (text l x) = at s.place l not_constant
  constant_wrongs bs k s (query l) = at s.place l not_constant
  constant_wrongs bs k s (valof l c) = at s.place l not_constant
  constant_wrongs bs k s (table l es) = at s.place l not_constant

  pub constant_wrongs_each : List Binding → ℕ → Spot → Expressions → List Point
  constant_wrongs_each bs k s none = []
  constant_wrongs_each bs k s (more e es) = constant_wrongs bs k s e ++ constant_wrongs_each bs k (after_constant e s) es

abbrev pub its_word : Option ℕ → List Point
its_word None = []
its_word (Some v) = word v ∷ []

abbrev pub constant : List Binding → ℕ → Spot → Expression → List Point
constant bs k s e = constant_wrongs bs k s e ++ its_word (constant_word bs e)

abbrev pub each_constant : List Binding → ℕ → Spot → Expressions → List Point
each_constant bs k s none = []
each_constant bs k s (more e es) = constant bs k s e ++ each_constant bs k (after_constant e s) es

-- a constant of at most so much
abbrev pub at_most : ℕ → ℕ → ℕ → Wrong → Option ℕ → List Point
at_most most n l x None = []
at_most most n l x (Some v) = cond (nat_lt most v) (at n l x) []

-- what has an address, and what a value may be put into
abbrev pub addressed : List Binding → Expression → Bool
addressed bs (name l x) = has_address (bound_in bs x)
addressed bs (parens l e) = addressed bs e
addressed bs (unary l q.Contents e) = true
addressed bs (binary l o.Subscript m a b) = true
addressed bs _ = false

abbrev pub assigned : List Binding → Expression → Bool
assigned bs (parens l e) = assigned bs e
assigned bs (binary l o.Byte m a b) = true
assigned bs e = addressed bs e

abbrev pub prefixed : Prefix → List Binding → Spot → Expression → List Point
prefixed q.Address bs s e = unless (addressed bs e) (at s.place (at_expression e) not_assignable)
prefixed _ bs s e = []

-- how deep the frame is at a name: a destination that has an address pushes nothing
abbrev pub depth_named : Role → Enclosing → Option Bound → List Point
depth_named (Destination b l) p y = unless (has_address y) (depth (p.depth + 1) ∷ [])
depth_named r p y = depth (p.depth + 1) ∷ []

abbrev pub pushed : Enclosing → ℕ → List Point
pushed p d = depth (p.depth + d) ∷ []

-- the word of a CASE
abbrev pub chosen_at : Option ℕ → ℕ → ℕ → Option ℕ → List Point
chosen_at None n l v = at n l no_switchon
chosen_at (Some m) n l None = []
chosen_at (Some m) n l (Some v) = claiming (choosing m v) n l case_repeated

abbrev pub defaulted_at : Option ℕ → ℕ → ℕ → List Point
defaulted_at None n l = at n l no_switchon
defaulted_at (Some m) n l = claiming (defaulting m) n l default_repeated

abbrev pub single_at : Enclosing → ℕ → ℕ → Simple → List Point
single_at p n l w.Break = unless p.in_loop (at n l no_loop)
single_at p n l w.Loop = unless p.in_loop (at n l no_loop)
single_at p n l w.EndCase = unless p.in_switch (at n l no_switchon)
single_at p n l w.Return = unless p.in_routine (at n l no_result_or_return)
single_at p n l w.Finish = []

-- a name in the list m
abbrev pub one_of : ℕ → ℕ → ℕ → List ℕ → List Point
one_of m n l x = claiming (naming m x) n l (declared_twice (text_of x))

abbrev pub each_of : ℕ → ℕ → List Mention → List Point
each_of m n [] = []
each_of m n (x ∷ xs) = one_of m n x.at x.letters ++ each_of m (n + 1) xs

-- the items of a declaration, which are the list m
abbrev pub manifest_items : ℕ → List Binding → ℕ → Spot → Items → List Point
manifest_items m bs k s no_items = []
manifest_items m bs k s (item l x e is) =
    one_of m s.place l x ++ constant bs k (past 1 s) e ++ manifest_items m (bind x (Constant (constant_word bs e)) bs) k (after_constant e (past 1 s)) is

abbrev pub static_items : ℕ → List Binding → ℕ → Spot → Items → List Point
static_items m bs k s no_items = []
static_items m bs k s (item l x e is) = one_of m s.place l x ++ constant bs k (past 1 s) e ++ meaning (Static s.number) ∷ [] ++ static_items m bs k (numbered 1 (after_constant e (past 1 s))) is

abbrev pub global_items : ℕ → List Binding → ℕ → Spot → Items → List Point
global_items m bs k s no_items = []
global_items m bs k s (item l x e is) =
    one_of m s.place l x ++ constant bs k (past 1 s) e ++ at_most GLOBAL_NUMBER (s.place + 1) (at_expression e) global_out_of_range (constant_word bs e)
    ++ global_items m bs k (after_constant e (past 1 s)) is

-- a procedure's name: what it means, its frame, and the global that it sets
abbrev pub its_meaning : Option Bound → List Point
its_meaning None = []
its_meaning (Some b) = meaning b ∷ []

abbrev pub its_global : ℕ → ℕ → List ℕ → Option Bound → List Point
its_global n l x (Some (Global (Some g))) = claiming (setting g) n l (two_procedures (text_of x))
its_global n l x _ = []

abbrev pub its_frame : ℕ → ℕ → ℕ → List Point
its_frame n l d = cond (nat_lt FRAME_WORDS d) (at n l frame_too_large) []

-- Procedure k, of this name, in the list m of its LET. Its formals are the list k; its frame begins with two words and them.
abbrev pub inside_procedure : ℕ → Spot → ℕ → List ℕ → List Mention → Option Bound → List Point → List Point
inside_procedure k s l x fs b body = its_global s.place l x b ++ (each_of k (s.place + 1) fs ++ body)

abbrev pub procedure : ℕ → ℕ → Spot → ℕ → List ℕ → List Mention → Option Bound → List Point → List Point
procedure m k s l x fs b body =
    one_of m s.place l x
    ++ (its_frame s.place l (deepest (kept (length fs + 2)) (inside_procedure k s l x fs b body))
    ++ (its_meaning b ++ without_depths (inside_procedure k s l x fs b body)))

abbrev mutual
  pub reported : Role → List Binding → Enclosing → Spot → Expression → List Point
  reported r bs p s (name l x) = used_at p.procedure s.place l x (bound_in bs x) ++ depth_named r p (bound_in bs x)
  reported r bs p s (number l n) = pushed p 1
  reported r bs p s (text l x) = pushed p 1
  reported r bs p s (truth l b) = pushed p 1
  reported r bs p s (query l) = pushed p 1
  reported r bs p s (parens l e) = reported (parenthesised r) bs p (past 1 s) e
  reported r bs p s (unary l f e) = prefixed f bs (past 1 s) e ++ reported (role_of_operand f r e) bs p (past 1 s) e
  reported r bs p s (binary l f m a b) = reported (role_of_operands f r) bs p s a ++ reported (role_of_operands f r) bs (place_of_second f r p) (past 1 (following a s)) b
  reported r bs p s (choice l m c a b) =
      reported Truth bs p s c ++ reported Value bs p (past 1 (following c s)) a ++ reported Value bs p (following a (past 1 (following c s))) b
  reported r bs p s (apply l m e es) = reported Value bs (deeper (size es + 2) p) s e ++ reported_each 1 bs (deeper 2 p) (past 1 (following e s)) es
  reported r bs p s (valof l c) =
      reported_done (labels_in_scope p.procedure (s.number + 1) (labels_of c) bs) (labelled s.number (valued p)) (onward 1 (1 + length (labels_of c)) s) c
      ++ pushed p 1
  reported r bs p s (table l es) = each_constant bs p.procedure (past 1 s) es ++ pushed p 1

  -- each so many words deeper
  pub reported_each : ℕ → List Binding → Enclosing → Spot → Expressions → List Point
  reported_each n bs p s none = []
  reported_each n bs p s (more e es) = reported Value bs p s e ++ reported_each n bs (deeper n p) (following e s) es

  pub reported_destinations : List Binding → Enclosing → Spot → Expressions → List Point
  reported_destinations bs p s none = []
  reported_destinations bs p s (more e es) =
      unless (assigned bs e) (at s.place (at_expression e) not_assignable) ++ reported (Destination false (at_expression e)) bs p s e ++ reported_destinations bs p (following e s) es

  pub reported_done : List Binding → Enclosing → Spot → Command → List Point
  reported_done bs p s empty = []
  reported_done bs p s (assign l xs es) = reported_destinations bs (deeper 1 p) s xs ++ reported_each 0 bs p (after_each xs s) es
  reported_done bs p s (call l e es) = reported Value bs (deeper (size es + 2) p) s e ++ reported_each 1 bs (deeper 2 p) (following e s) es
  reported_done bs p s (goto l x) = gone_to p.procedure s.place x.at x.letters (bound_in bs x.letters)
  reported_done bs p s (label l x c) = one_of p.labels s.place l x ++ its_meaning (bound_in bs x) ++ reported_done bs p (past 1 s) c
  reported_done bs p s (case_of l e c) =
      chosen_at p.switch s.place l (constant_word bs e) ++ constant bs p.procedure (past 1 s) e ++ reported_done bs p (after_constant e (past 1 s)) c
  reported_done bs p s (default l c) = defaulted_at p.switch s.place l ++ reported_done bs p (past 1 s) c
  reported_done bs p s (when l b e c) = reported Truth bs p s e ++ reported_done bs p (following e s) c
  reported_done bs p s (test l e a b) = reported Truth bs p s e ++ reported_done bs p (following e s) a ++ reported_done bs p (after_done a (following e s)) b
  reported_done bs p s (while l b e c) = reported Truth bs p s e ++ reported_done bs (looping p) (following e s) c
  reported_done bs p s (for_loop l x a b h c) =
      let u : Spot = onward (symbols_each h) 0 (following b (following a s)) in
      reported Value bs p s a ++ reported Value bs (deeper 1 p) (following a s) b ++ each_constant bs p.procedure (following b (following a s)) h ++ pushed p 4
      ++ reported_done (labels_in_scope p.procedure (u.number + 1) (labels_of c) (bind x.letters (Variable p.procedure p.depth) bs)) (labelled u.number (looping (deeper 2 p)))
      (numbered (1 + length (labels_of c)) u) c
  reported_done bs p s (switch l e c) =
      reported Value bs p s e ++ reported_done bs (switching (following e s).number p) (numbered 1 (following e s)) c
  reported_done bs p s (result l e) = unless p.in_valof (at s.place l no_result_or_return) ++ reported Value bs p (past 1 s) e
  reported_done bs p s (simple l f) = single_at p s.place l f
  reported_done bs p s (block l no_declarations cs) = reported_done_each bs p s cs
  reported_done bs p s (block l (declare d ds) cs) =
      let u : Spot = after_declared (declare d ds) s in
      reported_declared bs p s (declare d ds)
      ++ reported_done_each (labels_in_scope p.procedure (u.number + 1) (labels_of_each cs) (scope_after bs p s (declare d ds)))
      (labelled u.number (place_after_all bs p s (declare d ds))) (numbered (1 + length (labels_of_each cs)) u) cs
  reported_done bs p s (repeat l c) = reported_done bs (looping p) s c
  reported_done bs p s (repeat_while l b c e) = reported_done bs (looping p) s c ++ reported Truth bs p (after_done c s) e

  pub reported_done_each : List Binding → Enclosing → Spot → Commands → List Point
  reported_done_each bs p s no_commands = []
  reported_done_each bs p s (also c cs) = reported_done bs p s c ++ reported_done_each bs p (after_done c s) cs

  pub reported_declared : List Binding → Enclosing → Spot → Declarations → List Point
  reported_declared bs p s no_declarations = []
  reported_declared bs p s (declare d ds) =
      reported_one_declared bs p s d ++ reported_declared (scope_after_one bs p s d) (place_after_one bs p s d) (after_one_declared d s) ds

  pub reported_one_declared : List Binding → Enclosing → Spot → Declaration → List Point
  reported_one_declared bs p s (constants l sort.Manifest is) = manifest_items s.number bs p.procedure (numbered 1 s) is
  reported_one_declared bs p s (constants l sort.Static is) = static_items s.number bs p.procedure (numbered 1 s) is
  reported_one_declared bs p s (constants l sort.Global is) = global_items s.number bs p.procedure (numbered 1 s) is
  reported_one_declared bs p s (definitions l ds) =
      reported_defined s.number (procedures_in_scope (s.number + 1) ds bs) p (numbered (1 + procedures_in ds) s) ds

  -- the definitions of a LET, which are the list m
  pub reported_defined : ℕ → List Binding → Enclosing → Spot → Definitions → List Point
  reported_defined m bs p s no_definitions = []
  reported_defined m bs p s (define d ds) = reported_one_defined m bs p s d ++ reported_defined m bs (place_after_one_defined bs p d) (after_one_defined d s) ds

  pub reported_one_defined : ℕ → List Binding → Enclosing → Spot → Definition → List Point
  reported_one_defined m bs p s (routine l x fs c) =
      procedure m s.number s l x fs (bound_in bs x)
      (reported_done (labels_in_scope s.number (s.number + 2) (labels_of c) (with_formals s.number 2 fs bs)) (labelled (s.number + 1) (called true s.number (length fs)))
      (onward (1 + length fs) (2 + length (labels_of c)) s) c)
  reported_one_defined m bs p s (function l x fs e) =
      procedure m s.number s l x fs (bound_in bs x)
      (reported Value (with_formals s.number 2 fs bs) (called false s.number (length fs)) (onward (1 + length fs) 1 s) e)
  reported_one_defined m bs p s (variables l xs is) = each_of m s.place xs ++ reported_started bs p (past (length xs) s) is

  pub reported_started : List Binding → Enclosing → Spot → Starts → List Point
  reported_started bs p s no_starts = []
  reported_started bs p s (value e is) = reported Value bs p s e ++ reported_started bs (deeper 1 p) (following e s) is
  reported_started bs p s (vector l e is) =
      constant bs p.procedure s e ++ at_most VEC_NUMBER s.place (at_expression e) vec_out_of_range (constant_word bs e) ++ pushed p (words_of_start bs e + 1)
      ++ reported_started bs (deeper (words_of_start bs e + 1) p) (after_constant e s) is

-- what is reported of a section
abbrev pub reported_of : Declarations → List Point
reported_of ds = reported_declared [] outermost beginning ds

-- THE FAULTS OF A SECTION, by place and then by number; what its names mean, and the words of its constants
abbrev pub faults : Declarations → List Fault
faults ds = in_order (judged [] (reported_of ds))

abbrev pub meanings : Declarations → List Bound
meanings ds = meanings_of (reported_of ds)

abbrev pub words : Declarations → List ℕ
words ds = words_of (reported_of ds)
