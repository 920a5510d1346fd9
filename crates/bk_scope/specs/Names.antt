-- The pass that the code makes through a section, node by node: what each name that is used means, the word of each constant,
-- and what is wrong first, in the source's order. What is right is said in Faults.antt; this definition is inner, and the two
-- are tied by a law.
--
-- A node is gone through with the declarations that are in scope at its place, after what was found before it. Depths are
-- those that the frame has when the code runs: an operand takes a word, a call two before its arguments, a FOR two for its
-- variable and its limit.
use Rattle.std.specs.Prelude.{ℕ, ◌+◌, ◌==◌, nat_lt, Bool, true, false, cond, not, Option, Some, None, List, [], ◌∷◌, ◌++◌, length}
use Rattle.bk_base.specs.declared.limit.TheConstants.{GLOBAL_NUMBER, VEC_NUMBER, FRAME_WORDS}
use Rattle.bk_tree.specs.declared.tree.Operator.{Operator}
use Rattle.bk_tree.specs.declared.tree.Operator.TheVariants as o
use Rattle.bk_tree.specs.declared.tree.Prefix.{Prefix}
use Rattle.bk_tree.specs.declared.tree.Prefix.TheVariants as q
use Rattle.bk_tree.specs.declared.tree.Simple.{Simple}
use Rattle.bk_tree.specs.declared.tree.Simple.TheVariants as w
use Rattle.bk_tree.specs.declared.tree.Sort.TheVariants as s
use Rattle.bk_tree.specs.Tree.{Mention, Expression, Expressions, Command, Commands, Declaration, Declarations, Items, Definition, Definitions, Starts, name, number, text, truth, query, parens, unary, binary, choice, apply, valof, table, none, more, empty, assign, call, goto, label, case_of, default, when, test, while, for_loop, switch, result, simple, block, repeat, repeat_while, no_commands, also, constants, definitions, no_declarations, declare, no_items, item, routine, function, variables, no_definitions, define, no_starts, value, vector}
use Rattle.bk_tree.specs.Parts.{at_expression, size}
use Rattle.bk_scope.specs.declared.bound.Bound.{Bound}
use Rattle.bk_scope.specs.declared.bound.Bound.TheVariants.{Constant, Global, Static, Variable, Label}
use Rattle.bk_scope.specs.declared.place.Enclosing.{Enclosing}
use Rattle.bk_scope.specs.declared.role.Role.{Role}
use Rattle.bk_scope.specs.declared.role.Role.TheVariants.{Value, Truth, Address, Destination}
use Rattle.bk_scope.specs.Scope.{Binding, bound_in, bind, bind_all, has_address}
use Rattle.bk_scope.specs.Wrong.{Wrong, Breach, text_of, not_declared, declared_twice, dynamic_name, case_repeated, default_repeated, no_loop, no_switchon, no_result_or_return, label_not_here, global_out_of_range, vec_out_of_range, frame_too_large, not_assignable, two_procedures}
use Rattle.bk_scope.specs.Constants.{constant_word, wrongs}
use Rattle.bk_scope.specs.Found.{Found, naming, choosing, defaulting, setting, first_of, breaks_first, breaks, claims_once, means, holds, takes, reaches, opens, following}
use Rattle.bk_scope.specs.Places.{kept, deeper, looping, switching, labelled, valued, called, outermost}
use Rattle.bk_scope.specs.Entering.{Stage, labels_of, labels_of_each, with_labels, with_formals, with_procedures}

-- a name that is used in procedure k: a variable of another procedure and a label are wrong
abbrev pub used : ℕ → ℕ → List ℕ → Option Bound → Found → Found
used k l x None f = breaks l (not_declared (text_of x)) f
used k l x (Some (Variable j d)) f = cond (j == k) (means (Variable j d) f) (breaks l (dynamic_name (text_of x)) f)
used k l x (Some (Label j n)) f = breaks l (label_not_here (text_of x)) f
used k l x (Some b) f = means b f

-- where a GOTO goes: to a label of its own procedure
abbrev pub reached : ℕ → ℕ → List ℕ → Option Bound → Found → Found
reached k l x None f = breaks l (not_declared (text_of x)) f
reached k l x (Some (Label j n)) f = cond (j == k) (means (Label j n) f) (breaks l (label_not_here (text_of x)) f)
reached k l x (Some (Variable j d)) f = cond (j == k) (breaks l (label_not_here (text_of x)) f) (breaks l (dynamic_name (text_of x)) f)
reached k l x (Some b) f = breaks l (label_not_here (text_of x)) f

-- a name with which nothing is wrong where it is an operand in procedure k
abbrev pub is_usable : ℕ → Option Bound → Bool
is_usable k None = false
is_usable k (Some (Variable j d)) = j == k
is_usable k (Some (Label j n)) = false
is_usable k (Some b) = true

-- whether the first symbol of an expression is a name with which something is wrong
abbrev pub begins_wrong : List Binding → ℕ → Expression → Bool
begins_wrong bs k (name l x) = not (is_usable k (bound_in bs x))
begins_wrong bs k (binary l s m a b) = begins_wrong bs k a
begins_wrong bs k (choice l m c a b) = begins_wrong bs k c
begins_wrong bs k (apply l m e es) = begins_wrong bs k e
begins_wrong bs k _ = false

-- No address: wrong at the first symbol. Where that symbol is a name with which something is wrong, that is reported, as it has
-- the lower number; a parenthesis comes before all.
abbrev pub unassignable : List Binding → ℕ → Bool → ℕ → Expression → Found → Found
unassignable bs k true l e f = breaks l not_assignable f
unassignable bs k false l e f = cond (begins_wrong bs k e) f (breaks l not_assignable f)

-- within parentheses
abbrev pub parenthesised : Role → Role
parenthesised Value = Value
parenthesised Truth = Truth
parenthesised (Address b l) = Address true l
parenthesised (Destination b l) = Destination true l

-- the role of a prefix's operand
abbrev pub role_of_operand : Prefix → Role → Expression → Role
role_of_operand q.Not Truth e = Truth
role_of_operand q.Address r e = Address false (at_expression e)
role_of_operand q r e = Value

-- the role of an operator's operands, and the place of the second
abbrev pub role_of_operands : Operator → Role → Role
role_of_operands o.Both Truth = Truth
role_of_operands o.Either Truth = Truth
role_of_operands o r = Value

abbrev pub place_of_second : Operator → Role → Enclosing → Enclosing
place_of_second o.Both Truth p = p
place_of_second o.Either Truth p = p
place_of_second o r p = deeper 1 p

-- an expression that has no word of its own, where one is asked for
abbrev pub without_word : Role → List Binding → ℕ → Expression → Found → Found
without_word Value bs k e f = f
without_word Truth bs k e f = f
without_word (Address b l) bs k e f = unassignable bs k b l e f
without_word (Destination b l) bs k e f = unassignable bs k b l e f

-- a byte can be put into, but has no address
abbrev pub without_address : Role → List Binding → ℕ → Expression → Found → Found
without_address (Address b l) bs k e f = unassignable bs k b l e f
without_address r bs k e f = f

-- what a prefix gives, and an operator: `!` a word
abbrev pub fit_prefix : Prefix → Role → List Binding → ℕ → Expression → Found → Found
fit_prefix q.Contents r bs k e f = f
fit_prefix q r bs k e f = without_word r bs k e f

abbrev pub fit_infix : Operator → Role → List Binding → ℕ → Expression → Found → Found
fit_infix o.Subscript r bs k e f = f
fit_infix o.Byte r bs k e f = without_address r bs k e f
fit_infix o r bs k e f = without_word r bs k e f

-- a name; a value is put into its word without an address
abbrev pub named : Role → List Binding → Enclosing → ℕ → List ℕ → Option Bound → Found → Found
named (Address b l) bs p m x y f = reaches (p.depth + 1) (used p.procedure m x y (cond (has_address y) f (unassignable bs p.procedure b l (name m x) f)))
named (Destination b l) bs p m x y f = cond (has_address y) (used p.procedure m x y f) (reaches (p.depth + 1) (used p.procedure m x y (unassignable bs p.procedure b l (name m x) f)))
named r bs p m x y f = reaches (p.depth + 1) (used p.procedure m x y f)

-- an expression where a constant is asked for
abbrev pub constant_found : List Binding → ℕ → Expression → Found → Found
constant_found bs k e f = holds (constant_word bs e) (breaks_first (first_of (wrongs bs k e)) f)

abbrev pub constants_found : List Binding → ℕ → Expressions → Found → Found
constants_found bs k none f = f
constants_found bs k (more e es) f = constants_found bs k es (constant_found bs k e f)

-- a constant of at most so much
abbrev pub bounded : ℕ → ℕ → Wrong → Option ℕ → Found → Found
bounded most l w None f = f
bounded most l w (Some n) f = cond (nat_lt most n) (breaks l w f) f

abbrev pub within : ℕ → Option ℕ → Option ℕ
within most None = None
within most (Some n) = cond (nat_lt most n) None (Some n)

-- the words of VEC n, which is n and one
abbrev pub words_of_vector : Option ℕ → ℕ
words_of_vector None = 1
words_of_vector (Some n) = n + 1

-- where a CASE or a DEFAULT is in no SWITCHON
abbrev pub switched : Option ℕ → ℕ → Found → Found
switched None l f = breaks l no_switchon f
switched (Some n) l f = f

-- the word of a CASE; where it has one, nothing is wrong with its constant
abbrev pub chosen : Option ℕ → ℕ → Option ℕ → Found → Found
chosen (Some n) l (Some w) f = claims_once (choosing n w) l case_repeated f
chosen _ l _ f = f

abbrev pub defaulted : Option ℕ → ℕ → Found → Found
defaulted None l f = f
defaulted (Some n) l f = claims_once (defaulting n) l default_repeated f

abbrev pub single : Enclosing → ℕ → Simple → Found → Found
single p l w.Break f = cond p.in_loop f (breaks l no_loop f)
single p l w.Loop f = cond p.in_loop f (breaks l no_loop f)
single p l w.EndCase f = cond p.in_switch f (breaks l no_switchon f)
single p l w.Return f = cond p.in_routine f (breaks l no_result_or_return f)
single p l w.Finish f = f

-- a name in the list n, in which no name occurs twice
abbrev pub listed : ℕ → ℕ → List ℕ → Found → Found
listed n l x f = claims_once (naming n x) l (declared_twice (text_of x)) f

abbrev pub all_listed : ℕ → List Mention → Found → Found
all_listed n [] f = f
all_listed n (x ∷ xs) f = all_listed n xs (listed n x.at x.letters f)

-- the words of a VEC that a variable begins with; one that is wrong counts as VEC 0
abbrev pub words_of_start : List Binding → Expression → ℕ
words_of_start bs e = words_of_vector (within VEC_NUMBER (constant_word bs e))

-- how many words are below the value that the first of these begins with
abbrev pub words_below : List Binding → Starts → ℕ
words_below bs no_starts = 0
words_below bs (value e is) = 0
words_below bs (vector l e is) = words_of_start bs e

-- the place after them
abbrev pub place_after : List Binding → Enclosing → Starts → Enclosing
place_after bs p no_starts = p
place_after bs p (value e is) = place_after bs (deeper 1 p) is
place_after bs p (vector l e is) = place_after bs (deeper (words_of_start bs e + 1) p) is

-- the variables of a definition, where their values are: a VEC's is its address, after its words
abbrev pub variables_of : List Binding → Enclosing → List Mention → Starts → List Binding
variables_of bs p (x ∷ xs) (value e is) = record { name = x.letters; bound = Variable p.procedure ((deeper 0 p).depth) } ∷ variables_of bs (deeper 1 p) xs is
variables_of bs p (x ∷ xs) (vector l e is) =
    record { name = x.letters; bound = Variable p.procedure ((deeper (words_of_start bs e) p).depth) } ∷ variables_of bs (deeper (words_of_start bs e + 1) p) xs is
variables_of bs p _ _ = []

-- one procedure at most sets a global
abbrev pub sets : ℕ → List ℕ → Option Bound → Found → Found
sets l x (Some (Global (Some g))) f = claims_once (setting g) l (two_procedures (text_of x)) f
sets l x _ f = f

abbrev pub named_as : Option Bound → Found → Found
named_as None f = f
named_as (Some b) f = means b f

-- a procedure's name, and its formals, which are the list n: a frame begins
abbrev pub headed : ℕ → ℕ → List ℕ → List Mention → Option Bound → Found → Found
headed n l x fs b f = all_listed n fs (sets l x b (opens (kept (length fs + 2)) (named_as b f)))

abbrev pub frame_wrong : ℕ → Found → Option Breach
frame_wrong l g = cond (nat_lt FRAME_WORDS g.deepest) (Some (record { at = l; wrong = frame_too_large })) None

-- the items of a declaration, which are the list n: an item of MANIFEST is in scope in the later ones
abbrev pub manifests : ℕ → ℕ → Items → Stage → Stage
manifests n k no_items s = s
manifests n k (item l x e is) s =
    manifests n k is (record { scope = bind x (Constant (constant_word s.scope e)) s.scope; found = constant_found s.scope k e (listed n l x s.found) })

-- those of STATIC and GLOBAL are not, where `bs` is in scope
abbrev pub statics : List Binding → ℕ → ℕ → Items → Stage → Stage
statics bs n k no_items s = s
statics bs n k (item l x e is) s =
    let g : Found = constant_found bs k e (listed n l x s.found) in
    statics bs n k is (record { scope = bind x (Static g.next) s.scope; found = takes (means (Static g.next) g) })

abbrev pub globals : List Binding → ℕ → ℕ → Items → Stage → Stage
globals bs n k no_items s = s
globals bs n k (item l x e is) s =
    globals bs n k is (record {
      scope = bind x (Global (within GLOBAL_NUMBER (constant_word bs e))) s.scope;
      found = bounded GLOBAL_NUMBER (at_expression e) global_out_of_range (constant_word bs e) (constant_found bs k e (listed n l x s.found));
    })

-- what follows some definitions of a LET: the variables, which come into scope after all of them, the first one first
pub record Defined : Type 0 where
  pub fresh : List Binding
  pub place : Enclosing
  pub found : Found

-- what follows a declaration
pub record AfterDeclarations : Type 0 where
  pub scope : List Binding
  pub place : Enclosing
  pub found : Found

abbrev at : Enclosing → Stage → AfterDeclarations
at p s = record { scope = s.scope; place = p; found = s.found }

abbrev mutual
  pub evaluated : Role → List Binding → Enclosing → Expression → Found → Found
  evaluated r bs p (name l x) f = named r bs p l x (bound_in bs x) f
  evaluated r bs p (number l n) f = reaches (p.depth + 1) (without_word r bs p.procedure (number l n) f)
  evaluated r bs p (text l x) f = reaches (p.depth + 1) (without_word r bs p.procedure (text l x) f)
  evaluated r bs p (truth l b) f = reaches (p.depth + 1) (without_word r bs p.procedure (truth l b) f)
  evaluated r bs p (query l) f = reaches (p.depth + 1) (without_word r bs p.procedure (query l) f)
  evaluated r bs p (parens l e) f = evaluated (parenthesised r) bs p e f
  evaluated r bs p (unary l q e) f = evaluated (role_of_operand q r e) bs p e (fit_prefix q r bs p.procedure (unary l q e) f)
  evaluated r bs p (binary l o m a b) f =
      evaluated (role_of_operands o r) bs (place_of_second o r p) b (evaluated (role_of_operands o r) bs p a (fit_infix o r bs p.procedure (binary l o m a b) f))
  evaluated r bs p (choice l m c a b) f = evaluated Value bs p b (evaluated Value bs p a (evaluated Truth bs p c (without_word r bs p.procedure (choice l m c a b) f)))
  evaluated r bs p (apply l m e es) f = each_evaluated 1 bs (deeper 2 p) es (evaluated Value bs (deeper (size es + 2) p) e (without_word r bs p.procedure (apply l m e es) f))
  evaluated r bs p (valof l c) f =
      let g : Found = without_word r bs p.procedure (valof l c) f in
      let t : Stage = with_labels p.procedure (labels_of c) (record { scope = bs; found = takes g }) in
      reaches (p.depth + 1) (done t.scope (labelled g.next (valued p)) c t.found)
  evaluated r bs p (table l es) f = reaches (p.depth + 1) (constants_found bs p.procedure es (without_word r bs p.procedure (table l es) f))

  -- one after another, each so many words deeper: arguments one, the values of an assignment none
  pub each_evaluated : ℕ → List Binding → Enclosing → Expressions → Found → Found
  each_evaluated n bs p none f = f
  each_evaluated n bs p (more e es) f = each_evaluated n bs (deeper n p) es (evaluated Value bs p e f)

  pub destinations : List Binding → Enclosing → Expressions → Found → Found
  destinations bs p none f = f
  destinations bs p (more e es) f = destinations bs p es (evaluated (Destination false (at_expression e)) bs p e f)

  pub done : List Binding → Enclosing → Command → Found → Found
  done bs p empty f = f
  done bs p (assign l xs es) f = each_evaluated 0 bs p es (destinations bs (deeper 1 p) xs f)
  done bs p (call l e es) f = each_evaluated 1 bs (deeper 2 p) es (evaluated Value bs (deeper (size es + 2) p) e f)
  done bs p (goto l x) f = reached p.procedure x.at x.letters (bound_in bs x.letters) f
  done bs p (label l x c) f = done bs p c (named_as (bound_in bs x) (listed p.labels l x f))
  done bs p (case_of l e c) f = done bs p c (chosen p.switch l (constant_word bs e) (constant_found bs p.procedure e (switched p.switch l f)))
  done bs p (default l c) f = done bs p c (defaulted p.switch l (switched p.switch l f))
  done bs p (when l b e c) f = done bs p c (evaluated Truth bs p e f)
  done bs p (test l e a b) f = done bs p b (done bs p a (evaluated Truth bs p e f))
  done bs p (while l b e c) f = done bs (looping p) c (evaluated Truth bs p e f)
  done bs p (for_loop l x a b h c) f =
      let g : Found = reaches (p.depth + 4) (constants_found bs p.procedure h (evaluated Value bs (deeper 1 p) b (evaluated Value bs p a f))) in
      let t : Stage = with_labels p.procedure (labels_of c) (record { scope = bind x.letters (Variable p.procedure p.depth) bs; found = takes g }) in
      done t.scope (labelled g.next (looping (deeper 2 p))) c t.found
  done bs p (switch l e c) f =
      let g : Found = evaluated Value bs p e f in
      done bs (switching g.next p) c (takes g)
  done bs p (result l e) f = evaluated Value bs p e (cond p.in_valof f (breaks l no_result_or_return f))
  done bs p (simple l w) f = single p l w f
  done bs p (block l no_declarations cs) f = each_done bs p cs f
  done bs p (block l (declare d ds) cs) f =
      let b : AfterDeclarations = declared bs p (declare d ds) f in
      let t : Stage = with_labels p.procedure (labels_of_each cs) (record { scope = b.scope; found = takes b.found }) in
      each_done t.scope (labelled b.found.next b.place) cs t.found
  done bs p (repeat l c) f = done bs (looping p) c f
  done bs p (repeat_while l b c e) f = evaluated Truth bs p e (done bs (looping p) c f)

  pub each_done : List Binding → Enclosing → Commands → Found → Found
  each_done bs p no_commands f = f
  each_done bs p (also c cs) f = each_done bs p cs (done bs p c f)

  pub declared : List Binding → Enclosing → Declarations → Found → AfterDeclarations
  declared bs p no_declarations f = record { scope = bs; place = p; found = f }
  declared bs p (declare d ds) f =
      let b : AfterDeclarations = one_declared bs p d f in
      declared b.scope b.place ds b.found

  -- a declaration of nothing takes no number
  pub one_declared : List Binding → Enclosing → Declaration → Found → AfterDeclarations
  one_declared bs p (constants l w no_items) f = at p (record { scope = bs; found = f })
  one_declared bs p (constants l s.Manifest is) f = at p (manifests f.next p.procedure is (record { scope = bs; found = takes f }))
  one_declared bs p (constants l s.Static is) f = at p (statics bs f.next p.procedure is (record { scope = bs; found = takes f }))
  one_declared bs p (constants l s.Global is) f = at p (globals bs f.next p.procedure is (record { scope = bs; found = takes f }))
  one_declared bs p (definitions l no_definitions) f = at p (record { scope = bs; found = f })
  one_declared bs p (definitions l ds) f =
      let t : Stage = with_procedures ds (record { scope = bs; found = takes f }) in
      let d : Defined = defined f.next t.scope ds (record { fresh = []; place = p; found = t.found }) in
      record { scope = bind_all d.fresh t.scope; place = d.place; found = d.found }

  -- the definitions of one LET, which are the list n, with its procedures in scope
  pub defined : ℕ → List Binding → Definitions → Defined → Defined
  defined n bs no_definitions d = d
  defined n bs (define x ds) d = defined n bs ds (one_defined n bs x d)

  pub one_defined : ℕ → List Binding → Definition → Defined → Defined
  one_defined n bs (routine l x fs c) d =
      let f : Found = listed n l x d.found in
      let g : Found = headed f.next l x fs (bound_in bs x) (takes f) in
      let t : Stage = with_labels f.next (labels_of c) (record { scope = with_formals f.next 2 fs bs; found = takes g }) in
      let h : Found = done t.scope (labelled g.next (called true f.next (length fs))) c t.found in
      record { fresh = d.fresh; place = d.place; found = following f.first f.deepest (frame_wrong l h) h }
  one_defined n bs (function l x fs e) d =
      let f : Found = listed n l x d.found in
      let g : Found = headed f.next l x fs (bound_in bs x) (takes f) in
      let h : Found = evaluated Value (with_formals f.next 2 fs bs) (called false f.next (length fs)) e g in
      record { fresh = d.fresh; place = d.place; found = following f.first f.deepest (frame_wrong l h) h }
  one_defined n bs (variables l xs is) d =
      record {
        fresh = d.fresh ++ variables_of bs d.place xs is;
        place = place_after bs d.place is;
        found = started bs d.place is (all_listed n xs d.found);
      }

  pub started : List Binding → Enclosing → Starts → Found → Found
  started bs p no_starts f = f
  started bs p (value e is) f = started bs (deeper 1 p) is (evaluated Value bs p e f)
  started bs p (vector l e is) f =
      started bs (deeper (words_of_start bs e + 1) p) is
      (reaches (p.depth + words_of_start bs e + 1) (bounded VEC_NUMBER (at_expression e) vec_out_of_range (constant_word bs e) (constant_found bs p.procedure e f)))

-- nothing yet; no procedure has the number 0
abbrev pub nothing : Found
nothing = record { first = None; claims = []; meanings = []; words = []; next = 1; deepest = 0 }

-- what is found in a section
abbrev pub found_in : Declarations → Found
found_in ds = (declared [] outermost ds nothing).found
