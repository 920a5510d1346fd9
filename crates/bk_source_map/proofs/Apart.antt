-- A node has as many places as statements in what is by itself in it: procedures, and data that are no words of procedures.
use Rattle.std.proofs.Common.{◌≡◌, ℕ, suc, ◌+◌, None, List, [], ◌∷◌, ◌++◌, length, length-append, refl, ap, ◌∙◌, arith}
use Rattle.bk_tree.specs.declared.tree.Operator.TheVariants as o
use Rattle.bk_tree.specs.declared.tree.Prefix.TheVariants as q
use Rattle.bk_tree.specs.declared.tree.Sort.TheVariants as sort
use Rattle.bk_tree.specs.Tree.{Expression, Expressions, Command, Commands, Declaration, Declarations, Items, Definition, Definitions, Starts, parens, unary, binary, choice, apply, valof, table, none, more, assign, call, label, case_of, default, when, test, while, for_loop, switch, result, block, repeat, repeat_while, no_commands, also, constants, definitions, no_declarations, declare, no_items, item, routine, function, variables, no_definitions, define, no_starts, value, vector}
use Rattle.bk_scope.specs.declared.bound.Bound.{Bound}
use Rattle.bk_scope.specs.declared.place.Enclosing.{Enclosing}
use Rattle.bk_scope.specs.Scope.{Binding}
use Rattle.bk_scope.specs.Spots.{Spot, numbered, after_constant, past}
use Rattle.bk_ocode.specs.Lists.{joined}
use Rattle.bk_trans.specs.declared.around.Target.{Target}
use Rattle.bk_trans.specs.Program as program
use Rattle.bk_trans.specs.Naming.{words_named, statics_named, term_named, terms_named, condition_named, lvalue_named, lvalues_named, command_named, commands_named, declarations_named, declaration_named, definitions_named, definition_named, starts_named}
use Rattle.bk_trans.specs.Parts.{Part, procedure, static_item, static_table, label_place, parts, parts_each, parts_if, parts_at, parts_onto, parts_from, parts_in, parts_through, parts_of_items, parts_of_declarations, parts_of_declaration, parts_of_definitions, parts_of_definition, parts_of_starts}
use Rattle.bk_trans.specs.Scheme.{procedure_code}
use Rattle.bk_source_map.specs.declared.kind.Kind.{Kind}
use Rattle.bk_source_map.specs.declared.kind.Kind.TheVariants.{Procedures, Words}
use Rattle.bk_source_map.specs.Places.{value_places, command_places, constant_places, table_places, static_places, procedure_places, inner, inner_each, inner_at, inner_onto, inner_in, inner_through, inner_declared, inner_one_declared, inner_defined, inner_one_defined, inner_started}
use Rattle.bk_source_map.specs.Laws.{other_data}
use Rattle.bk_source_map.proofs.Counted.{counted, command}

-- What is by itself: the statements of procedures, and the data that are no words of procedures.
abbrev weigh : List Target → Kind → List Part → ℕ
weigh ts Procedures ps = length (joined (procedure_code ts) ps)
weigh ts Words ps = other_data ps

weigh_both : (ts : List Target) (k : Kind) (ps qs : List Part) → weigh ts k (ps ++ qs) ≡ weigh ts k ps + weigh ts k qs
weigh_both ts Procedures [] qs = omega arith
weigh_both ts Procedures (x ∷ ps) qs = simp (length-append, weigh_both ts Procedures ps) (omega arith)
weigh_both ts Words [] qs = omega arith
weigh_both ts Words (procedure n d ∷ ps) qs = weigh_both ts Words ps qs
weigh_both ts Words (static_item n i ∷ ps) qs = simp (weigh_both ts Words ps) (omega arith)
weigh_both ts Words (static_table n ws ∷ ps) qs = simp (weigh_both ts Words ps) (omega arith)
weigh_both ts Words (label_place n d x ∷ ps) qs = weigh_both ts Words ps qs

weigh_none : (ts : List Target) (k : Kind) → weigh ts k [] ≡ 0
weigh_none ts Procedures = refl
weigh_none ts Words = refl

weigh_label : (ts : List Target) (k : Kind) (n d : ℕ) (x : Bound) (ps : List Part) → weigh ts k (label_place n d x ∷ ps) ≡ weigh ts k ps
weigh_label ts Procedures n d x ps = refl
weigh_label ts Words n d x ps = refl

words_long : (bs : List Binding) (es : Expressions) → length (words_named bs es) ≡ length (constant_places es)
words_long bs none = refl
words_long bs (more e es) = ap suc (words_long bs es)

weigh_table : (ts : List Target) (k : Kind) (bs : List Binding) (n l : ℕ) (es : Expressions) → weigh ts k (static_table n (words_named bs es) ∷ []) ≡ length (table_places k l es)
weigh_table ts Procedures bs n l es = refl
weigh_table ts Words bs n l es = omega (arith, words_long bs es)

weigh_items : (ts : List Target) (k : Kind) (bs : List Binding) (s : Spot) (n : ℕ) (is : Items) → weigh ts k (parts_of_items n (statics_named bs s is)) ≡ length (static_places k sort.Static is)
weigh_items ts Procedures bs s n no_items = refl
weigh_items ts Procedures bs s n (item l x e is) = weigh_items ts Procedures bs _ (n + 1) is
weigh_items ts Words bs s n no_items = refl
weigh_items ts Words bs s n (item l x e is) = omega (arith, weigh_items ts Words bs (numbered 1 (after_constant e (past 1 s))) (n + 1) is)

weigh_manifest : (ts : List Target) (k : Kind) (is : Items) → weigh ts k (parts_of_items 0 []) ≡ length (static_places k sort.Manifest is)
weigh_manifest ts Procedures is = refl
weigh_manifest ts Words is = refl

weigh_global : (ts : List Target) (k : Kind) (is : Items) → weigh ts k (parts_of_items 0 []) ≡ length (static_places k sort.Global is)
weigh_global ts Procedures is = refl
weigh_global ts Words is = refl

weigh_routine : (ts : List Target) (k : Kind) (n l : ℕ) (b : Bound) (x : List ℕ) (formals : ℕ) (bs : List Binding) (p : Enclosing) (s : Spot) (c : Command) (ps : List Part)
    → weigh ts k (procedure n (program.routine b x formals (command_named bs p s c)) ∷ ps) ≡ length (procedure_places k l (command_places c)) + weigh ts k ps
weigh_routine ts Procedures n l b x formals bs p s c ps = simp (length-append, command ts c) (omega arith)
weigh_routine ts Words n l b x formals bs p s c ps = omega arith

weigh_function : (ts : List Target) (k : Kind) (n l : ℕ) (b : Bound) (x : List ℕ) (formals : ℕ) (bs : List Binding) (p : Enclosing) (s : Spot) (e : Expression) (ps : List Part)
    → weigh ts k (procedure n (program.function b x formals (term_named bs p s e)) ∷ ps) ≡ length (procedure_places k l (value_places None e)) + weigh ts k ps
weigh_function ts Procedures n l b x formals bs p s e ps = simp (length-append, (counted ts e).value) (omega arith)
weigh_function ts Words n l b x formals bs p s e ps = omega arith

module _ (ts : List Target) (k : Kind) where
  pub record Apart (e : Expression) : Type 0 where
    pub value : (bs : List Binding) (p : Enclosing) (s : Spot) (d n : ℕ) → weigh ts k (parts d n (term_named bs p s e)) ≡ length (inner k e)
    pub truth : (bs : List Binding) (p : Enclosing) (s : Spot) (d n : ℕ) → weigh ts k (parts_if d n (condition_named bs p s e)) ≡ length (inner k e)

  mutual
    pub apart : (e : Expression) → Apart e
    apart (parens l e) = record { value = λ bs p s d n. (apart e).value bs p _ d n; truth = λ bs p s d n. (apart e).truth bs p _ d n }
    apart (unary l q.Address e) = record { value = λ bs p s d n. at e bs p _ d n; truth = λ bs p s d n. at e bs p _ d n }
    apart (unary l q.Not e) = record { value = λ bs p s d n. (apart e).value bs p _ d n; truth = λ bs p s d n. (apart e).truth bs p _ d n }
    apart (unary l f e) = record { value = λ bs p s d n. (apart e).value bs p _ d n; truth = λ bs p s d n. (apart e).value bs p _ d n }
    apart (binary l o.Both m x y) = record {
      value = λ bs p s d n. simp (weigh_both ts k, length-append, (apart x).value, (apart y).value) refl;
      truth = λ bs p s d n. simp (weigh_both ts k, length-append, (apart x).truth, (apart y).truth) refl;
    }
    apart (binary l o.Either m x y) = record {
      value = λ bs p s d n. simp (weigh_both ts k, length-append, (apart x).value, (apart y).value) refl;
      truth = λ bs p s d n. simp (weigh_both ts k, length-append, (apart x).truth, (apart y).truth) refl;
    }
    apart (binary l f m x y) = record {
      value = λ bs p s d n. simp (weigh_both ts k, length-append, (apart x).value, (apart y).value) refl;
      truth = λ bs p s d n. simp (weigh_both ts k, length-append, (apart x).value, (apart y).value) refl;
    }
    apart (choice l m c x y) = record {
      value = λ bs p s d n. simp (weigh_both ts k, length-append, (apart c).truth, (apart x).value, (apart y).value) refl;
      truth = λ bs p s d n. simp (weigh_both ts k, length-append, (apart c).truth, (apart x).value, (apart y).value) refl;
    }
    apart (apply l m e es) = record {
      value = λ bs p s d n. simp (weigh_both ts k, length-append, (apart e).value, apart_each es) refl;
      truth = λ bs p s d n. simp (weigh_both ts k, length-append, (apart e).value, apart_each es) refl;
    }
    apart (valof l c) = record { value = λ bs p s d n. apart_in c _ _ _ d _; truth = λ bs p s d n. apart_in c _ _ _ d _ }
    apart (table l es) = record { value = λ bs p s d n. weigh_table ts k bs n l es; truth = λ bs p s d n. weigh_table ts k bs n l es }
    apart _ = record { value = λ bs p s d n. weigh_none ts k; truth = λ bs p s d n. weigh_none ts k }

    apart_each : (es : Expressions) (i : ℕ) (bs : List Binding) (p : Enclosing) (s : Spot) (d n : ℕ) → weigh ts k (parts_each d n (terms_named i bs p s es)) ≡ length (inner_each k es)
    apart_each none i bs p s d n = weigh_none ts k
    apart_each (more e es) i bs p s d n = simp (weigh_both ts k, length-append, (apart e).value, apart_each es) refl

    apart_from : (es : Expressions) (i : ℕ) (bs : List Binding) (p : Enclosing) (s : Spot) (d n : ℕ) → weigh ts k (parts_from d n (terms_named i bs p s es)) ≡ length (inner_each k es)
    apart_from none i bs p s d n = weigh_none ts k
    apart_from (more e es) i bs p s d n = simp (weigh_both ts k, length-append, (apart e).value, apart_from es) refl

    at : (e : Expression) (bs : List Binding) (p : Enclosing) (s : Spot) (d n : ℕ) → weigh ts k (parts_at d n (lvalue_named bs p s e)) ≡ length (inner_at k e)
    at (parens l e) bs p s d n = at e bs p _ d n
    at (unary l q.Contents e) bs p s d n = (apart e).value bs p _ d n
    at (binary l o.Subscript m x y) bs p s d n = simp (weigh_both ts k, length-append, (apart x).value, (apart y).value) refl
    at (binary l o.Byte m x y) bs p s d n = simp (weigh_both ts k, length-append, (apart x).value, (apart y).value) refl
    at _ bs p s d n = weigh_none ts k

    onto : (xs : Expressions) (bs : List Binding) (p : Enclosing) (s : Spot) (d n : ℕ) → weigh ts k (parts_onto d n (lvalues_named bs p s xs)) ≡ length (inner_onto k xs)
    onto none bs p s d n = weigh_none ts k
    onto (more e es) bs p s d n = simp (weigh_both ts k, length-append, at e, onto es) refl

    apart_in : (c : Command) (bs : List Binding) (p : Enclosing) (s : Spot) (d n : ℕ) → weigh ts k (parts_in d n (command_named bs p s c)) ≡ length (inner_in k c)
    apart_in (assign l xs es) bs p s d n = simp (weigh_both ts k, length-append, onto xs, apart_from es) refl
    apart_in (call l e es) bs p s d n = simp (weigh_both ts k, length-append, (apart e).value, apart_each es) refl
    apart_in (label l x c) bs p s d n = simp (weigh_label ts k, apart_in c) refl
    apart_in (case_of l e c) bs p s d n = apart_in c bs p _ d _
    apart_in (default l c) bs p s d n = apart_in c bs p _ d _
    apart_in (when l b e c) bs p s d n = simp (weigh_both ts k, length-append, (apart e).truth, apart_in c) refl
    apart_in (test l e c x) bs p s d n = simp (weigh_both ts k, length-append, (apart e).truth, apart_in c, apart_in x) refl
    apart_in (while l b e c) bs p s d n = simp (weigh_both ts k, length-append, (apart e).truth, apart_in c) refl
    apart_in (for_loop l x e f h c) bs p s d n = simp (weigh_both ts k, length-append, (apart e).value, (apart f).value, apart_in c) refl
    apart_in (switch l e c) bs p s d n = simp (weigh_both ts k, length-append, (apart e).value, apart_in c) refl
    apart_in (result l e) bs p s d n = (apart e).value bs p _ d n
    apart_in (block l no_declarations cs) bs p s d n = simp (weigh_both ts k, length-append, apart_through cs) (omega (arith, weigh_none ts k))
    apart_in (block l (declare e es) cs) bs p s d n = simp (weigh_both ts k, length-append, apart_one e, apart_declared es, apart_through cs) refl
    apart_in (repeat l c) bs p s d n = apart_in c bs _ s d _
    apart_in (repeat_while l b c e) bs p s d n = simp (weigh_both ts k, length-append, (apart e).truth, apart_in c) refl
    apart_in _ bs p s d n = weigh_none ts k

    apart_through : (cs : Commands) (bs : List Binding) (p : Enclosing) (s : Spot) (d n : ℕ) → weigh ts k (parts_through d n (commands_named bs p s cs)) ≡ length (inner_through k cs)
    apart_through no_commands bs p s d n = weigh_none ts k
    apart_through (also c cs) bs p s d n = simp (weigh_both ts k, length-append, apart_in c, apart_through cs) refl

    pub apart_declared : (ds : Declarations) (bs : List Binding) (p : Enclosing) (s : Spot) (d n : ℕ) → weigh ts k (parts_of_declarations d n (declarations_named bs p s ds)) ≡ length (inner_declared k ds)
    apart_declared no_declarations bs p s d n = weigh_none ts k
    apart_declared (declare e es) bs p s d n = simp (weigh_both ts k, length-append, apart_one e, apart_declared es) refl

    apart_one : (e : Declaration) (bs : List Binding) (p : Enclosing) (s : Spot) (d n : ℕ) → weigh ts k (parts_of_declaration d n (declaration_named bs p s e)) ≡ length (inner_one_declared k e)
    apart_one (constants l sort.Static is) bs p s d n = weigh_items ts k bs _ n is
    apart_one (constants l sort.Manifest is) bs p s d n = weigh_manifest ts k is
    apart_one (constants l sort.Global is) bs p s d n = weigh_global ts k is
    apart_one (definitions l ds) bs p s d n = apart_defined ds _ p _ d n

    apart_defined : (ds : Definitions) (bs : List Binding) (p : Enclosing) (s : Spot) (d n : ℕ) → weigh ts k (parts_of_definitions d n (definitions_named bs p s ds)) ≡ length (inner_defined k ds)
    apart_defined no_definitions bs p s d n = weigh_none ts k
    apart_defined (define e es) bs p s d n = simp (weigh_both ts k, length-append, apart_definition e, apart_defined es) refl

    apart_definition : (e : Definition) (bs : List Binding) (p : Enclosing) (s : Spot) (d n : ℕ) → weigh ts k (parts_of_definition d n (definition_named bs p s e)) ≡ length (inner_one_defined k e)
    apart_definition (routine l x fs c) bs p s d n = weigh_routine ts k n l _ x _ _ _ _ c _ ∙ simp (length-append, apart_in c) refl
    apart_definition (function l x fs e) bs p s d n = weigh_function ts k n l _ x _ _ _ _ e _ ∙ simp (length-append, (apart e).value) refl
    apart_definition (variables l xs is) bs p s d n = apart_started is bs p _ d n

    apart_started : (is : Starts) (bs : List Binding) (p : Enclosing) (s : Spot) (d n : ℕ) → weigh ts k (parts_of_starts d n (starts_named bs p s is)) ≡ length (inner_started k is)
    apart_started no_starts bs p s d n = weigh_none ts k
    apart_started (value e is) bs p s d n = simp (weigh_both ts k, length-append, (apart e).value, apart_started is) refl
    apart_started (vector l e is) bs p s d n = apart_started is bs _ _ _ n
