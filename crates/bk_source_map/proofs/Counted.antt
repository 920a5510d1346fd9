-- A node has as many places as statements, in its own code and in what is by itself in it.
use Rattle.std.proofs.Common.{◌≡◌, ℕ, ◌+◌, Bool, true, false, cond, Some, None, List, [], ◌∷◌, length, length-append, replicate, refl, arith}
use Rattle.std.specs.Bool.{⊤}
use Rattle.bk_tree.specs.declared.tree.Operator.TheVariants as o
use Rattle.bk_tree.specs.declared.tree.Prefix.TheVariants as q
use Rattle.bk_tree.specs.declared.tree.Simple.TheVariants as w
use Rattle.bk_tree.specs.declared.tree.Sort.TheVariants as sort
use Rattle.bk_tree.specs.Tree.{Expression, Expressions, Command, Commands, Declaration, Declarations, Definition, Definitions, Starts, parens, unary, binary, choice, apply, valof, none, more, assign, call, label, case_of, default, when, test, while, for_loop, switch, result, simple, block, repeat, repeat_while, no_commands, also, constants, definitions, no_declarations, declare, routine, function, variables, no_definitions, define, no_starts, value, vector}
use Rattle.bk_scope.specs.declared.place.Enclosing.{Enclosing}
use Rattle.bk_scope.specs.Scope.{Binding}
use Rattle.bk_scope.specs.Spots.{Spot}
use Rattle.bk_ocode.specs.declared.stmt.Stmt.{Stmt}
use Rattle.bk_ocode.specs.declared.stmt.Stmt.TheVariants as t
use Rattle.bk_trans.specs.declared.around.Around.{Around}
use Rattle.bk_trans.specs.declared.around.Target.{Target}
use Rattle.bk_trans.specs.Naming.{term_named, terms_named, condition_named, lvalue_named, lvalues_named, command_named, commands_named, declarations_named, declaration_named, definitions_named, definition_named, starts_named}
use Rattle.bk_trans.specs.Depths.{has_variables}
use Rattle.bk_trans.specs.Scheme.{by_turns as stmts_by_turns, value_code, each_code, jump_code, address_code, store_code, value_codes, store_codes, command_code, through_code, declarations_code, declaration_code, definitions_code, definition_code, starts_code}
use Rattle.bk_source_map.specs.Places.{any_variables, let_places, by_turns, value_places, each_places, address_places, store_places, values_places, stores_places, command_places, through_places, declared_places, one_declared_places, defined_places, one_defined_places, started_places}

store_long : (b : Bool) (l : ℕ) → length (cond b (t.Store ∷ []) []) ≡ length (cond b (replicate 1 l) [])
store_long true l = refl
store_long false l = refl

-- codes by turns
abbrev Long : List (List Stmt) → List (List ℕ) → Type 0
Long [] [] = ⊤
Long (x ∷ xs) (y ∷ ys) = (length x ≡ length y) × Long xs ys
Long _ _ = ⊥

turns_long : (xs ys : List (List Stmt)) (us vs : List (List ℕ)) → Long xs us → Long ys vs → length (stmts_by_turns xs ys) ≡ length (by_turns us vs)
turns_long [] ys [] vs h k = refl
turns_long (x ∷ xs) [] (u ∷ us) [] h k = refl
turns_long (x ∷ xs) (y ∷ ys) (u ∷ us) (v ∷ vs) h k = simp (length-append) (omega (arith, h.0, k.0, turns_long xs ys us vs h.1 k.1))
turns_long (x ∷ xs) [] (u ∷ us) (v ∷ vs) h k = absurd k
turns_long (x ∷ xs) (y ∷ ys) (u ∷ us) [] h k = absurd k
turns_long [] ys (u ∷ us) vs h k = absurd h
turns_long (x ∷ xs) ys [] vs h k = absurd h

module _ (ts : List Target) where
  -- an expression, for its value and for a jump
  pub record Counted (e : Expression) : Type 0 where
    pub value : (bs : List Binding) (p : Enclosing) (s : Spot) (d n : ℕ) → length (value_code ts d n (term_named bs p s e)) ≡ length (value_places None e)
    pub jump : (x : Bool) (bs : List Binding) (p : Enclosing) (s : Spot) (d n k : ℕ) → length (jump_code ts d n (condition_named bs p s e) x k) ≡ length (value_places (Some x) e)

  both_jump : (x y : Expression) (l m : ℕ) → Counted x → Counted y → (v : Bool) (bs : List Binding) (p : Enclosing) (s : Spot) (d n k : ℕ)
      → length (jump_code ts d n (condition_named bs p s (binary l o.Both m x y)) v k) ≡ length (value_places (Some v) (binary l o.Both m x y))
  both_jump x y l m a b true bs p s d n k = simp (length-append, a.jump, b.jump) (omega arith)
  both_jump x y l m a b false bs p s d n k = simp (length-append, a.jump, b.jump) (omega arith)

  either_jump : (x y : Expression) (l m : ℕ) → Counted x → Counted y → (v : Bool) (bs : List Binding) (p : Enclosing) (s : Spot) (d n k : ℕ)
      → length (jump_code ts d n (condition_named bs p s (binary l o.Either m x y)) v k) ≡ length (value_places (Some v) (binary l o.Either m x y))
  either_jump x y l m a b true bs p s d n k = simp (length-append, a.jump, b.jump) (omega arith)
  either_jump x y l m a b false bs p s d n k = simp (length-append, a.jump, b.jump) (omega arith)

  mutual
    pub counted : (e : Expression) → Counted e
    counted (parens l e) = record {
      value = λ bs p s d n. (counted e).value bs p _ d n;
      jump = λ x bs p s d n k. (counted e).jump x bs p _ d n k;
    }
    counted (unary l q.Address e) = record {
      value = λ bs p s d n. simp (length-append, address e) (omega arith);
      jump = λ x bs p s d n k. simp (length-append, address e) (omega arith);
    }
    counted (unary l q.Not e) = record {
      value = λ bs p s d n. simp (length-append, (counted e).value) (omega arith);
      jump = λ x bs p s d n k. simp (length-append, (counted e).jump) (omega arith);
    }
    counted (unary l f e) = record {
      value = λ bs p s d n. simp (length-append, (counted e).value) (omega arith);
      jump = λ x bs p s d n k. simp (length-append, (counted e).value) (omega arith);
    }
    counted (binary l o.Both m x y) = record {
      value = λ bs p s d n. simp (length-append, (counted x).value, (counted y).value) (omega arith);
      jump = both_jump x y l m (counted x) (counted y);
    }
    counted (binary l o.Either m x y) = record {
      value = λ bs p s d n. simp (length-append, (counted x).value, (counted y).value) (omega arith);
      jump = either_jump x y l m (counted x) (counted y);
    }
    counted (binary l f m x y) = record {
      value = λ bs p s d n. simp (length-append, (counted x).value, (counted y).value) (omega arith);
      jump = λ v bs p s d n k. simp (length-append, (counted x).value, (counted y).value) (omega arith);
    }
    counted (choice l m c x y) = record {
      value = λ bs p s d n. simp (length-append, (counted c).jump, (counted x).value, (counted y).value) (omega arith);
      jump = λ v bs p s d n k. simp (length-append, (counted c).jump, (counted x).value, (counted y).value) (omega arith);
    }
    counted (apply l m e es) = record {
      value = λ bs p s d n. simp (length-append, (counted e).value, each es) (omega arith);
      jump = λ v bs p s d n k. simp (length-append, (counted e).value, each es) (omega arith);
    }
    counted (valof l c) = record {
      value = λ bs p s d n. simp (length-append, command c) (omega arith);
      jump = λ v bs p s d n k. simp (length-append, command c) (omega arith);
    }
    counted _ = record { value = λ bs p s d n. refl; jump = λ x bs p s d n k. refl }

    each : (es : Expressions) (i : ℕ) (bs : List Binding) (p : Enclosing) (s : Spot) (d n : ℕ) → length (each_code ts d n (terms_named i bs p s es)) ≡ length (each_places es)
    each none i bs p s d n = refl
    each (more e es) i bs p s d n = simp (length-append, (counted e).value, each es) (omega arith)

    address : (e : Expression) (bs : List Binding) (p : Enclosing) (s : Spot) (d n : ℕ) → length (address_code ts d n (lvalue_named bs p s e)) ≡ length (address_places e)
    address (parens l e) bs p s d n = address e bs p _ d n
    address (unary l q.Contents e) bs p s d n = (counted e).value bs p _ d n
    address (binary l o.Subscript m x y) bs p s d n = simp (length-append, (counted x).value, (counted y).value) (omega arith)
    address _ bs p s d n = refl

    store : (e : Expression) (bs : List Binding) (p : Enclosing) (s : Spot) (d n : ℕ) → length (store_code ts d n (lvalue_named bs p s e)) ≡ length (store_places e)
    store (parens l e) bs p s d n = store e bs p _ d n
    store (unary l q.Contents e) bs p s d n = simp (length-append, (counted e).value) (omega arith)
    store (binary l o.Subscript m x y) bs p s d n = simp (length-append, (counted x).value, (counted y).value) (omega arith)
    store (binary l o.Byte m x y) bs p s d n = simp (length-append, (counted x).value, (counted y).value) (omega arith)
    store _ bs p s d n = refl

    values : (es : Expressions) (i : ℕ) (bs : List Binding) (p : Enclosing) (s : Spot) (d n : ℕ) → Long (value_codes ts d n (terms_named i bs p s es)) (values_places es)
    values none i bs p s d n = tt
    values (more e es) i bs p s d n = ((counted e).value bs p s d n, values es i bs _ _ d _)

    stores : (xs : Expressions) (bs : List Binding) (p : Enclosing) (s : Spot) (d n : ℕ) → Long (store_codes ts d n (lvalues_named bs p s xs)) (stores_places xs)
    stores none bs p s d n = tt
    stores (more e es) bs p s d n = (store e bs p s d n, stores es bs p _ d _)

    pub command : (c : Command) (bs : List Binding) (p : Enclosing) (s : Spot) (a : Around) (d n : ℕ) → length (command_code ts a d n (command_named bs p s c)) ≡ length (command_places c)
    command (assign l xs es) bs p s a d n = turns_long _ _ (values_places es) (stores_places xs) (values es 0 bs p _ d _) (stores xs bs _ s (d + 1) n)
    command (call l e es) bs p s a d n = simp (length-append, (counted e).value, each es) (omega arith)
    command (label l x c) bs p s a d n = simp (command c) refl
    command (case_of l e c) bs p s a d n = simp (command c) refl
    command (default l c) bs p s a d n = simp (command c) refl
    command (when l b e c) bs p s a d n = simp (length-append, (counted e).jump, command c) (omega arith)
    command (test l e c x) bs p s a d n = simp (length-append, (counted e).jump, command c, command x) (omega arith)
    command (while l b e c) bs p s a d n = simp (length-append, (counted e).jump, command c) (omega arith)
    command (for_loop l x e f h c) bs p s a d n = simp (length-append, (counted e).value, (counted f).value, command c) (omega arith)
    command (switch l e c) bs p s a d n = simp (length-append, (counted e).value, command c) (omega arith)
    command (result l e) bs p s a d n = simp (length-append, (counted e).value) (omega arith)
    command (simple l w.Return) bs p s a d n = refl
    command (simple l _) bs p s a d n = refl
    command (block l no_declarations cs) bs p s a d n = simp (length-append, through cs) (omega arith)
    command (block l (declare e es) cs) bs p s a d n = simp (length-append, one_declared e, declared es, through cs) (omega arith)
    command (repeat l c) bs p s a d n = simp (length-append, command c) (omega arith)
    command (repeat_while l b c e) bs p s a d n = simp (length-append, (counted e).jump, command c) (omega arith)
    command _ bs p s a d n = refl

    through : (cs : Commands) (bs : List Binding) (p : Enclosing) (s : Spot) (a : Around) (d n : ℕ) → length (through_code ts a d n (commands_named bs p s cs)) ≡ length (through_places cs)
    through no_commands bs p s a d n = refl
    through (also c cs) bs p s a d n = simp (length-append, command c, through cs) (omega arith)

    declared : (ds : Declarations) (bs : List Binding) (p : Enclosing) (s : Spot) (d n : ℕ) → length (declarations_code ts d n (declarations_named bs p s ds)) ≡ length (declared_places ds)
    declared no_declarations bs p s d n = refl
    declared (declare e es) bs p s d n = simp (length-append, one_declared e, declared es) (omega arith)

    one_declared : (e : Declaration) (bs : List Binding) (p : Enclosing) (s : Spot) (d n : ℕ) → length (declaration_code ts d n (declaration_named bs p s e)) ≡ length (one_declared_places e)
    one_declared (constants l sort.Static is) bs p s d n = refl
    one_declared (constants l _ is) bs p s d n = refl
    one_declared (definitions l ds) bs p s d n =
        let h : length (cond (any_variables ds) (t.Store ∷ []) []) ≡ length (let_places ds l) = store_long (any_variables ds) l in
        simp (length-append, defined ds, stored ds) (omega (arith, h))

    -- the STORE of a LET
    stored : (ds : Definitions) (bs : List Binding) (p : Enclosing) (s : Spot) → has_variables (definitions_named bs p s ds) ≡ any_variables ds
    stored no_definitions bs p s = refl
    stored (define (variables l xs is) ds) bs p s = refl
    stored (define (routine l x fs c) ds) bs p s = stored ds bs _ _
    stored (define (function l x fs e) ds) bs p s = stored ds bs _ _

    defined : (ds : Definitions) (bs : List Binding) (p : Enclosing) (s : Spot) (d n : ℕ) → length (definitions_code ts d n (definitions_named bs p s ds)) ≡ length (defined_places ds)
    defined no_definitions bs p s d n = refl
    defined (define e es) bs p s d n = simp (length-append, one_defined e, defined es) (omega arith)

    one_defined : (e : Definition) (bs : List Binding) (p : Enclosing) (s : Spot) (d n : ℕ) → length (definition_code ts d n (definition_named bs p s e)) ≡ length (one_defined_places e)
    one_defined (variables l xs is) bs p s d n = started is bs p _ d n
    one_defined _ bs p s d n = refl

    started : (is : Starts) (bs : List Binding) (p : Enclosing) (s : Spot) (d n : ℕ) → length (starts_code ts d n (starts_named bs p s is)) ≡ length (started_places is)
    started no_starts bs p s d n = refl
    started (value e is) bs p s d n = simp (length-append, (counted e).value, started is) (omega arith)
    started (vector l e is) bs p s d n = simp (started is) (omega arith)
