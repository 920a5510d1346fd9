-- What lasts stands at its number.
use Rattle.bk_meaning.proofs.Terms.{◌≡◌, ℕ, zero, suc, ◌+◌, List, [], ◌∷◌, ◌++◌, length, Some, refl, sym, ap, ◌∙◌, append_assoc, arith, append-nil, length-append, slice_get, Sort, Sort as s, Expression, Expressions, Command, Commands, Declaration, Declarations, Items, Definition, Definitions, Starts, Sense, cell, label, foreign, Environment, bind, bind_each, following, count, letters, manifests, statics, globals, sense_of_constant, sense_of_global, past, past_each, past_command, past_definition, constant_in, labelled, within_let, objects_of_declaration, objects_of_declarations, objects_of_definitions, Lasting, global_vector, static_words, of_items, variables_hidden, declared, all_declared, inside, in_scope, in_for, of_expression, of_each, of_command, of_commands, of_declaration, of_declarations, of_definition, of_definitions, of_starts, of_sections, Program, program_of, IsNumbered, InStatics, InItems, InExpression, InEach, InCommand, InCommands, InDeclaration, InDeclarations, InDefinition, InDefinitions, InStarts, InSections, WhatLastsIsAtItsNumber}
use Rattle.bk_tree.specs.Tree as t
use Rattle.bk_scope.specs.Entering.{labels_of_each}
use Rattle.bk_meaning.proofs.Numbers.{expression_counted, each_counted, command_counted, declaration_counted, declarations_counted, definition_counted}

-- these stand one after another in the list, the first at this number
pub record Has (p : Program) (n : ℕ) (xs : List Lasting) : Type 0 where
  pub before : List Lasting
  pub after : List Lasting
  pub is : p ≡ before ++ xs ++ after
  pub number : length before ≡ n

pub left : (p : Program) (n : ℕ) (xs ys : List Lasting) → Has p n (xs ++ ys) → Has p n xs
left p n xs ys h = record {
  before = h.before;
  after = ys ++ h.after;
  is = h.is ∙ ap (λ z. z ++ h.after) (sym (append_assoc h.before xs ys)) ∙ append_assoc (h.before ++ xs) ys h.after;
  number = h.number;
}

pub right : (p : Program) (n m : ℕ) (xs ys : List Lasting) → n + length xs ≡ m → Has p n (xs ++ ys) → Has p m ys
right p n m xs ys at h =
    let long : length (h.before ++ xs) ≡ length h.before + length xs = length-append h.before xs in
    let number : length h.before ≡ n = h.number in
    record {
      before = h.before ++ xs;
      after = h.after;
      is = h.is ∙ ap (λ z. z ++ h.after) (sym (append_assoc h.before xs ys));
      number = omega (arith, long, number, at);
    }

at_length : (before after : List Lasting) (x : Lasting) (n : ℕ) → length before ≡ n → slice_get (before ++ x ∷ after) n ≡ Some x
at_length [] after x zero is = refl
at_length (b ∷ before) after x (suc n) is = at_length before after x n (omega (arith, is))
at_length _ after x _ is = absurd (omega (arith, is))

pub first : (p : Program) (n : ℕ) (x : Lasting) (xs : List Lasting) → Has p n (x ∷ xs) → IsNumbered p n x
first p n x xs h = ap (λ z. slice_get z n) (h.is ∙ append_assoc h.before (x ∷ xs) h.after) ∙ at_length h.before (xs ++ h.after) x n h.number

pub behind_first : (p : Program) (n m : ℕ) (x : Lasting) (xs : List Lasting) → n + 1 ≡ m → Has p n (x ∷ xs) → Has p m xs
behind_first p n m x xs at h = right p n m (x ∷ []) xs at h

in_statics : (p : Program) (n : ℕ) (env : Environment) (is : Items) → Has p n (static_words env is) → InStatics p n env is
in_statics p n env t.no_items h = tt
in_statics p n env (t.item l x e is) h = (first p n _ _ h, in_statics p (suc n) env is (behind_first p n (suc n) _ _ (omega arith) h))

in_items : (p : Program) (env : Environment) (sort : Sort) (is : Items) → Has p env.next (of_items env sort is) → InItems p env sort is
in_items p env s.Static is h = in_statics p env.next env is h
in_items p env _ is h = tt

pub moved : (p : Program) (n m : ℕ) (xs : List Lasting) → m ≡ n → Has p n xs → Has p m xs
moved p n m xs at h = right p n m [] xs (omega (arith, at)) h

-- the number of the next lasting object behind what comes into scope
pub bound-next : (xs : List (List ℕ)) (sense : Sense) (env : Environment) → (bind_each xs sense env).next ≡ env.next
bound-next [] sense env = refl
bound-next (x ∷ xs) sense env = bound-next xs sense (bind x sense env)

pub labelled-next : (cs : Commands) (env : Environment) → (labelled cs env).next ≡ env.next
labelled-next cs env = bound-next (labels_of_each cs) label env

pub in_scope-next : (c : Command) (env : Environment) → (in_scope c env).next ≡ env.next
in_scope-next c env = labelled-next (t.also c t.no_commands) env

manifests-next : (is : Items) (env : Environment) → (manifests is env).next ≡ env.next
manifests-next t.no_items env = refl
manifests-next (t.item l x e is) env = manifests-next is (bind x (sense_of_constant (constant_in env e)) env)

globals-next : (outer : Environment) (is : Items) (env : Environment) → (globals outer is env).next ≡ env.next
globals-next outer t.no_items env = refl
globals-next outer (t.item l x e is) env = globals-next outer is (bind x (sense_of_global (constant_in outer e)) env)

statics-next : (is : Items) (env : Environment) → (statics is env).next ≡ env.next + count is
statics-next t.no_items env = omega arith
statics-next (t.item l x e is) env = let rest : (statics is (following 1 (bind x (cell env.next 0) env))).next ≡ env.next + 1 + count is = statics-next is (following 1 (bind x (cell env.next 0) env)) in omega (arith, rest)

hidden-next : (ds : Definitions) (env : Environment) → (variables_hidden ds env).next ≡ env.next
hidden-next t.no_definitions env = refl
hidden-next (t.define (t.variables l xs is) ds) env = hidden-next ds (bind_each (letters xs) foreign env) ∙ bound-next (letters xs) foreign env
hidden-next (t.define _ ds) env = hidden-next ds env

pub declared-next : (d : Declaration) (env : Environment) → (declared d env).next ≡ env.next + objects_of_declaration d
declared-next (t.constants l s.Manifest is) env = let rest : (manifests is env).next ≡ env.next = manifests-next is env in omega (arith, rest)
declared-next (t.constants l s.Static is) env = statics-next is env
declared-next (t.constants l s.Global is) env = let rest : (globals env is env).next ≡ env.next = globals-next env is env in omega (arith, rest)
declared-next (t.definitions l ds) env = hidden-next ds (record { names = (within_let ds env).names; next = env.next + objects_of_definitions ds })

pub all_declared-next : (ds : Declarations) (env : Environment) → (all_declared ds env).next ≡ env.next + objects_of_declarations ds
all_declared-next t.no_declarations env = omega arith
all_declared-next (t.declare d ds) env =
    let rest : (all_declared ds (declared d env)).next ≡ (declared d env).next + objects_of_declarations ds = all_declared-next ds (declared d env) in
    let own : (declared d env).next ≡ env.next + objects_of_declaration d = declared-next d env in
    omega (arith, rest, own)

-- behind one part, and behind two
second : (p : Program) (n k : ℕ) (xs ys : List Lasting) → length xs ≡ k → Has p n (xs ++ ys) → Has p (n + k) ys
second p n k xs ys long h = right p n (n + k) xs ys (omega (arith, long)) h

third : (p : Program) (n j k : ℕ) (xs ys zs : List Lasting) → length xs ≡ j → length ys ≡ k → Has p n (xs ++ ys ++ zs) → Has p (n + j + k) zs
third p n j k xs ys zs long longer h = right p n (n + j + k) (xs ++ ys) zs (omega (arith, long, longer, length-append xs ys)) h

middle : (p : Program) (n k : ℕ) (xs ys zs : List Lasting) → length xs ≡ k → Has p n (xs ++ ys ++ zs) → Has p (n + k) ys
middle p n k xs ys zs long h = second p n k xs ys long (left p n (xs ++ ys) zs h)

foremost : (p : Program) (n : ℕ) (xs ys zs : List Lasting) → Has p n (xs ++ ys ++ zs) → Has p n xs
foremost p n xs ys zs h = left p n xs ys (left p n (xs ++ ys) zs h)

mutual
  pub in_expression : (p : Program) (env : Environment) (e : Expression) → Has p env.next (of_expression env e) → InExpression p env e
  in_expression p env (t.text l x) h = first p env.next _ [] h
  in_expression p env (t.parens l e) h = in_expression p env e h
  in_expression p env (t.unary l q e) h = in_expression p env e h
  in_expression p env (t.binary l q m a b) h =
      (in_expression p env a (left p env.next (of_expression env a) _ h), in_expression p (past a env) b (second p env.next _ (of_expression env a) _ (expression_counted env a) h))
  in_expression p env (t.choice l m c a b) h = (
    in_expression p env c (foremost p env.next (of_expression env c) (of_expression (past c env) a) _ h),
    in_expression p (past c env) a (middle p env.next _ (of_expression env c) (of_expression (past c env) a) _ (expression_counted env c) h),
    in_expression p (past a (past c env)) b (third p env.next _ _ (of_expression env c) (of_expression (past c env) a) _ (expression_counted env c) (expression_counted (past c env) a) h),
  )
  in_expression p env (t.apply l m f es) h =
      (in_expression p env f (left p env.next (of_expression env f) _ h), in_each p (past f env) es (second p env.next _ (of_expression env f) _ (expression_counted env f) h))
  in_expression p env (t.valof l c) h = in_command p (in_scope c env) c (moved p env.next _ _ (in_scope-next c env) h)
  in_expression p env (t.table l es) h = first p env.next _ [] h
  in_expression p env (t.name l x) h = tt
  in_expression p env _ h = tt

  pub in_each : (p : Program) (env : Environment) (es : Expressions) → Has p env.next (of_each env es) → InEach p env es
  in_each p env t.none h = tt
  in_each p env (t.more e es) h =
      (in_expression p env e (left p env.next (of_expression env e) _ h), in_each p (past e env) es (second p env.next _ (of_expression env e) _ (expression_counted env e) h))

  pub in_command : (p : Program) (env : Environment) (c : Command) → Has p env.next (of_command env c) → InCommand p env c
  in_command p env (t.assign l xs es) h =
      (in_each p env xs (left p env.next (of_each env xs) _ h), in_each p (past_each xs env) es (second p env.next _ (of_each env xs) _ (each_counted env xs) h))
  in_command p env (t.call l f es) h =
      (in_expression p env f (left p env.next (of_expression env f) _ h), in_each p (past f env) es (second p env.next _ (of_expression env f) _ (expression_counted env f) h))
  in_command p env (t.label l x c) h = in_command p env c h
  in_command p env (t.case_of l e c) h = in_command p env c h
  in_command p env (t.default l c) h = in_command p env c h
  in_command p env (t.when l b e c) h =
      (in_expression p env e (left p env.next (of_expression env e) _ h), in_command p (past e env) c (second p env.next _ (of_expression env e) _ (expression_counted env e) h))
  in_command p env (t.test l e a b) h = (
    in_expression p env e (foremost p env.next (of_expression env e) (of_command (past e env) a) _ h),
    in_command p (past e env) a (middle p env.next _ (of_expression env e) (of_command (past e env) a) _ (expression_counted env e) h),
    in_command p (past_command a (past e env)) b (third p env.next _ _ (of_expression env e) (of_command (past e env) a) _ (expression_counted env e) (command_counted (past e env) a) h),
  )
  in_command p env (t.while l b e c) h =
      (in_expression p env e (left p env.next (of_expression env e) _ h), in_command p (past e env) c (second p env.next _ (of_expression env e) _ (expression_counted env e) h))
  in_command p env (t.for_loop l x a b k c) h = (
    in_expression p env a (foremost p env.next (of_expression env a) (of_expression (past a env) b) _ h),
    in_expression p (past a env) b (middle p env.next _ (of_expression env a) (of_expression (past a env) b) _ (expression_counted env a) h),
    in_command p (in_for x c (past b (past a env))) c (moved p (past b (past a env)).next _ _ (in_scope-next c (bind x.letters foreign (past b (past a env)))) (third p env.next _ _ (of_expression env a) (of_expression (past a env) b) _ (expression_counted env a) (expression_counted (past a env) b) h)),
  )
  in_command p env (t.switch l e c) h =
      (in_expression p env e (left p env.next (of_expression env e) _ h), in_command p (past e env) c (second p env.next _ (of_expression env e) _ (expression_counted env e) h))
  in_command p env (t.result l e) h = in_expression p env e h
  in_command p env (t.block l t.no_declarations cs) h = in_commands p env cs h
  in_command p env (t.block l (t.declare d ds) cs) h = (
    in_declarations p env (t.declare d ds) (left p env.next (of_declarations env (t.declare d ds)) _ h),
    in_commands p (labelled cs (all_declared (t.declare d ds) env)) cs
        (moved p (env.next + objects_of_declarations (t.declare d ds)) _ _ (labelled-next cs (all_declared (t.declare d ds) env) ∙ all_declared-next (t.declare d ds) env)
        (second p env.next _ (of_declarations env (t.declare d ds)) _ (declarations_counted env (t.declare d ds)) h)),
  )
  in_command p env (t.repeat l c) h = in_command p env c h
  in_command p env (t.repeat_while l b c e) h =
      (in_command p env c (left p env.next (of_command env c) _ h), in_expression p (past_command c env) e (second p env.next _ (of_command env c) _ (command_counted env c) h))
  in_command p env t.empty h = tt
  in_command p env (t.goto l x) h = tt
  in_command p env (t.simple l w) h = tt

  pub in_commands : (p : Program) (env : Environment) (cs : Commands) → Has p env.next (of_commands env cs) → InCommands p env cs
  in_commands p env t.no_commands h = tt
  in_commands p env (t.also c cs) h =
      (in_command p env c (left p env.next (of_command env c) _ h), in_commands p (past_command c env) cs (second p env.next _ (of_command env c) _ (command_counted env c) h))

  pub in_declaration : (p : Program) (env : Environment) (d : Declaration) → Has p env.next (of_declaration env d) → InDeclaration p env d
  in_declaration p env (t.constants l sort is) h = in_items p env sort is h
  in_declaration p env (t.definitions l ds) h = in_definitions p (within_let ds env) ds h

  pub in_declarations : (p : Program) (env : Environment) (ds : Declarations) → Has p env.next (of_declarations env ds) → InDeclarations p env ds
  in_declarations p env t.no_declarations h = tt
  in_declarations p env (t.declare d ds) h = (
    in_declaration p env d (left p env.next (of_declaration env d) _ h),
    in_declarations p (declared d env) ds (moved p (env.next + objects_of_declaration d) _ _ (declared-next d env) (second p env.next _ (of_declaration env d) _ (declaration_counted env d) h)),
  )

  pub in_definition : (p : Program) (env : Environment) (d : Definition) → Has p env.next (of_definition env d) → InDefinition p env d
  in_definition p env (t.routine l x fs c) h =
      (first p env.next _ _ h, in_command p (in_scope c (inside fs env)) c (behind_first p env.next _ _ _ (sym (in_scope-next c (inside fs env) ∙ bound-next (letters fs) foreign (following 1 env))) h))
  in_definition p env (t.function l x fs e) h =
      (first p env.next _ _ h, in_expression p (inside fs env) e (behind_first p env.next _ _ _ (sym (bound-next (letters fs) foreign (following 1 env))) h))
  in_definition p env (t.variables l xs is) h = in_starts p env is h

  pub in_definitions : (p : Program) (env : Environment) (ds : Definitions) → Has p env.next (of_definitions env ds) → InDefinitions p env ds
  in_definitions p env t.no_definitions h = tt
  in_definitions p env (t.define d ds) h =
      (in_definition p env d (left p env.next (of_definition env d) _ h), in_definitions p (past_definition d env) ds (second p env.next _ (of_definition env d) _ (definition_counted env d) h))

  pub in_starts : (p : Program) (env : Environment) (is : Starts) → Has p env.next (of_starts env is) → InStarts p env is
  in_starts p env t.no_starts h = tt
  in_starts p env (t.value e is) h =
      (in_expression p env e (left p env.next (of_expression env e) _ h), in_starts p (past e env) is (second p env.next _ (of_expression env e) _ (expression_counted env e) h))
  in_starts p env (t.vector l e is) h = in_starts p env is h

in_sections : (p : Program) (n : ℕ) (sections : List Declarations) → Has p n (of_sections n sections) → InSections p n sections
in_sections p n [] h = tt
in_sections p n (ds ∷ rest) h =
    let env : Environment = record { names = []; next = n } in
    (in_declarations p env ds (left p n (of_declarations env ds) _ h), in_sections p (n + objects_of_declarations ds) rest (second p n _ (of_declarations env ds) _ (declarations_counted env ds) h))

pub stands_at_its_number : WhatLastsIsAtItsNumber
stands_at_its_number sections =
    in_sections (program_of sections) 1 sections (record { before = global_vector ∷ []; after = []; is = ap (λ z. global_vector ∷ z) (sym (append-nil (of_sections 1 sections))); number = refl })
