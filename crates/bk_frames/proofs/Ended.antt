-- What the end completes is no larger than any other completion.
use Rattle.bk_frames.proofs.Terms.{◌≡◌, ◌≤◌, ◌+◌, ◌==◌, max, length, ℕ, List, [], Bool, true, cond, Option, Some, None, inl, inr, arith, nat_lt, Form, Both, inner, at_expression, at_expressions, at_names, at_command, size, start_count, depth, depth_of_each, depth_of_command, depth_of_declarations, depth_of_definition, depth_of_starts, nodes, nodes_of_each, nodes_of_command, nodes_of_declarations, nodes_of_definition, nodes_of_starts, each_then, starts_then, form_of, Lookahead, Any, AtClosing, AtPart, If, Unlisted, Closed, Missing, Started, Answered, Whole, Taken, Gives, Does, Operates, Defines, Completes, each_depth, each_nodes, declarations_depth, declarations_nodes, definitions_depth, definitions_nodes, starts_depth, starts_nodes, Kind as k, Guard as g}
use Rattle.bk_frames.specs.declared.size.Form.TheVariants.{Label, Call, Other}
use Rattle.bk_tree.specs.Tree.{Expression, Expressions, Command, Definition, Declarations, unary, binary, choice, apply, table, call, assign, result, repeat_while, function, variables, value, vector, valof, label, default, test, for_loop, routine, empty, none, more, no_starts, no_items}
use Rattle.bk_grammar.specs.Machine.{Stack, State, want, have, maybe, did, due, in_section, at_name, at_starts, at_items, in_unary, in_binary, in_chain, in_else, in_table, in_start, in_values, in_guard, in_result, in_while, in_function, in_value, in_vector, in_valof, in_label, in_guarded, in_default, in_or, in_for, in_routine, give, finish, defined_by, stepped_by, counted, guarded, inside}
use Rattle.bk_frames.proofs.Turns.{guarded_depth, guarded_nodes}
use Rattle.bk_frames.proofs.Lowering.{Down}

abbrev Ended : Option State → Declarations → Type 0
Ended x ds = x ≡ Some (due (in_section ds))

-- the section has the property
abbrev Has : (ℕ → ℕ → Type 0) → Declarations → Type 0
Has P ds = P (depth_of_declarations ds) (nodes_of_declarations ds)

-- each way on with a part of at least this depth and so many nodes comes to a section that is no smaller
abbrev NoLess : (ℕ → ℕ → Type 0) → Declarations → (ℕ → ℕ → Lookahead → Type 0) → ℕ → ℕ → Type 0
NoLess P ds F a b = (d n : ℕ) → a ≤ d → b ≤ n → (c : Lookahead) → F d n c → Has P ds

counted_is : (b : Bool) (whole : Option State) (next : State) (ds : Declarations) → Ended (counted b whole k.Semicolon next) ds → (b ≡ true) × Ended whole ds
counted_is b whole next ds h1 = grind arith

section_is : (gs ds : Declarations) → Ended (Some (due (in_section gs))) ds → gs ≡ ds
section_is gs ds h = cc

-- ---- unions

closed_has : (P : ℕ → ℕ → Type 0) (ds : Declarations) (F : ℕ → ℕ → Lookahead → Type 0) (a b : ℕ) → NoLess P ds F a b → NoLess P ds (Closed F) a b
closed_has P ds F a b h1 = grind arith

missing_has : (P : ℕ → ℕ → Type 0) (ds : Declarations) (F : ℕ → ℕ → Lookahead → Type 0) (a b : ℕ) → NoLess P ds F a b → NoLess P ds (Missing F) a b
missing_has P ds F a b h1 = grind arith

-- behind a call at the start of a command
started_has : (P : ℕ → ℕ → Type 0) (ds : Declarations) (F : ℕ → ℕ → Lookahead → Type 0) (a b : ℕ) → NoLess P ds F a b → (f : Form) → (f ≡ Label → ⊥) → NoLess P ds (Started F f) a b
started_has P ds F a b h1 f h2 = grind (arith, closed_has)

unlisted_has : (X : Type 0) (F : Lookahead → Type 0) → ((c : Lookahead) → F c → X) → Any (Unlisted F) → X
unlisted_has X F h1 h2 = grind arith

part_has : (X : Type 0) (F G : Lookahead → Type 0) → ((c : Lookahead) → F c → X) → ((c : Lookahead) → G c → X) → (c : Lookahead) → AtPart F G c → X
part_has X F G h1 h2 c h3 = grind (arith, unlisted_has)

at_closing_has : (X Y : Type 0) → (Y → X) → (c : Lookahead) → AtClosing Y c → X
at_closing_has X Y h1 c h2 = grind arith

answered_has : (P : ℕ → ℕ → Type 0) (ds : Declarations) (G : Form → ℕ → ℕ → Lookahead → Type 0) (H : ℕ → ℕ → Type 0) (a b : ℕ) → ((f : Form) → (f ≡ Label → ⊥) → NoLess P ds (G f) (a + 1) (b + 1)) → ((d n : ℕ) → a + 1 ≤ d → b + 1 ≤ n → H d n → Has P ds)
    → NoLess P ds (Answered G H) a b
answered_has P ds G H a b h1 h2 = grind arith

taken_has : (b : Bool) (X Y Z : Type 0) → (Y → X) → (Z → X) → Taken b Y Z → X
taken_has b X Y Z h1 h2 h3 = grind arith

-- the last value is complete
values_have : (P : ℕ → ℕ → Type 0) (ds : Declarations) (F : ℕ → ℕ → Lookahead → Type 0) (a b : ℕ) (X : Lookahead → Type 0) (last : Bool) → last ≡ true → NoLess P ds F a b → (d n : ℕ) → a ≤ d → b ≤ n → (c : Lookahead) → If last (Closed F d n) X c → Has P ds
values_have P ds F a b X last h1 h2 d n h3 h4 c h5 = grind (arith, closed_has)

starts_have : (X Y : Type 0) (Z : Lookahead → Type 0) (last : Bool) → last ≡ true → (Y → X) → (c : Lookahead) → If last (AtClosing Y) Z c → X
starts_have X Y Z last h1 h2 c h3 = grind (arith, at_closing_has)

-- ---- by the stack

-- a name is no call
abbrev Apart : Form → Expression → Type 0
Apart Label (apply m s x es) = ⊥
Apart _ _ = Unit {0}

no_label : (f : Form) (m s : ℕ) (x : Expression) (es : Expressions) → Apart f (apply m s x es) → f ≡ Label → ⊥
no_label f m s x es h1 h2 = grind arith

not_call : (f : Form) (m : ℕ) (y : Command) → Apart f (valof m y)
not_call f m y = grind arith

-- a definition is complete
defines : (P : ℕ → ℕ → Type 0) → Down P → (st : Stack) (y : Definition) (l : ℕ) (x : List ℕ) (ds : Declarations) → Ended (defined_by st y l x k.Semicolon) ds
    → (d n : ℕ) → depth_of_definition y ≤ d → nodes_of_definition y ≤ n → Defines P st d n → Has P ds
defines P h1 st y l x ds h2 d n h3 h4 h5 = grind (arith, section_is, declarations_depth, declarations_nodes, definitions_depth, definitions_nodes)

mutual
  -- an expression is complete
  gives : (P : ℕ → ℕ → Type 0) → Down P → (st : Stack) (f : Form) (e : Expression) (l : ℕ) (x : List ℕ) (ds : Declarations) → Ended (give st e l x k.Semicolon) ds → Apart f e → NoLess P ds (Gives P st f) (depth e) (nodes e)
  gives P w (in_unary m o st) f e l x ds h a d n p q c i = gives P w st Other (unary m o e) l x ds h tt (d + 1) (n + 1) (omega (arith, p)) (omega (arith, q)) c i
  gives P w (in_binary o s y st) f e l x ds h a d n p q c i = gives P w st Other (binary (at_expression y) o s y e) l x ds h tt (max (depth y) d + 1) (nodes y + n + 1) (omega (arith, p)) (omega (arith, q)) c i
  gives P w (in_chain o s y z st) f e l x ds h a d n p q c i =
      gives P w st Other (binary (at_expression y) Both s y (binary (at_expression z) o s z e)) l x ds h tt (max (depth y) (max (depth z) d + 1) + 1) (nodes y + (nodes z + n + 1) + 1) (omega (arith, p)) (omega (arith, q)) c i
  gives P w (in_else s y z st) f e l x ds h a d n p q c i = gives P w st Other (choice (at_expression y) s y z e) l x ds h tt (max (depth y) (max (depth z) d) + 1) (nodes y + nodes z + n + 1) (omega (arith, p)) (omega (arith, q)) c i
  gives P w (in_table m es st) f e l x ds h a d n p q c i =
      let u = each_depth es e in
      let v = each_nodes es e in
      part_has (Has P ds) _ _
      (gives P w st Other (table m (each_then es (more e none))) l x ds h tt (max (depth_of_each es) d + 1) (nodes_of_each es + n + 1) (omega (arith, p, u)) (omega (arith, q, v)))
      (gives P w st Other (table m (each_then es (more e none))) l x ds h tt (max (depth_of_each es) (max d 1) + 1) (nodes_of_each es + n + 2) (omega (arith, p, u)) (omega (arith, q, v))) c i
  gives P w (in_start st) f (apply m s y es) l x ds h a d n p q c i =
      started_has P ds (Does P st) (depth (apply m s y es)) (nodes (apply m s y es)) (finishes P w st (call m y es) l x ds h) f (no_label f m s y es a) d n p q c i
  gives P w (in_start st) f _ l x ds h a d n p q c i = absurd cc
  gives P w (in_values xs ys st) f e l x ds h a d n p q c i =
      let z = counted_is (size xs == size ys + 1) (finish st (assign (at_expressions xs) xs (each_then ys (more e none))) l x k.Semicolon) (want (in_values xs (each_then ys (more e none)) st)) ds h in
      let u = each_depth ys e in
      let v = each_nodes ys e in
      values_have P ds (Does P st) _ _ _ (size xs == size ys + 1) z.0 (finishes P w st (assign (at_expressions xs) xs (each_then ys (more e none))) l x ds z.1)
      (max (depth_of_each xs) (max (depth_of_each ys) d) + 1) (nodes_of_each xs + (nodes_of_each ys + n) + 1) (omega (arith, p, u)) (omega (arith, q, v)) c i
  gives P w (in_guard g.SwitchOn m st) f e l x ds h a d n p q c i = absurd cc
  gives P w (in_guard g.Case m st) f e l x ds h a d n p q c i = absurd cc
  gives P w (in_guard _ m st) f e l x ds h a d n p q c i = absurd cc
  gives P w (in_result m st) f e l x ds h a d n p q c i = closed_has P ds (Does P st) _ _ (finishes P w st (result m e) l x ds h) (d + 1) (n + 1) (omega (arith, p)) (omega (arith, q)) c i
  gives P w (in_while b y st) f e l x ds h a d n p q c i =
      closed_has P ds (Does P st) _ _ (finishes P w st (repeat_while (at_command y) b y e) l x ds h) (max (depth_of_command y) d + 1) (nodes_of_command y + n + 1) (omega (arith, p)) (omega (arith, q)) c i
  gives P w (in_function m fs st) f e l x ds h a d n p q c i = at_closing_has (Has P ds) _ (defines P w st (function m.at m.letters fs e) l x ds h (d + 1) (n + 1) (omega (arith, p)) (omega (arith, q))) c i
  gives P w (in_value ns is st) f e l x ds h a d n p q c i =
      let z = counted_is (length ns == start_count is + 1) (defined_by st (variables (at_names ns) ns (starts_then is (value e no_starts))) l x k.Semicolon) (due (at_starts ns (starts_then is (value e no_starts)) st)) ds h in
      let u = starts_depth is (value e no_starts) in
      let v = starts_nodes is (value e no_starts) in
      starts_have (Has P ds) _ _ (length ns == start_count is + 1) z.0
      (defines P w st (variables (at_names ns) ns (starts_then is (value e no_starts))) l x ds z.1 (max (depth_of_starts is) d + 1) (nodes_of_starts is + n + 1) (omega (arith, p, u)) (omega (arith, q, v))) c i
  gives P w (in_vector m ns is st) f e l x ds h a d n p q c i =
      let z = counted_is (length ns == start_count is + 1) (defined_by st (variables (at_names ns) ns (starts_then is (vector m e no_starts))) l x k.Semicolon) (due (at_starts ns (starts_then is (vector m e no_starts)) st)) ds h in
      let u = starts_depth is (vector m e no_starts) in
      let v = starts_nodes is (vector m e no_starts) in
      starts_have (Has P ds) _ _ (length ns == start_count is + 1) z.0
      (defines P w st (variables (at_names ns) ns (starts_then is (vector m e no_starts))) l x ds z.1 (max (depth_of_starts is) d + 1) (nodes_of_starts is + n + 1) (omega (arith, p, u)) (omega (arith, q, v))) c i
  gives P w _ f e l x ds h a d n p q c i = absurd cc

  -- a command is complete
  finishes : (P : ℕ → ℕ → Type 0) → Down P → (st : Stack) (y : Command) (l : ℕ) (x : List ℕ) (ds : Declarations) → Ended (finish st y l x k.Semicolon) ds → NoLess P ds (Does P st) (depth_of_command y) (nodes_of_command y)
  finishes P w (in_valof m st) y l x ds h d n p q c i =
      answered_has P ds (Gives P st) (Operates P st (Gives P st)) (depth_of_command y) (nodes_of_command y) (λ f other. gives P w st f (valof m y) l x ds h (not_call f m y))
      (operates P w st (valof m y) l x ds h (gives P w st Other (valof m y) l x ds h tt)) d n p q c i
  finishes P w (in_label m z st) y l x ds h d n p q c i = finishes P w st (label m z y) l x ds h (d + 1) (n + 1) (omega (arith, p)) (omega (arith, q)) c i
  finishes P w (in_guarded gd m e st) y l x ds h d n p q c i =
      let u = guarded_depth gd m e y in
      let v = guarded_nodes gd m e y in
      finishes P w st (guarded gd m e y) l x ds h (max (depth e) d + 1) (nodes e + n + 1) (omega (arith, p, u)) (omega (arith, q, v)) c i
  finishes P w (in_default m st) y l x ds h d n p q c i = finishes P w st (default m y) l x ds h (d + 1) (n + 1) (omega (arith, p)) (omega (arith, q)) c i
  finishes P w (in_or m e a st) y l x ds h d n p q c i = finishes P w st (test m e a y) l x ds h (max (depth e) (max (depth_of_command a) d) + 1) (nodes e + nodes_of_command a + n + 1) (omega (arith, p)) (omega (arith, q)) c i
  finishes P w (in_for m z a b t st) y l x ds h d n p q c i =
      finishes P w st (for_loop m z a b t y) l x ds h (max (depth a) (max (depth b) (max (depth_of_each t) d)) + 1) (nodes a + nodes b + nodes_of_each t + n + 1) (omega (arith, p)) (omega (arith, q)) c i
  finishes P w (in_routine m fs st) y l x ds h d n p q c i = at_closing_has (Has P ds) _ (defines P w st (routine m.at m.letters fs y) l x ds h (d + 1) (n + 1) (omega (arith, p)) (omega (arith, q))) c i
  finishes P w _ y l x ds h d n p q c i = absurd cc

  -- an operator comes behind an expression that is complete
  operates : (P : ℕ → ℕ → Type 0) → Down P → (st : Stack) (e : Expression) (l : ℕ) (x : List ℕ) (ds : Declarations) → Ended (give st e l x k.Semicolon) ds → NoLess P ds (Gives P st Other) (depth e) (nodes e)
      → (d n : ℕ) → depth e ≤ d → nodes e ≤ n → Operates P st (Gives P st) d n → Has P ds
  operates P w (in_binary o s y st) e l x ds h f d n p q i =
      taken_has (nat_lt 1 (inner o)) (Has P ds) _ _ (λ j. f (d + 1) (n + 2) (omega (arith, p)) (omega (arith, q)) j.0 j.1)
      (operates P w st (binary (at_expression y) o s y e) l x ds h (gives P w st Other (binary (at_expression y) o s y e) l x ds h tt) (max (depth y) d + 1) (nodes y + n + 1) (omega (arith, p)) (omega (arith, q))) i
  operates P w _ e l x ds h f d n p q i = f (d + 1) (n + 2) (omega (arith, p)) (omega (arith, q)) i.0 i.1

inside_not : (b : Bool) (ds : Declarations) → Ended (cond b None None) ds → ⊥
inside_not b ds h1 = grind arith

form_apart : (e : Expression) → Apart (form_of e) e
form_apart e = grind arith

whole_has : (P : ℕ → ℕ → Type 0) (ds : Declarations) (F : Form → ℕ → ℕ → Lookahead → Type 0) (f : Form) (a b : ℕ) → NoLess P ds (F f) a b → NoLess P ds (F Call) a b → Whole F f a b → Has P ds
whole_has P ds F f a b h1 h2 h3 = grind arith

missed : (P : ℕ → ℕ → Type 0) (ds : Declarations) (F : ℕ → ℕ → Lookahead → Type 0) (G : ℕ → ℕ → Lookahead → Type 0) (a b : ℕ) → NoLess P ds F a b → Any (Missing F a b) → Has P ds
missed P ds F G a b f h = missing_has P ds F a b f a b (omega arith) (omega arith) h.0 h.1

-- the section is whole behind a semicolon
pub ends : (P : ℕ → ℕ → Type 0) → Down P → (x : State) (ds : Declarations) → Ended (stepped_by x 1 [] k.Semicolon) ds → Completes P x → Has P ds
ends P w (have st e) ds h i = whole_has P ds (Gives P st) (form_of e) (depth e) (nodes e) (gives P w st (form_of e) e 1 [] ds h (form_apart e)) (gives P w st Call e 1 [] ds h tt) i
ends P w (did st c) ds h i = finishes P w st c 1 [] ds h (depth_of_command c) (nodes_of_command c) (omega arith) (omega arith) i.0 i.1
ends P w (due (in_section gs)) ds h i = grind (arith, section_is)
ends P w (due (at_name n st)) ds h i = absurd (inside_not (inside st) ds h)
ends P w (due (at_items m s no_items st)) ds h i = absurd cc
ends P w (maybe (in_label m n st)) ds h (inl i) = missed P ds (Does P st) (Does P st) 1 1 (finishes P w st (label m n empty) 1 [] ds h) i
ends P w (maybe (in_label m n st)) ds h (inr i) = finishes P w st (label m n empty) 1 [] ds h 2 2 (omega arith) (omega arith) i.0 i.1
ends P w (maybe (in_guarded gd m e st)) ds h (inl i) =
    let u = guarded_depth gd m e empty in
    let v = guarded_nodes gd m e empty in
    missing_has P ds (Does P st) _ _ (finishes P w st (guarded gd m e empty) 1 [] ds h) (depth e + 1) (nodes e + 1) (omega (arith, u)) (omega (arith, v)) i.0 i.1
ends P w (maybe (in_guarded gd m e st)) ds h (inr i) = grind (arith, guarded_depth, empty, guarded_nodes, finishes, depth)
ends P w (maybe (in_default m st)) ds h (inl i) = missed P ds (Does P st) (Does P st) 1 1 (finishes P w st (default m empty) 1 [] ds h) i
ends P w (maybe (in_default m st)) ds h (inr i) = finishes P w st (default m empty) 1 [] ds h 2 2 (omega arith) (omega arith) i.0 i.1
ends P w _ ds h i = absurd cc
