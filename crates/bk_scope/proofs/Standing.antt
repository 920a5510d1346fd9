-- Where each part's faults stand: from its first symbol on, before what follows.
use Rattle.bk_scope.proofs.Terms.{ℕ, ◌+◌, ◌≤◌, ◌==◌, Bool, true, false, cond, Option, Some, None, List, [], ◌∷◌, ◌++◌, length, arith, nat_lt, GLOBAL_NUMBER, VEC_NUMBER, Prefix, Prefix as q, Simple, Simple as w, Sort as sort, Expression, Expressions, Command, Commands, Declaration, Declarations, Items, Definition, Definitions, Starts, name, number, text, truth, query, parens, unary, binary, choice, apply, valof, table, none, more, empty, assign, call, goto, label, case_of, default, when, test, while, for_loop, switch, result, simple, block, repeat, repeat_while, no_commands, also, constants, definitions, no_declarations, declare, no_items, item, routine, function, variables, no_definitions, define, no_starts, value, vector, at_expression, size, Bound, Constant, Global, Static, Variable, Label, Enclosing, Role, Value, Truth, Address, Destination, Binding, bound_in, bind, has_address, Wrong, text_of, dynamic_name, label_not_here, no_switchon, no_loop, no_result_or_return, not_assignable, global_out_of_range, vec_out_of_range, constant_word, deeper, looping, switching, labelled, valued, called, labels_of, labels_of_each, with_formals, parenthesised, role_of_operand, role_of_operands, place_of_second, words_of_start, Spot, procedures_in, onward, past, numbered, following, after_each, after_done, after_declared, after_one_declared, after_one_defined, after_constant, symbols, symbols_each, symbols_done, symbols_done_each, symbols_declared, symbols_one_declared, symbols_items, symbols_defined, symbols_one_defined, symbols_started, at, meaning, labels_in_scope, procedures_in_scope, place_after_one_defined, scope_after_one, place_after_one, scope_after, place_after_all, unless, used_at, gone_to, at_most, addressed, assigned, prefixed, depth_named, pushed, chosen_at, defaulted_at, single_at, its_meaning, manifest_items, static_items, global_items, reported, reported_each, reported_destinations, reported_done, reported_done_each, reported_declared, reported_one_declared, reported_defined, reported_one_defined, reported_started}
use Rattle.bk_scope.proofs.Tied.{Spans, both, among, wider}
use Rattle.bk_scope.proofs.Scopes.{no_span, pushed_spans}
use Rattle.bk_scope.proofs.Procedures.{one_spans, each_spans, procedure_spans}
use Rattle.bk_scope.proofs.Constants.{at_spans, unless_spans, when_spans, whole_spans, each_constant_spans}

-- an expression has a symbol
pub has_symbol : (e : Expression) → 1 ≤ symbols e
has_symbol (name l x) = omega arith
has_symbol _ = omega arith

-- nothing stands anywhere
pub nothing_spans : (n m : ℕ) → n ≤ m → Spans n m []
nothing_spans n m h = wider n m (no_span n) (omega arith) h

pub meaning_spans : (n : ℕ) (y : Option Bound) → Spans n n (its_meaning y)
meaning_spans n None = record { inside = tt }
meaning_spans n (Some b) = record { inside = tt }

variable_spans : (b : Bool) (n l j d : ℕ) (w : Wrong) → Spans n (n + 1) (cond b (meaning (Variable j d) ∷ []) (at n l w))
variable_spans true n l j d w = record { inside = tt }
variable_spans false n l j d w = at_spans n l w

label_spans : (b : Bool) (n l j d : ℕ) (w : Wrong) → Spans n (n + 1) (cond b (meaning (Label j d) ∷ []) (at n l w))
label_spans true n l j d w = record { inside = tt }
label_spans false n l j d w = at_spans n l w

pub used_spans : (k n l : ℕ) (x : List ℕ) (y : Option Bound) → Spans n (n + 1) (used_at k n l x y)
used_spans k n l x None = at_spans n l _
used_spans k n l x (Some (Variable j d)) = variable_spans (j == k) n l j d (dynamic_name (text_of x))
used_spans k n l x (Some (Label j m)) = at_spans n l _
used_spans k n l x (Some _) = record { inside = tt }

pub gone_spans : (k n l : ℕ) (x : List ℕ) (y : Option Bound) → Spans n (n + 1) (gone_to k n l x y)
gone_spans k n l x (Some (Label j m)) = label_spans (j == k) n l j m (label_not_here (text_of x))
gone_spans k n l x (Some (Variable j d)) = among (unless_spans (j == k) n l (dynamic_name (text_of x))) (at_spans n l (label_not_here (text_of x)))
gone_spans k n l x _ = at_spans n l _

unless_depth : (b : Bool) (n d : ℕ) (p : Enclosing) → Spans n n (unless b (pushed p d))
unless_depth true n d p = record { inside = tt }
unless_depth false n d p = record { inside = tt }

pub depth_spans : (r : Role) (n : ℕ) (p : Enclosing) (y : Option Bound) → Spans n n (depth_named r p y)
depth_spans (Destination b l) n p y = unless_depth (has_address y) n 1 p
depth_spans _ n p y = record { inside = tt }

pub most_spans : (most n l : ℕ) (w : Wrong) (v : Option ℕ) → Spans n (n + 1) (at_most most n l w v)
most_spans most n l w None = nothing_spans n (n + 1) (omega arith)
most_spans most n l w (Some v) = when_spans (nat_lt most v) n l w

pub prefixed_spans : (f : Prefix) (bs : List Binding) (s : Spot) (e : Expression) → Spans s.place (s.place + 1) (prefixed f bs s e)
prefixed_spans q.Address bs s e = unless_spans (addressed bs e) s.place (at_expression e) not_assignable
prefixed_spans _ bs s e = nothing_spans _ _ (omega arith)

pub chosen_spans : (m : Option ℕ) (n l : ℕ) (v : Option ℕ) → Spans n (n + 1) (chosen_at m n l v)
chosen_spans None n l v = at_spans n l no_switchon
chosen_spans (Some m) n l None = nothing_spans n (n + 1) (omega arith)
chosen_spans (Some m) n l (Some v) = record { inside = (omega arith, omega arith, tt) }

pub defaulted_spans : (m : Option ℕ) (n l : ℕ) → Spans n (n + 1) (defaulted_at m n l)
defaulted_spans None n l = at_spans n l no_switchon
defaulted_spans (Some m) n l = record { inside = (omega arith, omega arith, tt) }

pub single_spans : (p : Enclosing) (n l : ℕ) (f : Simple) → Spans n (n + 1) (single_at p n l f)
single_spans p n l w.EndCase = unless_spans p.in_switch n l no_switchon
single_spans p n l w.Return = unless_spans p.in_routine n l no_result_or_return
single_spans p n l w.Finish = nothing_spans n (n + 1) (omega arith)
single_spans p n l _ = unless_spans p.in_loop n l no_loop

-- items
pub manifest_spans : (is : Items) (m : ℕ) (bs : List Binding) (k : ℕ) (s : Spot) → Spans s.place (s.place + symbols_items is) (manifest_items m bs k s is)
manifest_spans no_items m bs k s = nothing_spans _ _ (omega arith)
manifest_spans (item l x e is) m bs k s =
    wider _ _ (both (both (one_spans m s.place l x) (whole_spans e bs k (past 1 s)) (omega arith) (omega arith))
    (manifest_spans is m (bind x (Constant (constant_word bs e)) bs) k (after_constant e (past 1 s))) (omega arith) (omega arith)) (omega arith) (omega arith)

pub static_spans : (is : Items) (m : ℕ) (bs : List Binding) (k : ℕ) (s : Spot) → Spans s.place (s.place + symbols_items is) (static_items m bs k s is)
static_spans no_items m bs k s = nothing_spans _ _ (omega arith)
static_spans (item l x e is) m bs k s =
    wider _ _ (both (both (both (one_spans m s.place l x) (whole_spans e bs k (past 1 s)) (omega arith) (omega arith))
    (meaning_spans (s.place + 1 + symbols e) (Some (Static s.number))) (omega arith) (omega arith))
    (static_spans is m bs k (numbered 1 (after_constant e (past 1 s)))) (omega arith) (omega arith)) (omega arith) (omega arith)

pub global_spans : (is : Items) (m : ℕ) (bs : List Binding) (k : ℕ) (s : Spot) → Spans s.place (s.place + symbols_items is) (global_items m bs k s is)
global_spans no_items m bs k s = nothing_spans _ _ (omega arith)
global_spans (item l x e is) m bs k s =
    let end : ℕ = s.place + symbols_items (item l x e is) in
    let one : 1 ≤ symbols e = has_symbol e in
    among (among (among (wider s.place end (one_spans m s.place l x) (omega arith) (omega arith)) (wider s.place end (whole_spans e bs k (past 1 s)) (omega arith) (omega arith)))
    (wider s.place end (most_spans GLOBAL_NUMBER (s.place + 1) (at_expression e) global_out_of_range (constant_word bs e)) (omega arith) (omega arith)))
    (wider s.place end (global_spans is m bs k (after_constant e (past 1 s))) (omega arith) (omega arith))

-- EACH NODE
mutual
  pub inside : (e : Expression) (r : Role) (bs : List Binding) (p : Enclosing) (s : Spot) → Spans s.place (s.place + symbols e) (reported r bs p s e)
  inside (name l x) r bs p s = both (used_spans p.procedure s.place l x (bound_in bs x)) (depth_spans r (s.place + 1) p (bound_in bs x)) (omega arith) (omega arith)
  inside (parens l e) r bs p s = wider _ _ (inside e (parenthesised r) bs p (past 1 s)) (omega arith) (omega arith)
  inside (unary l f e) r bs p s =
      let one : 1 ≤ symbols e = has_symbol e in
      wider _ _ (among (wider (s.place + 1) (s.place + 1 + symbols e) (prefixed_spans f bs (past 1 s) e) (omega arith) (omega arith)) (inside e (role_of_operand f r e) bs p (past 1 s))) (omega arith) (omega arith)
  inside (binary l f m a b) r bs p s =
      wider _ _ (both (inside a (role_of_operands f r) bs p s) (inside b (role_of_operands f r) bs (place_of_second f r p) (past 1 (following a s))) (omega arith) (omega arith)) (omega arith) (omega arith)
  inside (choice l m c a b) r bs p s =
      let t : Spot = past 1 (following c s) in
      wider _ _ (both (both (inside c Truth bs p s) (inside a Value bs p t) (omega arith) (omega arith)) (inside b Value bs p (following a t)) (omega arith) (omega arith)) (omega arith) (omega arith)
  inside (apply l m e es) r bs p s =
      wider _ _ (both (inside e Value bs (deeper (size es + 2) p) s) (each_inside es 1 bs (deeper 2 p) (past 1 (following e s))) (omega arith) (omega arith)) (omega arith) (omega arith)
  inside (valof l c) r bs p s =
      let u : Spot = onward 1 (1 + length (labels_of c)) s in
      wider _ _ (both (done_inside c (labels_in_scope p.procedure (s.number + 1) (labels_of c) bs) (labelled s.number (valued p)) u) (pushed_spans (u.place + symbols_done c) p 1) (omega arith) (omega arith)) (omega arith) (omega arith)
  inside (table l es) r bs p s =
      wider _ _ (both (each_constant_spans es bs p.procedure (past 1 s)) (pushed_spans (s.place + 1 + symbols_each es) p 1) (omega arith) (omega arith)) (omega arith) (omega arith)
  inside _ r bs p s = wider _ _ (pushed_spans s.place p 1) (omega arith) (omega arith)

  pub each_inside : (es : Expressions) (n : ℕ) (bs : List Binding) (p : Enclosing) (s : Spot) → Spans s.place (s.place + symbols_each es) (reported_each n bs p s es)
  each_inside none n bs p s = nothing_spans _ _ (omega arith)
  each_inside (more e es) n bs p s = wider _ _ (both (inside e Value bs p s) (each_inside es n bs (deeper n p) (following e s)) (omega arith) (omega arith)) (omega arith) (omega arith)

  pub destinations_inside : (es : Expressions) (bs : List Binding) (p : Enclosing) (s : Spot) → Spans s.place (s.place + symbols_each es) (reported_destinations bs p s es)
  destinations_inside none bs p s = nothing_spans _ _ (omega arith)
  destinations_inside (more e es) bs p s =
      let one : 1 ≤ symbols e = has_symbol e in
      let end : ℕ = s.place + (symbols e + symbols_each es) in
      among (among (wider s.place end (unless_spans (assigned bs e) s.place (at_expression e) not_assignable) (omega arith) (omega arith)) (wider s.place end (inside e (Destination false (at_expression e)) bs p s) (omega arith) (omega arith)))
      (wider s.place end (destinations_inside es bs p (following e s)) (omega arith) (omega arith))

  pub done_inside : (c : Command) (bs : List Binding) (p : Enclosing) (s : Spot) → Spans s.place (s.place + symbols_done c) (reported_done bs p s c)
  done_inside empty bs p s = nothing_spans _ _ (omega arith)
  done_inside (assign l xs es) bs p s = wider _ _ (both (destinations_inside xs bs (deeper 1 p) s) (each_inside es 0 bs p (after_each xs s)) (omega arith) (omega arith)) (omega arith) (omega arith)
  done_inside (call l e es) bs p s = wider _ _ (both (inside e Value bs (deeper (size es + 2) p) s) (each_inside es 1 bs (deeper 2 p) (following e s)) (omega arith) (omega arith)) (omega arith) (omega arith)
  done_inside (goto l x) bs p s = gone_spans p.procedure s.place x.at x.letters (bound_in bs x.letters)
  done_inside (label l x c) bs p s =
      wider _ _ (both (both (one_spans p.labels s.place l x) (meaning_spans (s.place + 1) (bound_in bs x)) (omega arith) (omega arith)) (done_inside c bs p (past 1 s)) (omega arith) (omega arith)) (omega arith) (omega arith)
  done_inside (case_of l e c) bs p s =
      wider _ _ (both (both (chosen_spans p.switch s.place l (constant_word bs e)) (whole_spans e bs p.procedure (past 1 s)) (omega arith) (omega arith)) (done_inside c bs p (after_constant e (past 1 s))) (omega arith) (omega arith)) (omega arith) (omega arith)
  done_inside (default l c) bs p s = wider _ _ (both (defaulted_spans p.switch s.place l) (done_inside c bs p (past 1 s)) (omega arith) (omega arith)) (omega arith) (omega arith)
  done_inside (when l b e c) bs p s = wider _ _ (both (inside e Truth bs p s) (done_inside c bs p (following e s)) (omega arith) (omega arith)) (omega arith) (omega arith)
  done_inside (test l e a b) bs p s =
      wider _ _ (both (both (inside e Truth bs p s) (done_inside a bs p (following e s)) (omega arith) (omega arith)) (done_inside b bs p (after_done a (following e s))) (omega arith) (omega arith)) (omega arith) (omega arith)
  done_inside (while l b e c) bs p s = wider _ _ (both (inside e Truth bs p s) (done_inside c bs (looping p) (following e s)) (omega arith) (omega arith)) (omega arith) (omega arith)
  done_inside (for_loop l x a b h c) bs p s =
      let t : Spot = following b (following a s) in
      let u : Spot = onward (symbols_each h) 0 t in
      wider _ _ (both (both (both (both (inside a Value bs p s) (inside b Value bs (deeper 1 p) (following a s)) (omega arith) (omega arith)) (each_constant_spans h bs p.procedure t) (omega arith) (omega arith)) (pushed_spans u.place p 4) (omega arith) (omega arith))
      (done_inside c (labels_in_scope p.procedure (u.number + 1) (labels_of c) (bind x.letters (Variable p.procedure p.depth) bs)) (labelled u.number (looping (deeper 2 p))) (numbered (1 + length (labels_of c)) u)) (omega arith) (omega arith)) (omega arith) (omega arith)
  done_inside (switch l e c) bs p s = wider _ _ (both (inside e Value bs p s) (done_inside c bs (switching (following e s).number p) (numbered 1 (following e s))) (omega arith) (omega arith)) (omega arith) (omega arith)
  done_inside (result l e) bs p s = wider _ _ (both (unless_spans p.in_valof s.place l no_result_or_return) (inside e Value bs p (past 1 s)) (omega arith) (omega arith)) (omega arith) (omega arith)
  done_inside (simple l f) bs p s = single_spans p s.place l f
  done_inside (block l no_declarations cs) bs p s = wider _ _ (each_done_inside cs bs p s) (omega arith) (omega arith)
  done_inside (block l (declare d ds) cs) bs p s =
      let u : Spot = onward (symbols_one_declared d + symbols_declared ds) 0 s in
      let v : Spot = after_declared (declare d ds) s in
      wider _ _ (both (both (one_declared_inside d bs p s) (declared_inside ds (scope_after_one bs p s d) (place_after_one bs p s d) (after_one_declared d s)) (omega arith) (omega arith))
      (each_done_inside cs (labels_in_scope p.procedure (v.number + 1) (labels_of_each cs) (scope_after bs p s (declare d ds))) (labelled v.number (place_after_all bs p s (declare d ds))) (numbered (1 + length (labels_of_each cs)) v)) (omega arith) (omega arith)) (omega arith) (omega arith)
  done_inside (repeat l c) bs p s = done_inside c bs (looping p) s
  done_inside (repeat_while l b c e) bs p s = wider _ _ (both (done_inside c bs (looping p) s) (inside e Truth bs p (after_done c s)) (omega arith) (omega arith)) (omega arith) (omega arith)

  pub each_done_inside : (cs : Commands) (bs : List Binding) (p : Enclosing) (s : Spot) → Spans s.place (s.place + symbols_done_each cs) (reported_done_each bs p s cs)
  each_done_inside no_commands bs p s = nothing_spans _ _ (omega arith)
  each_done_inside (also c cs) bs p s = wider _ _ (both (done_inside c bs p s) (each_done_inside cs bs p (after_done c s)) (omega arith) (omega arith)) (omega arith) (omega arith)

  pub declared_inside : (ds : Declarations) (bs : List Binding) (p : Enclosing) (s : Spot) → Spans s.place (s.place + symbols_declared ds) (reported_declared bs p s ds)
  declared_inside no_declarations bs p s = nothing_spans _ _ (omega arith)
  declared_inside (declare d ds) bs p s =
      wider _ _ (both (one_declared_inside d bs p s) (declared_inside ds (scope_after_one bs p s d) (place_after_one bs p s d) (after_one_declared d s)) (omega arith) (omega arith)) (omega arith) (omega arith)

  pub one_declared_inside : (d : Declaration) (bs : List Binding) (p : Enclosing) (s : Spot) → Spans s.place (s.place + symbols_one_declared d) (reported_one_declared bs p s d)
  one_declared_inside (constants l sort.Manifest is) bs p s = wider _ _ (manifest_spans is s.number bs p.procedure (numbered 1 s)) (omega arith) (omega arith)
  one_declared_inside (constants l sort.Static is) bs p s = wider _ _ (static_spans is s.number bs p.procedure (numbered 1 s)) (omega arith) (omega arith)
  one_declared_inside (constants l sort.Global is) bs p s = wider _ _ (global_spans is s.number bs p.procedure (numbered 1 s)) (omega arith) (omega arith)
  one_declared_inside (definitions l ds) bs p s = wider _ _ (defined_inside ds s.number (procedures_in_scope (s.number + 1) ds bs) p (numbered (1 + procedures_in ds) s)) (omega arith) (omega arith)

  pub defined_inside : (ds : Definitions) (m : ℕ) (bs : List Binding) (p : Enclosing) (s : Spot) → Spans s.place (s.place + symbols_defined ds) (reported_defined m bs p s ds)
  defined_inside no_definitions m bs p s = nothing_spans _ _ (omega arith)
  defined_inside (define d ds) m bs p s = wider _ _ (both (one_defined_inside d m bs p s) (defined_inside ds m bs (place_after_one_defined bs p d) (after_one_defined d s)) (omega arith) (omega arith)) (omega arith) (omega arith)

  pub one_defined_inside : (d : Definition) (m : ℕ) (bs : List Binding) (p : Enclosing) (s : Spot) → Spans s.place (s.place + symbols_one_defined d) (reported_one_defined m bs p s d)
  one_defined_inside (routine l x fs c) m bs p s =
      let u : Spot = onward (1 + length fs) (2 + length (labels_of c)) s in
      procedure_spans m s.number l (symbols_done c) s x fs (bound_in bs x) _
      (wider _ _ (done_inside c (labels_in_scope s.number (s.number + 2) (labels_of c) (with_formals s.number 2 fs bs)) (labelled (s.number + 1) (called true s.number (length fs))) u) (omega arith) (omega arith))
  one_defined_inside (function l x fs e) m bs p s =
      let u : Spot = onward (1 + length fs) 1 s in
      procedure_spans m s.number l (symbols e) s x fs (bound_in bs x) _
      (wider _ _ (inside e Value (with_formals s.number 2 fs bs) (called false s.number (length fs)) u) (omega arith) (omega arith))
  one_defined_inside (variables l xs is) m bs p s = wider _ _ (both (each_spans m s.place xs) (started_inside is bs p (past (length xs) s)) (omega arith) (omega arith)) (omega arith) (omega arith)

  pub started_inside : (is : Starts) (bs : List Binding) (p : Enclosing) (s : Spot) → Spans s.place (s.place + symbols_started is) (reported_started bs p s is)
  started_inside no_starts bs p s = nothing_spans _ _ (omega arith)
  started_inside (value e is) bs p s = wider _ _ (both (inside e Value bs p s) (started_inside is bs (deeper 1 p) (following e s)) (omega arith) (omega arith)) (omega arith) (omega arith)
  started_inside (vector l e is) bs p s =
      let one : 1 ≤ symbols e = has_symbol e in
      let end : ℕ = s.place + (symbols e + symbols_started is) in
      among (among (among (wider s.place end (whole_spans e bs p.procedure s) (omega arith) (omega arith)) (wider s.place end (most_spans VEC_NUMBER s.place (at_expression e) vec_out_of_range (constant_word bs e)) (omega arith) (omega arith)))
      (wider s.place end (pushed_spans s.place p (words_of_start bs e + 1)) (omega arith) (omega arith)))
      (wider s.place end (started_inside is bs (deeper (words_of_start bs e + 1) p) (after_constant e s)) (omega arith) (omega arith))

pub destination_inside : (e : Expression) (bs : List Binding) (p : Enclosing) (s : Spot) → Spans s.place (s.place + symbols e) (unless (assigned bs e) (at s.place (at_expression e) not_assignable) ++ reported (Destination false (at_expression e)) bs p s e)
destination_inside e bs p s = grind (arith, symbols, has_symbol, wider, assigned, inside)
