-- The pass and what is told: commands.
use Rattle.bk_scope.proofs.Terms.{◌≡◌, ℕ, ◌+◌, ◌==◌, Bool, true, false, cond, Option, Some, None, List, [], ◌∷◌, ◌++◌, length, refl, sym, ap, ◌∙◌, subst, arith, append-nil, Simple, Simple as w, Mention, Expression, Expressions, Command, Commands, empty, assign, call, goto, label, case_of, default, when, test, while, for_loop, result, simple, block, repeat, repeat_while, no_commands, also, no_declarations, size, Bound, Constant, Global, Static, Variable, Label, Enclosing, Value, Truth, Binding, bound_in, bind, Wrong, text_of, case_repeated, default_repeated, dynamic_name, label_not_here, no_loop, no_switchon, no_result_or_return, constant_word, wrongs, Found, choosing, defaulting, is_claimed, else_first, first_of, breaks_first, breaks, claims_new, holds, reaches, deeper, looping, labelled, Stage, labels_of, evaluated, destinations, done, reached, listed, named_as, switched, chosen, defaulted, single, constant_found, constants_found, Spot, onward, past, numbered, following, after_each, after_done, after_constant, symbols_each, numbers, numbers_each, numbers_done, at, word, claim, in_order, first_reported, labels_in_scope, unless, gone_to, chosen_at, defaulted_at, single_at, its_meaning, one_of, its_word, constant, each_constant, pushed, reported, reported_destinations, reported_done}
use Rattle.bk_scope.proofs.Worded.{no_wrong}
use Rattle.bk_scope.proofs.Tied.{Tied, Spans, broken, both, wider, behind_it, else_none, nothing_told}
use Rattle.bk_scope.proofs.Operators.{ETied, EsTied, CTied}
use Rattle.bk_scope.proofs.Scopes.{CsTied, moved, moved_tied, recount, no_span, labels_taken, pushed_tied, pushed_spans}
use Rattle.bk_scope.proofs.Procedures.{claim_tied, listed_tied, one_spans}
use Rattle.bk_scope.proofs.Constants.{lower_one, constant_right, constant_tied, whole_spans, unless_spans, each_constant_tied, each_constant_spans}
use Rattle.bk_scope.proofs.Standing.{inside, each_inside, destinations_inside, done_inside, each_done_inside, meaning_spans, chosen_spans, defaulted_spans}
use Rattle.bk_scope.proofs.Expressions.{DestinationsTied, meant, meant_or_wrong}

-- a name's own meaning
pub named_tied : (y : Option Bound) (f : Found) → Tied (its_meaning y) 0 f (named_as y f)
named_tied None f = nothing_told f
named_tied (Some b) f = meant b f

-- where a GOTO goes
elsewhere_first : (q : Bool) (n l : ℕ) (x : List ℕ) (f : Found) → Tied (unless q (at n l (dynamic_name (text_of x))) ++ at n l (label_not_here (text_of x))) 0 f (cond q (breaks l (label_not_here (text_of x)) f) (breaks l (dynamic_name (text_of x)) f))
elsewhere_first true n l x f = broken n l f
elsewhere_first false n l x f = record {
  first = ap (else_first f.first) (sym (lower_one n l l (dynamic_name (text_of x)) (label_not_here (text_of x)) f.claims refl));
  claims = refl;
  meanings = sym (append-nil f.meanings);
  words = sym (append-nil f.words);
  next = omega arith;
  deepest = refl;
}

gone_tied : (k n l : ℕ) (x : List ℕ) (y : Option Bound) (f : Found) → Tied (gone_to k n l x y) 0 f (reached k l x y f)
gone_tied k n l x (Some (Label j m)) f = meant_or_wrong (j == k) (Label j m) n l (label_not_here (text_of x)) f
gone_tied k n l x (Some (Variable j d)) f = elsewhere_first (j == k) n l x f
gone_tied k n l x _ f = broken n l f

unless_broken : (q : Bool) (n l : ℕ) (v : Wrong) (f : Found) → Tied (unless q (at n l v)) 0 f (cond q f (breaks l v f))
unless_broken true n l v f = nothing_told f
unless_broken false n l v f = broken n l f

single_tied : (p : Enclosing) (n l : ℕ) (k : Simple) (f : Found) → Tied (single_at p n l k) 0 f (single p l k f)
single_tied p n l w.EndCase f = unless_broken p.in_switch n l no_switchon f
single_tied p n l w.Return f = unless_broken p.in_routine n l no_result_or_return f
single_tied p n l w.Finish f = nothing_told f
single_tied p n l _ f = unless_broken p.in_loop n l no_loop f

defaulted_tied : (m : Option ℕ) (n l : ℕ) (f : Found) → Tied (defaulted_at m n l) 0 f (defaulted m l (switched m l f))
defaulted_tied None n l f = broken n l f
defaulted_tied (Some m) n l f = claim_tied (defaulting m) (record { place = n; at = l; wrong = default_repeated }) f

-- The head of a CASE. The pass claims its word behind the constant, which is not wrong where it has a word.
chosen_or_repeated : (q : Bool) (n l m v : ℕ) (f : Found) → is_claimed (choosing m v) f.claims ≡ q
    → Tied (claim (choosing m v) (record { place = n; at = l; wrong = case_repeated }) ∷ word v ∷ []) 0 f
    (cond q (breaks l case_repeated (holds (Some v) (breaks_first None f))) (claims_new (choosing m v) (holds (Some v) (breaks_first None f))))
chosen_or_repeated true n l m v f e = rw-claimed where
  rw-claimed : Tied (claim (choosing m v) (record { place = n; at = l; wrong = case_repeated }) ∷ word v ∷ []) 0 f (breaks l case_repeated (holds (Some v) (breaks_first None f)))
  rw-claimed = record {
    first = ap (λ c. else_first c (Some (record { at = l; wrong = case_repeated }))) (else_none f.first) ∙ ap (λ c. else_first f.first (first_reported (in_order (cond c (record { place = n; at = l; wrong = case_repeated } ∷ []) [] ++ [])))) (sym e);
    claims = ap (λ c. cond c f.claims (choosing m v ∷ f.claims)) (sym e);
    meanings = sym (append-nil f.meanings);
    words = refl;
    next = omega arith;
    deepest = refl;
  }
chosen_or_repeated false n l m v f e = record {
  first = ap (λ c. else_first f.first (first_reported (in_order (cond c (record { place = n; at = l; wrong = case_repeated } ∷ []) [] ++ [])))) (sym e);
  claims = ap (λ c. cond c f.claims (choosing m v ∷ f.claims)) (sym e);
  meanings = sym (append-nil f.meanings);
  words = refl;
  next = omega arith;
  deepest = refl;
}

case_head : (e : Expression) (m : Option ℕ) (y : Option ℕ) (l : ℕ) (bs : List Binding) (k : ℕ) (s : Spot) (f : Found) → constant_word bs e ≡ y
    → Tied (chosen_at m s.place l y ++ constant bs k (past 1 s) e) 0 f (chosen m l y (constant_found bs k e (switched m l f)))
case_head e None y l bs k s f a =
    recount 0 (behind_it (chosen_spans None s.place l y) (whole_spans e bs k (past 1 s)) (omega arith) (broken s.place l f) (constant_tied e bs k (past 1 s) (breaks l no_switchon f))) (omega arith)
case_head e (Some m) None l bs k s f a = constant_tied e bs k (past 1 s) f
case_head e (Some m) (Some v) l bs k s f a =
    subst (λ xs. Tied (chosen_at (Some m) s.place l (Some v) ++ (xs ++ its_word (constant_word bs e))) 0 f (chosen (Some m) l (Some v) (constant_found bs k e f))) (sym (constant_right e bs k (past 1 s) v a))
    (subst (λ y. Tied (chosen_at (Some m) s.place l (Some v) ++ its_word y) 0 f (chosen (Some m) l (Some v) (holds y (breaks_first (first_of (wrongs bs k e)) f)))) (sym a)
    (subst (λ us. Tied (chosen_at (Some m) s.place l (Some v) ++ its_word (Some v)) 0 f (chosen (Some m) l (Some v) (holds (Some v) (breaks_first (first_of us) f)))) (sym (no_wrong bs k e v a))
    (chosen_or_repeated (is_claimed (choosing m v) f.claims) s.place l m v f refl)))

-- COMMANDS
pub empty_tied : CTied empty
empty_tied bs p s f e fits = nothing_told f

pub assign_tied : (l : ℕ) (xs es : Expressions) → DestinationsTied xs → EsTied es → CTied (assign l xs es)
assign_tied l xs es t u bs p s f e fits =
    let one : Tied (reported_destinations bs (deeper 1 p) s xs) (numbers_each xs) f (destinations bs (deeper 1 p) xs f) = t bs (deeper 1 p) s f e (omega (arith, fits)) in
    behind_it (destinations_inside xs bs (deeper 1 p) s) (each_inside es 0 bs p (after_each xs s)) (omega arith) one (u 0 bs p (after_each xs s) (destinations bs (deeper 1 p) xs f) (omega (arith, one.next, e)) (omega (arith, fits)))

pub routine_call_tied : (l : ℕ) (e : Expression) (es : Expressions) → ETied e → EsTied es → CTied (call l e es)
routine_call_tied l e es t u bs p s f a fits =
    let w : Enclosing = deeper (size es + 2) p in
    let g : Found = evaluated Value bs w e f in
    let one : Tied (reported Value bs w s e) (numbers e) f g = t Value tt bs w s f a (omega (arith, fits)) in
    behind_it (inside e Value bs w s) (each_inside es 1 bs (deeper 2 p) (following e s)) (omega arith) one (u 1 bs (deeper 2 p) (following e s) g (omega (arith, one.next, a)) (omega (arith, fits)))

pub goto_tied : (l : ℕ) (x : Mention) → CTied (goto l x)
goto_tied l x bs p s f e fits = gone_tied p.procedure s.place x.at x.letters (bound_in bs x.letters) f

pub label_tied : (l : ℕ) (x : List ℕ) (c : Command) → CTied c → CTied (label l x c)
label_tied l x c t bs p s f e fits =
    let g : Found = listed p.labels l x f in
    let h : Found = named_as (bound_in bs x) g in
    let head : Tied (one_of p.labels s.place l x ++ its_meaning (bound_in bs x)) 0 f h = recount 0 (behind_it (one_spans p.labels s.place l x) (meaning_spans (s.place + 1) (bound_in bs x)) (omega arith) (listed_tied p.labels s.place l x f) (named_tied (bound_in bs x) g)) (omega arith) in
    recount (numbers_done c) (behind_it (both (one_spans p.labels s.place l x) (meaning_spans (s.place + 1) (bound_in bs x)) (omega arith) (omega arith)) (done_inside c bs p (past 1 s)) (omega arith) head (t bs p (past 1 s) h (omega (arith, head.next, e)) (omega (arith, fits)))) (omega arith)

pub case_tied : (l : ℕ) (e : Expression) (c : Command) → CTied c → CTied (case_of l e c)
case_tied l e c t bs p s f a fits =
    let h : Found = chosen p.switch l (constant_word bs e) (constant_found bs p.procedure e (switched p.switch l f)) in
    let head : Tied (chosen_at p.switch s.place l (constant_word bs e) ++ constant bs p.procedure (past 1 s) e) 0 f h = case_head e p.switch (constant_word bs e) l bs p.procedure s f refl in
    let u : Spot = after_constant e (past 1 s) in
    recount (numbers_done c) (behind_it (both (chosen_spans p.switch s.place l (constant_word bs e)) (whole_spans e bs p.procedure (past 1 s)) (omega arith) (omega arith)) (done_inside c bs p u) (omega arith) head (t bs p u h (omega (arith, head.next, a)) (omega (arith, fits)))) (omega arith)

pub default_tied : (l : ℕ) (c : Command) → CTied c → CTied (default l c)
default_tied l c t bs p s f e fits =
    let h : Found = defaulted p.switch l (switched p.switch l f) in
    let head : Tied (defaulted_at p.switch s.place l) 0 f h = defaulted_tied p.switch s.place l f in
    recount (numbers_done c) (behind_it (defaulted_spans p.switch s.place l) (done_inside c bs p (past 1 s)) (omega arith) head (t bs p (past 1 s) h (omega (arith, head.next, e)) (omega (arith, fits)))) (omega arith)

pub when_tied : (l : ℕ) (b : Bool) (e : Expression) (c : Command) → ETied e → CTied c → CTied (when l b e c)
when_tied l b e c t u bs p s f a fits =
    let one : Tied (reported Truth bs p s e) (numbers e) f (evaluated Truth bs p e f) = t Truth tt bs p s f a (omega (arith, fits)) in
    behind_it (inside e Truth bs p s) (done_inside c bs p (following e s)) (omega arith) one (u bs p (following e s) (evaluated Truth bs p e f) (omega (arith, one.next, a)) (omega (arith, fits)))

pub test_tied : (l : ℕ) (e : Expression) (c d : Command) → ETied e → CTied c → CTied d → CTied (test l e c d)
test_tied l e c d t u v bs p s f a fits =
    let g : Found = evaluated Truth bs p e f in
    let h : Found = done bs p c g in
    let i : Spot = after_done c (following e s) in
    let one : Tied (reported Truth bs p s e) (numbers e) f g = t Truth tt bs p s f a (omega (arith, fits)) in
    let two : Tied (reported_done bs p (following e s) c) (numbers_done c) g h = u bs p (following e s) g (omega (arith, one.next, a)) (omega (arith, fits)) in
    recount _ (behind_it (both (inside e Truth bs p s) (done_inside c bs p (following e s)) (omega arith) (omega arith)) (done_inside d bs p i) (omega arith)
    (behind_it (inside e Truth bs p s) (done_inside c bs p (following e s)) (omega arith) one two) (v bs p i h (omega (arith, one.next, two.next, a)) (omega (arith, fits)))) (omega arith)

pub while_tied : (l : ℕ) (b : Bool) (e : Expression) (c : Command) → ETied e → CTied c → CTied (while l b e c)
while_tied l b e c t u bs p s f a fits =
    let one : Tied (reported Truth bs p s e) (numbers e) f (evaluated Truth bs p e f) = t Truth tt bs p s f a (omega (arith, fits)) in
    behind_it (inside e Truth bs p s) (done_inside c bs (looping p) (following e s)) (omega arith) one (u bs (looping p) (following e s) (evaluated Truth bs p e f) (omega (arith, one.next, a)) (omega (arith, fits)))

pub for_tied : (l : ℕ) (x : Mention) (a b : Expression) (h : Expressions) (c : Command) → ETied a → ETied b → CTied c → CTied (for_loop l x a b h c)
for_tied l x a b h c ta tb tc bs p s f e fits =
    let f1 : Found = evaluated Value bs p a f in
    let f2 : Found = evaluated Value bs (deeper 1 p) b f1 in
    let f3 : Found = constants_found bs p.procedure h f2 in
    let g : Found = reaches (p.depth + 4) f3 in
    let v : Spot = following b (following a s) in
    let u : Spot = onward (symbols_each h) 0 v in
    let L : ℕ = length (labels_of c) in
    let zs : List Binding = bind x.letters (Variable p.procedure p.depth) bs in
    let one : Tied (reported Value bs p s a) (numbers a) f f1 = ta Value tt bs p s f e (omega (arith, fits)) in
    let two : Tied (reported Value bs (deeper 1 p) (following a s) b) (numbers b) f1 f2 = tb Value tt bs (deeper 1 p) (following a s) f1 (omega (arith, one.next, e)) (omega (arith, fits)) in
    let head : Tied (reported Value bs p s a ++ reported Value bs (deeper 1 p) (following a s) b) (numbers a + numbers b) f f2 = behind_it (inside a Value bs p s) (inside b Value bs (deeper 1 p) (following a s)) (omega arith) one two in
    let head_spans : Spans s.place v.place (reported Value bs p s a ++ reported Value bs (deeper 1 p) (following a s) b) = wider _ _ (both (inside a Value bs p s) (inside b Value bs (deeper 1 p) (following a s)) (omega arith) (omega arith)) (omega arith) (omega arith) in
    let step_spans : Spans v.place u.place (each_constant bs p.procedure v h) = each_constant_spans h bs p.procedure v in
    let start : Tied (reported Value bs p s a ++ reported Value bs (deeper 1 p) (following a s) b ++ each_constant bs p.procedure v h ++ pushed p 4) (((numbers a + numbers b) + 0) + 0) f g =
    behind_it (both head_spans step_spans (omega arith) (omega arith)) (pushed_spans u.place p 4) (omega arith)
    (behind_it head_spans step_spans (omega arith) head (each_constant_tied h bs p.procedure v f2)) (pushed_tied p 4 f3) in
    let same : g.next ≡ u.number = omega (arith, start.next, e) in
    let q : Enclosing = labelled u.number (looping (deeper 2 p)) in
    let xs : List Binding = labels_in_scope p.procedure (u.number + 1) (labels_of c) zs in
    let g' : Found = moved ((g.next + 1) + L) g in
    let i : Spot = numbered (1 + L) u in
    let body : Tied (reported_done xs q i c) (numbers_done c) g' (done xs q c g') = tc xs q i g' (omega (arith, same)) (omega (arith, fits)) in
    let start_spans : Spans s.place u.place (reported Value bs p s a ++ reported Value bs (deeper 1 p) (following a s) b ++ each_constant bs p.procedure v h ++ pushed p 4) = both (both head_spans step_spans (omega arith) (omega arith)) (pushed_spans u.place p 4) (omega arith) (omega arith) in
    let all : Tied (reported_done bs p s (for_loop l x a b h c)) (numbers_done (for_loop l x a b h c)) f (done xs q c g') =
    recount _ (behind_it start_spans (done_inside c xs q i) (omega arith) start (behind_it (no_span u.place) (done_inside c xs q i) (omega arith) (moved_tied (1 + L) g'.next g (omega arith)) body)) (omega arith) in
    let T : Found → Type 0 = Tied (reported_done bs p s (for_loop l x a b h c)) (numbers_done (for_loop l x a b h c)) f in
    subst (λ (t : Stage). T (done t.scope (labelled g.next (looping (deeper 2 p))) c t.found)) (sym (labels_taken p.procedure (labels_of c) zs g (omega (arith, same, fits))))
    (subst (λ n. T (done (labels_in_scope p.procedure (n + 1) (labels_of c) zs) (labelled n (looping (deeper 2 p))) c g')) (sym same) all)

pub result_tied : (l : ℕ) (e : Expression) → ETied e → CTied (result l e)
result_tied l e t bs p s f a fits =
    let g : Found = cond p.in_valof f (breaks l no_result_or_return f) in
    let one : Tied (unless p.in_valof (at s.place l no_result_or_return)) 0 f g = unless_broken p.in_valof s.place l no_result_or_return f in
    recount (numbers e) (behind_it (unless_spans p.in_valof s.place l no_result_or_return) (inside e Value bs p (past 1 s)) (omega arith) one (t Value tt bs p (past 1 s) g (omega (arith, one.next, a)) (omega (arith, fits)))) (omega arith)

pub simple_tied : (l : ℕ) (k : Simple) → CTied (simple l k)
simple_tied l k bs p s f e fits = single_tied p s.place l k f

pub bare_tied : (l : ℕ) (cs : Commands) → CsTied cs → CTied (block l no_declarations cs)
bare_tied l cs t bs p s f e fits = t bs p s f e fits

pub repeat_tied : (l : ℕ) (c : Command) → CTied c → CTied (repeat l c)
repeat_tied l c t bs p s f e fits = t bs (looping p) s f e fits

pub repeat_while_tied : (l : ℕ) (b : Bool) (c : Command) (e : Expression) → CTied c → ETied e → CTied (repeat_while l b c e)
repeat_while_tied l b c e t u bs p s f a fits =
    let g : Found = done bs (looping p) c f in
    let one : Tied (reported_done bs (looping p) s c) (numbers_done c) f g = t bs (looping p) s f a (omega (arith, fits)) in
    behind_it (done_inside c bs (looping p) s) (inside e Truth bs p (after_done c s)) (omega arith) one (u Truth tt bs p (after_done c s) g (omega (arith, one.next, a)) (omega (arith, fits)))

pub no_commands_tied : CsTied no_commands
no_commands_tied bs p s f e fits = nothing_told f

pub also_tied : (c : Command) (cs : Commands) → CTied c → CsTied cs → CsTied (also c cs)
also_tied c cs t u bs p s f e fits =
    let one : Tied (reported_done bs p s c) (numbers_done c) f (done bs p c f) = t bs p s f e (omega (arith, fits)) in
    behind_it (done_inside c bs p s) (each_done_inside cs bs p (after_done c s)) (omega arith) one (u bs p (after_done c s) (done bs p c f) (omega (arith, one.next, e)) (omega (arith, fits)))
