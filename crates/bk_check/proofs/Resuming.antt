-- Frames, resumed: where one was pushed, it goes on with what is asked for.
use Rattle.bk_check.proofs.Terms.{◌≡◌, ℕ, ◌+◌, Bool, List, [], ◌∷◌, ◌++◌, Option, Some, None, IfSome, Result, Ok, Err, IfOk, refl, ap, sym, ◌∙◌, arith, Expression, Environment, objects, past, Value, World, Outcome, gives, leaves, Done, closing, Program, Target, Next, OnValue, Continuation, Bytes, Given, a_value, a_truth, a_target, done_tag, tag, value_goes, truth_goes, target_goes, done_goes, returned, resume, resumed, Comes, OnValue as v, OnTruth, OnTruth as o, OnTarget, OnTarget as a, OnDone, OnDone as d, Continuation as f}
use Rattle.bk_check.specs.declared.frame.Call.{Call}

pub resumed-push : (p : Program) (fs : List Continuation) (f : Continuation) (u : Outcome Given) → resumed p (fs ++ f ∷ []) u ≡ resumed p fs (resume p f u)
unfolding resumed
resumed-push p [] f u = refl
resumed-push p (g ∷ fs) f u = ap (resume p g) (resumed-push p fs f u)

pushed : (p : Program) (fs gs : List Continuation) (f : Continuation) (u v : Outcome Given) → gs ≡ fs ++ f ∷ [] → resume p f u ≡ v → resumed p gs u ≡ resumed p fs v
pushed p fs gs f u v is e = ap (λ xs. resumed p xs u) is ∙ resumed-push p fs f u ∙ ap (resumed p fs) e

by_value : (p : Program) (g : OnValue) (u : Outcome Value) → resume p (f.Value g) (tag a_value u) ≡ value_goes p g u
by_value p (v.Contents l) (leaves x w) = refl
by_value p g (gives v w) = refl
by_value p y z = refl

pub pushed_value : (p : Program) (fs gs : List Continuation) (g : OnValue) (u : Outcome Value) → gs ≡ fs ++ f.Value g ∷ [] → resumed p gs (tag a_value u) ≡ resumed p fs (value_goes p g u)
pushed_value p fs gs g u is = pushed p fs gs (f.Value g) _ _ is (by_value p g u)

by_truth : (p : Program) (g : OnTruth) (u : Outcome Bool) → resume p (f.Truth g) (tag a_truth u) ≡ truth_goes p g u
by_truth p o.Not (leaves x w) = refl
by_truth p g (gives v w) = refl
by_truth p y z = refl

pub pushed_truth : (p : Program) (fs gs : List Continuation) (g : OnTruth) (u : Outcome Bool) → gs ≡ fs ++ f.Truth g ∷ [] → resumed p gs (tag a_truth u) ≡ resumed p fs (truth_goes p g u)
pushed_truth p fs gs g u is = pushed p fs gs (f.Truth g) _ _ is (by_truth p g u)

by_target : (p : Program) (g : OnTarget) (u : Outcome Target) → resume p (f.Target g) (tag a_target u) ≡ target_goes p g u
by_target p (a.Address l) (leaves x w) = refl
by_target p g (gives v w) = refl
by_target p y z = refl

pub pushed_target : (p : Program) (fs gs : List Continuation) (g : OnTarget) (u : Outcome Target) → gs ≡ fs ++ f.Target g ∷ [] → resumed p gs (tag a_target u) ≡ resumed p fs (target_goes p g u)
pushed_target p fs gs g u is = pushed p fs gs (f.Target g) _ _ is (by_target p g u)

by_done : (p : Program) (g : OnDone) (u : Outcome Done) → resume p (f.Done g) (tag done_tag u) ≡ done_goes p g u
by_done p d.Body (leaves x w) = refl
by_done p g (gives v w) = refl
by_done p y z = refl

pub pushed_done : (p : Program) (fs gs : List Continuation) (g : OnDone) (u : Outcome Done) → gs ≡ fs ++ f.Done g ∷ [] → resumed p gs (tag done_tag u) ≡ resumed p fs (done_goes p g u)
pushed_done p fs gs g u is = pushed p fs gs (f.Done g) _ _ is (by_done p g u)

by_return : (p : Program) (c : Call) (u : Outcome Value) → resume p (f.Returned c) (tag a_value u) ≡ tag a_value (returned c.at c.calls u)
by_return p c (gives v w) = refl
by_return p c _ = refl

pub pushed_return : (p : Program) (fs gs : List Continuation) (c : Call) (u : Outcome Value) → gs ≡ fs ++ f.Returned c ∷ [] → resumed p gs (tag a_value u) ≡ resumed p fs (tag a_value (returned c.at c.calls u))
pushed_return p fs gs c u is = pushed p fs gs (f.Returned c) _ _ is (by_return p c u)

value_closes : (p : Program) (n : ℕ) (u : Outcome Value) → resume p (f.Closing n) (tag a_value u) ≡ tag a_value (closing n u)
value_closes p n (gives v w) = refl
value_closes p n _ = refl

pub pushed_closing_value : (p : Program) (fs gs : List Continuation) (n : ℕ) (u : Outcome Value) → gs ≡ fs ++ f.Closing n ∷ [] → resumed p gs (tag a_value u) ≡ resumed p fs (tag a_value (closing n u))
pushed_closing_value p fs gs n u is = pushed p fs gs (f.Closing n) _ _ is (value_closes p n u)

done_closes : (p : Program) (n : ℕ) (u : Outcome Done) → resume p (f.Closing n) (tag done_tag u) ≡ tag done_tag (closing n u)
done_closes p n (gives v w) = refl
done_closes p n _ = refl

pub pushed_closing : (p : Program) (fs gs : List Continuation) (n : ℕ) (u : Outcome Done) → gs ≡ fs ++ f.Closing n ∷ [] → resumed p gs (tag done_tag u) ≡ resumed p fs (tag done_tag (closing n u))
pushed_closing p fs gs n u is = pushed p fs gs (f.Closing n) _ _ is (done_closes p n u)

-- what was popped goes on
pub popped : (p : Program) (fs gs : List Continuation) (f : Continuation) (u : Outcome Given) → gs ≡ fs ++ f ∷ [] → resumed p fs (resume p f u) ≡ resumed p gs u
popped p fs gs f u is = sym (pushed p fs gs f u (resume p f u) is refl)

-- what holds of what is there
pub some_map : {A : Type 0} (P Q : A → Type 0) (o : Option A) → ((x : A) → P x → Q x) → IfSome o P → IfSome o Q
some_map P Q None f h = tt
some_map P Q (Some x) f h = f x h

-- after an expression in which nothing lasts
pub past_none : (e : Expression) (env : Environment) → objects e ≡ 0 → past e env ≡ env
past_none e env none = ap (λ (n : ℕ). record env { next = n }) (let same : env.next + objects e ≡ env.next = omega (arith, none) in same)

-- a step that comes to this comes to what is the same
pub meets : {E : Type 0} (r : Result Next E) (fs : List Continuation) (there : Bytes → World) (u v : Program → Bytes → Outcome Given) → ((p : Program) (b : Bytes) → u p b ≡ v p b) → IfOk r (λ next. (p : Program) (b : Bytes) → Comes p fs next (there b) (u p b)) → IfOk r (λ next. (p : Program) (b : Bytes) → Comes p fs next (there b) (v p b))
meets (Ok next) fs there u v e h = λ p b. h p b ∙ e p b
meets (Err x) fs there u v e h = h

-- the same of the program that runs
pub meets_in : {E : Type 0} (p : Program) (r : Result Next E) (fs : List Continuation) (there : Bytes → World) (u v : Bytes → Outcome Given) → ((b : Bytes) → u b ≡ v b) → IfOk r (λ next. (b : Bytes) → Comes p fs next (there b) (u b)) → IfOk r (λ next. (b : Bytes) → Comes p fs next (there b) (v b))
meets_in p (Ok next) fs there u v e h = λ b. h b ∙ e b
meets_in p (Err x) fs there u v e h = h

-- a step that comes to this in each program
pub meets_for : {E : Type 0} (p : Program) (r : Result Next E) (fs : List Continuation) (there : Bytes → World) (u : Program → Bytes → Outcome Given) (v : Bytes → Outcome Given) → ((b : Bytes) → u p b ≡ v b) → IfOk r (λ next. (p : Program) (b : Bytes) → Comes p fs next (there b) (u p b)) → IfOk r (λ next. (b : Bytes) → Comes p fs next (there b) (v b))
meets_for p (Ok next) fs there u v e h = λ b. h p b ∙ e b
meets_for p (Err x) fs there u v e h = h

-- the same of a step that comes to this at each line
pub meets_at : {E : Type 0} (r : Result Next E) (fs : List Continuation) (there : Bytes → World) (u : Program → Bytes → ℕ → Outcome Given) (v : Program → Bytes → Outcome Given) (l : ℕ) → ((p : Program) (b : Bytes) → u p b l ≡ v p b) → IfOk r (λ next. (p : Program) (b : Bytes) (l : ℕ) → Comes p fs next (there b) (u p b l)) → IfOk r (λ next. (p : Program) (b : Bytes) → Comes p fs next (there b) (v p b))
meets_at (Ok next) fs there u v l e h = λ p b. h p b l ∙ e p b
meets_at (Err x) fs there u v l e h = h

-- and of one that comes to this wherever it is
pub meets_each : {E : Type 0} (r : Result Next E) (fs : List Continuation) (there : Bytes → World) (u : Program → Bytes → Outcome Given) (v : Program → Bytes → ℕ → Outcome Given) → ((p : Program) (b : Bytes) (l : ℕ) → u p b ≡ v p b l) → IfOk r (λ next. (p : Program) (b : Bytes) → Comes p fs next (there b) (u p b)) → IfOk r (λ next. (p : Program) (b : Bytes) (l : ℕ) → Comes p fs next (there b) (v p b l))
meets_each (Ok next) fs there u v e h = λ p b l. h p b ∙ e p b l
meets_each (Err x) fs there u v e h = h
