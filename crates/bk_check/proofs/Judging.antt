-- Expressions that are judged by their value.
use Rattle.std.proofs.Common.{◌≡◌, ◌≢◌, ℕ, refl, Box}
use Rattle.std.specs.Global.{Global}
use Rattle.bk_tree.specs.Tree.{binary, unary}
use Rattle.bk_tree.specs.declared.tree.Expr.{Expr}
use Rattle.bk_tree.specs.declared.tree.Expr.TheVariants as e
use Rattle.bk_tree.specs.declared.tree.Operator.{Operator}
use Rattle.bk_tree.specs.declared.tree.Operator.TheVariants as o
use Rattle.bk_tree.specs.declared.tree.Prefix.{Prefix}
use Rattle.bk_tree.specs.declared.tree.Prefix.TheVariants as pre
use Rattle.bk_meaning.specs.Expressions.{judged}
use Rattle.bk_check.proofs.Terms.{Expression, expression, Environment, World, Program, with, value_of, truth_of, acts_at, full}

pub by_operator : (p : Program) (l : ℕ) (q : Operator) (i : ℕ) (a b : Expression) (env : Environment) (w : World) → q ≢ o.Both → q ≢ o.Either
    → with (value_of p (full p) (binary l q i a b) env w) (judged i) ≡ truth_of p (full p) (binary l q i a b) env w
by_operator p l o.Both i a b env w both either = absurd (both refl)
by_operator p l o.Either i a b env w both either = absurd (either refl)
by_operator p l q i a b env w both either = refl

pub by_value : (p : Program) (x : Expr) (env : Environment) (w : World) → ((l : ℕ) (d : Box Expr Global) → x ≢ e.Parens l d)
    → ((l : ℕ) (q : Prefix) (d : Box Expr Global) → x ≢ e.Unary l q d) → ((l : ℕ) (q : Operator) (i : ℕ) (a b : Box Expr Global) → x ≢ e.Binary l q i a b)
    → with (value_of p (full p) (expression x) env w) (judged (acts_at (expression x))) ≡ truth_of p (full p) (expression x) env w
by_value p (e.Parens' l r y) env w f g h = absurd (f l (record { ptr = r.ptr; alloc = r.alloc; value = y }) refl)
by_value p (e.Unary' l q r y) env w f g h = absurd (g l q (record { ptr = r.ptr; alloc = r.alloc; value = y }) refl)
by_value p (e.Binary' l q i r y s z) env w f g h = absurd (h l q i (record { ptr = r.ptr; alloc = r.alloc; value = y }) (record { ptr = s.ptr; alloc = s.alloc; value = z }) refl)
by_value p x env w f g h = refl

prefix_judged : (p : Program) (l : ℕ) (r : Prefix) (a : Expression) (env : Environment) (w : World) → r ≢ pre.Not
    → with (value_of p (full p) (unary l r a) env w) (judged l) ≡ truth_of p (full p) (unary l r a) env w
prefix_judged p l pre.Not a env w f = absurd (f refl)
prefix_judged p l r a env w f = refl

pub by_prefix : (p : Program) (x : Expr) (l : ℕ) (r : Prefix) (d : Box Expr Global) (env : Environment) (w : World) → x ≡ e.Unary l r d → r ≢ pre.Not
    → with (value_of p (full p) (expression x) env w) (judged (acts_at (expression x))) ≡ truth_of p (full p) (expression x) env w
by_prefix p x l r d env w is f = rw is (prefix_judged p l r (expression d.value) env w f)
