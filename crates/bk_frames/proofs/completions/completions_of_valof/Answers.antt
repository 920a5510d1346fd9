use Rattle.bk_frames.proofs.Terms.{◌≡◌, Bool, true, false, refl, sym, subst, Completions, Three, AreKept, completions_of_valof}
use Rattle.bk_frames.proofs.completions.completions_of_valof.Goals as goal

as_known : (t u : Bool) (x : Completions) → t ≡ u → AreKept x (completions_of_valof u) → AreKept x (completions_of_valof t)
as_known t u x e h = let P : Bool → Type 0 = λ z. AreKept x (completions_of_valof z) in subst P (sym e) h

pub returns-then-tight_below : goal.returns-then-tight_below
returns-then-tight_below c = as_known c.args.tight_below true (Three c.node-ended.result c.deep-called.result c.node-operated.result) c.if-tight_below.true (c.node-ended.ensures 0 0 0 refl refl, c.deep-called.ensures 0 0 refl, c.node-operated.ensures 0 0 0 refl refl)

pub returns : goal.returns
returns c = as_known c.args.tight_below false (Three c.node-ended.result c.deep-called.result c.deep-operated.result) c.if-tight_below.false (c.node-ended.ensures 0 0 0 refl refl, c.deep-called.ensures 0 0 refl, c.deep-operated.ensures 0 0 refl)
