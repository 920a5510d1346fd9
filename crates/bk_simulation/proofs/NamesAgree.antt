-- Names that mean the same constants and the same globals in the run and in scope, and one such name more.
use Rattle.bk_simulation.proofs.Words.{◌≡◌, ℕ, ◌<◌, Bool, true, false, List, ◌∷◌, Option, Some, None, cond, ap, arith, bytes_eq, Bound, Binding, bound_in, bind, named_word, Named, Sense, cell, sense_in, word_named, global_named}
use Rattle.bk_scope.specs.declared.bound.Bound.TheVariants as b
use Rattle.bk_simulation.proofs.OperatorWords.{not_zero}

-- the same constants
abbrev pub AgreeWords : List Named → List Binding → Type 0
AgreeWords ns bs = (x : List ℕ) → word_named (sense_in ns x) ≡ named_word (bound_in bs x)

-- the global that a name means
abbrev pub global_of : Option Bound → Option ℕ
global_of (Some (b.Global (Some k))) = Some k
global_of _ = None

-- the same global; a global in scope has a number
abbrev pub SameGlobal : Option Sense → Option Bound → Type 0
SameGlobal s (Some (b.Global (Some n))) = global_named s ≡ Some n
SameGlobal s (Some (b.Global None)) = ⊥
SameGlobal s _ = global_named s ≡ None

abbrev pub AgreeGlobals : List Named → List Binding → Type 0
AgreeGlobals ns bs = (x : List ℕ) → SameGlobal (sense_in ns x) (bound_in bs x)

abbrev pub Agree : List Named → List Binding → Type 0
Agree ns bs = AgreeWords ns bs × AgreeGlobals ns bs

pub same_global : (s : Option Sense) (y : Option Bound) → SameGlobal s y → global_named s ≡ global_of y
same_global s (Some (b.Global None)) h = absurd h
same_global s _ h = h

-- the cells of other objects are no globals
pub own_cell : (o i : ℕ) → 0 < o → global_named (Some (cell o i)) ≡ None
own_cell o i h = ap (λ (q : Bool). cond q (Some i) None) (not_zero o (λ e. let k : o ≡ 0 = e in omega (arith, h, k)))

-- one name more
pub agree_bound : (x : List ℕ) (s : Sense) (y : Bound) (ns : List Named) (bs : List Binding) → word_named (Some s) ≡ named_word (Some y) → SameGlobal (Some s) (Some y) → Agree ns bs
    → Agree (record { name = x; sense = s } ∷ ns) (bind x y bs)
agree_bound x s y ns bs w g a = ((λ z. words z (bytes_eq x z)), (λ z. globals z (bytes_eq x z)))
  where
    words : (z : List ℕ) (q : Bool) → word_named (cond q (Some s) (sense_in ns z)) ≡ named_word (cond q (Some y) (bound_in bs z))
    words z true = w
    words z false = a.0 z

    globals : (z : List ℕ) (q : Bool) → SameGlobal (cond q (Some s) (sense_in ns z)) (cond q (Some y) (bound_in bs z))
    globals z true = g
    globals z false = a.1 z
