-- A fault stands with section tags too.
use Rattle.bk_syntax.proofs.Terms.{◌≡◌, ℕ, List, [], ◌∷◌, ◌++◌, Option, Some, None, Err, refl, sym, ap, subst, ◌∙◌, append_assoc, Kind, Symbol, Declarations, tag_of, Section, plain, plain_by, plain_after, in_front, closed_by, Closing, IsSection, reading, Kind as k}
use Rattle.bk_syntax.proofs.Applies.{fault_stands}

-- one list of plain symbols goes on from another
abbrev pub GoesOn : Option (List Symbol) → Option (List Symbol) → Type 0
GoesOn None b = b ≡ None
GoesOn (Some ps) None = Unit {0}
GoesOn (Some ps) (Some qs) = (rs : List Symbol) × (qs ≡ ps ++ rs)

in_front_goes : (ts : List Symbol) (a b : Option (List Symbol)) → GoesOn a b → GoesOn (in_front ts a) (in_front ts b)
in_front_goes ts None b h = ap (in_front ts) h
in_front_goes ts (Some ps) None h = tt
in_front_goes ts (Some ps) (Some qs) h = (h.0, ap (λ z. ts ++ z) h.1 ∙ sym (append_assoc ts ps h.0))

behind_goes : (c : Option Closing) (f g : List (List ℕ) → Option (List Symbol)) → ((opens : List (List ℕ)) → GoesOn (f opens) (g opens)) → GoesOn (plain_after f c) (plain_after g c)
behind_goes None f g h = refl
behind_goes (Some c) f g h = in_front_goes c.closings (f c.still) (g c.still) (h c.still)

by_goes : (t : Symbol) (kind : Kind) (f g : List (List ℕ) → Option (List Symbol)) (opens : List (List ℕ)) → ((os : List (List ℕ)) → GoesOn (f os) (g os)) → GoesOn (plain_by t kind f opens) (plain_by t kind g opens)
by_goes t k.SectionOpen f g opens h = in_front_goes (t ∷ []) (f (tag_of t.text ∷ opens)) (g (tag_of t.text ∷ opens)) (h (tag_of t.text ∷ opens))
by_goes t k.SectionClose f g opens h = behind_goes (closed_by t (tag_of t.text) opens) f g h
by_goes t _ f g opens h = in_front_goes (t ∷ []) (f opens) (g opens) (h opens)

from_nothing : (b : Option (List Symbol)) → GoesOn (Some []) b
from_nothing None = tt
from_nothing (Some qs) = (qs, refl)

pub plain_goes : (ts us : List Symbol) (opens : List (List ℕ)) → GoesOn (plain ts opens) (plain (ts ++ us) opens)
unfolding plain
plain_goes [] us opens = from_nothing (plain us opens)
plain_goes (t ∷ ts) us opens = by_goes t t.kind (plain ts) (plain (ts ++ us)) opens (plain_goes ts us)

-- where the tag clause fails, no section goes on
pub tag_stands : (ts us : List Symbol) (ds : Declarations) → plain ts [] ≡ None → IsSection ds (ts ++ us) → ⊥
tag_stands ts us ds h is =
    let P : Option (List Symbol) → Type 0 = λ z. GoesOn z (plain (ts ++ us) []) in
    let e : plain (ts ++ us) [] ≡ None = subst P h (plain_goes ts us []) in let b = is.brackets in absurd cc

some_goes : (ps qs : List Symbol) (b : Option (List Symbol)) → b ≡ Some qs → GoesOn (Some ps) b → (rs : List Symbol) × (qs ≡ ps ++ rs)
some_goes ps qs None e h = absurd cc
some_goes ps qs (Some os) e h = let same : os ≡ qs = cc in (h.0, sym same ∙ h.1)

-- where the machine stops at a plain symbol, no section goes on
pub symbol_stands : (ts : List Symbol) (u : List Symbol) (t : Symbol) (v : List Symbol) → plain ts [] ≡ Some (u ++ t ∷ v) → reading (u ++ t ∷ v) ≡ Err (t ∷ v)
    → (us : List Symbol) (ds : Declarations) → IsSection ds (ts ++ us) → ⊥
symbol_stands ts u t v is stops us ds h =
    let P : Option (List Symbol) → Type 0 = λ z. GoesOn z (plain (ts ++ us) []) in
    let r = some_goes (u ++ t ∷ v) h.plainly (plain (ts ++ us) []) h.brackets (subst P is (plain_goes ts us [])) in
    let Q : List Symbol → Type 0 = λ z. Section ds z in
    fault_stands u t v stops (v ++ r.0) ds (subst Q (r.1 ∙ append_assoc u (t ∷ v) r.0) h.section)
