-- What is found as one goes through a section in the source's order.
use Rattle.std.specs.Prelude.{ℕ, ◌+◌, ◌%◌, ◌^◌, ◌==◌, max, Bool, true, false, cond, Option, Some, None, List, [], ◌∷◌, ◌++◌}
use Rattle.std.specs.Str.{bytes_eq}
use Rattle.bk_scope.specs.declared.bound.Bound.{Bound}
use Rattle.bk_scope.specs.Wrong.{Breach, Wrong}
use Rattle.bk_scope.specs.Places.{kept}

-- What may be claimed once: a name in a list of names, a word by the CASEs of a SWITCHON, its DEFAULT, and a global by the
-- procedures that set it. Each list and each SWITCHON has a number.
pub data Claim : Type 0 where
  naming : ℕ → List ℕ → Claim
  choosing : ℕ → ℕ → Claim
  defaulting : ℕ → Claim
  setting : ℕ → Claim

abbrev pub same_claim : Claim → Claim → Bool
same_claim (naming n x) (naming m y) = cond (n == m) (bytes_eq x y) false
same_claim (choosing n w) (choosing m v) = cond (n == m) (w == v) false
same_claim (defaulting n) (defaulting m) = n == m
same_claim (setting g) (setting h) = g == h
same_claim _ _ = false

abbrev pub is_claimed : Claim → List Claim → Bool
is_claimed c [] = false
is_claimed c (d ∷ ds) = cond (same_claim c d) true (is_claimed c ds)

-- the first of some breaches, and of two
abbrev pub first_of : List Breach → Option Breach
first_of [] = None
first_of (b ∷ bs) = Some b

abbrev pub else_first : Option Breach → Option Breach → Option Breach
else_first None y = y
else_first (Some b) y = Some b

pub record Found : Type 0 where
  -- what is wrong first, if anything is
  pub first : Option Breach
  -- what was claimed
  pub claims : List Claim
  -- what each name that is used means, those of procedures at their definitions among them
  pub meanings : List Bound
  -- the word of each constant
  pub words : List ℕ
  -- the number that is next
  pub next : ℕ
  -- the greatest depth of the procedure's frame
  pub deepest : ℕ

abbrev pub breaks_first : Option Breach → Found → Found
breaks_first b f = record { first = else_first f.first b; claims = f.claims; meanings = f.meanings; words = f.words; next = f.next; deepest = f.deepest }

abbrev pub breaks : ℕ → Wrong → Found → Found
breaks l w f = breaks_first (Some (record { at = l; wrong = w })) f

abbrev pub claims_new : Claim → Found → Found
claims_new c f = record { first = f.first; claims = c ∷ f.claims; meanings = f.meanings; words = f.words; next = f.next; deepest = f.deepest }

-- a second claim is wrong there
abbrev pub claims_once : Claim → ℕ → Wrong → Found → Found
claims_once c l w f = cond (is_claimed c f.claims) (breaks l w f) (claims_new c f)

abbrev pub means : Bound → Found → Found
means b f = record { first = f.first; claims = f.claims; meanings = f.meanings ++ (b ∷ []); words = f.words; next = f.next; deepest = f.deepest }

abbrev pub holds : Option ℕ → Found → Found
holds None f = f
holds (Some w) f = record { first = f.first; claims = f.claims; meanings = f.meanings; words = f.words ++ (w ∷ []); next = f.next; deepest = f.deepest }

-- The number after this one. Numbers are words; a section within the limits does not come to the last of them.
abbrev pub number_after : ℕ → ℕ
number_after n = (n + 1) % 2 ^ 32

-- takes a number
abbrev pub takes : Found → Found
takes f = record { first = f.first; claims = f.claims; meanings = f.meanings; words = f.words; next = number_after f.next; deepest = f.deepest }

abbrev pub reaches : ℕ → Found → Found
reaches d f = record { first = f.first; claims = f.claims; meanings = f.meanings; words = f.words; next = f.next; deepest = max f.deepest (kept d) }

-- a frame that begins with so many words, and nothing found wrong
abbrev pub opens : ℕ → Found → Found
opens d f = record { first = None; claims = f.claims; meanings = f.meanings; words = f.words; next = f.next; deepest = d }

-- What was found in a procedure, with what is wrong with its frame before it, and after what was wrong before; and how deep
-- the frame around was.
abbrev pub following : Option Breach → ℕ → Option Breach → Found → Found
following before deepest frame g = record { first = else_first before (else_first frame g.first); claims = g.claims; meanings = g.meanings; words = g.words; next = g.next; deepest = deepest }
