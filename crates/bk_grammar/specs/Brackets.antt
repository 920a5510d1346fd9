-- Section brackets: a `$)` with a tag means as many plain closings as sections are open, up to and with the
-- innermost open one of that tag. The tag clause fails at a tag that is not open, and at a `$)` without a tag where the
-- innermost open section has one.
use Rattle.std.specs.Prelude.{ℕ, Bool, true, false, Option, Some, None, cond, ◌==◌, List, [], ◌∷◌, ◌++◌}
use Rattle.bk_lex.specs.declared.token.Kind.{Kind}
use Rattle.bk_lex.specs.declared.token.Kind.TheVariants as k
use Rattle.bk_lex.specs.Symbol.{Symbol}
use Rattle.bk_grammar.specs.Spelling.{tag_of}

abbrev pub same_tag : List ℕ → List ℕ → Bool
same_tag [] [] = true
same_tag [] (y ∷ ys) = false
same_tag (x ∷ xs) [] = false
same_tag (x ∷ xs) (y ∷ ys) = cond (x == y) (same_tag xs ys) false

-- what a `$)` makes of the open sections, the innermost first: the plain closings, and the sections still open
pub record Closing : Type 0 where
  pub closings : List Symbol
  pub still : List (List ℕ)

abbrev pub one_more : Symbol → Option Closing → Option Closing
one_more t None = None
one_more t (Some c) = Some (record { closings = t ∷ c.closings; still = c.still })

-- up to and with the innermost of this tag
abbrev pub up_to_tag : Symbol → List ℕ → List (List ℕ) → Option Closing
up_to_tag t tag [] = None
up_to_tag t tag (x ∷ opens) = cond (same_tag tag x) (Some (record { closings = t ∷ []; still = opens })) (one_more t (up_to_tag t tag opens))

-- without a tag: one closing, which no open section bears out where nothing is open
abbrev pub without_tag : Symbol → List (List ℕ) → Option Closing
without_tag t [] = Some (record { closings = t ∷ []; still = [] })
without_tag t ([] ∷ opens) = Some (record { closings = t ∷ []; still = opens })
without_tag t ((x ∷ xs) ∷ opens) = None

abbrev pub closed_by : Symbol → List ℕ → List (List ℕ) → Option Closing
closed_by t [] opens = without_tag t opens
closed_by t (x ∷ xs) opens = up_to_tag t (x ∷ xs) opens

abbrev pub in_front : List Symbol → Option (List Symbol) → Option (List Symbol)
in_front ts None = None
in_front ts (Some us) = Some (ts ++ us)

abbrev pub plain_after : (List (List ℕ) → Option (List Symbol)) → Option Closing → Option (List Symbol)
plain_after rest None = None
plain_after rest (Some c) = in_front c.closings (rest c.still)

abbrev pub plain_by : Symbol → Kind → (List (List ℕ) → Option (List Symbol)) → List (List ℕ) → Option (List Symbol)
plain_by t k.SectionOpen rest opens = in_front (t ∷ []) (rest (tag_of t.text ∷ opens))
plain_by t k.SectionClose rest opens = plain_after rest (closed_by t (tag_of t.text) opens)
plain_by t _ rest opens = in_front (t ∷ []) (rest opens)

-- the list with plain closings, where these sections are open; None where the tag clause fails
unfoldable pub plain : List Symbol → List (List ℕ) → Option (List Symbol)
plain [] opens = Some []
plain (t ∷ ts) opens = plain_by t t.kind (plain ts) opens
