-- A source that is refused is not accepted.
use Rattle.bk_filters.proofs.Terms.{◌≡◌, ℕ, true, false, List, [], ◌∷◌, ◌++◌, length, refl, sym, ap, ◌∙◌, subst, append_assoc, SourceFault, Section, section_is_lexed, Declarations, AreBytes, HasTrees, IsRefused, MeaningRefuses}
use Rattle.bk_filters.specs.Sources.{Accepted, Refused, WholeSection, bytes_of, trees_of, line_following, AreAccepted}

-- the first section of a text is one
pub one_section : (text : List ℕ) (line : ℕ) (s t : Section) (trees others : List Declarations) → Accepted text line s trees → Accepted text line t others → s ≡ t
one_section text line s t trees others first second =
    let both = sym (section_is_lexed text line s first.tokens) ∙ section_is_lexed text line t second.tokens in cc

-- what stands behind parts of one length
pub following : (a b x y : List ℕ) → length a ≡ length b → a ++ x ≡ b ++ y → x ≡ y
following [] [] x y as_long is = is
following [] (d ∷ b) x y as_long is = absurd cc
following (c ∷ a) [] x y as_long is = absurd cc
following (c ∷ a) (d ∷ b) x y as_long is =
    let shorter : length a ≡ length b = cc in
    let rest : a ++ x ≡ b ++ y = cc in
    following a b x y shorter rest

pub differ : (s t : Section) → s ≡ t → s.ended ≡ false → t.ended ≡ true → ⊥
differ s t is open_end ended = let same : true ≡ false = sym ended ∙ sym (ap (λ (u : Section). u.ended) is) ∙ open_end in cc

module _ (fault : SourceFault) (p q : List ℕ) (last : Section) (trees : List Declarations) (at_end : last.ended ≡ false) where
  not_both : (line : ℕ) (xs ys : List WholeSection) → bytes_of xs ++ p ≡ bytes_of ys ++ q → AreAccepted line xs p → AreAccepted line ys q
      → Accepted p (line_following line xs) last trees → Refused fault q (line_following line ys) → ⊥
  not_both line [] [] is first second accepts refused = refused.not_accepted last trees (subst (λ t. Accepted t line last trees) is accepts)
  not_both line [] (y ∷ ys) is first second accepts refused =
      let whole = is ∙ append_assoc y.bytes (bytes_of ys) q in
      differ last y.tokens (one_section (y.bytes ++ (bytes_of ys ++ q)) line last y.tokens trees y.trees (subst (λ t. Accepted t line last trees) whole accepts) second.0) at_end second.1
  not_both line (x ∷ xs) [] is first second accepts refused =
      let whole = sym (append_assoc x.bytes (bytes_of xs) p) ∙ is in
      refused.not_accepted x.tokens x.trees (subst (λ t. Accepted t line x.tokens x.trees) whole first.0)
  not_both line (x ∷ xs) (y ∷ ys) is first second accepts refused =
      let whole = sym (append_assoc x.bytes (bytes_of xs) p) ∙ is ∙ append_assoc y.bytes (bytes_of ys) q in
      let same = one_section (y.bytes ++ (bytes_of ys ++ q)) line x.tokens y.tokens x.trees y.trees (subst (λ t. Accepted t line x.tokens x.trees) whole first.0) second.0 in
      let as_long = sym first.2 ∙ ap (λ (u : Section). u.used) same ∙ second.2 in
      let one_line = ap (λ (u : Section). u.line) same in
      not_both y.tokens.line xs ys (following x.bytes y.bytes (bytes_of xs ++ p) (bytes_of ys ++ q) as_long whole)
      (subst (λ l. AreAccepted l xs p) one_line first.3) second.3
      (subst (λ l. Accepted p (line_following l xs) last trees) one_line accepts) refused

pub refused_not_accepted : (source : List ℕ) (fault : SourceFault) (trees : List Declarations) → IsRefused source fault → HasTrees source trees → ⊥
refused_not_accepted source fault trees refused has =
    not_both fault has.part refused.part has.last has.last_trees has.at_end 1 has.sections refused.sections (sym has.whole ∙ refused.whole) has.accepted refused.accepted has.accepts refused.refused

-- so its fault answers it
pub meaning_refuses : MeaningRefuses
meaning_refuses source fault steps words streams refused =
    (refused, (λ has. refused_not_accepted source fault has.0 refused has.1), refl)

-- ---- of a source of which sections were delivered, and then a part of the last, whatever follows

module _ (sections : List WholeSection) (part rest : List ℕ) (accepted : AreAccepted 1 sections (part ++ rest)) where
  pub has_delivered : (last : Section) (trees : List Declarations) → AreBytes ((bytes_of sections ++ part) ++ rest) → Accepted (part ++ rest) (line_following 1 sections) last trees → last.ended ≡ false
      → HasTrees ((bytes_of sections ++ part) ++ rest) (trees_of sections ++ trees)
  has_delivered last trees bytes accepts at_end = record {
    bytes = bytes;
    sections = sections;
    part = part ++ rest;
    whole = append_assoc (bytes_of sections) part rest;
    accepted = accepted;
    last = last;
    last_trees = trees;
    accepts = accepts;
    at_end = at_end;
    all = refl;
  }

  pub refused_delivered : (fault : SourceFault) → Refused fault (part ++ rest) (line_following 1 sections) → IsRefused ((bytes_of sections ++ part) ++ rest) fault
  refused_delivered fault refused = record {
    sections = sections;
    part = part ++ rest;
    whole = append_assoc (bytes_of sections) part rest;
    accepted = accepted;
    refused = refused;
  }
