-- A source has one list of trees.
use Rattle.bk_filters.proofs.Terms.{◌≡◌, ℕ, false, List, [], ◌∷◌, ◌++◌, sym, ap, ap₂, ◌∙◌, subst, append_assoc, Symbol, Section, Declarations, Means, Accepted, WholeSection, bytes_of, trees_of, line_following, AreAccepted, HasTrees}
use Rattle.bk_syntax.proofs.Lemmas.{one_tree}
use Rattle.bk_filters.proofs.SourceSectionLemmas.{one_section, following, differ}

-- symbols have one tree, or none
one_meaning : (symbols : List Symbol) (trees others : List Declarations) → Means symbols trees → Means symbols others → trees ≡ others
one_meaning [] trees others first second = first ∙ sym second
one_meaning (symbol ∷ symbols) trees others first second =
    first.2 ∙ ap (λ (d : Declarations). d ∷ []) (one_tree first.0 second.0 (symbol ∷ symbols) first.1.section second.1.section) ∙ sym second.2

-- so has the first section of a text
accepted_once : (text : List ℕ) (line : ℕ) (s t : Section) (trees others : List Declarations) → Accepted text line s trees → Accepted text line t others → trees ≡ others
accepted_once text line s t trees others first second =
    let same = one_section text line s t trees others first second in
    one_meaning t.symbols trees others (subst (λ (u : Section). Means u.symbols trees) same first.means) second.means

module _ (p q : List ℕ) (last other : Section) (trees others : List Declarations) (at_end : last.ended ≡ false) (other_at_end : other.ended ≡ false) where
  same_trees : (line : ℕ) (xs ys : List WholeSection) → bytes_of xs ++ p ≡ bytes_of ys ++ q → AreAccepted line xs p → AreAccepted line ys q
      → Accepted p (line_following line xs) last trees → Accepted q (line_following line ys) other others → trees_of xs ++ trees ≡ trees_of ys ++ others
  same_trees line [] [] is first second accepts accepts_other =
      accepted_once q line last other trees others (subst (λ t. Accepted t line last trees) is accepts) accepts_other
  same_trees line [] (y ∷ ys) is first second accepts accepts_other =
      let whole = is ∙ append_assoc y.bytes (bytes_of ys) q in
      absurd (differ last y.tokens (one_section (y.bytes ++ (bytes_of ys ++ q)) line last y.tokens trees y.trees (subst (λ t. Accepted t line last trees) whole accepts) second.0) at_end second.1)
  same_trees line (x ∷ xs) [] is first second accepts accepts_other =
      let whole = sym is ∙ append_assoc x.bytes (bytes_of xs) p in
      absurd (differ other x.tokens (one_section (x.bytes ++ (bytes_of xs ++ p)) line other x.tokens others x.trees (subst (λ t. Accepted t line other others) whole accepts_other) first.0) other_at_end first.1)
  same_trees line (x ∷ xs) (y ∷ ys) is first second accepts accepts_other =
      let whole = sym (append_assoc x.bytes (bytes_of xs) p) ∙ is ∙ append_assoc y.bytes (bytes_of ys) q in
      let here = subst (λ t. Accepted t line x.tokens x.trees) whole first.0 in
      let same = one_section (y.bytes ++ (bytes_of ys ++ q)) line x.tokens y.tokens x.trees y.trees here second.0 in
      let as_long = sym first.2 ∙ ap (λ (u : Section). u.used) same ∙ second.2 in
      let one_line = ap (λ (u : Section). u.line) same in
      let rest = same_trees y.tokens.line xs ys (following x.bytes y.bytes (bytes_of xs ++ p) (bytes_of ys ++ q) as_long whole)
      (subst (λ l. AreAccepted l xs p) one_line first.3) second.3
      (subst (λ l. Accepted p (line_following l xs) last trees) one_line accepts) accepts_other in
      append_assoc x.trees (trees_of xs) trees
      ∙ ap₂ (λ (a b : List Declarations). a ++ b) (accepted_once (y.bytes ++ (bytes_of ys ++ q)) line x.tokens y.tokens x.trees y.trees here second.0) rest
      ∙ sym (append_assoc y.trees (trees_of ys) others)

pub one_list_of_trees : (source : List ℕ) (trees others : List Declarations) → HasTrees source trees → HasTrees source others → trees ≡ others
one_list_of_trees source trees others has also =
    has.all
    ∙ same_trees has.part also.part has.last also.last has.last_trees also.last_trees has.at_end also.at_end 1 has.sections also.sections (sym has.whole ∙ also.whole) has.accepted also.accepted has.accepts also.accepts
    ∙ sym also.all
