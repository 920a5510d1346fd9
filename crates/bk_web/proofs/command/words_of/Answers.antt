use Rattle.std.proofs.Common.{rules, arith, ◌≡◌, ◌∙◌, ◌==◌, List, [], ◌∷◌, ◌++◌, ℕ, Bool, false, Bor, All, map, length, ap, sym, append_assoc, append-nil}
use Rattle.std.specs.List.{position_or_len, slice_split}
use Rattle.std.proofs.lemmas.Grind.{common_steps}
use Rattle.std.proofs.lemmas.List.{map-append}
use Rattle.std.proofs.lemmas.List.Splits.{slice_split_first, slice_split_none}
use Rattle.std.proofs.lemmas.List.Sums.{fails_before_first}
use Rattle.bk_web.specs.Page.{texts_of}
use Rattle.bk_web.proofs.command.words_of.Goals as goal

-- a word more
text_before : (words : List (Bor (List ℕ))) (word : Bor (List ℕ)) (parts : List (List ℕ)) (rest : List (List ℕ)) (all : List (List ℕ))
    → all ≡ map (λ w. w.now) words ++ parts → parts ≡ word.now ∷ rest → all ≡ map (λ w. w.now) (words ++ word ∷ []) ++ rest
text_before words word parts rest all is first =
    is ∙ ap (λ l. map (λ w. w.now) words ++ l) first ∙ sym (append_assoc (map (λ w. w.now) words) (word.now ∷ []) rest)
    ∙ ap (λ l. l ++ rest) (sym (map-append (λ w. w.now) words (word ∷ [])))

-- a text without a line feed is one word
one_text : (p : ℕ → Bool) (xs : List ℕ) → position_or_len p xs ≡ length xs → slice_split p xs ≡ xs ∷ []
one_text p xs none =
    let all : All (λ x. p x ≡ false) xs = λ k e m. let fails = fails_before_first p xs k e (grind (arith, common_steps)) in grind (arith, common_steps) in
    slice_split_none p xs all

pub loop-word-preserved : goal.loop-word-preserved
loop-word-preserved c =
    let cut = c.in-Some.ensures.byte (omega arith) (λ w o finds. finds) in
    let first : texts_of c.loop-word.rest.now ≡ c.in-Some.word.now ∷ texts_of c.in-Some.others.now =
    slice_split_first (λ b. b == 10) c.loop-word.rest.now 0 cut.2 ∙ (λ i. sym cut.0 i ∷ texts_of (sym cut.1 i)) in
    (search rules, rw c.in_ok-push.ensures.items (text_before c.loop-word.words.items c.in-Some.word _ _ _ c.loop-word.invariant.1 first))

pub returns : goal.returns
returns c =
    let none = c.in_default.ensures.byte (omega arith) (λ w o finds. finds) in
    let last : texts_of c.loop-word.rest.now ≡ c.loop-word.rest.now ∷ [] = one_text (λ b. b == 10) c.loop-word.rest.now none in
    let all = text_before c.loop-word.words.items c.loop-word.rest _ [] _ c.loop-word.invariant.1 last in
    rw c.in_ok-push-2.ensures.items (sym (all ∙ append-nil _))
