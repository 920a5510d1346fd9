-- What the words of a whole text say, from what was taken of it.
use Rattle.bk_ocode.proofs.Terms.{◌≡◌, inl, inr, ℕ, ◌<◌, ◌++◌, Bool, IsTrue, List, [], Option, Some, None, Result, Ok, Err, length, refl, sym, ◌∙◌, subst, append_assoc, Consumes, NothingLeft, INPUT_BYTES, OcodeFault, OcodeKind, Refused, Fault, Memory, Device, AtEnd, words_of, words_of-all, words_of-ended, known, nothing_left_at, section_words, stmts_of, CutAt, Saying, section, nothing, fault, Says, Ocode, Stmt}
use Rattle.bk_ocode.specs.SectionAnswer.{Takes, GivesSection, GivesNothing, GivesFault, Answers, AnswersWords, Applies, AppliesWhateverFollows}

section_says : (all taken left : List ℕ) (end : Type 0) (stmts : List Stmt) → all ≡ taken ++ left → GivesSection taken end stmts → (end → left ≡ []) → Says (section stmts) (words_of all)
section_says all taken left end stmts is s over = (words_of left, s.0, s.1, words_of-all all taken left end (section_words stmts) is s.2 over)

nothing_says : (all taken left : List ℕ) (end : Type 0) → all ≡ taken ++ left → GivesNothing taken end → (end → left ≡ []) → Says nothing (words_of all)
nothing_says all taken left end is s over = words_of-ended all taken left is (over s.1) ∙ s.0

fault_says : (all taken left : List ℕ) (end : Type 0) (number : ℕ) (kind : OcodeKind) → all ≡ taken ++ left → GivesFault taken end number kind → (end → left ≡ []) → Says (fault number kind) (words_of all)
fault_says all taken left end number kind is (inl s) over = inl (record {
  before = s.before;
  begun = s.begun;
  part = s.part;
  rest = words_of left;
  are = words_of-all all taken left end (section_words s.before ++ s.part) is s.are over ∙ append_assoc (section_words s.before) s.part (words_of left);
  place = s.place;
  fault = s.fault;
})
fault_says all taken left end number kind is (inr s) over = inr (s.0, subst (λ (w : List (List ℕ)). CutAt w number) (sym (words_of-ended all taken left is (over s.1))) s.2)

-- what the bytes taken say stands whatever follows
stands_for : (old new : Option (List ℕ)) (ended : Bool) (what : List ℕ → Type 0 → Type 0) (so : List ℕ → List ℕ → Type 0) →
    ((taken more : List ℕ) (end : Type 0) → what taken end → (end → more ≡ []) → so taken more) → Takes old new ended what →
    Takes old new ended (λ taken end. (more : List ℕ) → (end → more ≡ []) → so taken more)
stands_for old new ended what so each t = (t.0, t.1, λ more over. each t.0 more (AtEnd ended (length t.0)) t.2 over)

pub answer_stands : (old new : Option (List ℕ)) (ended : Bool) (result : Result (Option Ocode) (Refused OcodeFault)) → Answers result old new ended → AppliesWhateverFollows result old new ended
answer_stands old new ended (Ok (Some read)) t = stands_for old new ended (λ taken end. GivesSection taken end (stmts_of read)) (Applies (Ok (Some read)))
    (λ taken more end given over. words_of-all (taken ++ more) taken more end (section_words (stmts_of read)) refl given.2 over) t
answer_stands old new ended (Ok None) t = stands_for old new ended GivesNothing (Applies (Ok None))
    (λ taken more end given over. nothing_says (taken ++ more) taken more end refl given over) t
answer_stands old new ended (Err (Fault f)) t = stands_for old new ended (λ taken end. GivesFault taken end f.statement f.kind) (Applies (Err (Fault f)))
    (λ taken more end given over. fault_says (taken ++ more) taken more end f.statement f.kind refl given over) t
answer_stands old new ended (Err Memory) t = tt
answer_stands old new ended (Err Device) t = tt

module _ (old new : Option (List ℕ)) (ended : Bool) (all : List ℕ) (is : old ≡ Some all) (short : length all < INPUT_BYTES) (reported : IsTrue ended → NothingLeft new) where
  taken_says : (what : List ℕ → Type 0 → Type 0) (say : Saying) → ((taken left : List ℕ) (end : Type 0) → all ≡ taken ++ left → what taken end → (end → left ≡ []) → Says say (words_of all)) → Takes old new ended what → Says say (words_of all)
  taken_says what say so t =
      let k = known all new t.0 (subst (λ (o : Option (List ℕ)). Consumes o new t.0) is t.1) in
      so t.0 k.0 (AtEnd ended (length t.0)) k.2 t.2 (nothing_left_at all t.0 k.0 new ended short k.2 k.1 reported)

  pub answer_says : (result : Result (Option Ocode) (Refused OcodeFault)) → Answers result old new ended → AnswersWords result (words_of all)
  answer_says (Ok (Some read)) t = taken_says (λ taken end. GivesSection taken end (stmts_of read)) (section (stmts_of read)) (λ taken left end. section_says all taken left end (stmts_of read)) t
  answer_says (Ok None) t = taken_says GivesNothing nothing (λ taken left end. nothing_says all taken left end) t
  answer_says (Err (Fault f)) t = taken_says (λ taken end. GivesFault taken end f.statement f.kind) (fault f.statement f.kind) (λ taken left end. fault_says all taken left end f.statement f.kind) t
  answer_says (Err Memory) t = tt
  answer_says (Err Device) t = tt
