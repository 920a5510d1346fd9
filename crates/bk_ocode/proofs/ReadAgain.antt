-- What is printed is read again.
use Rattle.bk_ocode.proofs.Terms.{◌≡◌, ℕ, ◌++◌, List, [], ◌∷◌, Some, None, Ok, Err, refl, sym, ap, ◌∙◌, append_assoc, OcodeKind, Fault, Memory, Device, words_of, section_text, section_words, stmts_of, section, nothing, fault, texts_of, words_of_all, PrintedIsParted, PrintedAreParted, PrintedSaysAgain, PrintedIsReadAgain, Stmt}
use Rattle.bk_ocode.proofs.SectionProp.{section_whole}
use Rattle.bk_ocode.proofs.OneSaying.{each_stmt, one_saying}
use Rattle.bk_ocode.proofs.PrintedLemmas.{words_of-printed}

pub printed_is_parted : PrintedIsParted
printed_is_parted printed more =
    let whole = section_whole printed in
    words_of-printed (stmts_of printed) more (each_stmt (stmts_of printed) whole.0.are_faultless whole.1)

pub printed_are_parted : PrintedAreParted
printed_are_parted [] more = refl
printed_are_parted (first ∷ others) more =
    ap words_of (append_assoc (section_text (stmts_of first)) (texts_of others) more)
    ∙ printed_is_parted first (texts_of others ++ more)
    ∙ ap (λ (w : List (List ℕ)). section_words (stmts_of first) ++ w) (printed_are_parted others more)
    ∙ sym (append_assoc (section_words (stmts_of first)) (words_of_all others) (words_of more))

pub printed_again : PrintedSaysAgain
printed_again printed more =
    let whole = section_whole printed in
    (words_of more, whole.0, whole.1, printed_is_parted printed more)

stmts_same : (a b : List Stmt) → section a ≡ section b → a ≡ b
stmts_same a b is = cc

section_nothing : (a : List Stmt) → section a ≡ nothing → ⊥
section_nothing a is = cc

section_fault : (a : List Stmt) (n : ℕ) (k : OcodeKind) → section a ≡ fault n k → ⊥
section_fault a n k is = cc

pub read_again : PrintedIsReadAgain
read_again printed more (Ok (Some read)) says =
    stmts_same (stmts_of read) (stmts_of printed) (one_saying (words_of (section_text (stmts_of printed) ++ more)) (section (stmts_of read)) (section (stmts_of printed)) says (printed_again printed more))
read_again printed more (Ok None) says =
    section_nothing (stmts_of printed) (one_saying (words_of (section_text (stmts_of printed) ++ more)) (section (stmts_of printed)) nothing (printed_again printed more) says)
read_again printed more (Err (Fault reported)) says =
    section_fault (stmts_of printed) reported.statement reported.kind (one_saying (words_of (section_text (stmts_of printed) ++ more)) (section (stmts_of printed)) (fault reported.statement reported.kind) (printed_again printed more) says)
read_again printed more (Err Memory) says = tt
read_again printed more (Err Device) says = tt
