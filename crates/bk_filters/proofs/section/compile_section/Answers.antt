use Rattle.bk_filters.proofs.Terms.{◌≡◌, ◌∙◌, ◌==◌, false, length, sym, rules, section_of}
use Rattle.bk_filters.proofs.SectionLemmas.{section_refuses, code_some, code_none, no_symbols, some_symbols}
use Rattle.bk_filters.proofs.section.compile_section.Goals.{then-lexed, else-lexed, then-is_empty, else-is_empty+in_ok-code_of}
use Rattle.bk_filters.proofs.section.compile_section.Goals as goal

pub returns-in_err-code_of-clause-refuses : goal.returns-in_err-code_of-clause-refuses
returns-in_err-code_of-clause-refuses c =
    let l = c.in_ok-lexed.lexed in
    let empty : (length l.tokens.items == 0) ≡ false = sym (rw c.as_slice.ensures.value at c.is_empty.ensures) ∙ c.if-is_empty.false in
    let refuses = section_refuses c.in_err-code_of.field-0.0 c.args.lexer.now.bytes c.args.lexer.now.from l c.in_ok-lexed.ensures (some_symbols l.tokens.items empty) c.in_err-code_of.ensures.refuses in
    search rules

pub returns-clause-compiled : goal.returns-clause-compiled
returns-clause-compiled c = record {
  bytes = rw c.bytes.ensures at c.are_bytes.ensures;
  tokens = section_of c.in_ok-lexed.lexed;
  lexed_as = c.in_ok-lexed.ensures;
  has =
      elim c.if-is_empty.branch [
        | then-is_empty w ↦
            let none = no_symbols c.in_ok-lexed.lexed.tokens.items (sym (rw c.as_slice.ensures.value at c.is_empty.ensures) ∙ w.if-is_empty.true) in
            rw w.code-is (code_none _ none)
        | else-is_empty+in_ok-code_of w ↦
            let some = some_symbols c.in_ok-lexed.lexed.tokens.items (sym (rw c.as_slice.ensures.value at c.is_empty.ensures) ∙ w.if-is_empty.false) in
            let translates = w.in_ok-code_of.ensures.translates in
            rw w.code-is (code_some _ _ _ some translates)
      ];
  next =
      elim c.if-lexed.branch [
        | then-lexed w ↦ search rules
        | else-lexed w ↦ search rules
      ];
}
