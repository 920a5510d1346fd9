use Rattle.bk_lex.proofs.Terms.{◌≡◌, true, get_or, sym, ap, ◌∙◌, arith, is_name_byte, coded}
use Rattle.bk_lex.proofs.SpanLemmas.{all_more, code_more}
use Rattle.bk_lex.proofs.spans.rest_of_word.Goals as goal

pub loop-at-preserved : goal.loop-at-preserved
loop-at-preserved c =
    let v = c.loop-at.invariant in (
      omega (arith, v.0),
      omega arith,
      all_more (λ k. is_name_byte (get_or c.args.bytes.now k 0) ≡ true) c.args.from c.loop-at.at v.2 (sym c.is_name_byte.ensures ∙ c.if-is_name_byte.true),
      c.longer_code-code.ensures ∙ ap (λ k. coded k (get_or c.args.bytes.now c.loop-at.at 0)) v.3 ∙ sym (code_more c.args.code c.args.bytes.now c.args.from c.loop-at.at v.0 (omega arith)),
    )
