use Rattle.bk_scope.proofs.Terms.{sym, ap, ◌∙◌, string_bytes, ℕ, List, ◌++◌, slice_index_or, encode_utf8_all, encode_utf8, take_all}
use Rattle.bk_scope.proofs.Texts.{text_of-take}
use Rattle.bk_scope.proofs.first_fault.spelled.Goals as goal

-- src/first_fault.rt:81:5
pub loop-byte-init : goal.loop-byte-init
loop-byte-init c = c.new-text.ensures.bytes

-- src/first_fault.rt:81:5
pub loop-byte-preserved : goal.loop-byte-preserved
loop-byte-preserved c =
    c.in_ok-push.ensures.bytes ∙ ap (λ (b : ℕ). string_bytes c.loop-byte.text ++ encode_utf8 b) c.from.ensures
    ∙ ap (λ (bs : List ℕ). bs ++ encode_utf8 (slice_index_or c.args.name.now c.loop-byte.byte-index 0)) c.loop-byte.invariant
    ∙ sym (text_of-take c.args.name.now c.loop-byte.byte-index c.loop-byte-test.true)

-- src/first_fault.rt:77:1
pub returns : goal.returns
returns c = c.loop-byte.invariant ∙ ap encode_utf8_all (take_all c.loop-byte.byte-index c.args.name.now c.loop-byte-test.false)
