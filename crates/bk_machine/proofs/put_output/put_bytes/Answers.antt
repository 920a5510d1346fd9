use Rattle.bk_machine.proofs.TellSteps.{telling_on, telling_end, string_rest-byte, string_rest-cut, ◌≡◌, suc, ◌+◌, ◌-◌, [], ◌∷◌, Some, None, refl, sym, ◌∙◌, arith, Begins-trans, byte_of, whole_text, words_in}
use Rattle.bk_machine.proofs.put_output.put_bytes.Goals as goal

pub loop-i-preserved : goal.loop-i-preserved
loop-i-preserved g c =
    let passes = Begins-trans _ _ _ c.loop-i.invariant.1 c.in_ok-put.ensures.passes in
    let count : c.args.count - c.loop-i.i ≡ suc (c.args.count - (c.loop-i.i + 1)) = omega arith in
    let found : byte_of (words_in c.args.store) c.args.address (c.loop-i.i + 1) ≡ Some c.in-Some.byte = sym c.in-Some.ensures in (
      telling_on _ _ _ _ _ (whole_text (c.in-Some.byte ∷ [])) _ c.loop-i.invariant.0
          (string_rest-byte _ _ (words_in c.args.store) c.args.address _ c.in-Some.byte count found) refl c.in_ok-put.ensures.takes,
      passes,
    )

pub returns-in_default-clause-text : goal.returns-in_default-clause-text
returns-in_default-clause-text g c =
    let count : c.args.count - c.loop-i.i ≡ suc (c.args.count - (c.loop-i.i + 1)) = omega arith in
    let missing : byte_of (words_in c.args.store) c.args.address (c.loop-i.i + 1) ≡ None = sym c.byte_in.ensures ∙ c.in_default.is in
    telling_end _ _ _ _ c.loop-i.invariant.0 (string_rest-cut _ _ (words_in c.args.store) c.args.address _ count missing)
