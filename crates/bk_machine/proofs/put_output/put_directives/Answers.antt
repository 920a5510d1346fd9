use Rattle.bk_machine.proofs.TellSteps.{telling_on, telling_all, telling_end, telling_cut, telling_failed, format_rest-none, format_rest-directive, format_rest-cut, rules, ◌≡◌, ℕ, suc, ◌+◌, ◌-◌, ◌<◌, List, Some, None, true, sym, ◌∙◌, arith, word_sum, Begins-trans, Directive, directive, piece_text, text_then, format_rest, words_in}
use Rattle.bk_machine.proofs.put_output.put_directives.Goals as goal

-- the directive that is met, and the rest of the format
met : (count i : ℕ) (store : List ℕ) (f at left a : ℕ) (d : Directive) → i < count → (left ≡ 0 → ⊥) → Some d ≡ directive store f at left a
    → format_rest (count - i) store f at left a
    ≡ text_then (piece_text store d.piece) (format_rest (count - (i + 1)) store f (at + d.bytes) (left - d.bytes) (word_sum a d.arguments))
met count i store f at left a d below some is =
    let one : count - i ≡ suc (count - (i + 1)) = omega arith in
    format_rest-directive (count - i) (count - (i + 1)) store f at left a d one some (sym is)

pub returns-then-left-eq0-clause-text : goal.returns-then-left-eq0-clause-text
returns-then-left-eq0-clause-text g c = telling_all _ _ _ _ c.loop-i.invariant.0 (format_rest-none _ _ _ _ _ _ c.if-left-eq0.true)

pub returns-in_default-clause-text : goal.returns-in_default-clause-text
returns-in_default-clause-text g c =
    let one : c.args.count - c.loop-i.i ≡ suc (c.args.count - (c.loop-i.i + 1)) = omega arith in
    let missing : directive (words_in c.args.store) c.args.format c.loop-i.at c.loop-i.left c.loop-i.argument ≡ None =
    sym c.directive_at.ensures.value ∙ c.in_default.is in
    telling_end _ _ _ _ c.loop-i.invariant.0 (format_rest-cut _ _ _ _ _ _ _ one c.if-left-eq0.false missing)

pub returns-in_err-put_piece-clause-text : goal.returns-in_err-put_piece-clause-text
returns-in_err-put_piece-clause-text g c =
    let is = met c.args.count c.loop-i.i (words_in c.args.store) c.args.format c.loop-i.at c.loop-i.left c.loop-i.argument c.in-Some.directive
    c.loop-i-test.true c.if-left-eq0.false c.in-Some.ensures.value in
    let part = telling_failed _ _ _ _ _ _ _ c.loop-i.invariant.0 is c.in_err-put_piece.ensures.text in
    search rules

pub returns-then-not-branch-clause-text : goal.returns-then-not-branch-clause-text
returns-then-not-branch-clause-text g c =
    let is = met c.args.count c.loop-i.i (words_in c.args.store) c.args.format c.loop-i.at c.loop-i.left c.loop-i.argument c.in-Some.directive
    c.loop-i-test.true c.if-left-eq0.false c.in-Some.ensures.value in
    telling_cut _ _ _ _ _ _ _ c.loop-i.invariant.0 is (sym c.in_ok-put_piece.ensures.text.0 ∙ c.if-not-branch.true) c.in_ok-put_piece.ensures.text.1

pub loop-i-preserved : goal.loop-i-preserved
loop-i-preserved g c =
    let is = met c.args.count c.loop-i.i (words_in c.args.store) c.args.format c.loop-i.at c.loop-i.left c.loop-i.argument c.in-Some.directive
    c.loop-i-test.true c.if-left-eq0.false c.in-Some.ensures.value in
    let whole : (piece_text (words_in c.args.store) c.in-Some.directive.piece).whole ≡ true = sym c.in_ok-put_piece.ensures.text.0 ∙ c.if-not-branch.false in
    let within = c.in-Some.ensures.within in
    let order = c.loop-i.invariant.3 in
    let place = c.loop-i.invariant.2 in (
      rw c.sum-argument.ensures (telling_on _ _ _ _ _ _ _ c.loop-i.invariant.0 is whole c.in_ok-put_piece.ensures.text.1),
      Begins-trans _ _ _ c.loop-i.invariant.1 c.in_ok-put_piece.ensures.passes,
      omega arith,
      omega arith,
    )
