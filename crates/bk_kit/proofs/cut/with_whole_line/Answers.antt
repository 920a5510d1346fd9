use Rattle.bk_kit.specs.declared.checker.NotChecked.TheVariants.{Text}
use Rattle.bk_kit.proofs.Cuts.{not_cut, Report, TextHints, ReadsOn, read_from, NotChecked, ◌≡◌, rules, refl, sym, ap, subst, Result, Err}
use Rattle.bk_kit.proofs.cut.with_whole_line.Goals as goal

pub returns-in-Err-Text : goal.returns-in-Err-Text
returns-in-Err-Text g c = λ old are.
    let is : c.args.answer ≡ Err (Text c.in-Err-Text.refusal) = search rules in
    let line = c.with_line.ensures.line in
    let here = subst (λ (a : Result Report NotChecked). TextHints a old (g.C.ByteIn.left c.args.source.now)) is are in
    subst (λ (a : Result Report NotChecked). ReadsOn a (Err (Text c.with_line.result)) (read_from g.C.ByteIn old c.args.source.now) (read_from g.C.ByteIn old c.with_line.new.source)) (sym is) (
      c.with_line.result,
      refl,
      c.with_line.ensures.fault,
      c.with_line.ensures.hints old here,
      line.0,
      line.1,
      line.2,
      λ other. ap (read_from g.C.ByteIn old) (c.with_line.ensures.symbols (not_cut _ _ _ _ here.cut other)),
    )
