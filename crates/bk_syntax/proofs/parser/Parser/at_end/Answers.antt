use Rattle.bk_syntax.proofs.Terms.{ℕ, Some, List, [], Result, sym, ap, subst, ◌∙◌, Symbol, Declarations, stepped_by, whole, stack_of, state, AnswersAtEnd, ends_within, Kind as k}
use Rattle.std.specs.Prelude.{None}
use Rattle.bk_tree.specs.Position.{position}
use Rattle.bk_syntax.proofs.Following.{run_end, ends_wrong}
use Rattle.bk_syntax.proofs.parser.Parser.at_end.Goals as goal

pub whole-requires : goal.whole-requires
whole-requires c =
    let x = state (stack_of c.args.self.frames) c.args.self.now in
    λ ds is. ends_within x ds c.requires (ap (λ (l : ℕ). stepped_by x (position l None) [] k.Semicolon) (sym c.first.ensures) ∙ c.in-Ok.ensures ∙ ap Some is)

pub returns-in-Ok : goal.returns-in-Ok
returns-in-Ok c =
    let x = state (stack_of c.args.self.frames) c.args.self.now in
    let P : Result Declarations (List Symbol) → Type 0 = λ r. AnswersAtEnd c.whole.result r c.args.end in
    subst P (sym (run_end x ∙ ap (λ (l : ℕ). whole (stepped_by x (position l None) [] k.Semicolon)) (sym c.first.ensures) ∙ ap whole c.in-Ok.ensures)) c.whole.ensures

pub returns : goal.returns
returns c =
    let x = state (stack_of c.args.self.frames) c.args.self.now in
    ends_wrong _ _ _ c.reported.ensures (run_end x ∙ ap (λ (l : ℕ). whole (stepped_by x (position l None) [] k.Semicolon)) (sym c.first.ensures)
    ∙ ap whole (rw c.in-Err-Unexpected.field-0-is at c.in-Err-Unexpected.ensures))
