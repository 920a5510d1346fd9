use Rattle.bk_syntax.proofs.Terms.{◌≡◌, ◌<◌, Some, Ok, vec_len, ap, sym, ◌∙◌, arith, declarations_in, whole, stack_of, state, is_zero, is_more}
use Rattle.bk_syntax.proofs.Following.{due_empty, whole_empty, not_whole, ends_wrong}
use Rattle.bk_syntax.proofs.parser.Parser.whole.Goals as goal

pub new-requires : goal.new-requires
new-requires c =
    let x = c.args.self.frames in
    let none : vec_len x.above ≡ 0 = is_zero _ _ c.is_empty.ensures c.if-is_empty.true in
    c.requires (declarations_in x.decls.items) (ap (state (stack_of x)) c.in-Due.is ∙ due_empty x.decls.items x.above.items (omega (arith, none)))

pub returns-then-is_empty : goal.returns-then-is_empty
returns-then-is_empty c =
    let x = c.args.self.frames in
    let none : vec_len x.above ≡ 0 = is_zero _ _ c.is_empty.ensures c.if-is_empty.true in
    ap (λ n. whole (Some (state (stack_of x) n))) c.in-Due.is ∙ whole_empty x.decls.items x.above.items (omega (arith, none)) ∙ ap Ok (sym c.new.ensures)

pub returns-in-Due : goal.returns-in-Due
returns-in-Due c =
    let x = c.args.self.frames in
    let some : 0 < vec_len x.above = is_more _ _ c.is_empty.ensures c.if-is_empty.false in
    ends_wrong _ _ _ c.reported.ensures (ap (λ n. whole (Some (state (stack_of x) n))) c.in-Due.is ∙ not_whole x.decls.items x.above.items (omega (arith, some)))
