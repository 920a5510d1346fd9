use Rattle.bk_syntax.proofs.Terms.{false, cond, sym, ap, ◌∙◌, arith, is_let_unfinished, inside_short, inside_at}
use Rattle.bk_syntax.proofs.definitions.in_a_block.Goals as goal

pub returns-then-count-lt2 : goal.returns-then-count-lt2
returns-then-count-lt2 c = sym (inside_short c.args.frames.now.decls.items c.args.frames.now.above.items (omega arith))

pub returns : goal.returns
returns c =
    c.both_of.ensures ∙ ap (λ b. cond b c.is_block.result false) c.is_let.ensures
    ∙ ap (λ b. cond (is_let_unfinished c.index-top.result.now.unfinished) b false) c.is_block.ensures
    ∙ sym (inside_at c.args.frames.now.decls.items c.args.frames.now.above.items c.len-count.result c.index-top.result.now c.index-below.result.now (omega arith) (omega arith) c.index-top.ensures c.index-below.ensures)
