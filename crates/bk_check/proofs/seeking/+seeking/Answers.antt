use Rattle.bk_check.proofs.Terms.{◌≡◌, ◌<◌, length, ap, ◌∙◌, arith, command_in, commands_in, declarations_in, block, Block_is, sought_in, env_in}
use Rattle.bk_check.proofs.Seeks.{no_head, a_head}
use Rattle.bk_check.proofs.seeking.+seeking.Goals as goal

pub has_place-returns-then-is_empty : goal.has_place-returns-then-is_empty
has_place-returns-then-is_empty t c =
    let e : command_in c.args.command.now ≡ block c.in-Block.at (declarations_in c.in-Block.ds.items) (commands_in c.in-Block.cs.items) =
    ap command_in c.in-Block.is ∙ Block_is c.in-Block.at c.in-Block.ds c.in-Block.cs in
    let none : length c.in-Block.ds.items ≡ 0 = grind arith in
    rw (e, ← c.deref-then-is_empty.ensures.value) (c.one_has_place.ensures ∙ no_head (sought_in c.args.sought) (env_in c.args.env.now) c.in-Block.at c.in-Block.ds.items (commands_in c.deref-then-is_empty.result.now) none)

pub has_place-returns-else-is_empty : goal.has_place-returns-else-is_empty
has_place-returns-else-is_empty t c =
    let e : command_in c.args.command.now ≡ block c.in-Block.at (declarations_in c.in-Block.ds.items) (commands_in c.in-Block.cs.items) =
    ap command_in c.in-Block.is ∙ Block_is c.in-Block.at c.in-Block.ds c.in-Block.cs in
    let some : 0 < length c.in-Block.ds.items = grind arith in
    c.if-is_empty.false ∙ rw e (a_head (sought_in c.args.sought) (env_in c.args.env.now) c.in-Block.at c.in-Block.ds.items (commands_in c.in-Block.cs.items) some)
