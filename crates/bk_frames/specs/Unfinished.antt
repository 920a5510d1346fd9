-- The unfinished constructs of the parser, as the top of the reading machine's stack, with the size of their parts.
use Rattle.std.specs.Prelude.{map}
use Rattle.bk_frames.specs.declared.frame.OpenExpression.{OpenExpression}
use Rattle.bk_frames.specs.declared.frame.OpenExpression.TheVariants as o
use Rattle.bk_frames.specs.declared.frame.Phrase.{Phrase}
use Rattle.bk_frames.specs.declared.frame.Phrase.TheVariants as p
use Rattle.bk_frames.specs.declared.frame.Clause.{Clause}
use Rattle.bk_frames.specs.declared.frame.Clause.TheVariants as c
use Rattle.bk_frames.specs.declared.frame.Place.{Place}
use Rattle.bk_frames.specs.declared.frame.Place.TheVariants as a
use Rattle.bk_frames.specs.declared.frame.Member.{Member}
use Rattle.bk_frames.specs.declared.frame.Member.TheVariants as m
use Rattle.bk_frames.specs.declared.frame.Point.{Point}
use Rattle.bk_frames.specs.declared.frame.Point.TheVariants as t
use Rattle.bk_frames.specs.declared.frame.Unfinished.{Unfinished}
use Rattle.bk_frames.specs.declared.frame.Unfinished.TheVariants as b
use Rattle.bk_tree.specs.Tree.{no_declarations, mention, expression, expressions_in, step_in, command_in, commands_in, declarations_in, items_in, definitions_in, starts_in}
use Rattle.bk_grammar.specs.Machine.{Stack, in_section, in_block, in_let, at_name, at_formals, at_formal, at_formal_end, at_head, at_variable, at_variable_end, at_starts, at_opening, at_items, at_sign, at_goto, at_for, at_forward, at_default, in_parens, in_unary, in_binary, in_chain, in_then, in_else, in_args, in_table, in_start, in_dests, in_values, in_guard, in_test, in_result, in_while, in_from, in_to, in_by, in_item, in_function, in_value, in_vector, in_valof, in_label, in_guarded, in_default, in_do, in_or, in_for, in_routine}
use Rattle.bk_frames.specs.declared.frame.Size.{Size}
use Rattle.bk_frames.specs.Sizes.{held_of}

abbrev pub operand_on : OpenExpression → Stack → Stack
operand_on (o.Parens l) st = in_parens l st
operand_on (o.Unary l q) st = in_unary l q st
operand_on (o.Binary q l x) st = in_binary q l (expression x.value) st
operand_on (o.Chain q l x y) st = in_chain q l (expression x.value) (expression y.value) st
operand_on (o.Then l x) st = in_then l (expression x.value) st
operand_on (o.Else l x y) st = in_else l (expression x.value) (expression y.value) st
operand_on (o.Args l x es) st = in_args l (expression x.value) (expressions_in es.items) st
operand_on (o.Table l es) st = in_table l (expressions_in es.items) st

abbrev pub phrase_on : Phrase → Stack → Stack
phrase_on p.Start st = in_start st
phrase_on (p.Dests xs) st = in_dests (expressions_in xs.items) st
phrase_on (p.Values xs ys) st = in_values (expressions_in xs.items) (expressions_in ys.items) st
phrase_on (p.Guard g l) st = in_guard g l st
phrase_on (p.Test l) st = in_test l st
phrase_on (p.ResultIs l) st = in_result l st
phrase_on (p.RepeatWhile t x) st = in_while t (command_in x.value) st
phrase_on (p.From l x) st = in_from l (mention x) st
phrase_on (p.To l x y) st = in_to l (mention x) (expression y.value) st
phrase_on (p.By l x y z) st = in_by l (mention x) (expression y.value) (expression z.value) st

abbrev pub member_on : Member → Stack → Stack
member_on (m.Item l q is x) st = in_item l q (items_in is.items) (mention x) st
member_on (m.Function x fs) st = in_function (mention x) (map mention fs.items) st
member_on (m.Value xs is) st = in_value (map mention xs.items) (starts_in is.items) st
member_on (m.Vector l xs is) st = in_vector l (map mention xs.items) (starts_in is.items) st

abbrev pub clause_on : Clause → Stack → Stack
clause_on (c.Valof l) st = in_valof l st
clause_on (c.Label l x) st = in_label l x.items st
clause_on (c.Guarded g l x) st = in_guarded g l (expression x.value) st
clause_on (c.Default l) st = in_default l st
clause_on (c.Then l x) st = in_do l (expression x.value) st
clause_on (c.Else l x y) st = in_or l (expression x.value) (command_in y.value) st
clause_on (c.For l x y z h) st = in_for l (mention x) (expression y.value) (expression z.value) (step_in h) st
clause_on (c.Routine x fs) st = in_routine (mention x) (map mention fs.items) st

abbrev pub place_on : Place → Stack → Stack
place_on (a.Block l q ds cs) st = in_block l q (declarations_in ds.items) (commands_in cs.items) st
place_on (a.Let l ds) st = in_let l (definitions_in ds.items) st
place_on (a.Named x) st = at_name (mention x) st
place_on (a.Formals x) st = at_formals (mention x) st
place_on (a.Formal x fs) st = at_formal (mention x) (map mention fs.items) st
place_on (a.FormalEnd x fs) st = at_formal_end (mention x) (map mention fs.items) st
place_on (a.Headed x fs) st = at_head (mention x) (map mention fs.items) st
place_on (a.Variable xs) st = at_variable (map mention xs.items) st
place_on (a.VariableEnd xs) st = at_variable_end (map mention xs.items) st
place_on (a.Inits xs is) st = at_starts (map mention xs.items) (starts_in is.items) st

abbrev pub point_on : Point → Stack → Stack
point_on (t.Opening l q) st = at_opening l q st
point_on (t.Items l q is) st = at_items l q (items_in is.items) st
point_on (t.Signed l q is x) st = at_sign l q (items_in is.items) (mention x) st
point_on (t.Goto l) st = at_goto l st
point_on (t.For l) st = at_for l st
point_on (t.Forward l x) st = at_forward l (mention x) st
point_on (t.Default l) st = at_default l st

abbrev pub unfinished_on : Unfinished → Stack → Stack
unfinished_on (b.OpenExpression x) st = operand_on x st
unfinished_on (b.Phrase x) st = phrase_on x st
unfinished_on (b.Member x) st = member_on x st
unfinished_on (b.Clause x) st = clause_on x st
unfinished_on (b.Place x) st = place_on x st
unfinished_on (b.Point x) st = point_on x st

-- the size of the parts that it holds
abbrev pub held_in : Unfinished → Size
held_in x = held_of (unfinished_on x (in_section no_declarations))
