use Rattle.std.proofs.Common.{rules, length-append, [], ◌∷◌}
use Rattle.std.specs.Io.KnownBytes.{Consumes}
use Rattle.bk_lines.proofs.Extended.{line_more}
use Rattle.bk_lines.proofs.reading.read_line_end.Goals as goal

pub returns-in_err-push : goal.returns-in_err-push
returns-in_err-push g c =
    let read = c.loop-i.invariant in
    let next : Consumes (g.C.ByteIn.left c.loop-i.source) (g.C.ByteIn.left c.next.new.self) (c.in-Ok-Some.byte ∷ []) = search rules in
    let line = line_more _ _ _ read.0 c.in-Ok-Some.byte read.1 read.3 next in
    (_, line, search (length-append read.0 (c.in-Ok-Some.byte ∷ []), rules), search rules)
