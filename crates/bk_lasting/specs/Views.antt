-- What the values of the program are as those of the definitions.
use Rattle.std.specs.Prelude.{Option, Some, None, List, [], ◌∷◌, map, Vec}
use Rattle.std.specs.Global.{Global}
use Rattle.std.specs.declared.rc.Rc.{Rc}
use Rattle.bk_tree.specs.Tree.{mention, expression, command_in}
use Rattle.bk_meaning.specs.Environment as n
use Rattle.bk_meaning.specs.Environment.{Environment, Named, letters}
use Rattle.bk_meaning.specs.Lasting as m
use Rattle.bk_lasting.specs.declared.env.Sense.{Sense}
use Rattle.bk_lasting.specs.declared.env.Sense.TheVariants as s
use Rattle.bk_lasting.specs.declared.env.Node.{Node, Node', Held-Node-outer, None', Some'}
use Rattle.bk_lasting.specs.declared.env.Env.{Env}
use Rattle.bk_lasting.specs.declared.program.Body.{Body}
use Rattle.bk_lasting.specs.declared.program.Body.TheVariants as b
use Rattle.bk_lasting.specs.declared.program.Procedure.{Procedure}
use Rattle.bk_lasting.specs.declared.program.Lasting.{Lasting}
use Rattle.bk_lasting.specs.declared.program.Lasting.TheVariants as p

abbrev pub sense_in : Sense → n.Sense
sense_in (s.Constant x) = n.constant x
sense_in (s.Cell i o) = n.cell o i
sense_in s.Label = n.label
sense_in s.Foreign = n.foreign

-- names, the nearest first
abbrev mutual
  pub names_of : Node → List Named
  names_of (Node' x y outer) = record { name = x.now; sense = sense_in y } ∷ names_after outer

  pub names_after : Held-Node-outer → List Named
  names_after None' = []
  names_after (Some' p n) = names_of n

abbrev pub names_in : Option (Rc Node Global) → List Named
names_in None = []
names_in (Some r) = names_of r.value

abbrev pub env_in : Env → Environment
env_in e = record { names = names_in e.names; next = e.next }

abbrev pub body_in : Body → m.Body
body_in (b.Command c) = m.command (command_in c.now)
body_in (b.Value e) = m.expression (expression e.now)

abbrev pub procedure_in : Procedure → m.Procedure
procedure_in p = record { formals = letters (map mention p.formals.now); body = body_in p.body; env = env_in p.env; global = p.global }

abbrev pub lasting_in : Lasting → m.Lasting
lasting_in p.Globals = m.global_vector
lasting_in (p.Words ws) = m.words ws.items
lasting_in (p.Code x) = m.code (procedure_in x)

-- what lasts, in order
abbrev pub listed : Vec Lasting Global → List m.Lasting
listed list = map lasting_in list.items
