-- Places in a tree: what is around a node, besides the declarations in scope.
use Rattle.std.specs.Prelude.{ℕ, ◌+◌, min, Bool, true, false, Some, None}
use Rattle.bk_base.specs.declared.limit.TheConstants.{FRAME_WORDS}
use Rattle.bk_scope.specs.declared.place.Enclosing.{Enclosing}

-- a depth past the limit of frames counts as the first past it
abbrev pub kept : ℕ → ℕ
kept d = min d (FRAME_WORDS + 1)

abbrev pub at_depth : ℕ → Enclosing → Enclosing
at_depth d p = record { procedure = p.procedure; depth = kept d; labels = p.labels; in_routine = p.in_routine; in_valof = p.in_valof; in_loop = p.in_loop; in_switch = p.in_switch; switch = p.switch }

abbrev pub deeper : ℕ → Enclosing → Enclosing
deeper n p = at_depth (p.depth + n) p

abbrev pub looping : Enclosing → Enclosing
looping p = record { procedure = p.procedure; depth = p.depth; labels = p.labels; in_routine = p.in_routine; in_valof = p.in_valof; in_loop = true; in_switch = p.in_switch; switch = p.switch }

abbrev pub switching : ℕ → Enclosing → Enclosing
switching n p = record { procedure = p.procedure; depth = p.depth; labels = p.labels; in_routine = p.in_routine; in_valof = p.in_valof; in_loop = p.in_loop; in_switch = true; switch = Some n }

-- where the labels have this number; no CASE there belongs to a SWITCHON around it
abbrev pub labelled : ℕ → Enclosing → Enclosing
labelled n p = record { procedure = p.procedure; depth = p.depth; labels = n; in_routine = p.in_routine; in_valof = p.in_valof; in_loop = p.in_loop; in_switch = p.in_switch; switch = None }

-- in a VALOF
abbrev pub valued : Enclosing → Enclosing
valued p = record { procedure = p.procedure; depth = p.depth; labels = p.labels; in_routine = p.in_routine; in_valof = true; in_loop = false; in_switch = false; switch = None }

-- in a procedure, a routine or not, of this number and with so many formals: two words of links are below them
abbrev pub called : Bool → ℕ → ℕ → Enclosing
called b n formals = record { procedure = n; depth = kept (formals + 2); labels = 0; in_routine = b; in_valof = false; in_loop = false; in_switch = false; switch = None }

-- where a section begins
abbrev pub outermost : Enclosing
outermost = record { procedure = 0; depth = 2; labels = 0; in_routine = false; in_valof = false; in_loop = false; in_switch = false; switch = None }
