-- What the values of the program are as those of the definitions.
use Rattle.std.specs.Prelude.{ℕ, Option, Some, None, List, map}
use Rattle.bk_tree.specs.declared.tree.Name.{Name}
use Rattle.bk_tree.specs.Tree.{mention}
use Rattle.bk_meaning.specs.Environment.{letters}
use Rattle.bk_objects.specs.Views.{value_in}
use Rattle.bk_lasting.specs.Views.{lasting_in}
use Rattle.bk_meaning.specs.Seeking as q
use Rattle.bk_meaning.specs.Blocks as k
use Rattle.bk_meaning.specs.Lasting as d
use Rattle.bk_check.specs.declared.frame.Sought.{Sought}
use Rattle.bk_check.specs.declared.frame.Sought.TheVariants as g
use Rattle.bk_check.specs.declared.frame.Start.{Start}
use Rattle.bk_lasting.specs.declared.program.Lasting.{Lasting}

-- the letters of names
abbrev pub letters_in : List Name → List (List ℕ)
letters_in xs = letters (map mention xs)

abbrev pub sought_in : Sought → q.Sought
sought_in (g.Label x) = q.the_label x.now
sought_in (g.Case n) = q.the_case (Some n)
sought_in g.Default = q.the_default

abbrev pub mode_in : Option Sought → q.Mode
mode_in None = q.forwards
mode_in (Some s) = q.seeking (sought_in s)

abbrev pub start_in : Start → k.Start
start_in s = record { name = s.name.now.letters.items; value = value_in s.value }

-- a program
abbrev pub program_in : List Lasting → d.Program
program_in xs = map lasting_in xs
