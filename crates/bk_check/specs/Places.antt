-- Where a label is among the commands of a scope: the commands from the first that has it on, and how many lasting objects
-- those before it have.
use Rattle.std.specs.Prelude.{ℕ, ◌+◌, Bool, cond, Option, Some, None, List, [], ◌∷◌}
use Rattle.std.specs.Borrow.{Bor}
use Rattle.std.specs.Option.{option_map}
use Rattle.std.specs.BTreeMap.{BTreeMap, get_by}
use Rattle.std.specs.Cmp.Lexicographic.{slice_cmp}
use Rattle.std.specs.Ordering.{nat_cmp}
use Rattle.bk_tree.specs.declared.tree.Command.{Command}
use Rattle.bk_tree.specs.Tree as t
use Rattle.bk_tree.specs.Tree.{command_in}
use Rattle.bk_meaning.specs.Environment.{Environment, objects_of_command}
use Rattle.bk_meaning.specs.Seeking.{the_label, has_place, one_has_place}
use Rattle.bk_check.specs.declared.scopes.Place.{Place}

-- where no name means anything: labels stand where they do, whatever names mean
abbrev pub nowhere : Environment
nowhere = record { names = []; next = 0 }

abbrev pub stands_in : List ℕ → t.Command → Bool
stands_in x c = has_place (the_label x) nowhere c

abbrev pub stands_in_one : List ℕ → t.Commands → Bool
stands_in_one x cs = one_has_place (the_label x) nowhere cs

-- after so many objects
abbrev pub place_from : List ℕ → ℕ → List Command → Option (List Command × ℕ)
place_from x n [] = None
place_from x n (c ∷ cs) = cond (stands_in x (command_in c)) (Some (c ∷ cs, n)) (place_from x (n + objects_of_command (command_in c)) cs)

abbrev pub place_in : Place → List Command × ℕ
place_in p = (p.commands.now, p.objects)

-- what a table has for a label
abbrev pub place_at : List ℕ → BTreeMap (Bor (List ℕ)) Place → Option (List Command × ℕ)
place_at x places = option_map place_in (get_by (λ k. slice_cmp nat_cmp x k.now) places)

-- the first place stays
abbrev pub first_place : {A : Type 0} → Option A → Option A → Option A
first_place (Some p) q = Some p
first_place None q = q

-- a place more, where a label stands in a part
abbrev pub entered : {A : Type 0} → Bool → A → Option A → Option A
entered b p o = first_place o (cond b (Some p) None)
