-- Seeking a label, or the place of a CASE or DEFAULT, in commands: where it is, seeking can come to it.
use Rattle.std.specs.Prelude.{ℕ, ◌==◌, Bool, true, false, ◌||◌, cond, Option, Some, List}
use Rattle.std.specs.Str.{bytes_eq}
use Rattle.bk_tree.specs.Tree as t
use Rattle.bk_tree.specs.Tree.{Command, Commands}
use Rattle.bk_meaning.specs.Environment.{Environment, constant_in}

pub data Sought : Type 0 where
  the_label : (name : List ℕ) → Sought
  -- by the word of its constant, if it has one
  the_case : (word : Option ℕ) → Sought
  the_default : Sought

-- a command is done forwards from its beginning, or from a place in it that is sought
pub data Mode : Type 0 where
  forwards : Mode
  seeking : (s : Sought) → Mode

abbrev pub same_word : Option ℕ → Option ℕ → Bool
same_word (Some x) (Some y) = x == y
same_word _ _ = false

abbrev pub same_place : Sought → Sought → Bool
same_place (the_label x) (the_label y) = bytes_eq x y
same_place (the_case x) (the_case y) = same_word x y
same_place the_default the_default = true
same_place _ _ = false

-- how to go on after a place
abbrev pub at_place : Sought → Mode → Mode
at_place here forwards = forwards
at_place here (seeking s) = cond (same_place s here) forwards (seeking s)

-- a SWITCHON has the CASEs and the DEFAULT inside it
abbrev pub is_label : Sought → Bool
is_label (the_label x) = true
is_label _ = false

-- Whether the place is in a command, where seeking comes to it: a block with declarations, the body of a FOR and of a VALOF
-- keep their own.
abbrev mutual
  pub has_place : Sought → Environment → Command → Bool
  has_place s env (t.label l x c) = same_place s (the_label x) || has_place s env c
  has_place s env (t.case_of l e c) = same_place s (the_case (constant_in env e)) || has_place s env c
  has_place s env (t.default l c) = same_place s the_default || has_place s env c
  has_place s env (t.when l b e c) = has_place s env c
  has_place s env (t.test l e a b) = has_place s env a || has_place s env b
  has_place s env (t.while l b e c) = has_place s env c
  has_place s env (t.switch l e c) = cond (is_label s) (has_place s env c) false
  has_place s env (t.block l t.no_declarations cs) = one_has_place s env cs
  has_place s env (t.repeat l c) = has_place s env c
  has_place s env (t.repeat_while l b c e) = has_place s env c
  has_place s env _ = false

  pub one_has_place : Sought → Environment → Commands → Bool
  one_has_place s env t.no_commands = false
  one_has_place s env (t.also c cs) = has_place s env c || one_has_place s env cs
