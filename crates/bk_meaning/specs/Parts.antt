-- The parts of the meaning: where the nodes inside a node have theirs, each node has its own. From here on p is the program, m
-- the meanings of the nodes inside, env what the names mean, w the world before and u an outcome.
use Rattle.std.specs.Prelude.{ℕ, Bool, Option, Some}
use Rattle.bk_tree.specs.Tree as t
use Rattle.bk_tree.specs.Tree.{Expression, Command, Commands}
use Rattle.bk_meaning.specs.Values.{Value, number, address}
use Rattle.bk_meaning.specs.Causes.{no_place, cell_cause, set_byte_cause}
use Rattle.bk_meaning.specs.Memory.{read, write, write_byte}
use Rattle.bk_meaning.specs.World.{World, Outcome, gives, undefined, Done, given, changes}
use Rattle.bk_meaning.specs.Environment.{Environment, Sense, constant, cell}
use Rattle.bk_meaning.specs.Seeking.{Mode}

-- where a value goes: to a cell, or to a byte of the words at an address
pub data Target : Type 0 where
  at : (a : Value) → Target
  byte_at : (a i : Value) → Target

-- where an expression acts on its operands: at the operator between them, or else at its first symbol
abbrev pub acts_at : Expression → ℕ
acts_at (t.name l x) = l
acts_at (t.number l n) = l
acts_at (t.text l x) = l
acts_at (t.truth l b) = l
acts_at (t.query l) = l
acts_at (t.parens l e) = l
acts_at (t.unary l q e) = l
acts_at (t.binary l q i a b) = i
acts_at (t.choice l i c a b) = l
acts_at (t.apply l i f es) = l
acts_at (t.valof l c) = l
acts_at (t.table l es) = l

-- the position of what is no node of a source: the call of START
abbrev pub nowhere : ℕ
nowhere = 1

-- the meaning of the nodes inside
pub record Meanings : Type 0 where
  pub value : Expression → Environment → World → Outcome Value
  pub truth : Expression → Environment → World → Outcome Bool
  pub target : Expression → Environment → World → Outcome Target
  pub act : Command → Mode → Environment → World → Outcome Done
  -- a round of a loop, and those after it
  pub rounds : Command → Mode → Environment → World → Outcome Done
  -- a round of a FOR with the position of its variable's name, this body, variable, limit and step, and those after it
  pub for_rounds : ℕ → Command → ℕ → Value → ℕ → Environment → World → Outcome Done
  -- the commands of a scope
  pub scope : Commands → Mode → Environment → World → Outcome Done

-- what is at an address
abbrev pub fetch : ℕ → Value → World → Outcome Value
fetch l a w = given l (cell_cause a) (read w.memory a) w

-- the value of a name, and its address
abbrev pub named : ℕ → Option Sense → World → Outcome Value
named l (Some (constant n)) w = gives (number n) w
named l (Some (cell a i)) w = fetch l (address a i) w
named l _ w = undefined l no_place w

abbrev pub address_named : ℕ → Option Sense → World → Outcome Target
address_named l (Some (cell a i)) w = gives (at (address a i)) w
address_named l _ w = undefined l no_place w

-- puts a value there
abbrev pub store : ℕ → Target → Value → World → Outcome Done
store l (at a) v w = changes l (cell_cause a) (write w.memory a v) w
store l (byte_at a i) v w = changes l (set_byte_cause a i v) (write_byte w.memory a i v) w
