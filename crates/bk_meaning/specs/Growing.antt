-- What only grows while a program runs, seen from any world on; and what a part of it that is gone through leaves as it was.
use Rattle.std.specs.Prelude.{◌≡◌, ℕ, ◌≤◌, ◌<◌, IsTrue, Option, Some, None, List, [], ◌++◌, length, map}
use Rattle.bk_tree.specs.Tree.{Expression, Command, Commands, Declarations}
use Rattle.bk_meaning.specs.Values.{Value}
use Rattle.bk_meaning.specs.Memory.{Object, living, dead, Memory, lives}
use Rattle.bk_meaning.specs.World.{World, Outcome, gives, leaves, ends, undefined, going}
use Rattle.bk_meaning.specs.Environment.{Environment}
use Rattle.bk_meaning.specs.Seeking.{Mode}
use Rattle.bk_meaning.specs.Parts.{Meanings, nowhere}
use Rattle.bk_meaning.specs.Lasting.{Program, program_of}
use Rattle.bk_meaning.specs.Calls.{call}
use Rattle.bk_meaning.specs.Program.{means, first_world}

-- what was written, what is left of the input, the most calls that were active at once, and the most cells that lived where a procedure was called or a VEC was made
pub record History : Type 0 where
  pub output : List ℕ
  pub input : List ℕ
  pub most_calls : ℕ
  pub most_cells : ℕ

abbrev pub history : World → History
history w = record { output = w.output; input = w.input; most_calls = w.most_calls; most_cells = w.most_cells }

-- What was written begins what is, what is left of the input ends what was, and the most calls and cells at once never fall.
pub record Grows (old new : History) : Type 0 where
  pub written : List ℕ
  pub output : new.output ≡ old.output ++ written
  pub taken : List ℕ
  pub input : old.input ≡ taken ++ new.input
  pub most_calls : old.most_calls ≤ new.most_calls
  pub most_cells : old.most_cells ≤ new.most_cells

-- how many cells an object has, if it lives
abbrev pub size_of : Object → Option ℕ
size_of (living cells) = Some (length cells)
size_of dead = None

abbrev pub sizes : Memory → List (Option ℕ)
sizes m = map size_of m

-- Each object that was there is there with its size if it lived, and dead if it was dead; further ones are after them.
pub record Keeps (old new : List (Option ℕ)) : Type 0 where
  pub made : List (Option ℕ)
  pub objects : new ≡ old ++ made

-- so many calls are active as there were, too
pub record ComesBack (old_calls : ℕ) (old : List (Option ℕ)) (new_calls : ℕ) (new : List (Option ℕ)) : Type 0 where
  pub calls : new_calls ≡ old_calls
  pub kept : Keeps old new

-- what holds of the world of an outcome
abbrev pub InItsWorld : {A : Type 0} → (World → Type 0) → Outcome A → Type 0
InItsWorld P (gives a v) = P v
InItsWorld P (leaves x v) = P v
InItsWorld P (ends e v) = P v
InItsWorld P (undefined l why v) = P v
InItsWorld P (going l v) = P v

-- the outcome of what began with this history; with these calls and objects
abbrev pub After : {A : Type 0} → History → Outcome A → Type 0
After old u = InItsWorld (λ v. Grows old (history v)) u

abbrev pub Restores : {A : Type 0} → ℕ → List (Option ℕ) → Outcome A → Type 0
Restores calls old (gives a v) = ComesBack calls old v.calls (sizes v.memory)
Restores calls old (leaves x v) = ComesBack calls old v.calls (sizes v.memory)
Restores calls old (ends e v) = Keeps old (sizes v.memory)
Restores calls old (undefined l why v) = Keeps old (sizes v.memory)
Restores calls old (going l v) = Keeps old (sizes v.memory)

-- what holds of the outcome of each part of the meaning, from any world on
pub record Throughout (Holds : (A : Type 0) → World → Outcome A → Type 0) (m : Meanings) : Type 0 where
  pub value : (e : Expression) (env : Environment) (w : World) → Holds _ w (m.value e env w)
  pub truth : (e : Expression) (env : Environment) (w : World) → Holds _ w (m.truth e env w)
  pub target : (e : Expression) (env : Environment) (w : World) → Holds _ w (m.target e env w)
  pub act : (c : Command) (mode : Mode) (env : Environment) (w : World) → Holds _ w (m.act c mode env w)
  pub rounds : (c : Command) (mode : Mode) (env : Environment) (w : World) → Holds _ w (m.rounds c mode env w)
  pub for_rounds : (l : ℕ) (c : Command) (object : ℕ) (limit : Value) (step : ℕ) (env : Environment) (w : World) → Holds _ w (m.for_rounds l c object limit step env w)
  pub scope : (cs : Commands) (mode : Mode) (env : Environment) (w : World) → Holds _ w (m.scope cs mode env w)

abbrev pub OutputOnlyGrows : Type 0
OutputOnlyGrows = (p : Program) (n : ℕ) → Throughout (λ A w u. After (history w) u) (means p n)

-- A part that was gone through or left by an exit has as many calls active as it began with.
abbrev pub CallsComeBack : Type 0
CallsComeBack = (p : Program) (n : ℕ) → Throughout (λ A w u. Restores w.calls (sizes w.memory) u) (means p n)

abbrev pub MemoryNeverShrinks : Type 0
MemoryNeverShrinks = (p : Program) (n : ℕ) → Throughout (λ A w u. InItsWorld (λ v. length w.memory ≤ length v.memory) u) (means p n)

-- what lasts lives at each place to which a run comes
abbrev pub WhatLastsLives : Type 0
WhatLastsLives =
    (sections : List Declarations) (input : List ℕ) (n : ℕ) (f : Value) (object : ℕ) →
    let p : Program = program_of sections in
    object < length p → InItsWorld (λ v. IsTrue (lives v.memory object)) (call p (means p n) nowhere f [] (first_world p input n))
