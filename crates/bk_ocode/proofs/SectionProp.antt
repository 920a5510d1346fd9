-- Being a section is a proposition.
use Rattle.bk_ocode.proofs.Terms.{List, Option, OcodeKind, IsSection, stmts_of, Ocode, InRange, IsTyped, AreTyped, IsVariable, AreCases, AreEntries, Position, Local, Global, Static, Case, GlobalEntry, Stmt, Number, Load, Address, Assign, Switch, Globals}
use Rattle.std.proofs.Props.{props}
use mathlib.Core.Sum.{⊎_set}
use Rattle.std.proofs.Math.Nat.{ℕ_set}
use Rattle.std.proofs.Math.Logic.{∥∥₁_elim}
use Rattle.bk_ocode.specs.declared.stmt.Variable.{Variable}

Kind-set : IsSet OcodeKind
Kind-set = hlevel (⊎_set, props)

Position-set : IsSet Position
Position-set = hlevel (⊎_set, ℕ_set, props)

IsVariable-prop : (variable : Variable) → IsProp (IsVariable variable)
IsVariable-prop (Local n) = hlevel props
IsVariable-prop (Global n) = hlevel props
IsVariable-prop (Static l) = hlevel props

AreCases-prop : (cases : List Case) → IsProp (AreCases cases)
AreCases-prop cases = hlevel (ℕ_set, props)

AreEntries-prop : (entries : List GlobalEntry) → IsProp (AreEntries entries)
AreEntries-prop entries = hlevel (ℕ_set, props)

InRange-prop : (s : Stmt) → IsProp (InRange s)
InRange-prop (Load from) = IsVariable-prop from
InRange-prop (Address of) = IsVariable-prop of
InRange-prop (Assign to) = IsVariable-prop to
InRange-prop (Switch default cases) = hlevel (AreCases-prop cases, props)
InRange-prop (Globals entries) = AreEntries-prop entries
InRange-prop x = hlevel props

Option_Kind-set : IsSet (Option OcodeKind)
Option_Kind-set = hlevel (⊎_set, Kind-set, props)

IsTyped-prop : (s : Stmt) → IsProp (IsTyped s)
IsTyped-prop (Number value) = hlevel props
IsTyped-prop _ = hlevel props

AreTyped-prop : (stmts : List Stmt) → IsProp (AreTyped stmts)
AreTyped-prop stmts = hlevel (IsTyped-prop, props)

IsSection-prop : (stmts : List Stmt) → IsProp (IsSection stmts)
IsSection-prop stmts = hlevel (InRange-prop, Option_Kind-set, Position-set, ℕ_set, props)

-- the statements of each section are one
pub section_whole : (section : Ocode) → IsSection (stmts_of section) × AreTyped (stmts_of section)
section_whole section = ∥∥₁_elim section.whole (hlevel (IsSection-prop (stmts_of section), AreTyped-prop (stmts_of section), props)) (λ whole. whole)
