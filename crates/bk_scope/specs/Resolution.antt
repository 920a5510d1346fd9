-- What is answered of a section.
use Rattle.std.specs.Prelude.{◌≡◌, Some, [], Result, Ok, Err}
use Rattle.bk_base.specs.declared.source_fault.SourceFault.{SourceFault}
use Rattle.bk_base.specs.declared.refused.Refused.{Refused}
use Rattle.bk_base.specs.declared.refused.Refused.TheVariants.{Fault, Memory, Device}
use Rattle.bk_tree.specs.declared.placed.PlacedFault.{PlacedFault}
use Rattle.bk_tree.specs.Placed.{fault_on_line}
use Rattle.bk_tree.specs.Tree.{Declarations}
use Rattle.bk_scope.specs.declared.section_names.Resolved.{Resolved}
use Rattle.bk_scope.specs.Points.{first_reported}
use Rattle.bk_scope.specs.Faults.{faults, meanings, words}
use Rattle.bk_scope.specs.FirstFault.{breach_of}

-- Where it has no fault, what each name means and the word of each constant; else the first of its faults, at its symbol. Memory
-- may be refused; no device is asked.
abbrev pub ResolvesPlaced : Result Resolved (Refused PlacedFault) → Declarations → Type 0
ResolvesPlaced (Ok r) ds = (faults ds ≡ []) × (r.meanings.items ≡ meanings ds) × (r.words.items ≡ words ds)
ResolvesPlaced (Err (Fault f)) ds = first_reported (faults ds) ≡ Some (breach_of f)
ResolvesPlaced (Err Memory) ds = Unit {0}
ResolvesPlaced (Err Device) ds = ⊥

-- The same with the line of the fault's symbol.
abbrev pub Resolves : Result Resolved (Refused SourceFault) → Declarations → Type 0
Resolves (Ok r) ds = (faults ds ≡ []) × (r.meanings.items ≡ meanings ds) × (r.words.items ≡ words ds)
Resolves (Err (Fault fault)) ds = (f : PlacedFault) × (first_reported (faults ds) ≡ Some (breach_of f)) × (fault ≡ fault_on_line f)
Resolves (Err Memory) ds = Unit {0}
Resolves (Err Device) ds = ⊥
