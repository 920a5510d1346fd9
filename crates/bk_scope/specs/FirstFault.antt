-- The first fault, as what is wrong and where.
use Rattle.std.specs.Prelude.{ℕ, Option, Some, None, List, string_bytes}
use Rattle.bk_tree.specs.declared.placed.PlacedFault.{PlacedFault}
use Rattle.bk_base.specs.declared.source_fault.SourceKind.{SourceKind}
use Rattle.bk_base.specs.declared.source_fault.SourceKind.TheVariants as k
use Rattle.bk_scope.specs.declared.first_fault.FirstFault.{FirstFault}
use Rattle.bk_scope.specs.declared.first_fault.Misnaming.{Misnaming}
use Rattle.bk_scope.specs.declared.first_fault.Misnaming.TheVariants as m
use Rattle.bk_scope.specs.Wrong.{Wrong, Breach, elsewhere, not_declared, declared_twice, dynamic_name, not_constant, divided_by_zero, case_repeated, default_repeated, no_loop, no_switchon, no_result_or_return, label_not_here, global_out_of_range, vec_out_of_range, frame_too_large, not_assignable, two_procedures}

-- what a kind of fault says is wrong; those of other layers say nothing of names and constants
abbrev pub wrong_of : SourceKind → Wrong
wrong_of (k.NotDeclared x) = not_declared (string_bytes x)
wrong_of (k.DeclaredTwice x) = declared_twice (string_bytes x)
wrong_of (k.DynamicName x) = dynamic_name (string_bytes x)
wrong_of k.NotConstant = not_constant
wrong_of k.ConstantDividedByZero = divided_by_zero
wrong_of k.CaseRepeated = case_repeated
wrong_of k.DefaultRepeated = default_repeated
wrong_of k.NoLoop = no_loop
wrong_of k.NoSwitchon = no_switchon
wrong_of k.NoResultOrReturn = no_result_or_return
wrong_of (k.LabelNotHere x) = label_not_here (string_bytes x)
wrong_of k.GlobalOutOfRange = global_out_of_range
wrong_of k.VecOutOfRange = vec_out_of_range
wrong_of k.FrameTooLarge = frame_too_large
wrong_of k.NotAssignable = not_assignable
wrong_of (k.TwoProcedures x) = two_procedures (string_bytes x)
wrong_of _ = elsewhere

-- what is wrong with the name of this text
abbrev pub misnamed : Misnaming → List ℕ → Wrong
misnamed m.NotDeclared x = not_declared x
misnamed m.DeclaredTwice x = declared_twice x
misnamed m.Dynamic x = dynamic_name x
misnamed m.LabelNotHere x = label_not_here x
misnamed m.TwoProcedures x = two_procedures x

abbrev pub breach_of : PlacedFault → Breach
breach_of f = record { at = f.at; wrong = wrong_of f.kind }

abbrev pub breach_reported : Option PlacedFault → Option Breach
breach_reported None = None
breach_reported (Some f) = Some (breach_of f)

abbrev pub first_fault : FirstFault → Option Breach
first_fault f = breach_reported f.fault
