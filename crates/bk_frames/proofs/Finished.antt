-- The section at the end is within the limits, and so is the empty one.
use Rattle.bk_frames.proofs.Terms.{◌≡◌, List, [], Some, Result, arith, IfOk, TREE_DEPTH, TREE_NODES, Frame, Decl, Declarations, State, due, in_section, stepped_by, stack, AtMost, Bounded, Kind as k}
use Rattle.bk_base.specs.declared.source_fault.SourceFault.{SourceFault}
use Rattle.bk_base.specs.declared.refused.Refused.{Refused}
use Rattle.bk_tree.specs.declared.section.Section.{Section}
use Rattle.bk_tree.specs.Limits.{Within}
use Rattle.bk_tree.specs.Section.{declarations_of}
use Rattle.bk_frames.proofs.Stacks.{stack_none}
use Rattle.bk_frames.proofs.Lowering.{at_most_down}
use Rattle.bk_frames.proofs.Ended.{ends}

pub ends_within : (x : State) (ds : Declarations) → Bounded x → stepped_by x 1 [] k.Semicolon ≡ Some (due (in_section ds)) → Within ds
ends_within x ds b h = ends (AtMost TREE_DEPTH TREE_NODES) (at_most_down TREE_DEPTH TREE_NODES) x ds h b

pub empty_bounded : (ds : List Decl) (xs : List Frame) → ds ≡ [] → xs ≡ [] → Bounded (due (stack ds xs))
empty_bounded ds xs no_decls nothing = grind (arith, stack, in_section, stack_none, due)

pub within_limits : (r : Result Section (Refused SourceFault)) → IfOk r (λ x. Within (declarations_of x))
within_limits r = grind arith
