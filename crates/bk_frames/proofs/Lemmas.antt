-- The lemmas of this crate that the proofs of the crates above cite. They import no other file of this folder.
pub use Rattle.bk_frames.proofs.Covering.{run_completes}
pub use Rattle.bk_frames.proofs.Finished.{empty_bounded, ends_within, within_limits}
pub use Rattle.bk_frames.proofs.Insides.{inside_at, inside_short, limit_member, limit_phrase}
pub use Rattle.bk_frames.proofs.Lowering.{Down, at_most_down, levels_down}
pub use Rattle.bk_frames.proofs.Possible.{possible}
pub use Rattle.bk_frames.proofs.Stacks.{frames_laws, last_on, none_on, stack_none, stack_take}
pub use Rattle.bk_frames.proofs.Turns.{again_cases, binary_done, call_done, command_cases, constants_cases, declaration_cases, declared_then, dests_cases, formals_cases, guarded_depth, guarded_nodes, guarded_sizes, headed_cases, items_cases, last_cases, limit_cases, named_cases, names_cases, no_args_cases, operand_cases, push_cases, related_last, some_commands, unary_done}
