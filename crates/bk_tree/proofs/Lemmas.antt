-- The lemmas of this crate that the proofs of the crates above cite. They import no other file of this folder.
pub use Rattle.bk_tree.proofs.Counts.{eq_is, is_more, is_zero}
pub use Rattle.bk_tree.proofs.Trees.{Apply_is, Assign_is, Block_is, Call_is, Constants_is, For_is, Let_is, Table_is, Variables_is, commands_depth, commands_nodes, counts, declarations_depth, declarations_nodes, definitions_depth, definitions_nodes, each_depth, each_nodes, expressions_count, items_depth, items_nodes, more_sizes, one_more, starts_depth, starts_nodes}
