-- The lemmas of this crate that the proofs of the crates above cite. They import no other file of this folder.
pub use Rattle.bk_grammar.proofs.Before.{At_head, Before, Inv, May_miss, Ready, behind_ok, closes_kind, falls, in_block_is, inner_ok, limit_ok, mono, opens_kind, split}
pub use Rattle.bk_grammar.proofs.Complete.{complete}
pub use Rattle.bk_grammar.proofs.Fits.{After, Fit, FitUnder, Fits, ForCommand, ForDeclaration, ForDefinition, ForExpression, ForSymbol, Tagged}
pub use Rattle.bk_grammar.proofs.Fitting.{more_names, step_fits}
pub use Rattle.bk_grammar.proofs.Lists.{definitions_all, each_of, semis_refl, value_last, vector_last}
pub use Rattle.bk_grammar.proofs.Moves.{added, ends_of, full_of, guarded_does, guarded_filled, inside_of, of_let}
pub use Rattle.bk_grammar.proofs.SameTags.{one_tag}
pub use Rattle.bk_grammar.proofs.Sound.{build_binary, call_does, call_filled}
pub use Rattle.bk_grammar.proofs.Steps.{Takes, alike, count_then, less_eq, no_comma, pushes, repeated, same_eq, size_then, stepped, takes}
pub use Rattle.bk_grammar.proofs.StepsSound.{step_sound}
