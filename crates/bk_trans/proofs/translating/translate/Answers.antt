use Rattle.bk_trans.proofs.Terms.{ap, ◌∙◌}
use Rattle.bk_tree.specs.Section.{declarations_of}
use Rattle.bk_trans.proofs.FittingLemmas.{all_at}
use Rattle.bk_trans.proofs.WholeSections.{translated}
use Rattle.bk_trans.proofs.translating.translate.Goals as goal

pub new-requires-clause-section : goal.new-requires-clause-section
new-requires-clause-section c = (translated (c.decls-decls.ensures.tree ∙ ap declarations_of c.section.ensures) c.meanings.ensures c.words-words.ensures c.deref.ensures.value c.is_known.ensures c.decls-decls.ensures.within c.words_fit.ensures c.in_ok-stmts.ensures c.stmts_fit.ensures).section

pub new-requires-clause-typed : goal.new-requires-clause-typed
new-requires-clause-typed c = rw (← c.deref.ensures.value) (λ k s e. (all_at _ c.stmts_fit.ensures k s e).1)

pub returns : goal.returns
returns c = c.new.ensures ∙ (translated (c.decls-decls.ensures.tree ∙ ap declarations_of c.section.ensures) c.meanings.ensures c.words-words.ensures c.deref.ensures.value c.is_known.ensures c.decls-decls.ensures.within c.words_fit.ensures c.in_ok-stmts.ensures c.stmts_fit.ensures).are
