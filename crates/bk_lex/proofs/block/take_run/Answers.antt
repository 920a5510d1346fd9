use Rattle.bk_lex.proofs.Terms.{arith}
use Rattle.bk_lex.proofs.BlockLemmas.{comment_run, word_run, text_run}
use Rattle.bk_lex.proofs.block.take_run.Goals as goal

pub returns-in-Comment-clause-goes : goal.returns-in-Comment-clause-goes
returns-in-Comment-clause-goes c = λ text line marks goes.
    let w = c.after_run-to.ensures.within in
    comment_run text c.args.bytes.now line marks c.args.state.now c.args.from goes c.after_run-to.result w.0 (omega arith) (omega arith) c.in-Comment.is c.after_run-to.ensures.run

pub returns-in-Word-clause-goes : goal.returns-in-Word-clause-goes
returns-in-Word-clause-goes c = λ text line marks goes.
    let w = c.rest_of_word-rest.ensures.within in
    word_run text c.args.bytes.now line marks c.args.state.now c.args.from goes c.rest_of_word-rest.result.end w.0 (omega arith) (omega arith)
    c.in-Word.length c.in-Word.code c.in-Word.is c.rest_of_word-rest.ensures.run (omega arith) c.rest_of_word-rest.result.code c.rest_of_word-rest.ensures.code

pub returns-in-Text-clause-goes : goal.returns-in-Text-clause-goes
returns-in-Text-clause-goes c = λ text line marks goes.
    let w = c.after_run-to-in-Text.ensures.within in
    text_run text c.args.bytes.now line marks c.args.state.now c.args.from goes c.after_run-to-in-Text.result w.0 (omega arith) (omega arith)
    c.in-Text.held c.in-Text.is c.after_run-to-in-Text.ensures.run (omega arith)
