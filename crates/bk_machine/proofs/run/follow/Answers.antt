use Rattle.bk_machine.proofs.RunSteps.{paused_goes, paused_asks, paused_outputs, finished_outputs, went_part, exchanged_took, went_own, went_ask_fails, ℕ, Some, Err, ◌≡◌, ◌≢◌, refl, sym, ◌∙◌, ap, ReadFault, WriteFault, Answer, Answer as answer, turn_of, byte_or_end, words_in}
use Rattle.bk_machine.proofs.run.follow.Goals as goal

pub returns-in-Goes-clause-went : goal.returns-in-Goes-clause-went
returns-in-Goes-clause-went g c = λ before start own turned.
    paused_goes _ _ _ _ _ _ (turned ∙ ap (λ e. turn_of (Some e) (words_in c.args.store) c.args.r.now) c.in-Goes.is)

pub returns-in-Ends-clause-went : goal.returns-in-Ends-clause-went
returns-in-Ends-clause-went g c = λ before start own turned.
    went_own _ _ _ _ _ c.in-Ends.end _ (rw c.in-Ends.is at own).0
    (turned ∙ ap (λ e. turn_of (Some e) (words_in c.args.store) c.args.r.now) c.in-Ends.is)

pub returns-in-Ok-true-clause-went : goal.returns-in-Ok-true-clause-went
returns-in-Ok-true-clause-went g c = λ before start own turned.
    paused_outputs _ _ _ c.in-Outputs.what _ _ (turned ∙ ap (λ e. turn_of (Some e) (words_in c.args.store) c.args.r.now) c.in-Outputs.is)
    _ _ (sym c.in-Ok-true.ensures.text.0 ∙ c.in-Ok-true.field-0-test) (exchanged_took _ _ _ _ _ _ _ _ c.in-Ok-true.ensures.text.1) (refl, refl)

pub returns-in-Ok-false-clause-went : goal.returns-in-Ok-false-clause-went
returns-in-Ok-false-clause-went g c = λ before start own turned.
    finished_outputs _ _ _ c.in-Outputs.what _ _ (turned ∙ ap (λ e. turn_of (Some e) (words_in c.args.store) c.args.r.now) c.in-Outputs.is)
    _ _ (sym c.in-Ok-false.ensures.text.0 ∙ c.in-Ok-false.field-0-test) (exchanged_took _ _ _ _ _ _ _ _ c.in-Ok-false.ensures.text.1) (refl, refl)

pub returns-in-Err-clause-went : goal.returns-in-Err-clause-went
returns-in-Err-clause-went g c = λ before start own turned.
    went_part _ _ _ _ _ c.in-Outputs.what _ _ (turned ∙ ap (λ e. turn_of (Some e) (words_in c.args.store) c.args.r.now) c.in-Outputs.is)
    c.in-Err.ensures.text (exchanged_took _ _ _ _ _ _ _ _ c.in-Err.ensures.text.appends) (refl, refl)

read_is_no_write : (a : Answer) → a ≡ answer.ReadFault → byte_or_end a ≢ Err WriteFault
read_is_no_write a is = rw is (λ same. cc)

word_is_no_write : (a : Answer) (word : ℕ) → a ≡ answer.Word word → byte_or_end a ≢ Err WriteFault
word_is_no_write a word is = rw is (λ same. cc)

pub returns-in-ReadFault-clause-went : goal.returns-in-ReadFault-clause-went
returns-in-ReadFault-clause-went g c = λ before start own turned.
    let still = rw c.in-ReadFault.is at c.ask.ensures.still in
    let unready = rw c.in-ReadFault.is at c.ask.ensures.unready in
    went_ask_fails _ _ _ (words_in c.args.store) c.args.r.now _ _ 0 _ _ _ _ (turned ∙ ap (λ e. turn_of (Some e) (words_in c.args.store) c.args.r.now) c.in-Asks.is)
    (record { left = still.0; held = still.2; ended = still.1; taken = still.3; passes = c.ask.ensures.passes })
    unready.0 unready.1 ReadFault (rw c.in-ReadFault.is at c.ask.ensures.cause)
    (λ sound other. c.ask.ensures.flushed unready.0 unready.1 sound (read_is_no_write _ c.in-ReadFault.is))

pub returns-in-WriteFault-clause-went : goal.returns-in-WriteFault-clause-went
returns-in-WriteFault-clause-went g c = λ before start own turned.
    let still = rw c.in-WriteFault.is at c.ask.ensures.still in
    let unready = rw c.in-WriteFault.is at c.ask.ensures.unready in
    went_ask_fails _ _ _ (words_in c.args.store) c.args.r.now _ _ _ _ _ _ _ (turned ∙ ap (λ e. turn_of (Some e) (words_in c.args.store) c.args.r.now) c.in-Asks.is)
    (record { left = still.0; held = still.2; ended = still.1; taken = still.3; passes = c.ask.ensures.passes })
    unready.0 unready.1 WriteFault (rw c.in-WriteFault.is at c.ask.ensures.cause)
    (λ sound other. absurd (other refl))

pub returns-in-Word-clause-went : goal.returns-in-Word-clause-went
returns-in-Word-clause-went g c = λ before start own turned.
    paused_asks _ _ _ _ _ _ _ _ (turned ∙ ap (λ e. turn_of (Some e) (words_in c.args.store) c.args.r.now) c.in-Asks.is)
    (rw c.in-Word.is at c.ask.ensures.answered)
    (λ none going. c.ask.ensures.flushed none going (rw c.in-Word.is at c.ask.ensures.sound) (word_is_no_write _ _ c.in-Word.is))
