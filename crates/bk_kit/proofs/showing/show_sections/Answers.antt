use Rattle.bk_kit.proofs.ShowLemmas.{showing_none, section_not_read, section_not_compiled, section_without_memory, section_not_put, section_is_last, section_goes_on, shows_err, subst, arith, Err, IfErr, rules, Compiled, Refuses, some_taken, ShowsSections}
use Rattle.bk_kit.proofs.showing.show_sections.Goals as goal

pub loop-lexer-init : goal.loop-lexer-init
loop-lexer-init g c = rw c.first-line.ensures (showing_none _ _ _ _ _)

pub returns-in_err-lexer : goal.returns-in_err-lexer
returns-in_err-lexer g c =
    let read = c.in_err-lexer.ensures.fault in
    let shows = section_not_read _ _ _ _ _ (g.C.ByteIn.ended c.read_source_section.new.source) _ c.read_source_section.new.taken c.loop-lexer.line _ (g.C.ByteIn.faults c.read_source_section.new.source) _ _ c.loop-lexer.invariant read.0 read.1 c.read_source_section.ensures.within c.in_err-lexer.field-0.0 read.2 (c.in_err-lexer.ensures.failures c.loop-lexer.invariant.read.readable) in
    let fault : IfErr c.from_residual.result (λ f. ShowsSections _ _ (Err f) _ _ _ _ _ _) = search (shows, c.from_residual.ensures, rules) in
    record { shows = shows_err _ _ _ _ _ _ _ _ _ c.from_residual.ensures.0 fault }

pub returns-in_err-section : goal.returns-in_err-section
returns-in_err-section g c =
    let read = c.in_ok-lexer.ensures.read in
    let refuses = subst (λ n. Refuses c.in_err-section.field-0.0 c.in_ok-lexer.lexer.bytes n) c.in_ok-lexer.ensures.line c.in_err-section.ensures.refuses in
    let shows = section_not_compiled _ _ _ _ _ (g.C.ByteIn.ended c.read_source_section.new.source) _ c.read_source_section.new.taken c.loop-lexer.line _ (g.C.ByteIn.faults c.read_source_section.new.source) _ _ c.loop-lexer.invariant c.in_ok-lexer.lexer.bytes read.0 c.read_source_section.ensures.within read.1 (c.in_ok-lexer.ensures.failures c.loop-lexer.invariant.read.readable) c.in_err-section.field-0.0 refuses in
    let fault : IfErr c.from_residual-in_err-section.result (λ f. ShowsSections _ _ (Err f) _ _ _ _ _ _) = search (shows, c.from_residual-in_err-section.ensures, rules) in
    record { shows = shows_err _ _ _ _ _ _ _ _ _ c.from_residual-in_err-section.ensures.0 fault }

pub returns-in-Err-Memory : goal.returns-in-Err-Memory
returns-in-Err-Memory g c =
    let read = c.in_ok-lexer.ensures.read in
    record {
      shows = section_without_memory _ _ _ _ _ (g.C.ByteIn.ended c.read_source_section.new.source) _ c.read_source_section.new.taken c.loop-lexer.line _ (g.C.ByteIn.faults c.read_source_section.new.source) _ _ c.loop-lexer.invariant c.in_ok-lexer.lexer.bytes read.0 c.read_source_section.ensures.within read.1 (c.in_ok-lexer.ensures.failures c.loop-lexer.invariant.read.readable)
          _ (search rules);
    }

pub returns-in-Err-Device : goal.returns-in-Err-Device
returns-in-Err-Device g c =
    let read = c.in_ok-lexer.ensures.read in
    record {
      shows = section_not_put _ _ _ _ _ (g.C.ByteIn.ended c.read_source_section.new.source) _ c.read_source_section.new.taken c.loop-lexer.line _ (g.C.ByteIn.faults c.read_source_section.new.source) _ _ c.loop-lexer.invariant c.in_ok-lexer.lexer.bytes read.0 c.read_source_section.ensures.within read.1 (c.in_ok-lexer.ensures.failures c.loop-lexer.invariant.read.readable)
          _ (search rules);
    }

pub returns-in-None : goal.returns-in-None
returns-in-None g c =
    let read = c.in_ok-lexer.ensures.read in
    let compiled = subst (λ n. Compiled c.in_ok-section.section c.in_ok-lexer.lexer.bytes n) c.in_ok-lexer.ensures.line c.in_ok-section.ensures.compiled in
    record {
      shows = section_is_last _ _ _ _ _ (g.C.ByteIn.ended c.read_source_section.new.source) _ c.read_source_section.new.taken c.loop-lexer.line _ (g.C.ByteIn.faults c.read_source_section.new.source) _ _ c.loop-lexer.invariant c.in_ok-lexer.lexer.bytes read.0 c.read_source_section.ensures.within read.1 (c.in_ok-lexer.ensures.failures c.loop-lexer.invariant.read.readable)
          _ c.in_ok-section.section compiled (search rules) c.in-None.is;
    }

pub loop-lexer-smaller : goal.loop-lexer-smaller
loop-lexer-smaller g c =
    let read = c.in_ok-lexer.ensures.read in
    let compiled = subst (λ n. Compiled c.in_ok-section.section c.in_ok-lexer.lexer.bytes n) c.in_ok-lexer.ensures.line c.in_ok-section.ensures.compiled in
    let more = some_taken _ _ _ _ c.read_source_section.new.taken c.loop-lexer.line c.loop-lexer.invariant.read.passed c.in_ok-lexer.lexer.bytes read.0 c.in_ok-section.section compiled c.in-Some.next c.in-Some.is in
    omega (arith, more, c.read_source_section.ensures.within)

pub loop-lexer-preserved : goal.loop-lexer-preserved
loop-lexer-preserved g c =
    let read = c.in_ok-lexer.ensures.read in
    let compiled = subst (λ n. Compiled c.in_ok-section.section c.in_ok-lexer.lexer.bytes n) c.in_ok-lexer.ensures.line c.in_ok-section.ensures.compiled in
    section_goes_on _ _ _ _ _ (g.C.ByteIn.ended c.read_source_section.new.source) _ c.read_source_section.new.taken c.loop-lexer.line _ (g.C.ByteIn.faults c.read_source_section.new.source) _ _ c.loop-lexer.invariant c.in_ok-lexer.lexer.bytes read.0 c.read_source_section.ensures.within read.1 (c.in_ok-lexer.ensures.failures c.loop-lexer.invariant.read.readable)
    _ c.in_ok-section.section compiled (search rules) c.in-Some.next c.in-Some.is
