use Rattle.bk_filters.proofs.CompileLemmas.{front_empty, not_read, not_compiled, not_put, is_last, goes_on, puts_fault, subst, arith, inl, Err, IfErr, rules, PutsSections, Compiled, Refuses}
use Rattle.bk_filters.proofs.PassedSections.{some_taken}
use Rattle.bk_filters.proofs.compiler.put_sections.Goals as goal

pub loop-lexer-init : goal.loop-lexer-init
loop-lexer-init g c = rw c.first-line.ensures (front_empty _ _)

pub returns-in_err-lexer : goal.returns-in_err-lexer
returns-in_err-lexer g c =
    let read = c.in_err-lexer.ensures.fault in
    let puts = not_read _ _ _ (g.C.ByteIn.ended c.read_source_section.new.source) (g.C.ByteIn.faults c.read_source_section.new.source) _ c.read_source_section.new.taken c.loop-lexer.line _ _ c.loop-lexer.invariant read.0 read.1 c.read_source_section.ensures.within c.in_err-lexer.field-0.0 read.2 (λ short. c.in_err-lexer.ensures.failures (inl (omega (arith, short, read.1.counted)))) in
    let fault : IfErr c.from_residual.result (λ f. PutsSections (Err f) _ _ _ _ _ _) = search (puts, c.from_residual.ensures, rules) in
    record { puts = puts_fault _ _ _ _ _ _ _ c.from_residual.ensures.0 fault }

pub returns-in_err-section : goal.returns-in_err-section
returns-in_err-section g c =
    let read = c.in_ok-lexer.ensures.read in
    let refuses = subst (λ n. Refuses c.in_err-section.field-0.0 c.in_ok-lexer.lexer.bytes n) c.in_ok-lexer.ensures.line c.in_err-section.ensures.refuses in
    let puts = not_compiled _ _ _ _ _ _ c.read_source_section.new.taken c.loop-lexer.line _ _ c.loop-lexer.invariant c.in_ok-lexer.lexer.bytes read.0 c.read_source_section.ensures.within read.1 (λ short. c.in_ok-lexer.ensures.failures (inl (omega (arith, short, read.0.counted)))) c.in_err-section.field-0.0 refuses in
    let fault : IfErr c.from_residual-in_err-section.result (λ f. PutsSections (Err f) _ _ _ _ _ _) = search (puts, c.from_residual-in_err-section.ensures, rules) in
    record { puts = puts_fault _ _ _ _ _ _ _ c.from_residual-in_err-section.ensures.0 fault }

pub returns-in_default : goal.returns-in_default
returns-in_default g c =
    let read = c.in_ok-lexer.ensures.read in
    let compiled = subst (λ n. Compiled c.in_ok-section.section c.in_ok-lexer.lexer.bytes n) c.in_ok-lexer.ensures.line c.in_ok-section.ensures.compiled in
    record {
      puts = not_put _ _ _ _ _ _ c.read_source_section.new.taken c.loop-lexer.line _ _ c.loop-lexer.invariant c.in_ok-lexer.lexer.bytes read.0 c.read_source_section.ensures.within read.1 (λ short. c.in_ok-lexer.ensures.failures (inl (omega (arith, short, read.0.counted))))
          c.in_ok-section.section compiled _ c.put_code.ensures.passes c.in_default.ensures.part c.in_default.ensures.failed;
    }

pub returns-in-None : goal.returns-in-None
returns-in-None g c =
    let read = c.in_ok-lexer.ensures.read in
    let compiled = subst (λ n. Compiled c.in_ok-section.section c.in_ok-lexer.lexer.bytes n) c.in_ok-lexer.ensures.line c.in_ok-section.ensures.compiled in
    record {
      puts = is_last _ _ _ _ _ _ c.read_source_section.new.taken c.loop-lexer.line _ _ c.loop-lexer.invariant c.in_ok-lexer.lexer.bytes read.0 c.read_source_section.ensures.within read.1 (λ short. c.in_ok-lexer.ensures.failures (inl (omega (arith, short, read.0.counted))))
          c.in_ok-section.section compiled _ c.put_code.ensures.passes c.in-Ok.ensures.takes c.in-None.is;
    }

pub loop-lexer-smaller : goal.loop-lexer-smaller
loop-lexer-smaller g c =
    let read = c.in_ok-lexer.ensures.read in
    let compiled = subst (λ n. Compiled c.in_ok-section.section c.in_ok-lexer.lexer.bytes n) c.in_ok-lexer.ensures.line c.in_ok-section.ensures.compiled in
    let more = some_taken _ _ _ _ c.read_source_section.new.taken c.loop-lexer.line c.loop-lexer.invariant.passed c.in_ok-lexer.lexer.bytes read.0 c.in_ok-section.section compiled c.in-Some.next c.in-Some.is in
    omega (arith, more, c.read_source_section.ensures.within)

pub loop-lexer-preserved : goal.loop-lexer-preserved
loop-lexer-preserved g c =
    let read = c.in_ok-lexer.ensures.read in
    let compiled = subst (λ n. Compiled c.in_ok-section.section c.in_ok-lexer.lexer.bytes n) c.in_ok-lexer.ensures.line c.in_ok-section.ensures.compiled in
    goes_on _ _ _ _ _ _ c.read_source_section.new.taken c.loop-lexer.line _ _ c.loop-lexer.invariant c.in_ok-lexer.lexer.bytes read.0 c.read_source_section.ensures.within read.1 (λ short. c.in_ok-lexer.ensures.failures (inl (omega (arith, short, read.0.counted))))
    c.in_ok-section.section compiled _ c.put_code.ensures.passes c.in-Ok.ensures.takes c.in-Some.next c.in-Some.is
