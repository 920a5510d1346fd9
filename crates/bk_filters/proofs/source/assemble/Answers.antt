use Rattle.bk_filters.proofs.PassedSections.{some_taken}
use Rattle.bk_filters.proofs.SourceLemmas.{gathered_none, not_read, no_memory, not_compiled, goes_on, is_last, stops_reading, has_read, fails_as, ◌≡◌, subst, arith, IfErr, rules, Compiled, Refuses}
use Rattle.bk_filters.proofs.source.assemble.Goals as goal

pub loop-segments-init : goal.loop-segments-init
loop-segments-init g c = rw (c.first-line.ensures, c.new-segments.ensures.items) (gathered_none _ _)

pub returns-in_err-lexer-clause-refused : goal.returns-in_err-lexer-clause-refused
returns-in_err-lexer-clause-refused g c =
    let read = c.in_err-lexer.ensures.fault in
    let refused = not_read _ _ _ (g.C.ByteIn.ended c.read_source_section.new.source) _ c.read_source_section.new.taken c.loop-segments.line c.loop-segments.invariant.passed read.0 read.1 c.read_source_section.ensures.within c.in_err-lexer.field-0.0 read.2 in
    search (refused, c.from_residual.ensures, rules)

pub returns-in_err-lexer-clause-delivered : goal.returns-in_err-lexer-clause-delivered
returns-in_err-lexer-clause-delivered g c =
    let read = c.in_err-lexer.ensures.fault in
    let reads = stops_reading _ _ _ (g.C.ByteIn.ended c.read_source_section.new.source) _ c.read_source_section.new.taken c.loop-segments.line c.loop-segments.invariant.passed read.0 read.1 c.read_source_section.ensures.within c.in_err-lexer.field-0.0 read.2 in
    let same : IfErr c.from_residual.result (λ f. f ≡ c.in_err-lexer.field-0.0) = search (c.from_residual.ensures, rules) in
    fails_as _ _ _ _ c.from_residual.ensures.0 same reads

pub returns-in_err-section-clause-refused : goal.returns-in_err-section-clause-refused
returns-in_err-section-clause-refused g c =
    let read = c.in_ok-lexer.ensures.read in
    let refuses = subst (λ n. Refuses c.in_err-section.field-0.0 c.in_ok-lexer.lexer.bytes n) c.in_ok-lexer.ensures.line c.in_err-section.ensures.refuses in
    let refused = not_compiled _ _ _ _ _ c.read_source_section.new.taken c.loop-segments.line c.loop-segments.invariant.passed c.in_ok-lexer.lexer.bytes read.0 c.read_source_section.ensures.within read.1 c.in_err-section.field-0.0 refuses in
    search (refused, c.from_residual-in_err-section.ensures, rules)

pub returns-in_default-clause-refused : goal.returns-in_default-clause-refused
returns-in_default-clause-refused g c =
    let read = c.in_ok-lexer.ensures.read in
    no_memory _ _ _ (g.C.ByteIn.ended c.read_source_section.new.source) _ c.read_source_section.new.taken c.loop-segments.line c.loop-segments.invariant.passed c.in_ok-lexer.lexer.bytes read.0 c.read_source_section.ensures.within

pub returns-in-None-clause-assembled : goal.returns-in-None-clause-assembled
returns-in-None-clause-assembled g c =
    let read = c.in_ok-lexer.ensures.read in
    let compiled = subst (λ n. Compiled c.in_ok-section.section c.in_ok-lexer.lexer.bytes n) c.in_ok-lexer.ensures.line c.in_ok-section.ensures.compiled in
    is_last _ _ _ _ _ c.read_source_section.new.taken c.loop-segments.line c.loop-segments.invariant.passed c.in_ok-lexer.lexer.bytes read.0 c.read_source_section.ensures.within read.1
    c.in_ok-section.section compiled _ _ c.loop-segments.invariant.stand c.in-Ok.ensures.generated c.in-None.is

pub loop-segments-smaller : goal.loop-segments-smaller
loop-segments-smaller g c =
    let read = c.in_ok-lexer.ensures.read in
    let compiled = subst (λ n. Compiled c.in_ok-section.section c.in_ok-lexer.lexer.bytes n) c.in_ok-lexer.ensures.line c.in_ok-section.ensures.compiled in
    let more = some_taken _ _ _ _ c.read_source_section.new.taken c.loop-segments.line c.loop-segments.invariant.passed c.in_ok-lexer.lexer.bytes read.0 c.in_ok-section.section compiled c.in-Some.next c.in-Some.is in
    omega (arith, more, c.read_source_section.ensures.within)

pub loop-segments-preserved : goal.loop-segments-preserved
loop-segments-preserved g c =
    let read = c.in_ok-lexer.ensures.read in
    let compiled = subst (λ n. Compiled c.in_ok-section.section c.in_ok-lexer.lexer.bytes n) c.in_ok-lexer.ensures.line c.in_ok-section.ensures.compiled in
    goes_on _ _ _ _ _ c.read_source_section.new.taken c.loop-segments.line c.loop-segments.invariant.passed c.in_ok-lexer.lexer.bytes read.0 c.read_source_section.ensures.within read.1
    c.in_ok-section.section compiled _ _ c.loop-segments.invariant.stand c.in-Ok.ensures.generated c.in-Some.next _ c.in-Some.is (c.in_ok-lexer.ensures.failures c.loop-segments.invariant.readable)

pub returns-in_err-section-clause-delivered : goal.returns-in_err-section-clause-delivered
returns-in_err-section-clause-delivered g c =
    let reads = has_read _ _ _ (g.C.ByteIn.ended c.read_source_section.new.source) _ c.read_source_section.new.taken c.loop-segments.line c.loop-segments.invariant.passed c.in_ok-lexer.lexer.bytes c.in_ok-lexer.ensures.read.0 c.read_source_section.ensures.within in
    search (reads, c.from_residual-in_err-section.ensures, c.in_err-section.ensures.refuses, rules)

pub returns-in_default-clause-delivered : goal.returns-in_default-clause-delivered
returns-in_default-clause-delivered g c = has_read _ _ _ (g.C.ByteIn.ended c.read_source_section.new.source) _ c.read_source_section.new.taken c.loop-segments.line c.loop-segments.invariant.passed c.in_ok-lexer.lexer.bytes c.in_ok-lexer.ensures.read.0 c.read_source_section.ensures.within

pub returns-in-None-clause-delivered : goal.returns-in-None-clause-delivered
returns-in-None-clause-delivered g c = has_read _ _ _ (g.C.ByteIn.ended c.read_source_section.new.source) _ c.read_source_section.new.taken c.loop-segments.line c.loop-segments.invariant.passed c.in_ok-lexer.lexer.bytes c.in_ok-lexer.ensures.read.0 c.read_source_section.ensures.within
