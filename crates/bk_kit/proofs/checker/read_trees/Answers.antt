use Rattle.bk_kit.proofs.Terms.{◌≡◌, ◌⊎◌, ◌++◌, sym, subst, arith, List, [], map, rules, Declarations, declarations_of, KitFault, trees_in, Compiled, Refuses, HasTheseTrees, is_read_fault, NotAssembled, ReadsSource, IsAdded, some_taken, WithTrees, trees_none, not_read, no_memory, not_compiled, trees_go_on, trees_end, stops_reading, has_read, HintsAt, IsCut, line_after, column_after}
use Rattle.bk_kit.proofs.HintLemmas.{reached_none, reached_on, hinted, not_hinted, in_source, none_yet, all_later, all_pushed}
use Rattle.bk_kit.proofs.checker.read_trees.Goals as goal

pub loop-lexer-init : goal.loop-lexer-init
loop-lexer-init g c = (rw (c.first-line.ensures, c.new-trees.ensures.items) (trees_none _ _), reached_none _ _ c.of_source-start.ensures.line c.of_source-start.ensures.column, λ none. none_yet _ _ _ none)

pub returns-in-Err-clause-refused : goal.returns-in-Err-clause-refused
returns-in-Err-clause-refused g c =
    let read = c.in-Err.ensures.fault in
    subst (λ (f : KitFault). NotAssembled f (g.C.ByteIn.left c.args.source.now) (g.C.ByteIn.left c.read_source_section.new.source) (g.C.ByteIn.ended c.read_source_section.new.source)) (sym c.no_hint.ensures.fault)
    (not_read _ _ _ (g.C.ByteIn.ended c.read_source_section.new.source) _ c.read_source_section.new.taken c.loop-lexer.line c.loop-lexer.invariant.0.passed read.0 read.1 c.read_source_section.ensures.within c.in-Err.fault read.2)

pub returns-in-Err-clause-delivered : goal.returns-in-Err-clause-delivered
returns-in-Err-clause-delivered g c =
    let read = c.in-Err.ensures.fault in
    subst (λ (f : KitFault). ReadsSource (is_read_fault f) (g.C.ByteIn.left c.args.source.now) (g.C.ByteIn.left c.read_source_section.new.source)) (sym c.no_hint.ensures.fault)
    (stops_reading _ _ _ (g.C.ByteIn.ended c.read_source_section.new.source) _ c.read_source_section.new.taken c.loop-lexer.line c.loop-lexer.invariant.0.passed read.0 read.1 c.read_source_section.ensures.within c.in-Err.fault read.2)

pub returns-in-Err-compile_section-clause-refused : goal.returns-in-Err-compile_section-clause-refused
returns-in-Err-compile_section-clause-refused g c =
    let read = c.in-Ok.ensures.read in
    let refuses = subst (λ n. Refuses c.in-Err-compile_section.fault c.in-Ok.lexer.bytes n) c.in-Ok.ensures.line c.in-Err-compile_section.ensures.refuses in
    subst (λ (f : KitFault). NotAssembled f (g.C.ByteIn.left c.args.source.now) (g.C.ByteIn.left c.read_source_section.new.source) (g.C.ByteIn.ended c.read_source_section.new.source)) (sym c.refused.ensures.fault)
    (not_compiled _ _ _ _ _ c.read_source_section.new.taken c.loop-lexer.line c.loop-lexer.invariant.0.passed c.in-Ok.lexer.bytes read.0 c.read_source_section.ensures.within read.1 c.in-Err-compile_section.fault refuses)

pub loop-lexer-smaller : goal.loop-lexer-smaller
loop-lexer-smaller g c =
    let read = c.in-Ok.ensures.read in
    let compiled = subst (λ n. Compiled c.in-Ok-compile_section.section c.in-Ok.lexer.bytes n) c.in-Ok.ensures.line c.in-Ok-compile_section.ensures.compiled in
    let more = some_taken _ _ _ _ c.read_source_section.new.taken c.loop-lexer.line c.loop-lexer.invariant.0.passed c.in-Ok.lexer.bytes read.0 c.in-Ok-compile_section.section compiled c.in-Some.next c.in-Some.is in
    omega (arith, more, c.read_source_section.ensures.within)

pub returns-in_default-clause-refused : goal.returns-in_default-clause-refused
returns-in_default-clause-refused g c =
    let read = c.in-Ok.ensures.read in
    subst (λ (f : KitFault). NotAssembled f (g.C.ByteIn.left c.args.source.now) (g.C.ByteIn.left c.read_source_section.new.source) (g.C.ByteIn.ended c.read_source_section.new.source)) (sym c.no_hint-in_default.ensures.fault)
    (no_memory _ _ _ (g.C.ByteIn.ended c.read_source_section.new.source) _ c.read_source_section.new.taken c.loop-lexer.line c.loop-lexer.invariant.0.passed c.in-Ok.lexer.bytes read.0 c.read_source_section.ensures.within)

pub returns-in-None-clause-trees : goal.returns-in-None-clause-trees
returns-in-None-clause-trees g c =
    let read = c.in-Ok.ensures.read in
    let compiled = subst (λ n. Compiled c.in-Ok-compile_section.section c.in-Ok.lexer.bytes n) c.in-Ok.ensures.line c.in-Ok-compile_section.ensures.compiled in
    let all : map declarations_of c.push_tree.new.trees.items ≡ map declarations_of c.loop-lexer.trees.items ++ trees_in c.in-Ok-compile_section.section.code = search rules in
    subst (λ (trees : List Declarations). HasTheseTrees trees (g.C.ByteIn.left c.args.source.now) (g.C.ByteIn.left c.read_source_section.new.source) (g.C.ByteIn.ended c.read_source_section.new.source)) (sym all)
    (trees_end _ _ _ _ _ c.read_source_section.new.taken c.loop-lexer.line c.loop-lexer.invariant.0.passed c.in-Ok.lexer.bytes read.0 c.read_source_section.ensures.within read.1
    c.in-Ok-compile_section.section compiled (map declarations_of c.loop-lexer.trees.items) c.loop-lexer.invariant.0.trees_are c.in-None.is)

pub loop-lexer-preserved : goal.loop-lexer-preserved
loop-lexer-preserved g c =
    let line : c.after-start.result.line ≡ line_after c.loop-lexer.start.line c.in-Ok.lexer.bytes = search rules in
    let column : c.after-start.result.column ≡ column_after c.loop-lexer.start.column c.in-Ok.lexer.bytes = search rules in
    let read = c.in-Ok.ensures.read in
    let compiled = subst (λ n. Compiled c.in-Ok-compile_section.section c.in-Ok.lexer.bytes n) c.in-Ok.ensures.line c.in-Ok-compile_section.ensures.compiled in
    let all : map declarations_of c.push_tree.new.trees.items ≡ map declarations_of c.loop-lexer.trees.items ++ trees_in c.in-Ok-compile_section.section.code = search rules in
    let added : (c.push_tree.new.texts.texts.items ≡ c.loop-lexer.texts.texts.items) ⊎ IsAdded c.loop-lexer.start c.in-Ok.lexer.bytes c.loop-lexer.texts.texts.items c.push_tree.new.texts.texts.items = search rules in (
      subst (λ (trees : List Declarations). WithTrees (g.C.ByteIn.left c.args.source.now) (g.C.ByteIn.left c.read_source_section.new.source) c.read_source_section.new.taken c.in-Some.next trees (g.C.ByteIn.faults c.read_source_section.new.source)) (sym all)
          (trees_go_on _ _ _ _ _ c.read_source_section.new.taken c.loop-lexer.line c.loop-lexer.invariant.0.passed c.in-Ok.lexer.bytes read.0 c.read_source_section.ensures.within read.1
          c.in-Ok-compile_section.section compiled (map declarations_of c.loop-lexer.trees.items) c.loop-lexer.invariant.0.trees_are c.in-Some.next (g.C.ByteIn.faults c.read_source_section.new.source) c.in-Some.is (c.in-Ok.ensures.failures c.loop-lexer.invariant.0.readable)),
      reached_on _ _ _ _ c.loop-lexer.invariant.1 _ read.0.delivered _ line column,
      λ none. all_pushed _ _ _ _ _ _ added (all_later _ _ _ _ _ read.0.delivered (c.loop-lexer.invariant.2 none)) (in_source _ _ _ _ _ c.loop-lexer.invariant.1 read.0.delivered),
    )

pub returns-in-None-clause-texts : goal.returns-in-None-clause-texts
returns-in-None-clause-texts g c =
    let delivered = c.in-Ok.ensures.read.0.delivered in
    let added : (c.push_tree.new.texts.texts.items ≡ c.loop-lexer.texts.texts.items) ⊎ IsAdded c.loop-lexer.start c.in-Ok.lexer.bytes c.loop-lexer.texts.texts.items c.push_tree.new.texts.texts.items = search rules in
    λ none. all_pushed _ _ _ _ _ _ added (all_later _ _ _ _ _ delivered (c.loop-lexer.invariant.2 none)) (in_source _ _ _ _ _ c.loop-lexer.invariant.1 delivered)

pub returns-in-Err-compile_section-clause-delivered : goal.returns-in-Err-compile_section-clause-delivered
returns-in-Err-compile_section-clause-delivered g c =
    let reads = has_read _ _ _ (g.C.ByteIn.ended c.read_source_section.new.source) _ c.read_source_section.new.taken c.loop-lexer.line c.loop-lexer.invariant.0.passed c.in-Ok.lexer.bytes c.in-Ok.ensures.read.0 c.read_source_section.ensures.within in
    search (reads, c.refused.ensures.fault, c.in-Err-compile_section.ensures.refuses, rules)

pub returns-in_default-clause-delivered : goal.returns-in_default-clause-delivered
returns-in_default-clause-delivered g c =
    let reads = has_read _ _ _ (g.C.ByteIn.ended c.read_source_section.new.source) _ c.read_source_section.new.taken c.loop-lexer.line c.loop-lexer.invariant.0.passed c.in-Ok.lexer.bytes c.in-Ok.ensures.read.0 c.read_source_section.ensures.within in
    search (reads, c.no_hint-in_default.ensures.fault, rules)

pub returns-in-None-clause-delivered : goal.returns-in-None-clause-delivered
returns-in-None-clause-delivered g c = has_read _ _ _ (g.C.ByteIn.ended c.read_source_section.new.source) _ c.read_source_section.new.taken c.loop-lexer.line c.loop-lexer.invariant.0.passed c.in-Ok.lexer.bytes c.in-Ok.ensures.read.0 c.read_source_section.ensures.within

pub returns-in-Err-clause-hints : goal.returns-in-Err-clause-hints
returns-in-Err-clause-hints g c =
    let read = c.in-Err.ensures.fault in
    not_hinted _ _ _ _ c.loop-lexer.invariant.1 _ read.1.delivered _ c.no_hint.ensures.hints c.no_hint.ensures.cut

pub returns-in-Err-compile_section-clause-hints : goal.returns-in-Err-compile_section-clause-hints
returns-in-Err-compile_section-clause-hints g c =
    let hints : HintsAt c.loop-lexer.start c.in-Ok.lexer.bytes c.refused.result.fault c.refused.result.hints.items = search rules in
    let cut : IsCut c.loop-lexer.start c.in-Ok.lexer.bytes c.refused.result.fault c.refused.result.cut = search rules in
    hinted _ _ _ _ c.loop-lexer.invariant.1 _ c.in-Ok.ensures.read.0.delivered _ hints cut

pub returns-in_default-clause-hints : goal.returns-in_default-clause-hints
returns-in_default-clause-hints g c =
    not_hinted _ _ _ _ c.loop-lexer.invariant.1 _ c.in-Ok.ensures.read.0.delivered _ c.no_hint-in_default.ensures.hints c.no_hint-in_default.ensures.cut
