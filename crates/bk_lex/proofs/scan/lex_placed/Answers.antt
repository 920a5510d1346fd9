use Rattle.bk_lex.proofs.Terms.{refl, ℕ, Bool, cond, get_or, State, SourceFault, Act, subst, ap, ◌∙◌, ◌≡◌, ◌+◌, length, slice_range, sym, arith, symbols_of, Step, stepped, reading, lexed}
use Rattle.bk_lex.proofs.Sound.{within_bytes}
use Rattle.bk_lex.proofs.Steps.{bad, stops, goes_on, end_bad, end_good, joined_goes, joined_begins, joined_names, Joined, Before}
use Rattle.bk_lex.proofs.FaultLoop.{Looped, looped_first, looped_more, piece_after, at_byte, Places, byte_places, end_places}
use Rattle.bk_lex.proofs.scan.lex_placed.Goals as goal
use Rattle.bk_lex.proofs.scan.lex_placed.Goals.{then-begins_fault, else-begins_fault, then-lacks_piece, else-lacks_piece, in-Goes, in-Begins+in_ok-put-in-Begins, in-Names+in_ok-put_header-in-Names}

pub returns-in-Err-clause-gives : goal.returns-in-Err-clause-gives
returns-in-Err-clause-gives c =
    let e = c.placed_fault.ensures in
    rw (e, c.in-Err.ensures.keeps) (bad (reading _ _ _ _ _) c.args.text.now c.loop-i.i c.in-Err.fault _ c.loop-i-test.true c.loop-i.invariant.same c.in-Err.ensures.answers)

pub returns-in-Err-clause-places : goal.returns-in-Err-clause-places
returns-in-Err-clause-places c =
    let i = c.loop-i.i in
    let at = c.loop-i.start in
    let piece : c.if-begins_fault.result ≡ cond c.begins_fault.result i at = elim c.if-begins_fault.branch [
      | then-begins_fault w ↦ w.result-is ∙ ap (λ (b : Bool). cond b i at) (sym w.if-begins_fault.true)
      | else-begins_fault w ↦ w.result-is ∙ ap (λ (b : Bool). cond b i at) (sym w.if-begins_fault.false)
    ] in
    let place = piece ∙ ap (λ (b : Bool). cond b i at) c.begins_fault.ensures ∙ ap (λ (s : State). at_byte s (get_or c.args.text.now i 0) i at) c.in-Err.ensures.keeps in
    let kind = ap (λ (f : SourceFault). f.kind) c.placed_fault.ensures in
    subst (λ (k : ℕ). Places c.args.from c.placed_fault.result i k c.args.text.now) (sym place) (byte_places c.args.text.now c.args.from i at c.loop-i.state c.placed_fault.result c.in-Err.fault c.loop-i-test.true c.loop-i.invariant.looped c.in-Err.ensures.answers (returns-in-Err-clause-gives c) kind)

pub returns-then-is_dot-clause-gives : goal.returns-then-is_dot-clause-gives
returns-then-is_dot-clause-gives c =
    let text = c.args.text.now in
    let i = c.loop-i.i in
    let t : Step = stepped c.take_byte.new.state c.in-Ok.act in
    let before : Before text i (symbols_of c.loop-i.tokens.items) c.loop-i.state c.loop-i.start c.loop-i.place t (lexed text c.args.from) = (c.loop-i.invariant.order, c.loop-i-test.true, c.loop-i.invariant.same, c.in-Ok.ensures.answers) in
    let j : Joined text i (symbols_of c.match-act.tokens.items) c.match-act.start c.match-act.place t (lexed text c.args.from) = elim c.match-act.branch [
      | in-Goes w ↦ rw (w.tokens-is, w.start-is, w.place-is) (joined_goes text i (symbols_of c.loop-i.tokens.items) c.loop-i.state c.loop-i.start c.loop-i.place t (lexed text c.args.from) before w.in-Goes.is)
      | in-Begins+in_ok-put-in-Begins w ↦ rw (w.tokens-is, w.start-is, w.place-is, w.in_ok-put-in-Begins.ensures, w.place_after-place.ensures) (joined_begins text i (symbols_of c.loop-i.tokens.items) c.loop-i.state c.loop-i.start c.loop-i.place t (lexed text c.args.from) w.in-Begins.given before w.in-Begins.is)
      | in-Names+in_ok-put_header-in-Names w ↦ rw (w.tokens-is, w.start-is, w.place-is, w.in_ok-put_header-in-Names.ensures) (joined_names text i (symbols_of c.loop-i.tokens.items) c.loop-i.state c.loop-i.start c.loop-i.place t (lexed text c.args.from) w.in-Names.header before w.in-Names.is)
    ] in
    stops (reading (symbols_of c.match-act.tokens.items) t.state (slice_range text c.match-act.start (i + 1)) c.match-act.place (i + 1)) _ _ c.if-is_dot.ensures j.1

pub loop-i-init : goal.loop-i-init
loop-i-init c = rw (c.start-state.ensures, c.in_ok-tokens.ensures.items) record { order = omega arith; counted = refl; same = refl; looped = looped_first c.args.text.now }

pub loop-i-preserved : goal.loop-i-preserved
loop-i-preserved c =
    let text = c.args.text.now in
    let i = c.loop-i.i in
    let t : Step = stepped c.take_byte.new.state c.in-Ok.act in
    let before : Before text i (symbols_of c.loop-i.tokens.items) c.loop-i.state c.loop-i.start c.loop-i.place t (lexed text c.args.from) = (c.loop-i.invariant.order, c.loop-i-test.true, c.loop-i.invariant.same, c.in-Ok.ensures.answers) in
    let j : Joined text i (symbols_of c.match-act.tokens.items) c.match-act.start c.match-act.place t (lexed text c.args.from) = elim c.match-act.branch [
      | in-Goes w ↦ rw (w.tokens-is, w.start-is, w.place-is) (joined_goes text i (symbols_of c.loop-i.tokens.items) c.loop-i.state c.loop-i.start c.loop-i.place t (lexed text c.args.from) before w.in-Goes.is)
      | in-Begins+in_ok-put-in-Begins w ↦ rw (w.tokens-is, w.start-is, w.place-is, w.in_ok-put-in-Begins.ensures, w.place_after-place.ensures) (joined_begins text i (symbols_of c.loop-i.tokens.items) c.loop-i.state c.loop-i.start c.loop-i.place t (lexed text c.args.from) w.in-Begins.given before w.in-Begins.is)
      | in-Names+in_ok-put_header-in-Names w ↦ rw (w.tokens-is, w.start-is, w.place-is, w.in_ok-put_header-in-Names.ensures) (joined_names text i (symbols_of c.loop-i.tokens.items) c.loop-i.state c.loop-i.start c.loop-i.place t (lexed text c.args.from) w.in-Names.header before w.in-Names.is)
    ] in
    let left = within_bytes c.loop-i.state.bytes _ t (sym c.in-Ok.ensures.answers) in
    let begins : c.match-act.start ≡ piece_after t.act c.loop-i.start i = elim c.match-act.branch [
      | in-Goes w ↦ w.start-is ∙ ap (λ (a : Act). piece_after a c.loop-i.start i) (sym w.in-Goes.is)
      | in-Begins+in_ok-put-in-Begins w ↦ w.start-is ∙ ap (λ (a : Act). piece_after a c.loop-i.start i) (sym w.in-Begins.is)
      | in-Names+in_ok-put_header-in-Names w ↦ w.start-is ∙ ap (λ (a : Act). piece_after a c.loop-i.start i) (sym w.in-Names.is)
    ] in
    let looped = subst (λ (k : ℕ). Looped text (i + 1) k t.state) (sym begins) (looped_more text i c.loop-i.start c.loop-i.state t c.loop-i-test.true c.loop-i.invariant.looped c.in-Ok.ensures.answers c.if-is_dot.ensures) in
    record { looped = looped; order = j.0; counted = omega (arith, left, c.loop-i.invariant.counted); same = goes_on (reading (symbols_of c.match-act.tokens.items) t.state (slice_range text c.match-act.start (i + 1)) c.match-act.place (i + 1)) _ _ c.if-is_dot.ensures j.1 }

pub returns-in-Err-finished-clause-gives : goal.returns-in-Err-finished-clause-gives
returns-in-Err-finished-clause-gives c = grind (arith, (end_bad (reading _ _ _ _ _) c.args.text.now c.loop-i.i c.in-Err-finished.fault _ c.loop-i-test.false c.loop-i.invariant.same c.in-Err-finished.ensures))

pub returns-in-Err-finished-clause-places : goal.returns-in-Err-finished-clause-places
returns-in-Err-finished-clause-places c =
    let size = length c.args.text.now in
    let at = c.loop-i.start in
    let end : c.loop-i.i ≡ size = omega arith in
    let piece : c.if-lacks_piece.result ≡ cond c.lacks_piece.result size at = elim c.if-lacks_piece.branch [
      | then-lacks_piece w ↦ w.result-is ∙ ap (λ (b : Bool). cond b size at) (sym w.if-lacks_piece.true)
      | else-lacks_piece w ↦ w.result-is ∙ ap (λ (b : Bool). cond b size at) (sym w.if-lacks_piece.false)
    ] in
    let place = piece ∙ ap (λ (b : Bool). cond b size at) c.lacks_piece.ensures in
    let looped = subst (λ (k : ℕ). Looped c.args.text.now k at c.loop-i.state) end c.loop-i.invariant.looped in
    let kind = ap (λ (f : SourceFault). f.kind) c.placed_fault-in-Err-finished.ensures in
    subst (λ (k : ℕ). Places c.args.from c.placed_fault-in-Err-finished.result size k c.args.text.now) (sym place) (end_places c.args.text.now c.args.from at c.loop-i.state c.placed_fault-in-Err-finished.result c.in-Err-finished.fault looped c.in-Err-finished.ensures (returns-in-Err-finished-clause-gives c) kind)

pub returns-clause-gives : goal.returns-clause-gives
returns-clause-gives c =
    let k : length c.args.text.now ≡ c.loop-i.i = omega arith in
    let p = c.in_ok-put.ensures in
    rw (p, k) (end_good (reading _ _ _ _ _) c.args.text.now c.loop-i.i c.in-Ok-finished.given _ c.loop-i-test.false c.loop-i.invariant.same c.in-Ok-finished.ensures)
