-- A loop over a text comes to the places of its fault.
use Rattle.bk_lex.proofs.Terms.{◌≡◌, ℕ, ◌+◌, ◌<◌, ◌≤◌, Bool, true, false, cond, ltb, List, [], ◌∷◌, ◌++◌, get_or, take, drop, suc, length, Option, Some, None, Ok, Err, refl, sym, ap, subst, ◌∙◌, arith, inl, inr, length-append, length-take-le, take_more, append-nil, true≢false, SourceFault, SourceKind, Fault, Mode, Blank, State, Step, Act, next, fresh, end_fault, piece, ended, ended_as, ended_what, start, step_of, finished, reported_kind, lexed, is_dot, goes_on_from, then_on, state_after, Reading, no_tokens, faulty_first, faulty_after, HasFault, IsPlaced, FaultIn, Effect as nexts, Act as acts}
use Rattle.std.proofs.Math.Seq.{split_at}
use Rattle.std.proofs.lemmas.List.{take_all}
use Rattle.bk_lex.specs.declared.counting.PieceResult.TheVariants.{Nothing}
use Rattle.bk_lex.proofs.Cuts.{behind_more, counted_bytes, left_bytes}
use Rattle.bk_lex.proofs.Onward.{Here}
use Rattle.bk_lex.proofs.Faulty.{lexed_has_fault}
use Rattle.bk_lex.proofs.Faultless.{Way}
unfoldable use Rattle.bk_lex.proofs.Reach.{held_behind}
use Rattle.bk_lex.proofs.Reach.{Holding, held_after, held_on, held_by, held_more, holding}
use Rattle.bk_lex.proofs.Certain.{FirstStop, told_at, told_end}
use Rattle.bk_lex.proofs.FaultPieces.{Leaves, byte_leaves, end_leaves}

-- after its first `i` bytes: the state, and where the piece begins that is not whole
pub record Looped (text : List ℕ) (i at : ℕ) (s : State) : Type 0 where
  pub following : state_after (Some start) (take i text) ≡ Some s
  pub held : at + held_behind (Some start) 0 (take i text) ≡ i

pub looped_first : (text : List ℕ) → Looped text 0 0 start
unfolding state_after held_behind
looped_first text = record { following = refl; held = refl }

abbrev pub piece_after : Act → ℕ → ℕ → ℕ
piece_after acts.Goes at i = at
piece_after (acts.Begins g) at i = i
piece_after (acts.Names h) at i = at

held_to : (a : Act) (at n i : ℕ) → at + n ≡ i → piece_after a at i + held_after a n ≡ i + 1
held_to acts.Goes at n i e = omega (arith, e)
held_to (acts.Begins g) at n i e = refl
held_to (acts.Names h) at n i e = omega (arith, e)

pub looped_more : (text : List ℕ) (i at : ℕ) (s : State) (t : Step) → i < length text → Looped text i at s → Ok t ≡ step_of s (get_or text i 0) → false ≡ is_dot t.state.mode → Looped text (i + 1) (piece_after t.act at i) t.state
looped_more text i at s t lt l is dotless =
    let u = take i text in
    let b = get_or text i 0 in
    let n = held_behind (Some start) 0 u in
    let longer : take (i + 1) text ≡ u ++ b ∷ [] = take_more text i 0 lt in
    let held : held_behind (Some start) 0 (take (i + 1) text) ≡ held_after t.act n = ap (λ (x : List ℕ). held_behind (Some start) 0 x) longer ∙ held_more (Some start) 0 u b ∙ ap (λ (o : Option State). held_by o b n) l.following ∙ ap (λ x. held_on x n) (sym is) in
    record {
      following = ap (λ (x : List ℕ). state_after (Some start) x) longer ∙ behind_more (Some start) u b ∙ ap (λ (o : Option State). then_on o b) l.following ∙ ap goes_on_from (sym is) ∙ ap (λ (d : Bool). cond d None (Some t.state)) (sym dotless);
      held = ap (λ (k : ℕ). piece_after t.act at i + k) held ∙ held_to t.act at n i l.held;
    }

-- a text that is left has the fault in it
in_text : (kind : SourceKind) (from at i : ℕ) (text t tail : List ℕ) (b : Bool) → length text ≡ i + length tail → (b ≡ false → at + length t ≡ i) → Leaves kind from text (cond b tail (t ++ tail)) → FaultIn kind from (cond b i at) text
in_text kind from at i text t tail true n h l = record { pieces = l.0; rest = tail; cut = l.1; at = sym n; next = l.2 }
in_text kind from at i text t tail false n h l = record { pieces = l.0; rest = t ++ tail; cut = l.1; at = omega (arith, n, h refl, length-append t tail); next = l.2 }

-- the bytes of the piece, unless it is none
held_here : (t held : List ℕ) (m : Mode) (get : Option ℕ) (b : Bool) (at n i : ℕ) → (m ≡ Blank → b ≡ true) → Here t m held get → length held ≡ n → at + n ≡ i → b ≡ false → at + length t ≡ i
held_here t held m get b at n i blank (inl d) h e off = absurd (true≢false (sym (blank d.1) ∙ off))
held_here t held m get b at n i blank (inr (inl d)) h e off = let same = ap (λ (x : List ℕ). length x) d.0 in omega (arith, same, h, e)
held_here t held m get b at n i blank (inr (inr d)) h e off = let same = ap (λ (x : List ℕ). length x) d.2 in omega (arith, same, h, e)

blank_first : (s : State) (c : ℕ) (d : Bool) → s.mode ≡ Blank → faulty_first (next s.mode c) d (fresh c) (ended s) ≡ true
blank_first s c d e = ap (λ (m : Mode). faulty_first (next m c) d (fresh c) (ended_what s (piece m))) e ∙ pick d (fresh c)
  where
    pick : (d : Bool) (o : Option Mode) → faulty_first nexts.Ends d o (Ok (ended_as s Nothing)) ≡ true
    pick true o = refl
    pick false None = refl
    pick false (Some m) = refl

blank_after : (s : State) → s.mode ≡ Blank → faulty_after (end_fault s.mode) (ended s) ≡ true
blank_after s e = ap (λ (m : Mode). faulty_after (end_fault m) (ended_what s (piece m))) e

-- where the loop is at the byte that is a fault
abbrev pub at_byte : State → ℕ → ℕ → ℕ → ℕ
at_byte s c i at = cond (faulty_first (next s.mode c) (ltb s.bytes 1) (fresh c) (ended s)) i at

byte_in : (text : List ℕ) (from i at : ℕ) (s : State) (g : Fault) → i < length text → Looped text i at s → step_of s (get_or text i 0) ≡ Err g → FaultIn (reported_kind g) from (at_byte s (get_or text i 0) i at) (take (i + 1) text)
byte_in text from i at s g lt l e =
    let front = take i text in
    let c = get_or text i 0 in
    let h : Holding s (held_behind (Some start) 0 front) (no_tokens from) front = holding front from s l.following in
    let r : Reading = h.0.4.0 in
    let same : r.state ≡ s = h.0.4.1 in
    let bytes = ap (λ (x : State). x.bytes) same in
    let size = length-take-le i text (omega (arith, lt)) in
    let leaves = byte_leaves from front c h.0.0 h.0.1 r (h.0.2 (c ∷ [])) h.0.4.2 h.0.4.3 (omega (arith, bytes, left_bytes front s l.following)) g (ap (λ (x : State). step_of x c) same ∙ e) in
    subst (λ (x : State). FaultIn (reported_kind g) from (at_byte x c i at) (take (i + 1) text)) same
    (subst (λ (x : List ℕ). FaultIn (reported_kind g) from (at_byte r.state c i at) x) (sym (take_more text i 0 lt))
    (in_text (reported_kind g) from at i (front ++ c ∷ []) h.0.1 (c ∷ []) _ (omega (arith, size, length-append front (c ∷ []))) (held_here h.0.1 r.held r.state.mode h.0.0.get _ at _ i (blank_first r.state c (ltb r.state.bytes 1)) h.0.4.2 h.1 l.held) leaves))

-- where it is at the text's end
abbrev pub at_end : State → ℕ → ℕ → ℕ
at_end s i at = cond (faulty_after (end_fault s.mode) (ended s)) i at

end_in : (text : List ℕ) (from at : ℕ) (s : State) (g : Fault) → Looped text (length text) at s → finished s ≡ Err g → FaultIn (reported_kind g) from (at_end s (length text) at) (take (length text + 1) text)
end_in text from at s g l e =
    let all : take (length text) text ≡ text = take_all (length text) text (omega arith) in
    let following : state_after (Some start) text ≡ Some s = ap (λ (x : List ℕ). state_after (Some start) x) (sym all) ∙ l.following in
    let held : at + held_behind (Some start) 0 text ≡ length text = ap (λ (x : List ℕ). at + held_behind (Some start) 0 x) (sym all) ∙ l.held in
    let h : Holding s (held_behind (Some start) 0 text) (no_tokens from) text = holding text from s following in
    let r : Reading = h.0.4.0 in
    let same : r.state ≡ s = h.0.4.1 in
    let way = subst (λ (x : List ℕ). Way (no_tokens from) x (h.0.1 ++ []) h.0.0) (append-nil text) (h.0.2 []) in
    let leaves = end_leaves from text h.0.0 h.0.1 r way h.0.4.2 h.0.4.3 (counted_bytes text s following) (end_fault r.state.mode) g refl (ap finished same ∙ e) in
    subst (λ (x : State). FaultIn (reported_kind g) from (at_end x (length text) at) (take (length text + 1) text)) same
    (subst (λ (x : List ℕ). FaultIn (reported_kind g) from (at_end r.state (length text) at) x) (sym (take_all (length text + 1) text (omega arith)))
    (in_text (reported_kind g) from at (length text) text h.0.1 [] _ (omega arith) (held_here h.0.1 r.held r.state.mode h.0.0.get _ at _ (length text) (blank_after r.state) h.0.4.2 h.1 held) leaves))

-- ---- the answer

abbrev pub Places : ℕ → SourceFault → ℕ → ℕ → List ℕ → Type 0
Places from f byte piece text = HasFault from f text × IsPlaced from f byte piece text × (piece ≤ byte)

cond_within : (b : Bool) (i at : ℕ) → at ≤ i → cond b i at ≤ i
cond_within true i at le = omega arith
cond_within false i at le = le

pub byte_places : (text : List ℕ) (from i at : ℕ) (s : State) (f : SourceFault) (g : Fault) → i < length text → Looped text i at s → Err g ≡ step_of s (get_or text i 0) → lexed text from ≡ Err f → f.kind ≡ reported_kind g → Places from f i (at_byte s (get_or text i 0) i at) text
byte_places text from i at s f g lt l e h k =
    let c = get_or text i 0 in
    let stop : FirstStop start text = (take i text, c, drop (suc i) text, s, split_at text i 0 lt, l.following, behind_more (Some start) (take i text) c ∙ ap (λ (o : Option State). then_on o c) l.following ∙ ap goes_on_from (sym e)) in
    let reported = told_at text from f h stop in
    (lexed_has_fault text from f h, (inl (reported.0, reported.1 ∙ length-take-le i text (omega (arith, lt))), subst (λ (x : SourceKind). FaultIn x from (at_byte s c i at) (take (i + 1) text)) (sym k) (byte_in text from i at s g lt l (sym e))), cond_within _ i at (omega (arith, l.held)))

pub end_places : (text : List ℕ) (from at : ℕ) (s : State) (f : SourceFault) (g : Fault) → Looped text (length text) at s → Err g ≡ finished s → lexed text from ≡ Err f → f.kind ≡ reported_kind g → Places from f (length text) (at_end s (length text) at) text
end_places text from at s f g l e h k =
    let all : take (length text) text ≡ text = take_all (length text) text (omega arith) in
    let following : state_after (Some start) text ≡ Some s = ap (λ (x : List ℕ). state_after (Some start) x) (sym all) ∙ l.following in
    (lexed_has_fault text from f h, (inr (told_end text from f s h following, refl), subst (λ (x : SourceKind). FaultIn x from (at_end s (length text) at) (take (length text + 1) text)) (sym k) (end_in text from at s g l (sym e))), cond_within _ (length text) at (omega (arith, l.held)))
