-- Where the machine tells a fault, whole pieces are before the place that it gives, and the fault is in what comes next.
use Rattle.bk_lex.proofs.Terms.{◌≡◌, ℕ, ◌+◌, ◌≤◌, Bool, true, false, cond, ltb, List, [], ◌∷◌, ◌++◌, length, Option, Some, None, Result, Ok, Err, refl, sym, ap, subst, ◌∙◌, arith, inl, inr, ltb-true, ltb-false, length-append, append-nil, SourceKind, Fault, BadByte, SectionTooLong, BadGet, Mode, Effect, State, Step, Ended, next, fresh, piece, end_fault, moved, within, past, opened_as, begun, named, ended, finished_as, no_get, stepped, ◌>>=◌, Reading, reported_kind, faulty_first, faulty_after, Piece, CutsTo, Putting, seen, weight, Begins, PassesNext, AllPast, no_tokens, FaultNext, SourceKind as source_kinds, Effect as nexts, Act as acts, line_following, ◌⊎◌}
use Rattle.bk_lex.proofs.SignLemmas.{picks}
use Rattle.bk_lex.proofs.Modes.{piece_reads}
use Rattle.bk_lex.proofs.Goings.{reads_piece}
use Rattle.bk_lex.proofs.Wholes.{ends_longest, nothing_longest, whole_at_end, whole_if_no_fault}
use Rattle.bk_lex.proofs.Soundness.{Agrees, ended_agrees, fewer}
use Rattle.bk_lex.proofs.Onward.{Here}
use Rattle.bk_lex.proofs.Firsts.{seen_weight}
use Rattle.bk_lex.proofs.LongFaults.{past_from, past_naming, past_piece, passes_begun}
use Rattle.bk_lex.proofs.GetFaults.{err_is, no_err, lexer_error, ended_err, begun_err, good_err, Stuck, nothing_stuck, first_stuck}
use Rattle.bk_lex.proofs.Faulty.{named_next, bad_next, end_next, EndedNext, ended_next, no_byte, agreed, naming_stops, naming_ends, seen_line}
use Rattle.bk_lex.proofs.Faultless.{Way}
use Rattle.bk_lex.proofs.Continue.{way_through}
use Rattle.bk_lex.proofs.Lowest.{cuts_append}
use Rattle.bk_lex.proofs.BesideGet.{begun_way, end_way}

-- after whole pieces a text is left that has the fault
abbrev pub Leaves : SourceKind → ℕ → List ℕ → List ℕ → Type 0
Leaves kind from text rest = (ps : List Piece) × CutsTo text ps rest × FaultNext kind from (length text) ps rest

leaves_begun : (f : Fault) (from : ℕ) (text rest : List ℕ) (ps : List Piece) → CutsTo text ps rest → Begins (reported_kind f) rest → Leaves (reported_kind f) from text rest
leaves_begun f from text rest ps h1 h2 = grind arith

leaves_as : (f g : Fault) (from : ℕ) (text rest : List ℕ) → g ≡ f → Leaves (reported_kind f) from text rest → Leaves (reported_kind g) from text rest
leaves_as f g from text rest e h = subst (λ (x : Fault). Leaves (reported_kind x) from text rest) (sym e) h

leaves_stuck : (g : Fault) (from line : ℕ) (q : Putting) (text rest : List ℕ) → g ≡ BadGet → Way (no_tokens from) text rest q → q.get ≡ Some line → Stuck rest → Leaves (reported_kind g) from text rest
leaves_stuck g from line q text rest e w due s = leaves_as BadGet g from text rest e (w.pieces, w.cut, (q, line, w.tokens, due, s.0, s.1))

leaves_symbols : (g : Fault) (from line : ℕ) (q : Putting) (text rest : List ℕ) → reported_kind g ≡ source_kinds.SectionTooLong → length text ≤ 1048576 → Way (no_tokens from) text rest q → weight q ≤ 262144 → PassesNext q line rest → Leaves (reported_kind g) from text rest
leaves_symbols g from line q text rest e le w light p = subst (λ (k : SourceKind). Leaves k from text rest) (sym e) (w.pieces, w.cut, inr (le, (q, line, w.tokens, light, p)))

leaves_ended : (g : Fault) (from : ℕ) (q : Putting) (r : Reading) (text rest : List ℕ) → length text ≤ 1048576 → Way (no_tokens from) text rest q → weight q ≤ 262144 → EndedNext q r rest g → Leaves (reported_kind g) from text rest
leaves_ended g from q r text rest le w light (inl p) = leaves_symbols g from _ q text rest (ap reported_kind p.0) le w light p.1
leaves_ended g from q r text rest le w light (inr p) = leaves_stuck g from _ q text rest p.0 w p.1 p.2

-- a fault that begins is the same past the bytes
begun_past : (f : Fault) (text : List ℕ) → Begins (reported_kind f) text → past f ≡ f
begun_past f text h1 = grind arith

-- the fault of a step past the bytes
abbrev FullErr : Result Step Fault → Fault → Type 0
FullErr (Ok u) g = g ≡ SectionTooLong
FullErr (Err f) g = g ≡ past f

step_err : (n : ℕ) (y : Result Step Fault) (g : Fault) → within n y ≡ Err g → ((ltb n 1 ≡ true) × FullErr y g) ⊎ ((ltb n 1 ≡ false) × (y ≡ Err g))
step_err n y g h1 = grind (arith, picks, fewer, err_is, no_err, past)

-- a byte that begins a piece there shows that the bytes are too many
full_opened : (s : State) (m : Mode) (c : ℕ) (g : Fault) → FullErr (opened_as s c (Some m)) g → g ≡ SectionTooLong
full_opened s m c g h = by_ended (ended s) refl h
  where
    by_begun : (y : Ended) (z : Result State Fault) → begun y.state m c ≡ z → FullErr (z >>= λ t. Ok (stepped t (acts.Begins y.given))) g → g ≡ SectionTooLong
    by_begun y (Err k) e h = elim (begun_err y.state m c k e) [ inl p ↦ h ∙ ap past p.0 | inr p ↦ h ∙ ap past p.0 ]
    by_begun y (Ok t) e h = h

    by_ended : (y : Result Ended Fault) → ended s ≡ y → FullErr (y >>= λ e. (begun e.state m c >>= λ t. Ok (stepped t (acts.Begins e.given)))) g → g ≡ SectionTooLong
    by_ended (Err k) e h = elim (ended_err (piece s.mode) s k e) [ inl p ↦ h ∙ ap past p.0 | inr p ↦ h ∙ ap past p.0 ]
    by_ended (Ok y) e h = by_begun y (begun y.state m c) refl h

heads_are : (c b : ℕ) (bs : List ℕ) → c ∷ [] ≡ b ∷ bs → c ≡ b
heads_are c b bs z = cc

-- ---- at a byte

module _ (from : ℕ) (front : List ℕ) (c : ℕ) (q : Putting) (t : List ℕ) (r : Reading) (way : Way (no_tokens from) (front ++ c ∷ []) (t ++ c ∷ []) q) (here : Here t r.state.mode r.held q.get) (a : Agrees (seen q t) r.out r.state r.place r.used) (count : r.state.bytes + length front ≡ 1048576) where
  abbrev text : List ℕ
  text = front ++ c ∷ []

  line : r.place.line ≡ line_following t q.line
  line = a.line ∙ seen_line q t

  light : weight q ≤ 262144
  light = omega (arith, a.count, seen_weight q t)

  with_room : ltb r.state.bytes 1 ≡ false → length text ≤ 1048576
  with_room e = omega (arith, count, length-append front (c ∷ []), ltb-false r.state.bytes 1 e)

  full : ltb r.state.bytes 1 ≡ true → 1048576 + length (c ∷ []) ≡ length text
  full e = omega (arith, count, length-append front (c ∷ []), ltb-true r.state.bytes 1 e)

  -- the byte ends a whole piece
  through : next r.state.mode c ≡ nexts.Ends → (ps : List Piece) × CutsTo text ps (c ∷ [])
  through x = look here
    where
      look : Here t r.state.mode r.held q.get → (ps : List Piece) × CutsTo text ps (c ∷ [])
      look (inl d) = (way.pieces, subst (λ (y : List ℕ). CutsTo text way.pieces (y ++ c ∷ [])) d.0 way.cut)
      look (inr (inl d)) =
          let reads = piece_reads t r.state.mode d.1 in
          let w = whole_at_end r.state.mode c x in
          let is = reads_piece r.state.mode w.0 t reads w.1 in
          let p : Piece = record { sort = w.0; text = t } in
          (way.pieces ++ p ∷ [], cuts_append way.pieces (p ∷ []) text (t ++ c ∷ []) (c ∷ []) way.cut (c ∷ [], record { parts = refl; is = is.0; longest = ends_longest r.state.mode t c [] d.1 x; bounded = is.1 }, refl))
      look (inr (inr d)) = absurd (naming_stops t r.state.mode c x d.0)

  -- the bytes are too many, by a piece that goes on, or by one that begins
  bytes_on : (g : Fault) → g ≡ SectionTooLong → ltb r.state.bytes 1 ≡ true → (next r.state.mode c ≡ nexts.Ends → ⊥) → Leaves (reported_kind g) from text (t ++ c ∷ [])
  bytes_on g e f n = leaves_as SectionTooLong g from text (t ++ c ∷ []) e (way.pieces, way.cut, inl (omega (arith, full f), omega (arith, full f, length-append t (c ∷ [])), passed here))
    where
      passed : Here t r.state.mode r.held q.get → AllPast (length text) (t ++ c ∷ [])
      passed (inl d) = absurd (n (ap (λ (k : Mode). next k c) d.1))
      passed (inr (inl d)) = past_piece (length text) t c [] r.state.mode (full f) d.1 n
      passed (inr (inr d)) = past_naming (length text) t c [] r.state.mode (full f) d.0

  bytes_first : (g : Fault) → g ≡ SectionTooLong → ltb r.state.bytes 1 ≡ true → next r.state.mode c ≡ nexts.Ends → Leaves (reported_kind g) from text (c ∷ [])
  bytes_first g e f x = grind (arith, through, leaves_as, full, past_from, length)

  no_byte_leaves : (g : Fault) → next r.state.mode c ≡ nexts.Ends → fresh c ≡ None → g ≡ BadByte → Leaves (reported_kind g) from text (c ∷ [])
  no_byte_leaves g x f e = let p = through x in leaves_as BadByte g from text (c ∷ []) e (p.0, p.1, no_byte c [] f)

  begun_leaves : (m : Mode) (y : Ended) (g : Fault) → next r.state.mode c ≡ nexts.Ends → fresh c ≡ Some m → ltb r.state.bytes 1 ≡ false → ended r.state ≡ Ok y → begun y.state m c ≡ Err g → Leaves (reported_kind g) from text (c ∷ [])
  begun_leaves m y g x f b o e =
      let after = ended_agrees (piece r.state.mode) (seen q t) r.out r.state r.place r.held y a o in
      let w = way_through (no_tokens from) q after.0 text (t ++ c ∷ []) (c ∷ []) way (begun_way q t r c [] y here x after) in
      elim (begun_err y.state m c g e) [
        | inl p ↦ leaves_symbols g from _ after.0 text (c ∷ []) (ap reported_kind p.0) (with_room b) w (omega (arith, after.2.count)) (passes_begun after.0 _ y.state _ c [] m after.2 f p.1)
        | inr p ↦ leaves_stuck g from _ after.0 text (c ∷ []) p.0 w (agreed after.0 _ y.state _ after.2 p.1) (first_stuck c [] m f p.2)
      ]

  ended_leaves : (g : Fault) → next r.state.mode c ≡ nexts.Ends → ltb r.state.bytes 1 ≡ false → ended r.state ≡ Err g → Leaves (reported_kind g) from text (t ++ c ∷ [])
  ended_leaves g x b o =
      leaves_ended g from q r text (t ++ c ∷ []) (with_room b) way light
      (ended_next (c ∷ []) q t r g here a (λ d bs w. ap (next r.state.mode) (sym (heads_are c d bs w)) ∙ x) (naming_stops t r.state.mode c x) line (λ w. (whole_at_end r.state.mode c x, ends_longest r.state.mode t c [] w x)) o)

  -- where the byte's piece begins
  abbrev AtByte : Bool → Effect → Fault → Type 0
  AtByte full x g = Leaves (reported_kind g) from text (cond (faulty_first x full (fresh c) (ended r.state)) (c ∷ []) (t ++ c ∷ []))

  room_leaves : (x : Effect) (g : Fault) → ltb r.state.bytes 1 ≡ false → next r.state.mode c ≡ x → moved r.state c x ≡ Err g → AtByte false x g
  room_leaves (nexts.Goes m) g b x e = no_err _ g e
  room_leaves nexts.Ends g b x e = by_mode (fresh c) refl e
    where
      by_ended : (m : Mode) → fresh c ≡ Some m → (y : Result Ended Fault) → ended r.state ≡ y → (y >>= λ e. (begun e.state m c >>= λ s. Ok (stepped s (acts.Begins e.given)))) ≡ Err g → Leaves (reported_kind g) from text (cond (faulty_first nexts.Ends false (Some m) y) (c ∷ []) (t ++ c ∷ []))
      by_ended m f (Err k) o e = ended_leaves g x b (o ∙ ap lexer_error (err_is k g e))
      by_ended m f (Ok y) o e = begun_leaves m y g x f b o (good_err (begun y.state m c) (λ s. stepped s (acts.Begins y.given)) g e)

      by_mode : (o : Option Mode) → fresh c ≡ o → opened_as r.state c o ≡ Err g → Leaves (reported_kind g) from text (cond (faulty_first nexts.Ends false o (ended r.state)) (c ∷ []) (t ++ c ∷ []))
      by_mode None f e = no_byte_leaves g x f (sym (err_is BadByte g e))
      by_mode (Some m) f e = by_ended m f (ended r.state) refl e
  room_leaves (nexts.Names h) g b x e = let p = named_next c [] q t r h g here a x e in leaves_symbols g from _ q text (t ++ c ∷ []) (ap reported_kind p.0) (with_room b) way light p.1
  room_leaves (nexts.Bad f) g b x e = grind (arith, leaves_as, line, leaves_begun, leaves_stuck, (err_is f g e), (bad_next c [] q t r f here a line x))

  full_leaves : (x : Effect) (g : Fault) → ltb r.state.bytes 1 ≡ true → next r.state.mode c ≡ x → FullErr (moved r.state c x) g → AtByte true x g
  full_leaves (nexts.Goes m) g b x e = bytes_on g e b (λ y. let z : nexts.Goes m ≡ nexts.Ends = sym x ∙ y in cc)
  full_leaves nexts.Ends g b x e = by_mode (fresh c) refl e
    where
      by_mode : (o : Option Mode) → fresh c ≡ o → FullErr (opened_as r.state c o) g → Leaves (reported_kind g) from text (c ∷ [])
      by_mode None f e = no_byte_leaves g x f e
      by_mode (Some m) f e = bytes_first g (full_opened r.state m c g e) b x
  full_leaves (nexts.Names h) g b x e = bytes_on g (by_named (named r.state h) refl e) b (λ y. let z : nexts.Names h ≡ nexts.Ends = sym x ∙ y in cc)
    where
      by_named : (y : Result Step Fault) → named r.state h ≡ y → FullErr y g → g ≡ SectionTooLong
      by_named (Ok u) o e = e
      by_named (Err k) o e = e ∙ ap past (named_next c [] q t r h k here a x o).0
  full_leaves (nexts.Bad f) g b x e =
      elim (bad_next c [] q t r f here a line x) [
        | inl p ↦ leaves_as f g from text (t ++ c ∷ []) (e ∙ begun_past f (t ++ c ∷ []) p.0) (leaves_begun f from text (t ++ c ∷ []) way.pieces way.cut p.0)
        | inr p ↦ bytes_on g (e ∙ ap past p.0) b (λ y. let z : nexts.Bad f ≡ nexts.Ends = sym x ∙ y in cc)
      ]

  pub byte_leaves : (g : Fault) → within r.state.bytes (moved r.state c (next r.state.mode c)) ≡ Err g → AtByte (ltb r.state.bytes 1) (next r.state.mode c) g
  byte_leaves g e =
      let x = next r.state.mode c in
      elim (step_err r.state.bytes (moved r.state c x) g e) [
        | inl p ↦ subst (λ (d : Bool). AtByte d x g) (sym p.0) (full_leaves x g p.0 refl p.1)
        | inr p ↦ subst (λ (d : Bool). AtByte d x g) (sym p.0) (room_leaves x g p.0 refl p.1)
      ]

-- ---- at the text's end

module _ (from : ℕ) (text : List ℕ) (q : Putting) (t : List ℕ) (r : Reading) (way : Way (no_tokens from) text (t ++ []) q) (here : Here t r.state.mode r.held q.get) (a : Agrees (seen q t) r.out r.state r.place r.used) (count : length text ≤ 1048576) where
  whole_leaves : (g : Fault) → end_fault r.state.mode ≡ None → ended r.state ≡ Err g → Leaves (reported_kind g) from text (t ++ [])
  whole_leaves g x o =
      leaves_ended g from q r text (t ++ []) count way (omega (arith, a.count, seen_weight q t))
      (ended_next [] q t r g here a (λ c more z. no_nil z) (naming_ends t r.state.mode x) (a.line ∙ seen_line q t) (λ w. (whole_if_no_fault r.state.mode t (piece_reads t r.state.mode w) x, nothing_longest t)) o)
    where
      no_nil : {A : Type 0} {c : ℕ} {more : List ℕ} → [] ≡ c ∷ more → A
      no_nil z = absurd cc

  due_leaves : (y : Ended) (g : Fault) → end_fault r.state.mode ≡ None → ended r.state ≡ Ok y → no_get y ≡ Err g → Leaves (reported_kind g) from text []
  due_leaves y g x o e =
      let after = ended_agrees (piece r.state.mode) (seen q t) r.out r.state r.place r.held y a o in
      let w = way_through (no_tokens from) q after.0 text (t ++ []) [] way (end_way q t r y here x after) in
      elim (picks y.state.get (Err BadGet) (Ok y.given) (Err g) e) [
        | inl p ↦ leaves_stuck g from _ after.0 text [] (sym (err_is BadGet g p.1)) w (agreed after.0 _ y.state _ after.2 p.0) nothing_stuck
        | inr p ↦ no_err y.given g p.1
      ]

  pub end_leaves : (o : Option Fault) (g : Fault) → end_fault r.state.mode ≡ o → finished_as r.state o ≡ Err g → Leaves (reported_kind g) from text (cond (faulty_after o (ended r.state)) [] (t ++ []))
  end_leaves (Some f) g x e = leaves_as f g from text (t ++ []) (sym (err_is f g e)) (leaves_begun f from text (t ++ []) way.pieces way.cut (subst (λ (y : List ℕ). Begins (reported_kind f) y) (sym (append-nil t)) (end_next q t r f here (a.line ∙ seen_line q t) x).0))
  end_leaves None g x e = look (ended r.state) refl e
    where
      look : (y : Result Ended Fault) → ended r.state ≡ y → (y >>= λ e. no_get e) ≡ Err g → Leaves (reported_kind g) from text (cond (faulty_after None y) [] (t ++ []))
      look (Err h) o z = whole_leaves g x (o ∙ ap lexer_error (err_is h g z))
      look (Ok y) o z = due_leaves y g x o z
