-- The machine over the bytes of a slice: a byte, or a run of bytes that it takes alike.
use Rattle.bk_lex.proofs.Terms.{◌≡◌, ℕ, ◌+◌, ◌-◌, ◌<◌, ◌≤◌, Bool, true, false, cond, not, ◌||◌, eqb, leb, zero, suc, List, [], ◌∷◌, ◌++◌, length, Option, Some, None, Ok, Err, refl, sym, ap, subst, ◌∙◌, arith, append_assoc, append-nil, length-append, length-take-le, take_more, get_or, take, drop, slice_range, is_dot, ◌%◌, ◌^◌, at, line_after, is_letter, is_name_byte, is_feed, coded, code_from, nat_tests, Kind, Fault, SectionTooLong, BadString, Mode, Blank, Comment, Word, Text, TextEnd, TextEscape, Effect, Progress, State, Step, Act, start, then_on, cut_as, cut_after, state, stepped, next, moved, within, step_of, is_no_line_feed, Found, Effect as nexts, Act as acts}
use Rattle.bk_lex.specs.Runs.{is_in_run}
use Rattle.bk_lex.specs.declared.spans.Run.TheVariants as runs
use Rattle.bk_lex.specs.Lexers.{Marks, marks, marked, Parts, parts, Goes, HasEnded, IsRefused, Progresses, cut_at}
use Rattle.bk_lex.specs.declared.lexer.Progress.TheVariants.{Going, Ended, Refused, Stuck}
use Rattle.bk_lex.specs.declared.counting.PieceResult.TheVariants.{Nothing}
use Rattle.bk_lex.proofs.LexerLemmas.{more, held, goes_still, has_ended, is_refused}
use Rattle.bk_lex.proofs.Runs.{has_room}
use Rattle.bk_lex.proofs.SpanLemmas.{code_more}
use Rattle.std.proofs.Math.Seq.{take-add}
use Rattle.std.specs.Prelude.{min}
use Rattle.bk_lex.specs.declared.cutter.Cut.TheVariants.{More}
unfoldable use Rattle.bk_lex.specs.Cutting.{state_after}
use Rattle.bk_lex.proofs.Cuts.{none_stays}
use Rattle.bk_lex.proofs.NoDots.{goes_no_dot}

-- a state with another mode and another number of bytes
abbrev pub state_at : Mode → ℕ → State → State
state_at m n s = state m n s.symbols s.last s.fed s.get

-- ---- a byte

module _ (text bytes : List ℕ) (line : ℕ) (m : Marks) (s : State) (i : ℕ) (lt : i < length bytes) (goes : Goes (parts (text ++ take i bytes) line m) s) where
  abbrev b : ℕ
  b = get_or bytes i 0

  abbrev l : Parts
  l = parts (text ++ take i bytes) line m

  joined : l.bytes ++ b ∷ [] ≡ text ++ take (i + 1) bytes
  joined = append_assoc text (take i bytes) (b ∷ []) ∙ ap (λ (xs : List ℕ). text ++ xs) (sym (take_more bytes i 0 lt))

  pub byte_refused : (f : Fault) → Err f ≡ step_of s b → IsRefused (parts (text ++ take (i + 1) bytes) line m) s f
  byte_refused f is = subst (λ (xs : List ℕ). IsRefused (parts xs line m) s f) joined (is_refused l s b f goes is)

  module _ (t : Step) (is : Ok t ≡ step_of s b) (n : ℕ) (count : length text + i ≡ n) (after : Marks) (taken : after ≡ marked m t.act b n) where
    now : parts (text ++ take (i + 1) bytes) line after ≡ more l b t.act
    now =
        let long : length l.bytes ≡ n = length-append text (take i bytes) ∙ ap (λ k. length text + k) (length-take-le i bytes (omega (arith, lt))) ∙ count in
        ap (λ (k : Marks). parts (text ++ take (i + 1) bytes) line k) (taken ∙ ap (λ k. marked m t.act b k) (sym long))
        ∙ ap (λ (xs : List ℕ). parts xs line (marked m t.act b (length l.bytes))) (sym joined)

    pub byte_ended : true ≡ is_dot t.state.mode → HasEnded (parts (text ++ take (i + 1) bytes) line after)
    byte_ended dot = subst HasEnded (sym now) (has_ended l s b t goes is (more l b t.act) refl (held l s b t goes is t.act refl) dot)

    pub byte_still : false ≡ is_dot t.state.mode → Goes (parts (text ++ take (i + 1) bytes) line after) t.state
    byte_still dot = subst (λ (q : Parts). Goes q t.state) (sym now) (goes_still l s b t goes is (more l b t.act) refl (held l s b t goes is t.act refl) dot)

-- the incomplete piece begins at or before the byte that was taken
pub piece_before : (m after : Marks) (a : Act) (b n : ℕ) → after ≡ marked m a b n → m.piece ≤ n → after.piece ≤ n
piece_before m after a b n e le = subst (λ (k : Marks). k.piece ≤ n) (sym e) (by_act a)
  where
    by_act : (a : Act) → (marked m a b n).piece ≤ n
    by_act acts.Goes = le
    by_act (acts.Begins g) = omega arith
    by_act (acts.Names h) = le

-- ---- a run

goes_room : (s : State) (b : ℕ) (m : Mode) → next s.mode b ≡ nexts.Goes m → 1 ≤ s.bytes → step_of s b ≡ Ok (stepped (state_at m (s.bytes - 1) s) acts.Goes)
goes_room s b m e room =
    ap (λ (x : Effect). within s.bytes (moved s b x)) e
    ∙ ap (λ (c : Bool). cond c (Err SectionTooLong) (Ok (stepped (state_at m (s.bytes - 1) s) acts.Goes))) (has_room s.bytes 1 room)

space_step : (n sy : ℕ) (la : Option Kind) (fe ge : Bool) → 1 ≤ n → step_of (state Blank n sy la fe ge) 32 ≡ Ok (stepped (state Blank (n - 1) sy la fe ge) (acts.Begins Nothing))
space_step n sy la false false room = rw (has_room sy 0 (omega arith), has_room n 1 room) refl
space_step n sy la false true room = rw (has_room sy 0 (omega arith), has_room n 1 room) refl
space_step n sy la true false room = rw (has_room sy 0 (omega arith), has_room n 1 room) refl
space_step n sy la true true room = rw (has_room sy 0 (omega arith), has_room n 1 room) refl

letter_is_no_feed : (b : ℕ) → is_letter b ≡ true → eqb b 10 ≡ false
letter_is_no_feed b e = grind arith

letter_step : (n sy : ℕ) (la : Option Kind) (fe : Bool) (b : ℕ) → is_letter b ≡ true → 1 ≤ n → 1 ≤ sy → step_of (state Blank n sy la fe false) b ≡ Ok (stepped (state (Word 1 (b % 32)) (n - 1) sy la fe false) (acts.Begins Nothing))
letter_step n sy la false b e room symbols = rw (e, letter_is_no_feed b e, has_room sy 1 symbols, has_room n 1 room) refl
letter_step n sy la true b e room symbols = rw (e, has_room sy 1 symbols, has_room n 1 room) refl

comment_next : (b : ℕ) → is_no_line_feed b ≡ true → next Comment b ≡ nexts.Goes Comment
comment_next b e = by_feed (eqb b 10) e
  where
    by_feed : (c : Bool) → not c ≡ true → cond c nexts.Ends (nexts.Goes Comment) ≡ nexts.Goes Comment
    by_feed true e = cc
    by_feed false e = refl

word_next : (k code b : ℕ) → is_name_byte b ≡ true → k < 255 → next (Word k code) b ≡ nexts.Goes (Word (k + 1) (coded code b))
word_next k code b e lt = let small : leb 255 k ≡ false = grind (arith, nat_tests) in rw (e, small) refl

text_next : (k b : ℕ) → is_in_run runs.Text b ≡ true → k < 255 → next (Text k) b ≡ nexts.Goes (Text (k + 1))
text_next k b e lt = plain (is_feed b) (eqb b 34) (eqb b 42) (leb 255 k) e (grind (arith, nat_tests))
  where
    plain : (x y z w : Bool) → not (x || y || z) ≡ true → w ≡ false → cond x (nexts.Bad BadString) (cond y (nexts.Goes TextEnd) (cond z (nexts.Goes (TextEscape k)) (cond w (nexts.Bad BadString) (nexts.Goes (Text (k + 1)))))) ≡ nexts.Goes (Text (k + 1))
    plain x y z w e f = grind arith

module _ (text bytes : List ℕ) (line : ℕ) (m : Marks) (s : State) (i : ℕ) (goes : Goes (parts (text ++ take i bytes) line m) s) where
  -- bytes that go on with a piece; in which mode before each place
  still : (mode : ℕ → Mode) (n : ℕ) → s.mode ≡ mode i → ((k : ℕ) → i ≤ k → k < i + n → next (mode k) (get_or bytes k 0) ≡ nexts.Goes (mode (k + 1))) → i + n ≤ length bytes → n ≤ s.bytes
      → Goes (parts (text ++ take (i + n) bytes) line m) (state_at (mode (i + n)) (s.bytes - n) s)
  still mode zero is step fit room =
      subst (λ k. Goes (parts (text ++ take k bytes) line m) (state_at (mode k) (s.bytes - 0) s)) (let z : i ≡ i + 0 = omega arith in z)
      (subst (λ k. Goes (parts (text ++ take i bytes) line m) (state_at (mode i) k s)) (let z : s.bytes ≡ s.bytes - 0 = omega arith in z)
      (subst (λ (q : Mode). Goes (parts (text ++ take i bytes) line m) (state_at q s.bytes s)) is goes))
  still mode (suc n) is step fit room =
      let t = stepped (state_at (mode (i + n + 1)) (s.bytes - n - 1) s) acts.Goes in
      let one : Ok t ≡ step_of (state_at (mode (i + n)) (s.bytes - n) s) (get_or bytes (i + n) 0) = sym (goes_room (state_at (mode (i + n)) (s.bytes - n) s) (get_or bytes (i + n) 0) (mode (i + n + 1)) (step (i + n) (omega arith) (omega arith)) (omega (arith, room))) in
      let before = still mode n is (λ k le lt. step k le (omega (arith, lt))) (omega (arith, fit)) (omega (arith, room)) in
      subst (λ k. Goes (parts (text ++ take k bytes) line m) (state_at (mode k) (s.bytes - suc n) s)) (let z : i + n + 1 ≡ i + suc n = omega arith in z)
      (subst (λ k. Goes (parts (text ++ take (i + n + 1) bytes) line m) (state_at (mode (i + n + 1)) k s)) (let z : s.bytes - n - 1 ≡ s.bytes - suc n = omega arith in z)
      (byte_still text bytes line m (state_at (mode (i + n)) (s.bytes - n) s) (i + n) (omega (arith, fit)) before t one (length text + (i + n)) refl m refl (goes_no_dot (state_at (mode (i + n)) (s.bytes - n) s) (get_or bytes (i + n) 0) t one refl)))

  module _ (j : ℕ) (le : i ≤ j) (fit : j ≤ length bytes) (room : j - i ≤ s.bytes) where
    abbrev After : Mode → Type 0
    After q = Goes (parts (text ++ take j bytes) line m) (state_at q (s.bytes - (j - i)) s)

    run : (mode : ℕ → Mode) → s.mode ≡ mode i → ((k : ℕ) → i ≤ k → k < j → next (mode k) (get_or bytes k 0) ≡ nexts.Goes (mode (k + 1))) → After (mode j)
    run mode is step =
        let e : i + (j - i) ≡ j = omega (arith, le) in
        subst (λ k. Goes (parts (text ++ take k bytes) line m) (state_at (mode k) (s.bytes - (j - i)) s)) e (still mode (j - i) is (λ k a b. step k a (omega (arith, b, e))) (omega (arith, e, fit)) room)

    pub comment_run : s.mode ≡ Comment → ((k : ℕ) → i ≤ k → k < j → is_in_run runs.Comment (get_or bytes k 0) ≡ true) → After s.mode
    comment_run is all = subst After (sym is) (run (λ k. Comment) is (λ k a b. comment_next (get_or bytes k 0) (all k a b)))

    -- one more than before a byte
    grown : (n k : ℕ) → i ≤ k → n + (k - i) + 1 ≡ n + (k + 1 - i)
    grown n k a = omega (arith, a)

    at_first : (n : ℕ) → n ≡ n + (i - i)
    at_first n = omega arith

    pub word_run : (n code : ℕ) → s.mode ≡ Word n code → ((k : ℕ) → i ≤ k → k < j → is_name_byte (get_or bytes k 0) ≡ true) → j - i ≤ 255 - n → (last : ℕ) → last ≡ code_from code (slice_range bytes i j) → After (Word (n + (j - i)) last)
    word_run n code is all few last codes =
        let none : slice_range bytes i i ≡ [] = ap (λ k. take k (drop i bytes)) (let z : i - i ≡ 0 = omega arith in z) in
        subst (λ c. After (Word (n + (j - i)) c)) (sym codes)
        (run (λ k. Word (n + (k - i)) (code_from code (slice_range bytes i k)))
        (is ∙ ap (λ k. Word k code) (at_first n) ∙ ap (λ xs. Word (n + (i - i)) (code_from code xs)) (sym none))
        (λ k a b.
        word_next (n + (k - i)) (code_from code (slice_range bytes i k)) (get_or bytes k 0) (all k a b) (omega (arith, a, b, few))
        ∙ ap (λ q. nexts.Goes (Word q (coded (code_from code (slice_range bytes i k)) (get_or bytes k 0)))) (grown n k a)
        ∙ ap (λ c. nexts.Goes (Word (n + (k + 1 - i)) c)) (sym (code_more code bytes i k a (omega (arith, b, fit))))))

    pub text_run : (n : ℕ) → s.mode ≡ Text n → ((k : ℕ) → i ≤ k → k < j → is_in_run runs.Text (get_or bytes k 0) ≡ true) → j - i ≤ 255 - n → After (Text (n + (j - i)))
    text_run n is all few =
        run (λ k. Text (n + (k - i))) (is ∙ ap Text (at_first n))
        (λ k a b. text_next (n + (k - i)) (get_or bytes k 0) (all k a b) (omega (arith, a, b, few)) ∙ ap (λ q. nexts.Goes (Text q)) (grown n k a))

-- a byte that begins a piece where nothing was found before it, and no line
begun : (text bytes : List ℕ) (line : ℕ) (m : Marks) (s t : State) (i : ℕ) → Goes (parts (text ++ take i bytes) line m) s → i < length bytes → step_of s (get_or bytes i 0) ≡ Ok (stepped t (acts.Begins Nothing)) → eqb (get_or bytes i 0) 10 ≡ false → false ≡ is_dot t.mode
    → Goes (parts (text ++ take (i + 1) bytes) line (marks m.found (length text + i) m.place)) t
begun text bytes line m s t i goes lt is feed dot =
    let same : line_after (get_or bytes i 0) m.place.line ≡ m.place.line = ap (λ (c : Bool). cond c (min (m.place.line + 1) (2 ^ 32 - 1)) m.place.line) feed in
    byte_still text bytes line m s i lt goes (stepped t (acts.Begins Nothing)) (sym is) (length text + i) refl (marks m.found (length text + i) m.place)
    (ap (λ (fs : List Found). marks fs (length text + i) m.place) (sym (append-nil m.found)) ∙ ap (λ n. marks (m.found ++ []) (length text + i) (at n m.place.get_line)) (sym same)) dot

pub letter_begun : (text bytes : List ℕ) (line : ℕ) (m : Marks) (s : State) (i piece code : ℕ) → Goes (parts (text ++ take i bytes) line m) s → i < length bytes → s.mode ≡ Blank → s.get ≡ false → 1 ≤ s.bytes → 1 ≤ s.symbols → is_letter (get_or bytes i 0) ≡ true
    → piece ≡ length text + i → code ≡ get_or bytes i 0 % 32 → Goes (parts (text ++ take (i + 1) bytes) line (marks m.found piece m.place)) (state_at (Word 1 code) (s.bytes - 1) s)
letter_begun text bytes line m s i piece code goes lt blank none room symbols e first value =
    let b = get_or bytes i 0 in
    let as_blank : state Blank s.bytes s.symbols s.last s.fed false ≡ s = ap (λ (q : Mode). state q s.bytes s.symbols s.last s.fed false) (sym blank) ∙ ap (λ g. state s.mode s.bytes s.symbols s.last s.fed g) (sym none) in
    subst (λ p. Goes (parts (text ++ take (i + 1) bytes) line (marks m.found p m.place)) (state_at (Word 1 code) (s.bytes - 1) s)) (sym first)
    (begun text bytes line m s (state_at (Word 1 code) (s.bytes - 1) s) i goes lt
    (ap (λ (q : State). step_of q b) (sym as_blank) ∙ letter_step s.bytes s.symbols s.last s.fed b e room symbols
    ∙ ap (λ g. Ok (stepped (state (Word 1 (b % 32)) (s.bytes - 1) s.symbols s.last s.fed g) (acts.Begins Nothing))) (sym none)
    ∙ ap (λ k. Ok (stepped (state_at (Word 1 k) (s.bytes - 1) s) (acts.Begins Nothing))) (sym value))
    (letter_is_no_feed b e) refl)

module _ (text bytes : List ℕ) (line : ℕ) (m : Marks) (s : State) (i : ℕ) (goes : Goes (parts (text ++ take i bytes) line m) s) (blank : s.mode ≡ Blank) where
  abbrev Behind : ℕ → ℕ → Type 0
  Behind k n = Goes (parts (text ++ take k bytes) line (marks m.found (length text + k - 1) m.place)) (state_at Blank (s.bytes - n) s)

  -- each space is a piece
  space : (q : Marks) (k n : ℕ) → Goes (parts (text ++ take k bytes) line (marks m.found q.piece m.place)) (state_at Blank (s.bytes - n) s) → n < s.bytes → k < length bytes → get_or bytes k 0 ≡ 32 → Behind (k + 1) (n + 1)
  space q k n before room lt e =
      let r = s.bytes - n in
      subst (λ p. Goes (parts (text ++ take (k + 1) bytes) line (marks m.found p m.place)) (state_at Blank (s.bytes - (n + 1)) s)) (let z : length text + k ≡ length text + (k + 1) - 1 = omega arith in z)
      (subst (λ w. Goes (parts (text ++ take (k + 1) bytes) line (marks m.found (length text + k) m.place)) (state_at Blank w s)) (let z : r - 1 ≡ s.bytes - (n + 1) = omega arith in z)
      (begun text bytes line (marks m.found q.piece m.place) (state_at Blank r s) (state_at Blank (r - 1) s) k before lt
      (ap (λ b. step_of (state_at Blank r s) b) e ∙ space_step r s.symbols s.last s.fed s.get (omega (arith, room))) (ap (λ b. eqb b 10) e) refl))

  spaces : (n : ℕ) → n < s.bytes → i + n < length bytes → ((k : ℕ) → i ≤ k → k < i + n + 1 → is_in_run runs.Spaces (get_or bytes k 0) ≡ true) → Behind (i + n + 1) (n + 1)
  spaces zero room fit all =
      subst (λ k. Behind (k + 1) 1) (let z : i ≡ i + 0 = omega arith in z)
      (space m i 0 (subst (λ k. Goes (parts (text ++ take i bytes) line m) (state_at Blank k s)) (let z : s.bytes ≡ s.bytes - 0 = omega arith in z) (subst (λ (q : Mode). Goes (parts (text ++ take i bytes) line m) (state_at q s.bytes s)) blank goes)) room (omega (arith, fit))
      (let e = all i (omega arith) (omega arith) in grind (arith, nat_tests)))
  spaces (suc n) room fit all =
      let on : i + n + 1 ≡ i + suc n = omega arith in
      let before = spaces n (omega (arith, room)) (omega (arith, fit)) (λ k a b. all k a (omega (arith, b))) in
      let one : n + 1 ≡ suc n = omega arith in
      subst (λ k. Behind (k + 1) (suc n + 1)) on
      (subst (λ w. Behind (i + n + 1 + 1) (w + 1)) one
      (space (marks m.found (length text + (i + n + 1) - 1) m.place) (i + n + 1) (n + 1) before (omega (arith, room)) (omega (arith, fit)) (let e = all (i + n + 1) (omega arith) (omega arith) in grind (arith, nat_tests))))

  pub blank_run : (j piece : ℕ) → i < j → j ≤ length bytes → j - i ≤ s.bytes → ((k : ℕ) → i ≤ k → k < j → is_in_run runs.Spaces (get_or bytes k 0) ≡ true) → piece ≡ length text + j - 1
      → Goes (parts (text ++ take j bytes) line (marks m.found piece m.place)) (state_at s.mode (s.bytes - (j - i)) s)
  blank_run j piece lt fit room all e =
      let n = j - i - 1 in
      let there : i + n + 1 ≡ j = omega (arith, lt) in
      let count : n + 1 ≡ j - i = omega (arith, lt) in
      subst (λ p. Goes (parts (text ++ take j bytes) line (marks m.found p m.place)) (state_at s.mode (s.bytes - (j - i)) s)) (sym e)
      (subst (λ (q : Mode). Goes (parts (text ++ take j bytes) line (marks m.found (length text + j - 1) m.place)) (state_at q (s.bytes - (j - i)) s)) (sym blank)
      (subst (λ k. Behind j k) count (subst (λ k. Behind k (n + 1)) there (spaces n (omega (arith, lt, room)) (omega (arith, lt, fit)) (λ k a b. all k a (omega (arith, b, there)))))))

-- ---- the answer

-- the bytes before those after which the machine goes on
front_goes : (o : Option State) (u v : List ℕ) (s : State) → state_after o (u ++ v) ≡ Some s → cut_as (state_after o u) ≡ More
unfolding state_after
front_goes None [] v s e = absurd (let z : (let o : Option State = None in o) ≡ Some s = sym (none_stays v) ∙ e in cc)
front_goes (Some t) [] v s e = refl
front_goes o (b ∷ bs) v s e = front_goes (then_on o b) bs v s e

pub take_goes : (text bytes : List ℕ) (k i : ℕ) (s : State) → k ≤ i → state_after (Some start) (text ++ take i bytes) ≡ Some s → cut_after (text ++ take k bytes) ≡ More
take_goes text bytes k i s le e =
    let n : k + (i - k) ≡ i = omega (arith, le) in
    front_goes (Some start) (text ++ take k bytes) (slice_range bytes k i) s
    (ap (λ (xs : List ℕ). state_after (Some start) xs) (append_assoc text (take k bytes) (slice_range bytes k i) ∙ ap (λ (xs : List ℕ). text ++ xs) (sym (take-add k (i - k) bytes) ∙ ap (λ q. take q bytes) n)) ∙ e)

-- the answer after this progress is that of the bytes
pub said_as : (p : Progress) (s : State) (l : Parts) → (p ≡ Stuck → ⊥) → Progresses p s l → cut_at p ≡ cut_after l.bytes
said_as Going s l found h = sym (ap cut_as h.state)
said_as Ended s l found h = sym (ap cut_as h.state)
said_as (Refused f) s l found h = sym (ap cut_as h.state)
said_as Stuck s l found h = absurd (found refl)
