-- What is read of a section up to its end.
use Rattle.bk_filters.proofs.Terms.{◌≡◌, ℕ, ◌+◌, ◌≤◌, Bool, true, false, cond, List, [], ◌∷◌, ◌++◌, length, Result, Ok, Err, Option, Some, None, ◌⊎◌, inl, inr, refl, sym, ap, subst, ◌∙◌, arith, length-append, append-nil, append_assoc, take, suc, ◌<◌, means_as, more_undecided, SectionBytes, SourceFault, Consumes, Consumes-trans, SECTION_BYTES, State, Step, start, step_of, finished, ◌>>=◌, cut_after, goes_on_from, then_on, state_after, cut_as, IsUndecided, Asked, Settles, IsDelivered, TakesHeld, Act, Act as acts, length-take}
use Rattle.bk_lex.specs.declared.machine.Fault.{Fault}
use Rattle.bk_lex.specs.declared.counting.PieceResult.{PieceResult}
use Rattle.bk_lex.specs.declared.cutter.Cut.{Cut}
use Rattle.bk_lex.specs.declared.cutter.Cut.TheVariants.{More, End}
use Rattle.bk_lex.specs.Cutting.{Means}
use Rattle.bk_lex.specs.Lexing.{Section, section, Reading, read, read_on, run, end_as, begin, is_dot, lexed}
use Rattle.bk_lex.proofs.Lemmas.{following, read_state, behind_more, used_at_end, end_is_decided, lexed_is_section}

-- ---- the bytes that were asked for

pub nothing_asked : Asked []
nothing_asked front byte rest parts = absurd (none front parts)
  where
    none : (front : List ℕ) → [] ≡ front ++ byte ∷ rest → ⊥
    none [] e = cc
    none (b ∷ bs) e = cc

-- a place in a list with one byte more is the last, or one in the list
abbrev SplitAt : List ℕ → List ℕ → ℕ → Type 0
SplitAt bytes front b = (front ≡ bytes) ⊎ ((rest : List ℕ) × (bytes ≡ front ++ b ∷ rest))

split_push : (bytes front rest : List ℕ) (byte b : ℕ) → bytes ++ byte ∷ [] ≡ front ++ b ∷ rest → SplitAt bytes front b
split_push [] [] rest byte b e = inl refl
split_push [] (c ∷ []) rest byte b e = cc
split_push [] (c ∷ (d ∷ front)) rest byte b e = cc
split_push (c ∷ bytes) [] rest byte b e = let same : c ≡ b = cc in inr (bytes, ap (λ (x : ℕ). x ∷ bytes) same)
split_push (c ∷ bytes) (d ∷ front) rest byte b e = further (split_push bytes front rest byte b (let tail : bytes ++ byte ∷ [] ≡ front ++ b ∷ rest = cc in tail)) (let head : c ≡ d = cc in head)
  where
    further : SplitAt bytes front b → c ≡ d → SplitAt (c ∷ bytes) (d ∷ front) b
    further (inl e) h = inl (cc)
    further (inr w) h = inr (w.0, cc)

-- one byte more was asked for
asked_push : (bytes : List ℕ) (byte : ℕ) → Asked bytes → cut_after bytes ≡ More → Asked (bytes ++ byte ∷ [])
asked_push bytes byte asked more front b rest parts = by_place (split_push bytes front rest byte b parts)
  where
    by_place : SplitAt bytes front b → IsUndecided front
    by_place (inl e) = subst IsUndecided (sym e) (more_undecided bytes more)
    by_place (inr w) = asked front b w.0 w.1

-- the machine goes on before each byte
abbrev AskedFrom : Option State → List ℕ → Type 0
AskedFrom state [] = Unit {0}
AskedFrom state (byte ∷ rest) = (cut_as state ≡ More) × AskedFrom (then_on state byte) rest

asked_from : (front bytes : List ℕ) → Asked (front ++ bytes) → AskedFrom (state_after (Some start) front) bytes
asked_from front [] asked = tt
asked_from front (b ∷ bytes) asked = (
  goes_on (cut_after front) refl,
  subst (λ (o : Option State). AskedFrom o bytes) (behind_more (Some start) front b)
      (asked_from (front ++ b ∷ []) bytes (subst (λ (x : List ℕ). Asked x) (sym (append_assoc front (b ∷ []) bytes)) asked)),
)
  where
    goes_on : (c : Cut) → cut_after front ≡ c → cut_after front ≡ More
    goes_on More e = e
    goes_on End e = absurd (asked front b bytes refl 1 (end_is_decided front e 1))

asked_at_start : (bytes : List ℕ) → Asked bytes → AskedFrom (Some start) bytes
unfolding state_after
asked_at_start bytes asked = asked_from [] bytes asked

-- ---- a section that a `.` ends takes all bytes that were asked for

abbrev UsesAll : List ℕ → Type 0
UsesAll bytes = (r : Reading) (s : Section) → AskedFrom (Some r.state) bytes → run r bytes ≡ Ok s → s.ended ≡ true → s.used ≡ r.used + length bytes

none_asked : (bytes : List ℕ) → AskedFrom None bytes → bytes ≡ []
none_asked [] asked = refl
none_asked (b ∷ bytes) asked = let over = asked.0 in cc

read_used : (r : Reading) (b : ℕ) (s : State) (a : Act) → (read r b s a).used ≡ r.used + 1
read_used r b s acts.Goes = refl
read_used r b s (acts.Begins g) = refl
read_used r b s (acts.Names h) = refl

abbrev answered : Section → Result Section SourceFault
answered s = Ok s

differ : (t s : Section) → answered t ≡ answered s → t.ended ≡ false → s.ended ≡ true → ⊥
differ t s is open_ closed = let same : t ≡ s = cc in let both = ap (λ (x : Section). x.ended) same in cc

same_used : (t s : Section) → answered t ≡ answered s → s.used ≡ t.used
same_used t s is = let same : t ≡ s = cc in ap (λ (x : Section). x.used) (sym same)

not_by_end : (r : Reading) (x : Result PieceResult Fault) (s : Section) → end_as r x ≡ Ok s → s.ended ≡ true → ⊥
not_by_end r (Ok g) s is ended = differ _ s is refl ended
not_by_end r (Err f) s is ended = cc

all_behind : (d : Bool) (q : Reading) (bytes : List ℕ) (s : Section) → UsesAll bytes → AskedFrom (cond d None (Some q.state)) bytes
    → cond d (Ok (section q.out q.used true q.place.line)) (run q bytes) ≡ Ok s → s.ended ≡ true → s.used ≡ q.used + length bytes
all_behind true q bytes s rest asked is ended = subst (λ (bs : List ℕ). s.used ≡ q.used + length bs) (sym (none_asked bytes asked)) (omega (arith, same_used _ s is))
all_behind false q bytes s rest asked is ended = rest q s asked is ended

all_by_step : (x : Result Step Fault) (r : Reading) (b : ℕ) (bytes : List ℕ) (s : Section) → UsesAll bytes → AskedFrom (goes_on_from x) bytes
    → (read_on r b x >>= λ q. following q bytes) ≡ Ok s → s.ended ≡ true → s.used ≡ r.used + length (b ∷ bytes)
all_by_step (Err f) r b bytes s rest asked is ended = cc
all_by_step (Ok t) r b bytes s rest asked is ended =
    let q = read r b t.state t.act in
    let same : q.state ≡ t.state = read_state r b t.state t.act in
    let here : AskedFrom (cond (is_dot q.state.mode) None (Some q.state)) bytes = subst (λ (y : State). AskedFrom (cond (is_dot y.mode) None (Some y)) bytes) (sym same) asked in
    omega (arith, all_behind (is_dot q.state.mode) q bytes s rest here is ended, read_used r b t.state t.act)

uses_all : (bytes : List ℕ) → UsesAll bytes
unfolding run
uses_all [] r s asked is ended = absurd (not_by_end r (finished r.state) s is ended)
uses_all (b ∷ bytes) r s asked is ended = all_by_step (step_of r.state b) r b bytes s (uses_all bytes) asked.1 is ended

pub whole_used : (bytes : List ℕ) (line : ℕ) (s : Section) → Asked bytes → lexed bytes line ≡ Ok s → s.ended ≡ true → s.used ≡ length bytes
whole_used bytes line s asked is ended = omega (arith, uses_all bytes (begin line) s (asked_at_start bytes asked) is ended)

-- ---- a section that no `.` ends goes on to the source's end

pub ends_with_source : (bytes : List ℕ) (line : ℕ) (s : Section) (ended : Bool) → Settles bytes ended → lexed bytes line ≡ Ok s → s.ended ≡ false → ended ≡ true
ends_with_source bytes line s true settles is not_ended = refl
ends_with_source bytes line s false settles is not_ended =
    let longer = used_at_end (bytes ++ 0 ∷ []) line s (lexed_is_section (bytes ++ 0 ∷ []) line s (settles line (0 ∷ []) (λ (reported : false ≡ true). cc) ∙ is)) not_ended in
    absurd (omega (arith, used_at_end bytes line s (lexed_is_section bytes line s is) not_ended, longer, length-append bytes (0 ∷ [])))

-- a section that a `.` ends has a byte
pub used_some : (bytes : List ℕ) (line : ℕ) (s : Section) → lexed bytes line ≡ Ok s → s.ended ≡ true → 1 ≤ length bytes
unfolding run
used_some [] line s is ended = absurd (not_by_end (begin line) (finished (begin line).state) s is ended)
used_some (b ∷ bytes) line s is ended = omega arith

-- ---- a byte more is read

module _ (text : List ℕ) (byte : ℕ) (old now new : Option (List ℕ)) (taken was : ℕ) (delivered : Consumes old now text) (one : Consumes now new (byte ∷ []))
    (goes_on : cut_after text ≡ More) (asked : Asked text) (counted : taken ≡ was + length text) (within : length text ≤ SECTION_BYTES) where
  pub delivered_more : IsDelivered (text ++ byte ∷ []) old new was (taken + 1)
  delivered_more = record {
    delivered = Consumes-trans old now new text (byte ∷ []) delivered one;
    asked = asked_push text byte asked goes_on;
    counted = omega (arith, counted, length-append text (byte ∷ []));
    few = omega (arith, within, length-append text (byte ∷ []));
  }

pub goes_at_start : cut_after [] ≡ More
unfolding state_after
goes_at_start = refl

pub undecided_at_start : IsUndecided []
undecided_at_start = more_undecided [] goes_at_start

-- ---- bytes that were held are read

asked_many : (part text : List ℕ) → Asked text → ((k : ℕ) → k < length part → cut_after (text ++ take k part) ≡ More) → Asked (text ++ part)
asked_many [] text asked goes = subst Asked (sym (append-nil text)) asked
asked_many (b ∷ bs) text asked goes =
    subst Asked (append_assoc text (b ∷ []) bs)
    (asked_many bs (text ++ b ∷ []) (asked_push text b asked (subst (λ (xs : List ℕ). cut_after xs ≡ More) (append-nil text) (goes 0 (omega arith))))
    (λ k lt. subst (λ (xs : List ℕ). cut_after xs ≡ More) (sym (append_assoc text (b ∷ []) (take k bs))) (goes (suc k) (omega (arith, lt)))))

pub means_more : (text : List ℕ) → cut_after text ≡ More → Means More text
means_more text e = subst (λ (c : Cut). Means c text) e (means_as (state_after (Some start) text) text refl)

pub few_more : (text : List ℕ) → cut_after text ≡ More → length text ≤ SECTION_BYTES
few_more text e = (means_more text e).0

few_part : (part text : List ℕ) → length text ≤ SECTION_BYTES → ((k : ℕ) → k < length part → cut_after (text ++ take k part) ≡ More) → length (text ++ part) ≤ SECTION_BYTES + 1
few_part [] text few goes = omega (arith, few, length-append text [])
few_part (b ∷ bs) text few goes =
    let h = few_more (text ++ take (length bs) (b ∷ bs)) (goes (length bs) (omega arith)) in
    omega (arith, h, length-append text (take (length bs) (b ∷ bs)), length-append text (b ∷ bs), length-take (length bs) (b ∷ bs))

module _ (text : List ℕ) (old now new : Option (List ℕ)) (taken was after from : ℕ) (is : SectionBytes) (delivered : Consumes old now text) (asked : Asked text) (counted : taken ≡ was + length text) (within : length text ≤ SECTION_BYTES)
    (h : TakesHeld now new (record { bytes = text; from = from }) is taken after) where
  same_bytes : is.bytes ≡ text ++ h.part
  same_bytes = ap (λ (v : SectionBytes). v.bytes) h.lexer

  pub held_line : is.from ≡ from
  held_line = ap (λ (v : SectionBytes). v.from) h.lexer

  pub delivered_held : IsDelivered is.bytes old new was after
  delivered_held = subst (λ (xs : List ℕ). IsDelivered xs old new was after) (sym same_bytes) record {
    delivered = Consumes-trans old now new text h.part delivered h.delivered;
    asked = asked_many h.part text asked h.goes;
    counted = omega (arith, counted, h.counted, length-append text h.part);
    few = few_part h.part text within h.goes;
  }

  pub held_longer : length text ≤ length is.bytes
  held_longer = omega (arith, ap (λ (xs : List ℕ). length xs) same_bytes, length-append text h.part)
