-- How runs compose: another account, a step more, a part behind another; and parts in which objects are made that die at their end.
pub use Rattle.bk_simulation.proofs.Situations.{Moves, LinksFrom, links_kept, moves_bytes, Like, like_on, Applies, Store, Moved, Fits, moved_refl, moved_on, fits_above, fits_more, fits_less, moved_less, stands_grown, Since, since_on, since_cells, since_moved, closed_moved, closed_fits, pushed_like, pushed_at, Setting, Scene, Exits, IsLabelHere, KeepsLabels, Configuration, store, state, start, FewFrames, Ready, Account, further, paying, here, comes_on, one, Ran, went, each_way_ran, ran_from, so, turn_behind, Completed, CompletedAt, OpenCompleted, store_at, there, Has, GoesTo, Leads, Exited, Out, next, NamedIn, ◌≡◌, ℕ, suc, ◌+◌, ◌-◌, ◌*◌, ◌<◌, ◌≤◌, List, ◌∷◌, length, Option, None, refl, sym, ◌∙◌, subst, arith, FRAME_WORDS, Binding, Content, Temporary, Cell, Held, content_of, write, below, Placed, State, Stmt, Around, meant, goal_in, Value, Memory, Environment, World, Exit, goto, Outcome, turn, closing, forgetting, remembering, history, adds, stays, by_option, contents_moves, dyadic_moves, load_byte_moves, dyadic_ends, does, one_off, pushed, BaseOf, Grown, read_at, variable_found, read_here, read_byte_at, operates, sum_applied, PrefixedAs, OperatedAs, IsValue, named_word, LabelAt, IsJump, with_ran, ready_next, place_of, NameAt, turns_of, IsWord, on_number, step_by, slot, Goes, ◌++◌, Some, ap, ◌^◌, Bool, true, false, option_map, signed, word_of, truth, Operator, Word, Unset, Inside, dyadic_word, named_place, DivideByZero, Monadic, Dyadic, LoadByte, Number, True, False, Query, Load, Address, Text, infix_code, variable, push, truth_value, number, address, unset, read, read_byte, gives, ends, undefined, given, with, sum, operate, operate_prefix, fetch, Meanings, named, combined, Expression, past, Sense, constant, cell, sense_of, Adds, with_after, of_z-to_z, Bound, bound_in, Local, Static, Target, not, from_label, Label, GiveResult, TakeResult, either, either_after, w32, Cause, cell_cause, byte_cause, sum_cause, by_test, not_true, same_stands_one, IsAct, AreActs, Entered, EnteredAny, named_again, ready_in, ◌||◌, cond, Command, Commands, past_command, Sought, Mode, forwards, seeking, has_place, one_has_place, in_order, label_moves, jump_moves, taken_moves, passed_moves, give_result_moves, below_like, judged_word, still, ◌==◌, option_map_or, settle, Goal, Jump, JumpIf, Stack, truth_of_value, judged, drop, truth_cause}

-- ---- one arrival

-- nothing was done yet
abbrev pub begun : {setting : Setting} {z : Configuration} {w : World} (B : Account) (R : Store → Type 0) (d : ℕ) (c : List Stmt) → 16 * w.turns ≤ B.most → B.least ≤ w.turns
    → Ready setting z w → R (store z w)
    → Completed setting (state z.scene.own d c z.cells z.frame z.hand z.written w) B z.scene.own z.frame w.calls (z.frame + z.depth) R c d w
begun {z = z} B R d c le le' r same = record {
  steps = 0;
  paid = 0;
  bases1 = z.bases;
  cells1 = z.cells;
  hand1 = z.hand;
  written1 = z.written;
  comes = here _;
  most = omega arith;
  least = omega arith;
  calls_are = refl;
  frames = r.frames;
  room = r.room;
  bytes = record { words = r.words; hand = r.in_hand };
  fits = r.fits;
  moved = same;
}

abbrev pub stay : (setting : Setting) (B : Account) (z : Configuration) (c : List Stmt) (w : World) → 16 * w.turns ≤ B.most → B.least ≤ w.turns → Ready setting z w → CompletedAt setting
    (start z c w) B z c z.depth w w
stay setting B z c w le le' r = begun B (Moved (z.frame + z.depth) (store z w)) z.depth c le le' r (moved_refl _ _)

-- no more frames than may be
pub roomy : (setting : Setting) (cells : ℕ → Cell) (frame n : ℕ) → FewFrames setting cells frame n → n ≤ setting.cap → FewFrames setting cells frame setting.cap
roomy setting cells frame n f le m h = let x = f m h in omega arith

-- links below a top are the old ones
pub links_like : (frame top : ℕ) (old new : ℕ → Cell) → suc frame < top → ((x : ℕ) → x < top → Like (new x) (old x)) → LinksFrom (suc frame) old new
links_like frame top old new lt like x w le e = (like x (omega arith)).link w e

-- the words below the situation's top have the links
pub links_below : {setting : Setting} {z : Configuration} {w : World} → Ready setting z w → suc z.frame < z.frame + z.depth
links_below r = let dp = r.deep in omega arith

module _ {setting : Setting} {s : State} {own : Placed} {frame calls top : ℕ} {c : List Stmt} {d : ℕ} {w1 : World} where
  -- With other objects, which fit below another top, in another account: with other turns left, and another count of cells, which are in no state.
  abbrev pub remade : {R : Store → Type 0} {B N : Account} (n cells_most : ℕ) (bases2 : List ℕ) (mem2 : Memory) (top2 : ℕ) (R2 : Store → Type 0)
      (a : Completed setting s B own frame calls top R c d w1) → a.steps + 16 * n ≤ N.most → N.least ≤ n + a.paid
      → Fits setting.codes (record { bases = bases2; mem = mem2; cells = a.cells1 }) top2 → R2 (record { bases = bases2; mem = mem2; cells = a.cells1 })
      → Completed setting s N own frame calls top2 R2 c d (record w1 { memory = mem2; turns = n; most_cells = cells_most })
  remade n cells_most bases2 mem2 top2 R2 a le le' fits moved = record {
    steps = a.steps;
    paid = a.paid;
    bases1 = bases2;
    cells1 = a.cells1;
    hand1 = a.hand1;
    written1 = a.written1;
    comes = a.comes;
    most = le;
    least = le';
    calls_are = a.calls_are;
    frames = a.frames;
    room = a.room;
    bytes = a.bytes;
    fits = fits;
    moved = moved;
  }

  -- in another account, with other turns left
  abbrev pub accounted : {R : Store → Type 0} {B N : Account} (n : ℕ) (a : Completed setting s B own frame calls top R c d w1) → a.steps + 16 * n ≤ N.most
      → N.least ≤ n + a.paid → Completed setting s N own frame calls top R c d (record w1 { turns = n })
  accounted {R} n a le le' = remade n w1.most_cells a.bases1 w1.memory top R a le le' a.fits a.moved

  -- with other objects, which fit below another top
  abbrev pub with_objects : {R : Store → Type 0} {B : Account} (bases2 : List ℕ) (mem2 : Memory) (top2 : ℕ) (R2 : Store → Type 0)
      (a : Completed setting s B own frame calls top R c d w1) → Fits setting.codes (record { bases = bases2; mem = mem2; cells = a.cells1 }) top2
      → R2 (record { bases = bases2; mem = mem2; cells = a.cells1 }) → Completed setting s B own frame calls top2 R2 c d (remembering mem2 w1)
  with_objects bases2 mem2 top2 R2 a fits moved = remade w1.turns w1.most_cells bases2 mem2 top2 R2 a a.most a.least fits moved

  -- how many cells lived is in no state
  abbrev pub with_cells : {R : Store → Type 0} {B : Account} (n : ℕ) → Completed setting s B own frame calls top R c d w1 → Completed setting s B own frame calls top R c d (record w1 { most_cells = n })
  with_cells {R} n a = remade w1.turns n a.bases1 w1.memory top R a a.most a.least a.fits a.moved

  -- a step further, with what it pays
  abbrev pub stepped : {R : Store → Type 0} {B : Account} (mem2 : Memory) (top2 : ℕ) (R2 : Store → Type 0) (c2 : List Stmt) (d2 : ℕ)
      (a : Completed setting s B own frame calls top R c d w1) (cells2 : ℕ → Cell) (hand2 : Option Content) (written2 : List ℕ)
      → LinksFrom (suc frame) a.cells1 cells2 → Fits setting.codes (record { bases = a.bases1; mem = mem2; cells = cells2 }) top2 → R2
      (record { bases = a.bases1; mem = mem2; cells = cells2 })
      → Moves setting.program (state own d c a.cells1 frame a.hand1 a.written1 w1) (state own d2 c2 cells2 frame hand2 written2 w1) → Completed setting s
      (paying setting B) own frame calls top2 R2 c2 d2 (remembering mem2 w1)
  stepped mem2 top2 R2 c2 d2 a cells2 hand2 written2 links fits moved e =
      let f = links_kept setting.program setting.first FRAME_WORDS a.cells1 cells2 frame calls links a.frames in
      record {
        steps = a.steps + 1;
        paid = a.paid + setting.pay;
        bases1 = a.bases1;
        cells1 = cells2;
        hand1 = hand2;
        written1 = written2;
        comes = comes_on setting _ _ _ _ _ _ _ a.comes (one setting _ _ e (roomy setting cells2 frame calls f a.room));
        most = omega (arith, a.most, a.least);
        least = omega (arith, a.most, a.least);
        calls_are = a.calls_are;
        frames = f;
        room = a.room;
        bytes = (let b = moves_bytes setting.program _ _ e a.bytes in record { words = b.words; hand = b.hand });
        fits = fits;
        moved = moved;
      }

  -- what follows: it has N for itself, and the two together have B
  abbrev pub following : {R R1 : Store → Type 0} {A N B : Account} {calls1 top1 d2 : ℕ} {c2 : List Stmt} {w2 : World} (top2 : ℕ) (R2 : Store → Type 0)
      → A.most + N.most ≤ B.most + 16 * w1.turns → B.least ≤ N.least + (A.least - w1.turns) → calls1 ≡ w1.calls
      → (a : Completed setting s A own frame calls top R c d w1)
      (b : Completed setting (state own d c a.cells1 frame a.hand1 a.written1 w1) N own frame calls1 top1 R1 c2 d2 w2) → Fits setting.codes (store_at b) top2 → R2
      (store_at b) → Completed setting s B own frame calls top2 R2 c2 d2 w2
  following top2 R2 le1 le2 ec a b fits moved = let m = a.most in let n = b.most in let ml = a.least in let nl = b.least in record {
    steps = a.steps + b.steps;
    paid = a.paid + b.paid;
    bases1 = b.bases1;
    cells1 = b.cells1;
    hand1 = b.hand1;
    written1 = b.written1;
    comes = comes_on setting _ _ _ _ _ _ _ a.comes b.comes;
    most = omega arith;
    least = omega arith;
    calls_are = b.calls_are ∙ ec ∙ a.calls_are;
    frames = subst (λ n. FewFrames setting b.cells1 frame n) (ec ∙ a.calls_are) b.frames;
    room = subst (λ n. n ≤ setting.cap) (ec ∙ a.calls_are) b.room;
    bytes = b.bytes;
    fits = fits;
    moved = moved;
  }

  -- within a larger account
  abbrev pub completed_more : {R : Store → Type 0} {B N : Account} → B.most ≤ N.most → N.least ≤ B.least → Completed setting s B own frame calls top R c d w1
      → Completed setting s N own frame calls top R c d w1
  completed_more le le' a = let m = a.most in let l = a.least in accounted w1.turns a (omega arith) (omega arith)

  -- a turn is taken there
  abbrev pub completed_turn : {R : Store → Type 0} {B N : Account} (n : ℕ) → w1.turns ≡ suc n → B.most ≤ N.most + 16 → N.least ≤ B.least - 1
      → Completed setting s B own frame calls top R c d w1 → Completed setting s N own frame calls top R c d (record w1 { turns = n })
  completed_turn n e le le' a = let m = a.most in let l = a.least in accounted n a (omega arith) (omega arith)

  pub turn_there : {T : Type 0} {R : Store → Type 0} {A B : Account} {K : T → World → Type 0} {X : Exit → World → Type 0} (place : ℕ) (go : World → Outcome T)
      → A.most ≤ B.most → B.least ≤ A.least → (a : Completed setting s A own frame calls top R c d w1)
      → ((n : ℕ) → w1.turns ≡ suc n → Ran setting s B K X (go (record w1 { turns = n }))) → Ran setting s B K X (turn place w1 go)
  turn_there place go le le' a h = let m = a.most in let l = a.least in turn_behind place a.steps a.paid w1 go a.comes (omega arith) (omega arith) refl refl h

  -- a step that leaves the words below the top as they are, which pays
  abbrev pub completed_paid : {h : Store} {B : Account} {c2 : List Stmt} {d2 : ℕ} (a : Completed setting s B own frame calls top (Moved top h) c d w1) (cells2 : ℕ → Cell)
      (hand2 : Option Content) (written2 : List ℕ) → suc frame < top
      → ((x : ℕ) → x < top → Like (cells2 x) (a.cells1 x)) → Moves setting.program (state own d c a.cells1 frame a.hand1 a.written1 w1)
      (state own d2 c2 cells2 frame hand2 written2 w1) → Completed setting s (paying setting B) own frame calls top (Moved top h) c2 d2 w1
  completed_paid {h} {c2 = c2} {d2 = d2} a cells2 hand2 written2 lt like e =
      let k1 = links_like frame top a.cells1 cells2 lt like in
      let f1 = fits_above setting.codes _ top cells2 a.fits like in
      stepped w1.memory top (Moved top h) c2 d2 a cells2 hand2 written2 k1 f1
      (record {
        grown = a.moved.grown;
        within = a.moved.within;
        kept = record { as_was = λ x lx no. like_on _ _ _ (like x lx) (a.moved.kept.as_was x lx no) };
        links = λ x w lx k. a.moved.links x w lx ((like x lx).link w k);
      }) e

-- the same, where it need not pay
abbrev pub completed_step : {setting : Setting} {s : State} {B : Account} {own : Placed} {frame calls top : ℕ} {h : Store} {c c2 : List Stmt} {d d2 : ℕ} {w1 : World}
    (a : Completed setting s B own frame calls top (Moved top h) c d w1) (cells2 : ℕ → Cell) (hand2 : Option Content)
    (written2 : List ℕ) → suc frame < top → ((x : ℕ) → x < top → Like (cells2 x) (a.cells1 x)) → Moves setting.program
    (state own d c a.cells1 frame a.hand1 a.written1 w1) (state own d2 c2 cells2 frame hand2 written2 w1)
    → Completed setting s (further 1 B) own frame calls top (Moved top h) c2 d2 w1
completed_step a cells2 hand2 written2 lt like e = completed_more (omega arith) (omega arith) (completed_paid a cells2 hand2 written2 lt like e)

-- ---- what follows an arrival

abbrev pub completed_on : {setting : Setting} {s : State} {A N B : Account} {z : Configuration} {c c2 : List Stmt} {d1 d2 : ℕ} {w w1 w2 : World}
    → A.most + N.most ≤ B.most + 16 * w1.turns → B.least ≤ N.least + (A.least - w1.turns) → Ready setting z w → z.depth ≤ d1
    → (a : CompletedAt setting s A z c d1 w w1) → CompletedAt setting (start (next setting s A z c d1 w w1 z.env d1 a) c w1) N (next setting s A z c d1 w w1 z.env d1 a) c2 d2 w1 w2
    → CompletedAt setting s B z c2 d2 w w2
completed_on {setting} {z = z} {d1 = d1} {w = w} le1 le2 r le a b = following (z.frame + z.depth) (Moved (z.frame + z.depth) (store z w)) le1 le2 refl a b
    (fits_less setting.codes _ _ (z.frame + z.depth) (z.frame + d1) a.fits (moved_less _ _ (z.frame + z.depth) (z.frame + d1) (omega arith) b.moved) b.fits)
    (moved_on setting.codes (z.frame + z.depth) (z.frame + z.depth) (z.frame + d1) _ _ _ r.fits (omega arith) a.moved b.moved)

pub out_on : {setting : Setting} {s : State} {A N B : Account} {z : Configuration} {c : List Stmt} {d1 : ℕ} {w w1 w2 : World} {x : Exit}
    → A.most + N.most ≤ B.most + 16 * w1.turns → B.least ≤ N.least + (A.least - w1.turns) → Ready setting z w → z.depth ≤ d1
    → (a : CompletedAt setting s A z c d1 w w1) → Out setting (start (next setting s A z c d1 w w1 z.env d1 a) c w1) N (next setting s A z c d1 w w1 z.env d1 a) w1 x w2
    → Out setting s B z w x w2
out_on le1 le2 r le a b = let m = a.most in let l = b.later in
    record { control = b.control; depth1 = b.depth1; leads = b.leads; arr = completed_on le1 le2 r le a b.arr; later = omega arith; hands = b.hands }

-- the part of a run that follows an arrival
pub ran_on : {T : Type 0} {setting : Setting} {s : State} {A N B : Account} {z : Configuration} {c : List Stmt} {d1 : ℕ} {w w1 : World} {K L : T → World → Type 0}
    {o : Outcome T} → A.most + N.most ≤ B.most + 16 * w1.turns → B.least ≤ N.least + (A.least - w1.turns)
    → Ready setting z w → z.depth ≤ d1 → (a : CompletedAt setting s A z c d1 w w1) → ((t : T) (w2 : World) → K t w2 → L t w2)
    → Ran setting (start (next setting s A z c d1 w w1 z.env d1 a) c w1) N K
    (Out setting (start (next setting s A z c d1 w w1 z.env d1 a) c w1) N (next setting s A z c d1 w w1 z.env d1 a) w1) o → Ran setting s B L (Out setting s B z w) o
ran_on le1 le2 r le a h q = let m = a.most in let l = a.least in ran_from a.comes (omega arith) (omega arith) h (λ x w2 k. out_on le1 le2 r le a k) q

-- what follows comes to a place too
pub comes_to : {T : Type 0} {setting : Setting} {s : State} {A N B : Account} {z : Configuration} {c : List Stmt} {d1 d2 : ℕ} {w w1 : World} {to : T → List Stmt}
    {o : Outcome T} → A.most + N.most ≤ B.most + 16 * w1.turns → B.least ≤ N.least + (A.least - w1.turns)
    → Ready setting z w → z.depth ≤ d1 → (a : CompletedAt setting s A z c d1 w w1)
    → Ran setting (start (next setting s A z c d1 w w1 z.env d1 a) c w1) N
    (λ t w2. CompletedAt setting (start (next setting s A z c d1 w w1 z.env d1 a) c w1) N (next setting s A z c d1 w w1 z.env d1 a) (to t) d2 w1 w2)
    (Out setting (start (next setting s A z c d1 w w1 z.env d1 a) c w1) N (next setting s A z c d1 w w1 z.env d1 a) w1) o → Ran setting s B (λ t w2. CompletedAt setting s B z (to t) d2 w w2)
    (Out setting s B z w) o
comes_to le1 le2 r le a q = ran_on le1 le2 r le a (λ t w2 b. completed_on le1 le2 r le a b) q

-- an exit, and the first part of a run, within a larger account
pub out_more : {setting : Setting} {s : State} {N B : Account} {sc : Scene} {frame calls top : ℕ} {R : Store → Type 0} {x : Exit} {w1 : World} → N.most ≤ B.most
    → B.least ≤ N.least
    → Exited setting s N sc frame calls top R x w1 → Exited setting s B sc frame calls top R x w1
out_more le le' a =
    let l = a.later in record { control = a.control; depth1 = a.depth1; leads = a.leads; arr = completed_more le le' a.arr; later = omega arith; hands = a.hands }

-- an exit, seen from where other exits are around
pub outside : {setting : Setting} {s : State} {N B : Account} (sc : Scene) {a : Around} {e : Exits} {frame calls top : ℕ} {R : Store → Type 0} {x : Exit} {w1 : World}
    → N.most ≤ B.most → B.least ≤ N.least
    → (o : Exited setting s N (record sc { around = a; exits = e }) frame calls top R x w1) → Leads sc x o.control → Exited setting s B sc frame calls top R x w1
outside {N = N} sc le le' o l =
    out_more {N = N} le le' (record { control = o.control; depth1 = o.depth1; leads = l; arr = o.arr; later = o.later; hands = o.hands })

pub ran_first : {T : Type 0} {setting : Setting} {s : State} {N B : Account} {sc : Scene} {frame calls top : ℕ} {R : Store → Type 0} {K L : T → World → Type 0}
    {o : Outcome T} → N.most ≤ B.most → B.least ≤ N.least → ((t : T) (w1 : World) → K t w1 → L t w1)
    → Ran setting s N K (Exited setting s N sc frame calls top R) o → Ran setting s B L (Exited setting s B sc frame calls top R) o
ran_first le le' h q = so le le' h (λ x w1 k. out_more le le' k) q

pub ran_more : {T : Type 0} {setting : Setting} {s : State} {N B : Account} {sc : Scene} {frame calls top : ℕ} {R : Store → Type 0} {K : T → World → Type 0}
    {o : Outcome T} → N.most ≤ B.most → B.least ≤ N.least
    → Ran setting s N K (Exited setting s N sc frame calls top R) o → Ran setting s B K (Exited setting s B sc frame calls top R) o
ran_more le le' q = ran_first le le' (λ t w1 k. k) q

-- An item takes the place of those from the top on.
pub topped : {setting : Setting} {s : State} {A B : Account} {z : Configuration} {c rest : List Stmt} {d : ℕ} {w w1 : World} {v : Value} (x : Content) → A.most + 1 ≤ B.most
    → B.least ≤ A.least → 2 ≤ z.depth → (a : CompletedAt setting s A z c d w w1)
    → Applies setting.codes a.bases1 v x
    → Moves setting.program (there setting s A z c d w w1 a)
    (state z.scene.own (z.depth + 1) rest (below (z.frame + (z.depth + 1)) (write a.cells1 (z.frame + z.depth) (Held Temporary x))) z.frame None ((z.frame + z.depth) ∷ a.written1) w1)
    → Has setting s B z rest (z.depth + 1) w v w1
topped {setting} {z = z} {v = v} x le le' dp a st e =
    let top = z.frame + z.depth in
    let cells2 = below (z.frame + (z.depth + 1)) (write a.cells1 top (Held Temporary x)) in
    record {
      arr = completed_more le le' (completed_step a cells2 None (top ∷ a.written1) (omega arith) (λ y ly. pushed_like z.frame z.depth a.cells1 (Held Temporary x) y ly) e);
      stands = subst (λ y. Applies setting.codes a.bases1 v (content_of y)) (sym (pushed_at z.frame z.depth a.cells1 (Held Temporary x))) st;
    }

-- the item on top is still there behind what follows above it
pub above : {setting : Setting} {s : State} {A N : Account} {z : Configuration} {c c2 : List Stmt} {d2 : ℕ} {w w1 w2 : World} {v : Value}
    (a : Has setting s A z c (z.depth + 1) w v w1)
    (b : CompletedAt setting (start (next setting s A z c (z.depth + 1) w w1 z.env (z.depth + 1) a.arr) c w1) N (next setting s A z c (z.depth + 1) w w1 z.env (z.depth + 1) a.arr) c2 d2 w1 w2)
    → Applies setting.codes b.bases1 v (content_of (b.cells1 (z.frame + z.depth)))
above {setting} {z = z} {v = v} a b =
    let like = b.moved.kept.as_was (z.frame + z.depth) (omega arith) (λ o n b1 i l e lt. let u = a.arr.fits.below o n b1 l e in omega arith) in
    stands_grown setting.codes a.arr.bases1 b.bases1 v _ b.moved.grown (subst (λ y. Applies setting.codes a.arr.bases1 v y) (sym like.content) a.stands)

-- ---- runs during which objects are made that die at the end

pub record OpenExited (setting : Setting) (s : State) (B : Account) (z : Configuration) (w : World) (x : Exit) (w1 : World) : Type 0 where
  pub more : ℕ
  pub is : Exited setting s B z.scene z.frame w.calls more (Since (z.frame + z.depth) (store z w)) x w1

-- the situation there, at a depth and with other names in scope
abbrev pub open_configuration : (setting : Setting) (s : State) (B : Account) (z : Configuration) (w : World) (c : List Stmt) (depth more : ℕ) (w1 : World)
    → OpenCompleted setting s B z w c depth more w1 → List Binding → Environment → Configuration
open_configuration setting s B z w c depth more w1 a bs env =
    record z { scene = record z.scene { bindings = bs }; env = env; bases = a.bases1; cells = a.cells1; hand = a.hand1; written = a.written1; depth = depth }

pub open_ready : {setting : Setting} {s : State} {B : Account} {z : Configuration} {w : World} {c : List Stmt} {depth : ℕ} {w1 : World}
    (a : OpenCompleted setting s B z w c depth (z.frame + depth) w1) (bs : List Binding) (env : Environment)
    → z.depth ≤ depth → NamedIn (record z.scene { bindings = bs }) env a.bases1 z.frame → Ready setting z w → Ready setting
    (open_configuration setting s B z w c depth (z.frame + depth) w1 a bs env) w1
open_ready {setting} {z = z} a bs env le named r = let dp = r.deep in record {
  named = named;
  fits = a.fits;
  low = r.low;
  high = r.high;
  deep = omega arith;
  frames = subst (λ n. FewFrames setting a.cells1 z.frame n) (sym a.calls_are) a.frames;
  room = subst (λ n. n ≤ setting.cap) (sym a.calls_are) a.room;
  lasts = record { each = λ o b1 e. a.moved.grown.each o b1 (r.lasts.each o b1 e) };
  words = a.bytes.words;
  in_hand = a.bytes.hand;
}

-- a turn is taken on the way
abbrev pub open_ticked : {setting : Setting} {s : State} {A : Account} {own : Placed} {frame calls top : ℕ} {R : Store → Type 0} {c : List Stmt} {d : ℕ} {w1 : World}
    (n : ℕ) → w1.turns ≡ suc n → Completed setting s A own frame calls top R c d w1
    → Completed setting s (record { most = A.most - 16; least = A.least - 1 }) own frame calls top R c d (record w1 { turns = n })
open_ticked n q a = let m = a.most in let l = a.least in accounted n a (omega arith) (omega arith)

-- with room for more words
abbrev pub open_wider : {setting : Setting} {s : State} {B : Account} {own : Placed} {frame calls more more1 : ℕ} {R : Store → Type 0} {c : List Stmt} {d : ℕ}
    {w1 : World} → more ≤ more1 → Completed setting s B own frame calls more R c d w1 → Completed setting s B own frame calls more1 R c d w1
open_wider {setting} {more = more} {more1 = more1} {R = R} {w1 = w1} le a =
    with_objects a.bases1 w1.memory more1 R a (fits_more setting.codes (store_at a) more more1 le a.fits) a.moved

-- a step that leaves the words below a top as they are
abbrev pub open_step : {setting : Setting} {s : State} {B : Account} {z : Configuration} {w : World} {c c2 : List Stmt} {d d2 more : ℕ} {w1 : World} → Ready setting z w
    → z.frame + z.depth ≤ more → (a : OpenCompleted setting s B z w c d more w1)
    → (cells2 : ℕ → Cell) (hand2 : Option Content) (written2 : List ℕ) → ((x : ℕ) → x < more → Like (cells2 x) (a.cells1 x))
    → Moves setting.program (state z.scene.own d c a.cells1 z.frame a.hand1 a.written1 w1) (state z.scene.own d2 c2 cells2 z.frame hand2 written2 w1)
    → OpenCompleted setting s (further 1 B) z w c2 d2 more w1
open_step {setting} {z = z} {w = w} {c2 = c2} {d2 = d2} {more = more} {w1 = w1} r le a cells2 hand2 written2 like e =
    let dp = r.deep in
    let k1 = links_like z.frame more a.cells1 cells2 (omega arith) like in
    let f1 = fits_above setting.codes _ more cells2 a.fits like in
    let m1 = since_on (omega arith) a.moved (since_cells {top = more} (store_at a) like) in
    completed_more (omega arith) (omega arith) (stepped w1.memory more (Since (z.frame + z.depth) (store z w)) c2 d2 a cells2 hand2 written2 k1 f1 m1 e)

-- What follows in a part of its own.
abbrev pub open_on : {setting : Setting} {s : State} {A N B : Account} {z : Configuration} {c c2 : List Stmt} {d1 d2 : ℕ} {w w1 w2 : World}
    → A.most + N.most ≤ B.most + 16 * w1.turns → B.least ≤ N.least + (A.least - w1.turns) → Ready setting z w → z.depth ≤ d1
    → (a : OpenCompleted setting s A z w c d1 (z.frame + d1) w1)
    (b : Completed setting (state z.scene.own d1 c a.cells1 z.frame a.hand1 a.written1 w1) N z.scene.own z.frame w1.calls (z.frame + d1) (Moved (z.frame + d1) (store_at a)) c2 d2 w2)
    → OpenCompleted setting s B z w c2 d2 (z.frame + d1) w2
open_on {z = z} {d1 = d1} {w = w} le1 le2 r le a b =
    following (z.frame + d1) (Since (z.frame + z.depth) (store z w)) le1 le2 refl a b b.fits
    (since_on (omega arith) a.moved (since_moved a.fits b.fits b.moved))

-- an exit to where names that are no labels hide none
pub leads_outwards : (sc : Scene) (bs : List Binding) (x : Exit) (c : List Stmt) → KeepsLabels sc.bindings bs → Leads (record sc { bindings = bs }) x c
    → Leads sc x c
leads_outwards sc bs (goto y) c k l = subst (λ b. GoesTo (goal_in sc.targets (meant b)) c × IsLabelHere b) (k y l.1) l
leads_outwards sc bs _ c k l = l

-- the part of a run that follows
pub ran_open : {T : Type 0} {setting : Setting} {s : State} {A N B : Account} {z : Configuration} {c : List Stmt} {d1 : ℕ} {w w1 : World} (bs : List Binding)
    (env : Environment) {K L : T → World → Type 0} {o : Outcome T} → A.most + N.most ≤ B.most + 16 * w1.turns
    → B.least ≤ N.least + (A.least - w1.turns) → Ready setting z w → z.depth ≤ d1 → KeepsLabels z.scene.bindings bs
    → (a : OpenCompleted setting s A z w c d1 (z.frame + d1) w1) → ((t : T) (w2 : World) → K t w2 → L t w2)
    → Ran setting (start (open_configuration setting s A z w c d1 (z.frame + d1) w1 a bs env) c w1) N K
    (Out setting (start (open_configuration setting s A z w c d1 (z.frame + d1) w1 a bs env) c w1) N (open_configuration setting s A z w c d1 (z.frame + d1) w1 a bs env) w1) o
    → Ran setting s B L (OpenExited setting s B z w) o
ran_open {z = z} {d1 = d1} bs env le1 le2 r le k a h q = let m = a.most in let l = a.least in ran_from a.comes (omega arith) (omega arith) h
    (λ x w2 e. let l = e.later in record {
      more = z.frame + d1;
      is = record {
        control = e.control;
        depth1 = e.depth1;
        leads = leads_outwards z.scene bs x e.control k e.leads;
        arr = open_on le1 le2 r le a e.arr;
        later = omega arith;
        hands = e.hands;
      };
    }) q

-- closing: what was made dies
abbrev pub closed_arrival : {setting : Setting} {s : State} {B : Account} {z : Configuration} {w : World} {c : List Stmt} {depth more : ℕ} {w1 : World} → Ready setting z w
    → OpenCompleted setting s B z w c depth more w1
    → CompletedAt setting s B z c depth w (forgetting (length w.memory) w1)
closed_arrival {setting} {z = z} {w = w} {more = more} {w1 = w1} r a =
    let top = z.frame + z.depth in
    with_objects a.bases1 (forgetting (length w.memory) w1).memory top (Moved top (store z w)) a
    (closed_fits setting.codes top more (store z w) (store_at a) r.fits a.moved a.fits) (closed_moved a.moved)

pub closed_ran : {T : Type 0} {setting : Setting} {s : State} {B : Account} {z : Configuration} {w : World} {K L : T → World → Type 0} {o : Outcome T} → Ready setting z w
    → ((t : T) (w1 : World) → K t w1 → L t (forgetting (length w.memory) w1))
    → Ran setting s B K (OpenExited setting s B z w) o → Ran setting s B L (Out setting s B z w) (closing (length w.memory) o)
closed_ran r h q = each_way_ran (λ t. adds _ (λ w1. stays (history w1))) (λ x. adds _ (λ w1. stays (history w1))) q (λ t w1 k. went (h t w1 k))
    (λ x w1 e. went (record { control = e.is.control; depth1 = e.is.depth1; leads = e.is.leads; arr = closed_arrival r e.is.arr; later = e.is.later; hands = e.is.hands }))
