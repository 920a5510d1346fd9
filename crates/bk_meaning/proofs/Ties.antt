-- Runs of one tree, with fewer turns and with more; and what each of them only adds to, or leaves as it was.
use Rattle.bk_meaning.proofs.Terms.{ℕ, zero, suc, ◌+◌, ◌≤◌, Bool, true, false, List, [], length, Option, Some, None, refl, sym, ◌∙◌, arith, append-nil, Value, Cell, Memory, dead_from, World, Exit, End, Outcome, gives, leaves, ends, undefined, going, each_way, with, given, either, turn, turn_of, closing, forgetting, changes, remembering, making, making_vec, calling, calls_back, returned, History, history, Grows, sizes, ComesBack, After, Restores, with_turns, Cause}
use Rattle.bk_meaning.proofs.After.{stays, earlier, Adds, adds, each_way_after, closing_after, calling_on, vec_on}
use Rattle.bk_meaning.proofs.Objects.{kept_still, kept_on, sizes-made, closed_keep, KeepsSizes}

-- the same calls and objects
pub at_home : (w : World) → ComesBack w.calls (sizes w.memory) w.calls (sizes w.memory)
at_home w = record { calls = refl; kept = kept_still (sizes w.memory) }

pub data Below {A : Type 0} : Outcome A → Outcome A → Type 0 where
  gives_more : (a : A) (w : World) (n : ℕ) → w.turns ≤ n → Below (gives a w) (gives a (with_turns n w))
  leaves_more : (x : Exit) (w : World) (n : ℕ) → w.turns ≤ n → Below (leaves x w) (leaves x (with_turns n w))
  ends_more : (e : End) (w : World) (n : ℕ) → w.turns ≤ n → Below (ends e w) (ends e (with_turns n w))
  undefined_more : (l : ℕ) (why : Cause) (w : World) (n : ℕ) → w.turns ≤ n → Below (undefined l why w) (undefined l why (with_turns n w))
  cut : (l : ℕ) (w : World) (o : Outcome A) → After (history w) o → Below (going l w) o

-- from a world, by fewer turns and by more
pub record Tied {A : Type 0} (w : World) (o p : Outcome A) : Type 0 where
  pub below : Below o p
  pub on : After (history w) p
  pub kept : Restores w.calls (sizes w.memory) p

-- what is done in each world
pub record Ties {A : Type 0} (go to : World → Outcome A) : Type 0 where
  pub at : (w : World) (n : ℕ) → w.turns ≤ n → Tied w (go w) (to (with_turns n w))

pub ties : {A : Type 0} (go to : World → Outcome A) → ((w : World) (n : ℕ) → w.turns ≤ n → Tied w (go w) (to (with_turns n w))) → Ties go to
ties go to at = record { at = at }

from_kept : {A : Type 0} (c : ℕ) (s : List (Option ℕ)) (d : ℕ) (t : List (Option ℕ)) (o : Outcome A) → ComesBack c s d t → Restores d t o → Restores c s o
from_kept c s d t (gives a v) g h = record { calls = h.calls ∙ g.calls; kept = kept_on _ _ _ g.kept h.kept }
from_kept c s d t (leaves x v) g h = record { calls = h.calls ∙ g.calls; kept = kept_on _ _ _ g.kept h.kept }
from_kept c s d t _ g h = kept_on _ _ _ g.kept h

-- from an earlier world
pub from : {A : Type 0} (u w : World) (o p : Outcome A) → Grows (history u) (history w) → ComesBack u.calls (sizes u.memory) w.calls (sizes w.memory) → Tied w o p → Tied u o p
from u w o p g k t = record { below = t.below; on = earlier (history u) (history w) p g t.on; kept = from_kept _ _ _ _ p k t.kept }

-- With more turns too, what is done only adds to the history.
pub ties_add : {A : Type 0} (go to : World → Outcome A) → Ties go to → Adds to
ties_add go to h = adds to (λ w. (h.at w w.turns (omega arith)).on)

kept_each_way : {A B : Type 0} (c : ℕ) (s : List (Option ℕ)) (u : Outcome A) (on to : A → World → Outcome B) (out off : Exit → World → Outcome B) → Restores c s u → ((a : A) → Ties (on a) (to a)) → ((x : Exit) → Ties (out x) (off x)) → Restores c s (each_way to off u)
kept_each_way c s (gives a v) on to out off g h x = from_kept c s _ _ (to a v) g (((h a).at v v.turns (omega arith)).kept)
kept_each_way c s (leaves y v) on to out off g h x = from_kept c s _ _ (off y v) g (((x y).at v v.turns (omega arith)).kept)
kept_each_way c s _ on to out off g h x = g

pub each_way_tied : {A B : Type 0} (w : World) (u v : Outcome A) (on to : A → World → Outcome B) (out off : Exit → World → Outcome B) → Tied w u v → ((a : A) → Ties (on a) (to a)) → ((x : Exit) → Ties (out x) (off x)) → Tied w (each_way on out u) (each_way to off v)
each_way_tied {A = A} w u v on to out off t h x = by u v t.below t.on t.kept
  where
    by : (u v : Outcome A) → Below u v → After (history w) v → Restores w.calls (sizes w.memory) v → Tied w (each_way on out u) (each_way to off v)
    by _ _ (gives_more a v n le) up back = from w v _ _ up back ((h a).at v n le)
    by _ _ (leaves_more y v n le) up back = from w v _ _ up back ((x y).at v n le)
    by _ _ (ends_more e v n le) up back = record { below = ends_more e v n le; on = up; kept = back }
    by _ _ (undefined_more l why v n le) up back = record { below = undefined_more l why v n le; on = up; kept = back }
    by _ _ (cut l v p up) ahead back = record {
      below = cut l v _ (each_way_after (history v) p to off up (λ a. ties_add (on a) (to a) (h a)) (λ y. ties_add (out y) (off y) (x y)));
      on = each_way_after (history w) p to off ahead (λ a. ties_add (on a) (to a) (h a)) (λ y. ties_add (out y) (off y) (x y));
      kept = kept_each_way _ _ p on to out off back h x;
    }

pub gives_tied : {A : Type 0} (a : A) (w : World) (n : ℕ) → w.turns ≤ n → Tied w (gives a w) (gives a (with_turns n w))
gives_tied a w n le = record { below = gives_more a w n le; on = stays (history w); kept = at_home w }

pub leaves_tied : {A : Type 0} (x : Exit) (w : World) (n : ℕ) → w.turns ≤ n → Tied {A = A} w (leaves x w) (leaves x (with_turns n w))
leaves_tied x w n le = record { below = leaves_more x w n le; on = stays (history w); kept = at_home w }

pub with_tied : {A B : Type 0} (w : World) (u v : Outcome A) (on to : A → World → Outcome B) → Tied w u v → ((a : A) → Ties (on a) (to a)) → Tied w (with u on) (with v to)
with_tied w u v on to t h = each_way_tied w u v on to _ _ t h (λ x. ties _ _ (λ w n le. leaves_tied x w n le))

pub ends_tied : {A : Type 0} (e : End) (w : World) (n : ℕ) → w.turns ≤ n → Tied {A = A} w (ends e w) (ends e (with_turns n w))
ends_tied e w n le = record { below = ends_more e w n le; on = stays (history w); kept = kept_still (sizes w.memory) }

pub undefined_tied : {A : Type 0} {why : Cause} (l : ℕ) (w : World) (n : ℕ) → w.turns ≤ n → Tied {A = A} w (undefined l why w) (undefined l why (with_turns n w))
undefined_tied l w n le = record { below = undefined_more l _ w n le; on = stays (history w); kept = kept_still (sizes w.memory) }

pub cut_tied : {A : Type 0} {l : ℕ} (w : World) (o : Outcome A) → After (history w) o → Restores w.calls (sizes w.memory) o → Tied w (going l w) o
cut_tied w o up back = record { below = cut _ w o up; on = up; kept = back }

pub going_tied : {A : Type 0} {l : ℕ} (w : World) (n : ℕ) → Tied {A = A} w (going l w) (going l (with_turns n w))
going_tied w n = cut_tied w _ (stays (history w)) (kept_still (sizes w.memory))

pub given_tied : {A : Type 0} (l : ℕ) (why : Cause) (x : Option A) (w : World) (n : ℕ) → w.turns ≤ n → Tied w (given l why x w) (given l why x (with_turns n w))
given_tied l why None w n le = undefined_tied l w n le
given_tied l why (Some a) w n le = gives_tied a w n le

pub either_tied : {A : Type 0} (b : Bool) (go to other another : World → Outcome A) → Ties go to → Ties other another → (w : World) (n : ℕ) → w.turns ≤ n → Tied w (either b go other w) (either b to another (with_turns n w))
either_tied true go to other another g h w n le = g.at w n le
either_tied false go to other another g h w n le = h.at w n le

-- for runs in any world
pub then_ties : {A B : Type 0} {go to : World → Outcome A} {on then : A → World → Outcome B} → Ties go to → ((a : A) → Ties (on a) (then a)) → Ties (λ w. with (go w) on) (λ w. with (to w) then)
then_ties {go = go} {to} {on} {then} g h = record { at = λ w n le. with_tied w (go w) (to (with_turns n w)) on then (g.at w n le) h }

pub either_ties : {A : Type 0} {go to other another : World → Outcome A} (b : Bool) → Ties go to → Ties other another → Ties (λ w. either b go other w) (λ w. either b to another w)
either_ties {go = go} {to} {other} {another} b g h = record { at = λ w n le. either_tied b go to other another g h w n le }

pub turn_tied : {A : Type 0} (l : ℕ) (go to : World → Outcome A) → Ties go to → (w : World) (n : ℕ) → w.turns ≤ n → Tied w (turn l w go) (turn l (with_turns n w) to)
turn_tied l go to h w n le = at w.turns n le
  where
    at : (i j : ℕ) → i ≤ j → Tied w (turn_of l i w go) (turn_of l j (with_turns n w) to)
    at zero zero le = going_tied w n
    at zero (suc j) le =
        let t : Tied (with_turns j w) (go (with_turns j w)) (to (with_turns j w)) = h.at (with_turns j w) j (omega arith) in
        cut_tied w _ t.on t.kept
    at (suc i) zero le = absurd (omega (arith, le))
    at (suc i) (suc j) le =
        let t : Tied (with_turns i w) (go (with_turns i w)) (to (with_turns j w)) = h.at (with_turns i w) j (omega (arith, le)) in
        record { below = t.below; on = t.on; kept = t.kept }

-- what was made since is dead
pub closing_tied : {A : Type 0} (w : World) (u v : Outcome A) → Tied w u v → Tied w (closing (length w.memory) u) (closing (length w.memory) v)
closing_tied {A = A} w u v t = by u v t.below t.on t.kept
  where
    closed : (v : World) → ComesBack w.calls (sizes w.memory) v.calls (sizes v.memory) → ComesBack w.calls (sizes w.memory) v.calls (sizes (dead_from (length w.memory) v.memory))
    closed v back = record { calls = back.calls; kept = closed_keep w.memory v.memory back.kept }

    closed_kept : (o : Outcome A) → Restores w.calls (sizes w.memory) o → Restores w.calls (sizes w.memory) (closing (length w.memory) o)
    closed_kept (gives a v) back = closed v back
    closed_kept (leaves x v) back = closed v back
    closed_kept _ back = back

    by : (u v : Outcome A) → Below u v → After (history w) v → Restores w.calls (sizes w.memory) v → Tied w (closing (length w.memory) u) (closing (length w.memory) v)
    by _ _ (gives_more a v n le) up back = record { below = gives_more a (forgetting (length w.memory) v) n le; on = up; kept = closed v back }
    by _ _ (leaves_more x v n le) up back = record { below = leaves_more x (forgetting (length w.memory) v) n le; on = up; kept = closed v back }
    by _ _ (ends_more e v n le) up back = record { below = ends_more e v n le; on = up; kept = back }
    by _ _ (undefined_more l why v n le) up back = record { below = undefined_more l why v n le; on = up; kept = back }
    by _ _ (cut l v o up) ahead back = record { below = cut l v _ (closing_after (history v) (length w.memory) o up); on = closing_after (history w) (length w.memory) o ahead; kept = closed_kept o back }

-- memory that was changed, in cells alone
pub changes_tied : (l : ℕ) (why : Cause) (m : Option Memory) (w : World) (n : ℕ) → w.turns ≤ n → KeepsSizes w.memory m → Tied w (changes l why m w) (changes l why m (with_turns n w))
changes_tied l why None w n le same = undefined_tied l w n le
changes_tied l why (Some m) w n le same = record {
  below = gives_more tt (remembering m w) n le;
  on = stays (history w);
  kept = record { calls = refl; kept = record { made = []; objects = same ∙ sym (append-nil (sizes w.memory)) } };
}

-- with a new object
pub making_tied : {A : Type 0} (cells : List Cell) (w : World) (o p : Outcome A) → Tied (making cells w) o p → Tied w o p
making_tied cells w o p t = from w (making cells w) o p (stays (history w)) (record { calls = refl; kept = sizes-made cells w.memory }) t

-- with a VEC
pub vec_tied : {A : Type 0} (cells : List Cell) (w : World) (o p : Outcome A) → Tied (making_vec cells w) o p → Tied w o p
vec_tied cells w o p t = from w (making_vec cells w) o p (vec_on cells w) (record { calls = refl; kept = sizes-made cells w.memory }) t

-- a call, behind which as many are active as before
pub call_tied : (l : ℕ) (w : World) (u v : Outcome Value) → Tied (calling w) u v → Tied w (returned l w.calls u) (returned l w.calls v)
call_tied l w u v t = by u v t.below t.on t.kept
  where
    back_on : (h : History) (o : Outcome Value) → After h o → After h (returned l w.calls o)
    back_on h o up = each_way_after h o _ _ up (λ a. adds _ (λ v. stays (history v))) (λ x. adds _ (λ v. stays (history v)))

    came_back : (o : Outcome Value) → Restores (w.calls + 1) (sizes w.memory) o → Restores w.calls (sizes w.memory) (returned l w.calls o)
    came_back (gives a v) k = record { calls = refl; kept = k.kept }
    came_back (leaves x v) k = k.kept
    came_back _ k = k

    later : (o : Outcome Value) → After (history (calling w)) o → After (history w) o
    later o up = earlier (history w) (history (calling w)) o (calling_on w) up

    by : (u v : Outcome Value) → Below u v → After (history (calling w)) v → Restores (w.calls + 1) (sizes w.memory) v → Tied w (returned l w.calls u) (returned l w.calls v)
    by _ _ (gives_more a v n le) up k = record { below = gives_more a (calls_back w.calls v) n le; on = later (gives a v) up; kept = came_back (gives a v) k }
    by _ _ (leaves_more x v n le) up k = record { below = undefined_more l _ v n le; on = later (leaves x v) up; kept = k.kept }
    by _ _ (ends_more e v n le) up k = record { below = ends_more e v n le; on = later (ends e v) up; kept = k }
    by _ _ (undefined_more i why v n le) up k = record { below = undefined_more i why v n le; on = later (undefined i why v) up; kept = k }
    by _ _ (cut i v o up) ahead k = record { below = cut i v _ (back_on (history v) o up); on = back_on (history w) o (later o ahead); kept = came_back o k }
