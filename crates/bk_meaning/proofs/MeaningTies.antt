-- More turns change nothing of what a program means.
use Rattle.bk_meaning.proofs.Terms.{ℕ, zero, suc, ◌≤◌, List, [], length, Option, Some, None, refl, sym, arith, append-nil, Expression, Command, Commands, Declarations, Value, address, read, World, Outcome, gives, leaves, ends, undefined, going, Done, Environment, globals_object, Program, program_of, Meanings, nowhere, Mode, turn_for, means_with, no_turn_for, no_turns, means, run_of, first_world, started, call, History, history, Grows, sizes, Keeps, InItsWorld, After, Restores, Throughout, OutputOnlyGrows, CallsComeBack, MemoryNeverShrinks, WhatLastsLives, with_turns, shown, RunGoesOn, Continues, the_same, further, MoreTurns, ReadsFromTheFront}
use Rattle.bk_tree.specs.Tree as t
use Rattle.bk_meaning.proofs.After.{stays, earlier}
use Rattle.bk_meaning.proofs.Objects.{kept_length, kept_lives, first_lives}
use Rattle.bk_meaning.proofs.Ties.{Below, gives_more, leaves_more, ends_more, undefined_more, cut, Tied, Ties, ties, gives_tied, cut_tied, going_tied, turn_tied}
use Rattle.bk_meaning.proofs.NodeTies.{AllTied, value_of_ties, truth_of_ties, target_of_ties, act_of_ties, rounds_of_ties, for_rounds_of_ties, scope_ties, call_ties}

turn_for_tied : (c : Command) (go to : World → Outcome Done) → Ties go to → (w : World) (n : ℕ) → w.turns ≤ n → Tied w (turn_for c w go) (turn_for c (with_turns n w) to)
turn_for_tied t.empty go to h w n le = h.at w n le
turn_for_tied c go to h w n le = turn_tied _ go to h w n le

means_with_tied : (p : Program) (m l : Meanings) → AllTied m l → AllTied (means_with p m) (means_with p l)
means_with_tied p m l g = record {
  value = λ e env. ties _ _ (λ w n le. turn_tied _ _ _ (value_of_ties m l g p e env) w n le);
  truth = λ e env. ties _ _ (λ w n le. turn_tied _ _ _ (truth_of_ties m l g p e env) w n le);
  target = λ e env. ties _ _ (λ w n le. turn_tied _ _ _ (target_of_ties m l g e env) w n le);
  act = λ c mode env. ties _ _ (λ w n le. turn_for_tied c _ _ (act_of_ties m l g p c mode env) w n le);
  rounds = λ c mode env. rounds_of_ties m l g c mode env;
  for_rounds = λ place c object limit step env. for_rounds_of_ties m l g place c object limit step env;
  scope = λ cs mode env. scope_ties m l g cs mode env;
}

-- cut off, where more turns go on
cut_by : {A : Type 0} {l : ℕ} (go to : World → Outcome A) → Ties go to → (w : World) (n : ℕ) → w.turns ≤ n → Tied w (going l w) (to (with_turns n w))
cut_by go to h w n le = let t : Tied w (go w) (to (with_turns n w)) = h.at w n le in cut_tied w _ t.on t.kept

no_turn_tied : (c : Command) (w : World) (n : ℕ) → w.turns ≤ n → Tied w (no_turn_for c w) (no_turn_for c (with_turns n w))
no_turn_tied t.empty w n le = gives_tied tt w n le
no_turn_tied c w n le = going_tied w n

none_tied : AllTied no_turns no_turns
none_tied = record {
  value = λ e env. ties _ _ (λ w n le. going_tied w n);
  truth = λ e env. ties _ _ (λ w n le. going_tied w n);
  target = λ e env. ties _ _ (λ w n le. going_tied w n);
  act = λ c mode env. ties _ _ (λ w n le. no_turn_tied c w n le);
  rounds = λ c mode env. ties _ _ (λ w n le. going_tied w n);
  for_rounds = λ place c object limit step env. ties _ _ (λ w n le. going_tied w n);
  scope = λ cs mode env. ties _ _ (λ w n le. going_tied w n);
}

-- each part with itself: what of one run grows, and what comes back
pub self_tied : (p : Program) (k : ℕ) → AllTied (means p k) (means p k)
self_tied p zero = none_tied
self_tied p (suc k) = means_with_tied p (means p k) (means p k) (self_tied p k)

-- an empty command takes no turn
act_still : (p : Program) (k : ℕ) (c : Command) (mode : Mode) (env : Environment) (w : World) (n : ℕ) → w.turns ≤ n → Tied w (no_turn_for c w) ((means p (suc k)).act c mode env (with_turns n w))
act_still p k t.empty mode env w n le = gives_tied tt w n le
act_still p k c mode env w n le = cut_by _ _ ((self_tied p (suc k)).act c mode env) w n le

pub means_tied : (p : Program) (n k : ℕ) → n ≤ k → AllTied (means p n) (means p k)
means_tied p zero zero le = none_tied
means_tied p zero (suc k) le =
    let s : AllTied (means p (suc k)) (means p (suc k)) = self_tied p (suc k) in
    record {
      value = λ e env. ties _ _ (λ w n le. cut_by _ _ (s.value e env) w n le);
      truth = λ e env. ties _ _ (λ w n le. cut_by _ _ (s.truth e env) w n le);
      target = λ e env. ties _ _ (λ w n le. cut_by _ _ (s.target e env) w n le);
      act = λ c mode env. ties _ _ (λ w n le. act_still p k c mode env w n le);
      rounds = λ c mode env. ties _ _ (λ w n le. cut_by _ _ (s.rounds c mode env) w n le);
      for_rounds = λ place c object limit step env. ties _ _ (λ w n le. cut_by _ _ (s.for_rounds place c object limit step env) w n le);
      scope = λ cs mode env. ties _ _ (λ w n le. cut_by _ _ (s.scope cs mode env) w n le);
    }
means_tied p (suc n) zero le = absurd (omega (arith, le))
means_tied p (suc n) (suc k) le = means_with_tied p (means p n) (means p k) (means_tied p n k (omega (arith, le)))

run_on : (h : History) (u : Outcome Value) → After h u → RunGoesOn h (run_of u)
run_on h (gives v w) g = (w.most_cells, g)
run_on h (leaves x w) g = (w.most_cells, g)
run_on h (ends e w) g = (w.most_cells, g)
run_on h (undefined l why w) g = (w.most_cells, g)
run_on h (going l w) g = (w.most_cells, g)

-- what is shown of a world has none of its cells
shown_on : (w : World) → Grows (shown w.output w.input w.most_calls) (history w)
shown_on w = record { written = []; output = sym (append-nil w.output); taken = []; input = refl; most_calls = omega arith; most_cells = omega arith }

run_continues : (w : World) (u v : Outcome Value) → Tied w u v → Continues (run_of u) (run_of v)
run_continues w u v tied = by u v tied.below
  where
    by : (u v : Outcome Value) → Below u v → Continues (run_of u) (run_of v)
    by _ _ (gives_more a v n le) = the_same _
    by _ _ (leaves_more x v n le) = the_same _
    by _ _ (ends_more e v n le) = the_same _
    by _ _ (undefined_more l why w n le) = the_same _
    by _ _ (cut l x v up) = further _ _ _ _ _ (run_on _ v (earlier _ (history x) v (shown_on x) up))

started_continues : (p : Program) (f : Option Value) (input : List ℕ) (n k : ℕ) → n ≤ k → Continues (started p f (first_world p input n) n) (started p f (first_world p input k) k)
started_continues p None input n k le = the_same _
started_continues p (Some f) input n k le =
    run_continues (first_world p input n) _ _ ((call_ties (means p n) (means p k) (means_tied p n k le) nowhere p f []).at (first_world p input n) k le)

pub more_turns : MoreTurns
more_turns sections input n k le =
    let p : Program = program_of sections in
    started_continues p (read (first_world p input n).memory (address globals_object 1)) input n k le

-- a call, from any world on
pub called_tied : (p : Program) (place : ℕ) (f : Value) (vs : List Value) (n : ℕ) (w : World) → Tied w (call p (means p n) place f vs w) (call p (means p n) place f vs w)
called_tied p place f vs n w = (call_ties (means p n) (means p n) (self_tied p n) place p f vs).at w w.turns (omega arith)

started_on : (p : Program) (f : Option Value) (input : List ℕ) (n : ℕ) → RunGoesOn (shown [] input 0) (started p f (first_world p input n) n)
started_on p None input n = (0, stays (history (first_world p input n)))
started_on p (Some f) input n = run_on (history (first_world p input n)) _ ((called_tied p nowhere f [] n (first_world p input n)).on)

pub reads_from_the_front : ReadsFromTheFront
reads_from_the_front sections input n =
    let p : Program = program_of sections in
    started_on p (read (first_world p input n).memory (address globals_object 1)) input n

-- what a tie says of one run
pub alone_tied : {A : Type 0} (go : World → Outcome A) → Ties go go → (w : World) → Tied w (go w) (go w)
alone_tied go h w = h.at w w.turns (omega arith)

pub only_grows : OutputOnlyGrows
only_grows p n =
    let s : AllTied (means p n) (means p n) = self_tied p n in
    record {
      value = λ e env w. (alone_tied _ (s.value e env) w).on;
      truth = λ e env w. (alone_tied _ (s.truth e env) w).on;
      target = λ e env w. (alone_tied _ (s.target e env) w).on;
      act = λ c mode env w. (alone_tied _ (s.act c mode env) w).on;
      rounds = λ c mode env w. (alone_tied _ (s.rounds c mode env) w).on;
      for_rounds = λ place c object limit step env w. (alone_tied _ (s.for_rounds place c object limit step env) w).on;
      scope = λ cs mode env w. (alone_tied _ (s.scope cs mode env) w).on;
    }

pub comes_back : CallsComeBack
comes_back p n =
    let s : AllTied (means p n) (means p n) = self_tied p n in
    record {
      value = λ e env w. (alone_tied _ (s.value e env) w).kept;
      truth = λ e env w. (alone_tied _ (s.truth e env) w).kept;
      target = λ e env w. (alone_tied _ (s.target e env) w).kept;
      act = λ c mode env w. (alone_tied _ (s.act c mode env) w).kept;
      rounds = λ c mode env w. (alone_tied _ (s.rounds c mode env) w).kept;
      for_rounds = λ place c object limit step env w. (alone_tied _ (s.for_rounds place c object limit step env) w).kept;
      scope = λ cs mode env w. (alone_tied _ (s.scope cs mode env) w).kept;
    }

-- what is kept of objects, whatever the outcome
in_its_world : {A : Type 0} (P : World → Type 0) (calls : ℕ) (old : List (Option ℕ)) (u : Outcome A) → Restores calls old u → ((v : World) → Keeps old (sizes v.memory) → P v) → InItsWorld P u
in_its_world P calls old (gives a v) r h = h v r.kept
in_its_world P calls old (leaves x v) r h = h v r.kept
in_its_world P calls old (ends e v) r h = h v r
in_its_world P calls old (undefined l why v) r h = h v r
in_its_world P calls old (going l v) r h = h v r

never_shrinks_of : {A : Type 0} (w : World) (u : Outcome A) → Restores w.calls (sizes w.memory) u → InItsWorld (λ v. length w.memory ≤ length v.memory) u
never_shrinks_of w u r = in_its_world _ w.calls (sizes w.memory) u r (λ v k. kept_length w.memory v.memory k)

pub never_shrinks : MemoryNeverShrinks
never_shrinks p n =
    let r : Throughout (λ A w u. Restores w.calls (sizes w.memory) u) (means p n) = comes_back p n in
    record {
      value = λ e env w. never_shrinks_of w _ (r.value e env w);
      truth = λ e env w. never_shrinks_of w _ (r.truth e env w);
      target = λ e env w. never_shrinks_of w _ (r.target e env w);
      act = λ c mode env w. never_shrinks_of w _ (r.act c mode env w);
      rounds = λ c mode env w. never_shrinks_of w _ (r.rounds c mode env w);
      for_rounds = λ place c object limit step env w. never_shrinks_of w _ (r.for_rounds place c object limit step env w);
      scope = λ cs mode env w. never_shrinks_of w _ (r.scope cs mode env w);
    }

pub what_lasts_lives : WhatLastsLives
what_lasts_lives sections input n f object lt =
    let p : Program = program_of sections in
    let w : World = first_world p input n in
    in_its_world _ w.calls (sizes w.memory) _ ((called_tied p nowhere f [] n w).kept) (λ v k. kept_lives w.memory v.memory object k (first_lives p object lt))
