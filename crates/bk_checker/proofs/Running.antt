-- Runs over devices: steps one after another, and what the whole comes to.
use Rattle.bk_meaning.specs.Causes.{Cause}
use Rattle.std.specs.Prelude.{IsErr, ◌⊎◌}
use Rattle.std.proofs.Common.{inl, inr}
use Rattle.bk_checker.proofs.Terms.{Blames, ◌≡◌, ℕ, ◌+◌, ◌≤◌, ◌^◌, ◌-◌, Vec, map, Bool, true, false, IsTrue, Result, Ok, Err, IfOk, IfErr, OnOk, OnErr, is_err, arith, List, [], ◌∷◌, ◌++◌, Option, None, Some, refl, sym, ap, subst, ◌∙◌, append_assoc, append-nil, Consumes-nil, Consumes-kept, Consumes-trans, Appends-nil, Appends-trans, Appends-kept, Declarations, Value, address, number, World, End, Outcome, gives, leaves, ends, undefined, going, divide_by_zero, given, globals_object, remembering, Effect, fetch, value_in, routine_in, outcome_of, outcome_in, Program, program_of, first_memory, call, full, History, history, Grows, After, reads_from_the_front, full_call, Continuation, Next, CheckFault, Given, a_value, tag, resume, resumed, outcome_next, Comes, Devices, Exchanged, Follows, Shows, Checks, over, verdict_of, place_of, run_given, Answered, Moves, Begun, Runs, ChecksPart, RunsPart, Reaches, Flushed, Worth, Worth as w, Effect as t, Computed, Computed as k, Thing as g, Next as n, Verdict, Verdict as v, CheckFault as x}
use Rattle.std.specs.Io.KnownBytes.{Consumes, Appends, Keeps}
use Rattle.bk_meaning.specs.Memory.{Memory, read}
use Rattle.std.specs.Global.{Global}
use Rattle.bk_meaning.specs.Library.{takes_byte, library}
use Rattle.bk_meaning.specs.Parts.{nowhere}
use Rattle.bk_objects.specs.declared.worth.Origin.TheVariants as o
use Rattle.bk_objects.specs.declared.worth.Routine.{Routine}
use Rattle.bk_meaning.specs.Program.{Run, means, run_of, first_world, started, meaning}
use Rattle.bk_meaning.specs.Turns.{shown, RunGoesOn}
use Rattle.bk_meaning.specs.Memory.{cells_living}
use Rattle.bk_meaning.specs.Growing.{InItsWorld}
use Rattle.bk_meaning.proofs.Lemmas.{stays}
use Rattle.bk_checker.specs.Checks.{ComesToLimit, ComesDeep, RunsDeep, ChecksDeep}
use Rattle.bk_checker.specs.Limits.{asked, IsTooDeep, IsDeep, StartsDeep}
use Rattle.bk_checker.proofs.Growth.{resumed_after, whole_after, called_after, large_after}
use Rattle.bk_check.specs.declared.machine.Evaluator.{Evaluator}
use Rattle.bk_check.specs.Worlds.{Bytes, world}

-- ---- an end stays an end

ends_stays : (p : Program) (fs : List Continuation) (e : End) (w : World) → resumed p fs (ends e w) ≡ ends e w
unfolding resumed
ends_stays p [] e w = refl
ends_stays p (f ∷ fs) e w = ap (resume p f) (ends_stays p fs e w)

undefined_stays : (p : Program) (fs : List Continuation) (l : ℕ) (why : Cause) (w : World) → resumed p fs (undefined l why w) ≡ undefined l why w
unfolding resumed
undefined_stays p [] l why w = refl
undefined_stays p (f ∷ fs) l why w = ap (resume p f) (undefined_stays p fs l why w)

going_stays : (p : Program) (fs : List Continuation) (l : ℕ) (w : World) → resumed p fs (going l w) ≡ going l w
unfolding resumed
going_stays p [] l w = refl
going_stays p (f ∷ fs) l w = ap (resume p f) (going_stays p fs l w)

over_is : (p : Program) (fs : List Continuation) (next : Next) (w : World) → over fs next ≡ true → resumed p fs (outcome_next p next w) ≡ outcome_next p next w
unfolding resumed
over_is p fs (n.Status k) w is = ends_stays p fs _ w
over_is p fs (n.DivideByZero s) w is = ends_stays p fs _ w
over_is p fs (n.Undefined s why) w is = undefined_stays p fs _ _ w
over_is p fs (n.Going spot) w is = going_stays p fs _ w
over_is p [] (n.Gives t) w is = refl
over_is p [] (n.Leaves x) w is = refl
over_is p fs next w is = absurd (cc is)

-- the verdict of what ends a run is that of the run
shows_verdict : (p : Program) (fs : List Continuation) (next : Next) (w : World) → over fs next ≡ true → Shows (verdict_of next) (place_of next) (run_given (outcome_next p next w)) w.input w.output
shows_verdict p fs (n.Status k) w is = (w.most_calls, refl)
shows_verdict p fs (n.DivideByZero s) w is = (w.most_calls, refl)
shows_verdict p fs (n.Undefined s why) w is = (w.most_calls, refl)
shows_verdict p fs (n.Going spot) w is = (w.most_calls, refl)
shows_verdict p [] (n.Gives (g.Value x)) w is = (w.most_calls, refl)
shows_verdict p [] (n.Gives t) w is = (w.most_calls, refl)
shows_verdict p [] (n.Leaves x) w is = (w.most_calls, refl)
shows_verdict p fs next w is = absurd (cc is)

run_given_value : (u : Outcome Value) → run_given (tag a_value u) ≡ run_of u
run_given_value (gives x w) = refl
run_given_value _ = refl

-- ---- what is exchanged

pub exchanged_none : (reported : Devices) → Exchanged reported reported [] []
exchanged_none reported = record { delivered = Consumes-nil reported.left; took = Appends-nil reported.taken; stays = λ ended. (refl, ended) }

both_none : (read more : List ℕ) → read ≡ [] → more ≡ [] → read ++ more ≡ []
both_none read more none nothing = ap (λ l. l ++ more) none ∙ nothing

pub exchanged_then : (old mid new : Devices) (read more written further : List ℕ) → Exchanged old mid read written → Exchanged mid new more further → Exchanged old new (read ++ more) (written ++ further)
exchanged_then old mid new read more written further first second = record {
  delivered = Consumes-trans old.left mid.left new.left read more first.delivered second.delivered;
  took = Appends-trans old.taken mid.taken new.taken written further first.took second.took;
  stays = λ ended. let one = first.stays ended in let two = second.stays one.1 in (both_none read more one.0 two.0, two.1);
}

-- ---- steps

-- with nothing more written
pub unwritten : (p : Program) (fs : List Continuation) (next : Next) (m : Evaluator) (rest before : List ℕ) (u : Outcome Given)
    → Comes p fs next (world m (record { input = rest; output = before })) u → Comes p fs next (world m (record { input = rest; output = before ++ [] })) u
unwritten p fs next m rest before u comes =
    subst (λ (l : List ℕ). Comes p fs next (world m (record { input = rest; output = l })) u) (sym (append-nil before)) comes

-- a step that the devices have no part in
pub moves_still : (p : Program) (m : Evaluator) (next : Next) (m' : Evaluator) (next' : Next) (reported : Devices)
    → ((b : Bytes) → Comes p m'.frames.items next' (world m' b) (resumed p m.frames.items (outcome_next p next (world m b))))
    → Moves p m next m' next' reported reported
moves_still p m next m' next' reported comes = record {
  read = [];
  written = [];
  exchanged = exchanged_none reported;
  comes = λ rest before follows. unwritten p m'.frames.items next' m' rest before _ (comes (record { input = rest; output = before }));
}

pub moves_none : (p : Program) (m : Evaluator) (next : Next) (reported : Devices) → Moves p m next m next reported reported
moves_none p m next reported = moves_still p m next m next reported (λ b. refl)

follows_both : (mid new : Devices) (more further rest : List ℕ) → Exchanged mid new more further → Follows new rest → Follows mid (more ++ rest)
follows_both mid new more further rest second follows = λ ended. let two = second.stays ended in both_none more rest two.0 (follows two.1)

pub moves_then : (p : Program) (m : Evaluator) (next : Next) (m' : Evaluator) (next' : Next) (m'' : Evaluator) (next'' : Next) (old mid new : Devices)
    → Moves p m next m' next' old mid → Moves p m' next' m'' next'' mid new → Moves p m next m'' next'' old new
moves_then p m next m' next' m'' next'' old mid new first second = record {
  read = first.read ++ second.read;
  written = first.written ++ second.written;
  exchanged = exchanged_then old mid new first.read second.read first.written second.written first.exchanged second.exchanged;
  comes = λ rest before follows.
      let one = first.comes (second.read ++ rest) before (follows_both mid new second.read second.written rest second.exchanged follows) in
      let two = second.comes rest (before ++ first.written) follows in
      ap (λ (l : List ℕ). resumed p m''.frames.items (outcome_next p next'' (world m'' (record { input = rest; output = l })))) (sym (append_assoc before first.written second.written))
      ∙ two ∙ one
      ∙ ap (λ (l : List ℕ). resumed p m.frames.items (outcome_next p next (world m (record { input = l; output = before })))) (sym (append_assoc first.read second.read rest));
}

-- ---- the whole

-- a machine before a run is in the first world
begun_world : (p : Program) (turns : ℕ) (m : Evaluator) (input : List ℕ) → Begun p turns m → world m (record { input = input; output = [] }) ≡ first_world p input turns
begun_world p turns m input begun =
    ap (λ (s : Memory). record { memory = s; input = input; output = []; calls = m.calls; most_calls = m.most_calls; most_cells = m.most_cells; turns = m.turns }) begun.store
    ∙ ap (λ (k : ℕ). record { memory = first_memory p; input = input; output = []; calls = k; most_calls = m.most_calls; most_cells = m.most_cells; turns = m.turns }) begun.calls
    ∙ ap (λ (k : ℕ). record { memory = first_memory p; input = input; output = []; calls = 0; most_calls = k; most_cells = m.most_cells; turns = m.turns }) begun.most_calls
    ∙ ap (λ (k : ℕ). record { memory = first_memory p; input = input; output = []; calls = 0; most_calls = 0; most_cells = k; turns = m.turns }) begun.most_cells
    ∙ ap (λ (k : ℕ). record { memory = first_memory p; input = input; output = []; calls = 0; most_calls = 0; most_cells = 0; turns = k }) begun.has_turns

no_frames : (p : Program) (fs : List Continuation) (u : Outcome Given) → fs ≡ [] → resumed p fs u ≡ u
unfolding resumed
no_frames p fs u none = ap (λ (gs : List Continuation). resumed p gs u) none

pub run_shows : (p : Program) (start : Value) (turns : ℕ) (m m' m'' : Evaluator) (first last : Next) (verdict : Verdict) (place : ℕ) (old new : Devices)
    → Begun p turns m
    → ((b : Bytes) → Comes p m'.frames.items first (world m' b) (resumed p m.frames.items (tag a_value (call p (full p) nowhere start [] (world m b)))))
    → Moves p m' first m'' last old new → over m''.frames.items last ≡ true
    → (verdict ≡ verdict_of last) × (place ≡ place_of last)
    → Runs p start turns verdict place old new
run_shows p start turns m m' m'' first last verdict place old new begun calls moves is reported = record {
  read = moves.read;
  written = moves.written;
  exchanged = moves.exchanged;
  shows = λ rest follows.
      let w = world m'' (record { input = rest; output = moves.written }) in
      let input = moves.read ++ rest in
      let there = world m (record { input = input; output = [] }) in
      let comes : outcome_next p last w ≡ tag a_value (call p (full p) nowhere start [] there) =
      sym (over_is p m''.frames.items last w is) ∙ moves.comes rest [] follows ∙ calls (record { input = input; output = [] }) ∙ no_frames p m.frames.items (tag a_value (call p (full p) nowhere start [] there)) begun.frames in
      let whole : run_given (outcome_next p last w) ≡ run_of (call p (means p turns) nowhere start [] (first_world p input turns)) =
      ap run_given comes ∙ run_given_value (call p (full p) nowhere start [] there)
      ∙ ap (λ (x : World). run_of (call p (full p) nowhere start [] x)) (begun_world p turns m input begun)
      ∙ sym (ap run_of (full_call p turns nowhere start [] (first_world p input turns) (omega arith))) in
      subst (λ (r : Run). Shows verdict place r rest moves.written) whole (rw (reported.0, reported.1) (shows_verdict p m''.frames.items last w is));
}

-- what is given is there
given_some : {A : Type 0} (l : ℕ) (why : Cause) (x : Option A) (a : A) (w : World) → gives a w ≡ given l why x w → x ≡ Some a
given_some l why None a w is = absurd (cc is)
given_some l why (Some b) a w is = let same : a ≡ b = cc in ap Some (sym same)

given_none : {A : Type 0} (l : ℕ) (why other : Cause) (x : Option A) (w : World) → undefined l why w ≡ given l other x w → x ≡ None
given_none l why other None w is = refl
given_none l why other (Some b) w is = absurd (cc is)

given_no_end : {A : Type 0} (l : ℕ) (why : Cause) (x : Option A) (e : End) (w : World) → ends e w ≡ given l why x w → ⊥
given_no_end l why None e w is = cc
given_no_end l why (Some b) e w is = cc

-- the first world, whatever its input
abbrev some_world : Memory → World
some_world m = record { memory = m; input = []; output = []; calls = 0; most_calls = 0; most_cells = 0; turns = 0 }

module _ (sections : List Declarations) (p : Program) (turns : ℕ) (is : p ≡ program_of sections) where
  abbrev starting : List ℕ → Option Value → Run
  starting input start = started p start (first_world p input turns) turns

  pub means_so : (input : List ℕ) (start : Option Value) → read (first_memory p) (address globals_object 1) ≡ start → starting input start ≡ meaning sections input turns
  means_so input start found = sym (ap (starting input) found) ∙ ap (λ (q : Program). started q (read (first_memory q) (address globals_object 1)) (first_world q input turns) turns) is

  pub checks_start : (start : Value) (verdict : Verdict) (place : ℕ) (old new : Devices) → read (first_memory p) (address globals_object 1) ≡ Some start → Runs p start turns verdict place old new → Checks sections turns verdict place old new
  checks_start start verdict place old new found runs = record {
    read = runs.read;
    written = runs.written;
    exchanged = runs.exchanged;
    shows = λ rest follows. subst (λ (r : Run). Shows verdict place r rest runs.written) (means_so (runs.read ++ rest) (Some start) found) (runs.shows rest follows);
  }

  pub checks_none : (verdict : Verdict) (place : ℕ) (old new : Devices) → read (first_memory p) (address globals_object 1) ≡ None → verdict ≡ v.NoStart
      → Exchanged old new [] [] → Checks sections turns verdict place old new
  checks_none verdict place old new found none exchanged = record {
    read = [];
    written = [];
    exchanged = exchanged;
    shows = λ rest follows. rw none (0, sym (means_so rest None found));
  }

-- ---- calls of the library

taken_none : (old new : Devices) → Keeps old.taken new.taken → Appends old.taken new.taken []
taken_none old new keeps = Appends-kept old.taken old.taken new.taken [] (Appends-nil old.taken) keeps

-- the input is at its end
pub answered_end : (old new : Devices) → Consumes old.left new.left [] → Keeps old.taken new.taken → new.ended ≡ true → Answered (2 ^ 32 - 1) old new
answered_end old new delivered keeps ended = record {
  read = [];
  exchanged = record { delivered = delivered; took = taken_none old new keeps; stays = λ reported. (refl, ended) };
  takes = λ rest w follows is.
      ap (λ (i : List ℕ). takes_byte i w) (is ∙ follows ended) ∙ ap (λ (i : List ℕ). gives (number (2 ^ 32 - 1)) (record w { input = i })) is;
}

-- the input gives a byte
pub answered_byte : (old new : Devices) (b : ℕ) → Consumes old.left new.left (b ∷ []) → Keeps old.taken new.taken → (IsTrue old.ended → ⊥) → Answered b old new
answered_byte old new b delivered keeps open_ = record {
  read = b ∷ [];
  exchanged = record { delivered = delivered; took = taken_none old new keeps; stays = λ reported. absurd (open_ reported) };
  takes = λ rest w follows is. ap (λ (i : List ℕ). takes_byte i w) is;
}

module _ (p : Program) (m m' : Evaluator) (spot : ℕ) (r : Routine) (vs : Vec Worth Global) (e : Effect)
    (frames : m'.frames.items ≡ m.frames.items) (same : (b : Bytes) → world m' b ≡ remembering m'.store (world m b))
    (law : (w : World) → w.memory ≡ m.store → outcome_in spot e (remembering m'.store w) ≡ library spot (routine_in r) (map value_in vs.items) w) where
  called : (b : Bytes) → tag a_value (outcome_in spot e (world m' b)) ≡ outcome_next p (n.Library spot r vs) (world m b)
  called b = ap (λ (w : World). tag a_value (outcome_in spot e w)) (same b) ∙ ap (tag a_value) (law (world m b) refl)

  framed : (u v : Outcome Given) → u ≡ v → resumed p m'.frames.items u ≡ resumed p m.frames.items v
  framed u v is = ap (λ (fs : List Continuation). resumed p fs u) frames ∙ ap (resumed p m.frames.items) is

  -- it needs no device
  pub library_still : (next : Next) (reported : Devices) → ((w : World) → outcome_next p next w ≡ tag a_value (outcome_in spot e w)) → Moves p m (n.Library spot r vs) m' next reported reported
  library_still next reported does = moves_still p m (n.Library spot r vs) m' next reported (λ b. framed _ _ (does (world m' b) ∙ called b))

  -- it takes a byte
  pub library_takes : (word : ℕ) (old new : Devices) → e ≡ t.TakesByte → Answered word old new → Moves p m (n.Library spot r vs) m' (n.Gives (g.Value (w.Number word))) old new
  library_takes word old new is answered = record {
    read = answered.read;
    written = [];
    exchanged = answered.exchanged;
    comes = λ rest before follows. unwritten p m'.frames.items (n.Gives (g.Value (w.Number word))) m' rest before _
        (framed _ _ (
        ap (tag a_value) (sym (answered.takes rest (world m' (record { input = answered.read ++ rest; output = before })) follows refl))
        ∙ ap (λ (x : Effect). tag a_value (outcome_in spot x (world m' (record { input = answered.read ++ rest; output = before })))) (sym is)
        ∙ called (record { input = answered.read ++ rest; output = before })));
  }

  -- it writes a text
  pub library_writes : (text : Vec ℕ Global) (old new : Devices) → e ≡ t.Writes text → Exchanged old new [] text.items → Moves p m (n.Library spot r vs) m' (n.Gives (g.Value (w.Unset (o.Library r)))) old new
  library_writes text old new is exchanged = record {
    read = [];
    written = text.items;
    exchanged = exchanged;
    comes = λ rest before follows. framed _ _ (
        ap (λ (x : Effect). tag a_value (outcome_in spot x (world m' (record { input = rest; output = before })))) (sym is)
        ∙ called (record { input = rest; output = before }));
  }

-- nothing was delivered or taken
pub exchanged_still : (old new : Devices) → Keeps old.left new.left → new.ended ≡ old.ended → Keeps old.taken new.taken → Exchanged old new [] []
exchanged_still old new left ended taken = record {
  delivered = Consumes-kept old.left old.left new.left [] (Consumes-nil old.left) left;
  took = taken_none old new taken;
  stays = λ reported. (refl, ended ∙ reported);
}

-- the input was not asked
pub exchanged_took : (left : Option (List ℕ)) (ended : Bool) (old new : Option (List ℕ)) (text : List ℕ) → Appends old new text
    → Exchanged (record { left = left; ended = ended; taken = old }) (record { left = left; ended = ended; taken = new }) [] text
exchanged_took left ended old new text appends = record { delivered = Consumes-nil left; took = appends; stays = λ reported. (refl, reported) }

-- ---- a run that is given up

still_grows : (before rest : List ℕ) (w : World) → w.output ≡ before → w.input ≡ rest → Grows (shown (before ++ []) rest 0) (history w)
still_grows before rest w wrote left = record {
  written = [];
  output = wrote ∙ sym (append-nil before) ∙ sym (append-nil (before ++ []));
  taken = [];
  input = sym left;
  most_calls = omega arith;
  most_cells = omega arith;
}

-- nothing was exchanged
pub reaches_still : (p : Program) (m : Evaluator) (next : Next) (old new : Devices) → Exchanged old new [] [] → Reaches p m next old new
reaches_still p m next old new exchanged = record {
  read = [];
  written = [];
  exchanged = exchanged;
  grows = λ rest before follows. whole_after p m.frames.items next (shown (before ++ []) rest 0) (world m (record { input = rest; output = before })) (still_grows before rest (world m (record { input = rest; output = before })) refl refl);
}

-- after a step
pub reaches_after : (p : Program) (m : Evaluator) (next : Next) (m' : Evaluator) (next' : Next) (old mid new : Devices)
    → Moves p m next m' next' old mid → Reaches p m' next' mid new → Reaches p m next old new
reaches_after p m next m' next' old mid new first second = record {
  read = first.read ++ second.read;
  written = first.written ++ second.written;
  exchanged = exchanged_then old mid new first.read second.read first.written second.written first.exchanged second.exchanged;
  grows = λ rest before follows.
      let one = first.comes (second.read ++ rest) before (follows_both mid new second.read second.written rest second.exchanged follows) in
      let two = second.grows rest (before ++ first.written) follows in
      subst (λ (l : List ℕ). After (shown l rest 0) (resumed p m.frames.items (outcome_next p next (world m (record { input = (first.read ++ second.read) ++ rest; output = before })))))
      (append_assoc before first.written second.written)
      (subst (λ (u : Outcome Given). After (shown ((before ++ first.written) ++ second.written) rest 0) u)
      (one ∙ ap (λ (l : List ℕ). resumed p m.frames.items (outcome_next p next (world m (record { input = l; output = before })))) (sym (append_assoc first.read second.read rest))) two);
}

-- whether the run went on to its end or not
pub reaches_either : {E : Type 0} (p : Program) (m : Evaluator) (next : Next) (m' : Evaluator) (old new : Devices) (r : Result Next E)
    → IfOk r (λ last. Moves p m next m' last old new) → IfErr r (λ _. Reaches p m next old new) → Reaches p m next old new
reaches_either p m next m' old new (Ok last) moves part = reaches_after p m next m' last old new new moves (reaches_still p m' last new new (exchanged_none new))
reaches_either p m next m' old new (Err e) moves part = part

-- a part of a text was written
part_grows : (before part others : List ℕ) (text : List ℕ) (w : World) → text ≡ part ++ others → Grows (shown (before ++ part) w.input 0) (record (shown (before ++ text) w.input w.most_calls) { most_cells = w.most_cells })
part_grows before part others text w whole = record {
  written = others;
  output = ap (λ (l : List ℕ). before ++ l) whole ∙ sym (append_assoc before part others);
  taken = [];
  input = refl;
  most_calls = omega arith;
  most_cells = omega arith;
}

pub reaches_part : (p : Program) (m : Evaluator) (spot : ℕ) (r : Routine) (vs : Vec Worth Global) (s : Memory) (text : Vec ℕ Global) (old new : Devices) (part others : List ℕ)
    → ((w : World) → w.memory ≡ m.store → outcome_in spot (t.Writes text) (remembering s w) ≡ library spot (routine_in r) (map value_in vs.items) w)
    → text.items ≡ part ++ others → Exchanged old new [] part → Reaches p m (n.Library spot r vs) old new
reaches_part p m spot r vs s text old new part others law whole exchanged = record {
  read = [];
  written = part;
  exchanged = exchanged;
  grows = λ rest before follows.
      let w = world m (record { input = rest; output = before }) in
      resumed_after p m.frames.items (shown (before ++ part) rest 0) (outcome_next p (n.Library spot r vs) w)
      (subst (λ (u : Outcome Value). After (shown (before ++ part) rest 0) (tag a_value u)) (law w refl) (part_grows before part others text.items w whole));
}

run_goes_on : (h : History) (u : Outcome Value) → After h (tag a_value u) → RunGoesOn h (run_of u)
run_goes_on h (gives v w) g = (w.most_cells, g)
run_goes_on h (leaves x w) g = (w.most_cells, g)
run_goes_on h (ends e w) g = (w.most_cells, g)
run_goes_on h (undefined l why w) g = (w.most_cells, g)
run_goes_on h (going l w) g = (w.most_cells, g)

pub run_part : (p : Program) (start : Value) (turns : ℕ) (m m' : Evaluator) (first : Next) (old new : Devices)
    → Begun p turns m
    → ((b : Bytes) → Comes p m'.frames.items first (world m' b) (resumed p m.frames.items (tag a_value (call p (full p) nowhere start [] (world m b)))))
    → Reaches p m' first old new → RunsPart p start turns old new
run_part p start turns m m' first old new begun calls reaches = record {
  read = reaches.read;
  written = reaches.written;
  exchanged = reaches.exchanged;
  goes_on = λ rest follows.
      let input = reaches.read ++ rest in
      let there = world m (record { input = input; output = [] }) in
      let comes = calls (record { input = input; output = [] }) ∙ no_frames p m.frames.items (tag a_value (call p (full p) nowhere start [] there)) begun.frames in
      let on : RunGoesOn (shown reaches.written rest 0) (run_of (call p (full p) nowhere start [] there)) =
      run_goes_on (shown reaches.written rest 0) (call p (full p) nowhere start [] there) (subst (λ (u : Outcome Given). After (shown reaches.written rest 0) u) comes (reaches.grows rest [] follows)) in
      subst (RunGoesOn (shown reaches.written rest 0)) (
      ap (λ (x : World). run_of (call p (full p) nowhere start [] x)) (begun_world p turns m input begun)
      ∙ sym (ap run_of (full_call p turns nowhere start [] (first_world p input turns) (omega arith)))) on;
}

module _ (sections : List Declarations) (p : Program) (turns : ℕ) (is : p ≡ program_of sections) where
  pub checks_part : (start : Value) (old new : Devices) → read (first_memory p) (address globals_object 1) ≡ Some start → RunsPart p start turns old new → ChecksPart sections turns old new
  checks_part start old new found runs = record {
    read = runs.read;
    written = runs.written;
    exchanged = runs.exchanged;
    goes_on = λ rest follows. subst (RunGoesOn (shown runs.written rest 0)) (means_so sections p turns is (runs.read ++ rest) (Some start) found) (runs.goes_on rest follows);
  }

-- nothing was exchanged
pub nothing_yet : (sections : List Declarations) (turns : ℕ) (old new : Devices) → Exchanged old new [] [] → ChecksPart sections turns old new
nothing_yet sections turns old new exchanged = record {
  read = [];
  written = [];
  exchanged = exchanged;
  goes_on = λ rest follows. reads_from_the_front sections rest turns;
}

pub nothing_run : (p : Program) (start : Value) (turns : ℕ) (old new : Devices) → Exchanged old new [] [] → RunsPart p start turns old new
nothing_run p start turns old new exchanged = record {
  read = [];
  written = [];
  exchanged = exchanged;
  goes_on = λ rest follows.
      let w = first_world p rest turns in
      subst (λ (u : Outcome Value). RunGoesOn (shown [] rest 0) (run_of u)) (sym (full_call p turns nowhere start [] w (omega arith)))
      (run_goes_on (shown [] rest 0) (call p (full p) nowhere start [] w) (called_after p nowhere start [] (shown [] rest 0) w (still_grows [] rest w refl refl)));
}

-- ---- a limit that was reached

in_world : {A : Type 0} (P : World → Type 0) (h : History) (u : Outcome A) → After h u → ((v : World) → Grows h (history v) → P v) → InItsWorld P u
in_world P h (gives a v) g on = on v g
in_world P h (leaves x v) g on = on v g
in_world P h (ends e v) g on = on v g
in_world P h (undefined l why v) g on = on v g
in_world P h (going l v) g on = on v g

untagged : (P : World → Type 0) (u : Outcome Value) → InItsWorld P (tag a_value u) → InItsWorld P u
untagged P (leaves x w) g = g
untagged P y g = g

goes_deep : (p : Program) (m : Evaluator) (next : Next) (b : Bytes) → IsTooDeep m next → InItsWorld IsDeep (resumed p m.frames.items (outcome_next p next (world m b)))
goes_deep p m next b (inl many) =
    let w = world m b in
    in_world IsDeep (history w) _ (whole_after p m.frames.items next (history w) w (stays (history w))) (λ v g. let more : m.most_calls ≤ v.most_calls = g.most_calls in inl (omega (arith, more, many.1)))
goes_deep p m next b (inr (inl cells)) =
    let w = world m b in
    in_world IsDeep (history w) _ (whole_after p m.frames.items next (history w) w (stays (history w))) (λ v g. let more : m.most_cells ≤ v.most_cells = g.most_cells in inr (omega (arith, more, cells)))
goes_deep p m next b (inr (inr large)) =
    in_world IsDeep _ _ (large_after p m.frames.items next (world m b) large.0 large.1) (λ v g. let more : cells_living m.store + asked next ≤ v.most_cells = g.most_cells in inr (omega (arith, more, large.2)))

pub run_deep : (p : Program) (start : Value) (turns : ℕ) (m m' m'' : Evaluator) (first : Next) (old new : Devices)
    → Begun p turns m
    → ((b : Bytes) → Comes p m'.frames.items first (world m' b) (resumed p m.frames.items (tag a_value (call p (full p) nowhere start [] (world m b)))))
    → ComesToLimit p m' first m'' old new → RunsDeep p start turns old new
run_deep p start turns m m' m'' first old new begun calls limit = record {
  read = limit.moves.read;
  delivered = limit.moves.exchanged.delivered;
  deep = λ rest follows.
      let input = limit.moves.read ++ rest in
      let there = world m (record { input = input; output = [] }) in
      let comes = limit.moves.comes rest [] follows ∙ calls (record { input = input; output = [] }) ∙ no_frames p m.frames.items (tag a_value (call p (full p) nowhere start [] there)) begun.frames in
      let deep : InItsWorld IsDeep (call p (full p) nowhere start [] there) =
      untagged IsDeep _ (subst (InItsWorld IsDeep) comes (goes_deep p m'' limit.last (record { input = rest; output = limit.moves.written }) limit.is_deep)) in
      subst (InItsWorld IsDeep) (
      ap (λ (x : World). call p (full p) nowhere start [] x) (begun_world p turns m input begun)
      ∙ sym (full_call p turns nowhere start [] (first_world p input turns) (omega arith))) deep;
}

-- with what a flush leaves
pub deep_kept : {goes : List ℕ → Type 0} (old mid : Devices) (taken : Option (List ℕ)) → ComesDeep goes old mid → ComesDeep goes old (record mid { taken = taken })
deep_kept old mid taken comes = record { read = comes.read; delivered = comes.delivered; deep = comes.deep }

pub checks_deep : (sections : List Declarations) (p : Program) (turns : ℕ) → p ≡ program_of sections → (start : Value) (old new : Devices) → read (first_memory p) (address globals_object 1) ≡ Some start → RunsDeep p start turns old new → ChecksDeep sections turns old new
checks_deep sections p turns is start old new found runs = record {
  read = runs.read;
  delivered = runs.delivered;
  deep = λ rest follows.
      subst (λ (q : Program). StartsDeep q (read (first_memory q) (address globals_object 1)) (first_world q (runs.read ++ rest) turns) turns) is
      (subst (λ (f : Option Value). StartsDeep p f (first_world p (runs.read ++ rest) turns) turns) (sym found) (runs.deep rest follows));
}

-- ---- results

pub if_err : {T E P : Type 0} (r : Result T E) → P → IfErr r (λ _. P)
if_err (Ok v) h = tt
if_err (Err e) h = h

pub not_ok : {T E : Type 0} (P : T → Type 0) (r : Result T E) → IsErr r → IfOk r P
not_ok P (Ok v) is = absurd (cc is)
not_ok P (Err e) is = tt

pub of_err : {T E P : Type 0} (r : Result T E) → is_err r ≡ true → OnErr r P → P
of_err (Ok v) is h = absurd (cc is)
of_err (Err e) is h = h

pub of_ok : {T E P : Type 0} (r : Result T E) → is_err r ≡ false → OnOk r P → P
of_ok (Ok v) is h = h
of_ok (Err e) is h = absurd (cc is)

-- ---- a flush after a run

exchanged_kept : (old mid : Devices) (taken : Option (List ℕ)) (read written : List ℕ) → Keeps mid.taken taken → Exchanged old mid read written → Exchanged old (record mid { taken = taken }) read written
exchanged_kept old mid taken read written keeps exchanged = record {
  delivered = exchanged.delivered;
  took = Appends-kept old.taken mid.taken taken written exchanged.took keeps;
  stays = exchanged.stays;
}

pub runs_kept : (p : Program) (start : Value) (turns : ℕ) (verdict : Verdict) (place : ℕ) (old mid : Devices) (taken : Option (List ℕ)) → Keeps mid.taken taken → Runs p start turns verdict place old mid → Runs p start turns verdict place old (record mid { taken = taken })
runs_kept p start turns verdict place old mid taken keeps runs = record {
  read = runs.read;
  written = runs.written;
  exchanged = exchanged_kept old mid taken runs.read runs.written keeps runs.exchanged;
  shows = runs.shows;
}

pub part_kept : (p : Program) (start : Value) (turns : ℕ) (old mid : Devices) (taken : Option (List ℕ)) → Keeps mid.taken taken → RunsPart p start turns old mid → RunsPart p start turns old (record mid { taken = taken })
part_kept p start turns old mid taken keeps runs = record {
  read = runs.read;
  written = runs.written;
  exchanged = exchanged_kept old mid taken runs.read runs.written keeps runs.exchanged;
  goes_on = runs.goes_on;
}

-- what was passed on in every case was so in each
pub flushed_all : (f : CheckFault) (passed taken : Option (List ℕ)) → passed ≡ taken → Flushed f passed taken
flushed_all x.Read passed taken is = is
flushed_all x.TooDeep passed taken is = is
flushed_all x.Write passed taken is = tt
flushed_all x.Memory passed taken is = tt

-- how often the input has failed by the end of a run, whether it went on to it or not
pub read_failures : (r : Result Next CheckFault) (reads reads' writes writes' : ℕ) → OnOk r ((reads' ≡ reads) × (writes' ≡ writes)) → IfErr r (λ fault. Blames fault reads reads' writes writes') → (reads' ≡ reads) ⊎ (reads' ≡ 1)
read_failures (Ok v) reads reads' writes writes' sound cause = inl sound.0
read_failures (Err x.Read) reads reads' writes writes' sound cause = inr cause.0
read_failures (Err x.Write) reads reads' writes writes' sound cause = cause.0
read_failures (Err x.Memory) reads reads' writes writes' sound cause = inl cause.0
read_failures (Err x.TooDeep) reads reads' writes writes' sound cause = inl cause.0

pub ok_map : {T E : Type 0} (P Q : T → Type 0) (r : Result T E) → ((v : T) → P v → Q v) → IfOk r P → IfOk r Q
ok_map P Q (Ok v) f h = f v h
ok_map P Q (Err e) f h = tt

pub err_map : {T E : Type 0} (P Q : E → Type 0) (r : Result T E) → ((e : E) → P e → Q e) → IfErr r P → IfErr r Q
err_map P Q (Ok v) f h = tt
err_map P Q (Err e) f h = f e h

pub on_ok_map : {T E P Q : Type 0} (r : Result T E) → (P → Q) → OnOk r P → OnOk r Q
on_ok_map (Ok v) f h = f h
on_ok_map (Err e) f h = tt

-- ---- START

module _ (p : Program) (turns : ℕ) (m : Evaluator) (begun : Begun p turns m) (came : Computed)
    (law : (l : ℕ) (w : World) → w.memory ≡ m.store → outcome_of l came w ≡ fetch l (address globals_object 1) w) where
  pub start_found : (x : Worth) → came ≡ k.Value x → read (first_memory p) (address globals_object 1) ≡ Some (value_in x)
  start_found x is =
      ap (λ (s : Memory). read s (address globals_object 1)) (sym begun.store)
      ∙ given_some nowhere _ (read m.store (address globals_object 1)) (value_in x) (some_world m.store) (sym (ap (λ (y : Computed). outcome_of nowhere y (some_world m.store)) is) ∙ law nowhere (some_world m.store) refl)

  start_missing : read m.store (address globals_object 1) ≡ None → read (first_memory p) (address globals_object 1) ≡ None
  start_missing none = ap (λ (s : Memory). read s (address globals_object 1)) (sym begun.store) ∙ none

  pub no_start_found : ((x : Worth) → came ≡ k.Value x → ⊥) → read (first_memory p) (address globals_object 1) ≡ None
  no_start_found not = by came refl
    where
      by : (y : Computed) → came ≡ y → read (first_memory p) (address globals_object 1) ≡ None
      by (k.Value x) is = absurd (not x is)
      by k.DivideByZero is = absurd (given_no_end nowhere _ (read m.store (address globals_object 1)) (divide_by_zero nowhere) (some_world m.store) (sym (ap (λ (y : Computed). outcome_of nowhere y (some_world m.store)) is) ∙ law nowhere (some_world m.store) refl))
      by (k.Undefined why) is = start_missing (given_none nowhere _ _ (read m.store (address globals_object 1)) (some_world m.store) (sym (ap (λ (y : Computed). outcome_of nowhere y (some_world m.store)) is) ∙ law nowhere (some_world m.store) refl))
