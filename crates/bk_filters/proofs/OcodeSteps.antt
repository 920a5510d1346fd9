-- Runs of the machine with segments that stand for sections of OCODE, and the steps of OCODE.
use Rattle.bk_ocode.specs.FirstFault as ocode_text
use Rattle.bk_ocode.specs.OcodeState.{State}
use Rattle.bk_intcode.specs.FirstSaying as intcode_text
use Rattle.bk_filters.specs.OcodeRuns.{IsAhead, IsEnd, IsPart, IsStopped, Agrees, DoesSteps}
use Rattle.bk_filters.specs.SectionNumbers as numbers
use Rattle.bk_filters.proofs.CodeOfParts.{OfParts, of_parts, report_sizes, image_within, deepest, ◌≡◌, ◌≢◌, ◌⊎◌, inl, inr, ℕ, ◌+◌, ◌*◌, ◌≤◌, List, [], ◌++◌, Some, Result, Ok, Err, OnOk, refl, sym, ap, ◌∙◌, subst, arith, append_assoc, append-nil, Appends, STORE_MOST, End, Status, DivideByZero, StoreLimit, StepLimit, BadOperation, ReadFault, WriteFault, SEGMENTS, loaded_store, Standing, Going, Over, output_of, Stmt, Part, segments, image, depth_of, program_of, machine_after, IsPartly, going, stopped, BackEnd, BackEndHolds, PartsAreWellPlaced, PartsWithoutStart, KitFault, TooSmall, NoStart, Generates, AnyBytes, Streams, devices_of, first_registers, sizes_line, FindsNoFault, RunsAsSteps, OcodeRuns, ◌begins◌, GoesOn}
use Rattle.bk_filters.proofs.GeneratedParts.{CodeOf, code_written, not_ocode}
use Rattle.bk_filters.proofs.OcodeEnds.{ends_of_itself}
use Rattle.bk_filters.proofs.StandingLemmas.{StandsSo, stood}
use Rattle.bk_filters.proofs.LanguageRuns.{one_begins, the_parts}

-- ---- bytes that begin others

begins_behind : (a b c more : List ℕ) → b ≡ a ++ more → ◌begins◌ b c → ◌begins◌ a c
begins_behind a b c more is front = (more ++ front.0, front.1 ∙ ap (λ x. x ++ front.0) is ∙ append_assoc a more front.0)

-- ---- a machine on its way

partly_begins : (t : State) (m : Standing) → IsPartly t m → ◌begins◌ (output_of m) t.output
partly_begins t _ (going store r input output left front) = front
partly_begins t _ (stopped input output left front) = front

abbrev left_of : Standing → List ℕ
left_of (Going store r input output) = input
left_of (Over e input output) = input

partly_left : (t : State) (m : Standing) → IsPartly t m → (more : List ℕ) × (left_of m ≡ more ++ t.input)
partly_left t _ (going store r input output left front) = left
partly_left t _ (stopped input output left front) = left

-- where it is over it was stopped by the store
partly_over : (t : State) (m : Standing) (e : End) (rest written : List ℕ) → m ≡ Over e rest written → IsPartly t m → e ≡ StoreLimit
partly_over t _ e rest written over (going store r input output left front) = absurd (let same : Going store r input output ≡ Over e rest written = over in cc)
partly_over t _ e rest written over (stopped input output left front) = let same : Over StoreLimit input output ≡ Over e rest written = over in cc

-- ---- a run, by the back end

module _ (ps : List Part) (words steps : ℕ) (input : List ℕ) (first : State) (back : BackEnd ps words input first) (goes_on : GoesOn ps words input first) where
  abbrev applies : Standing
  applies = machine_after ps words input steps

  -- what holds where the machine is on its way to a state, and where it ended with it
  ahead : (Holds : State → Type 0) → ((t : State) → IsPartly t applies → Holds t) → ((e : End) (t : State) → e ≢ StoreLimit → applies ≡ Over e t.input t.output → Holds t) → IsAhead ps input first Holds
  ahead Holds partly over = record {
    of_end = λ q e t ends. either e t (ends_of_itself (program_of ps) q first t e ends) (back.less q steps e t ends);
    of_high = λ q t goes high. partly t (back.falls q steps t goes high);
    of_some = ((goes_on steps).0, λ t goes. partly t ((goes_on steps).1 t goes));
  }
    where
      either : (e : End) (t : State) → e ≢ StoreLimit → (applies ≡ Over e t.input t.output) ⊎ IsPartly t applies → Holds t
      either e t own (inl is) = over e t own is
      either e t own (inr is) = partly t is

  is_part : (written more : List ℕ) → output_of applies ≡ written ++ more → IsPart ps input first written
  is_part written more is = record {
    writes = ahead (λ t. ◌begins◌ written t.output) following (λ e t own over. (more, sym (ap output_of over) ∙ is));
    of_any = λ q t goes. either t (back.so_far q steps t goes);
  }
    where
      following : (t : State) → IsPartly t applies → ◌begins◌ written t.output
      following t partly = begins_behind written (output_of applies) t.output more is (partly_begins t applies partly)

      either : (t : State) → IsPartly t applies ⊎ (◌begins◌ t.output (output_of applies)) → (◌begins◌ t.output written) ⊎ (◌begins◌ written t.output)
      either t (inl partly) = inr (following t partly)
      either t (inr front) = one_begins written t.output more front.0 (sym is ∙ front.1)

  is_end : (e : End) (read rest written : List ℕ) → e ≢ StoreLimit → input ≡ read ++ rest → applies ≡ Over e rest written → IsEnd ps input first e read written
  is_end e read rest written own all over = record {
    whole = λ q f t ends. ended q f t (back.less q steps f t ends);
    covers = λ q t goes. covered t (back.so_far q steps t goes);
    stops = ((goes_on steps).0, λ t goes. not_partly t ((goes_on steps).1 t goes));
    low = λ q t goes high. not_partly t (back.falls q steps t goes high);
  }
    where
      not_partly : (t : State) → IsPartly t applies → ⊥
      not_partly t partly = own (partly_over t applies e rest written over partly)

      ended : (q : ℕ) (f : End) (t : State) → (applies ≡ Over f t.input t.output) ⊎ IsPartly t applies → (f ≡ e) × (input ≡ read ++ t.input) × (t.output ≡ written)
      ended q f t (inl is) =
          let same = the_parts e f rest t.input written t.output (sym over ∙ is) in
          (sym same.0, all ∙ ap (λ l. read ++ l) same.1, sym same.2)
      ended q f t (inr partly) = absurd (not_partly t partly)

      covered : (t : State) → IsPartly t applies ⊎ (◌begins◌ t.output (output_of applies)) → ◌begins◌ t.output written
      covered t (inl partly) = absurd (not_partly t partly)
      covered t (inr front) = (front.0, sym (ap output_of over) ∙ front.1)

  is_stopped : (read rest written : List ℕ) → input ≡ read ++ rest → left_of applies ≡ rest → output_of applies ≡ written
      → ((e : End) (t : State) → e ≢ StoreLimit → applies ≡ Over e t.input t.output → ⊥) → IsStopped ps input first steps words read written
  is_stopped read rest written all left is not_over = record {
    part = is_part written [] (is ∙ sym (append-nil written));
    reads = ahead (λ t. (more : List ℕ) × (input ≡ read ++ (more ++ t.input)))
        (λ t partly. let more = partly_left t applies partly in (more.0, all ∙ ap (λ l. read ++ l) (sym left ∙ more.1)))
        (λ e t own over. absurd (not_over e t own over));
    reaches = λ q d t goes enough. let front = back.written q d steps t goes enough.frames enough.has_steps enough.has_words in (front.0, sym is ∙ front.1);
    too_few = λ q d e t ends enough. not_over e t (ends_of_itself (program_of ps) q first t e ends) (back.enough q d steps e t ends enough.frames enough.has_steps enough.has_words);
  }

  agrees : (end : End) (read rest written : List ℕ) → input ≡ read ++ rest → StandsSo end applies rest written → Agrees ps input first steps words end read written
  agrees (Status v) read rest written all over = is_end (Status v) read rest written (λ e. cc) all over
  agrees DivideByZero read rest written all over = is_end DivideByZero read rest written (λ e. cc) all over
  agrees BadOperation read rest written all over = is_end BadOperation read rest written (λ e. cc) all over
  agrees StoreLimit read rest written all over =
      is_stopped read rest written all (ap left_of over) (ap output_of over) (λ e t own is. own (sym (the_parts StoreLimit e rest t.input written t.output (sym over ∙ is)).0))
  agrees StepLimit read rest written all goes =
      is_stopped read rest written all (ap left_of goes.2) (ap output_of goes.2) (λ e t own is. (let same = sym goes.2 ∙ is in cc))
  agrees ReadFault read rest written all front = is_part written front.0 front.1
  agrees WriteFault read rest written all front = is_part written front.0 front.1

module _ (back : BackEndHolds) (without : PartsWithoutStart) (ps : List Part) (steps words : ℕ) (most : words ≤ STORE_MOST) where
  does_steps : (answer : Result End KitFault) (before after : Streams) → OfParts ps answer steps words before after → DoesSteps ps answer steps words before after
  does_steps (Ok end) before after said =
      let ran = said.2 in
      let s = stood AnyBytes steps (loaded_store words (segments ps)) (first_registers (segments ps)) ran.0 ran.1 (devices_of before) (devices_of after) end ran.2 in
      record {
        room = said.0;
        read = s.read;
        written = s.written;
        exchanged = s.exchanged;
        agrees = λ rest follows.
            let b = back ps words (s.read ++ rest) said.0 most said.1 in
            (b.0, b.1, agrees ps words steps (s.read ++ rest) b.0 b.2 b.3 end s.read rest s.written refl (s.applies rest follows));
        passes = said.3;
        passed = said.4;
        blamed = said.5;
      }
  does_steps (Err TooSmall) before after said = said
  does_steps (Err NoStart) before after said = (said.0, (λ input. without ps words input said.0 most said.1), said.2)
  does_steps (Err x) before after said = said

-- ---- the law

module _ (back : BackEndHolds) (placed : PartsAreWellPlaced) (without : PartsWithoutStart) (one : ocode_text.SayOneThing) (one_code : intcode_text.SayOneThing) where
  runs_as_steps : (codes : List (List Stmt)) (code : List ℕ) → CodeOf codes code → RunsAsSteps codes code
  runs_as_steps codes code is = record {
    parts = is.of;
    are = is.are;
    within = subst (λ c. image is.of ≤ SEGMENTS + 8 * numbers.text_of c) is.are (image_within SEGMENTS is.of);
    deepest = subst (λ c. depth_of is.of ≡ numbers.depth_of c) is.are (deepest is.of);
    well_placed = λ room. placed is.of STORE_MOST room (omega arith);
    interprets = λ answer steps words new ended before after short most over said.
        does_steps back without is.of steps words most answer before after (of_parts one_code is.of code is.words new ended short over answer steps words before after said);
    sizes = λ answer words new ended before after short over said.
        let reported = report_sizes one_code is.of code is.words new ended short over is.frames answer words before after said in
        subst (λ c. FindsNoFault answer × OnOk answer (Appends before.taken after.taken (sizes_line (record { image = image is.of; frame = numbers.frame_of c })))) is.are reported;
  }

  pub ocode_runs : OcodeRuns
  ocode_runs codes text says answer new ended reads before after short over g = (not_ocode one text codes says new ended short over reads before after answer g, by_answer answer g)
    where
      by_answer : (answer : Result (Unit {0}) KitFault) → Generates answer (Some text) new ended reads before after → OnOk answer ((code : List ℕ) × Appends before.taken after.taken code × RunsAsSteps codes code)
      by_answer (Ok done) g =
          let w = code_written one text codes says new ended short over reads before after done g in
          (w.0, w.1, runs_as_steps codes w.0 w.2)
      by_answer (Err f) g = tt
