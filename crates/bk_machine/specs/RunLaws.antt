-- Laws of runs: steps one after another, and what is written only grows.
use Rattle.std.specs.Prelude.{◌≡◌, ℕ, zero, suc, ◌+◌, ◌-◌, ◌≤◌, Bool, true, false, List, [], ◌∷◌, ◌++◌, length, refl, if◌then◌else◌}
use Rattle.std.proofs.Common.{inl, inr, sym, ap, ◌∙◌, arith, append_assoc, append-nil}
use Rattle.bk_base.specs.declared.run_end.End.{End}
use Rattle.bk_base.specs.declared.run_end.End.TheVariants.{StoreLimit}
use Rattle.bk_machine.specs.declared.registers.Registers.{Registers}
use Rattle.bk_machine.specs.Output.{Text, output_text}
use Rattle.bk_machine.specs.Step.{Turn, Goes, Outputs, Asks, Ends, step}
use Rattle.bk_machine.specs.declared.output.Output.{Output}
use Rattle.bk_machine.specs.Runs.{Standing, Going, Over, next_byte, after_next, after, run, output_of, Devices, Exchanged, Follows, Leads, FlushesFirst, Paused, Finished, Waiting, CutShort, Broken}

-- where a run is after m steps more
abbrev pub onwards : ℕ → Standing → Standing
onwards m (Going store r input written) = run m store r input written
onwards m (Over e input written) = Over e input written

-- a run of k steps, and then of m more
AddsAt : ℕ → ℕ → Type 0
AddsAt k m = (store : List ℕ) (r : Registers) (input written : List ℕ) → run (k + m) store r input written ≡ onwards m (run k store r input written)

tells_on : (k m : ℕ) → AddsAt k m → (text : Text) (store : List ℕ) (r : Registers) (input written : List ℕ)
    → (if text.whole then run (k + m) store r input (written ++ text.bytes) else Over StoreLimit input (written ++ text.bytes))
    ≡ onwards m (if text.whole then run k store r input (written ++ text.bytes) else Over StoreLimit input (written ++ text.bytes))
unfolding AddsAt
tells_on k m more text store r input written = by_whole text.whole
  where
    by_whole : (whole : Bool) → (if whole then run (k + m) store r input (written ++ text.bytes) else Over StoreLimit input (written ++ text.bytes))
        ≡ onwards m (if whole then run k store r input (written ++ text.bytes) else Over StoreLimit input (written ++ text.bytes))
    by_whole true = more store r input (written ++ text.bytes)
    by_whole false = refl

after_on : (k m : ℕ) → AddsAt k m → (turn : Turn) (input written : List ℕ)
    → after (run (k + m)) turn input written ≡ onwards m (after (run k) turn input written)
unfolding AddsAt
after_on k m more (Goes store r) input written = more store r input written
after_on k m more (Outputs what store r) input written = tells_on k m more (output_text store what) store r input written
after_on k m more (Asks store r) input written = more store (record r { a = next_byte input }) (after_next input) written
after_on k m more (Ends e) input written = refl

adds : (k m : ℕ) → AddsAt k m
unfolding AddsAt
adds zero m store r input written = ap (λ n. run n store r input written) (omega arith)
adds (suc k) m store r input written =
    let count : suc k + m ≡ suc (k + m) = omega arith in
    ap (λ n. run n store r input written) count ∙ after_on k m (adds k m) (step store r) input written

pub run-add : (k m : ℕ) (store : List ℕ) (r : Registers) (input written : List ℕ)
    → run (k + m) store r input written ≡ onwards m (run k store r input written)
unfolding AddsAt
run-add k m store r input written = adds k m store r input written

-- what was written before a run begins its output
BeginsAt : ℕ → Type 0
BeginsAt n = (store : List ℕ) (r : Registers) (input written : List ℕ) → (more : List ℕ) × (output_of (run n store r input written) ≡ written ++ more)

following : (written bytes : List ℕ) (s : Standing) → (more : List ℕ) × (output_of s ≡ (written ++ bytes) ++ more) → (more : List ℕ) × (output_of s ≡ written ++ more)
following written bytes s grown = (bytes ++ grown.0, grown.1 ∙ append_assoc written bytes grown.0)

tells_begins : (n : ℕ) → BeginsAt n → (text : Text) (store : List ℕ) (r : Registers) (input written : List ℕ)
    → (more : List ℕ) × (output_of (if text.whole then run n store r input (written ++ text.bytes) else Over StoreLimit input (written ++ text.bytes)) ≡ (written ++ text.bytes) ++ more)
unfolding BeginsAt
tells_begins n begins text store r input written = by_whole text.whole
  where
    by_whole : (whole : Bool) → (more : List ℕ) × (output_of (if whole then run n store r input (written ++ text.bytes) else Over StoreLimit input (written ++ text.bytes)) ≡ (written ++ text.bytes) ++ more)
    by_whole true = begins store r input (written ++ text.bytes)
    by_whole false = ([], sym (append-nil (written ++ text.bytes)))

after_begins : (n : ℕ) → BeginsAt n → (turn : Turn) (input written : List ℕ) → (more : List ℕ) × (output_of (after (run n) turn input written) ≡ written ++ more)
unfolding BeginsAt
after_begins n begins (Goes store r) input written = begins store r input written
after_begins n begins (Outputs what store r) input written =
    following written (output_text store what).bytes (after (run n) (Outputs what store r) input written)
    (tells_begins n begins (output_text store what) store r input written)
after_begins n begins (Asks store r) input written = begins store (record r { a = next_byte input }) (after_next input) written
after_begins n begins (Ends e) input written = ([], sym (append-nil written))

run_begins : (n : ℕ) → BeginsAt n
unfolding BeginsAt
run_begins zero store r input written = ([], sym (append-nil written))
run_begins (suc n) store r input written = after_begins n (run_begins n) (step store r) input written

pub run-begins : (n : ℕ) (store : List ℕ) (r : Registers) (input written : List ℕ) → (more : List ℕ) × (output_of (run n store r input written) ≡ written ++ more)
unfolding BeginsAt
run-begins n store r input written = run_begins n store r input written

-- and what was written so far begins what is written onwards
pub onwards-begins : (m : ℕ) (s : Standing) → (more : List ℕ) × (output_of (onwards m s) ≡ output_of s ++ more)
onwards-begins m (Going store r input written) = run-begins m store r input written
onwards-begins m (Over e input written) = ([], sym (append-nil written))

-- the input that is left
abbrev pub input_of : Standing → List ℕ
input_of (Going store r input written) = input
input_of (Over e input written) = input

-- the input left after a run is no longer than before it
ShrinksAt : ℕ → Type 0
ShrinksAt n = (store : List ℕ) (r : Registers) (input written : List ℕ) → length (input_of (run n store r input written)) ≤ length input

tells_shrinks : (n : ℕ) → ShrinksAt n → (text : Text) (store : List ℕ) (r : Registers) (input written : List ℕ)
    → length (input_of (if text.whole then run n store r input (written ++ text.bytes) else Over StoreLimit input (written ++ text.bytes))) ≤ length input
unfolding ShrinksAt
tells_shrinks n shrinks text store r input written = by_whole text.whole
  where
    by_whole : (whole : Bool) → length (input_of (if whole then run n store r input (written ++ text.bytes) else Over StoreLimit input (written ++ text.bytes))) ≤ length input
    by_whole true = shrinks store r input (written ++ text.bytes)
    by_whole false = omega arith

after_shorter : (input : List ℕ) → length (after_next input) ≤ length input
after_shorter [] = omega arith
after_shorter (b ∷ rest) = omega arith

after_shrinks : (n : ℕ) → ShrinksAt n → (turn : Turn) (input written : List ℕ) → length (input_of (after (run n) turn input written)) ≤ length input
unfolding ShrinksAt
after_shrinks n shrinks (Goes store r) input written = shrinks store r input written
after_shrinks n shrinks (Outputs what store r) input written = tells_shrinks n shrinks (output_text store what) store r input written
after_shrinks n shrinks (Asks store r) input written =
    let here = shrinks store (record r { a = next_byte input }) (after_next input) written in
    let shorter = after_shorter input in
    omega arith
after_shrinks n shrinks (Ends e) input written = omega arith

shrinks : (n : ℕ) → ShrinksAt n
unfolding ShrinksAt
shrinks zero store r input written = omega arith
shrinks (suc n) store r input written = after_shrinks n (shrinks n) (step store r) input written

pub run-shrinks : (n : ℕ) (store : List ℕ) (r : Registers) (input written : List ℕ)
    → length (input_of (run n store r input written)) ≤ length input
unfolding ShrinksAt
run-shrinks n store r input written = shrinks n store r input written

-- What was written begins what the n steps write, whatever input follows the bytes that were read.
pub record Beginning (Holds : List ℕ → Type 0) (n : ℕ) (store : List ℕ) (r : Registers) (old new : Devices) : Type 0 where
  pub read : List ℕ
  pub written : List ℕ
  pub exchanged : Exchanged old new read written
  pub flushes : FlushesFirst Holds n store r old new read
  pub begins : (rest before : List ℕ) → Follows new rest
      → (more : List ℕ) × (output_of (run n store r (read ++ rest) before) ≡ (before ++ written) ++ more)

module _ (Holds : List ℕ → Type 0) (n : ℕ) (store : List ℕ) (r : Registers) (old new : Devices) where
  -- after the first steps of n
  after_steps : (steps : ℕ) (store' : List ℕ) (r' : Registers) (read written : List ℕ) → steps ≤ n → Leads steps store r store' r' new read written
      → (rest before : List ℕ) → Follows new rest → run n store r (read ++ rest) before ≡ run (n - steps) store' r' rest (before ++ written)
  after_steps steps store' r' read written within leads rest before follows =
      let count : n ≡ steps + (n - steps) = omega arith in
      ap (λ k. run k store r (read ++ rest) before) count ∙ run-add steps (n - steps) store r (read ++ rest) before
      ∙ ap (λ s. onwards (n - steps) s) (leads rest before follows)

  -- after a fault of the input what was written begins what the run writes without it
  pub waiting-begins : Waiting Holds n store r old new → Beginning Holds n store r old new
  waiting-begins p = record {
    read = p.read;
    written = p.written;
    exchanged = p.exchanged;
    flushes = p.flushes;
    begins = λ rest before follows.
        let within = p.within in
        let here = after_steps p.steps p.store' p.r' p.read p.written (omega arith) p.leads rest before follows in
        let more = run-begins (n - p.steps) p.store' p.r' rest (before ++ p.written) in
        (more.0, ap output_of here ∙ more.1);
  }

  -- a step that writes a text, and the steps after it
  text_begins : (k m : ℕ) (store' : List ℕ) (r' : Registers) (what : Output) (store'' : List ℕ) (r'' : Registers) → k ≡ suc m → step store' r' ≡ Outputs what store'' r''
      → (rest before : List ℕ) → (more : List ℕ) × (output_of (run k store' r' rest before) ≡ (before ++ (output_text store'' what).bytes) ++ more)
  unfolding BeginsAt
  text_begins k m store' r' what store'' r'' one tells rest before =
      let more = tells_begins m (run_begins m) (output_text store'' what) store'' r'' rest before in
      (more.0, ap (λ i. output_of (run i store' r' rest before)) one ∙ ap (λ t. output_of (after (run m) t rest before)) tells ∙ more.1)

  cut-beginning : CutShort Holds n store r old new → Beginning Holds n store r old new
  cut-beginning p = record {
    read = p.read;
    written = p.written ++ p.begun;
    exchanged = p.exchanged;
    flushes = p.flushes;
    begins = λ rest before follows.
        let within = p.within in
        let one : n - p.steps ≡ suc (n - p.steps - 1) = omega arith in
        let here = after_steps p.steps p.store' p.r' p.read p.written (omega arith) p.leads rest before follows in
        let more = text_begins (n - p.steps) (n - p.steps - 1) p.store' p.r' p.what p.store'' p.r'' one p.tells rest (before ++ p.written) in (
          p.left ++ more.0,
          ap output_of here ∙ more.1 ∙ ap (λ t. ((before ++ p.written) ++ t) ++ more.0) p.begins ∙ regrouped before p.written p.begun p.left more.0,
        );
  }
    where
      regrouped : (a b c d e : List ℕ) → ((a ++ b) ++ (c ++ d)) ++ e ≡ (a ++ (b ++ c)) ++ (d ++ e)
      regrouped a b c d e = simp append_assoc

  paused-beginning : (store' : List ℕ) (r' : Registers) → Paused Holds n store r store' r' old new → Beginning Holds n store r old new
  paused-beginning store' r' p = record {
    read = p.read;
    written = p.written;
    exchanged = p.exchanged;
    flushes = p.flushes;
    begins = λ rest before follows. ([], ap output_of (p.leads rest before follows) ∙ sym (append-nil (before ++ p.written)));
  }

  finished-beginning : (e : End) → Finished Holds e n store r old new → Beginning Holds n store r old new
  finished-beginning e p = record {
    read = p.read;
    written = p.written;
    exchanged = p.exchanged;
    flushes = p.flushes;
    begins = λ rest before follows. ([], ap output_of (p.ends rest before follows) ∙ sym (append-nil (before ++ p.written)));
  }

  -- after a fault of the output what was written begins what the run writes without it
  pub broken-begins : Broken Holds n store r old new → Beginning Holds n store r old new
  broken-begins (inl (inl cut)) = cut-beginning cut
  broken-begins (inl (inr waiting)) = waiting-begins waiting
  broken-begins (inr (inl paused)) = paused-beginning paused.0 paused.1 paused.2
  broken-begins (inr (inr finished)) = finished-beginning finished.0 finished.1
