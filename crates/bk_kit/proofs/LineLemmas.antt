-- Numbers and limits that a command line gives.
pub use Rattle.bk_kit.proofs.Terms.{◌≡◌, ◌∙◌, ◌⊎◌, inl, inr, ℕ, ◌<◌, ◌^◌, List, [], Bool, true, false, Bor, option_map, Option, None, Some, Result, Ok, Err, IfErr, IfSome, IsSome, codes, length, refl, sym, ap, ap₂, subst, arith, ParsesUnsigned, ParsesBool, Box, rows_of, found_of, subcommand_name_of, subcommand_rows, subcommand_rows_of, is_simple_and_free, fault_of, App, Row, Text, ReadsOne, IsAmong, one_of, first_of, subcommand_of, takes, Bounds, ErrorKind, ErrorKind as kind, first_value-rows, one_text-rows, part_text}
use Rattle.std.specs.Box.{box_value}
use Rattle.clap.specs.declared.parser.matches.ArgMatches.{ArgMatches}
use Rattle.clap.specs.declared.parser.matches.ArgMatches.TheViews.{out-ArgMatches, out-SubCommand}
use Rattle.clap.specs.declared.parser.matches.SubCommand.{SubCommand}
use Rattle.bk_kit.specs.declared.command_line.LineFault.{LineFault}
use Rattle.bk_kit.specs.declared.command_line.LineFault.TheVariants.{Help, Bad, Memory}
use Rattle.bk_kit.specs.declared.orders.Order.{Order}
use Rattle.bk_kit.specs.declared.orders.Order.TheVariants.{Compile, Generate, Run, TraceSource, Check, Show, ShowInput, Interpret, Trace, Sizes}
use Rattle.bk_kit.specs.CommandLine.{ReadsNumber, ReadsLimits, AreLimits, truth_text, kit_command, IsOrder, RefusesValues, IsHelp, IsFaultOf, Refuses}

-- what `get_one` gives is the number that its text spells
pub number_of : {E : Type 0} (k : ℕ) (G : List ℕ → Result ℕ E → Type 0) (text : Option Text) (rows : Option Text) (given : Option ℕ) (number : ℕ) → text ≡ rows → given ≡ Some number
    → (text ≡ None → given ≡ None) → ((t : List ℕ) → text ≡ Some t → ReadsOne G t given) → ((u : List ℕ) (x : Result ℕ E) → G u x → ParsesUnsigned k 10 u x) → ReadsNumber rows number
number_of k G text rows given number same is none value only = subst (λ (t : Option Text). ReadsNumber t number) same (by_case text none value)
  where
    by_case : (o : Option Text) → (o ≡ None → given ≡ None) → ((t : List ℕ) → o ≡ Some t → ReadsOne G t given) → ReadsNumber o number
    by_case None none value = absurd (let bad : None ≡ Some number = sym (none refl) ∙ is in cc)
    by_case (Some t) none value = let parsed = only t (Ok number) (subst (λ (r : Option ℕ). ReadsOne G t r) is (value t refl)) in (parsed.0.0, parsed.1)

pub if_some_map : {A : Type 0} (P Q : A → Type 0) (o : Option A) → ((a : A) → P a → Q a) → IfSome o P → IfSome o Q
if_some_map P Q None f h = tt
if_some_map P Q (Some a) f h = f a h

-- what `get_one` gives is the truth value that its text names
pub truth_of : (E : Type 0) (text : Option Text) (rows : Option Text) (given : Option Bool) → text ≡ rows → (text ≡ None → given ≡ None)
    → ((t : List ℕ) → text ≡ Some t → ReadsOne {E = E} (ParsesBool {E = E}) t given) → IfSome given (λ b. rows ≡ Some (truth_text b))
truth_of E text rows None same none value = tt
truth_of E None rows (Some b) same none value = absurd (let bad : Some b ≡ None = none refl in cc)
truth_of E (Some t) rows (Some true) same none value = sym same ∙ ap Some (value t refl)
truth_of E (Some t) rows (Some false) same none value = sym same ∙ ap Some (value t refl)

-- a text that was found
pub text_of : (given : Option (Bor Text)) (value rows : Option Text) → option_map (λ s. s.now) given ≡ value → value ≡ rows → IfSome given (λ s. rows ≡ Some s.now)
text_of None value rows is same = tt
text_of (Some s) value rows is same = sym same ∙ sym is

-- `get_one` gives a number where its text spells one that its type has
pub number_given : {E : Type 0} (k : ℕ) (G : List ℕ → Result ℕ E → Type 0) (text rows : Option Text) (given : Option ℕ) (number : ℕ) → text ≡ rows → number < 2 ^ k → ReadsNumber rows number
    → ((t : List ℕ) → text ≡ Some t → ReadsOne G t given) → ((u : List ℕ) (x : Result ℕ E) → G u x → ParsesUnsigned k 10 u x) → given ≡ Some number
number_given {E} k G text None given number same fits reads value only = absurd reads
number_given {E} k G text (Some t) given number same fits reads value only = by_case given (value t same)
  where
    by_case : (o : Option ℕ) → ReadsOne G t o → o ≡ Some number
    by_case None read = absurd (only t (Err read.0) read.1 (reads.0, subst (λ (n : ℕ). n < 2 ^ k) reads.1 fits))
    by_case (Some v) read = ap Some ((only t (Ok v) read).1 ∙ sym reads.1)

-- and a truth value where its text names one
pub truth_given : (E : Type 0) (text rows : Option Text) (given : Option Bool) (asked : Bool) → text ≡ rows → rows ≡ Some (truth_text asked)
    → ((t : List ℕ) → text ≡ Some t → ReadsOne {E = E} (ParsesBool {E = E}) t given) → IsSome given
truth_given E text rows given asked same is value = by_case given asked (value (truth_text asked) (same ∙ is))
  where
    by_case : (o : Option Bool) (b : Bool) → ReadsOne {E = E} (ParsesBool {E = E}) (truth_text b) o → IsSome o
    by_case (Some v) b read = refl
    by_case None true read = absurd (read.1.0 refl)
    by_case None false read = absurd (read.1.1 refl)

-- a text that is there is given
pub text_given : (given : Option (Bor Text)) (value rows : Option Text) (name : Text) → option_map (λ s. s.now) given ≡ value → value ≡ rows → rows ≡ Some name → IsSome given
text_given (Some s) value rows name is same there = refl
text_given None value rows name is same there = absurd (let e : None ≡ Some name = is ∙ same ∙ there in cc)

pub some_given : {A : Type 0} (o : Option A) (a : A) → o ≡ Some a → IsSome o
some_given (Some b) a is = refl
some_given None a is = absurd cc

-- the subcommand that a parse met, by its name and its rows
names_same : {Z : Type 0} (o : Option (Box SubCommand Z)) → option_map (λ b. (out-SubCommand (box_value b)).name.now) o ≡ option_map (λ p. p.0) (subcommand_rows o)
names_same None = refl
names_same (Some b) = refl

pair_of : {A B : Type 0} (o : Option (A × B)) (a : A) (b : B) → Some a ≡ option_map (λ p. p.0) o → Some b ≡ option_map (λ p. p.1) o → o ≡ Some (a, b)
pair_of None a b first second = absurd (cc first)
pair_of (Some p) a b first second = let x : a ≡ p.0 = cc in let y : b ≡ p.1 = cc in ap₂ (λ u v. Some (u, v)) (sym x) (sym y)

pub found_subcommand : (m : ArgMatches) (r : Option (Bor (List ℕ) × Bor ArgMatches)) (name : Bor (List ℕ)) (values : Bor ArgMatches)
    → option_map (λ p. p.0.now) r ≡ subcommand_name_of m → option_map (λ p. rows_of (found_of p.1.now)) r ≡ option_map (λ p. p.1) (subcommand_rows_of m)
    → r ≡ Some (name, values) → subcommand_rows_of m ≡ Some (name.now, rows_of (found_of values.now))
found_subcommand m r name values names rows is =
    pair_of (subcommand_rows_of m) name.now (rows_of (found_of values.now))
    (sym (ap (option_map (λ p. p.0.now)) is) ∙ names ∙ names_same (out-ArgMatches m).subcommand)
    (sym (ap (option_map (λ p. rows_of (found_of p.1.now))) is) ∙ rows)

-- ---- why words give no order

-- An order that the values of `interpret` give: it has the limits that they give, and says whether sizes and steps are asked for.
record Asks (rows : List Row) : Type 0 where
  limits : Bounds
  are_limits : AreLimits limits
  reads : ReadsLimits rows limits
  sizes : Bool
  asks_sizes : one_of (codes "sizes") rows ≡ Some (truth_text sizes)
  trace : Bool
  asks_trace : sizes ≡ false → one_of (codes "trace") rows ≡ Some (truth_text trace)
  named : sizes ≡ false → trace ≡ false → first_of (codes "ocode") rows ≡ None

asked_by : (rows : List Row) → IsOrder (Some (codes "interpret", rows)) → Asks rows
asked_by rows (Compile, limits, reads) = let e : 9 ≡ 7 = ap (λ (t : Text). length t) reads in absurd (omega (arith, e))
asked_by rows (Generate, limits, reads) = let e : 9 ≡ 8 = ap (λ (t : Text). length t) reads in absurd (omega (arith, e))
asked_by rows (Run bounds file, limits, reads) = let e : 9 ≡ 3 = ap (λ (t : Text). length t) reads.0 in absurd (omega (arith, e))
asked_by rows (TraceSource bounds extent file, limits, reads) = let e : 9 ≡ 3 = ap (λ (t : Text). length t) reads.0 in absurd (omega (arith, e))
asked_by rows (Check turns file, limits, reads) = let e : 9 ≡ 5 = ap (λ (t : Text). length t) reads.0 in absurd (omega (arith, e))
asked_by rows (Show part file, limits, reads) = let e : 9 ≡ 4 = ap (λ (t : Text). length t) reads.0 in absurd (omega (arith, e))
asked_by rows (ShowInput part, limits, reads) = let e : 9 ≡ 4 = ap (λ (t : Text). length t) reads.0 in absurd (omega (arith, e))
asked_by rows (Interpret bounds file, limits, reads) = record {
  limits = bounds;
  are_limits = limits;
  reads = reads.3;
  sizes = false;
  asks_sizes = reads.1;
  trace = false;
  asks_trace = λ not. reads.2;
  named = λ not none. reads.5;
}
asked_by rows (Trace bounds file ocode, limits, reads) = record {
  limits = bounds;
  are_limits = limits;
  reads = reads.3;
  sizes = false;
  asks_sizes = reads.1;
  trace = true;
  asks_trace = λ not. reads.2;
  named = λ not none. absurd (let e : true ≡ false = none in cc);
}
asked_by rows (Sizes words file, limits, reads) =
    let found = reads.2 in record {
      limits = record { steps = found.0; words = words };
      are_limits = (found.1, found.2, limits.0, limits.1);
      reads = found.3;
      sizes = true;
      asks_sizes = reads.1;
      trace = false;
      asks_trace = λ not. absurd (let e : true ≡ false = not in cc);
      named = λ not none. absurd (let e : true ≡ false = not in cc);
    }

no_answer : {A : Type 0} (o : Option A) → o ≡ None → IsSome o → ⊥
no_answer {A = A} None none some = let e : IsSome {T = A} None = some in cc
no_answer {A = A} (Some a) none some = let e : Some a ≡ None = none in cc

-- two truth values that one text names
one_truth : (text : Option Text) (a b : Bool) → text ≡ Some (truth_text a) → text ≡ Some (truth_text b) → a ≡ b
one_truth text true true first second = refl
one_truth text false false first second = refl
one_truth text true false first second = absurd (let e : Some (truth_text true) ≡ Some (truth_text false) = sym first ∙ second in cc)
one_truth text false true first second = absurd (let e : Some (truth_text false) ≡ Some (truth_text true) = sym first ∙ second in cc)

module _ (rows : List Row) where
  -- the values of `interpret` where nothing says whether the sizes are asked for
  pub sizes_refused : (asked : Option Bool) → asked ≡ None → ((b : Bool) → one_of (codes "sizes") rows ≡ Some (truth_text b) → IsSome asked)
      → RefusesValues (Some (codes "interpret", rows)) Bad
  sizes_refused asked none given order = let a = asked_by rows order in no_answer asked none (given a.sizes a.asks_sizes)

  -- and where they have no limits
  pub limits_refused : (read : Option Bounds) → read ≡ None → ((limits : Bounds) → AreLimits limits → ReadsLimits rows limits → IsSome read)
      → RefusesValues (Some (codes "interpret", rows)) Bad
  limits_refused read none given order = let a = asked_by rows order in no_answer read none (given a.limits a.are_limits a.reads)

  module _ (unasked : one_of (codes "sizes") rows ≡ Some (truth_text false)) where
    -- and where nothing says whether the steps are asked for
    pub trace_refused : (asked : Option Bool) → asked ≡ None → ((b : Bool) → one_of (codes "trace") rows ≡ Some (truth_text b) → IsSome asked)
        → RefusesValues (Some (codes "interpret", rows)) Bad
    trace_refused asked none given order =
        let a = asked_by rows order in
        no_answer asked none (given a.trace (a.asks_trace (one_truth (one_of (codes "sizes") rows) a.sizes false a.asks_sizes unasked)))

    -- and where OCODE is named, but no steps are asked for
    pub names_refused : (given : Option (Bor Text)) → one_of (codes "trace") rows ≡ Some (truth_text false) → option_map (λ s. s.now) given ≡ first_of (codes "ocode") rows
        → IsSome given → RefusesValues (Some (codes "interpret", rows)) Bad
    names_refused None untraced same some order = let e : IsSome {T = Bor Text} None = some in cc
    names_refused (Some name) untraced same some order =
        let a = asked_by rows order in
        let not_sizes = one_truth (one_of (codes "sizes") rows) a.sizes false a.asks_sizes unasked in
        let not_trace = one_truth (one_of (codes "trace") rows) a.trace false (a.asks_trace not_sizes) untraced in
        let e : Some name.now ≡ None = same ∙ a.named not_sizes not_trace in
        cc

-- An order that the values of `run` give says whether steps are written.
steps_asked_by : (rows : List Row) → IsOrder (Some (codes "run", rows)) → (b : Bool) × (one_of (codes "trace") rows ≡ Some (truth_text b))
steps_asked_by rows (Compile, limits, reads) = let e : 3 ≡ 7 = ap (λ (t : Text). length t) reads in absurd (omega (arith, e))
steps_asked_by rows (Generate, limits, reads) = let e : 3 ≡ 8 = ap (λ (t : Text). length t) reads in absurd (omega (arith, e))
steps_asked_by rows (Run bounds file, limits, reads) = (false, reads.1)
steps_asked_by rows (TraceSource bounds extent file, limits, reads) = (true, reads.1)
steps_asked_by rows (Check turns file, limits, reads) = let e : 3 ≡ 5 = ap (λ (t : Text). length t) reads.0 in absurd (omega (arith, e))
steps_asked_by rows (Show part file, limits, reads) = let e : 3 ≡ 4 = ap (λ (t : Text). length t) reads.0 in absurd (omega (arith, e))
steps_asked_by rows (ShowInput part, limits, reads) = let e : 3 ≡ 4 = ap (λ (t : Text). length t) reads.0 in absurd (omega (arith, e))
steps_asked_by rows (Interpret bounds file, limits, reads) = let e : 3 ≡ 9 = ap (λ (t : Text). length t) reads.0 in absurd (omega (arith, e))
steps_asked_by rows (Trace bounds file ocode, limits, reads) = let e : 3 ≡ 9 = ap (λ (t : Text). length t) reads.0 in absurd (omega (arith, e))
steps_asked_by rows (Sizes words file, limits, reads) = let e : 3 ≡ 9 = ap (λ (t : Text). length t) reads.0 in absurd (omega (arith, e))

-- the values of `run` where nothing says whether steps are written
pub run_trace_refused : (rows : List Row) (asked : Option Bool) → asked ≡ None → ((b : Bool) → one_of (codes "trace") rows ≡ Some (truth_text b) → IsSome asked)
    → RefusesValues (Some (codes "run", rows)) Bad
run_trace_refused rows asked none given order = let a = steps_asked_by rows order in no_answer asked none (given a.0 a.1)

-- the kit's command is one whose faults clap tells
pub faults_told : (app : App) (A : App → Type 0) → app ≡ kit_command → (is_simple_and_free app ≡ true → A app) → A kit_command
faults_told app A same reported = subst A same (reported (subst (λ a. is_simple_and_free a ≡ true) (sym same) refl))

-- clap gives no values
pub words_refused : (app : App) (words : List Text) (k : ErrorKind) (fault : LineFault) → app ≡ kit_command → (takes app words ≡ true → k ≡ kind.OutOfMemory)
    → (is_simple_and_free app ≡ true → (k ≡ kind.OutOfMemory) ⊎ IsAmong k (fault_of app words)) → IsFaultOf k fault → Refuses words fault
words_refused app words k fault same passes kinds is =
    by_fault fault (λ taken. passes (subst (λ a. takes a words ≡ true) (sym same) taken))
    (faults_told app (λ a. (k ≡ kind.OutOfMemory) ⊎ IsAmong k (fault_of a words)) same kinds) is
  where
    differ : IsHelp k → k ≡ kind.OutOfMemory → ⊥
    differ (inl help) memory = let e = sym help ∙ memory in cc
    differ (inr reported) memory = let e = sym reported ∙ memory in cc

    by_fault : (fault : LineFault) → (takes kit_command words ≡ true → k ≡ kind.OutOfMemory) → (k ≡ kind.OutOfMemory) ⊎ IsAmong k (fault_of kit_command words) → IsFaultOf k fault → Refuses words fault
    by_fault (Help help) passes (inl memory) is = absurd (differ is memory)
    by_fault (Help help) passes (inr among) is = ((λ taken. differ is (passes taken)), (k, among, is))
    by_fault Bad passes (inl memory) is = absurd (is.0 memory)
    by_fault Bad passes (inr among) is = inl ((λ taken. is.0 (passes taken)), (k, among, is.1))
    by_fault Memory passes kinds is = tt

-- the values give no order
pub values_refused : (result : Result Order LineFault) (words : List Text) (found : Option (Text × List Row)) → subcommand_of kit_command words ≡ found → fault_of kit_command words ≡ []
    → IfErr result (RefusesValues found) → IfErr result (Refuses words)
values_refused (Ok order) words found same none refused = tt
values_refused (Err (Help help)) words found same none refused = absurd refused
values_refused (Err Bad) words found same none refused = inr (none, λ order. refused (subst IsOrder same order))
values_refused (Err Memory) words found same none refused = tt
