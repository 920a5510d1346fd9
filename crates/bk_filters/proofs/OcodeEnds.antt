-- A run of OCODE ends of itself with a status, or by a division by zero: never for want of words.
use Rattle.bk_filters.proofs.Terms.{◌≡◌, ◌≢◌, ℕ, zero, suc, ◌+◌, ◌-◌, ◌^◌, ◌==◌, nat_lt, Bool, true, false, List, [], ◌∷◌, ◌++◌, Option, Some, None, subst, if◌then◌else◌, ⊤, option_map_or, End, Status, DivideByZero, StoreLimit, Content, Unset, Partly, Word, Variable, Held, write, Stmt, Monadic, Dyadic, LoadByte, Assign, AssignAt, AssignByte, Jump, JumpIf, GiveResult, CallFunction, CallRoutine, ReturnItem, Return, Switch, Finish}
use Rattle.bk_base.specs.Format.{parts}
use Rattle.bk_base.specs.Word.{signed, word_sum, byte_distance}
use Rattle.bk_ocode.specs.Access.{variable_at, number_in, byte_at, word_with_byte_at, string_at}
use Rattle.bk_ocode.specs.OcodeState.{Routine, Stop, Rdch, Wrch, Newline, Writes, Writen, Writed, Getbyte, Putbyte, Writef, Placed, Callables, Control, Inside, Following, At, State, Next, Goes, Ends, Wild}
use Rattle.bk_ocode.specs.OcodeStep.{slot, on_number, on_some, operated, named_place, has_word, from_label, case_label, can_be_called, jump, call, return, tells, read_byte, routine_step, dyadic_word, step_by, step_in, step_from}
use Rattle.bk_ocode.specs.OcodeRun.{Program, resumed, label_rest, resumed_in, program_step_from, program_step, then_run, run}
use Rattle.bk_ocode.specs.Telling.{format_bytes}
use Rattle.bk_ocode.specs.declared.stmt.Monadic.TheVariants.{Contents, Negate, Not}

-- the end of a step, if it is one, is not for want of words
abbrev OfItself : Next → Type 0
OfItself (Goes t) = ⊤
OfItself (Ends e t) = e ≢ StoreLimit
OfItself Wild = ⊤

number_own : (content : Content) (go : ℕ → Next) → ((w : ℕ) → OfItself (go w)) → OfItself (on_number content go)
number_own Unset go own = tt
number_own (Partly b0 b1 b2 b3) go own = tt
number_own (Word w) go own = own w

either_own : {A : Type 0} → (found : Option A) (go : A → Next) (other : Next) → ((x : A) → OfItself (go x)) → OfItself other → OfItself (option_map_or go found other)
either_own None go other own rest = rest
either_own (Some x) go other own rest = own x

some_own : {A : Type 0} → (found : Option A) (go : A → Next) → ((x : A) → OfItself (go x)) → OfItself (on_some found go)
some_own found go own = either_own found go Wild own tt

if_own : (b : Bool) (x y : Next) → OfItself x → OfItself y → OfItself (if b then x else y)
if_own true x y p q = p
if_own false x y p q = q

not_by_zero : DivideByZero ≢ StoreLimit
not_by_zero e = cc

operated_own : (s : State) (own : Placed) (n : ℕ) (rest : List Stmt) (w : Option ℕ) → OfItself (operated s own n rest w)
operated_own s own n rest (Some w) = tt
operated_own s own n rest None = not_by_zero

jump_own : (s : State) (own : Placed) (k l : ℕ) → OfItself (jump s own k l)
jump_own s own k l = some_own (from_label own.stmts l) _ (λ rest. tt)

call_own : (callables : Callables) (s : State) (own : Placed) (k n e : ℕ) (rest : List Stmt) → OfItself (call callables s own k n e rest)
call_own callables s own k n e rest = if_own (can_be_called callables e) _ Wild (if_own (nat_lt (2 ^ 31 - 65536) (s.frame + n)) Wild _ tt tt) tt

return_own : (s : State) (result : Option Content) → OfItself (return s result)
return_own s result = number_own (slot s 1) _ (λ c. number_own (slot s 0) _ (λ p. tt))

not_status : (v : ℕ) → Status (signed v) ≢ StoreLimit
not_status v e = cc

step_by_own : (callables : Callables) (s : State) (own : Placed) (k : ℕ) (stmt : Stmt) (rest : List Stmt) → OfItself (step_by callables s own k stmt rest)
step_by_own callables s own k (Monadic Contents) rest =
    number_own (slot s (k - 1)) _ (λ a. some_own (variable_at (s.frame + k) s.cells a) _ (λ content. tt))
step_by_own callables s own k (Monadic Negate) rest = number_own (slot s (k - 1)) _ (λ w. tt)
step_by_own callables s own k (Monadic Not) rest = number_own (slot s (k - 1)) _ (λ w. tt)
step_by_own callables s own k (Dyadic operator) rest =
    number_own (slot s (k - 2)) _ (λ v. number_own (slot s (k - 1)) _ (λ w. operated_own s own (k - 2) rest (dyadic_word operator v w)))
step_by_own callables s own k LoadByte rest =
    number_own (slot s (k - 2)) _ (λ a. number_own (slot s (k - 1)) _ (λ i. some_own (byte_at (s.frame + k) s.cells a i) _ (λ b. tt)))
step_by_own callables s own k (Assign to) rest = if_own (has_word to (s.cells (named_place s own to))) _ Wild tt tt
step_by_own callables s own k AssignAt rest = number_own (slot s (k - 1)) _ (λ a. some_own (variable_at (s.frame + k) s.cells a) _ (λ _. tt))
step_by_own callables s own k AssignByte rest =
    number_own (slot s (k - 3)) _ (λ b. number_own (slot s (k - 2)) _ (λ a. number_own (slot s (k - 1)) _ (λ i.
    some_own (word_with_byte_at (s.frame + k) s.cells a i b) _ (λ content. tt))))
step_by_own callables s own k (Jump l) rest = jump_own s own k l
step_by_own callables s own k (JumpIf true l) rest = number_own (slot s (k - 1)) _ (λ w. if_own (w == 0) _ _ tt (jump_own s own (k - 1) l))
step_by_own callables s own k (JumpIf false l) rest = number_own (slot s (k - 1)) _ (λ w. if_own (w == 0) _ _ (jump_own s own (k - 1) l) tt)
step_by_own callables s own k (GiveResult l) rest = some_own (from_label own.stmts l) _ (λ rest'. tt)
step_by_own callables s own k (CallFunction n) rest = number_own (slot s (k - 1)) _ (λ e. call_own callables s own k n e rest)
step_by_own callables s own k (CallRoutine n) rest = number_own (slot s (k - 1)) _ (λ e. call_own callables s own k n e rest)
step_by_own callables s own k ReturnItem rest = return_own s _
step_by_own callables s own k Return rest = return_own s None
step_by_own callables s own k (Switch default cases) rest = number_own (slot s (k - 1)) _ (λ w. jump_own s own (k - 1) (case_label cases default w))
step_by_own callables s own k Finish rest = not_status 0
step_by_own callables s own k x rest = tt

step_in_own : (callables : Callables) (s : State) (own : Placed) (k : ℕ) (rest : List Stmt) → OfItself (step_in callables s own k rest)
step_in_own callables s own k [] = tt
step_in_own callables s own k (stmt ∷ rest) = step_by_own callables s own k stmt rest

report_own : (s : State) (bytes : List ℕ) → OfItself (tells s bytes)
report_own s bytes = return_own (record s { output = s.output ++ bytes }) None

read_own : (s : State) (input : List ℕ) → OfItself (read_byte input s)
read_own s [] = return_own s _
read_own s (b ∷ rest) = return_own (record s { input = rest }) _

routine_own : (s : State) (r : Routine) → OfItself (routine_step s r)
routine_own s Stop = number_own (slot s 2) _ (λ n. not_status n)
routine_own s Rdch = read_own s s.input
routine_own s Wrch = number_own (slot s 2) _ (λ b. report_own s _)
routine_own s Newline = report_own s _
routine_own s Writes = number_own (slot s 2) _ (λ a. some_own (string_at s.frame s.cells a) _ (λ bytes. report_own s bytes))
routine_own s Writen = number_own (slot s 2) _ (λ n. report_own s _)
routine_own s Writed = number_own (slot s 2) _ (λ n. number_own (slot s 3) _ (λ w. report_own s _))
routine_own s Getbyte = number_own (slot s 2) _ (λ a. number_own (slot s 3) _ (λ i. some_own (byte_at s.frame s.cells a i) _ (λ b. return_own s _)))
routine_own s Putbyte =
    number_own (slot s 2) _ (λ a. number_own (slot s 3) _ (λ i. number_own (slot s 4) _ (λ b.
    some_own (word_with_byte_at s.frame s.cells a i b) _ (λ content.
    return_own (record s { cells = write s.cells (word_sum a (byte_distance i)) (Held Variable content); written = word_sum a (byte_distance i) ∷ s.written }) None))))
routine_own s Writef =
    number_own (slot s 2) _ (λ f. some_own (string_at s.frame s.cells f) _ (λ format.
    some_own (format_bytes (λ a. number_in (slot s a)) (string_at s.frame s.cells) (parts format) 3) _ (λ bytes. report_own s bytes)))

step_own : (callables : Callables) (s : State) (c : Control) → OfItself (step_from callables s c)
step_own callables s (Inside own k rest) = step_in_own callables s own k rest
step_own callables s (Following own l) = tt
step_own callables s (At n) = some_own (callables.routine n) _ (λ r. routine_own s r)

program_own : (program : Program) (s : State) (c : Control) → OfItself (program_step_from program s c)
program_own program s (Inside own k rest) = step_own program.callables s s.control
program_own program s (Following own l) =
    some_own (label_rest own.places 0 own.stmts l) _ (λ r. step_own program.callables (resumed own r s) (resumed own r s).control)
program_own program s (At n) =
    if_own (n == program.home) _ _ (not_status 0)
    (either_own (program.callables.routine n) _ _ (λ _. step_own program.callables s s.control)
    (some_own (resumed_in program.sections n s) _ (λ t. step_own program.callables t t.control)))

then_own : (go : State → Next) → ((t : State) → OfItself (go t)) → (x : Next) → OfItself x → OfItself (then_run go x)
then_own go owns (Goes t) own = owns t
then_own go owns (Ends e t) own = own
then_own go owns Wild own = tt

run_own : (program : Program) (n : ℕ) (s : State) → OfItself (run program n s)
run_own program zero s = tt
run_own program (suc n) s = then_own (run program n) (run_own program n) (program_step program s) (program_own program s s.control)

pub ends_of_itself : (program : Program) (n : ℕ) (s t : State) (e : End) → run program n s ≡ Ends e t → e ≢ StoreLimit
ends_of_itself program n s t e ends = subst OfItself ends (run_own program n s)
