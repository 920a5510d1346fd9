-- A run keeps the length of its store.
use Rattle.std.proofs.Common.{◌==◌, ◌≡◌, ℕ, zero, suc, Bool, true, false, List, ◌++◌, length, Option, Some, None, refl, subst, if◌then◌else◌, nat_lt}
use Rattle.std.specs.Prelude.{slice_get, slice_set, ⊤}
use Rattle.std.specs.Option.{option_map_or}
use Rattle.std.proofs.lemmas.List.{length-set}
use Rattle.bk_base.specs.Word.{word_sum, byte_distance}
use Rattle.bk_base.specs.declared.run_end.End.{End}
use Rattle.bk_machine.specs.declared.output.Output.{Output}
use Rattle.bk_base.specs.declared.run_end.End.TheVariants.{StoreLimit, DivideByZero}
use Rattle.bk_machine.specs.declared.item.Function.{Function}
use Rattle.bk_machine.specs.declared.item.Function.TheVariants as f
use Rattle.bk_machine.specs.declared.operation.Operation.{Operation}
use Rattle.bk_machine.specs.declared.operation.Operation.TheVariants as op
use Rattle.bk_machine.specs.declared.operation.Routine.{Routine}
use Rattle.bk_machine.specs.declared.operation.Routine.TheVariants as routine
use Rattle.bk_machine.specs.declared.registers.Registers.{Registers}
use Rattle.bk_machine.specs.Decoding.{form, form_function, operation_by}
use Rattle.bk_machine.specs.Operations.{operator_word}
use Rattle.bk_machine.specs.Output.{byte_of, output_text}
use Rattle.bk_machine.specs.Runs.{Standing, Going, Over, next_byte, after_next, after, run}
use Rattle.bk_machine.specs.Step.{Turn, Goes, Outputs, Asks, Ends, loaded, stored, byte_stored, operand, switched, given, called, operated, executed, step}

-- the store of a turn, if it goes on, has so many words
data KeepsLength (n : ℕ) : Turn → Type 0 where
  goes : (s : List ℕ) (r : Registers) → length s ≡ n → KeepsLength n (Goes s r)
  tells : (what : Output) (s : List ℕ) (r : Registers) → length s ≡ n → KeepsLength n (Outputs what s r)
  asks : (s : List ℕ) (r : Registers) → length s ≡ n → KeepsLength n (Asks s r)
  ends : (e : End) → KeepsLength n (Ends e)

or_end : {A : Type 0} (n : ℕ) (x : Option A) (go : A → Turn) → ((a : A) → KeepsLength n (go a)) → KeepsLength n (option_map_or go x (Ends StoreLimit))
or_end n None go h = ends _
or_end n (Some a) go h = h a

stored_keeps : (s : List ℕ) (at w : ℕ) (go : List ℕ → Turn) → ((q : List ℕ) → length q ≡ length s → KeepsLength (length s) (go q)) → KeepsLength (length s) (stored s at w go)
stored_keeps s at w go h = by_test (nat_lt at (length s))
  where
    by_test : (b : Bool) → KeepsLength (length s) (if b then go (slice_set s at w) else Ends StoreLimit)
    by_test true = h (slice_set s at w) (length-set s at w)
    by_test false = ends _

byte_stored_keeps : (s : List ℕ) (a i b : ℕ) (go : List ℕ → Turn) → ((q : List ℕ) → length q ≡ length s → KeepsLength (length s) (go q)) → KeepsLength (length s) (byte_stored s a i b go)
byte_stored_keeps s a i b go h = or_end _ _ _ (λ w. stored_keeps s (word_sum a (byte_distance i)) _ go h)

arg : (s : List ℕ) (at : ℕ) (go : ℕ → Turn) → ((w : ℕ) → KeepsLength (length s) (go w)) → KeepsLength (length s) (loaded s at go)
arg s at go h = or_end (length s) (slice_get s at) go h

called_keeps : (s : List ℕ) (r : Registers) (name : Routine) → KeepsLength (length s) (called s r name)
called_keeps s r routine.Stop = arg s (word_sum r.p 2) _ (λ n. ends _)
called_keeps s r routine.Rdch = asks _ _ refl
called_keeps s r routine.Wrch = arg s (word_sum r.p 2) _ (λ n. tells _ _ _ refl)
called_keeps s r routine.Newline = tells _ _ _ refl
called_keeps s r routine.Writes = arg s (word_sum r.p 2) _ (λ n. tells _ _ _ refl)
called_keeps s r routine.Writen = arg s (word_sum r.p 2) _ (λ n. tells _ _ _ refl)
called_keeps s r routine.Writed = arg s (word_sum r.p 2) _ (λ n. arg s (word_sum r.p 3) _ (λ w. tells _ s r refl))
called_keeps s r routine.Getbyte = arg s (word_sum r.p 2) _ (λ a. arg s (word_sum r.p 3) _ (λ i. or_end (length s) (byte_of s a i) (λ b. given s r b) (λ b. goes s _ refl)))
called_keeps s r routine.Putbyte = arg s (word_sum r.p 2) _ (λ a. arg s (word_sum r.p 3) _ (λ i. arg s (word_sum r.p 4) _ (λ b. byte_stored_keeps s a i b (λ next. Goes next r) (λ q e. goes q r e))))
called_keeps s r routine.Writef = arg s (word_sum r.p 2) _ (λ n. tells _ _ _ refl)

operator_keeps : (s : List ℕ) (r : Registers) (x : Option ℕ) → KeepsLength (length s) (option_map_or (λ w. given s r w) x (Ends DivideByZero))
operator_keeps s r None = ends _
operator_keeps s r (Some w) = goes _ _ refl

operated_keeps : (s : List ℕ) (r : Registers) (o : Operation) → KeepsLength (length s) (operated s r o)
operated_keeps s r op.Contents = arg s r.a _ (λ w. goes _ _ refl)
operated_keeps s r op.Negate = goes _ _ refl
operated_keeps s r op.Not = goes _ _ refl
operated_keeps s r op.Return = arg s (word_sum r.p 1) _ (λ c. arg s r.p _ (λ p. goes s (record r { c = c; p = p }) refl))
operated_keeps s r (op.Operator o) = operator_keeps s r (operator_word o r.b r.a)
operated_keeps s r op.Finish = ends _
operated_keeps s r op.Switch = or_end (length s) (switched s r.c r.a) _ (λ c. goes s (record r { c = c }) refl)
operated_keeps s r (op.Routine name) = called_keeps s r name
operated_keeps s r op.ByteAt = or_end (length s) (byte_of s r.b r.a) _ (λ b. goes s (record r { a = b }) refl)
operated_keeps s r op.SetByteAt = arg s r.c _ (λ n. arg s (word_sum r.p n) _ (λ w. byte_stored_keeps s r.b r.a w (λ next. Goes next (record r { c = word_sum r.c 1 })) (λ q e. goes q _ e)))
operated_keeps s r op.Unknown = ends _

if_keeps : (n : ℕ) (b : Bool) (u v : Turn) → KeepsLength n u → KeepsLength n v → KeepsLength n (if b then u else v)
if_keeps n true u v h k = h
if_keeps n false u v h k = k

executed_keeps : (s : List ℕ) (r : Registers) (fn : Function) (d : ℕ) → KeepsLength (length s) (executed s r fn d)
executed_keeps s r f.Load d = goes _ _ refl
executed_keeps s r f.Store d = stored_keeps s d r.a (λ q. Goes q r) (λ q e. goes _ _ e)
executed_keeps s r f.Add d = goes _ _ refl
executed_keeps s r f.Jump d = goes _ _ refl
executed_keeps s r f.JumpTrue d = if_keeps (length s) (r.a == 0) _ _ (goes s r refl) (goes s (record r { c = d }) refl)
executed_keeps s r f.JumpFalse d = if_keeps (length s) (r.a == 0) _ _ (goes s (record r { c = d }) refl) (goes s r refl)
executed_keeps s r f.Call d =
    stored_keeps s (word_sum r.p d) r.p (λ q. stored q (word_sum (word_sum r.p d) 1) r.c (λ l. Goes l (record r { c = r.a; p = word_sum r.p d })))
    (λ q e. subst (λ n. KeepsLength n (stored q (word_sum (word_sum r.p d) 1) r.c (λ l. Goes l (record r { c = r.a; p = word_sum r.p d })))) e
    (stored_keeps q (word_sum (word_sum r.p d) 1) r.c (λ l. Goes l (record r { c = r.a; p = word_sum r.p d })) (λ l g. goes _ _ g)))
executed_keeps s r f.Operate d = operated_keeps s r (operation_by d)

step_keeps : (s : List ℕ) (r : Registers) → KeepsLength (length s) (step s r)
step_keeps s r = arg s r.c _ (λ word. or_end (length s) (operand s (word_sum r.c 1) r.p (form word) word) _ (λ o. executed_keeps s (record r { c = o.1 }) (form_function (form word)) o.0))

abbrev SameLength : ℕ → Standing → Type 0
SameLength n (Going s r i o) = length s ≡ n
SameLength n (Over e i o) = ⊤

RunKeeps : ℕ → Type 0
RunKeeps n = (s : List ℕ) (r : Registers) (i o : List ℕ) → SameLength (length s) (run n s r i o)

after_keeps : (n k : ℕ) → RunKeeps n → (u : Turn) (i o : List ℕ) → KeepsLength k u → SameLength k (after (run n) u i o)
unfolding RunKeeps
after_keeps n k go _ i o (goes s r e) = subst (λ m. SameLength m (run n s r i o)) e (go s r i o)
after_keeps n k go _ i o (tells what s r e) = by_whole (output_text s what).whole
  where
    by_whole : (w : Bool) → SameLength k (if w then run n s r i (o ++ (output_text s what).bytes) else Over StoreLimit i (o ++ (output_text s what).bytes))
    by_whole true = subst (λ m. SameLength m (run n s r i (o ++ (output_text s what).bytes))) e (go s r i (o ++ (output_text s what).bytes))
    by_whole false = tt
after_keeps n k go _ i o (asks s r e) = subst (λ m. SameLength m (run n s (record r { a = next_byte i }) (after_next i) o)) e (go s (record r { a = next_byte i }) (after_next i) o)
after_keeps n k go _ i o (ends x) = tt

run_keeps : (n : ℕ) → RunKeeps n
unfolding RunKeeps
run_keeps zero s r i o = refl
run_keeps (suc n) s r i o = after_keeps n (length s) (run_keeps n) (step s r) i o (step_keeps s r)

abbrev pub RunsKeepLength : Type 0
RunsKeepLength = (n : ℕ) (s t : List ℕ) (r q : Registers) (i o j p : List ℕ) → run n s r i o ≡ Going t q j p → length t ≡ length s

pub run_length : RunsKeepLength
unfolding RunKeeps
run_length n s t r q i o j p e = subst (λ x. SameLength (length s) x) e (run_keeps n s r i o)
