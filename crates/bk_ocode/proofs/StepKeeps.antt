-- A step keeps what lies below the frame.
use Rattle.bk_ocode.proofs.Chosen.{below-kept, write-kept, settle-kept, ◌≡◌, ℕ, ◌+◌, ◌-◌, ◌<◌, ◌^◌, ◌==◌, nat_lt, Bool, true, false, List, [], ◌∷◌, length, Option, Some, None, refl, ◌∙◌, arith, if◌then◌else◌, word_sum, byte_distance, Content, Unset, Partly, Word, Temporary, Link, Cell, Held, write, settle, Placed, Callables, State, Next, Wild, on, slot, push, on_number, on_some, operated, named_place, has_word, from_label, jump, jump_with, case_label, can_be_called, call, return, dyadic_word, step_by, variable_at, byte_at, word_with_byte_at, IsNotAmong, KeepsNext, StepKeepsBelow, Contents, Negate, Not, Stmt, Number, True, False, Query, Load, Address, Text, Monadic, Dyadic, LoadByte, Assign, AssignAt, AssignByte, Jump, JumpIf, Label, GiveResult, TakeResult, Stack, Store, Entry, Save, CallFunction, CallRoutine, ReturnItem, Return, EndProcedure, Switch, Finish}

on_number-keeps : (s : State) (content : Content) (go : ℕ → Next) → ((w : ℕ) → KeepsNext s (go w)) → KeepsNext s (on_number content go)
on_number-keeps s Unset go f = tt
on_number-keeps s (Partly b0 b1 b2 b3) go f = tt
on_number-keeps s (Word w) go f = f w

on_some-keeps : {A : Type 0} → (s : State) (found : Option A) (go : A → Next) → ((x : A) → KeepsNext s (go x)) → KeepsNext s (on_some found go)
on_some-keeps s None go f = tt
on_some-keeps s (Some x) go f = f x

if-keeps : (s : State) (b : Bool) (x y : Next) → KeepsNext s x → KeepsNext s y → KeepsNext s (if b then x else y)
if-keeps s true x y p q = p
if-keeps s false x y p q = q

-- these cells are those of before below the frame, save where they were written
abbrev Kept : State → (ℕ → Cell) → List ℕ → Type 0
Kept s cells places = (place : ℕ) → place < s.frame → IsNotAmong place places → cells place ≡ s.cells place

on-keeps : (s : State) (own : Placed) (k : ℕ) (rest : List Stmt) (cells : ℕ → Cell) (places : List ℕ) → Kept s cells places → KeepsNext s (on s own k rest cells places)
on-keeps s own k rest cells places kept = grind (arith, below-kept)

push-keeps : (s : State) (own : Placed) (k : ℕ) (rest : List Stmt) (content : Content) → KeepsNext s (push s own k rest content)
push-keeps s own k rest content =
    on-keeps s own (k + 1) rest (write s.cells (s.frame + k) (Held Temporary content)) ((s.frame + k) ∷ [])
    (λ place low other. write-kept s.cells (s.frame + k) (Held Temporary content) place other.0)

same-keeps : (s : State) (own : Placed) (k : ℕ) (rest : List Stmt) → KeepsNext s (on s own k rest s.cells [])
same-keeps s own k rest = on-keeps s own k rest s.cells [] (λ place low other. refl)

write-keeps : (s : State) (own : Placed) (k : ℕ) (rest : List Stmt) (at : ℕ) (cell : Cell) → KeepsNext s (on s own k rest (write s.cells at cell) (at ∷ []))
write-keeps s own k rest at cell = on-keeps s own k rest (write s.cells at cell) (at ∷ []) (λ place low other. write-kept s.cells at cell place other.0)

settle-keeps : (s : State) (own : Placed) (k : ℕ) (rest : List Stmt) (from top : ℕ) → KeepsNext s (on s own k rest (settle (s.frame + from) top s.cells) [])
settle-keeps s own k rest from top =
    on-keeps s own k rest (settle (s.frame + from) top s.cells) [] (λ place low other. settle-kept (s.frame + from) top s.cells place (omega (arith, low)))

jump-keeps : (s : State) (own : Placed) (k l : ℕ) → KeepsNext s (jump s own k l)
jump-keeps s own k l = on_some-keeps s (from_label own.stmts l) _ (λ rest. same-keeps s own k rest)

jump_with-keeps : (s : State) (own : Placed) (k l : ℕ) (result : Content) → KeepsNext s (jump_with s own k l result)
jump_with-keeps s own k l result = grind (arith, on_some-keeps, below-kept)

operated-keeps : (s : State) (own : Placed) (n : ℕ) (rest : List Stmt) (w : Option ℕ) → KeepsNext s (operated s own n rest w)
operated-keeps s own n rest (Some w) = push-keeps s own n rest (Word w)
operated-keeps s own n rest None = refl

call-keeps : (callables : Callables) (s : State) (own : Placed) (k n e : ℕ) (rest : List Stmt) → KeepsNext s (call callables s own k n e rest)
call-keeps callables s own k n e rest =
    let back = Held Link (Word (own.places.call (length rest))) in
    let once = write s.cells (s.frame + n) (Held Link (Word s.frame)) in
    if-keeps s (can_be_called callables e) _ Wild
    (if-keeps s (nat_lt (2 ^ 31 - 65536) (s.frame + n)) Wild _ tt
    (record {
      places = (s.frame + n + 1) ∷ ((s.frame + n) ∷ []);
      written = refl;
      below = λ place low other.
          below-kept (s.frame + (k - 1)) (write once (s.frame + n + 1) back) place (omega (arith, low))
          ∙ write-kept once (s.frame + n + 1) back place other.0 ∙ write-kept s.cells (s.frame + n) (Held Link (Word s.frame)) place other.1.0;
      output = refl;
      input = refl;
    })) tt

return-keeps : (s : State) (result : Option Content) → KeepsNext s (return s result)
return-keeps s result = grind (arith, on_number-keeps, below-kept)

step_by-keeps : (callables : Callables) (s : State) (own : Placed) (k : ℕ) (stmt : Stmt) (rest : List Stmt) → KeepsNext s (step_by callables s own k stmt rest)
step_by-keeps callables s own k (Number value) rest = push-keeps s own k rest _
step_by-keeps callables s own k True rest = push-keeps s own k rest _
step_by-keeps callables s own k False rest = push-keeps s own k rest _
step_by-keeps callables s own k Query rest = push-keeps s own k rest _
step_by-keeps callables s own k (Load from) rest = push-keeps s own k rest _
step_by-keeps callables s own k (Address of) rest = push-keeps s own k rest _
step_by-keeps callables s own k (Text bytes) rest = push-keeps s own k rest _
step_by-keeps callables s own k (Monadic Contents) rest =
    on_number-keeps s (slot s (k - 1)) _ (λ a. on_some-keeps s (variable_at (s.frame + k) s.cells a) _ (λ content. push-keeps s own (k - 1) rest content))
step_by-keeps callables s own k (Monadic Negate) rest = on_number-keeps s (slot s (k - 1)) _ (λ w. push-keeps s own (k - 1) rest _)
step_by-keeps callables s own k (Monadic Not) rest = on_number-keeps s (slot s (k - 1)) _ (λ w. push-keeps s own (k - 1) rest _)
step_by-keeps callables s own k (Dyadic operator) rest =
    on_number-keeps s (slot s (k - 2)) _ (λ v. on_number-keeps s (slot s (k - 1)) _ (λ w. operated-keeps s own (k - 2) rest (dyadic_word operator v w)))
step_by-keeps callables s own k LoadByte rest =
    on_number-keeps s (slot s (k - 2)) _ (λ a. on_number-keeps s (slot s (k - 1)) _ (λ i.
    on_some-keeps s (byte_at (s.frame + k) s.cells a i) _ (λ b. push-keeps s own (k - 2) rest _)))
step_by-keeps callables s own k (Assign to) rest =
    if-keeps s (has_word to (s.cells (named_place s own to))) _ Wild (write-keeps s own (k - 1) rest (named_place s own to) _) tt
step_by-keeps callables s own k AssignAt rest =
    on_number-keeps s (slot s (k - 1)) _ (λ a. on_some-keeps s (variable_at (s.frame + k) s.cells a) _ (λ _. write-keeps s own (k - 2) rest a _))
step_by-keeps callables s own k AssignByte rest =
    on_number-keeps s (slot s (k - 3)) _ (λ b. on_number-keeps s (slot s (k - 2)) _ (λ a. on_number-keeps s (slot s (k - 1)) _ (λ i.
    on_some-keeps s (word_with_byte_at (s.frame + k) s.cells a i b) _ (λ content. write-keeps s own (k - 3) rest (word_sum a (byte_distance i)) _))))
step_by-keeps callables s own k (Jump l) rest = jump-keeps s own k l
step_by-keeps callables s own k (JumpIf true l) rest =
    on_number-keeps s (slot s (k - 1)) _ (λ w. if-keeps s (w == 0) _ _ (same-keeps s own (k - 1) rest) (jump-keeps s own (k - 1) l))
step_by-keeps callables s own k (JumpIf false l) rest =
    on_number-keeps s (slot s (k - 1)) _ (λ w. if-keeps s (w == 0) _ _ (jump-keeps s own (k - 1) l) (same-keeps s own (k - 1) rest))
step_by-keeps callables s own k (Label l) rest =
    record { places = []; written = refl; below = λ place low other. refl; output = refl; input = refl }
step_by-keeps callables s own k (GiveResult l) rest = jump_with-keeps s own (k - 1) l _
step_by-keeps callables s own k (TakeResult n) rest = push-keeps s own n rest _
step_by-keeps callables s own k (Stack n) rest = settle-keeps s own n rest k (s.frame + n)
step_by-keeps callables s own k Store rest = settle-keeps s own k rest 2 (s.frame + k)
step_by-keeps callables s own k (Entry l name) rest =
    record { places = []; written = refl; below = λ place low other. refl; output = refl; input = refl }
step_by-keeps callables s own k (Save n) rest = settle-keeps s own n rest 2 (s.frame + n)
step_by-keeps callables s own k (CallFunction n) rest = on_number-keeps s (slot s (k - 1)) _ (λ e. call-keeps callables s own k n e rest)
step_by-keeps callables s own k (CallRoutine n) rest = on_number-keeps s (slot s (k - 1)) _ (λ e. call-keeps callables s own k n e rest)
step_by-keeps callables s own k ReturnItem rest = return-keeps s _
step_by-keeps callables s own k Return rest = return-keeps s _
step_by-keeps callables s own k (Switch default cases) rest =
    on_number-keeps s (slot s (k - 1)) _ (λ w. jump-keeps s own (k - 1) (case_label cases default w))
step_by-keeps callables s own k Finish rest = refl
step_by-keeps callables s own k EndProcedure rest = tt
step_by-keeps callables s own k _ rest = tt

pub step_keeps_below : StepKeepsBelow
step_keeps_below callables s own depth [] = tt
step_keeps_below callables s own depth (stmt ∷ rest) = step_by-keeps callables s own depth stmt rest
