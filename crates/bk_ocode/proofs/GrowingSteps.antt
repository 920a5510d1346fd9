-- What steps write goes behind what was written, and what they read comes from the front; and each comes nearer to a rest.
use Rattle.bk_ocode.proofs.Chosen.{on_number-holds, on_some-holds, ◌≡◌, ℕ, List, [], ◌∷◌, ◌++◌, Option, None, refl, sym, ◌∙◌, ap, subst, append-nil, ⊤, word_sum, byte_distance, Content, Variable, Held, write, byte_at, word_with_byte_at, string_at, Callables, Routine, Stop, Rdch, Wrch, Newline, Writes, Writen, Writed, Getbyte, Putbyte, Writef, Control, Inside, Following, At, State, Next, Goes, Ends, Wild, slot, return, tells, read_byte, routine_step, step_in, step_from, KeepsNext, Grown, StepsGrow, EndsKeepBytes}
use Rattle.bk_ocode.proofs.StepKeeps.{step_keeps_below}

abbrev GrowsNext : State → Next → Type 0
GrowsNext s (Goes t) = Grown s t
GrowsNext s (Ends e t) = (t.output ≡ s.output) × (t.input ≡ s.input)
GrowsNext s Wild = ⊤

same_bytes : (s t : State) → t.output ≡ s.output → t.input ≡ s.input → Grown s t
same_bytes s t out inp = record { more = []; writes = out ∙ sym (append-nil s.output); read = []; reads = sym inp }

kept_grows : (s : State) (x : Next) → KeepsNext s x → GrowsNext s x
kept_grows s (Goes t) k = same_bytes s t k.output k.input
kept_grows s (Ends e t) k = (ap (λ (x : State). x.output) k, ap (λ (x : State). x.input) k)
kept_grows s Wild k = tt

-- a return keeps what was written and read
return_grows : (s u : State) (result : Option Content) → Grown s u → GrowsNext s (return u result)
return_grows s u result g =
    on_number-holds (GrowsNext s) tt (slot u 1) _ (λ c ec. on_number-holds (GrowsNext s) tt (slot u 0) _ (λ p ep.
    record { more = g.more; writes = g.writes; read = g.read; reads = g.reads }))

tells_grows : (s : State) (bytes : List ℕ) → GrowsNext s (tells s bytes)
tells_grows s bytes = return_grows s (record s { output = s.output ++ bytes }) None (record { more = bytes; writes = refl; read = []; reads = refl })

read_grows : (s : State) (input : List ℕ) → s.input ≡ input → GrowsNext s (read_byte input s)
read_grows s [] is = return_grows s s _ (same_bytes s s refl refl)
read_grows s (b ∷ rest) is = return_grows s (record s { input = rest }) _ (record { more = []; writes = sym (append-nil s.output); read = b ∷ []; reads = is })

routine_grows : (s : State) (r : Routine) → GrowsNext s (routine_step s r)
routine_grows s Stop = on_number-holds (GrowsNext s) tt (slot s 2) _ (λ n en. (refl, refl))
routine_grows s Rdch = read_grows s s.input refl
routine_grows s Wrch = on_number-holds (GrowsNext s) tt (slot s 2) _ (λ b eb. tells_grows s _)
routine_grows s Newline = tells_grows s _
routine_grows s Writes = on_number-holds (GrowsNext s) tt (slot s 2) _ (λ a ea. on_some-holds (GrowsNext s) tt (string_at s.frame s.cells a) _ (λ bytes eb. tells_grows s bytes))
routine_grows s Writen = on_number-holds (GrowsNext s) tt (slot s 2) _ (λ n en. tells_grows s _)
routine_grows s Writed = on_number-holds (GrowsNext s) tt (slot s 2) _ (λ n en. on_number-holds (GrowsNext s) tt (slot s 3) _ (λ w ew. tells_grows s _))
routine_grows s Getbyte =
    on_number-holds (GrowsNext s) tt (slot s 2) _ (λ a ea. on_number-holds (GrowsNext s) tt (slot s 3) _ (λ i ei.
    on_some-holds (GrowsNext s) tt (byte_at s.frame s.cells a i) _ (λ b eb. return_grows s s _ (same_bytes s s refl refl))))
routine_grows s Putbyte =
    on_number-holds (GrowsNext s) tt (slot s 2) _ (λ a ea. on_number-holds (GrowsNext s) tt (slot s 3) _ (λ i ei. on_number-holds (GrowsNext s) tt (slot s 4) _ (λ b eb.
    on_some-holds (GrowsNext s) tt (word_with_byte_at s.frame s.cells a i b) _ (λ content ec.
    let u = record s { cells = write s.cells (word_sum a (byte_distance i)) (Held Variable content); written = word_sum a (byte_distance i) ∷ s.written } in
    return_grows s u None (same_bytes s u refl refl)))))
routine_grows s Writef =
    on_number-holds (GrowsNext s) tt (slot s 2) _ (λ f ef. on_some-holds (GrowsNext s) tt (string_at s.frame s.cells f) _ (λ format eo.
    on_some-holds (GrowsNext s) tt _ _ (λ bytes eb. tells_grows s bytes)))

step_grows : (callables : Callables) (s : State) (c : Control) → GrowsNext s (step_from callables s c)
step_grows callables s (Inside own k rest) = kept_grows s (step_in callables s own k rest) (step_keeps_below callables s own k rest)
step_grows callables s (Following own l) = tt
step_grows callables s (At n) = on_some-holds (GrowsNext s) tt (callables.routine n) _ (λ r e. routine_grows s r)

pub steps_grow : StepsGrow
steps_grow callables s t goes = subst (GrowsNext s) goes (step_grows callables s s.control)

pub ends_keep_bytes : EndsKeepBytes
ends_keep_bytes callables s t e ends = subst (GrowsNext s) ends (step_grows callables s s.control)
