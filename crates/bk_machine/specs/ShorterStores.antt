-- A machine with a shorter store does the same, or stops where the store ends with a beginning of the bytes.
use Rattle.std.proofs.Common.{◌≡◌, ℕ, zero, suc, ◌+◌, ◌-◌, ◌<◌, ◌≤◌, Bool, true, false, List, [], ◌∷◌, ◌++◌, length, Option, Some, None, refl, sym, ap, ◌∙◌, subst, arith, ◌==◌, if◌then◌else◌, ◌⊎◌, ⊎_elim, inl, inr, nat_lt, append_assoc, append-nil}
use Rattle.std.specs.Prelude.{slice_get, slice_set, option_and_then, ◌&&◌}
use Rattle.std.specs.Option.{option_map, option_map_or}
use Rattle.std.proofs.lemmas.Bool.{ltb-true, lt-ltb}
use Rattle.std.proofs.lemmas.List.{length-append}
use Rattle.bk_base.specs.Word.{word_sum, byte_distance}
use Rattle.bk_base.specs.declared.run_end.End.TheVariants.{StoreLimit, DivideByZero}
use Rattle.bk_machine.specs.declared.item.Function.{Function}
use Rattle.bk_machine.specs.declared.item.Function.TheVariants as f
use Rattle.bk_machine.specs.declared.operation.Operation.{Operation}
use Rattle.bk_machine.specs.declared.operation.Operation.TheVariants as op
use Rattle.bk_machine.specs.declared.operation.Routine.{Routine}
use Rattle.bk_machine.specs.declared.operation.Routine.TheVariants as routine
use Rattle.bk_machine.specs.declared.output.Piece.{Piece}
use Rattle.bk_machine.specs.declared.output.Piece.TheVariants as piece
use Rattle.bk_machine.specs.declared.output.Output.{Output}
use Rattle.bk_machine.specs.declared.output.Output.TheVariants as output
use Rattle.bk_machine.specs.declared.registers.Registers.{Registers}
use Rattle.bk_machine.specs.Decoding.{form, form_function, form_is_indirect, form_is_long, operation_by}
use Rattle.bk_machine.specs.Operations.{operator_word}
use Rattle.bk_machine.specs.Output.{Text, whole_text, cut_text, text_then, byte_of, string_rest, piece_text, lettered, directive, format_rest, output_text}
use Rattle.bk_base.specs.Format.{capital, is_digit}
use Rattle.bk_machine.specs.Runs.{Standing, Going, Over, next_byte, after_next, after, run, output_of}
use Rattle.bk_machine.specs.RunLaws.{run-begins, input_of}
use Rattle.bk_machine.specs.Step.{Turn, Goes, Outputs, Asks, Ends, stored, byte_stored, addressed, pointed, operand, matched, switched, given, called, operated, executed, step}

-- ---- the input is read from its beginning, and output only grows

suffix_after : (n : ℕ) → ((s : List ℕ) (r : Registers) (i o : List ℕ) → (read : List ℕ) × (i ≡ read ++ input_of (run n s r i o)))
    → (u : Turn) (i o : List ℕ) → (read : List ℕ) × (i ≡ read ++ input_of (after (run n) u i o))
suffix_after n go (Goes s r) i o = go s r i o
suffix_after n go (Outputs what s r) i o = by_whole (output_text s what).whole
  where
    by_whole : (w : Bool) → (read : List ℕ) × (i ≡ read ++ input_of (if w then run n s r i (o ++ (output_text s what).bytes) else Over StoreLimit i (o ++ (output_text s what).bytes)))
    by_whole true = go s r i _
    by_whole false = ([], refl)
suffix_after n go (Asks s r) [] o = go s _ [] o
suffix_after n go (Asks s r) (b ∷ rest) o = let h = go s (record r { a = b }) rest o in (b ∷ h.0, ap (λ l. b ∷ l) h.1)
suffix_after n go (Ends e) i o = ([], refl)

abbrev pub RunsReadTheFront : Type 0
RunsReadTheFront = (n : ℕ) (s : List ℕ) (r : Registers) (i o : List ℕ) → (read : List ℕ) × (i ≡ read ++ input_of (run n s r i o))

pub run_reads : RunsReadTheFront
run_reads zero s r i o = ([], refl)
run_reads (suc n) s r i o = suffix_after n (run_reads n) (step s r) i o

after_reads : (n : ℕ) (u : Turn) (i o : List ℕ) → (read : List ℕ) × (i ≡ read ++ input_of (after (run n) u i o))
after_reads n u i o = suffix_after n (run_reads n) u i o

after_writes : (n : ℕ) (u : Turn) (i o : List ℕ) → (more : List ℕ) × (output_of (after (run n) u i o) ≡ o ++ more)
after_writes n (Goes s r) i o = run-begins n s r i o
after_writes n (Outputs what s r) i o = by_whole (output_text s what).whole
  where
    by_whole : (w : Bool) → (more : List ℕ) × (output_of (if w then run n s r i (o ++ (output_text s what).bytes) else Over StoreLimit i (o ++ (output_text s what).bytes)) ≡ o ++ more)
    by_whole true = let h = run-begins n s r i (o ++ (output_text s what).bytes) in ((output_text s what).bytes ++ h.0, h.1 ∙ append_assoc o (output_text s what).bytes h.0)
    by_whole false = ((output_text s what).bytes, refl)
after_writes n (Asks s r) i o = run-begins n s _ _ o
after_writes n (Ends e) i o = ([], sym (append-nil o))

module _ (t : List ℕ) where
  abbrev pub longer : Turn → Turn
  longer (Goes s r) = Goes (s ++ t) r
  longer (Outputs what s r) = Outputs what (s ++ t) r
  longer (Asks s r) = Asks (s ++ t) r
  longer (Ends e) = Ends e

  -- a reading of the shorter store gives nothing, or what the longer gives
  abbrev pub Same : {A : Type 0} → Option A → Option A → Type 0
  Same x y = (x ≡ None) ⊎ (y ≡ x)

  pub get_longer : (s : List ℕ) (a : ℕ) → Same (slice_get s a) (slice_get (s ++ t) a)
  get_longer [] a = inl refl
  get_longer (x ∷ s) zero = inr refl
  get_longer (x ∷ s) (suc a) = get_longer s a

  and_then : {A B : Type 0} (x y : Option A) (f g : A → Option B) → Same x y → ((a : A) → Same (f a) (g a)) → Same (option_and_then f x) (option_and_then g y)
  and_then None y f g h k = inl refl
  and_then (Some a) y f g (inl e) k = absurd (cc)
  and_then (Some a) y f g (inr e) k = subst (λ z. Same (f a) (option_and_then g z)) (sym e) (k a)

  mapped : {A B : Type 0} (x y : Option A) (f : A → B) → Same x y → Same (option_map f x) (option_map f y)
  mapped None y f h = inl refl
  mapped (Some a) y f (inl e) = absurd (cc)
  mapped (Some a) y f (inr e) = inr (ap (option_map f) e)

  if_longer : {A : Type 0} (b : Bool) (x y u v : Option A) → Same x y → Same u v → Same (if b then x else u) (if b then y else v)
  if_longer true x y u v h k = h
  if_longer false x y u v h k = k

  byte_longer : (s : List ℕ) (a i : ℕ) → Same (byte_of s a i) (byte_of (s ++ t) a i)
  byte_longer s a i = mapped _ _ _ (get_longer s (word_sum a (byte_distance i)))

  -- ---- texts: the same, or cut with a beginning

  abbrev SameText : Text → Text → Type 0
  SameText u v = (v ≡ u) ⊎ ((u.whole ≡ false) × (rest : List ℕ) × (u.bytes ++ rest ≡ v.bytes))

  or_cut : {A : Type 0} (x y : Option A) (f g : A → Text) → Same x y → ((a : A) → SameText (f a) (g a)) → SameText (option_map_or f x cut_text) (option_map_or g y cut_text)
  or_cut None y f g h k = inr (refl, (option_map_or g y cut_text).bytes, refl)
  or_cut (Some a) y f g (inl e) k = absurd (cc)
  or_cut (Some a) y f g (inr e) k = subst (λ z. SameText (f a) (option_map_or g z cut_text)) (sym e) (k a)

  begun : (w : Bool) (bytes others : List ℕ) (more : Bool) (x : List ℕ) → (rest : List ℕ) × (x ++ rest ≡ bytes)
      → (rest : List ℕ) × (x ++ rest ≡ (text_then (record { bytes = bytes; whole = w }) (record { bytes = others; whole = more })).bytes)
  begun true bytes others more x h = (h.0 ++ others, sym (append_assoc x h.0 others) ∙ ap (λ l. l ++ others) h.1)
  begun false bytes others more x h = h

  then_longer : (a b c d : Text) → SameText a c → SameText b d → SameText (text_then a b) (text_then c d)
  then_longer a b c d (inl e) k = subst (λ x. SameText (text_then a b) (text_then x d)) (sym e) (by_whole a.whole k)
    where
      by_whole : (w : Bool) → SameText b d → SameText (if w then record { bytes = a.bytes ++ b.bytes; whole = b.whole } else a) (if w then record { bytes = a.bytes ++ d.bytes; whole = d.whole } else a)
      by_whole true (inl q) = inl (ap (λ (x : Text). let z : Text = record { bytes = a.bytes ++ x.bytes; whole = x.whole } in z) q)
      by_whole true (inr q) = inr (q.0, q.1, append_assoc a.bytes b.bytes q.1 ∙ ap (λ l. a.bytes ++ l) q.2)
      by_whole false k = inl refl
  then_longer a b c d (inr q) k =
      let e : text_then a b ≡ a = ap (λ (w : Bool). if w then record { bytes = a.bytes ++ b.bytes; whole = b.whole } else a) q.0 in
      let z = begun c.whole c.bytes d.bytes d.whole a.bytes (q.1, q.2) in
      inr (ap (λ (x : Text). x.whole) e ∙ q.0, z.0, ap (λ (x : Text). x.bytes ++ z.0) e ∙ z.1)

  string_longer : (n : ℕ) (s : List ℕ) (a i : ℕ) → SameText (string_rest n s a i) (string_rest n (s ++ t) a i)
  string_longer zero s a i = inl refl
  string_longer (suc n) s a i = or_cut _ _ _ _ (byte_longer s a i) (λ b. then_longer (whole_text (b ∷ [])) (string_rest n s a (i + 1)) _ _ (inl refl) (string_longer n s a (i + 1)))

  piece_longer : (s : List ℕ) (p : Piece) → SameText (piece_text s p) (piece_text (s ++ t) p)
  piece_longer s (piece.Byte b) = inl refl
  piece_longer s (piece.String a) = or_cut _ _ _ _ (byte_longer s a 0) (λ n. string_longer n s a 1)
  piece_longer s (piece.Number n) = inl refl
  piece_longer s (piece.Aligned n w) = inl refl

  lettered_longer : (s : List ℕ) (a i left at letter : ℕ) → Same (lettered s a i left at letter) (lettered (s ++ t) a i left at letter)
  lettered_longer s a i left at letter =
      if_longer (letter == 83) _ _ _ _ (mapped _ _ _ (get_longer s at))
      (if_longer (letter == 78) _ _ _ _ (mapped _ _ _ (get_longer s at))
      (if_longer (letter == 67) _ _ _ _ (mapped _ _ _ (get_longer s at))
      (if_longer (letter == 73) _ _ _ _
      (if_longer (left - 2 == 0) _ _ _ _ (inr refl) (and_then _ _ _ _ (byte_longer s a (i + 2)) (λ d. if_longer (is_digit d) _ _ _ _ (mapped _ _ _ (get_longer s at)) (inr refl))))
      (inr refl))))

  directive_longer : (s : List ℕ) (a i left at : ℕ) → Same (directive s a i left at) (directive (s ++ t) a i left at)
  directive_longer s a i left at = and_then _ _ _ _ (byte_longer s a i) (λ b.
      if_longer (b == 37 && nat_lt 1 left) _ _ _ _ (and_then _ _ _ _ (byte_longer s a (i + 1)) (λ c. lettered_longer s a i left at (capital c))) (inr refl))

  format_longer : (n : ℕ) (s : List ℕ) (a i left at : ℕ) → SameText (format_rest n s a i left at) (format_rest n (s ++ t) a i left at)
  format_longer zero s a i left at = inl refl
  format_longer (suc n) s a i left at = by_left (λ i left at. format_longer n s a i left at) (left == 0)
    where
      by_left : ((i left at : ℕ) → SameText (format_rest n s a i left at) (format_rest n (s ++ t) a i left at)) → (b : Bool) → SameText (if b then whole_text [] else option_map_or (λ d. text_then (piece_text s d.piece) (format_rest n s a (i + d.bytes) (left - d.bytes) (word_sum at d.arguments))) (directive s a i left at) cut_text)
          (if b then whole_text [] else option_map_or (λ d. text_then (piece_text (s ++ t) d.piece) (format_rest n (s ++ t) a (i + d.bytes) (left - d.bytes) (word_sum at d.arguments))) (directive (s ++ t) a i left at) cut_text)
      by_left go true = inl refl
      by_left go false = or_cut _ _ _ _ (directive_longer s a i left at) (λ d.
          then_longer (piece_text s d.piece) (format_rest n s a (i + d.bytes) (left - d.bytes) (word_sum at d.arguments)) _ _ (piece_longer s d.piece)
          (go (i + d.bytes) (left - d.bytes) (word_sum at d.arguments)))

  text_longer : (s : List ℕ) (what : Output) → SameText (output_text s what) (output_text (s ++ t) what)
  text_longer s (output.Piece p) = piece_longer s p
  text_longer s (output.Format a at) = or_cut _ _ _ _ (byte_longer s a 0) (λ n. format_longer n s a 1 n at)

  -- ---- a turn stops at the store's end, or is that of the longer store

  abbrev pub SameTurn : Turn → Turn → Type 0
  SameTurn u v = (u ≡ Ends StoreLimit) ⊎ (v ≡ longer u)

  map_or : {A : Type 0} (x y : Option A) (f g : A → Turn) → Same x y → ((a : A) → SameTurn (f a) (g a)) → SameTurn (option_map_or f x (Ends StoreLimit)) (option_map_or g y (Ends StoreLimit))
  map_or None y f g h k = inl refl
  map_or (Some a) y f g (inl e) k = absurd (cc)
  map_or (Some a) y f g (inr e) k = subst (λ z. SameTurn (f a) (option_map_or g z (Ends StoreLimit))) (sym e) (k a)

  set_longer : (s : List ℕ) (a v : ℕ) → a < length s → slice_set (s ++ t) a v ≡ slice_set s a v ++ t
  set_longer [] a v lt = absurd (omega arith)
  set_longer (x ∷ s) zero v lt = refl
  set_longer (x ∷ s) (suc a) v lt = ap (λ l. x ∷ l) (set_longer s a v (omega arith))

  stored_longer : (s : List ℕ) (a w : ℕ) (go : List ℕ → Turn) → ((q : List ℕ) → SameTurn (go q) (go (q ++ t))) → SameTurn (stored s a w go) (stored (s ++ t) a w go)
  stored_longer s a w go k = by_test (nat_lt a (length s)) refl
    where
      by_test : (b : Bool) → nat_lt a (length s) ≡ b → SameTurn (if b then go (slice_set s a w) else Ends StoreLimit) (if nat_lt a (length (s ++ t)) then go (slice_set (s ++ t) a w) else Ends StoreLimit)
      by_test false e = inl refl
      by_test true e =
          let lt = ltb-true a (length s) e in
          let len = length-append s t in
          let e1 : nat_lt a (length (s ++ t)) ≡ true = lt-ltb a (length (s ++ t)) (omega arith) in
          subst (λ (b : Bool). SameTurn (go (slice_set s a w)) (if b then go (slice_set (s ++ t) a w) else Ends StoreLimit)) (sym e1)
          (subst (λ l. SameTurn (go (slice_set s a w)) (go l)) (sym (set_longer s a w lt)) (k (slice_set s a w)))

  byte_stored_longer : (s : List ℕ) (a i b : ℕ) (go : List ℕ → Turn) → ((q : List ℕ) → SameTurn (go q) (go (q ++ t))) → SameTurn (byte_stored s a i b go) (byte_stored (s ++ t) a i b go)
  byte_stored_longer s a i b go k = map_or _ _ _ _ (get_longer s (word_sum a (byte_distance i))) (λ w. stored_longer s (word_sum a (byte_distance i)) _ go k)

  matched_longer : (n : ℕ) (s : List ℕ) (at a otherwise : ℕ) → Same (matched n s at a otherwise) (matched n (s ++ t) at a otherwise)
  matched_longer zero s at a otherwise = inr refl
  matched_longer (suc n) s at a otherwise = and_then _ _ _ _ (get_longer s at)
      (λ c. and_then _ _ _ _ (get_longer s (word_sum at 1)) (λ to. if_longer (c == a) _ _ _ _ (inr refl) (matched_longer n s (word_sum at 2) a otherwise)))

  switched_longer : (s : List ℕ) (c a : ℕ) → Same (switched s c a) (switched (s ++ t) c a)
  switched_longer s c a = and_then _ _ _ _ (get_longer s c) (λ n. and_then _ _ _ _ (get_longer s (word_sum c 1)) (λ d. matched_longer _ s (word_sum c 2) a d))

  called_longer : (s : List ℕ) (r : Registers) (name : Routine) → SameTurn (called s r name) (called (s ++ t) r name)
  called_longer s r routine.Stop = map_or _ _ _ _ (get_longer s (word_sum r.p 2)) (λ n. inr refl)
  called_longer s r routine.Rdch = inr refl
  called_longer s r routine.Wrch = map_or _ _ _ _ (get_longer s (word_sum r.p 2)) (λ n. inr refl)
  called_longer s r routine.Newline = inr refl
  called_longer s r routine.Writes = map_or _ _ _ _ (get_longer s (word_sum r.p 2)) (λ n. inr refl)
  called_longer s r routine.Writen = map_or _ _ _ _ (get_longer s (word_sum r.p 2)) (λ n. inr refl)
  called_longer s r routine.Writed = map_or _ _ _ _ (get_longer s (word_sum r.p 2)) (λ n. map_or _ _ _ _ (get_longer s (word_sum r.p 3)) (λ w. inr refl))
  called_longer s r routine.Getbyte = map_or _ _ _ _ (get_longer s (word_sum r.p 2)) (λ a. map_or _ _ _ _ (get_longer s (word_sum r.p 3)) (λ i. map_or _ _ _ _ (byte_longer s a i) (λ b. inr refl)))
  called_longer s r routine.Putbyte = map_or _ _ _ _ (get_longer s (word_sum r.p 2)) (λ a. map_or _ _ _ _ (get_longer s (word_sum r.p 3)) (λ i.
      map_or _ _ _ _ (get_longer s (word_sum r.p 4)) (λ b. byte_stored_longer s a i b (λ next. Goes next r) (λ q. inr refl))))
  called_longer s r routine.Writef = map_or _ _ _ _ (get_longer s (word_sum r.p 2)) (λ n. inr refl)

  operator_longer : (s : List ℕ) (r : Registers) (x : Option ℕ) → SameTurn (option_map_or (λ w. given s r w) x (Ends DivideByZero)) (option_map_or (λ w. given (s ++ t) r w) x (Ends DivideByZero))
  operator_longer s r None = inr refl
  operator_longer s r (Some w) = inr refl

  operated_longer : (s : List ℕ) (r : Registers) (o : Operation) → SameTurn (operated s r o) (operated (s ++ t) r o)
  operated_longer s r op.Contents = map_or _ _ _ _ (get_longer s r.a) (λ w. inr refl)
  operated_longer s r op.Negate = inr refl
  operated_longer s r op.Not = inr refl
  operated_longer s r op.Return = map_or _ _ _ _ (get_longer s (word_sum r.p 1)) (λ c. map_or _ _ _ _ (get_longer s r.p) (λ p. inr refl))
  operated_longer s r (op.Operator o) = operator_longer s r (operator_word o r.b r.a)
  operated_longer s r op.Finish = inr refl
  operated_longer s r op.Switch = map_or _ _ _ _ (switched_longer s r.c r.a) (λ c. inr refl)
  operated_longer s r (op.Routine name) = called_longer s r name
  operated_longer s r op.ByteAt = map_or _ _ _ _ (byte_longer s r.b r.a) (λ b. inr refl)
  operated_longer s r op.SetByteAt = map_or _ _ _ _ (get_longer s r.c) (λ n. map_or _ _ _ _ (get_longer s (word_sum r.p n)) (λ w.
      byte_stored_longer s r.b r.a w (λ next. Goes next (record r { c = word_sum r.c 1 })) (λ q. inr refl)))
  operated_longer s r op.Unknown = inr refl

  if_turn : (b : Bool) (u v x y : Turn) → SameTurn u x → SameTurn v y → SameTurn (if b then u else v) (if b then x else y)
  if_turn true u v x y h k = h
  if_turn false u v x y h k = k

  executed_longer : (s : List ℕ) (r : Registers) (fn : Function) (d : ℕ) → SameTurn (executed s r fn d) (executed (s ++ t) r fn d)
  executed_longer s r f.Load d = inr refl
  executed_longer s r f.Store d = stored_longer s d r.a (λ q. Goes q r) (λ q. inr refl)
  executed_longer s r f.Add d = inr refl
  executed_longer s r f.Jump d = inr refl
  executed_longer s r f.JumpTrue d = if_turn (r.a == 0) _ _ _ _ (inr refl) (inr refl)
  executed_longer s r f.JumpFalse d = if_turn (r.a == 0) _ _ _ _ (inr refl) (inr refl)
  executed_longer s r f.Call d =
      stored_longer s (word_sum r.p d) r.p (λ q. stored q (word_sum (word_sum r.p d) 1) r.c (λ l. Goes l (record r { c = r.a; p = word_sum r.p d })))
      (λ q. stored_longer q (word_sum (word_sum r.p d) 1) r.c (λ l. Goes l (record r { c = r.a; p = word_sum r.p d })) (λ l. inr refl))
  executed_longer s r f.Operate d = operated_longer s r (operation_by d)

  pointed_longer : (s : List ℕ) (w d : ℕ) → Same (pointed s w d) (pointed (s ++ t) w d)
  pointed_longer s w d = if_longer (form_is_indirect w) _ _ _ _ (get_longer s d) (inr refl)

  addressed_longer : (s : List ℕ) (c w word : ℕ) → Same (addressed s c w word) (addressed (s ++ t) c w word)
  addressed_longer s c w word = if_longer (form_is_long w) _ _ _ _ (mapped _ _ _ (get_longer s c)) (inr refl)

  operand_longer : (s : List ℕ) (c p w word : ℕ) → Same (operand s c p w word) (operand (s ++ t) c p w word)
  operand_longer s c p w word = and_then _ _ _ _ (addressed_longer s c w word) (λ place. mapped _ _ _ (pointed_longer s w _))

  pub step_longer : (s : List ℕ) (r : Registers) → SameTurn (step s r) (step (s ++ t) r)
  step_longer s r = map_or _ _ _ _ (get_longer s r.c) (λ word.
      map_or _ _ _ _ (operand_longer s (word_sum r.c 1) r.p (form word) word) (λ o. executed_longer s (record r { c = o.1 }) (form_function (form word)) o.0))

  -- ---- runs

  -- the run of the shorter store stopped at its end, with a beginning of the bytes of another
  pub record Stopped (n : ℕ) (s : List ℕ) (r : Registers) (i o : List ℕ) (long : Standing) : Type 0 where
    pub count : ℕ
    pub within : count ≤ n
    pub input : List ℕ
    pub unread : List ℕ
    pub reads : input ≡ unread ++ input_of long
    pub part : List ℕ
    pub rest : List ℕ
    pub writes : part ++ rest ≡ output_of long
    pub stops : run count s r i o ≡ Over StoreLimit input part

  -- or did the same
  abbrev pub IsLonger : Standing → Standing → Type 0
  IsLonger (Going s r i o) long = long ≡ Going (s ++ t) r i o
  IsLonger (Over e i o) long = long ≡ Over e i o

  abbrev pub Shortens : ℕ → Type 0
  Shortens n = (s : List ℕ) (r : Registers) (i o : List ℕ) → Stopped n s r i o (run n (s ++ t) r i o) ⊎ IsLonger (run n s r i o) (run n (s ++ t) r i o)

  module _ (n : ℕ) (go : Shortens n) (s : List ℕ) (r : Registers) (i o : List ℕ) where
    later : (s1 : List ℕ) (r1 : Registers) (i1 o1 : List ℕ) → ((m : ℕ) → run (suc m) s r i o ≡ run m s1 r1 i1 o1)
        → Stopped (suc n) s r i o (run n (s1 ++ t) r1 i1 o1) ⊎ IsLonger (run n s1 r1 i1 o1) (run n (s1 ++ t) r1 i1 o1)
    later s1 r1 i1 o1 e =
        ⊎_elim (λ (h : Stopped n s1 r1 i1 o1 (run n (s1 ++ t) r1 i1 o1)). inl (record {
          count = suc h.count;
          within = (let q = h.within in omega arith);
          input = h.input;
          unread = h.unread;
          reads = h.reads;
          part = h.part;
          rest = h.rest;
          writes = h.writes;
          stops = e h.count ∙ h.stops;
        })) (λ h. inr h) (go s1 r1 i1 o1)

    reported : (s1 : List ℕ) (r1 : Registers) (u v : Text) → SameText u v
        → ((m : ℕ) → run (suc m) s r i o ≡ (if u.whole then run m s1 r1 i (o ++ u.bytes) else Over StoreLimit i (o ++ u.bytes)))
        → Stopped (suc n) s r i o (if v.whole then run n (s1 ++ t) r1 i (o ++ v.bytes) else Over StoreLimit i (o ++ v.bytes))
        ⊎ IsLonger (if u.whole then run n s1 r1 i (o ++ u.bytes) else Over StoreLimit i (o ++ u.bytes)) (if v.whole then run n (s1 ++ t) r1 i (o ++ v.bytes) else Over StoreLimit i (o ++ v.bytes))
    reported s1 r1 u v (inl q) e =
        subst (λ (x : Text). Stopped (suc n) s r i o (if x.whole then run n (s1 ++ t) r1 i (o ++ x.bytes) else Over StoreLimit i (o ++ x.bytes))
        ⊎ IsLonger (if u.whole then run n s1 r1 i (o ++ u.bytes) else Over StoreLimit i (o ++ u.bytes)) (if x.whole then run n (s1 ++ t) r1 i (o ++ x.bytes) else Over StoreLimit i (o ++ x.bytes)))
        (sym q) (by_whole u.whole e)
      where
        by_whole : (w : Bool) → ((m : ℕ) → run (suc m) s r i o ≡ (if w then run m s1 r1 i (o ++ u.bytes) else Over StoreLimit i (o ++ u.bytes)))
            → Stopped (suc n) s r i o (if w then run n (s1 ++ t) r1 i (o ++ u.bytes) else Over StoreLimit i (o ++ u.bytes))
            ⊎ IsLonger (if w then run n s1 r1 i (o ++ u.bytes) else Over StoreLimit i (o ++ u.bytes)) (if w then run n (s1 ++ t) r1 i (o ++ u.bytes) else Over StoreLimit i (o ++ u.bytes))
        by_whole true e = later s1 r1 i (o ++ u.bytes) e
        by_whole false e = inr refl
    reported s1 r1 u v (inr q) e =
        let long = (if v.whole then run n (s1 ++ t) r1 i (o ++ v.bytes) else Over StoreLimit i (o ++ v.bytes)) in
        let w = writes v.whole in
        let x = reads v.whole in
        inl (record {
          count = 1;
          within = omega arith;
          input = i;
          unread = x.0;
          reads = x.1;
          part = o ++ u.bytes;
          rest = q.1 ++ w.0;
          writes = sym (append_assoc (o ++ u.bytes) q.1 w.0) ∙ ap (λ l. l ++ w.0) (append_assoc o u.bytes q.1 ∙ ap (λ l. o ++ l) q.2) ∙ sym w.1;
          stops = e 0 ∙ ap (λ (b : Bool). if b then run 0 s1 r1 i (o ++ u.bytes) else Over StoreLimit i (o ++ u.bytes)) q.0;
        })
      where
        writes : (b : Bool) → (more : List ℕ) × (output_of (if b then run n (s1 ++ t) r1 i (o ++ v.bytes) else Over StoreLimit i (o ++ v.bytes)) ≡ (o ++ v.bytes) ++ more)
        writes true = run-begins n (s1 ++ t) r1 i (o ++ v.bytes)
        writes false = ([], sym (append-nil (o ++ v.bytes)))

        reads : (b : Bool) → (read : List ℕ) × (i ≡ read ++ input_of (if b then run n (s1 ++ t) r1 i (o ++ v.bytes) else Over StoreLimit i (o ++ v.bytes)))
        reads true = run_reads n (s1 ++ t) r1 i (o ++ v.bytes)
        reads false = ([], refl)

    turned : (u v : Turn) → step s r ≡ u → SameTurn u v → Stopped (suc n) s r i o (after (run n) v i o) ⊎ IsLonger (after (run n) u i o) (after (run n) v i o)
    turned u v e (inl q) =
        let w = after_writes n v i o in
        let x = after_reads n v i o in
        inl (record { count = 1; within = omega arith; input = i; unread = x.0; reads = x.1; part = o; rest = w.0; writes = sym w.1; stops = ap (λ z. after (run 0) z i o) (e ∙ q) })
    turned (Goes s1 r1) v e (inr q) =
        subst (λ z. Stopped (suc n) s r i o (after (run n) z i o) ⊎ IsLonger (run n s1 r1 i o) (after (run n) z i o)) (sym q) (later s1 r1 i o (λ m. ap (λ z. after (run m) z i o) e))
    turned (Outputs what s1 r1) v e (inr q) =
        subst (λ z. Stopped (suc n) s r i o (after (run n) z i o) ⊎ IsLonger (after (run n) (Outputs what s1 r1) i o) (after (run n) z i o)) (sym q)
        (reported s1 r1 (output_text s1 what) (output_text (s1 ++ t) what) (text_longer s1 what) (λ m. ap (λ z. after (run m) z i o) e))
    turned (Asks s1 r1) v e (inr q) =
        subst (λ z. Stopped (suc n) s r i o (after (run n) z i o) ⊎ IsLonger (after (run n) (Asks s1 r1) i o) (after (run n) z i o)) (sym q)
        (later s1 (record r1 { a = next_byte i }) (after_next i) o (λ m. ap (λ z. after (run m) z i o) e))
    turned (Ends x) v e (inr q) =
        subst (λ z. Stopped (suc n) s r i o (after (run n) z i o) ⊎ IsLonger (Over x i o) (after (run n) z i o)) (sym q) (inr refl)

  pub shortens : (n : ℕ) → Shortens n
  shortens zero s r i o = inr refl
  shortens (suc n) s r i o = turned n (shortens n) s r i o (step s r) (step (s ++ t) r) refl (step_longer s r)

-- A run in a shorter store does the same, or stops before at its end with a beginning of the bytes.
abbrev pub RunsInShorterStores : Type 0
RunsInShorterStores = (t : List ℕ) (n : ℕ) (s : List ℕ) (r : Registers) (i o : List ℕ) → Stopped t n s r i o (run n (s ++ t) r i o) ⊎ IsLonger t (run n s r i o) (run n (s ++ t) r i o)

pub run_shorter : RunsInShorterStores
run_shorter t n s r i o = shortens t n s r i o
