-- A run of the machine is one of a source, where the machine does what the source means in a language.
use Rattle.bk_filters.proofs.Terms.{◌≡◌, ◌≢◌, ℕ, ◌⊎◌, inl, inr, List, [], ◌∷◌, ◌++◌, refl, sym, ap, ap₂, ◌∙◌, subst, append_assoc, append-nil, append_cancel_right, Begins, End, Status, DivideByZero, StoreLimit, StepLimit, BadOperation, ReadFault, WriteFault, Registers, Standing, Going, Over, output_of, run, Ran, Blames, Streams, devices_of, Language, OneBegins, IsWhole, IsEnd, IsPart, NeverEnds, Reaches, Covers, TooFew, Agrees, Runs}
use Rattle.bk_filters.proofs.StandingLemmas.{StandsSo, stood}

-- A machine that is not over, or that the store stopped, with a beginning of these bytes.
pub data BeginsOf (bytes : List ℕ) : Standing → Type 0 where
  going : (store : List ℕ) (r : Registers) (input output more : List ℕ) → bytes ≡ output ++ more → BeginsOf bytes (Going store r input output)
  stopped : (input output more : List ℕ) → bytes ≡ output ++ more → BeginsOf bytes (Over StoreLimit input output)

begins_as : (bytes : List ℕ) (m : Standing) → BeginsOf bytes m → (more : List ℕ) × (bytes ≡ output_of m ++ more)
begins_as bytes _ (going store r input output more is) = (more, is)
begins_as bytes _ (stopped input output more is) = (more, is)

-- where it is over it was stopped by the store
begins_over : (bytes : List ℕ) (m : Standing) (e : End) (input output : List ℕ) → m ≡ Over e input output → BeginsOf bytes m → e ≡ StoreLimit
begins_over bytes _ e input output over (going store r left now more is) = absurd (let same : Going store r left now ≡ Over e input output = over in cc)
begins_over bytes _ e input output over (stopped left now more is) = let same : Over StoreLimit left now ≡ Over e input output = over in cc

pub the_parts : (e f : End) (a b c d : List ℕ) → Over e a c ≡ Over f b d → (e ≡ f) × (a ≡ b) × (c ≡ d)
the_parts e f a b c d same = (cc, cc, cc)

-- of two that begin the same, one begins the other
pub one_begins : (a b c d : List ℕ) → a ++ c ≡ b ++ d → OneBegins a b
one_begins [] b c d e = inr (b, refl)
one_begins (x ∷ a) [] c d e = inl (x ∷ a, refl)
one_begins (x ∷ a) (y ∷ b) c d e =
    let h : x ∷ (a ++ c) ≡ y ∷ (b ++ d) = e in
    let head : x ≡ y = cc in
    let tail : a ++ c ≡ b ++ d = cc in
    by_case head (one_begins a b c d tail)
  where
    by_case : x ≡ y → OneBegins a b → OneBegins (x ∷ a) (y ∷ b)
    by_case head (inl more) = inl (more.0, ap₂ (λ z l. z ∷ l) head more.1)
    by_case head (inr more) = inr (more.0, ap₂ (λ z l. z ∷ l) (sym head) more.1)

module _ (language : Language) (source : List ℕ) (steps words : ℕ) (store : List ℕ) (first : Registers) where
  -- where the machine stands at the end of its steps
  abbrev applies : List ℕ → Standing
  applies input = run steps store first input []

  -- The machine does what the source means with this input.
  pub record Meant (input : List ℕ) : Type 0 where
    -- where the meaning ends, the machine ends so, or is not so far
    pub less : (taken bytes : List ℕ) (end : End) → language.Ends source input taken bytes end
        → (left : List ℕ) × (input ≡ taken ++ left) × ((applies input ≡ Over end left bytes) ⊎ BeginsOf bytes (applies input))
    -- with enough steps and words it has ended, and not for want of words
    pub enough : language.Enough source input steps words → (end : End) × (left bytes : List ℕ) × (applies input ≡ Over end left bytes) × (end ≢ StoreLimit)
    -- and has written what so many turns write
    pub written : Reaches language source input steps words (output_of (applies input))
    -- whatever so many turns write, it is on its way there, or has written that
    pub so_far : (turns : ℕ) (bytes : List ℕ) → language.GoesOn source input turns bytes → BeginsOf bytes (applies input) ⊎ ((more : List ℕ) × (output_of (applies input) ≡ bytes ++ more))
    -- where the meaning goes on for ever, it is somewhere within it
    pub never : NeverEnds language source input steps words → (turns : ℕ) × (bytes : List ℕ) × language.GoesOn source input turns bytes × BeginsOf bytes (applies input)

  module _ (meant : (input : List ℕ) → Meant input) where
    -- what the machine has written begins what is written up to the end
    of_end : (input taken bytes : List ℕ) (end : End) → language.Ends source input taken bytes end → (more : List ℕ) × (bytes ≡ output_of (applies input) ++ more)
    of_end input taken bytes end ends =
        let less = (meant input).less taken bytes end ends in
        by_case less.0 less.2
      where
        by_case : (left : List ℕ) → (applies input ≡ Over end left bytes) ⊎ BeginsOf bytes (applies input) → (more : List ℕ) × (bytes ≡ output_of (applies input) ++ more)
        by_case left (inl over) = ([], sym (ap output_of over) ∙ sym (append-nil (output_of (applies input))))
        by_case left (inr begins) = begins_as bytes (applies input) begins

    part : (input : List ℕ) → IsPart language source input steps words (output_of (applies input))
    part input = record {
      of_end = of_end input;
      of_turns = λ never.
          let within = (meant input).never never in
          let begins = begins_as within.1 (applies input) within.3 in
          (within.0, within.1, begins.0, within.2, begins.1);
      of_any = λ turns bytes goes. one_of bytes ((meant input).so_far turns bytes goes);
    }
      where
        one_of : (bytes : List ℕ) → BeginsOf bytes (applies input) ⊎ ((more : List ℕ) × (output_of (applies input) ≡ bytes ++ more)) → OneBegins bytes (output_of (applies input))
        one_of bytes (inl begins) = inl (begins_as bytes (applies input) begins)
        one_of bytes (inr more) = inr more

    few_where_going : (input store' left now : List ℕ) (r : Registers) → applies input ≡ Going store' r left now → TooFew language source input steps words
    few_where_going input store' left now r goes enough =
        let over = (meant input).enough enough in
        let same = sym goes ∙ over.3 in cc

    few_where_stopped : (input left now : List ℕ) → applies input ≡ Over StoreLimit left now → TooFew language source input steps words
    few_where_stopped input left now stop enough =
        let over = (meant input).enough enough in
        over.4 (sym (the_parts StoreLimit over.0 left over.1 now over.2 (sym stop ∙ over.3)).0)

    never_over : (input : List ℕ) (end : End) (left now : List ℕ) → end ≢ StoreLimit → applies input ≡ Over end left now → NeverEnds language source input steps words → ⊥
    never_over input end left now own over never =
        let within = (meant input).never never in
        own (begins_over within.1 (applies input) end left now over within.3)

    -- the machine ended of itself: so does the meaning
    whole : (read rest bytes : List ℕ) (end : End) → end ≢ StoreLimit → applies (read ++ rest) ≡ Over end rest bytes → IsWhole language source (read ++ rest) steps words end read bytes
    whole read rest bytes end own over taken all last ends =
        let less = (meant (read ++ rest)).less taken all last ends in
        by_case less.0 less.1 less.2
      where
        by_case : (left : List ℕ) → read ++ rest ≡ taken ++ left → (applies (read ++ rest) ≡ Over last left all) ⊎ BeginsOf all (applies (read ++ rest)) → (last ≡ end) × (taken ≡ read) × (all ≡ bytes)
        by_case left took (inl is) =
            let same = the_parts end last rest left bytes all (sym over ∙ is) in
            (sym same.0, append_cancel_right taken read rest (ap (λ l. taken ++ l) same.1 ∙ sym took), sym same.2)
        by_case left took (inr begins) = absurd (own (begins_over all (applies (read ++ rest)) end rest bytes over begins))

    covers : (input left now : List ℕ) (end : End) → end ≢ StoreLimit → applies input ≡ Over end left now → Covers language source input steps words now
    covers input left now end own over turns bytes goes = by_case ((meant input).so_far turns bytes goes)
      where
        by_case : BeginsOf bytes (applies input) ⊎ ((more : List ℕ) × (output_of (applies input) ≡ bytes ++ more)) → (more : List ℕ) × (now ≡ bytes ++ more)
        by_case (inl begins) = absurd (own (begins_over bytes (applies input) end left now over begins))
        by_case (inr more) = (more.0, sym (ap output_of over) ∙ more.1)

    is_end : (read rest bytes : List ℕ) (end : End) → end ≢ StoreLimit → applies (read ++ rest) ≡ Over end rest bytes → IsEnd language source (read ++ rest) steps words end read bytes
    is_end read rest bytes end own over = (
      whole read rest bytes end own over,
      never_over (read ++ rest) end rest bytes own over,
      covers (read ++ rest) rest bytes end own over,
    )

    -- the machine came to no end of itself
    paused : (input bytes : List ℕ) → output_of (applies input) ≡ bytes → TooFew language source input steps words
        → IsPart language source input steps words bytes × Reaches language source input steps words bytes × TooFew language source input steps words
    paused input bytes is few = (
      subst (IsPart language source input steps words) is (part input),
      subst (Reaches language source input steps words) is (meant input).written,
      few,
    )

    -- a beginning of what the machine writes
    begins_part : (input bytes more : List ℕ) → output_of (applies input) ≡ bytes ++ more → IsPart language source input steps words bytes
    begins_part input bytes more is =
        let p = part input in
        record {
          of_end = λ taken all end ends. let e = p.of_end taken all end ends in (more ++ e.0, further all e.0 e.1);
          of_turns = λ never. let e = p.of_turns never in (e.0, e.1, more ++ e.2, e.3, further e.1 e.2 e.4);
          of_any = λ turns all goes. shorter all (p.of_any turns all goes);
        }
      where
        further : (all following : List ℕ) → all ≡ output_of (applies input) ++ following → all ≡ bytes ++ (more ++ following)
        further all following e = e ∙ ap (λ o. o ++ following) is ∙ append_assoc bytes more following

        shorter : (all : List ℕ) → OneBegins all (output_of (applies input)) → OneBegins all bytes
        shorter all (inl following) = inl (more ++ following.0, further all following.0 following.1)
        shorter all (inr following) = one_begins all bytes following.0 more (sym following.1 ∙ is)

    -- what the end says of the meaning
    agrees : (end : End) (read rest written : List ℕ) → StandsSo end (applies (read ++ rest)) rest written → Agrees language source (read ++ rest) steps words end read written
    agrees (Status v) read rest written over = is_end read rest written (Status v) (λ e. cc) over
    agrees DivideByZero read rest written over = is_end read rest written DivideByZero (λ e. cc) over
    agrees BadOperation read rest written over = is_end read rest written BadOperation (λ e. cc) over
    agrees StoreLimit read rest written over = paused (read ++ rest) written (ap output_of over) (few_where_stopped (read ++ rest) rest written over)
    agrees StepLimit read rest written goes = paused (read ++ rest) written (ap output_of goes.2) (few_where_going (read ++ rest) goes.0 rest written goes.1 goes.2)
    agrees ReadFault read rest written begins = begins_part (read ++ rest) written begins.0 begins.1
    agrees WriteFault read rest written begins = begins_part (read ++ rest) written begins.0 begins.1

    pub runs : (Holds : List ℕ → Type 0) → language.Accepted source → (language.Startless source → ⊥) → (store' : List ℕ) (registers : Registers) (before after : Streams) (end : End)
        → Ran Holds end steps store first store' registers (devices_of before) (devices_of after) → Begins before.passed after.passed
        → (end ≢ WriteFault → after.passed ≡ after.taken) → Blames end before.reads after.reads after.writes → Runs language source end steps words before after
    runs Holds accepted starts store' registers before after end ran passes passed blamed =
        let s = stood Holds steps store first store' registers (devices_of before) (devices_of after) end ran in
        record {
          accepted = accepted;
          starts = starts;
          read = s.read;
          written = s.written;
          exchanged = s.exchanged;
          agrees = λ rest follows. agrees end s.read rest s.written (s.applies rest follows);
          passes = passes;
          passed = passed;
          blamed = blamed;
        }
