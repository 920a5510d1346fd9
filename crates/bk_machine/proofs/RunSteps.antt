-- How runs that exchange bytes with devices begin, go on and end.
pub use Rattle.bk_machine.proofs.Terms.{append_known, Consumes, Appends, Keeps, Consumes-nil, Appends-nil, Consumes-trans, Appends-trans, Consumes-kept, Appends-kept, Status, DivideByZero, StoreLimit, StepLimit, BadOperation, ReadFault, WriteFault, AppendsPart, Begins, Begins-trans, Text, output_text, Goes, Outputs, Asks, Ends, step, Going, Over, next_byte, after_next, after, run, Devices, Exchanged, Follows, Leads, NotAsked, SinceAsk, LeadsToAsk, FlushesFirst, Paused, Finished, Waiting, CutShort, FailedOnTheWay, Broken, Went, Ran, IsOwn, AskFails, CameBy, Answered, ◌≡◌, ◌≢◌, ℕ, zero, suc, ◌+◌, ◌-◌, ◌^◌, ◌⊎◌, inl, inr, arith, List, [], ◌∷◌, ◌++◌, Option, None, Some, IsTrue, Bool, true, false, refl, sym, ap, subst, ◌∙◌, append_assoc, append-nil, if◌then◌else◌, End, Registers, rules, length, Begins-refl, turn_of, padded, Ok, Keeps-refl, Err, Answer, byte_or_end, words_in}
use Rattle.bk_machine.specs.declared.output.Output.{Output}
use Rattle.bk_machine.specs.RunLaws.{onwards, run-add}

-- ---- what devices exchange

-- the devices tell the same, but for what was passed on
pub record Still (old new : Devices) : Type 0 where
  pub left : Keeps old.left new.left
  pub held : new.held ≡ old.held
  pub ended : new.ended ≡ old.ended
  pub taken : Keeps old.taken new.taken
  pub passes : Begins old.passed new.passed

pub exchanged_none : (reported : Devices) → Exchanged reported reported [] []
exchanged_none reported = record { delivered = Consumes-nil reported.left; took = Appends-nil reported.taken; stays = λ ended. (refl, ended) }

pub exchanged_on : (old mid new : Devices) (r1 w1 r2 w2 : List ℕ) → Exchanged old mid r1 w1 → Exchanged mid new r2 w2 → Exchanged old new (r1 ++ r2) (w1 ++ w2)
exchanged_on old mid new r1 w1 r2 w2 p q = record {
  delivered = Consumes-trans old.left mid.left new.left r1 r2 p.delivered q.delivered;
  took = Appends-trans old.taken mid.taken new.taken w1 w2 p.took q.took;
  stays = λ ended. let first = p.stays ended in let second = q.stays first.1 in (ap (λ l. l ++ r2) first.0 ∙ second.0, second.1);
}

pub exchanged_still : (old mid new : Devices) (r w : List ℕ) → Exchanged old mid r w → Still mid new → Exchanged old new r w
exchanged_still old mid new r w p still = record {
  delivered = Consumes-kept old.left mid.left new.left r p.delivered still.left;
  took = Appends-kept old.taken mid.taken new.taken w p.took still.taken;
  stays = λ ended. let first = p.stays ended in (first.0, rw still.ended first.1);
}

follows_still : (mid new : Devices) (rest : List ℕ) → Still mid new → Follows new rest → Follows mid rest
follows_still mid new rest still follows = λ ended. follows (rw still.ended ended)

-- ---- what was passed on before the reader asked its device

-- all that was taken was passed on
all_passed : (a b c : Option (List ℕ)) → Appends a b [] → c ≡ b → Begins (append_known a []) c
all_passed None b c p is = tt
all_passed (Some x) None c p is = absurd p
all_passed (Some x) (Some y) c p is = rw is ([], p ∙ sym (append-nil (x ++ [])))

-- more was taken before
passed_behind : (a b c : Option (List ℕ)) (x y : List ℕ) → Appends a b x → Begins (append_known b y) c → Begins (append_known a (x ++ y)) c
passed_behind None b c x y p q = tt
passed_behind (Some k) None c x y p q = absurd p
passed_behind (Some k) (Some l) None x y p q = absurd q
passed_behind (Some k) (Some l) (Some m) x y p q = (q.0, q.1 ∙ ap (λ z. (z ++ y) ++ q.0) p ∙ ap (λ z. z ++ q.0) (append_assoc k x y))

-- more steps may follow
later_ask : (n j : ℕ) (store : List ℕ) (r : Registers) (read written : List ℕ) → LeadsToAsk n store r read written → LeadsToAsk (n + j) store r read written
later_ask n j store r read written ask = record {
  steps = ask.steps;
  within = let within = ask.within in omega arith;
  store' = ask.store';
  r' = ask.r';
  leads = ask.leads;
  store'' = ask.store'';
  r'' = ask.r'';
  asks = ask.asks;
}

-- an end that was told stays told
unended_before : (a b : Bool) → (IsTrue a → IsTrue b) → b ≡ false → a ≡ false
unended_before false b on is = refl
unended_before true true on is = cc
unended_before true false on is = let other : false ≡ true = on refl in cc

module _ (Holds : List ℕ → Type 0) where
  -- bytes that were held, behind those that came since the device was asked
  asked_on : (mid new : Devices) (since read : List ℕ) → SinceAsk Holds mid since → NotAsked mid new read → SinceAsk Holds new (since ++ read)
  asked_on mid new [] read asked none = nothing read (sym none.0 ∙ asked)
    where
      nothing : (read : List ℕ) → read ++ new.held ≡ [] → SinceAsk Holds new read
      nothing [] is = is
      nothing (byte ∷ rest) is = cc
  asked_on mid new (byte ∷ others) read asked none = (
    subst Holds (ap (λ l. others ++ l) none.0 ∙ sym (append_assoc others read new.held)) asked.0,
    none.1 ∙ asked.1,
  )

  asked_still : (mid new : Devices) (since : List ℕ) → SinceAsk Holds mid since → Still mid new → SinceAsk Holds new since
  asked_still mid new [] asked still = still.held ∙ asked
  asked_still mid new (byte ∷ others) asked still = (subst Holds (ap (λ l. others ++ l) (sym still.held)) asked.0, still.ended ∙ asked.1)

  module _ (n : ℕ) (store : List ℕ) (r : Registers) (old mid new : Devices) (read : List ℕ) where
    flushes_still : FlushesFirst Holds n store r old mid read → Still mid new → FlushesFirst Holds n store r old new read
    flushes_still (inl none) still = inl (none.0 ∙ ap (λ l. read ++ l) (sym still.held), still.ended ∙ none.1)
    flushes_still (inr ask) still = inr (record {
      earlier = ask.earlier;
      since = ask.since;
      parts = ask.parts;
      written = ask.written;
      leads = ask.leads;
      unended = ask.unended;
      asked = asked_still mid new ask.since ask.asked still;
      passed = Begins-trans (append_known old.taken ask.written) mid.passed new.passed ask.passed still.passes;
    })

-- ---- what the reader's answer says of a step that asks

module _ (Holds : List ℕ → Type 0) (old new : Devices) (kept : Keeps old.taken new.taken) where
  pub answered_end : Consumes old.left new.left [] → new.ended ≡ true → new.held ≡ [] → ((byte : ℕ) (rest : List ℕ) → old.held ≡ byte ∷ rest → ⊥)
      → Answered Holds (2 ^ 32 - 1) old new
  answered_end delivered reported none empty = record {
    read = [];
    exchanged = record {
      delivered = delivered;
      took = Appends-kept old.taken old.taken new.taken [] (Appends-nil old.taken) kept;
      stays = λ ended. (refl, reported);
    };
    word_is = λ rest follows. ap next_byte (follows reported);
    after_is = λ rest follows. ap after_next (follows reported) ∙ sym (follows reported);
    came = by_held old.held old.ended refl refl;
  }
    where
      by_held : (held : List ℕ) (ended : Bool) → old.held ≡ held → old.ended ≡ ended → CameBy Holds old new []
      by_held [] true e ends = inl (e ∙ sym none, reported ∙ sym ends)
      by_held [] false e ends = inr (e, ends, none)
      by_held (byte ∷ rest) ended e ends = absurd (empty byte rest e)

  pub answered_byte : (byte : ℕ) → Consumes old.left new.left (byte ∷ []) → new.ended ≡ false → (old.ended ≡ true → ⊥)
      → ((first : ℕ) (rest : List ℕ) → old.held ≡ first ∷ rest → (first ≡ byte) × (new.held ≡ rest)) → Holds new.held → Answered Holds byte old new
  answered_byte byte delivered reported before first holds = record {
    read = byte ∷ [];
    exchanged = record {
      delivered = delivered;
      took = Appends-kept old.taken old.taken new.taken [] (Appends-nil old.taken) kept;
      stays = λ ended. absurd (before ended);
    };
    word_is = λ rest follows. refl;
    after_is = λ rest follows. refl;
    came = by_held old.held old.ended refl refl;
  }
    where
      by_held : (held : List ℕ) (ended : Bool) → old.held ≡ held → old.ended ≡ ended → CameBy Holds old new (byte ∷ [])
      by_held held true e ends = absurd (before ends)
      by_held [] false e ends = inr (e, ends, (holds, reported))
      by_held (b ∷ rest) false e ends =
          let taken = first b rest e in inl (e ∙ ap (λ x. x ∷ rest) taken.0 ∙ ap (λ l. byte ∷ l) (sym taken.1), reported ∙ sym ends)

-- ---- one step

module _ (Holds : List ℕ → Type 0) (store : List ℕ) (r : Registers) where
  pub paused_none : (reported : Devices) → Paused Holds 0 store r store r reported reported
  paused_none reported = record {
    read = [];
    written = [];
    exchanged = exchanged_none reported;
    flushes = inl (refl, refl);
    leads = λ rest before follows. ap (λ o. Going store r rest o) (sym (append-nil before));
  }

  pub paused_goes : (store' : List ℕ) (r' : Registers) (reported : Devices) → step store r ≡ Goes store' r' → Paused Holds 1 store r store' r' reported reported
  paused_goes store' r' reported is = record {
    read = [];
    written = [];
    exchanged = exchanged_none reported;
    flushes = inl (refl, refl);
    leads = λ rest before follows. ap (λ t. after (run 0) t rest before) is ∙ ap (λ o. Going store' r' rest o) (sym (append-nil before));
  }

  -- the step asks, and all was passed on before
  asked_here : (store' : List ℕ) (r' : Registers) (old new : Devices) (read : List ℕ) → step store r ≡ Asks store' r' → Appends old.taken new.taken []
      → new.passed ≡ new.taken → old.ended ≡ false → SinceAsk Holds new read → FlushesFirst Holds 1 store r old new read
  asked_here store' r' old new read is took passed unended asked = inr (record {
    earlier = [];
    since = read;
    parts = refl;
    written = [];
    leads = record {
      steps = 0;
      within = omega arith;
      store' = store;
      r' = r;
      leads = λ rest before. ap (λ o. Going store r rest o) (sym (append-nil before));
      store'' = store';
      r'' = r';
      asks = is;
    };
    unended = unended;
    asked = asked;
    passed = all_passed old.taken new.taken new.passed took passed;
  })

  pub paused_asks : (store' : List ℕ) (r' : Registers) (word : ℕ) (old new : Devices) → step store r ≡ Asks store' r' → Answered Holds word old new
      → (old.held ≡ [] → old.ended ≡ false → new.passed ≡ new.taken) → Paused Holds 1 store r store' (record r' { a = word }) old new
  paused_asks store' r' word old new is answered flushed = record {
    read = answered.read;
    written = [];
    exchanged = answered.exchanged;
    flushes = by_asking answered.came;
    leads = λ rest before follows. ap (λ t. after (run 0) t (answered.read ++ rest) before) is
        ∙ ap (λ a. Going store' (record r' { a = a }) (after_next (answered.read ++ rest)) before) (answered.word_is rest follows)
        ∙ ap (λ i. Going store' (record r' { a = word }) i before) (answered.after_is rest follows)
        ∙ ap (λ o. Going store' (record r' { a = word }) rest o) (sym (append-nil before));
  }
    where
      by_asking : CameBy Holds old new answered.read → FlushesFirst Holds 1 store r old new answered.read
      by_asking (inl none) = inl none
      by_asking (inr asked) =
          asked_here store' r' old new answered.read is answered.exchanged.took (flushed asked.0 asked.1) asked.1 asked.2

  module _ (what : Output) (store' : List ℕ) (r' : Registers) (is : step store r ≡ Outputs what store' r') where
    text : Text
    text = output_text store' what

    told_step : (whole : Bool) (rest before : List ℕ) → text.whole ≡ whole
        → run 1 store r rest before ≡ (if whole then Going store' r' rest (before ++ text.bytes) else Over StoreLimit rest (before ++ text.bytes))
    unfolding text
    told_step whole rest before same =
        ap (λ t. after (run 0) t rest before) is
        ∙ ap (λ w. if w then Going store' r' rest (before ++ text.bytes) else Over StoreLimit rest (before ++ text.bytes)) same

    pub paused_outputs : (old new : Devices) → (output_text store' what).whole ≡ true → Exchanged old new [] (output_text store' what).bytes
        → NotAsked old new [] → Paused Holds 1 store r store' r' old new
    unfolding text
    paused_outputs old new whole exchanged none = record {
      read = [];
      written = (output_text store' what).bytes;
      exchanged = exchanged;
      flushes = inl none;
      leads = λ rest before follows. told_step true rest before whole;
    }

    pub finished_outputs : (old new : Devices) → (output_text store' what).whole ≡ false → Exchanged old new [] (output_text store' what).bytes
        → NotAsked old new [] → Finished Holds StoreLimit 1 store r old new
    unfolding text
    finished_outputs old new cut exchanged none = record {
      read = [];
      written = (output_text store' what).bytes;
      exchanged = exchanged;
      flushes = inl none;
      ends = λ rest before follows. told_step false rest before cut;
    }

    pub cut_short : (old new : Devices) (begun left : List ℕ) → (output_text store' what).bytes ≡ begun ++ left → Exchanged old new [] begun → NotAsked old new []
        → CutShort Holds 1 store r old new
    cut_short old new begun left whole exchanged none = record {
      read = [];
      written = [];
      begun = begun;
      exchanged = exchanged;
      flushes = inl none;
      steps = 0;
      store' = store;
      r' = r;
      within = omega arith;
      leads = λ rest before follows. ap (λ o. Going store r rest o) (sym (append-nil before));
      what = what;
      store'' = store';
      r'' = r';
      tells = is;
      left = left;
      begins = whole;
    }

  pub finished_ends : (e : End) (reported : Devices) → step store r ≡ Ends e → Finished Holds e 1 store r reported reported
  finished_ends e reported is = record {
    read = [];
    written = [];
    exchanged = exchanged_none reported;
    flushes = inl (refl, refl);
    ends = λ rest before follows. ap (λ t. after (run 0) t rest before) is ∙ ap (λ o. Over e rest o) (sym (append-nil before));
  }

  -- a step that asks, and a device that fails
  pub waiting_asks : (store' : List ℕ) (r' : Registers) (old new : Devices) → step store r ≡ Asks store' r' → Exchanged old new [] [] → FlushesFirst Holds 1 store r old new []
      → Waiting Holds 1 store r old new
  waiting_asks store' r' old new is exchanged flushes = record {
    read = [];
    written = [];
    exchanged = exchanged;
    flushes = flushes;
    steps = 0;
    store' = store;
    r' = r;
    within = omega arith;
    leads = λ rest before follows. ap (λ o. Going store r rest o) (sym (append-nil before));
    store'' = store';
    r'' = r';
    asks = is;
  }

-- ---- a run, and what comes behind it

-- a standing given by two runs
joined : (k m : ℕ) (store : List ℕ) (r : Registers) (store' : List ℕ) (r' : Registers) (old mid new : Devices) (r1 w1 r2 w2 : List ℕ)
    → Leads k store r store' r' mid r1 w1 → Exchanged mid new r2 w2 → (rest before : List ℕ) → Follows new rest
    → run (k + m) store r ((r1 ++ r2) ++ rest) before ≡ run m store' r' (r2 ++ rest) (before ++ w1)
joined k m store r store' r' old mid new r1 w1 r2 w2 leads exchanged rest before follows =
    let bare : Follows mid (r2 ++ rest) = λ ended. let second = exchanged.stays ended in ap (λ l. l ++ rest) second.0 ∙ follows second.1 in
    ap (λ i. run (k + m) store r i before) (append_assoc r1 r2 rest)
    ∙ run-add k m store r (r1 ++ (r2 ++ rest)) before
    ∙ ap (λ s. onwards m s) (leads (r2 ++ rest) before bare)

module _ (Holds : List ℕ → Type 0) (k m : ℕ) (store : List ℕ) (r : Registers) (store' : List ℕ) (r' : Registers) (old mid new : Devices)
    (first : Paused Holds k store r store' r' old mid) (passes : Begins mid.passed new.passed) where
  -- where the next steps ask for nothing
  none_on : (read : List ℕ) → NotAsked mid new read → FlushesFirst Holds k store r old mid first.read
      → FlushesFirst Holds (k + m) store r old new (first.read ++ read)
  none_on read none (inl before) = inl (
    before.0 ∙ ap (λ l. first.read ++ l) none.0 ∙ sym (append_assoc first.read read new.held),
    none.1 ∙ before.1,
  )
  none_on read none (inr ask) = inr (record {
    earlier = ask.earlier;
    since = ask.since ++ read;
    parts = ap (λ l. l ++ read) ask.parts ∙ append_assoc ask.earlier ask.since read;
    written = ask.written;
    leads = later_ask k m store r ask.earlier ask.written ask.leads;
    unended = ask.unended;
    asked = asked_on Holds mid new ask.since read ask.asked none;
    passed = Begins-trans (append_known old.taken ask.written) mid.passed new.passed ask.passed passes;
  })

  flushes_on : (read : List ℕ) → FlushesFirst Holds m store' r' mid new read → FlushesFirst Holds (k + m) store r old new (first.read ++ read)
  flushes_on read (inl none) = none_on read none first.flushes
  flushes_on read (inr ask) = inr (record {
    earlier = first.read ++ ask.earlier;
    since = ask.since;
    parts = ap (λ l. first.read ++ l) ask.parts ∙ sym (append_assoc first.read ask.earlier ask.since);
    written = first.written ++ ask.written;
    leads = record {
      steps = k + ask.leads.steps;
      within = let within = ask.leads.within in omega arith;
      store' = ask.leads.store';
      r' = ask.leads.r';
      leads = λ rest before.
          ap (λ i. run (k + ask.leads.steps) store r i before) (append_assoc first.read ask.earlier rest)
          ∙ run-add k ask.leads.steps store r (first.read ++ (ask.earlier ++ rest)) before
          ∙ ap (λ s. onwards ask.leads.steps s) (first.leads (ask.earlier ++ rest) before (λ ended. let other : false ≡ true = sym ask.unended ∙ ended in cc))
          ∙ ask.leads.leads rest (before ++ first.written)
          ∙ ap (λ o. Going ask.leads.store' ask.leads.r' rest o) (append_assoc before first.written ask.written);
      store'' = ask.leads.store'';
      r'' = ask.leads.r'';
      asks = ask.leads.asks;
    };
    unended = unended_before old.ended mid.ended (λ ended. (first.exchanged.stays ended).1) ask.unended;
    asked = ask.asked;
    passed = passed_behind old.taken mid.taken new.passed first.written ask.written first.exchanged.took ask.passed;
  })

  paused_on : (store'' : List ℕ) (r'' : Registers) → Paused Holds m store' r' store'' r'' mid new → Paused Holds (k + m) store r store'' r'' old new
  paused_on store'' r'' next = record {
    read = first.read ++ next.read;
    written = first.written ++ next.written;
    exchanged = exchanged_on old mid new first.read first.written next.read next.written first.exchanged next.exchanged;
    flushes = flushes_on next.read next.flushes;
    leads = λ rest before follows.
        joined k m store r store' r' old mid new first.read first.written next.read next.written first.leads next.exchanged rest before follows
        ∙ next.leads rest (before ++ first.written) follows
        ∙ ap (λ o. Going store'' r'' rest o) (append_assoc before first.written next.written);
  }

  finished_on : (e : End) → Finished Holds e m store' r' mid new → Finished Holds e (k + m) store r old new
  finished_on e next = record {
    read = first.read ++ next.read;
    written = first.written ++ next.written;
    exchanged = exchanged_on old mid new first.read first.written next.read next.written first.exchanged next.exchanged;
    flushes = flushes_on next.read next.flushes;
    ends = λ rest before follows.
        joined k m store r store' r' old mid new first.read first.written next.read next.written first.leads next.exchanged rest before follows
        ∙ next.ends rest (before ++ first.written) follows
        ∙ ap (λ o. Over e rest o) (append_assoc before first.written next.written);
  }

  leads_on : (j : ℕ) (store'' : List ℕ) (r'' : Registers) (read written : List ℕ) (took : List ℕ) → Exchanged mid new read took
      → Leads j store' r' store'' r'' new read written → Leads (k + j) store r store'' r'' new (first.read ++ read) (first.written ++ written)
  leads_on j store'' r'' read written took exchanged leads = λ rest before follows.
      joined k j store r store' r' old mid new first.read first.written read took first.leads exchanged rest before follows
      ∙ leads rest (before ++ first.written) follows
      ∙ ap (λ o. Going store'' r'' rest o) (append_assoc before first.written written)

  cut_on : CutShort Holds m store' r' mid new → CutShort Holds (k + m) store r old new
  cut_on next = record {
    read = first.read ++ next.read;
    written = first.written ++ next.written;
    begun = next.begun;
    exchanged = subst (λ w. Exchanged old new (first.read ++ next.read) w) (sym (append_assoc first.written next.written next.begun))
        (exchanged_on old mid new first.read first.written next.read (next.written ++ next.begun) first.exchanged next.exchanged);
    flushes = flushes_on next.read next.flushes;
    steps = k + next.steps;
    store' = next.store';
    r' = next.r';
    within = let within = next.within in omega arith;
    leads = leads_on next.steps next.store' next.r' next.read next.written (next.written ++ next.begun) next.exchanged next.leads;
    what = next.what;
    store'' = next.store'';
    r'' = next.r'';
    tells = next.tells;
    left = next.left;
    begins = next.begins;
  }

  waiting_on : Waiting Holds m store' r' mid new → Waiting Holds (k + m) store r old new
  waiting_on next = record {
    read = first.read ++ next.read;
    written = first.written ++ next.written;
    exchanged = exchanged_on old mid new first.read first.written next.read next.written first.exchanged next.exchanged;
    flushes = flushes_on next.read next.flushes;
    steps = k + next.steps;
    store' = next.store';
    r' = next.r';
    within = let within = next.within in omega arith;
    leads = leads_on next.steps next.store' next.r' next.read next.written next.written next.exchanged next.leads;
    store'' = next.store'';
    r'' = next.r'';
    asks = next.asks;
  }

  failed_on : FailedOnTheWay Holds m store' r' mid new → FailedOnTheWay Holds (k + m) store r old new
  failed_on (inl cut) = inl (cut_on cut)
  failed_on (inr waiting) = inr (waiting_on waiting)

  pub went_on : (e : End) (store'' : List ℕ) (r'' : Registers) → Went Holds e m store' r' store'' r'' mid new → Went Holds e (k + m) store r store'' r'' old new
  went_on StepLimit store'' r'' next = paused_on store'' r'' next
  went_on ReadFault store'' r'' next = waiting_on next
  went_on WriteFault store'' r'' next = failed_on next
  went_on x store'' r'' next = finished_on x next

-- ---- an end with more steps left

module _ (Holds : List ℕ → Type 0) (m j : ℕ) (store : List ℕ) (r : Registers) (old new : Devices) where
  flushes_more : (read : List ℕ) → FlushesFirst Holds m store r old new read → FlushesFirst Holds (m + j) store r old new read
  flushes_more read (inl none) = inl none
  flushes_more read (inr ask) = inr (record {
    earlier = ask.earlier;
    since = ask.since;
    parts = ask.parts;
    written = ask.written;
    leads = later_ask m j store r ask.earlier ask.written ask.leads;
    unended = ask.unended;
    asked = ask.asked;
    passed = ask.passed;
  })

  finished_more : (e : End) → Finished Holds e m store r old new → Finished Holds e (m + j) store r old new
  finished_more e p = record {
    read = p.read;
    written = p.written;
    exchanged = p.exchanged;
    flushes = flushes_more p.read p.flushes;
    ends = λ rest before follows. run-add m j store r (p.read ++ rest) before ∙ ap (λ s. onwards j s) (p.ends rest before follows);
  }

  cut_more : CutShort Holds m store r old new → CutShort Holds (m + j) store r old new
  cut_more p = record {
    read = p.read;
    written = p.written;
    begun = p.begun;
    exchanged = p.exchanged;
    flushes = flushes_more p.read p.flushes;
    steps = p.steps;
    store' = p.store';
    r' = p.r';
    within = let within = p.within in omega arith;
    leads = p.leads;
    what = p.what;
    store'' = p.store'';
    r'' = p.r'';
    tells = p.tells;
    left = p.left;
    begins = p.begins;
  }

  waiting_more : Waiting Holds m store r old new → Waiting Holds (m + j) store r old new
  waiting_more p = record {
    read = p.read;
    written = p.written;
    exchanged = p.exchanged;
    flushes = flushes_more p.read p.flushes;
    steps = p.steps;
    store' = p.store';
    r' = p.r';
    within = let within = p.within in omega arith;
    leads = p.leads;
    store'' = p.store'';
    r'' = p.r'';
    asks = p.asks;
  }

  failed_more : FailedOnTheWay Holds m store r old new → FailedOnTheWay Holds (m + j) store r old new
  failed_more (inl cut) = inl (cut_more cut)
  failed_more (inr waiting) = inr (waiting_more waiting)

  pub went_more : (e : End) (store' : List ℕ) (r' : Registers) → e ≢ StepLimit → Went Holds e m store r store' r' old new → Went Holds e (m + j) store r store' r' old new
  went_more StepLimit store' r' other p = absurd (other refl)
  went_more ReadFault store' r' other p = waiting_more p
  went_more WriteFault store' r' other p = failed_more p
  went_more x store' r' other p = finished_more x p

-- ---- the flush at the end

module _ (Holds : List ℕ → Type 0) (n : ℕ) (store : List ℕ) (r : Registers) (store' : List ℕ) (r' : Registers) (old mid new : Devices) (still : Still mid new) where
  paused_still : Paused Holds n store r store' r' old mid → Paused Holds n store r store' r' old new
  paused_still p = record {
    read = p.read;
    written = p.written;
    exchanged = exchanged_still old mid new p.read p.written p.exchanged still;
    flushes = flushes_still Holds n store r old mid new p.read p.flushes still;
    leads = λ rest before follows. p.leads rest before (follows_still mid new rest still follows);
  }

  finished_still : (e : End) → Finished Holds e n store r old mid → Finished Holds e n store r old new
  finished_still e p = record {
    read = p.read;
    written = p.written;
    exchanged = exchanged_still old mid new p.read p.written p.exchanged still;
    flushes = flushes_still Holds n store r old mid new p.read p.flushes still;
    ends = λ rest before follows. p.ends rest before (follows_still mid new rest still follows);
  }

  cut_still : CutShort Holds n store r old mid → CutShort Holds n store r old new
  cut_still p = record {
    read = p.read;
    written = p.written;
    begun = p.begun;
    exchanged = exchanged_still old mid new p.read (p.written ++ p.begun) p.exchanged still;
    flushes = flushes_still Holds n store r old mid new p.read p.flushes still;
    steps = p.steps;
    store' = p.store';
    r' = p.r';
    within = p.within;
    leads = λ rest before follows. p.leads rest before (follows_still mid new rest still follows);
    what = p.what;
    store'' = p.store'';
    r'' = p.r'';
    tells = p.tells;
    left = p.left;
    begins = p.begins;
  }

  waiting_still : Waiting Holds n store r old mid → Waiting Holds n store r old new
  waiting_still p = record {
    read = p.read;
    written = p.written;
    exchanged = exchanged_still old mid new p.read p.written p.exchanged still;
    flushes = flushes_still Holds n store r old mid new p.read p.flushes still;
    steps = p.steps;
    store' = p.store';
    r' = p.r';
    within = p.within;
    leads = λ rest before follows. p.leads rest before (follows_still mid new rest still follows);
    store'' = p.store'';
    r'' = p.r'';
    asks = p.asks;
  }

  failed_still : FailedOnTheWay Holds n store r old mid → FailedOnTheWay Holds n store r old new
  failed_still (inl cut) = inl (cut_still cut)
  failed_still (inr waiting) = inr (waiting_still waiting)

  -- the flush succeeds
  flush_passes : (e : End) → Went Holds e n store r store' r' old mid → Ran Holds e n store r store' r' old new
  flush_passes StepLimit p = paused_still p
  flush_passes ReadFault p = waiting_still p
  flush_passes WriteFault p = inl (failed_still p)
  flush_passes x p = finished_still x p

  -- the flush fails
  flush_fails : (e : End) → Went Holds e n store r store' r' old mid → Broken Holds n store r old new
  flush_fails StepLimit p = inr (inl (store', r', paused_still p))
  flush_fails ReadFault p = inl (inr (waiting_still p))
  flush_fails WriteFault p = inl (failed_still p)
  flush_fails (Status v) p = inr (inr (Status v, finished_still (Status v) p))
  flush_fails x p = inr (inr (x, finished_still x p))

  -- a flush keeps the end, or makes it a write fault
  pub went_flushed : (e f : End) → (f ≡ e) ⊎ (f ≡ WriteFault) → Went Holds e n store r store' r' old mid → Ran Holds f n store r store' r' old new
  went_flushed e f (inl same) p = rw same (flush_passes e p)
  went_flushed e f (inr fault) p = rw fault (flush_fails e p)

-- ---- what one step's answer says

pub exchanged_took : (left : Option (List ℕ)) (held : List ℕ) (ended : Bool) (a b p q : Option (List ℕ)) (bytes : List ℕ) → Appends a b bytes
    → Exchanged (record { left = left; held = held; ended = ended; taken = a; passed = p })
    (record { left = left; held = held; ended = ended; taken = b; passed = q }) [] bytes
exchanged_took left held ended a b p q bytes appends = record { delivered = Consumes-nil left; took = appends; stays = λ t. (refl, t) }

module _ (Holds : List ℕ → Type 0) (store : List ℕ) (r : Registers) (store' : List ℕ) (r' : Registers) where
  pub went_own : (e : End) (reported : Devices) → IsOwn e → step store r ≡ Ends e → Went Holds e 1 store r store' r' reported reported
  went_own (Status v) reported own is = finished_ends Holds store r (Status v) reported is
  went_own DivideByZero reported own is = finished_ends Holds store r DivideByZero reported is
  went_own StoreLimit reported own is = finished_ends Holds store r StoreLimit reported is
  went_own BadOperation reported own is = finished_ends Holds store r BadOperation reported is
  went_own x reported own is = absurd own

  -- a reader that did not fail before asked its device
  module _ (reads reads' writes' : ℕ) (asked : List ℕ) (s : Registers) (old new : Devices) (is : step store r ≡ Asks asked s) (still : Still old new)
      (empty : old.held ≡ []) (unended : old.ended ≡ false) where
    waits : FlushesFirst Holds 1 store r old new [] → Waiting Holds 1 store r old new
    waits flushes = waiting_asks Holds store r asked s old new is (exchanged_still old old new [] [] (exchanged_none old) still) flushes

    not_asked : FlushesFirst Holds 1 store r old new []
    not_asked = inl (sym still.held, still.ended)

    failed_read : (n : ℕ) → (n ≡ 0 → new.passed ≡ new.taken) → FlushesFirst Holds 1 store r old new []
    failed_read zero flushed =
        let took = exchanged_still old old new [] [] (exchanged_none old) still in
        asked_here Holds store r asked s old new [] is took.took (flushed refl) unended (still.held ∙ empty)
    failed_read (suc n) flushed = not_asked

    pub went_ask_fails : (e : End) → AskFails e reads reads' writes' → (reads ≡ 0 → e ≢ WriteFault → new.passed ≡ new.taken)
        → Went Holds e 1 store r store' r' old new
    went_ask_fails ReadFault fails flushed = waits (failed_read reads (λ none. flushed none (λ e. cc)))
    went_ask_fails WriteFault fails flushed = inr (waits not_asked)
    went_ask_fails x fails flushed = absurd fails

  pub went_part : (what : Output) (old new : Devices) → step store r ≡ Outputs what store' r' → (p : AppendsPart old.taken new.taken (output_text store' what).bytes)
      → Exchanged old new [] p.part → NotAsked old new [] → FailedOnTheWay Holds 1 store r old new
  went_part what old new is p exchanged none = inl (cut_short Holds store r what store' r' is old new p.part p.rest p.whole exchanged none)
