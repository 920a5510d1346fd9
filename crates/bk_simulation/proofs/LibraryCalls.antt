-- The routines of the library are called: each does its step, and goes back.
use Rattle.bk_simulation.proofs.Pieces.{by_option, by_truth, return_goes, call_stmt, Applies, Store, Moved, Fits, moved_on, moved_refl, Codes, untouched, AreBytes, read_byte_at, write_byte_at, word_number, HasBytes, Setting, CallAt, Configuration, store, Ready, Account, Comes, Ran, went, ltb-true, ◌≡◌, ◌≢◌, ℕ, suc, ◌+◌, ◌-◌, ◌*◌, ◌<◌, ◌≤◌, ◌%◌, ◌^◌, ◌==◌, nat_lt, Bool, false, List, [], ◌∷◌, length, Option, Some, None, refl, sym, ap, ◌∙◌, subst, if◌then◌else◌, arith, slice_get, zero, ◌++◌, option_and_then, option_map, Status, signed, word_sum, byte_distance, Content, Word, Variable, Cell, Held, content_of, write, number_in, variable_in, variable_at, byte_at, word_with_byte_at, string_at, bytes_from, At, State, Ends, slot, on_number, on_some, tells, routine_step, step, Program, in_hand, program_step, Stmt, Value, number, address, procedure, routine, unset, read_byte, write_byte, World, Outcome, gives, given, with, changes, writing, remembering, calls_back, spelling, aligned, FormatPart, format_bytes, in_front, library, writes_text, takes_byte, eqb-true, argument, byte_cause, set_byte_cause, of_arguments, string_cause, written_cause, format_cause}
use Rattle.bk_base.specs.Format.{parts}
use Rattle.bk_ocode.specs.OcodeState as ocode
use Rattle.bk_ocode.specs.OcodeStep.{return, read_byte as takes_input}
use Rattle.bk_meaning.specs.Values as value
use Rattle.bk_meaning.specs.Library as m
use Rattle.bk_simulation.proofs.Calls.{AnyExit, Gave, returned_in}
use Rattle.bk_base.specs.Format as f

-- ---- What the routines of the library read of memory: strings, and what a format writes of its arguments.

module _ (codes : Codes) (h : Store) (top : ℕ) (fits : Fits codes h top) where
  -- a byte that is read
  byte_read : (a : Value) (w i b : ℕ) → Applies codes h.bases a (Word w) → read_byte h.mem a (number i) ≡ Some b → byte_at top h.cells w i ≡ Some b
  byte_read a w i b st e =
      let r = read_byte_at codes h top a (number i) (Word w) (Word i) b fits st refl e in
      ap (λ y. byte_at top h.cells y i) (word_number w r.word r.is_word) ∙ ap (λ y. byte_at top h.cells r.word y) (word_number i r.index r.is_index) ∙ r.reads

  -- several
  bytes_read : (n : ℕ) (a : Value) (w i : ℕ) (bs : List ℕ) → Applies codes h.bases a (Word w) → m.bytes_from n h.mem a i ≡ Some bs → bytes_from n top h.cells w i ≡ Some bs
  bytes_read zero a w i bs st e = e
  bytes_read (suc n) a w i bs st e = by_byte (read_byte h.mem a (number i)) refl e (λ rest h. bytes_read n a w (i + 1) rest st h)
    where
      by_rest : (b : ℕ) (o p : Option (List ℕ)) → ((rest : List ℕ) → o ≡ Some rest → p ≡ Some rest) → option_map (λ bs. b ∷ bs) o ≡ Some bs → option_map (λ bs. b ∷ bs) p ≡ Some bs
      by_rest b None p go e = absurd (cc)
      by_rest b (Some rest) p go e = ap (option_map (λ bs. b ∷ bs)) (go rest refl) ∙ e

      by_byte : (o : Option ℕ) → read_byte h.mem a (number i) ≡ o → option_and_then (λ b. option_map (λ bs. b ∷ bs) (m.bytes_from n h.mem a (i + 1))) o ≡ Some bs
          → ((rest : List ℕ) → m.bytes_from n h.mem a (i + 1) ≡ Some rest → bytes_from n top h.cells w (i + 1) ≡ Some rest) → bytes_from (suc n) top h.cells w i ≡ Some bs
      by_byte None eo e go = absurd (cc)
      by_byte (Some b) eo e go =
          ap (λ y. option_and_then (λ b. option_map (λ rest. b ∷ rest) (bytes_from n top h.cells w (i + 1))) y) (byte_read a w i b st eo)
          ∙ by_rest b (m.bytes_from n h.mem a (i + 1)) (bytes_from n top h.cells w (i + 1)) go e

  -- a string
  pub string_read : (a : Value) (w : ℕ) (bs : List ℕ) → Applies codes h.bases a (Word w) → m.string_at h.mem a ≡ Some bs → string_at top h.cells w ≡ Some bs
  string_read a w bs st e = grind (arith, by_option, number, byte_read, bytes_read)

  -- a string's address is a word
  pub string_word : (a : Value) (x : Content) (bs : List ℕ) → Applies codes h.bases a x → m.string_at h.mem a ≡ Some bs → (w : ℕ) × (x ≡ Word w)
  string_word (address o k) x bs st e = ((st.0 + k) % 2 ^ 32, st.3)
  string_word (number n) x bs st e = (n, st)
  string_word (procedure n) x bs st e = (codes.procedure n, st)
  string_word (routine r) x bs st e = (codes.routine r, st)
  string_word unset x bs st e = absurd (let z : None ≡ Some bs = e in cc)

  -- ---- formats

  -- the arguments from a slot on
  abbrev pub ArgumentsAt : (ℕ → Content) → ℕ → List Value → Type 0
  ArgumentsAt slots k vs = (i : ℕ) (v : Value) → slice_get vs i ≡ Some v → Applies codes h.bases v (slots (k + i))

  first_argument : (slots : ℕ → Content) (k : ℕ) (v : Value) (vs : List Value) → ArgumentsAt slots k (v ∷ vs) → Applies codes h.bases v (slots k)
  first_argument slots k v vs args = subst (λ y. Applies codes h.bases v (slots y)) (let e : k + 0 ≡ k = omega arith in e) (args 0 v refl)

  later_arguments : (slots : ℕ → Content) (k : ℕ) (v : Value) (vs : List Value) → ArgumentsAt slots k (v ∷ vs) → ArgumentsAt slots (k + 1) vs
  later_arguments slots k v vs args i u e = subst (λ y. Applies codes h.bases u (slots y)) (let q : k + suc i ≡ k + 1 + i = omega arith in q) (args (suc i) u e)

  -- what a part writes of an argument
  abbrev reported_of : (slots : ℕ → Content) (k : ℕ) → FormatPart → Option (List ℕ)
  reported_of slots k f.String = option_and_then (string_at top h.cells) (number_in (slots k))
  reported_of slots k f.Number = option_map (λ w. spelling (signed w)) (number_in (slots k))
  reported_of slots k f.Character = option_map (λ w. w % 256 ∷ []) (number_in (slots k))
  reported_of slots k (f.Column n) = option_map (λ w. aligned w n) (number_in (slots k))
  reported_of slots k _ = None

  part_told : (slots : ℕ → Content) (k : ℕ) (p : FormatPart) (v : Value) (text : List ℕ) → Applies codes h.bases v (slots k) → m.argument_text h.mem p v ≡ Some text → reported_of slots k p ≡ Some text
  part_told slots k f.String v text st e = grind (arith, string_word, string_read)
  part_told slots k f.Number (number n) text st e = ap (λ y. option_map (λ w. spelling (signed w)) (number_in y)) st ∙ e
  part_told slots k f.Character (number n) text st e = ap (λ y. option_map (λ w. w % 256 ∷ []) (number_in y)) st ∙ e
  part_told slots k (f.Column d) (number n) text st e = ap (λ y. option_map (λ w. aligned w d) (number_in y)) st ∙ e
  part_told slots k _ _ text st e = absurd (let z : None ≡ Some text = e in cc)

  -- a part, and what is behind it
  in_front_is : (reported more : Option (List ℕ)) (first : List ℕ) (rest : Option (List ℕ)) (text : List ℕ) → reported ≡ Some first → ((t : List ℕ) → rest ≡ Some t → more ≡ Some t) → option_map (λ t. first ++ t) rest ≡ Some text
      → in_front reported more ≡ Some text
  in_front_is reported more first None text et go e = absurd (cc)
  in_front_is reported more first (Some t) text et go e = ap (λ y. in_front y more) et ∙ ap (option_map (λ t. first ++ t)) (go t refl) ∙ e

  abbrev FormatGoes : (ℕ → Content) → List FormatPart → ℕ → List Value → Type 0
  FormatGoes slots ps k vs = (text : List ℕ) → m.written h.mem ps vs ≡ Some text → format_bytes (λ a. number_in (slots a)) (string_at top h.cells) ps k ≡ Some text

  taken_part : (slots : ℕ → Content) (p : FormatPart) (ps : List FormatPart) (k : ℕ) (v : Value) (vs : List Value) (text : List ℕ) → ArgumentsAt slots k (v ∷ vs) → FormatGoes slots ps (k + 1) vs
      → option_and_then (λ first. option_map (λ text. first ++ text) (m.written h.mem ps vs)) (m.argument_text h.mem p v) ≡ Some text
      → in_front (reported_of slots k p) (format_bytes (λ a. number_in (slots a)) (string_at top h.cells) ps (k + 1)) ≡ Some text
  taken_part slots p ps k v vs text args go e =
      by_option (λ o. option_and_then (λ first. option_map (λ text. first ++ text) (m.written h.mem ps vs)) o ≡ Some text → in_front (reported_of slots k p) (format_bytes (λ a. number_in (slots a)) (string_at top h.cells) ps (k + 1)) ≡ Some text)
      (m.argument_text h.mem p v) (λ _ e. absurd (cc))
      (λ first eo e. in_front_is (reported_of slots k p) _ first (m.written h.mem ps vs) text (part_told slots k p v first (first_argument slots k v vs args) eo) go e) e

  pub format_told : (slots : ℕ → Content) (ps : List FormatPart) (k : ℕ) (vs : List Value) → ArgumentsAt slots k vs → FormatGoes slots ps k vs
  format_told slots [] k vs args text e = e
  format_told slots (f.Byte b ∷ ps) k vs args text e = in_front_is (Some (b ∷ [])) _ (b ∷ []) (m.written h.mem ps vs) text refl (format_told slots ps k vs args) e
  format_told slots (f.Percent ∷ ps) k vs args text e = in_front_is (Some (37 ∷ [])) _ (37 ∷ []) (m.written h.mem ps vs) text refl (format_told slots ps k vs args) e
  format_told slots (f.String ∷ ps) k (v ∷ vs) args text e = taken_part slots f.String ps k v vs text args (format_told slots ps (k + 1) vs (later_arguments slots k v vs args)) e
  format_told slots (f.Number ∷ ps) k (v ∷ vs) args text e = taken_part slots f.Number ps k v vs text args (format_told slots ps (k + 1) vs (later_arguments slots k v vs args)) e
  format_told slots (f.Character ∷ ps) k (v ∷ vs) args text e = taken_part slots f.Character ps k v vs text args (format_told slots ps (k + 1) vs (later_arguments slots k v vs args)) e
  format_told slots (f.Column n ∷ ps) k (v ∷ vs) args text e = taken_part slots (f.Column n) ps k v vs text args (format_told slots ps (k + 1) vs (later_arguments slots k v vs args)) e
  format_told slots _ k [] args text e = absurd (let z : None ≡ Some text = e in cc)

-- each routine under its name in OCODE
abbrev pub named_there : value.Routine → ocode.Routine
named_there value.stop = ocode.Stop
named_there value.rdch = ocode.Rdch
named_there value.wrch = ocode.Wrch
named_there value.newline = ocode.Newline
named_there value.writes = ocode.Writes
named_there value.writen = ocode.Writen
named_there value.writed = ocode.Writed
named_there value.getbyte = ocode.Getbyte
named_there value.putbyte = ocode.Putbyte
named_there value.writef = ocode.Writef

-- The run has come to a routine, in its frame.
pub record AtRoutine (setting : Setting) (s : State) (A : Account) (z : Configuration) (w : World) (vs : List Value) (back e : ℕ) (w1 : World) : Type 0 where
  pub bases1 : List ℕ
  pub cells1 : ℕ → Cell
  pub written1 : List ℕ
  pub steps : ℕ
  pub paid : ℕ
  pub comes : Comes setting steps paid s (record { control = At e; cells = cells1; frame = z.frame + z.depth; hand = None; input = w1.input; output = w1.output; written = written1 })
  pub has : HasBytes (record { control = At e; cells = cells1; frame = z.frame + z.depth; hand = None; input = w1.input; output = w1.output; written = written1 })
  pub most : steps + 16 * w1.turns ≤ A.most
  pub least : A.least ≤ w1.turns + paid
  pub link0 : content_of (cells1 (z.frame + z.depth + 0)) ≡ Word z.frame
  pub link1 : content_of (cells1 (z.frame + z.depth + 1)) ≡ Word back
  pub fits : Fits setting.codes (record { bases = bases1; mem = w1.memory; cells = cells1 }) (z.frame + z.depth)
  pub moved : Moved (z.frame + z.depth) (store z w) (record { bases = bases1; mem = w1.memory; cells = cells1 })
  pub each : (i : ℕ) (u : Value) → slice_get vs i ≡ Some u → Applies setting.codes bases1 u (content_of (cells1 (z.frame + z.depth + (2 + i))))

not_home : (program : Program) (n : ℕ) (r : ocode.Routine) → program.callables.routine program.home ≡ None → program.callables.routine n ≡ Some r → (n == program.home) ≡ false
not_home program n r none some = grind (arith, by_truth, eqb-true)

-- its step is the routine's
routine_stepped : (program : Program) (s : State) (n : ℕ) (r : ocode.Routine) → program.callables.routine program.home ≡ None → s.control ≡ At n → program.callables.routine n ≡ Some r
    → program_step program s ≡ routine_step s r
routine_stepped program s n r none e er = grind (arith, step, not_home)

module _ (of : Bool) (setting : Setting) (s : State) (A B : Account) (z : Configuration) (rest : List Stmt) (w w1 : World) (vs : List Value) (r : value.Routine) (n : ℕ)
    (le : A.most + 1 ≤ B.most) (le' : B.least ≤ A.least) (en : n ≡ w.calls) (ready : Ready setting z w) (call : CallAt setting z.scene (call_stmt of z.depth) rest)
    (known : setting.program.callables.routine (setting.codes.routine r) ≡ Some (named_there r))
    (at : AtRoutine setting s A z w vs (z.scene.own.places.call (length rest)) (setting.codes.routine r) w1) where
  abbrev top : ℕ
  top = z.frame + z.depth

  abbrev back : ℕ
  back = z.scene.own.places.call (length rest)

  abbrev here : State
  here = record { control = At (setting.codes.routine r); cells = at.cells1; frame = top; hand = None; input = w1.input; output = w1.output; written = at.written1 }

  abbrev held : Store
  held = record { bases = at.bases1; mem = w1.memory; cells = at.cells1 }

  abbrev Given : Value → World → Type 0
  Given v w3 = Gave of setting s B z rest w v (calls_back n w3)

  abbrev RanHere : Outcome Value → Type 0
  RanHere o = Ran setting s B Given AnyExit o

  stepped : program_step setting.program here ≡ routine_step here (named_there r)
  stepped = routine_stepped setting.program here (setting.codes.routine r) (named_there r) setting.well.is_program.home_apart refl known

  -- the routine goes back with a result, these cells, and the world's bytes
  back_with : (v : Value) (result : Option Content) (w3 : World) (cells3 : ℕ → Cell) (written3 : List ℕ) → w3.turns ≡ w1.turns → Applies setting.codes at.bases1 v (in_hand result)
      → routine_step here (named_there r) ≡ return (record here { cells = cells3; input = w3.input; output = w3.output; written = written3 }) result
      → content_of (cells3 (top + 0)) ≡ Word z.frame → content_of (cells3 (top + 1)) ≡ Word back
      → Fits setting.codes (record { bases = at.bases1; mem = w3.memory; cells = cells3 }) top → Moved top held (record { bases = at.bases1; mem = w3.memory; cells = cells3 }) → RanHere (gives v w3)
  back_with v result w3 cells3 written3 et st e e0 e1 f mv =
      went (returned_in of setting s A B z rest w w3 n v result le le' en ready call (record {
        from = here;
        steps = at.steps;
        paid = at.paid;
        comes = at.comes;
        has = at.has;
        most = omega (arith, at.most, at.least);
        least = omega (arith, at.most, at.least);
        bases1 = at.bases1;
        cells1 = cells3;
        written1 = written3;
        returns = stepped ∙ e ∙ return_goes (record here { cells = cells3; input = w3.input; output = w3.output; written = written3 }) result back z.frame e1 e0;
        fits = f;
        moved = moved_on setting.codes top top top _ _ _ ready.fits (omega (arith, at.most, at.least)) at.moved mv;
      }) st)

  -- with the cells as they were
  back_same : (v : Value) (result : Option Content) (w3 : World) → w3.turns ≡ w1.turns → w3.memory ≡ w1.memory → Applies setting.codes at.bases1 v (in_hand result)
      → routine_step here (named_there r) ≡ return (record here { input = w3.input; output = w3.output }) result → RanHere (gives v w3)
  back_same v result w3 et em st e =
      back_with v result w3 at.cells1 at.written1 et st e at.link0 at.link1
      (subst (λ y. Fits setting.codes (record { bases = at.bases1; mem = y; cells = at.cells1 }) top) (sym em) at.fits)
      (subst (λ y. Moved top held (record { bases = at.bases1; mem = y; cells = at.cells1 })) (sym em) (moved_refl top held))

low_place : (top p : ℕ) (cells : ℕ → Cell) (k : Content) → variable_at top cells p ≡ Some k → p < top
low_place top p cells k e = by_truth (λ b. (if b then variable_in (cells p) else None) ≡ Some k → p < top) (nat_lt p top) (λ h e. ltb-true p top h) (λ h e. absurd (cc)) e

low_byte : (top w i b : ℕ) (cells : ℕ → Cell) (k : Content) → word_with_byte_at top cells w i b ≡ Some k → word_sum w (byte_distance i) < top
low_byte top w i b cells k e = grind (arith, by_option, variable_at, low_place)

pub library_runs : (place : ℕ) (of : Bool) (setting : Setting) (s : State) (A B : Account) (z : Configuration) (rest : List Stmt) (w w1 : World) (vs : List Value) (r : value.Routine) (n : ℕ) → A.most + 1 ≤ B.most → B.least ≤ A.least → n ≡ w.calls → Ready setting z w
    → CallAt setting z.scene (call_stmt of z.depth) rest → setting.program.callables.routine (setting.codes.routine r) ≡ Some (named_there r) → AtRoutine setting s A z w vs (z.scene.own.places.call (length rest)) (setting.codes.routine r) w1
    → Ran setting s B (λ v w3. Gave of setting s B z rest w v (calls_back n w3)) AnyExit (library place r vs w1)
library_runs place of setting s A B z rest w w1 (number k ∷ vs) value.stop n le le' en ready call known at =
    let h = here of setting s A B z rest w w1 (number k ∷ vs) value.stop n le le' en ready call known at in
    went (record {
      to = h;
      steps = at.steps;
      paid = at.paid;
      comes = at.comes;
      most = omega (arith, at.most);
      end = Status (signed k);
      is_end = refl;
      stops = stepped of setting s A B z rest w w1 (number k ∷ vs) value.stop n le le' en ready call known at ∙ ap (λ y. on_number y (λ n. Ends (Status (signed n)) h)) (at.each 0 (number k) refl);
      wrote = refl;
      left = refl;
    })
library_runs place of setting s A B z rest w w1 vs value.rdch n le le' en ready call known at = by_input w1.input refl
  where
    h : State
    h = record { control = At (setting.codes.routine value.rdch); cells = at.cells1; frame = z.frame + z.depth; hand = None; input = w1.input; output = w1.output; written = at.written1 }

    by_input : (input : List ℕ) → w1.input ≡ input → Ran setting s B (λ v w3. Gave of setting s B z rest w v (calls_back n w3)) AnyExit (takes_byte input w1)
    by_input [] e =
        back_same of setting s A B z rest w w1 vs value.rdch n le le' en ready call known at (number (2 ^ 32 - 1)) (Some (Word (2 ^ 32 - 1))) w1 refl refl refl (ap (λ y. takes_input y h) e)
    by_input (b ∷ more) e =
        back_same of setting s A B z rest w w1 vs value.rdch n le le' en ready call known at (number b) (Some (Word b)) (record w1 { input = more }) refl refl refl (ap (λ y. takes_input y h) e)
library_runs place of setting s A B z rest w w1 (number k ∷ vs) value.wrch n le le' en ready call known at =
    let h = here of setting s A B z rest w w1 (number k ∷ vs) value.wrch n le le' en ready call known at in
    back_same of setting s A B z rest w w1 (number k ∷ vs) value.wrch n le le' en ready call known at unset None (writing (k % 256 ∷ []) w1) refl refl tt
    (ap (λ y. on_number y (λ b. tells h (b % 256 ∷ []))) (at.each 0 (number k) refl))
library_runs place of setting s A B z rest w w1 vs value.newline n le le' en ready call known at =
    back_same of setting s A B z rest w w1 vs value.newline n le le' en ready call known at unset None (writing (10 ∷ []) w1) refl refl tt refl
library_runs place of setting s A B z rest w w1 (a ∷ vs) value.writes n le le' en ready call known at =
    let h : State = record { control = At (setting.codes.routine value.writes); cells = at.cells1; frame = z.frame + z.depth; hand = None; input = w1.input; output = w1.output; written = at.written1 } in
    by_option (λ o. Ran setting s B (λ v w3. Gave of setting s B z rest w v (calls_back n w3)) AnyExit (writes_text place (argument 1 (string_cause w1.memory a)) o w1))
    (m.string_at w1.memory a) (λ _. went tt) (λ text e.
    let hs : Store = record { bases = at.bases1; mem = w1.memory; cells = at.cells1 } in
    let x = string_word setting.codes hs (z.frame + z.depth) at.fits a _ text (at.each 0 a refl) e in
    let st = subst (λ y. Applies setting.codes at.bases1 a y) x.1 (at.each 0 a refl) in
    back_same of setting s A B z rest w w1 (a ∷ vs) value.writes n le le' en ready call known at unset None (writing text w1) refl refl tt
    (ap (λ y. on_number y (λ a. on_some (string_at h.frame h.cells a) (λ bytes. tells h bytes))) x.1
    ∙ ap (λ y. on_some y (λ bytes. tells h bytes)) (string_read setting.codes hs (z.frame + z.depth) at.fits a x.0 text st e)))
library_runs place of setting s A B z rest w w1 (number k ∷ vs) value.writen n le le' en ready call known at =
    let h = here of setting s A B z rest w w1 (number k ∷ vs) value.writen n le le' en ready call known at in
    back_same of setting s A B z rest w w1 (number k ∷ vs) value.writen n le le' en ready call known at unset None (writing (spelling (signed k)) w1) refl refl tt
    (ap (λ y. on_number y (λ n. tells h (spelling (signed n)))) (at.each 0 (number k) refl))
library_runs place of setting s A B z rest w w1 (number k ∷ number d ∷ vs) value.writed n le le' en ready call known at =
    let h = here of setting s A B z rest w w1 (number k ∷ number d ∷ vs) value.writed n le le' en ready call known at in
    back_same of setting s A B z rest w w1 (number k ∷ number d ∷ vs) value.writed n le le' en ready call known at unset None (writing (aligned k d) w1) refl refl tt
    (ap (λ y. on_number y (λ n. on_number (slot h 3) (λ w. tells h (aligned n w)))) (at.each 0 (number k) refl)
    ∙ ap (λ y. on_number y (λ w. tells h (aligned k w))) (at.each 1 (number d) refl))
library_runs place of setting s A B z rest w w1 (a ∷ i ∷ vs) value.getbyte n le le' en ready call known at =
    let h : State = record { control = At (setting.codes.routine value.getbyte); cells = at.cells1; frame = z.frame + z.depth; hand = None; input = w1.input; output = w1.output; written = at.written1 } in
    by_option (λ o. Ran setting s B (λ v w3. Gave of setting s B z rest w v (calls_back n w3)) AnyExit (given place (of_arguments (byte_cause a i)) (option_map number o) w1))
    (read_byte w1.memory a i) (λ _. went tt) (λ b e.
    let hs : Store = record { bases = at.bases1; mem = w1.memory; cells = at.cells1 } in
    let x = read_byte_at setting.codes hs (z.frame + z.depth) a i _ _ b at.fits (at.each 0 a refl) (at.each 1 i refl) e in
    back_same of setting s A B z rest w w1 (a ∷ i ∷ vs) value.getbyte n le le' en ready call known at (number b) (Some (Word b)) w1 refl refl refl
    (ap (λ y. on_number y (λ a. on_number (slot h 3) (λ i. on_some (byte_at h.frame h.cells a i) (λ b. return h (Some (Word b)))))) x.is_word
    ∙ ap (λ y. on_number y (λ i. on_some (byte_at h.frame h.cells x.word i) (λ b. return h (Some (Word b))))) x.is_index
    ∙ ap (λ y. on_some y (λ b. return h (Some (Word b)))) x.reads))
library_runs place of setting s A B z rest w w1 (a ∷ i ∷ u ∷ vs) value.putbyte n le le' en ready call known at =
    let h : State = record { control = At (setting.codes.routine value.putbyte); cells = at.cells1; frame = z.frame + z.depth; hand = None; input = w1.input; output = w1.output; written = at.written1 } in
    let set_to : ℕ → Content → State = λ p x. record h { cells = write h.cells p (Held Variable x); written = p ∷ h.written } in
    by_option (λ o. Ran setting s B (λ v w3. Gave of setting s B z rest w v (calls_back n w3)) AnyExit (with (changes place (of_arguments (set_byte_cause a i u)) o w1) (λ _ w. gives unset w)))
    (write_byte w1.memory a i u) (λ _. went tt) (λ m1 e.
    let hs : Store = record { bases = at.bases1; mem = w1.memory; cells = at.cells1 } in
    let x = write_byte_at setting.codes hs (z.frame + z.depth) a i u _ _ _ m1 (λ p k e. subst (λ c. AreBytes (content_of c)) e (at.has.words p)) at.fits (at.each 0 a refl) (at.each 1 i refl) (at.each 2 u refl) e in
    let p = word_sum x.word (byte_distance x.index) in
    let low = low_byte (z.frame + z.depth) x.word x.index x.byte at.cells1 x.content x.sets in
    let n0 : z.frame + z.depth + 0 ≢ p = λ q. absurd (omega (arith, low, q)) in
    let n1 : z.frame + z.depth + 1 ≢ p = λ q. absurd (omega (arith, low, q)) in
    back_with of setting s A B z rest w w1 (a ∷ i ∷ u ∷ vs) value.putbyte n le le' en ready call known at unset None (remembering m1 w1) (write at.cells1 p (Held Variable x.content)) (p ∷ at.written1) refl tt
    (ap (λ y. on_number y (λ a. on_number (slot h 3) (λ i. on_number (slot h 4) (λ b. on_some (word_with_byte_at h.frame h.cells a i b) (λ content. return (set_to (word_sum a (byte_distance i)) content) None))))) x.is_word
    ∙ ap (λ y. on_number y (λ i. on_number (slot h 4) (λ b. on_some (word_with_byte_at h.frame h.cells x.word i b) (λ content. return (set_to (word_sum x.word (byte_distance i)) content) None)))) x.is_index
    ∙ ap (λ y. on_number y (λ b. on_some (word_with_byte_at h.frame h.cells x.word x.index b) (λ content. return (set_to p content) None))) x.is_byte
    ∙ ap (λ y. on_some y (λ content. return (set_to p content) None)) x.sets)
    (ap content_of (untouched at.cells1 p (Held Variable x.content) (z.frame + z.depth + 0) n0) ∙ at.link0)
    (ap content_of (untouched at.cells1 p (Held Variable x.content) (z.frame + z.depth + 1) n1) ∙ at.link1)
    x.fits (x.moved (z.frame + z.depth)))
library_runs place of setting s A B z rest w w1 (a ∷ vs) value.writef n le le' en ready call known at =
    by_option (λ o. Ran setting s B (λ v w3. Gave of setting s B z rest w v (calls_back n w3)) AnyExit (writes_text place (format_cause w1.memory a o vs) (option_and_then (λ bytes. m.written w1.memory (parts bytes) vs) o) w1))
    (m.string_at w1.memory a) (λ _. went tt) (λ bytes eb.
    by_option (λ o. Ran setting s B (λ v w3. Gave of setting s B z rest w v (calls_back n w3)) AnyExit (writes_text place (written_cause w1.memory 2 (parts bytes) vs) o w1)) (m.written w1.memory (parts bytes) vs) (λ _. went tt) (λ text e.
    let h = here of setting s A B z rest w w1 (a ∷ vs) value.writef n le le' en ready call known at in
    let hs : Store = record { bases = at.bases1; mem = w1.memory; cells = at.cells1 } in
    let x = string_word setting.codes hs (z.frame + z.depth) at.fits a _ bytes (at.each 0 a refl) eb in
    let st = subst (λ y. Applies setting.codes at.bases1 a y) x.1 (at.each 0 a refl) in
    let reported = format_told setting.codes hs (z.frame + z.depth) at.fits (slot h) (parts bytes) 3 vs
    (λ i v ev. subst (λ k. Applies setting.codes at.bases1 v (content_of (at.cells1 (z.frame + z.depth + k)))) (let q : 2 + suc i ≡ 3 + i = omega arith in q) (at.each (suc i) v ev)) text e in
    back_same of setting s A B z rest w w1 (a ∷ vs) value.writef n le le' en ready call known at unset None (writing text w1) refl refl tt
    (ap (λ y. on_number y (λ f. on_some (string_at h.frame h.cells f) (λ format. on_some (format_bytes (λ a. number_in (slot h a)) (string_at h.frame h.cells) (parts format) 3) (λ bytes. tells h bytes)))) x.1
    ∙ ap (λ y. on_some y (λ format. on_some (format_bytes (λ a. number_in (slot h a)) (string_at h.frame h.cells) (parts format) 3) (λ bytes. tells h bytes))) (string_read setting.codes hs (z.frame + z.depth) at.fits a x.0 bytes st eb)
    ∙ ap (λ y. on_some y (λ bytes. tells h bytes)) reported)))
library_runs place of setting s A B z rest w w1 _ _ n le le' en ready call known at = went tt
