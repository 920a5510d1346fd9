-- The first state of a program keeps what the states of a run keep.
use Rattle.bk_ocode.specs.SectionData.{Datum, is_in, is_datum, datum_word, GlobalSetting, entry_setting, stmt_globals, globals_of}
use Rattle.bk_ocode.specs.Library.{library_globals}
use Rattle.bk_ocode.proofs.Chosen.{chosen-true, chosen-false, write-kept, ◌≡◌, inl, ℕ, suc, ◌-◌, ◌<◌, ◌≤◌, ◌==◌, Bool, true, false, ◌||◌, List, [], ◌∷◌, ◌++◌, fold, map, slice_get, Option, Some, None, refl, sym, ◌∙◌, ap, subst, arith, eqb-true, eq-eqb, ne_eqb, if◌then◌else◌, ⊤, option_map, option_map_or, GLOBAL_NUMBER, InRange, AreFaultless, number_in, Unset, Word, Variable, Link, Cell, Free, Held, content_of, Placement, Placed, At, State, global_place, Program, all_data, all_globals, is_global, unset_cells, with_global, first_cells, start, IsHeld, is_usable, Sound, FirstStateIsSound, GlobalEntry, Stmt, Globals, or_right}
use Rattle.bk_ocode.proofs.SoundSteps.{global_usable, mapped}

-- ---- settings of globals that there are

abbrev AreLow : List GlobalSetting → Type 0
AreLow [] = ⊤
AreLow (x ∷ rest) = (x.global ≤ GLOBAL_NUMBER) × AreLow rest

AreLow-append : (a b : List GlobalSetting) → AreLow a → AreLow b → AreLow (a ++ b)
AreLow-append [] b p q = q
AreLow-append (x ∷ a) b p q = (p.0, AreLow-append a b p.1 q)

library_low : AreLow library_globals
library_low = (omega arith, (omega arith, (omega arith, (omega arith, (omega arith, (omega arith, (omega arith, (omega arith, (omega arith, (omega arith, tt))))))))))

entries_low : (places : Placement) (entries : List GlobalEntry) → ((k : ℕ) (e : GlobalEntry) → slice_get entries k ≡ Some e → e.number ≤ GLOBAL_NUMBER) → AreLow (map (entry_setting places) entries)
entries_low places [] are = tt
entries_low places (e ∷ entries) are = (are 0 e refl, entries_low places entries (λ k f at. are (suc k) f at))

stmt_low : (places : Placement) (s : Stmt) → InRange s → AreLow (stmt_globals places s)
stmt_low places (Globals entries) range = entries_low places entries (λ k e at. (range.in_range k e at).0)
stmt_low places s range = tt

globals_low : (places : Placement) (stmts : List Stmt) → ((k : ℕ) (s : Stmt) → slice_get stmts k ≡ Some s → InRange s) → AreLow (globals_of places stmts)
globals_low places [] are = tt
globals_low places (s ∷ rest) are = AreLow-append (stmt_globals places s) (globals_of places rest) (stmt_low places s (are 0 s refl)) (globals_low places rest (λ k t at. are (suc k) t at))

all_low : (sections : List Placed) → ((i : ℕ) (own : Placed) → slice_get sections i ≡ Some own → AreFaultless own.stmts) → AreLow (all_globals sections)
all_low [] are = tt
all_low (own ∷ others) are =
    AreLow-append (globals_of own.places own.stmts) (all_globals others) (globals_low own.places own.stmts (are 0 own refl).in_range) (all_low others (λ i o at. are (suc i) o at))

-- ---- words that are set

fold-kept : (cells : ℕ → Cell) (settings : List GlobalSetting) (place : ℕ) → AreLow settings → global_place GLOBAL_NUMBER < place → fold with_global cells settings place ≡ cells place
fold-kept cells [] place low above = refl
fold-kept cells (x ∷ rest) place low above =
    fold-kept (with_global cells x) rest place low.1 above ∙ write-kept cells (global_place x.global) (Held Variable (Word x.value)) place (λ same. absurd (omega (arith, same, low.0, above)))

is_in_data : (given : List Datum) (place w : ℕ) → datum_word given place ≡ Some w → is_datum place given ≡ true
is_in_data [] place w e = absurd (let h : None ≡ Some w = e in cc)
is_in_data (d ∷ rest) place w e = by_in (λ z. is_in_data rest place w z) (is_in place d) refl e
  where
    by_in : (datum_word rest place ≡ Some w → is_datum place rest ≡ true) → (b : Bool) → is_in place d ≡ b →
        (if b then slice_get d.words (place - d.place) else datum_word rest place) ≡ Some w → (is_in place d || is_datum place rest) ≡ true
    by_in go true is e = ap (λ b. b || is_datum place rest) is
    by_in go false is e = ap (λ b. b || is_datum place rest) is ∙ go e

module _ (program : Program) (first : ℕ) (above : global_place GLOBAL_NUMBER < first) where
  abbrev given : List Datum
  given = all_data program.sections

  abbrev base : ℕ → Cell
  base = unset_cells given first program.home

  base-first : base first ≡ Held Link (Word first)
  base-first = chosen-true (first == first) _ _ (eq-eqb first first refl)

  base-next : base (suc first) ≡ Held Link (Word program.home)
  base-next = chosen-false (suc first == first) _ _ (ne_eqb (suc first) first (λ same. absurd (omega (arith, same)))) ∙ chosen-true (suc first == suc first) _ _ (eq-eqb (suc first) (suc first) refl)

  base-low : (place : ℕ) → place < first → base place ≡ (if is_global place then Held Variable Unset else option_map_or (λ w. Held Variable (Word w)) (datum_word given place) Free)
  base-low place low =
      chosen-false (place == first) _ _ (ne_eqb place first (λ same. absurd (omega (arith, same, low))))
      ∙ chosen-false (place == suc first) _ _ (ne_eqb place (suc first) (λ same. absurd (omega (arith, same, low))))

  base-usable : (place : ℕ) → place < first → IsHeld (base place) → is_usable program place ≡ true
  base-usable place low held = by_global (is_global place) refl (subst IsHeld (base-low place low) held)
    where
      by_word : (o : Option ℕ) → datum_word given place ≡ o → IsHeld (option_map_or (λ w. Held Variable (Word w)) o Free) → is_usable program place ≡ true
      by_word (Some w) e h = or_right (is_global place) (is_datum place given) (is_in_data given place w e)
      by_word None e h = absurd h

      by_global : (b : Bool) → is_global place ≡ b → IsHeld (if b then Held Variable Unset else option_map_or (λ w. Held Variable (Word w)) (datum_word given place) Free) → is_usable program place ≡ true
      by_global true e h = ap (λ b. b || is_datum place given) e
      by_global false e h = by_word (datum_word given place) refl h

  fold-usable : (cells : ℕ → Cell) (settings : List GlobalSetting) (F : ℕ) → AreLow settings → ((place : ℕ) → place < first → IsHeld (cells place) → is_usable program place ≡ true) →
      (place : ℕ) → place < first → IsHeld (fold with_global cells settings place) → is_usable program place ≡ true
  fold-usable cells [] F low usable = usable
  fold-usable cells (x ∷ rest) F low usable = fold-usable (with_global cells x) rest F low.1 (λ place under held. by_same place under held (place == global_place x.global) refl)
    where
      by_same : (place : ℕ) → place < first → IsHeld (with_global cells x place) → (b : Bool) → (place == global_place x.global) ≡ b → is_usable program place ≡ true
      by_same place under held true e = subst (λ p. is_usable program p ≡ true) (sym (eqb-true place (global_place x.global) e)) (global_usable program first F x.global low.0)
      by_same place under held false e =
          usable place under (subst IsHeld (write-kept cells (global_place x.global) (Held Variable (Word x.value)) place (λ same. absurd (let z : true ≡ false = sym (eq-eqb place (global_place x.global) same) ∙ e in cc))) held)

pub first_state_is_sound : FirstStateIsSound
first_state_is_sound program first F input s is begins =
    let low : AreLow (library_globals ++ all_globals program.sections) = AreLow-append library_globals (all_globals program.sections) library_low (all_low program.sections is.accepted) in
    let base = unset_cells (all_data program.sections) first program.home in
    let state : ℕ → State = λ start. record { control = At start; cells = first_cells program first; frame = first; hand = None; input = input; output = []; written = [] } in
    let found = mapped state (number_in (content_of (first_cells program first (global_place 1)))) s begins in
    subst (Sound program first F) found.2 (record {
      from_first = omega arith;
      control = tt;
      active = inl (
        1,
        start
            (fold-kept base (library_globals ++ all_globals program.sections) first low is.above_globals ∙ base-first program first is.above_globals)
            (fold-kept base (library_globals ++ all_globals program.sections) (suc first) low (omega (arith, is.above_globals)) ∙ base-next program first is.above_globals),
      );
      held = fold-usable program first is.above_globals base (library_globals ++ all_globals program.sections) F low (base-usable program first is.above_globals);
      written = λ i place at. absurd (let h : None ≡ Some place = at in cc);
    })
