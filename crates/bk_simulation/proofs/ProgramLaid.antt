-- A program whose sections stand for accepted ones is laid.
use Rattle.bk_simulation.proofs.Forms.{all_at, each_at, one_more, each_itself, Codes, BaseOf, one_base, Setting, HeldWord, HeldOne, HeldList, IsProcedure, library_word, IsSized, HoldsEntry, HoldsOne, InData, all_set_same, FollowWords, AreBelow, AreSet, ◌≡◌, ℕ, zero, suc, ◌+◌, ◌<◌, ◌≤◌, ◌^◌, List, [], ◌∷◌, ◌++◌, length, Option, Some, None, refl, sym, ap, subst, arith, slice_get, append_assoc, FRAME_WORDS, Declarations, Placed, Program, AreFaultless, IsWellPlaced, scheme_is_accepted, stop, Lasting, Procedure, global_vector, words, code, of_sections, program_of, procedure_of, procedure_in, AreAccepted, Represent}
use Rattle.bk_meaning.specs.Values as value
use Rattle.bk_simulation.proofs.LaidPrograms.{setting, AreLaid}
use Rattle.bk_simulation.proofs.SectionsLie.{SectionsLie, weights, sections_lie, all_bases, all_entries, all_counted, all_placed, HasAll, all_held, sections_set}

-- ---- words of procedures by their numbers; other numbers have a word too

abbrev pub word_in : List ℕ → ℕ → ℕ
word_in [] n = 1
word_in (w ∷ ws) zero = w
word_in (w ∷ ws) (suc n) = word_in ws n

pub word_set : (ws : List ℕ) → AreSet ws → (n : ℕ) → word_in ws n ≡ 0 → ⊥
word_set [] s n e = absurd (omega (arith, e))
word_set (w ∷ ws) s zero e = let h = s.0 in absurd (omega (arith, h, e))
word_set (w ∷ ws) s (suc n) e = word_set ws s.1 n e

pub library_set : (r : value.Routine) → library_word r ≡ 0 → ⊥
library_set stop e = absurd (omega (arith, e))
library_set _ e = absurd (omega (arith, e))

abbrev pub codes_of : (ws : List ℕ) → AreSet ws → Codes
codes_of ws s = record { procedure = word_in ws; routine = library_word; procedure_set = word_set ws s; routine_set = library_set }

-- ---- lists that follow themselves

word_front : (front ws : List ℕ) (w : ℕ) → word_in (front ++ (w ∷ ws)) (length front) ≡ w
word_front [] ws w = refl
word_front (x ∷ front) ws w = word_front front ws w

words_self : (front ws : List ℕ) → FollowWords (word_in (front ++ ws)) (length front) ws
words_self front [] = tt
words_self front (w ∷ ws) = (
  word_front front ws w,
  subst (λ all. FollowWords (word_in all) (suc (length front)) ws) (append_assoc front (w ∷ []) ws)
      (subst (λ n. FollowWords (word_in ((front ++ (w ∷ [])) ++ ws)) n ws) (one_more front w) (words_self (front ++ (w ∷ [])) ws)),
)

-- ---- what is held

entry_holds : (setting : Setting) (global : Option ℕ) (o b : ℕ) → BaseOf setting.lasting o b → HeldWord setting o global → HoldsEntry setting.program setting.first setting.codes global o b
entry_holds setting None o b base h = subst (λ y. InData setting.program y (setting.codes.procedure o ∷ [])) (one_base setting.lasting o h.0 b h.1 base) h.2
entry_holds setting (Some k) o b base h = let e = one_base setting.lasting o h.0 b h.1 base in (subst (λ y. 16 ≤ y) e h.2, subst (λ y. y ≤ setting.first) e h.3)

held_holds : (setting : Setting) (o b : ℕ) (x : Lasting) → BaseOf setting.lasting o b → HeldOne setting o x → HoldsOne setting.program setting.first setting.codes x o b
held_holds setting o b global_vector base h = absurd h
held_holds setting o b (words ws) base h = subst (λ y. InData setting.program y ws) (one_base setting.lasting o h.0 b h.1 base) h.2
held_holds setting o b (code f) base h = entry_holds setting f.global o b base h.1

-- ---- the program

sections_faultless : (sections : List Declarations) (owns : List Placed) → AreAccepted sections → Represent sections owns → (i : ℕ) (own : Placed) → slice_get owns i ≡ Some own → AreFaultless own.stmts
sections_faultless [] [] ok st i own e = absurd (cc)
sections_faultless (ds ∷ rest) (x ∷ xs) ok st zero own e =
    let same : x ≡ own = (let k : Some x ≡ Some own = e in cc) in
    subst (λ (y : Placed). AreFaultless y.stmts) same (subst AreFaultless (sym st.0) (scheme_is_accepted ds ok.0.faultless ok.0.within ok.0.are_words).are_faultless)
sections_faultless (ds ∷ rest) (x ∷ xs) ok st (suc i) own e = sections_faultless rest xs ok.1 st.1 i own e
sections_faultless _ _ ok st i own e = absurd st

-- The sections of a program, with what lasts of them.
pub record Together (program : Program) (first : ℕ) (sections : List Declarations) : Type 0 where
  pub well : IsWellPlaced program first FRAME_WORDS
  pub accepted : AreAccepted sections
  pub stand : Represent sections program.sections

abbrev pub pay_of : List Declarations → ℕ
pay_of sections = weights sections

pub lie_together : (program : Program) (first : ℕ) (sections : List Declarations) → Together program first sections → SectionsLie (pay_of sections) 0 1 sections program.sections
lie_together program first sections t = sections_lie (pay_of sections) 0 1 sections program.sections t.accepted t.stand (omega arith)

abbrev pub own_bases : (program : Program) (first : ℕ) (sections : List Declarations) → Together program first sections → List ℕ
own_bases program first sections t = all_bases (pay_of sections) 0 1 sections program.sections (lie_together program first sections t)

abbrev pub own_entries : (program : Program) (first : ℕ) (sections : List Declarations) → Together program first sections → List ℕ
own_entries program first sections t = all_entries (pay_of sections) 0 1 sections program.sections (lie_together program first sections t)

pub placed_together : (program : Program) (first : ℕ) (sections : List Declarations) (t : Together program first sections) → AreBelow first (own_bases program first sections t) × AreSet (own_entries program first sections t)
placed_together program first sections t = all_placed program first t.well (pay_of sections) 0 1 sections program.sections (lie_together program first sections t) (each_itself [] program.sections)

-- the bases of all objects, and the words of all procedures
abbrev pub lasting_of : (program : Program) (first : ℕ) (sections : List Declarations) → Together program first sections → List ℕ
lasting_of program first sections t = 16 ∷ own_bases program first sections t

pub entries_set : (program : Program) (first : ℕ) (sections : List Declarations) (t : Together program first sections) → AreSet (1 ∷ own_entries program first sections t)
entries_set program first sections t = (omega arith, (placed_together program first sections t).1)

abbrev pub codes_together : (program : Program) (first : ℕ) (sections : List Declarations) → Together program first sections → Codes
codes_together program first sections t = codes_of (1 ∷ own_entries program first sections t) (entries_set program first sections t)

pub lasting_small : (program : Program) (first : ℕ) (sections : List Declarations) (t : Together program first sections) (o base : ℕ) → BaseOf (lasting_of program first sections t) o base → base < 2 ^ 32
lasting_small program first sections t zero base e = let same : 16 ≡ base = (let k : Some 16 ≡ Some base = e in cc) in omega (arith, same)
lasting_small program first sections t (suc o) base e = grind (arith, all_at, placed_together)

-- the setting of the whole proof, with so many frames
abbrev pub setting_together : (program : Program) (first : ℕ) (sections : List Declarations) → Together program first sections → ℕ → Setting
setting_together program first sections t most =
    setting program first t.well (codes_together program first sections t) (pay_of sections) most (lasting_of program first sections t) (lasting_small program first sections t) refl

pub has_all : (program : Program) (first : ℕ) (sections : List Declarations) (t : Together program first sections) (most : ℕ)
    → HasAll (setting_together program first sections t most) (pay_of sections) 0 1 sections program.sections (lie_together program first sections t)
has_all program first sections t most = record {
  own = each_itself [] program.sections;
  pays = omega arith;
  some = omega arith;
  follow = each_itself (16 ∷ []) (own_bases program first sections t);
  words = words_self (1 ∷ []) (own_entries program first sections t);
}

-- two objects with words have different bases
abbrev pub LieApart : (program : Program) (first : ℕ) (sections : List Declarations) → Together program first sections → Type 0
LieApart program first sections t =
    (o o1 b : ℕ) → BaseOf (lasting_of program first sections t) o b → BaseOf (lasting_of program first sections t) o1 b → IsSized (program_of sections) o → IsSized (program_of sections) o1 → o ≡ o1

held_together : (program : Program) (first : ℕ) (sections : List Declarations) (t : Together program first sections) (most : ℕ) → HeldList (setting_together program first sections t most) 1 (of_sections 1 sections)
held_together program first sections t most =
    all_held (setting_together program first sections t most) (pay_of sections) 0 1 sections program.sections (lie_together program first sections t) (has_all program first sections t most)

holds_each : (program : Program) (first : ℕ) (sections : List Declarations) (t : Together program first sections) (o b : ℕ) (x : Lasting) → slice_get (program_of sections) o ≡ Some x → BaseOf (lasting_of program first sections t) o b
    → HoldsOne program first (codes_together program first sections t) x o b
holds_each program first sections t zero b x e base = grind arith
holds_each program first sections t (suc o) b x e base = grind (arith, held_holds, each_at, (held_together program first sections t 0))

procedure_here : (x : Option Lasting) (f : Procedure) → procedure_in x ≡ Some f → x ≡ Some (code f)
procedure_here (Some (code p)) f e = ap (λ y. Some (code y)) (let k : Some p ≡ Some f = e in cc)
procedure_here _ f e = absurd (cc)

procedures_together : (program : Program) (first : ℕ) (sections : List Declarations) (t : Together program first sections) (most n : ℕ) (f : Procedure) → procedure_of (program_of sections) n ≡ Some f
    → IsProcedure (setting_together program first sections t most) n f
procedures_together program first sections t most zero f e = absurd (cc)
procedures_together program first sections t most (suc n) f e = grind (arith, each_at, (code f), (held_together program first sections t most), (procedure_here (slice_get (of_sections 1 sections) n) f e))

-- A PROGRAM IS LAID whose sections stand for accepted ones
pub laid_together : (program : Program) (first : ℕ) (sections : List Declarations) (t : Together program first sections) → LieApart program first sections t → AreLaid program first t.well sections
laid_together program first sections t apart =
    let g = setting_together program first sections t 0 in
    record {
      codes = codes_together program first sections t;
      lasting = lasting_of program first sections t;
      low = lasting_small program first sections t;
      pay = pay_of sections;
      library = λ r. refl;
      holds = record {
        long = ap suc (all_counted (pay_of sections) 0 1 sections program.sections (lie_together program first sections t));
        each = holds_each program first sections t;
        globals = all_set_same (codes_together program first sections t) 1 sections program.sections t.stand (sections_faultless sections program.sections t.accepted t.stand)
            (sections_set g (pay_of sections) 0 1 sections program.sections (lie_together program first sections t) (has_all program first sections t 0) t.stand);
        apart = apart;
      };
      vector = refl;
      procedures = λ most. record { each = procedures_together program first sections t most };
    }
