-- What lasts of all sections of a program, one behind the other.
use Rattle.bk_simulation.proofs.Forms.{Each, all_both, each_front, each_back, each_both, turns_declared, with_names, Setting, HeldOne, HeldList, Agree, home, Follow, FollowWords, Suits, Mean, AreBelow, AreSet, BaseOf, SetSame, true, length-append, ◌≡◌, ℕ, suc, ◌+◌, ◌<◌, ◌≤◌, List, [], ◌∷◌, ◌++◌, length, Some, refl, arith, slice_get, sym, FRAME_WORDS, Declarations, Placed, Program, IsWellPlaced, objects_of_declarations, of_declarations, of_sections, words, AreAccepted, Represent}
use Rattle.bk_simulation.proofs.LaidSections.{section_scene, SectionLies, section_lies}
use Rattle.bk_scope.specs.declared.bound.Bound.TheVariants as b

-- what lasts of the sections from k on
abbrev pub SectionsLie : ℕ → ℕ → ℕ → List Declarations → List Placed → Type 0
SectionsLie pay k i [] owns = Unit {0}
SectionsLie pay k i (ds ∷ rest) [] = ⊥
SectionsLie pay k i (ds ∷ rest) (own ∷ others) = SectionLies pay k own i ds × SectionsLie pay (suc k) (i + objects_of_declarations ds) rest others

-- what a step pays for all of them
abbrev pub weights : List Declarations → ℕ
weights [] = 0
weights (ds ∷ rest) = turns_declared true ds + weights rest

pub sections_lie : (pay k i : ℕ) (sections : List Declarations) (owns : List Placed) → AreAccepted sections → Represent sections owns → weights sections ≤ pay → SectionsLie pay k i sections owns
sections_lie pay k i [] owns ok st m = tt
sections_lie pay k i (ds ∷ rest) [] ok st m = absurd st
sections_lie pay k i (ds ∷ rest) (own ∷ others) ok st m = (section_lies k own ds pay i ok.0 st.0 (omega (arith, m)), sections_lie pay (suc k) (i + objects_of_declarations ds) rest others ok.1 st.1 (omega (arith, m)))

abbrev pub all_bases : (pay k i : ℕ) (sections : List Declarations) (owns : List Placed) → SectionsLie pay k i sections owns → List ℕ
all_bases pay k i (ds ∷ rest) (own ∷ others) h = h.0.is.bases ++ all_bases pay (suc k) (i + objects_of_declarations ds) rest others h.1
all_bases pay k i _ _ h = []

abbrev pub all_entries : (pay k i : ℕ) (sections : List Declarations) (owns : List Placed) → SectionsLie pay k i sections owns → List ℕ
all_entries pay k i (ds ∷ rest) (own ∷ others) h = h.0.is.entries ++ all_entries pay (suc k) (i + objects_of_declarations ds) rest others h.1
all_entries pay k i _ _ h = []

-- these are the sections of a program from section k on
abbrev pub AreIn : List Placed → ℕ → List Placed → Type 0
AreIn all k owns = Each (λ n own. slice_get all n ≡ Some own) k owns

-- there are as many bases as objects
pub all_counted : (pay k i : ℕ) (sections : List Declarations) (owns : List Placed) (h : SectionsLie pay k i sections owns) → length (all_bases pay k i sections owns h) ≡ length (of_sections i sections)
all_counted pay k i [] owns h = refl
all_counted pay k i (ds ∷ rest) [] h = absurd h
all_counted pay k i (ds ∷ rest) (own ∷ others) h =
    let n : ℕ = i + objects_of_declarations ds in
    let u = length-append h.0.is.bases (all_bases pay (suc k) n rest others h.1) in
    let v = length-append (of_declarations (with_names [] i) ds) (of_sections n rest) in
    omega (arith, h.0.is.all, h.0.is.count [], all_counted pay (suc k) n rest others h.1, u, v)

-- they lie below the first frame, and the words of procedures are set
pub all_placed : (program : Program) (first : ℕ) → IsWellPlaced program first FRAME_WORDS → (pay k i : ℕ) (sections : List Declarations) (owns : List Placed) (h : SectionsLie pay k i sections owns) → AreIn program.sections k owns
    → AreBelow first (all_bases pay k i sections owns h) × AreSet (all_entries pay k i sections owns h)
all_placed program first well pay k i [] owns h own = (tt, tt)
all_placed program first well pay k i (ds ∷ rest) [] h own = absurd h
all_placed program first well pay k i (ds ∷ rest) (own ∷ others) h is =
    let n : ℕ = i + objects_of_declarations ds in
    let one = h.0.is.placed program first well is.0 in
    let more = all_placed program first well pay (suc k) n rest others h.1 is.1 in
    (all_both (λ b. b ≤ first) h.0.is.bases (all_bases pay (suc k) n rest others h.1) one.0 more.0, all_both (λ w. 0 < w) h.0.is.entries (all_entries pay (suc k) n rest others h.1) one.1 more.1)

-- A setting that has all of them, from section k and object i on.
pub record HasAll (setting : Setting) (pay k i : ℕ) (sections : List Declarations) (owns : List Placed) (h : SectionsLie pay k i sections owns) : Type 0 where
  pub own : AreIn setting.program.sections k owns
  pub pays : pay ≤ setting.pay
  pub some : 0 < i
  pub follow : Follow setting.lasting i (all_bases pay k i sections owns h)
  pub words : FollowWords setting.codes.procedure i (all_entries pay k i sections owns h)

pub first_suits : (setting : Setting) (pay k i : ℕ) (ds : Declarations) (rest : List Declarations) (own : Placed) (others : List Placed) (h : SectionsLie pay k i (ds ∷ rest) (own ∷ others)) → HasAll setting pay k i (ds ∷ rest) (own ∷ others) h
    → Suits (home (section_scene k own ds) pay) i h.0.is.bases h.0.is.entries setting
first_suits setting pay k i ds rest own others h a = record {
  fits = record { own = a.own.0; pays = a.pays };
  some = a.some;
  follow = each_front (BaseOf setting.lasting) i h.0.is.bases (all_bases pay (suc k) (i + objects_of_declarations ds) rest others h.1) a.follow;
  words = each_front (λ n w. setting.codes.procedure n ≡ w) i h.0.is.entries (all_entries pay (suc k) (i + objects_of_declarations ds) rest others h.1) a.words;
}

pub others_suit : (setting : Setting) (pay k i : ℕ) (ds : Declarations) (rest : List Declarations) (own : Placed) (others : List Placed) (h : SectionsLie pay k i (ds ∷ rest) (own ∷ others)) → HasAll setting pay k i (ds ∷ rest) (own ∷ others) h
    → HasAll setting pay (suc k) (i + objects_of_declarations ds) rest others h.1
others_suit setting pay k i ds rest own others h a =
    let n : ℕ = i + objects_of_declarations ds in
    record {
      own = a.own.1;
      pays = a.pays;
      some = omega (arith, a.some);
      follow = each_back (BaseOf setting.lasting) i (objects_of_declarations ds) h.0.is.bases (all_bases pay (suc k) n rest others h.1) h.0.is.all a.follow;
      words = each_back (λ n w. setting.codes.procedure n ≡ w) i (objects_of_declarations ds) h.0.is.entries (all_entries pay (suc k) n rest others h.1) h.0.is.all_entries a.words;
    }

-- a section begins with no name declared
pub no_names : Agree [] []
no_names = ((λ x. refl), (λ x. refl))

pub none_mean : (setting : Setting) (k : ℕ) (own : Placed) (ds : Declarations) (pay : ℕ) → Mean (home (section_scene k own ds) pay) setting []
none_mean setting k own ds pay q bases frame grown = record { each = λ x. tt }

-- WHAT LASTS OF ALL SECTIONS is held
pub all_held : (setting : Setting) (pay k i : ℕ) (sections : List Declarations) (owns : List Placed) (h : SectionsLie pay k i sections owns) → HasAll setting pay k i sections owns h → HeldList setting i (of_sections i sections)
all_held setting pay k i [] owns h a = tt
all_held setting pay k i (ds ∷ rest) [] h a = absurd h
all_held setting pay k i (ds ∷ rest) (own ∷ others) h a =
    let n : ℕ = i + objects_of_declarations ds in
    each_both (HeldOne setting) i (objects_of_declarations ds) (of_declarations (with_names [] i) ds) (of_sections n rest) (h.0.is.count [])
    (h.0.is.held setting (first_suits setting pay k i ds rest own others h a) [] no_names (none_mean setting k own ds pay))
    (all_held setting pay (suc k) n rest others h.1 (others_suit setting pay k i ds rest own others h a))

-- ---- The globals that sections set are those that their procedures set in the meaning.

-- EACH SECTION SETS what its procedures set
pub sections_set : (setting : Setting) (pay k i : ℕ) (sections : List Declarations) (owns : List Placed) (h : SectionsLie pay k i sections owns) → HasAll setting pay k i sections owns h → Represent sections owns → SetSame setting.codes i sections owns
sections_set setting pay k i [] [] h a st = tt
sections_set setting pay k i (ds ∷ rest) (own ∷ others) h a st = (
  record {
    same = sym (h.0.is.sets setting (first_suits setting pay k i ds rest own others h a) [] no_names (none_mean setting k own ds pay));
    many = h.0.is.count [];
  },
  sections_set setting pay (suc k) (i + objects_of_declarations ds) rest others h.1 (others_suit setting pay k i ds rest own others h a) st.1,
)
sections_set g pay k i _ _ h a st = absurd st
