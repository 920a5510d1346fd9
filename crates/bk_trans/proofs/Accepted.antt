-- The scheme's statements of a section without faults are an accepted section.
use Rattle.bk_trans.proofs.Words.{arith, ◌≡◌, ℕ, suc, ◌+◌, ◌≤◌, List, [], ◌∷◌, length, refl, ap, subst, OCODE_LABEL, OCODE_STATEMENTS, OCODE_WORDS, Declarations, Point, word, words_of, faults, reported_of, meanings, words, SoundSection, joined, Use, times_set, every_front, every_back, section_clean, section_sound, IsSection, text_size, Target, program_of, labels_of_declarations, Part, parts_of_declarations, target_of, named_tree, scheme, AreWords, SchemeIsAccepted}
use Rattle.bk_ocode.proofs.Lemmas.{typed_is_section}
use Rattle.bk_trans.specs.Program as p
use Rattle.bk_trans.proofs.Named.{filling_names}
use Rattle.bk_trans.proofs.Counted.{labels_are_few, labels_are_set_once, statements_are_few, words_are_few}
use Rattle.bk_trans.proofs.Marks.{Mark, AllRight, Right}
use Rattle.bk_trans.proofs.Sections.{part_marks, look, look_right, look_set, section_marked, section_typed}
use Rattle.bk_trans.proofs.Scopes.{AllFound, PartsRight, Found}
use Rattle.bk_trans.proofs.Nested.{AllQuiet, Quiet, section_good}
use Rattle.bk_trans.proofs.Numbered.{section_found}

-- each word that is told is one
all_quiet : (xs : List Point) → AreWords (words_of xs) → AllQuiet xs
all_quiet [] h = tt
all_quiet (word v ∷ xs) h = (h 0 v refl, all_quiet xs (λ k w at. h (suc k) w at))
all_quiet (_ ∷ xs) h = (tt, all_quiet xs h)

parts_right : (plan : ℕ → Use) (ts : List Target) (xs : List Part) → AllFound ts (joined target_of xs) → AllRight plan (joined part_marks xs) → PartsRight plan ts xs
parts_right plan ts [] h r = tt
parts_right plan ts (x ∷ xs) h r =
    ((every_front (Found ts) (target_of x) _ h, every_front (Right plan) (part_marks x) _ r), parts_right plan ts xs (every_back (Found ts) (target_of x) _ h) (every_back (Right plan) (part_marks x) _ r))

-- the named tree of a section
accepted : (ds : Declarations) → SoundSection ds → Quiet (reported_of ds) → 1 + labels_of_declarations (named_tree ds) ≤ OCODE_LABEL → length (scheme (named_tree ds)) ≤ OCODE_STATEMENTS
    → text_size (scheme (named_tree ds)) ≤ OCODE_WORDS → IsSection (scheme (named_tree ds))
accepted ds sound quiet few short small =
    let ps : List Part = parts_of_declarations 2 1 (named_tree ds) in
    let ts : List Target = joined target_of ps in
    let ms : List Mark = joined part_marks ps in
    let plan : ℕ → Use = look ms in
    let once : (l : ℕ) → times_set l (scheme (named_tree ds)) ≤ 1 = λ l. (labels_are_set_once (named_tree ds) l).0 in
    let right : AllRight plan ms = look_right ms (λ l. let h = once l in let i = section_marked l ps in omega (arith, h, i)) in
    let good = section_good plan ts ds sound quiet few (parts_right plan ts ps (section_found ds quiet) right) in
    typed_is_section plan (scheme (named_tree ds)) (section_typed plan ps good right short) once
    (λ l used. let h = look_set ms l used in let i = section_marked l ps in omega (arith, h, i)) short small

section_quiet : (ds : Declarations) → faults ds ≡ [] → AreWords (words ds) → Quiet (reported_of ds)
section_quiet ds none are = record { all = all_quiet (reported_of ds) are; claims = []; clean = section_clean ds none }

-- the targets of a section without faults are found by their numbers
pub targets_found : (ds : Declarations) → faults ds ≡ [] → AreWords (words ds) → AllFound (joined target_of (parts_of_declarations 2 1 (named_tree ds))) (joined target_of (parts_of_declarations 2 1 (named_tree ds)))
targets_found ds none are = section_found ds (section_quiet ds none are)

pub scheme_is_accepted : SchemeIsAccepted
scheme_is_accepted ds none within are =
    let same : program_of ds (meanings ds) (words ds) ≡ named_tree ds = ap (λ x. x.part) (filling_names ds none) in
    accepted ds (section_sound ds none) (section_quiet ds none are)
    (subst (λ (xs : p.Declarations). 1 + labels_of_declarations xs ≤ OCODE_LABEL) same (labels_are_few ds (meanings ds) (words ds) within))
    (subst (λ (xs : p.Declarations). length (scheme xs) ≤ OCODE_STATEMENTS) same (statements_are_few ds (meanings ds) (words ds) within))
    (subst (λ (xs : p.Declarations). text_size (scheme xs) ≤ OCODE_WORDS) same (words_are_few ds (meanings ds) (words ds) within))
