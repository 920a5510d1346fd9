-- Laws of the scheme, over the named tree of a section.
use Rattle.std.specs.Prelude.{ℕ, ◌+◌, ◌≡◌, ◌<◌, ◌≤◌, ◌^◌, Some, List, [], length, slice_get}
use Rattle.bk_base.specs.declared.limit.TheConstants.{OCODE_LABEL, OCODE_STATEMENTS, OCODE_WORDS}
use Rattle.bk_tree.specs.Tree.{Declarations}
use Rattle.bk_tree.specs.Limits.{Within}
use Rattle.bk_scope.specs.declared.bound.Bound.{Bound}
use Rattle.bk_scope.specs.Faults.{faults, meanings, words}
use Rattle.bk_ocode.specs.Section.{IsSection}
use Rattle.bk_ocode.specs.SectionData.{text_size}
use Rattle.bk_ocode.specs.Typing.{times_set}
use Rattle.bk_trans.specs.Program as p
use Rattle.bk_trans.specs.Naming.{named_tree}
use Rattle.bk_trans.specs.Filling.{filled, all_declared, program_of}
use Rattle.bk_trans.specs.Labels.{labels_of_declarations}
use Rattle.bk_trans.specs.Scheme.{scheme}

-- FILLING GIVES THE NAMED TREE: in a section without faults, where each name takes the next of the meanings and each constant the
-- next of the words, each has what it means in scope where it is, and none is left.
abbrev pub FillingNames : Type 0
FillingNames = (ds : Declarations) → faults ds ≡ [] → all_declared ds (record { meanings = meanings ds; words = words ds }) ≡ filled (named_tree ds) (record { meanings = []; words = [] })

-- THE LABELS OF A SECTION ARE FEW: a node takes four at most, so those of a section within the limits are within theirs.
abbrev pub LabelsAreFew : Type 0
LabelsAreFew = (ds : Declarations) (meanings : List Bound) (words : List ℕ) → Within ds → 1 + labels_of_declarations (program_of ds meanings words) ≤ OCODE_LABEL

-- THE STATEMENTS OF A SECTION ARE FEW: a node gives fifteen at most, so those of a section within the limits are within theirs.
abbrev pub StatementsAreFew : Type 0
StatementsAreFew = (ds : Declarations) (meanings : List Bound) (words : List ℕ) → Within ds → length (scheme (program_of ds meanings words)) ≤ OCODE_STATEMENTS

-- NO LABEL IS SET TWICE in the statements of a section, and those that are set are among its own, from 1 on.
abbrev pub LabelsAreSetOnce : Type 0
LabelsAreSetOnce = (ds : p.Declarations) (l : ℕ) → (times_set l (scheme ds) ≤ 1) × (1 ≤ times_set l (scheme ds) → (1 ≤ l) × (l ≤ labels_of_declarations ds))

-- THE WORDS OF A SECTION'S TEXT ARE FEW: a node gives 300 at most, so those of a section within the limits are within theirs.
abbrev pub WordsAreFew : Type 0
WordsAreFew = (ds : Declarations) (meanings : List Bound) (words : List ℕ) → Within ds → text_size (scheme (program_of ds meanings words)) ≤ OCODE_WORDS

-- constants are words, as their type has it
abbrev pub AreWords : List ℕ → Type 0
AreWords ws = (k w : ℕ) → slice_get ws k ≡ Some w → w < 2 ^ 32

-- THE SCHEME GIVES ACCEPTED SECTIONS: the statements of a section without faults that is within the limits keep the rules of OCODE.
abbrev pub SchemeIsAccepted : Type 0
SchemeIsAccepted = (ds : Declarations) → faults ds ≡ [] → Within ds → AreWords (words ds) → IsSection (scheme (named_tree ds))
