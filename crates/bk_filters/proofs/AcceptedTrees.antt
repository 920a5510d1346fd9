-- The trees of a source are accepted sections: without faults, within the limits, regular, and with constants that are words.
use Rattle.bk_filters.proofs.Terms.{ℕ, suc, List, [], ◌∷◌, ◌++◌, refl, sym, subst, append_assoc, Symbol, Section, Declarations, AreBytes, IsTree, Means, Accepted, WholeSection, bytes_of, trees_of, AreAccepted, HasTrees}
use Rattle.bk_simulation.specs.Placement as placement
use Rattle.bk_filters.proofs.SmallSymbols.{Bytes, bytes_back, AreSmall, symbols_small}
use Rattle.bk_filters.proofs.RegularTrees.{tree_regular}
use Rattle.bk_filters.proofs.SmallWords.{regular_words}

-- a tree of symbols
tree_accepted : (tree : Declarations) (symbols : List Symbol) → AreSmall symbols → IsTree tree symbols → placement.IsAccepted tree
tree_accepted tree symbols small is =
    let regular = tree_regular tree symbols small is.section in
    record { faultless = is.faultless; within = is.within; are_words = regular_words tree regular.0; regular = regular }

means_accepted : (symbols : List Symbol) (trees : List Declarations) → AreSmall symbols → Means symbols trees → placement.AreAccepted trees
means_accepted [] trees small means = subst placement.AreAccepted (sym means) tt
means_accepted (symbol ∷ symbols) trees small means = subst placement.AreAccepted (sym means.2) (tree_accepted means.0 (symbol ∷ symbols) small means.1, tt)

-- of the first section of a text
section_accepted : (text : List ℕ) (line : ℕ) (tokens : Section) (trees : List Declarations) → Bytes text → Accepted text line tokens trees → placement.AreAccepted trees
section_accepted text line tokens trees bytes accepted = means_accepted tokens.symbols trees (symbols_small text line tokens bytes accepted.tokens) accepted.means

both_accepted : (first second : List Declarations) → placement.AreAccepted first → placement.AreAccepted second → placement.AreAccepted (first ++ second)
both_accepted [] second are also = also
both_accepted (tree ∷ first) second are also = (are.0, both_accepted first second are.1 also)

sections_accepted : (line : ℕ) (sections : List WholeSection) (rest : List ℕ) → Bytes (bytes_of sections ++ rest) → AreAccepted line sections rest → placement.AreAccepted (trees_of sections)
sections_accepted line [] rest bytes are = tt
sections_accepted line (section ∷ sections) rest bytes are =
    let whole : Bytes (section.bytes ++ (bytes_of sections ++ rest)) = subst Bytes (append_assoc section.bytes (bytes_of sections) rest) bytes in
    both_accepted section.trees (trees_of sections) (section_accepted (section.bytes ++ (bytes_of sections ++ rest)) line section.tokens section.trees whole are.0)
    (sections_accepted section.tokens.line sections rest (bytes_back section.bytes (bytes_of sections ++ rest) whole) are.3)

each_byte : (source : List ℕ) → AreBytes source → Bytes source
each_byte [] are = tt
each_byte (byte ∷ source) are = (are 0 byte refl, each_byte source (λ at other is. are (suc at) other is))

pub trees_are_accepted : (source : List ℕ) (trees : List Declarations) → HasTrees source trees → placement.AreAccepted trees
trees_are_accepted source trees has =
    let bytes : Bytes (bytes_of has.sections ++ has.part) = subst Bytes has.whole (each_byte source has.bytes) in
    let first = sections_accepted 1 has.sections has.part bytes has.accepted in
    let second = section_accepted has.part _ has.last has.last_trees (bytes_back (bytes_of has.sections) has.part bytes) has.accepts in
    subst placement.AreAccepted (sym has.all) (both_accepted (trees_of has.sections) has.last_trees first second)
