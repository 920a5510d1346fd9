-- The memory when a run begins: what is left of it, one further.
use Rattle.bk_lasting.proofs.Terms.{◌≡◌, ℕ, zero, suc, ◌+◌, ◌-◌, ◌<◌, List, [], ◌∷◌, ◌++◌, length, get_or, take, drop, map, replicate, refl, sym, ap, ap₂, ◌∙◌, append_assoc, add-one, arith, length_push, length-map, map-append, take_all, drop_all, append-nil, holds, number, unset, procedures_set, object_of, objects_from, library_cells, cell_in, Lasting, lasting_in}
use Rattle.bk_meaning.specs.Values as v
use Rattle.bk_meaning.specs.Memory.{Memory}
use Rattle.bk_meaning.specs.Lasting as m
use Rattle.bk_objects.specs.declared.worth.Cell.{Cell}
use Rattle.bk_objects.specs.declared.worth.Cell.TheVariants.{Holds}
use Rattle.bk_objects.specs.declared.worth.Worth.TheVariants.{Number, Unset}
use Rattle.bk_objects.specs.declared.worth.Origin.TheVariants.{Never}
use Rattle.bk_lasting.proofs.Bound.{one_further}

-- the procedures that are left, once the first of them has set its global
set_first : (n : ℕ) (x : m.Lasting) (xs : List m.Lasting) (cells : List v.Cell) → procedures_set (suc n) xs (procedures_set n (x ∷ []) cells) ≡ procedures_set n (x ∷ xs) cells
set_first n m.global_vector xs cells = refl
set_first n (m.words ws) xs cells = refl
set_first n (m.code p) xs cells = refl

pub procedures_next : (xs : List Lasting) (i : ℕ) (x : Lasting) (cells : List v.Cell) → i < length xs → x ≡ get_or xs i x
    → procedures_set (i + 1) (map lasting_in (drop (i + 1) xs)) (procedures_set i (lasting_in x ∷ []) cells) ≡ procedures_set i (map lasting_in (drop i xs)) cells
procedures_next xs i x cells lt is =
    ap (λ n. procedures_set n (map lasting_in (drop (i + 1) xs)) (procedures_set i (lasting_in x ∷ []) cells)) (add-one i)
    ∙ set_first i (lasting_in x) (map lasting_in (drop (i + 1) xs)) cells
    ∙ one_further (λ zs. procedures_set i (map lasting_in zs) cells) xs i x lt is

-- the cells of words, one more
pub words_next : (cells : List Cell) (ws : List ℕ) (i w : ℕ) → i < length ws → w ≡ get_or ws i w
    → map cell_in (cells ++ Holds (Number w) ∷ []) ++ map (λ w. holds (number w)) (drop (i + 1) ws) ≡ map cell_in cells ++ map (λ w. holds (number w)) (drop i ws)
words_next cells ws i w lt is =
    ap (λ xs. xs ++ map (λ w. holds (number w)) (drop (i + 1) ws)) (map-append cell_in cells (Holds (Number w) ∷ []))
    ∙ append_assoc (map cell_in cells) _ _
    ∙ one_further (λ zs. map cell_in cells ++ map (λ w. holds (number w)) zs) ws i w lt is

-- the objects that are left, once the first of them is made
pub objects_next : (program : m.Program) (store new : Memory) (xs : List Lasting) (i : ℕ) (x : Lasting) → i < length xs → x ≡ get_or xs i x
    → new ≡ store ++ object_of program (length store) (lasting_in x) ∷ []
    → new ++ objects_from program (length new) (map lasting_in (drop (i + 1) xs)) ≡ store ++ objects_from program (length store) (map lasting_in (drop i xs))
objects_next program store new xs i x lt is made =
    let count : length new ≡ suc (length store) = ap length made ∙ length_push store (object_of program (length store) (lasting_in x)) ∙ add-one (length store) in
    ap₂ (λ m n. m ++ objects_from program n (map lasting_in (drop (i + 1) xs))) made count
    ∙ append_assoc store _ _
    ∙ one_further (λ zs. store ++ objects_from program (length store) (map lasting_in zs)) xs i x lt is

-- the globals of the library, and so many after them that are unset
copies : (n : ℕ) (x : Cell) → map cell_in (replicate n x) ≡ replicate n (cell_in x)
copies zero x = refl
copies (suc n) x = ap (λ xs. cell_in x ∷ xs) (copies n x)

resized : (cells : List Cell) (n len count : ℕ) (x : Cell) → len ≡ length cells → n ≡ len + count
    → map cell_in (take n cells ++ replicate (n - len) x) ≡ map cell_in cells ++ replicate count (cell_in x)
resized cells n len count x is sum =
    let rest : n - len ≡ count = omega arith in
    map-append cell_in (take n cells) (replicate (n - len) x)
    ∙ ap₂ (λ xs k. map cell_in xs ++ map cell_in (replicate k x)) (take_all n cells (omega arith)) rest
    ∙ ap (λ xs. map cell_in cells ++ xs) (copies count x)

pub globals_unset : (cells : List Cell) (len : ℕ) → map cell_in cells ≡ library_cells → len ≡ length cells
    → map cell_in (take 1000 cells ++ replicate (1000 - len) (Holds (Unset Never))) ≡ library_cells ++ replicate 988 (holds unset)
globals_unset cells len library is =
    let twelve : length cells ≡ 12 = sym (length-map cells cell_in) ∙ ap length library in
    resized cells 1000 len 988 (Holds (Unset Never)) is (omega arith) ∙ ap (λ xs. xs ++ replicate 988 (holds unset)) library

-- all elements of a vector are replaced
pub written_whole : (new items : List Cell) (len : ℕ) → length new ≡ length items → len ≡ length items → take len (new ++ drop (length new) items) ≡ new
written_whole new items len same is =
    ap (λ xs. take len (new ++ xs)) (drop_all (length new) items (omega arith))
    ∙ ap (take len) (append-nil new)
    ∙ take_all len new (omega arith)
