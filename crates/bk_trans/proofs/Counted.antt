-- A section has few statements, few labels and few words of text, and sets each label at most once. A statement costs 30, each byte of its string or name 1, and each of its cases and
-- globals 2; a node costs 450 at most, in its own code, in what is by itself after it, and in the list of the SWITCHON that a CASE belongs to.
use Rattle.bk_trans.proofs.Words.{arith, ◌≡◌, ◌≤◌, ℕ, ◌+◌, ◌*◌, Bool, true, false, not, cond, List, [], ◌∷◌, ◌++◌, length, map, int_lt, pos, Some, refl, ap, length-append, signed, Operator, Prefix, Bound, joined, Case, GlobalEntry, Stmt, times_set, total, total_both}
use Rattle.bk_tree.specs.Tree as tree
use Rattle.bk_trans.proofs.Terms.{Operator as o, Prefix as q, Simple as w, Bound as b, text_size, Stmt as t, Dyadic as two, Around, Target, Term, Terms, Condition, Lvalue, Lvalues, NamedCommand, NamedCommands, Declaration, Declarations, Definition, Definitions, Starts, StaticItem, program_of, labels, labels_each, labels_if, labels_at, labels_onto, labels_in, labels_through, labels_of_procedure, labels_of_declaration, labels_of_declarations, labels_of_definition, labels_of_definitions, labels_of_starts, count, after_declaration, after_declarations, after_definition, has_variables, Part, parts_of_items, parts, parts_each, parts_if, parts_at, parts_onto, parts_from, parts_in, parts_through, target_of, parts_of_declarations, parts_of_declaration, parts_of_definitions, parts_of_definition, parts_of_starts, prefix_code, infix_code, by_turns, value_code, each_code, jump_code, address_code, store_code, value_codes, store_codes, command_code, through_code, declarations_code, declaration_code, definitions_code, definition_code, starts_code, procedure_code, word_code, data_code, scheme, outermost, valued, looping, switching, push, truth_value, cases, cases_through, entry_of, entries_of, test_of_step, nodes_of_declarations, StatementsAreFew, LabelsAreFew, WordsAreFew, LabelsAreSetOnce}
use Rattle.bk_ocode.specs.StmtText.{stmt_words, byte_words, case_words, global_words}
use Rattle.bk_trans.specs.Program as p
use Rattle.bk_trans.proofs.Steps.{short_bytes}
use Rattle.bk_trans.proofs.Once.{past, own, no_more, parts_set, set_both, push_none, truth_none, chosen_none, store_none, prefix_none, infix_none, words_none, statics_own, word_own}
use Rattle.bk_trans.proofs.TreeNodes.{nodes, nodes_of_each, nodes_if, nodes_at, nodes_onto, nodes_in, nodes_through, nodes_declared, nodes_of_one, nodes_defined}
use Rattle.bk_trans.proofs.TreeNodes.{nodes_of_definition, nodes_started, kept_declared}

abbrev cost : Stmt → ℕ
cost (t.Text xs) = 30 + length xs
cost (t.Entry n xs) = 30 + length xs
cost (t.Switch l cs) = 30 + 2 * length cs
cost (t.Globals es) = 30 + 2 * length es
cost _ = 30

abbrev costs : List Stmt → ℕ
costs xs = total cost xs

-- what is by itself
abbrev apart : List Target → List Part → ℕ
apart ts ps = total (λ x. costs (procedure_code ts x) + costs (data_code x) + 2 * length (entries_of x)) ps

-- ---- the cost of statements is above their number and their words

bytes_long : (xs : List ℕ) → length (byte_words xs) ≡ length xs
bytes_long [] = refl
bytes_long (x ∷ xs) = let h = bytes_long xs in omega (arith, h)

cases_long : (cs : List Case) → length (case_words cs) ≡ 2 * length cs
cases_long [] = refl
cases_long (c ∷ cs) = let h = cases_long cs in omega (arith, h)

globals_long : (es : List GlobalEntry) → length (global_words es) ≡ 2 * length es
globals_long [] = refl
globals_long (e ∷ es) = let h = globals_long es in omega (arith, h)

one_cost : (x : Stmt) → (30 ≤ cost x) × (length (stmt_words x) ≤ cost x)
one_cost (t.Text xs) = (omega arith, (let h = bytes_long xs in omega (arith, h)))
one_cost (t.Entry n xs) = (omega arith, (let h = bytes_long xs in omega (arith, h)))
one_cost (t.Switch l cs) = (omega arith, (let h = cases_long cs in omega (arith, h)))
one_cost (t.Globals es) = (omega arith, (let h = globals_long es in omega (arith, h)))
one_cost _ = (omega arith, omega arith)

all_cost : (xs : List Stmt) → (30 * length xs ≤ costs xs) × (text_size xs ≤ costs xs)
all_cost [] = (omega arith, omega arith)
all_cost (x ∷ xs) =
    let h = all_cost xs in let i = one_cost x in
    let n = h.0 in let m = h.1 in let a = i.0 in let c = i.1 in (omega (arith, n, a), omega (arith, m, c))

-- ---- the cost of pieces of code

turns_least : (f : List Stmt → ℕ) → ((xs ys : List Stmt) → f (xs ++ ys) ≡ f xs + f ys) → f [] ≡ 0 → (xs ys : List (List Stmt)) → f (by_turns xs ys) ≤ total f xs + total f ys
turns_least f both none (x ∷ xs) (y ∷ ys) = omega (arith, turns_least f both none xs ys, both x y, both (x ++ y) (by_turns xs ys))
turns_least f both none _ _ = omega (arith, none)

prefix_cost : (f : Prefix) → costs (prefix_code f) ≤ 30
prefix_cost q.Plus = omega arith
prefix_cost _ = omega arith

infix_cost : (f : Operator) → costs (infix_code f) ≤ 60
infix_cost o.Subscript = omega arith
infix_cost _ = omega arith

-- of the STORE of a LET with variables
abbrev store_cost : Definitions → ℕ
store_cost ds = costs (cond (has_variables ds) (t.Store ∷ []) [])

store_more : (d : Definition) (ds : Definitions) → store_cost (p.define d ds) ≤ store_cost (p.define d p.no_definitions) + store_cost ds
store_more (p.variables is) ds = omega arith
store_more _ ds = omega arith

word_cost : (n : ℕ) (x : Bound) → costs (word_code n x) ≤ 60
word_cost n (b.Static m) = omega arith
word_cost n _ = omega arith

table_cost : (ws : List ℕ) → costs (map (λ v. t.DataNumber (signed v)) ws) ≡ 30 * length ws
table_cost [] = refl
table_cost (v ∷ ws) = let h = table_cost ws in omega (arith, h)

push_cost : (ts : List Target) (x : Bound) → cost (push ts x) ≡ 30
push_cost ts (b.Constant (Some v)) = refl
push_cost ts _ = refl

truth_cost : (x : Bool) → cost (truth_value x) ≡ 30
truth_cost true = refl
truth_cost false = refl

test_cost : (k : ℕ) → cost (test_of_step k) ≡ 30
test_cost k = of (int_lt (signed k) (pos 0))
  where
    of : (x : Bool) → cost (cond x (t.Dyadic two.AtLeast) (t.Dyadic two.AtMost)) ≡ 30
    of true = refl
    of false = refl

labels_two : (x : Bound) → labels_of_procedure x ≤ 2
labels_two (b.Static n) = omega arith
labels_two _ = omega arith

pub entry_few : (n : ℕ) (x : Bound) → length (entry_of n x) ≤ 1
entry_few n (b.Global (Some g)) = omega arith
entry_few n _ = omega arith

-- ---- the cost of each form

statics_cost : (ts : List Target) (n : ℕ) (is : List StaticItem) → apart ts (parts_of_items n is) ≤ 450 * length is
statics_cost ts n [] = omega arith
statics_cost ts n (k ∷ is) = let h = statics_cost ts (n + 1) is in omega (arith, h)

-- What is measured: the costs, which are 450 a node at most; how often label l is set, which is once at most; and the labels alone, which are
-- four a node at most. Counted are the statements of a node, what stands by itself in it, the list of the SWITCHON that a CASE belongs to, and
-- what is left for the labels from n on.
data Measure : Type 0 where
  costing : Measure
  setting : Measure
  numbering : Measure

abbrev weigh : Measure → ℕ → List Stmt → ℕ
weigh costing l xs = costs xs
weigh setting l xs = times_set l xs
weigh numbering l xs = 0 * costs xs

abbrev weigh_all : Measure → ℕ → List (List Stmt) → ℕ
weigh_all costing l xs = total costs xs
weigh_all setting l xs = total (times_set l) xs
weigh_all numbering l xs = 0 * total costs xs

abbrev weigh_apart : Measure → ℕ → List Target → List Part → ℕ
weigh_apart costing l ts ps = apart ts ps
weigh_apart setting l ts ps = parts_set l ts ps
weigh_apart numbering l ts ps = 0 * apart ts ps

abbrev weigh_cases : Measure → List Case → ℕ
weigh_cases costing cs = 2 * length cs
weigh_cases _ cs = 0

-- the STORE of a LET, and a statement behind a value
abbrev weigh_store : Measure → Definitions → ℕ
weigh_store costing ds = store_cost ds
weigh_store _ ds = 0

abbrev following : Measure → ℕ
following costing = 30
following _ = 0

abbrev left : Measure → ℕ → ℕ → ℕ
left costing l n = 0
left setting l n = past l n
left numbering l n = n

abbrev most : Measure → ℕ → ℕ
most costing k = 450 * k
most setting k = 0
most numbering k = 4 * k

ruleset sums = (set_both, total_both, length-append)

module _ (l : ℕ) (ts : List Target) where
  mutual
    value : (m : Measure) (s n : ℕ) (e : Term)
        → weigh m l (value_code ts s n e) + weigh_apart m l ts (parts s n e) + left m l (n + labels e) + following m ≤ left m l n + most m (nodes e)
    value costing s n (p.text xs) = omega (arith, short_bytes xs)
    value m s n (p.named x) = omega (arith, push_cost ts x, push_none l ts x)
    value m s n (p.truth x) = omega (arith, truth_cost x, truth_none l x)
    value m s n (p.parens e) = value m s n e
    value m s n (p.unary f e) = simp sums (omega (arith, value m s n e, prefix_cost f, prefix_none l f))
    value m s n (p.address x) = omega (arith, address m s n x)
    value m s n (p.binary f x y) = simp sums (omega (arith, value m s n x, value m (s + 1) (n + labels x) y, infix_cost f, infix_none l f))
    value m s n (p.choice c x y) =
        simp sums (omega (arith, jump m s (n + 2) c false n, value m s (n + 2 + labels_if c) x, value m s (n + 2 + labels_if c + labels x) y, own l n, own l (n + 1)))
    value m s n (p.apply e es) = simp sums (omega (arith, value m (s + 2 + count es) n e, each m (s + 2) (n + labels e) es))
    value m s n (p.valof c) = simp sums (omega (arith, command m (valued n) s (n + 1) c, own l n))
    value m s n (p.table ws) = omega (arith, table_cost ws, words_none l ws, own l n)
    value m s n _ = omega arith

    each : (m : Measure) (s n : ℕ) (es : Terms)
        → weigh m l (each_code ts s n es) + weigh_apart m l ts (parts_each s n es) + left m l (n + labels_each es) ≤ left m l n + most m (nodes_of_each es)
    each costing s n p.none = omega arith
    each m s n (p.more e es) = simp sums (omega (arith, value m s n e, each m (s + 1) (n + labels e) es))
    each m s n _ = omega arith

    jump : (m : Measure) (s n : ℕ) (c : Condition) (x : Bool) (k : ℕ)
        → weigh m l (jump_code ts s n c x k) + weigh_apart m l ts (parts_if s n c) + left m l (n + labels_if c) ≤ left m l n + most m (nodes_if c)
    jump costing s n (p.holds e) x k = simp sums (omega (arith, value costing s n e))
    jump m s n (p.holds e) x k = simp sums (omega (arith, value m s n e))
    jump m s n (p.within c) x k = jump m s n c x k
    jump m s n (p.fails c) x k = jump m s n c (not x) k
    jump costing s n (p.both c d) false k = simp sums (omega (arith, jump costing s (n + 1) c false k, jump costing s (n + 1 + labels_if c) d false k, own l n))
    jump m s n (p.both c d) false k = simp sums (omega (arith, jump m s (n + 1) c false k, jump m s (n + 1 + labels_if c) d false k, own l n))
    jump m s n (p.both c d) x k = simp sums (omega (arith, jump m s (n + 1) c false n, jump m s (n + 1 + labels_if c) d x k, own l n))
    jump costing s n (p.either c d) true k = simp sums (omega (arith, jump costing s (n + 1) c true k, jump costing s (n + 1 + labels_if c) d true k, own l n))
    jump m s n (p.either c d) true k = simp sums (omega (arith, jump m s (n + 1) c true k, jump m s (n + 1 + labels_if c) d true k, own l n))
    jump m s n (p.either c d) x k = simp sums (omega (arith, jump m s (n + 1) c true n, jump m s (n + 1 + labels_if c) d x k, own l n))

    address : (m : Measure) (s n : ℕ) (x : Lvalue)
        → weigh m l (address_code ts s n x) + weigh_apart m l ts (parts_at s n x) + left m l (n + labels_at x) ≤ left m l n + most m (nodes_at x)
    address costing s n (p.inside x) = address costing s n x
    address m s n (p.contents e) = omega (arith, value m s n e)
    address m s n (p.subscript x y) = simp sums (omega (arith, value m s n x, value m (s + 1) (n + labels x) y))
    address m s n (p.byte x y) = simp sums (omega (arith, value m s n x, value m (s + 1) (n + labels x) y))
    address m s n (p.inside x) = address m s n x
    address m s n _ = omega arith

    store_at : (m : Measure) (s n : ℕ) (x : Lvalue)
        → weigh m l (store_code ts s n x) + weigh_apart m l ts (parts_at s n x) + left m l (n + labels_at x) ≤ left m l n + most m (nodes_at x)
    store_at costing s n (p.inside x) = store_at costing s n x
    store_at m s n (p.contents e) = simp sums (omega (arith, value m s n e))
    store_at m s n (p.subscript x y) = simp sums (omega (arith, value m s n x, value m (s + 1) (n + labels x) y))
    store_at m s n (p.byte x y) = simp sums (omega (arith, value m s n x, value m (s + 1) (n + labels x) y))
    store_at m s n (p.inside x) = store_at m s n x
    store_at m s n _ = omega arith

    stores : (m : Measure) (s n : ℕ) (xs : Lvalues)
        → weigh_all m l (store_codes ts s n xs) + weigh_apart m l ts (parts_onto s n xs) + left m l (n + labels_onto xs) ≤ left m l n + most m (nodes_onto xs)
    stores costing s n p.no_lvalues = omega arith
    stores m s n (p.onto x xs) = simp sums (omega (arith, store_at m s n x, stores m s (n + labels_at x) xs))
    stores m s n _ = omega arith

    values : (m : Measure) (s n : ℕ) (es : Terms)
        → weigh_all m l (value_codes ts s n es) + weigh_apart m l ts (parts_from s n es) + left m l (n + labels_each es) ≤ left m l n + most m (nodes_of_each es)
    values costing s n p.none = omega arith
    values m s n (p.more e es) = simp sums (omega (arith, value m s n e, values m s (n + labels e) es))
    values m s n _ = omega arith

    command : (m : Measure) (a : Around) (s n : ℕ) (c : NamedCommand)
        → weigh m l (command_code ts a s n c) + weigh_apart m l ts (parts_in s n c) + weigh_cases m (cases n c) + left m l (n + labels_in c) ≤ left m l n + most m (nodes_in c)
    command costing a s n (p.simple w.Break) = omega arith
    command m a s n (p.assign xs es) =
        let h = stores m (s + 1) n xs in let i = values m s (n + labels_onto xs) es in
        let j = turns_least costs (total_both cost) refl (value_codes ts s (n + labels_onto xs) es) (store_codes ts (s + 1) n xs) in
        let k = turns_least (times_set l) (set_both l) refl (value_codes ts s (n + labels_onto xs) es) (store_codes ts (s + 1) n xs) in simp sums (omega (arith, h, i, j, k))
    command m a s n (p.call e es) = simp sums (omega (arith, value m (s + 2 + count es) n e, each m (s + 2) (n + labels e) es))
    command m a s n (p.label x c) = omega (arith, command m a s (n + 1) c, own l n)
    command m a s n (p.case_of v c) = omega (arith, command m a s (n + 1) c, own l n)
    command m a s n (p.default c) = omega (arith, command m a s (n + 1) c, own l n)
    command m a s n (p.when x e c) = simp sums (omega (arith, jump m s (n + 1) e (not x) n, command m a s (n + 1 + labels_if e) c, own l n))
    command m a s n (p.test e c d) =
        let h = jump m s (n + 2) e false n in let i = command m a s (n + 2 + labels_if e) c in
        let j = command m a s (n + 2 + labels_if e + labels_in c) d in simp sums (omega (arith, h, i, j, own l n, own l (n + 1)))
    command m a s n (p.while x e c) =
        let h = jump m s (n + 3) e x (n + 1) in let i = command m (looping n (n + 2) s a) s (n + 3 + labels_if e) c in
        simp sums (omega (arith, h, i, own l n, own l (n + 1), own l (n + 2)))
    command m a s n (p.for_loop x y k c) =
        let h = value m s (n + 4) x in let i = value m (s + 1) (n + 4 + labels x) y in
        let j = command m (looping (n + 2) (n + 3) (s + 2) a) (s + 2) (n + 4 + labels x + labels y) c in let z = test_cost k in
        let u = chosen_none l (int_lt (signed k) (pos 0)) (t.Dyadic two.AtLeast) (t.Dyadic two.AtMost) refl refl in
        simp sums (omega (arith, h, i, j, z, u, own l n, own l (n + 1), own l (n + 2), own l (n + 3)))
    command m a s n (p.switch e c) = simp sums (omega (arith, value m s (n + 1) e, command m (switching n s a) s (n + 1 + labels e) c, own l n))
    command m a s n (p.result e) = simp sums (omega (arith, value m s n e))
    command m a s n (p.block p.no_declarations cs) =
        let h = through m a s n cs in let i = ap (λ (k : ℕ). weigh_apart m l ts (parts_through s k cs)) (no_more n) in omega (arith, h, i)
    command m a s n (p.block (p.declare x xs) cs) =
        let h = declaration m s n x in let j = declarations m (after_declaration s x) (n + labels_of_declaration x) xs in
        let i = through m a (after_declarations s (p.declare x xs)) (n + labels_of_declarations (p.declare x xs)) cs in simp sums (omega (arith, h, i, j))
    command m a s n (p.repeat c) = simp sums (omega (arith, command m (looping n (n + 1) s a) s (n + 2) c, own l n, own l (n + 1)))
    command m a s n (p.repeat_while x c e) =
        let h = command m (looping (n + 1) (n + 2) s a) s (n + 3) c in let i = jump m s (n + 3 + labels_in c) e x n in
        simp sums (omega (arith, h, i, own l n, own l (n + 1), own l (n + 2)))
    command m a s n (p.simple w.Break) = omega arith
    command m a s n _ = omega arith

    through : (m : Measure) (a : Around) (s n : ℕ) (cs : NamedCommands)
        → weigh m l (through_code ts a s n cs) + weigh_apart m l ts (parts_through s n cs) + weigh_cases m (cases_through n cs) + left m l (n + labels_through cs)
        ≤ left m l n + most m (nodes_through cs)
    through costing a s n p.no_named_commands = omega arith
    through m a s n (p.also c cs) = simp sums (omega (arith, command m a s n c, through m a s (n + labels_in c) cs))
    through m a s n _ = omega arith

    declarations : (m : Measure) (s n : ℕ) (xs : Declarations)
        → weigh m l (declarations_code ts s n xs) + weigh_apart m l ts (parts_of_declarations s n xs) + left m l (n + labels_of_declarations xs) ≤ left m l n + most m (nodes_declared xs)
    declarations costing s n p.no_declarations = omega arith
    declarations m s n (p.declare x xs) =
        simp sums (omega (arith, declaration m s n x, declarations m (after_declaration s x) (n + labels_of_declaration x) xs))
    declarations m s n _ = omega arith

    declaration : (m : Measure) (s n : ℕ) (x : Declaration)
        → weigh m l (declaration_code ts s n x) + weigh_apart m l ts (parts_of_declaration s n x) + left m l (n + labels_of_declaration x) ≤ left m l n + most m (nodes_of_one x)
    declaration costing s n (p.statics is) = omega (arith, statics_cost ts n is)
    declaration m s n (p.statics is) = omega (arith, statics_own l ts n is)
    declaration costing s n (p.lets ds) = simp sums (omega (arith, definitions costing s n ds))
    declaration m s n (p.lets ds) = simp sums (omega (arith, definitions m s n ds, store_none l (has_variables ds)))

    -- and the STORE of a LET with variables
    definitions : (m : Measure) (s n : ℕ) (ds : Definitions)
        → weigh m l (definitions_code ts s n ds) + weigh_apart m l ts (parts_of_definitions s n ds) + weigh_store m ds + left m l (n + labels_of_definitions ds)
        ≤ left m l n + most m (nodes_defined ds)
    definitions costing s n p.no_definitions = omega arith
    definitions m s n (p.define d ds) =
        simp sums (omega (arith, definition m s n d, definitions m (after_definition s d) (n + labels_of_definition d) ds, store_more d ds))
    definitions m s n _ = omega arith

    definition : (m : Measure) (s n : ℕ) (d : Definition)
        → weigh m l (definition_code ts s n d) + weigh_apart m l ts (parts_of_definition s n d) + weigh_store m (p.define d p.no_definitions) + left m l (n + labels_of_definition d)
        ≤ left m l n + most m (nodes_of_definition d)
    definition costing s n (p.variables is) = omega (arith, started costing s n is)
    definition costing s n (p.routine x y k c) =
        simp sums (omega (arith, command costing outermost (k + 2) (n + labels_of_procedure x) c, word_cost n x, short_bytes y, entry_few n x))
    definition m s n (p.routine x y k c) = simp sums (omega (arith, command m outermost (k + 2) (n + labels_of_procedure x) c, own l n, word_own l n x, labels_two x))
    definition costing s n (p.function x y k e) =
        simp sums (omega (arith, value costing (k + 2) (n + labels_of_procedure x) e, word_cost n x, short_bytes y, entry_few n x))
    definition m s n (p.function x y k e) = simp sums (omega (arith, value m (k + 2) (n + labels_of_procedure x) e, own l n, word_own l n x, labels_two x))
    definition m s n (p.variables is) = omega (arith, started m s n is)

    started : (m : Measure) (s n : ℕ) (is : Starts)
        → weigh m l (starts_code ts s n is) + weigh_apart m l ts (parts_of_starts s n is) + left m l (n + labels_of_starts is) ≤ left m l n + most m (nodes_started is)
    started costing s n p.no_starts = omega arith
    started m s n (p.value e is) = simp sums (omega (arith, value m s n e, started m (s + 1) (n + labels e) is))
    started m s n (p.vector k is) = omega (arith, started m (s + k + 2) n is)
    started m s n _ = omega arith

-- ---- a section: its procedures, its data, and GLOBAL

split : (ts : List Target) (ps : List Part) → costs (joined (procedure_code ts) ps) + costs (joined data_code ps) + 2 * length (joined entries_of ps) ≡ apart ts ps
split ts [] = refl
split ts (x ∷ ps) = let h = split ts ps in simp (total_both, length-append) (omega (arith, h))

section_cost : (ps : List Part) (xs : Declarations) → parts_of_declarations 2 1 xs ≡ ps → costs (scheme xs) ≡ apart (joined target_of ps) ps + 30
section_cost ps xs e = let h = split (joined target_of ps) ps in rw e (simp (total_both) (omega (arith, h)))

-- a node costs 450
few : (ds : tree.Declarations) (meanings : List Bound) (words : List ℕ) → costs (scheme (program_of ds meanings words)) ≤ 450 * nodes_of_declarations ds + 30
few ds meanings words =
    let xs : Declarations = program_of ds meanings words in
    let ps : List Part = parts_of_declarations 2 1 xs in
    let all = section_cost ps xs refl in
    let low = declarations 0 (joined target_of ps) costing 2 1 xs in
    let kept = kept_declared ds (record { meanings = meanings; words = words }) in omega (arith, all, low, kept)

pub labels_are_few : LabelsAreFew
labels_are_few ds meanings words h =
    let xs : Declarations = program_of ds meanings words in
    omega (arith, declarations 0 [] numbering 2 0 xs, kept_declared ds (record { meanings = meanings; words = words }), h.1)

pub statements_are_few : StatementsAreFew
statements_are_few ds meanings words h = omega (arith, (all_cost (scheme (program_of ds meanings words))).0, few ds meanings words, h.1)

pub words_are_few : WordsAreFew
words_are_few ds meanings words h = omega (arith, (all_cost (scheme (program_of ds meanings words))).1, few ds meanings words, h.1)

-- the labels of a section: those of its procedures, and then those of its data
split_set : (l : ℕ) (ts : List Target) (ps : List Part) → times_set l (joined (procedure_code ts) ps) + times_set l (joined data_code ps) ≡ parts_set l ts ps
split_set l ts [] = refl
split_set l ts (x ∷ ps) =
    omega (arith, split_set l ts ps, set_both l (procedure_code ts x) (joined (procedure_code ts) ps), set_both l (data_code x) (joined data_code ps))

in_section : (l : ℕ) (xs : Declarations) → times_set l (scheme xs) ≤ parts_set l (joined target_of (parts_of_declarations 2 1 xs))
    (parts_of_declarations 2 1 xs)
in_section l xs =
    let ps : List Part = parts_of_declarations 2 1 xs in
    let h = split_set l (joined target_of ps) ps in simp (set_both) (omega (arith, h))

pub labels_are_set_once : LabelsAreSetOnce
labels_are_set_once xs l =
    let h = in_section l xs in let i = declarations l (joined target_of (parts_of_declarations 2 1 xs)) setting 2 1 xs in
    (omega (arith, h, i), λ j. (omega (arith, h, i, j), omega (arith, h, i, j)))
