-- The code of a part sets each label as often as its marks have it.
use Rattle.bk_trans.proofs.Words.{arith, ◌≡◌, ℕ, ◌+◌, Bool, true, false, not, pos, int_lt, Some, List, [], ◌∷◌, refl, ⊤, signed, Stmt, sets, times_set, total, total_both}
use Rattle.bk_trans.proofs.Terms.{Simple as w, Dyadic as two, Stmt as t, Around, Target, Term, Terms, Condition, Lvalue, Lvalues, NamedCommand, NamedCommands, Declaration, Declarations, Definition, Definitions, Starts, named, truth, parens, unary, address, binary, choice, apply, valof, none, more, holds, within, fails, both, either, contents, subscript, byte, inside, no_lvalues, onto, assign, call, label, case_of, default, when, test, while, for_loop, switch, result, simple, block, repeat, repeat_while, no_named_commands, also, statics, lets, no_declarations, declare, routine, function, variables, no_definitions, define, no_starts, value, vector, labels, labels_if, labels_at, labels_onto, labels_in, labels_of_declaration, labels_of_declarations, labels_of_definition, count, after_declaration, after_declarations, after_definition, has_variables, by_turns, value_code, each_code, jump_code, address_code, store_code, value_codes, store_codes, command_code, through_code, declarations_code, declaration_code, definitions_code, definition_code, starts_code, valued, looping, switching}
use Rattle.bk_trans.proofs.Once.{set_both, push_none, truth_none, chosen_none, store_none, prefix_none, infix_none}
use Rattle.bk_trans.proofs.Marks.{Mark, marks, marks_each, marks_if, marks_at, marks_onto, marks_all_onto, marks_from, marks_by_turns, marks_in, marks_through, marks_of_declaration, marks_of_declarations, marks_of_definition, marks_of_definitions, marks_of_starts}

abbrev pub times_marked : ℕ → List Mark → ℕ
times_marked l ms = total (λ m. sets l (Some m.spot)) ms

ruleset sums = (set_both, total_both)

-- codes and marks by turns
abbrev AllMarked : ℕ → List (List Stmt) → List (List Mark) → Type 0
AllMarked l [] [] = ⊤
AllMarked l (c ∷ cs) (m ∷ ms) = (times_set l c ≡ times_marked l m) × AllMarked l cs ms
AllMarked l _ _ = ⊥

turns_marked : (l : ℕ) (cs ds : List (List Stmt)) (ms ns : List (List Mark)) → AllMarked l cs ms → AllMarked l ds ns → times_set l (by_turns cs ds) ≡ times_marked l (marks_by_turns ms ns)
turns_marked l [] ds [] ns h i = refl
turns_marked l [] ds (m ∷ ms) ns h i = elim h [ ]
turns_marked l (c ∷ cs) [] (m ∷ ms) [] h i = refl
turns_marked l (c ∷ cs) [] (m ∷ ms) (n ∷ ns) h i = elim i [ ]
turns_marked l (c ∷ cs) _ [] ns h i = elim h [ ]
turns_marked l (c ∷ cs) (d ∷ ds) (m ∷ ms) [] h i = elim i [ ]
turns_marked l (c ∷ cs) (d ∷ ds) (m ∷ ms) (n ∷ ns) h i = simp sums (omega (arith, turns_marked l cs ds ms ns h.1 i.1, h.0, i.0))

module _ (l : ℕ) (ts : List Target) where
  mutual
    pub value_marked : (p s n : ℕ) (e : Term) → times_set l (value_code ts s n e) ≡ times_marked l (marks p s n e)
    value_marked p s n (named x) = let h = push_none l ts x in omega (arith, h)
    value_marked p s n (truth x) = let h = truth_none l x in omega (arith, h)
    value_marked p s n (parens e) = value_marked p s n e
    value_marked p s n (unary f e) = let h = value_marked p s n e in let i = prefix_none l f in simp sums (omega (arith, h, i))
    value_marked p s n (address x) = address_marked p s n x
    value_marked p s n (binary f x y) =
        let h = value_marked p s n x in let i = value_marked p (s + 1) (n + labels x) y in let j = infix_none l f in simp sums (omega (arith, h, i, j))
    value_marked p s n (choice c x y) =
        let h = if_marked p s (n + 2) c false n in let i = value_marked p s (n + 2 + labels_if c) x in let j = value_marked p s (n + 2 + labels_if c + labels x) y in
        simp sums (omega (arith, h, i, j))
    value_marked p s n (apply e es) =
        let h = value_marked p (s + 2 + count es) n e in let i = each_marked p (s + 2) (n + labels e) es in simp sums (omega (arith, h, i))
    value_marked p s n (valof c) = let h = command_marked (valued n) p s (n + 1) c in simp sums (omega (arith, h))
    value_marked p s n _ = refl

    each_marked : (p s n : ℕ) (es : Terms) → times_set l (each_code ts s n es) ≡ times_marked l (marks_each p s n es)
    each_marked p s n none = refl
    each_marked p s n (more e es) = let h = value_marked p s n e in let i = each_marked p (s + 1) (n + labels e) es in simp sums (omega (arith, h, i))

    if_marked : (p s n : ℕ) (c : Condition) (x : Bool) (m : ℕ) → times_set l (jump_code ts s n c x m) ≡ times_marked l (marks_if p s n c x)
    if_marked p s n (holds e) x m = let h = value_marked p s n e in simp sums (omega (arith, h))
    if_marked p s n (within c) x m = if_marked p s n c x m
    if_marked p s n (fails c) x m = if_marked p s n c (not x) m
    if_marked p s n (both c d) false m =
        let h = if_marked p s (n + 1) c false m in let i = if_marked p s (n + 1 + labels_if c) d false m in simp sums (omega (arith, h, i))
    if_marked p s n (both c d) true m =
        let h = if_marked p s (n + 1) c false n in let i = if_marked p s (n + 1 + labels_if c) d true m in simp sums (omega (arith, h, i))
    if_marked p s n (either c d) true m =
        let h = if_marked p s (n + 1) c true m in let i = if_marked p s (n + 1 + labels_if c) d true m in simp sums (omega (arith, h, i))
    if_marked p s n (either c d) false m =
        let h = if_marked p s (n + 1) c true n in let i = if_marked p s (n + 1 + labels_if c) d false m in simp sums (omega (arith, h, i))

    address_marked : (p s n : ℕ) (x : Lvalue) → times_set l (address_code ts s n x) ≡ times_marked l (marks_at p s n x)
    address_marked p s n (contents e) = value_marked p s n e
    address_marked p s n (subscript x y) = simp sums (omega (arith, value_marked p s n x, value_marked p (s + 1) (n + labels x) y))
    address_marked p s n (inside x) = address_marked p s n x
    address_marked p s n _ = refl

    onto_marked : (p s n : ℕ) (x : Lvalue) → times_set l (store_code ts s n x) ≡ times_marked l (marks_onto p s n x)
    onto_marked p s n (contents e) = let h = value_marked p s n e in simp sums (omega (arith, h))
    onto_marked p s n (subscript x y) = simp sums (omega (arith, value_marked p s n x, value_marked p (s + 1) (n + labels x) y))
    onto_marked p s n (byte x y) = simp sums (omega (arith, value_marked p s n x, value_marked p (s + 1) (n + labels x) y))
    onto_marked p s n (inside x) = onto_marked p s n x
    onto_marked p s n _ = refl

    all_onto_marked : (p s n : ℕ) (xs : Lvalues) → AllMarked l (store_codes ts s n xs) (marks_all_onto p s n xs)
    all_onto_marked p s n no_lvalues = tt
    all_onto_marked p s n (onto x xs) = (onto_marked p s n x, all_onto_marked p s (n + labels_at x) xs)

    from_marked : (p s n : ℕ) (es : Terms) → AllMarked l (value_codes ts s n es) (marks_from p s n es)
    from_marked p s n none = tt
    from_marked p s n (more e es) = (value_marked p s n e, from_marked p s (n + labels e) es)

    pub command_marked : (a : Around) (p s n : ℕ) (c : NamedCommand) → times_set l (command_code ts a s n c) ≡ times_marked l (marks_in p s n c)
    command_marked a p s n (assign xs es) = turns_marked l _ _ _ _ (from_marked p s (n + labels_onto xs) es) (all_onto_marked p (s + 1) n xs)
    command_marked a p s n (call e es) =
        let h = value_marked p (s + 2 + count es) n e in let i = each_marked p (s + 2) (n + labels e) es in simp sums (omega (arith, h, i))
    command_marked a p s n (label x c) = let h = command_marked a p s (n + 1) c in omega (arith, h)
    command_marked a p s n (case_of x c) = let h = command_marked a p s (n + 1) c in omega (arith, h)
    command_marked a p s n (default c) = let h = command_marked a p s (n + 1) c in omega (arith, h)
    command_marked a p s n (when x e c) =
        let h = if_marked p s (n + 1) e (not x) n in let i = command_marked a p s (n + 1 + labels_if e) c in simp sums (omega (arith, h, i))
    command_marked a p s n (test e c d) =
        let h = if_marked p s (n + 2) e false n in let i = command_marked a p s (n + 2 + labels_if e) c in
        let j = command_marked a p s (n + 2 + labels_if e + labels_in c) d in simp sums (omega (arith, h, i, j))
    command_marked a p s n (while x e c) =
        simp sums (omega (arith, if_marked p s (n + 3) e x (n + 1), command_marked (looping n (n + 2) s a) p s (n + 3 + labels_if e) c))
    command_marked a p s n (for_loop x y k c) =
        let h = value_marked p s (n + 4) x in let i = value_marked p (s + 1) (n + 4 + labels x) y in
        let j = command_marked (looping (n + 2) (n + 3) (s + 2) a) p (s + 2) (n + 4 + labels x + labels y) c in
        let d = chosen_none l (int_lt (signed k) (pos 0)) (t.Dyadic two.AtLeast) (t.Dyadic two.AtMost) refl refl in
        simp sums (omega (arith, h, i, j, d))
    command_marked a p s n (switch e c) =
        let h = value_marked p s (n + 1) e in let i = command_marked (switching n s a) p s (n + 1 + labels e) c in simp sums (omega (arith, h, i))
    command_marked a p s n (result e) = let h = value_marked p s n e in simp sums (omega (arith, h))
    command_marked a p s n (block no_declarations cs) = through_marked a p s n cs
    command_marked a p s n (block (declare x xs) cs) =
        let h = one_declared_marked p s n x in let j = declared_marked p (after_declaration s x) (n + labels_of_declaration x) xs in
        let i = through_marked a p (after_declarations s (declare x xs)) (n + labels_of_declarations (declare x xs)) cs in simp sums (omega (arith, h, j, i))
    command_marked a p s n (repeat c) = let h = command_marked (looping n (n + 1) s a) p s (n + 2) c in simp sums (omega (arith, h))
    command_marked a p s n (repeat_while x c e) =
        simp sums (omega (arith, command_marked (looping (n + 1) (n + 2) s a) p s (n + 3) c, if_marked p s (n + 3 + labels_in c) e x n))
    command_marked a p s n (simple w.Break) = refl
    command_marked a p s n _ = refl

    through_marked : (a : Around) (p s n : ℕ) (cs : NamedCommands) → times_set l (through_code ts a s n cs) ≡ times_marked l (marks_through p s n cs)
    through_marked a p s n no_named_commands = refl
    through_marked a p s n (also c cs) = simp sums (omega (arith, command_marked a p s n c, through_marked a p s (n + labels_in c) cs))

    declared_marked : (p s n : ℕ) (xs : Declarations) → times_set l (declarations_code ts s n xs) ≡ times_marked l (marks_of_declarations p s n xs)
    declared_marked p s n no_declarations = refl
    declared_marked p s n (declare x xs) =
        let h = one_declared_marked p s n x in let i = declared_marked p (after_declaration s x) (n + labels_of_declaration x) xs in simp sums (omega (arith, h, i))

    one_declared_marked : (p s n : ℕ) (x : Declaration) → times_set l (declaration_code ts s n x) ≡ times_marked l (marks_of_declaration p s n x)
    one_declared_marked p s n (statics ks) = refl
    one_declared_marked p s n (lets xs) = let h = defined_marked p s n xs in let i = store_none l (has_variables xs) in simp sums (omega (arith, h, i))

    defined_marked : (p s n : ℕ) (xs : Definitions) → times_set l (definitions_code ts s n xs) ≡ times_marked l (marks_of_definitions p s n xs)
    defined_marked p s n no_definitions = refl
    defined_marked p s n (define x xs) =
        let h = one_defined_marked p s n x in let i = defined_marked p (after_definition s x) (n + labels_of_definition x) xs in simp sums (omega (arith, h, i))

    one_defined_marked : (p s n : ℕ) (x : Definition) → times_set l (definition_code ts s n x) ≡ times_marked l (marks_of_definition p s n x)
    one_defined_marked p s n (variables is) = started_marked p s n is
    one_defined_marked p s n _ = refl

    started_marked : (p s n : ℕ) (is : Starts) → times_set l (starts_code ts s n is) ≡ times_marked l (marks_of_starts p s n is)
    started_marked p s n no_starts = refl
    started_marked p s n (value e is) = let h = value_marked p s n e in let i = started_marked p (s + 1) (n + labels e) is in simp sums (omega (arith, h, i))
    started_marked p s n (vector k is) = let h = started_marked p (s + k + 2) n is in omega (arith, h)
