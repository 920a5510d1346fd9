-- What is read is in the grammar.
use Rattle.bk_grammar.proofs.Terms.{◌≡◌, ℕ, ◌+◌, ◌≤◌, true, false, List, ◌∷◌, Some, ◌==◌, length, refl, inl, inr, arith, Kind, Kind as k, Symbol, Operator, Operator as o, Expression, Expressions, Command, parens, unary, binary, choice, apply, valof, table, none, more, assign, label, default, test, for_loop, result, block, repeat_while, no_commands, also, constants, no_items, item, routine, function, variables, no_starts, value, vector, row, inner, left, following, infix_of, repeats, assigns, is_comma, goes, Fails, Stops, Filled, Reads, Each, Does, at_expression, at_expressions, at_names, at_command, size, start_count, Stack, in_block, at_starts, in_parens, in_unary, in_binary, in_chain, in_then, in_else, in_args, in_table, in_start, in_dests, in_values, in_guard, in_test, in_result, in_while, in_from, in_to, in_by, in_item, in_function, in_value, in_vector, in_valof, in_label, in_guarded, in_default, in_do, in_or, in_for, in_routine, State, want, have, begin, did, due, limit, is_close, is_colon, is_do, is_or, is_to, is_semicolon, closes, is_sign_of, guarded, after_sign, labelled, is_call, call_of, give, finish, each_then, commands_then, items_then, starts_then, eq_is, Option, cond, push, again, position_of}
use Rattle.bk_grammar.proofs.Steps.{inner_is, size_then, count_then}
use Rattle.bk_grammar.proofs.Before.{is_close_kind, is_comma_kind, is_colon_kind, is_do_kind, is_or_kind, is_to_kind, is_semicolon_kind, closes_kind, Ready, Before, Inv, mono, split, to, if_at, Reached, row_11, falls, limit_ok}
use Rattle.bk_grammar.proofs.Lists.{inside_more, inside_then, commas_snoc, each_of, items_snoc, items_last, value_snoc, vector_snoc, value_last, vector_last}
use Rattle.bk_grammar.proofs.Moves.{push_at, full_of, ends_of, again_at, sign_is, behind_inv, guarded_does, guarded_filled, dests_at, to_or_do_at, labelled_at, declared_at, inside_of, defined_at, constants_at}

pub low : (e : Expression) (ms us : List Symbol) (t : Symbol) → Reads 0 e ms (t ∷ us) → Reached 0 e ms us t
low e ms us t r = record { reads = r; below = λ m lt. absurd (omega arith); top = inl (omega arith) }

is_both : (t : Kind) → infix_of t ≡ Some o.Both → t ≡ k.Ampersand
is_both t h1 = grind arith

pub build_binary : (rows : ℕ) (q : Operator) (s : ℕ) (x e : Expression) (ts ms us : List Symbol) (t : Symbol) → row q ≤ rows → infix_of t.kind ≡ Some q → position_of t ≡ s → Reads (left q) x ts (t ∷ ms) → Reads (inner q) e ms us → Stops (inner q) us → Reads rows (binary (at_expression x) q s x e) ts us
build_binary rows o.Both s x (binary l p i b c) ts ms us t le is at j r stops = inl (le, t, ms, is_both t.kind is, at, refl, j, r, stops)
build_binary rows q s x e ts ms us t le is at j r stops = (le, t, ms, is, at, refl, j, r, stops)

build_apply : (s : ℕ) (f : Expression) (xs : Expressions) (ts ms us : List Symbol) (t c : Symbol) → t.kind ≡ k.Open → position_of t ≡ s → c.kind ≡ k.Close → Reads 0 f ts (t ∷ ms) → Each xs ms (c ∷ us) → Reads 0 (apply (at_expression f) s f xs) ts us
build_apply s f none ts ms us t c i at j r e = absurd e
build_apply s f (more x xs) ts ms us t c i at j r e = (t, ms, c, i, at, refl, j, r, e)

pub call_filled : (e : Expression) → is_call e ≡ true → Filled (call_of e)
call_filled e h1 = grind arith

pub call_does : (e : Expression) (ms z : List Symbol) → Reads 12 e ms z → Stops 12 z → Fails assigns z → is_call e ≡ true → Does (call_of e) ms z
call_does (apply l s f none) ms z r stops fails h = (r.0, r.1, r.2, r.4, r.5, r.6, stops, fails)
call_does (apply l s f (more x xs)) ms z r stops fails h = (r.0, r.1, r.2, r.3, r.5, r.6, r.7, r.8, stops, fails)
call_does _ ms z r stops fails h = absurd cc

label_start : (e : Expression) (st : Stack) (t : Symbol) (n : State) (a ms us : List Symbol) → Before st a ms × Ready st → Reads 12 e ms (t ∷ us) → t.kind ≡ k.Colon → labelled e st ≡ Some n → Inv n a us
label_start e st t n a ms us h1 h2 h3 h4 = grind (arith, labelled_at)

-- an expression goes on, or is complete with the symbol behind it
give_or : (st : Stack) (e : Expression) (t : Symbol) (n : State) (a ms us : List Symbol) (j : ℕ) (rest : Option State) → Before st a ms → j ≤ limit st → Reached j e ms us t
    → cond (goes (limit st) t.kind) (push st e t.kind (position_of t)) rest ≡ Some n → (Reads 12 e ms (t ∷ us) → goes (limit st) t.kind ≡ false → rest ≡ Some n → Inv n a us) → Inv n a us
give_or st e t n a ms us j rest b lo r h then = elim (split (goes (limit st) t.kind) _ _ n h) [
  | inl x ↦ push_at t.kind st e t n a ms us j refl b r x.0 x.1
  | inr x ↦ then (mono j 12 e ms (t ∷ us) (let q = limit_ok st in omega arith) r.reads) x.0 x.1
]

-- a command is repeated, or is complete with the symbol behind it
finish_or : (st : Stack) (c : Command) (t : Symbol) (n : State) (a ms us : List Symbol) (rest : Option State) → Before st a ms → Ready st → Filled c → Does c ms (t ∷ us)
    → cond (repeats t.kind) (again st c t.kind) rest ≡ Some n → (repeats t.kind ≡ false → rest ≡ Some n → Inv n a us) → Inv n a us
finish_or st c t n a ms us rest b r f d h then = grind (arith, again_at, (split (repeats t.kind) _ _ n h))

mutual
  pub give_at : (st : Stack) (e : Expression) (t : Symbol) (n : State) (a ms us : List Symbol) (j : ℕ) → Before st a ms → j ≤ limit st → Reached j e ms us t → give st e (position_of t) t.text t.kind ≡ Some n → Inv n a us
  give_at (in_parens l st) e t n a ms us j b lo r h = give_or (in_parens l st) e t n a ms us j _ b lo r h
      (λ w off so. if_at (is_close t.kind) (have st (parens l e)) n a us so (λ c. (b.0 ∷ ms, b.1, (b.0, ms, t, refl, b.2, b.3, is_close_kind t.kind c, w))))
  give_at (in_unary l p st) e t n a ms us j b lo r h = give_or (in_unary l p st) e t n a ms us j _ b lo r h
      (λ w off so. give_at st (unary l p e) t n a (b.0 ∷ ms) us 1 b.1 (limit_ok st).0 (record {
        reads = (omega arith, b.0, ms, refl, b.2, b.3, mono j (following p) e ms (t ∷ us) lo r.reads, off);
        below = λ m lt. falls m (following p) t.kind (omega arith) off;
        top = inl (omega arith);
      }) so)
  give_at (in_binary q s y st) e t n a ms us j b lo r h = give_or (in_binary q s y st) e t n a ms us j _ b lo r h
      (λ w off so. give_at st (binary (at_expression y) q s y e) t n a b.0 us (row q) b.2 b.5 (record {
        reads = build_binary (row q) q s y e b.0 ms (t ∷ us) b.1 (omega arith) b.3 b.4 b.6 (mono j (inner q) e ms (t ∷ us) lo r.reads) off;
        below = λ m lt. falls m (inner q) t.kind (omega (arith, inner_is q)) off;
        top = inl (row_11 q);
      }) so)
  give_at (in_chain q s y z st) e t n a ms us j b lo r h = give_or (in_chain q s y z st) e t n a ms us j _ b lo r h
      (λ w off so. give_at st (binary (at_expression y) o.Both s y (binary (at_expression z) q s z e)) t n a b.0 us 6 b.2 b.5 (record {
        reads = inr (omega arith, b.1, ms, b.3, b.4, refl, refl, refl, b.6, b.7, b.8, mono j 5 e ms (t ∷ us) lo r.reads, off);
        below = λ m lt. falls m 5 t.kind (omega arith) off;
        top = inl (omega arith);
      }) so)
  give_at (in_then s c st) e t n a ms us j b lo r h = give_or (in_then s c st) e t n a ms us j _ b lo r h
      (λ w off so. if_at (is_comma t.kind) (want (in_else s c e st)) n a us so (λ d. (b.0, b.1, ms, t, b.2, b.3, b.4, b.5, b.6, is_comma_kind t.kind d, w)))
  give_at (in_else s c y st) e t n a ms us j b lo r h = give_or (in_else s c y st) e t n a ms us j _ b lo r h
      (λ w off so. give_at st (choice (at_expression c) s c y e) t n a b.0 us 12 b.4 b.7 (record {
        reads = (omega arith, b.1, b.2, b.3, ms, b.5, b.6, refl, b.9, b.8, b.10, w, off);
        below = λ m lt. falls m 12 t.kind (omega arith) off;
        top = inr off;
      }) so)
  give_at (in_args s f es st) e t n a ms us j b lo r h = give_or (in_args s f es st) e t n a ms us j _ b lo r h
      (λ w off so. elim (split (is_comma t.kind) _ _ n so) [
        | inl d ↦ to (want (in_args s f (each_then es (more e none)) st)) n a us d.1 (b.0, b.1, b.2, b.3, b.4, b.5, b.6, commas_snoc es e b.2 ms t us b.7 w (is_comma_kind t.kind d.0))
        | inr d ↦ if_at (is_close t.kind) (have st (apply (at_expression f) s f (each_then es (more e none)))) n a us d.1
            (λ c. (b.0, b.3, build_apply s f (each_then es (more e none)) b.0 b.2 us b.1 t b.4 b.5 (is_close_kind t.kind c) b.6 (each_of es e b.2 ms (t ∷ us) b.7 w off)))
      ])
  give_at (in_table l es st) e t n a ms us j b lo r h = give_or (in_table l es st) e t n a ms us j _ b lo r h
      (λ w off so. elim (split (is_comma t.kind) _ _ n so) [
        | inl d ↦ to (want (in_table l (each_then es (more e none)) st)) n a us d.1 (b.0, b.1, b.2, b.3, b.4, commas_snoc es e b.1 ms t us b.5 w (is_comma_kind t.kind d.0))
        | inr d ↦ give_at st (table l (each_then es (more e none))) t n a (b.0 ∷ b.1) us 0 b.2 (omega arith) (low (table l (each_then es (more e none))) (b.0 ∷ b.1) us t
            (b.0, b.1, refl, b.3, b.4, each_of es e b.1 ms (t ∷ us) b.5 w off, d.0)) d.1
      ])
  give_at (in_start st) e t n a ms us j b lo r h = give_or (in_start st) e t n a ms us j _ b lo r h
      (λ w off so. elim (split (assigns t.kind) _ _ n so) [
        | inl y ↦ dests_at t.kind (more e none) st n a us y.1
            (λ c. (ms, b, (t, us, c, w, refl)))
            (λ c. (ms, t, us, b, c, (w, off), refl))
        | inr y ↦ elim (split (is_call e) _ _ n y.1) [
          | inl z ↦ finish_at st (call_of e) t n a ms us b.0 b.1 (call_filled e z.0) (call_does e ms (t ∷ us) w off y.0 z.0) z.1
          | inr z ↦ elim (split (is_colon t.kind) _ _ n z.1) [
            | inl d ↦ label_start e st t n a ms us b w (is_colon_kind t.kind d.0) d.1
            | inr d ↦ absurd cc
          ]
        ]
      ])
  give_at (in_dests xs st) e t n a ms us j b lo r h = give_or (in_dests xs st) e t n a ms us j _ b lo r h
      (λ w off so. dests_at t.kind (each_then xs (more e none)) st n a us so
      (λ c. (b.0, b.1, commas_snoc xs e b.0 ms t us b.2 w c))
      (λ c. (b.0, t, us, b.1, c, each_of xs e b.0 ms (t ∷ us) b.2 w off, refl)))
  give_at (in_values xs ys st) e t n a ms us j b lo r h = give_or (in_values xs ys st) e t n a ms us j _ b lo r h
      (λ w off so. elim (split (size xs == size ys + 1) _ _ n so) [
        | inl d ↦ finish_at st (assign (at_expressions xs) xs (each_then ys (more e none))) t n a b.0 us b.3.0 b.3.1 tt
            (b.1, b.2, b.4, omega (arith, eq_is (size xs) (size ys + 1) d.0, size_then ys (more e none)), refl, b.5, each_of ys e b.2 ms (t ∷ us) b.6 w off) d.1
        | inr d ↦ if_at (is_comma t.kind) (want (in_values xs (each_then ys (more e none)) st)) n a us d.1
            (λ c. (b.0, b.1, b.2, b.3, b.4, b.5, commas_snoc ys e b.2 ms t us b.6 w (is_comma_kind t.kind c)))
      ])
  give_at (in_guard gd l st) e t n a ms us j b lo r h = give_or (in_guard gd l st) e t n a ms us j _ b lo r h
      (λ w off so. if_at (is_sign_of gd t.kind) (after_sign gd (in_guarded gd l e st)) n a us so
      (λ c. behind_inv gd l e st a us (b.0, ms, t, b.1, b.2, b.3, w, sign_is gd t.kind c)))
  give_at (in_test l st) e t n a ms us j b lo r h = give_or (in_test l st) e t n a ms us j _ b lo r h
      (λ w off so. if_at (is_do t.kind) (begin (in_do l e st)) n a us so (λ c. ((b.0, ms, t, b.1, b.2, b.3, w, is_do_kind t.kind c), tt)))
  give_at (in_result l st) e t n a ms us j b lo r h = give_or (in_result l st) e t n a ms us j _ b lo r h
      (λ w off so. finish_at st (result l e) t n a (b.0 ∷ ms) us b.1.0 b.1.1 tt (b.0, ms, refl, b.2, b.3, w, off) so)
  give_at (in_while f c st) e t n a ms us j b lo r h = give_or (in_while f c st) e t n a ms us j _ b lo r h
      (λ w off so. finish_at st (repeat_while (at_command c) f c e) t n a b.0 us b.2.0 b.2.1 tt (b.1, ms, b.3, refl, b.4, b.5, w, off) so)
  give_at (in_from l y st) e t n a ms us j b lo r h = give_or (in_from l y st) e t n a ms us j _ b lo r h
      (λ w off so. if_at (is_to t.kind) (want (in_to l y e st)) n a us so (λ c. (b.0, b.1, b.2, ms, t, b.3, b.4, b.5, b.6, b.7, w, is_to_kind t.kind c)))
  give_at (in_to l y p st) e t n a ms us j b lo r h = give_or (in_to l y p st) e t n a ms us j _ b lo r h
      (λ w off so. to_or_do_at t.kind l y p e st n a us so
      (λ c. (b.0, b.1, b.2, b.3, b.4, ms, t, b.5, b.6, b.7, b.8, b.9, b.10, b.11, w, c))
      (λ c. ((b.0, b.1, b.2, b.3, b.4, ms, t, b.5, b.6, b.7, b.8, b.9, b.10, b.11, w, c), tt)))
  give_at (in_by l y p q st) e t n a ms us j b lo r h = give_or (in_by l y p q st) e t n a ms us j _ b lo r h
      (λ w off so. if_at (is_do t.kind) (begin (in_for l y p q (more e none) st)) n a us so
      (λ c. ((b.0, b.1, b.2, b.3, b.4, b.5, b.6, ms, t, b.7, b.8, b.9, b.10, b.11, b.12, b.13, b.14, b.15, w, is_do_kind t.kind c), tt)))
  give_at (in_item l s is y st) e t n a ms us j b lo r h = give_or (in_item l s is y st) e t n a ms us j _ b lo r h
      (λ w off so. constants_at t.kind l s (items_then is (item y.at y.letters e no_items)) st n a us so
      (λ c. (b.0, b.1, b.2, b.5, b.6, b.7, b.8, b.9, items_snoc is y.at y.letters e b.2 b.3 b.4 ms t us b.10 b.11 b.12 w c))
      (λ c d. declared_at st (constants l s (items_then is (item y.at y.letters e no_items))) n a (b.0 ∷ b.1 ∷ b.2) us b.6 b.5
      (b.0, b.1, b.2, t, refl, b.7, b.8, b.9, c, items_last is y.at y.letters e b.2 b.3 b.4 ms (t ∷ us) b.10 b.11 b.12 w off) d))
  give_at (in_function y fs st) e t n a ms us j b lo r h = give_or (in_function y fs st) e t n a ms us j _ b lo r h
      (λ w off so. defined_at st (function y.at y.letters fs e) t n a b.0 us b.3
      (b.4.0, b.4.1, b.1, b.2, ms, b.4.2, b.4.3, b.4.4, b.5, b.6, w, off) so)
  give_at (in_value xs is st) e t n a ms us j b lo r h = give_or (in_value xs is st) e t n a ms us j _ b lo r h
      (λ w off so. elim (split (length xs == start_count is + 1) _ _ n so) [
        | inl d ↦ defined_at st (variables (at_names xs) xs (starts_then is (value e no_starts))) t n a b.0 us b.3
            (inside_of st b.4, b.1, b.2, b.5, refl, omega (arith, eq_is (length xs) (start_count is + 1) d.0, count_then is (value e no_starts)), b.6, value_last is e b.2 ms (t ∷ us) b.7 w off) d.1
        | inr d ↦ if_at (is_comma t.kind) (due (at_starts xs (starts_then is (value e no_starts)) st)) n a us d.1
            (λ c. (b.0, b.1, b.2, b.3, b.4, b.5, b.6, value_snoc is e b.2 ms t us b.7 w (is_comma_kind t.kind c)))
      ])
  give_at (in_vector l xs is st) e t n a ms us j b lo r h = give_or (in_vector l xs is st) e t n a ms us j _ b lo r h
      (λ w off so. elim (split (length xs == start_count is + 1) _ _ n so) [
        | inl d ↦ defined_at st (variables (at_names xs) xs (starts_then is (vector l e no_starts))) t n a b.0 us b.4
            (inside_of st b.5, b.1, b.2, b.6, refl, omega (arith, eq_is (length xs) (start_count is + 1) d.0, count_then is (vector l e no_starts)), b.7, vector_last is l e b.2 b.3 ms (t ∷ us) b.8 b.9 b.10 w off) d.1
        | inr d ↦ if_at (is_comma t.kind) (due (at_starts xs (starts_then is (vector l e no_starts)) st)) n a us d.1
            (λ c. (b.0, b.1, b.2, b.4, b.5, b.6, b.7, vector_snoc is l e b.2 b.3 ms t us b.8 b.9 b.10 w (is_comma_kind t.kind c)))
      ])
  give_at st e t n a ms us j b lo r h = give_or st e t n a ms us j _ b lo r h
      (λ w off so. absurd cc)

  pub finish_at : (st : Stack) (c : Command) (t : Symbol) (n : State) (a ms us : List Symbol) → Before st a ms → Ready st → Filled c → Does c ms (t ∷ us) → finish st c (position_of t) t.text t.kind ≡ Some n → Inv n a us
  finish_at (in_valof l st) c t n a ms us b r f d h = finish_or (in_valof l st) c t n a ms us _ b r f d h
      (λ off so. give_at st (valof l c) t n a (b.0 ∷ ms) us 0 b.1 (omega arith) (low (valof l c) (b.0 ∷ ms) us t (b.0, ms, refl, b.2, b.3, d, full_of c (t ∷ us) f off)) so)
  finish_at (in_label l y st) c t n a ms us b r f d h = finish_or (in_label l y st) c t n a ms us _ b r f d h
      (λ off so. finish_at st (label l y c) t n a (b.0 ∷ b.1 ∷ ms) us b.2.0 b.2.1 tt (b.0, b.1, ms, refl, b.3, b.4, d, ends_of c (t ∷ us) f off) so)
  finish_at (in_guarded gd l e st) c t n a ms us b r f d h = finish_or (in_guarded gd l e st) c t n a ms us _ b r f d h
      (λ off so. finish_at st (guarded gd l e c) t n a (b.0 ∷ b.1) us b.3.0 b.3.1 (guarded_filled gd l e c) (guarded_does gd l e c b.0 b.1 b.2 ms (t ∷ us) b.4 b.5 b.6 b.7 d f off) so)
  finish_at (in_default l st) c t n a ms us b r f d h = finish_or (in_default l st) c t n a ms us _ b r f d h
      (λ off so. finish_at st (default l c) t n a (b.0 ∷ b.1 ∷ ms) us b.2.0 b.2.1 tt (b.0, b.1, ms, refl, b.3, b.4, b.5, d, ends_of c (t ∷ us) f off) so)
  finish_at (in_do l e st) c t n a ms us b r f d h = finish_or (in_do l e st) c t n a ms us _ b r f d h
      (λ off so. if_at (is_or t.kind) (begin (in_or l e c st)) n a us so (λ w. ((b.0, b.1, b.2, ms, t, b.3, b.4, b.5, b.6, b.7, d, full_of c (t ∷ us) f off, is_or_kind t.kind w), tt)))
  finish_at (in_or l e y st) c t n a ms us b r f d h = finish_or (in_or l e y st) c t n a ms us _ b r f d h
      (λ off so. finish_at st (test l e y c) t n a (b.0 ∷ b.1) us b.5.0 b.5.1 tt (b.0, b.1, b.2, b.3, b.4, ms, refl, b.6, b.7, b.8, b.9, b.10, b.11, b.12, d, full_of c (t ∷ us) f off) so)
  finish_at (in_for l y p q none st) c t n a ms us b r f d h = finish_or (in_for l y p q none st) c t n a ms us _ b r f d h
      (λ off so. finish_at st (for_loop l y p q none c) t n a (b.0 ∷ b.1 ∷ b.2 ∷ b.3) us b.7.0 b.7.1 tt (b.0, b.1, b.2, b.3, b.4, b.5, b.6, ms, refl, b.8, b.9, b.10, b.11, b.12, b.13, b.14, b.15, d, full_of c (t ∷ us) f off) so)
  finish_at (in_for l y p q (more i none) st) c t n a ms us b r f d h = finish_or (in_for l y p q (more i none) st) c t n a ms us _ b r f d h
      (λ off so. finish_at st (for_loop l y p q (more i none) c) t n a (b.0 ∷ b.1 ∷ b.2 ∷ b.3) us b.9.0 b.9.1 tt (b.0, b.1, b.2, b.3, b.4, b.5, b.6, b.7, b.8, ms, refl, b.10, b.11, b.12, b.13, b.14, b.15, b.16, b.17, b.18, b.19, d, full_of c (t ∷ us) f off) so)
  finish_at (in_for l y p q (more i (more v vs)) st) c t n a ms us b r f d h = absurd b
  finish_at (in_routine y fs st) c t n a ms us b r f d h = finish_or (in_routine y fs st) c t n a ms us _ b r f d h
      (λ off so. defined_at st (routine y.at y.letters fs c) t n a b.0 us b.3 (b.4.0, b.4.1, b.1, b.2, ms, b.4.2, b.4.3, b.4.4, b.5, b.6, d, full_of c (t ∷ us) f off) so)
  finish_at (in_block l false ds cs st) c t n a ms us b r f d h = absurd r
  finish_at (in_block l true ds cs st) c t n a ms us b r f d h = finish_or (in_block l true ds cs st) c t n a ms us _ b r f d h
      (λ off so. elim (split (is_semicolon t.kind) _ _ n so) [
        | inl y ↦ to (due (in_block l true ds (commands_then cs (also c no_commands)) st)) n a us y.1 (b.0, b.1, b.2, b.3, b.4, inside_then ds cs c b.1 ms t us b.5 d (full_of c (t ∷ us) f off) (is_semicolon_kind t.kind y.0))
        | inr y ↦ if_at (closes t.kind) (did st (block l ds (commands_then cs (also c no_commands)))) n a us y.1
            (λ z. (b.0 ∷ b.1, b.2, tt, inside_more l ds cs c b.0 b.1 ms t us b.3 b.4 (closes_kind t.kind z) b.5 d (full_of c (t ∷ us) f off)))
      ])
  finish_at st c t n a ms us b r f d h = finish_or st c t n a ms us _ b r f d h
      (λ off so. absurd cc)
