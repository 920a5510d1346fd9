-- What is read to its end is in the grammar; with what the grammar has being read, the two are one.
use Rattle.bk_syntax.proofs.Terms.{◌≡◌, ℕ, ◌+◌, ◌≤◌, Bool, true, false, List, [], ◌∷◌, Option, Some, None, Result, Ok, ◌==◌, length, refl, ap, subst, inl, inr, arith, Symbol, Guard, Expression, Command, Declaration, Declarations, Definition, unary, binary, choice, valof, table, none, more, empty, assign, label, case_of, default, test, for_loop, result, repeat_while, no_commands, definitions, no_declarations, declare, no_items, item, routine, function, variables, no_definitions, define, no_starts, value, vector, row, inner, following, at_expression, at_expressions, at_names, at_command, size, start_count, each_then, declarations_then, definitions_then, starts_then, size_then, count_then, in_block_is, At_head, Ready, Before, May_miss, Inv, mono, split, limit_ok, semis_refl, definitions_all, each_of, value_last, vector_last, full_of, ends_of, guarded_does, guarded_filled, added, inside_of, of_let, complete, build_binary, call_filled, call_does, step_sound, reading, eq_is, Kind as k, Operator as o, Guard as g}
use Rattle.bk_grammar.specs.Grammar.{Filled, Reads, Does, Declares, Defines, Section}
use Rattle.bk_grammar.specs.Machine.{Stack, in_section, in_block, in_let, at_name, at_items, in_unary, in_binary, in_chain, in_else, in_table, in_start, in_values, in_guard, in_result, in_while, in_function, in_value, in_vector, in_valof, in_label, in_guarded, in_default, in_or, in_for, in_routine, State, want, have, begin, maybe, did, due, limit, is_sign_of, if_is, guarded, after_sign, declared_by, defined_by, is_call, call_of, give, finish, without, inside, take_due, stepped_by, step, whole, going, run}

abbrev ended_as : Declarations → Option State
ended_as ds = Some (due (in_section ds))

if_none : (b : Bool) (x n : State) → b ≡ false → if_is b x ≡ Some n → ⊥
if_none true x n h j = absurd cc
if_none false x n h j = absurd cc

no_sign : (gd : Guard) → is_sign_of gd k.Semicolon ≡ false
no_sign g.SwitchOn = refl
no_sign _ = refl

declared_end : (st : Stack) (d : Declaration) (a m : List Symbol) (ds : Declarations) → At_head st → Before st a m → Declares (in_block_is st) d m [] → declared_by st d 1 [] k.Semicolon ≡ ended_as ds → Section ds a
declared_end (in_section es) d a m ds head b r h =
    let same : declarations_then es (declare d no_declarations) ≡ ds = cc in
    let P : Declarations → Type 0 = λ z. Section z a in
    subst P same (added (in_section es) d a m [] head b r)
declared_end (in_block l f es no_commands st) d a m ds head b r h = absurd cc
declared_end st d a m ds head b r h = absurd head

defined_end : (st : Stack) (d : Definition) (a ms : List Symbol) (ds : Declarations) → Before st a ms → Defines (of_let st) d ms [] → defined_by st d 1 [] k.Semicolon ≡ ended_as ds → Section ds a
defined_end (in_let l es st) d a ms ds b r h =
    declared_end st (definitions l (definitions_then es (define d no_definitions))) a (b.0 ∷ b.1) ds b.5 b.2 (b.0, b.1, refl, b.3, b.4, definitions_all (in_block_is st) es d b.1 ms [] b.6 r tt) h
defined_end _ d a ms ds b r h = absurd cc

mutual
  pub give_end : (st : Stack) (e : Expression) (a ms : List Symbol) (j : ℕ) (ds : Declarations) → Before st a ms → j ≤ limit st → Reads j e ms [] → give st e 1 [] k.Semicolon ≡ ended_as ds → Section ds a
  give_end (in_unary l p st) e a ms j ds b lo r h = give_end st (unary l p e) a (b.0 ∷ ms) 1 ds b.1 (limit_ok st).0 (omega arith, b.0, ms, refl, b.2, b.3, mono j (following p) e ms [] lo r, tt) h
  give_end (in_binary q s y st) e a ms j ds b lo r h = give_end st (binary (at_expression y) q s y e) a b.0 (row q) ds b.2 b.5 (build_binary (row q) q s y e b.0 ms [] b.1 (omega arith) b.3 b.4 b.6 (mono j (inner q) e ms [] lo r) tt) h
  give_end (in_chain q s y z st) e a ms j ds b lo r h = give_end st (binary (at_expression y) o.Both s y (binary (at_expression z) q s z e)) a b.0 6 ds b.2 b.5 (inr (omega arith, b.1, ms, b.3, b.4, refl, refl, refl, b.6, b.7, b.8, mono j 5 e ms [] lo r, tt)) h
  give_end (in_else s c y st) e a ms j ds b lo r h = give_end st (choice (at_expression c) s c y e) a b.0 12 ds b.4 b.7 (omega arith, b.1, b.2, b.3, ms, b.5, b.6, refl, b.9, b.8, b.10, mono j 12 e ms [] lo r, tt) h
  give_end (in_table l es st) e a ms j ds b lo r h = give_end st (table l (each_then es (more e none))) a (b.0 ∷ b.1) 0 ds b.2 (omega arith) (b.0, b.1, refl, b.3, b.4, each_of es e b.1 ms [] b.5 (mono j 12 e ms [] lo r) tt, tt) h
  give_end (in_start st) e a ms j ds b lo r h = elim (split (is_call e) _ _ (due (in_section ds)) h) [
    | inl z ↦ finish_end st (call_of e) a ms ds b.0 b.1 (call_filled e z.0) (call_does e ms [] (mono j 12 e ms [] lo r) tt tt z.0) z.1
    | inr z ↦ absurd cc
  ]
  give_end (in_values xs ys st) e a ms j ds b lo r h = elim (split (size xs == size ys + 1) _ _ (due (in_section ds)) h) [
    | inl z ↦ finish_end st (assign (at_expressions xs) xs (each_then ys (more e none))) a b.0 ds b.3.0 b.3.1 tt
        (b.1, b.2, b.4, omega (arith, eq_is (size xs) (size ys + 1) z.0, size_then ys (more e none)), refl, b.5, each_of ys e b.2 ms [] b.6 (mono j 12 e ms [] lo r) tt) z.1
    | inr z ↦ absurd cc
  ]
  give_end (in_guard gd l st) e a ms j ds b lo r h = absurd (if_none (is_sign_of gd k.Semicolon) (after_sign gd (in_guarded gd l e st)) (due (in_section ds)) (no_sign gd) h)
  give_end (in_result l st) e a ms j ds b lo r h = finish_end st (result l e) a (b.0 ∷ ms) ds b.1.0 b.1.1 tt (b.0, ms, refl, b.2, b.3, mono j 12 e ms [] lo r, tt) h
  give_end (in_while f c st) e a ms j ds b lo r h = finish_end st (repeat_while (at_command c) f c e) a b.0 ds b.2.0 b.2.1 tt (b.1, ms, b.3, refl, b.4, b.5, mono j 12 e ms [] lo r, tt) h
  give_end (in_function y fs st) e a ms j ds b lo r h = defined_end st (function y.at y.letters fs e) a b.0 ds b.3 (b.4.0, b.4.1, b.1, b.2, ms, b.4.2, b.4.3, b.4.4, b.5, b.6, mono j 12 e ms [] lo r, tt) h
  give_end (in_value xs is st) e a ms j ds b lo r h = elim (split (length xs == start_count is + 1) _ _ (due (in_section ds)) h) [
    | inl z ↦ defined_end st (variables (at_names xs) xs (starts_then is (value e no_starts))) a b.0 ds b.3
        (inside_of st b.4, b.1, b.2, b.5, refl, omega (arith, eq_is (length xs) (start_count is + 1) z.0, count_then is (value e no_starts)), b.6, value_last is e b.2 ms [] b.7 (mono j 12 e ms [] lo r) tt) z.1
    | inr z ↦ absurd cc
  ]
  give_end (in_vector l xs is st) e a ms j ds b lo r h = elim (split (length xs == start_count is + 1) _ _ (due (in_section ds)) h) [
    | inl z ↦ defined_end st (variables (at_names xs) xs (starts_then is (vector l e no_starts))) a b.0 ds b.4
        (inside_of st b.5, b.1, b.2, b.6, refl, omega (arith, eq_is (length xs) (start_count is + 1) z.0, count_then is (vector l e no_starts)), b.7, vector_last is l e b.2 b.3 ms [] b.8 b.9 b.10 (mono j 12 e ms [] lo r) tt) z.1
    | inr z ↦ absurd cc
  ]
  give_end _ e a ms j ds b lo r h = absurd cc

  pub finish_end : (st : Stack) (c : Command) (a ms : List Symbol) (ds : Declarations) → Before st a ms → Ready st → Filled c → Does c ms [] → finish st c 1 [] k.Semicolon ≡ ended_as ds → Section ds a
  finish_end (in_valof l st) c a ms ds b r f d h = give_end st (valof l c) a (b.0 ∷ ms) 0 ds b.1 (omega arith) (b.0, ms, refl, b.2, b.3, d, full_of c [] f tt) h
  finish_end (in_label l y st) c a ms ds b r f d h = finish_end st (label l y c) a (b.0 ∷ b.1 ∷ ms) ds b.2.0 b.2.1 tt (b.0, b.1, ms, refl, b.3, b.4, d, ends_of c [] f tt) h
  finish_end (in_guarded gd l e st) c a ms ds b r f d h = finish_end st (guarded gd l e c) a (b.0 ∷ b.1) ds b.3.0 b.3.1 (guarded_filled gd l e c) (guarded_does gd l e c b.0 b.1 b.2 ms [] b.4 b.5 b.6 b.7 d f tt) h
  finish_end (in_default l st) c a ms ds b r f d h = finish_end st (default l c) a (b.0 ∷ b.1 ∷ ms) ds b.2.0 b.2.1 tt (b.0, b.1, ms, refl, b.3, b.4, b.5, d, ends_of c [] f tt) h
  finish_end (in_or l e y st) c a ms ds b r f d h = finish_end st (test l e y c) a (b.0 ∷ b.1) ds b.5.0 b.5.1 tt (b.0, b.1, b.2, b.3, b.4, ms, refl, b.6, b.7, b.8, b.9, b.10, b.11, b.12, d, full_of c [] f tt) h
  finish_end (in_for l y p q none st) c a ms ds b r f d h = finish_end st (for_loop l y p q none c) a (b.0 ∷ b.1 ∷ b.2 ∷ b.3) ds b.7.0 b.7.1 tt (b.0, b.1, b.2, b.3, b.4, b.5, b.6, ms, refl, b.8, b.9, b.10, b.11, b.12, b.13, b.14, b.15, d, full_of c [] f tt) h
  finish_end (in_for l y p q (more i none) st) c a ms ds b r f d h = finish_end st (for_loop l y p q (more i none) c) a (b.0 ∷ b.1 ∷ b.2 ∷ b.3) ds b.9.0 b.9.1 tt (b.0, b.1, b.2, b.3, b.4, b.5, b.6, b.7, b.8, ms, refl, b.10, b.11, b.12, b.13, b.14, b.15, b.16, b.17, b.18, b.19, d, full_of c [] f tt) h
  finish_end (in_for l y p q (more i (more v vs)) st) c a ms ds b r f d h = absurd b
  finish_end (in_routine y fs st) c a ms ds b r f d h = defined_end st (routine y.at y.letters fs c) a b.0 ds b.3 (b.4.0, b.4.1, b.1, b.2, ms, b.4.2, b.4.3, b.4.4, b.5, b.6, d, full_of c [] f tt) h
  finish_end _ c a ms ds b r f d h = absurd cc

without_end : (st : Stack) (a : List Symbol) (ds : Declarations) → Before st a [] → May_miss st → without st 1 [] k.Semicolon ≡ ended_as ds → Section ds a
without_end (in_label l x st) a ds b miss h = finish_end st (label l x empty) a (b.0 ∷ b.1 ∷ []) ds b.2.0 b.2.1 tt (b.0, b.1, [], refl, b.3, b.4, (refl, tt), tt) h
without_end (in_guarded g.Case l e st) a ds b miss h = finish_end st (case_of l e empty) a (b.0 ∷ b.1) ds b.3.0 b.3.1 tt (b.0, b.1, b.2, [], refl, b.4, b.5, b.6, b.7, (refl, tt), tt) h
without_end (in_guarded _ l e st) a ds b miss h = absurd miss
without_end (in_default l st) a ds b miss h = finish_end st (default l empty) a (b.0 ∷ b.1 ∷ []) ds b.2.0 b.2.1 tt (b.0, b.1, [], refl, b.3, b.4, b.5, (refl, tt), tt) h
without_end _ a ds b miss h = absurd miss

due_end : (st : Stack) (a : List Symbol) (ds : Declarations) → Before st a [] → take_due st 1 [] k.Semicolon ≡ ended_as ds → Section ds a
due_end (in_section es) a ds b h = let same : es ≡ ds = cc in let P : Declarations → Type 0 = λ z. Section z a in subst P same b
due_end (at_name m st) a ds b h = elim (split (inside st) _ _ (due (in_section ds)) h) [
  | inl x ↦ absurd cc
  | inr x ↦ absurd cc
]
due_end (at_items l s no_items st) a ds b h = absurd cc
due_end (at_items l s (item m x e is) st) a ds b h = absurd cc
due_end _ a ds b h = absurd cc

pub state_end : (x : State) (a : List Symbol) (ds : Declarations) → Inv x a [] → stepped_by x 1 [] k.Semicolon ≡ ended_as ds → Section ds a
state_end (want st) a ds i h = absurd cc
state_end (have st e) a ds i h = give_end st e a i.0 0 ds i.1 (omega arith) i.2 h
state_end (begin st) a ds i h = absurd cc
state_end (maybe st) a ds i h = without_end st a ds i.0 i.1 h
state_end (did st c) a ds i h = finish_end st c a i.0 ds i.1.0 i.1.1 i.2 i.3 h
state_end (due st) a ds i h = due_end st a ds i h

whole_ok : (z : Option State) (ds : Declarations) → whole z ≡ Ok ds → z ≡ ended_as ds
whole_ok None ds h = absurd cc
whole_ok (Some (due (in_section es))) ds h = let same : es ≡ ds = cc in ap (λ y. Some (due (in_section y))) same
whole_ok (Some (due _)) ds h = absurd cc
whole_ok (Some _) ds h = absurd cc

pub going_ok : (ts : List Symbol) (f : State → Result Declarations (List Symbol)) (x : Option State) (ds : Declarations) → going ts f x ≡ Ok ds → (n : State) × (x ≡ Some n) × (f n ≡ Ok ds)
going_ok ts f None ds h = absurd cc
going_ok ts f (Some n) ds h = (n, refl, h)

run_sound : (ts a : List Symbol) (x : State) (ds : Declarations) → Inv x a ts → run ts x ≡ Ok ds → Section ds a
unfolding run
run_sound [] a x ds i h = state_end x a ds i (whole_ok (stepped_by x 1 [] k.Semicolon) ds h)
run_sound (t ∷ ts) a x ds i h = let w = going_ok (t ∷ ts) (run ts) (step x t) ds h in run_sound ts a w.0 ds (step_sound x t w.0 a ts i w.1) w.2

-- what is read is in the grammar
pub sound : (ds : Declarations) (ts : List Symbol) → reading ts ≡ Ok ds → Section ds ts
sound ds ts h = run_sound ts ts (due (in_section no_declarations)) ds (ts, refl, semis_refl ts) h

pub reads_the_grammar : (ds : Declarations) (ts : List Symbol) → (Section ds ts → reading ts ≡ Ok ds) × (reading ts ≡ Ok ds → Section ds ts)
reads_the_grammar ds ts = (complete ds ts, sound ds ts)
