-- What is read is in the grammar, and what is in the grammar is read: all of it.
use Rattle.bk_grammar.proofs.Terms.{◌≡◌, ℕ, Bool, true, false, cond, List, [], ◌∷◌, ◌++◌, Some, None, refl, inl, inr, arith, Kind, Kind as k, Symbol, Sort, Guard as g, Mention, Items, empty, goto, label, case_of, default, constants, no_items, item, no_starts, upper_name, begins_command, SpellsName, Stack, in_section, in_block, in_let, at_name, at_formals, at_formal, at_formal_end, at_head, at_variable, at_variable_end, at_starts, at_opening, at_items, at_sign, at_goto, at_for, at_forward, at_default, in_from, in_function, in_value, in_vector, in_label, in_guarded, in_default, in_routine, State, want, have, begin, maybe, did, due, is_colon, is_equal, is_semicolon, opens, closes, is_vec, is_open, named, without, inside, in_names, in_formals, headed, take_item, take_due, step, position_of}
use Rattle.bk_grammar.proofs.Before.{is_close_kind, is_colon_kind, is_equal_kind, is_semicolon_kind, opens_kind, closes_kind, is_vec_kind, is_open_kind, Ready, Before, May_miss, Inv, split, some_state, to, if_at}
use Rattle.bk_grammar.proofs.Lists.{names_snoc, names_comma, formals_of, items_semi, items_shut}
use Rattle.bk_grammar.proofs.Moves.{operand_at, command_at, section_at, block_at, declared_at}
use Rattle.bk_grammar.proofs.Sound.{give_at, finish_at, low}

mention_at : (y : Kind) (l : ℕ) (x : List ℕ) (f : Mention → State) (n : State) → named y l x f ≡ Some n → (y ≡ k.Name) × (some_state (f (record { at = l; letters = upper_name x })) ≡ Some n)
mention_at y l x f n h1 = grind arith

-- a symbol that is a name
as_name : (t : Symbol) (f : Mention → State) (n : State) (a us : List Symbol) → named t.kind (position_of t) t.text f ≡ Some n
    → ((m : Mention) → SpellsName m.at m.letters t → Inv (f m) a us) → Inv n a us
as_name t f n a us h i = let m = mention_at t.kind (position_of t) t.text f n h in to (f (record { at = (position_of t); letters = upper_name t.text })) n a us m.1 (i (record { at = (position_of t); letters = upper_name t.text }) (m.0, refl, refl))

names_at : (y : Kind) (xs : List Mention) (st : Stack) (n : State) (a us : List Symbol) → in_names xs st y ≡ Some n → (y ≡ k.Comma → Inv (due (at_variable xs st)) a us) → (y ≡ k.Equal → Inv (due (at_starts xs no_starts st)) a us) → Inv n a us
names_at y xs st n a us h1 h2 h3 = grind (arith, to, due)

formals_at : (y : Kind) (m : Mention) (fs : List Mention) (st : Stack) (n : State) (a us : List Symbol) → in_formals m fs st y ≡ Some n → (y ≡ k.Comma → Inv (due (at_formal m fs st)) a us) → (y ≡ k.Close → Inv (due (at_head m fs st)) a us) → Inv n a us
formals_at y m fs st n a us h1 h2 h3 = grind (arith, to, due, at_head)

head_at : (y : Kind) (m : Mention) (fs : List Mention) (st : Stack) (n : State) (a us : List Symbol) → headed m fs st y ≡ Some n → (y ≡ k.Be → Inv (begin (in_routine m fs st)) a us) → (y ≡ k.Equal → Inv (want (in_function m fs st)) a us) → Inv n a us
head_at y m fs st n a us h1 h2 h3 = grind (arith, to)

inside_at : (b : Bool) (y : Kind) (xs : List Mention) (st : Stack) (n : State) (a us : List Symbol) → cond b (in_names xs st y) None ≡ Some n → (b ≡ true → in_names xs st y ≡ Some n → Inv n a us) → Inv n a us
inside_at b y xs st n a us h1 h2 = grind arith

item_at : (m : ℕ) (s : Sort) (is : Items) (st : Stack) (t : Symbol) (n : State) (a us : List Symbol) → Before (at_items m s is st) a (t ∷ us) → take_item m s is st (position_of t) t.text t.kind ≡ Some n → Inv n a us
item_at m s no_items st t n a us b h = as_name t (λ y. due (at_sign m s no_items y st)) n a us h (λ y sp. (b.0, b.1, b.2, t, b.3, b.4, b.5, b.6, b.7, b.8, sp))
item_at m s (item l x e is) st t n a us b h = elim (split (is_semicolon t.kind) _ _ n h) [
  | inl z ↦ to (due (at_items m s (item l x e is) st)) n a us z.1 (b.0, b.1, b.2, b.3, b.4, b.5, b.6, b.7, items_semi l x e is b.2 t us b.8 (is_semicolon_kind t.kind z.0))
  | inr z ↦ elim (split (closes t.kind) _ _ n z.1) [
    | inl w ↦ declared_at st (constants m s (item l x e is)) n a (b.0 ∷ b.1 ∷ b.2) us b.4 b.3 (b.0, b.1, b.2, t, refl, b.5, b.6, b.7, closes_kind t.kind w.0, items_shut l x e is b.2 (t ∷ us) b.8) w.1
    | inr w ↦ as_name t (λ y. due (at_sign m s (item l x e is) y st)) n a us w.1 (λ y sp. (b.0, b.1, b.2, t, b.3, b.4, b.5, b.6, b.7, b.8, sp))
  ]
]

due_at : (st : Stack) (t : Symbol) (n : State) (a us : List Symbol) → Before st a (t ∷ us) → take_due st (position_of t) t.text t.kind ≡ Some n → Inv n a us
due_at (in_section ds) t n a us b h = section_at ds t n a us b h
due_at (in_block l f ds cs st) t n a us b h = block_at l f ds cs st t n a us b h
due_at (in_let l ds st) t n a us b h = as_name t (λ m. due (at_name m (in_let l ds st))) n a us h (λ m sp. (t, b, sp))
due_at (at_name m st) t n a us b h = grind (arith, to, is_open_kind, inside_at, names_at, (split (is_open t.kind) _ _ n h), (due (at_formals m st)), (inside st))
due_at (at_formals m st) t n a us b h = grind (arith, split, to, due, at_head, is_close_kind, as_name)
due_at (at_formal m fs st) t n a us b h = as_name t (λ f. due (at_formal_end m (fs ++ f ∷ []) st)) n a us h (λ f sp. (b.0, b.1, b.2, b.3, names_snoc fs f b.1 t us b.4 sp))
due_at (at_formal_end m fs st) t n a us b h = grind (arith, formals_at, names_comma, formals_of)
due_at (at_head m fs st) t n a us b h = grind (arith, head_at)
due_at (at_variable xs st) t n a us b h = as_name t (λ m. due (at_variable_end (xs ++ m ∷ []) st)) n a us h (λ m sp. (b.0, b.1, b.2, names_snoc xs m b.0 t us b.3 sp))
due_at (at_variable_end xs st) t n a us b h = grind (arith, names_at, names_comma)
due_at (at_starts xs is st) t n a us b h = elim (split (is_vec t.kind) _ _ n h) [
  | inl x ↦ to (want (in_vector (position_of t) xs is st)) n a us x.1 (b.0, b.1, b.2, t, b.3, b.4, b.5, b.6, b.7, is_vec_kind t.kind x.0, refl)
  | inr x ↦ operand_at t.kind (in_value xs is st) t n a us refl b x.1
]
due_at (at_opening l s st) t n a us b h = if_at (opens t.kind) (due (at_items l s no_items st)) n a us h (λ c. (b.0, t, us, b.1, b.2, b.3, b.4, opens_kind t.kind c, refl))
due_at (at_items l s is st) t n a us b h = item_at l s is st t n a us b h
due_at (at_sign l s is m st) t n a us b h = grind (arith, split, to, is_equal_kind, if_at, is_colon_kind)
due_at (at_goto l st) t n a us b h = as_name t (λ m. did st (goto l m)) n a us h (λ m sp. (b.0 ∷ t ∷ us, b.1, tt, (b.0, t, refl, b.2, b.3, sp)))
due_at (at_for l st) t n a us b h = as_name t (λ m. due (at_forward l m st)) n a us h (λ m sp. (b.0, t, b.1, b.2, b.3, sp))
due_at (at_forward l m st) t n a us b h = if_at (is_equal t.kind) (want (in_from l m st)) n a us h (λ c. (b.0, b.1, t, b.2, b.3, b.4, b.5, is_equal_kind t.kind c))
due_at (at_default l st) t n a us b h = if_at (is_colon t.kind) (maybe (in_default l st)) n a us h (λ c. ((b.0, t, b.1, b.2, b.3, is_colon_kind t.kind c), tt))
due_at _ t n a us b h = absurd cc

without_at : (st : Stack) (t : Symbol) (n : State) (a us : List Symbol) → Before st a (t ∷ us) → May_miss st → begins_command t.kind ≡ false → without st (position_of t) t.text t.kind ≡ Some n → Inv n a us
without_at (in_label l x st) t n a us b miss f h = finish_at st (label l x empty) t n a (b.0 ∷ b.1 ∷ t ∷ us) us b.2.0 b.2.1 tt (b.0, b.1, t ∷ us, refl, b.3, b.4, (refl, f), tt) h
without_at (in_guarded g.Case l e st) t n a us b miss f h = finish_at st (case_of l e empty) t n a (b.0 ∷ b.1) us b.3.0 b.3.1 tt (b.0, b.1, b.2, t ∷ us, refl, b.4, b.5, b.6, b.7, (refl, f), tt) h
without_at (in_guarded _ l e st) t n a us b miss f h = absurd miss
without_at (in_default l st) t n a us b miss f h = finish_at st (default l empty) t n a (b.0 ∷ b.1 ∷ t ∷ us) us b.2.0 b.2.1 tt (b.0, b.1, t ∷ us, refl, b.3, b.4, b.5, (refl, f), tt) h
without_at _ t n a us b miss f h = absurd miss

may_ready : (st : Stack) → May_miss st → Ready st
may_ready st h1 = grind arith

pub step_sound : (x : State) (t : Symbol) (n : State) (a us : List Symbol) → Inv x a (t ∷ us) → step x t ≡ Some n → Inv n a us
step_sound (want st) t n a us i h = operand_at t.kind st t n a us refl i h
step_sound (have st e) t n a us i h = give_at st e t n a i.0 us 0 i.1 (omega arith) (low e i.0 us t i.2) h
step_sound (begin st) t n a us i h = command_at t.kind st t n a us refl i.0 i.1 h
step_sound (maybe st) t n a us i h = grind (arith, command_at, without_at, (split (begins_command t.kind) _ _ n h), (may_ready st i.1))
step_sound (did st c) t n a us i h = finish_at st c t n a i.0 us i.1.0 i.1.1 i.2 i.3 h
step_sound (due st) t n a us i h = due_at st t n a us i h
