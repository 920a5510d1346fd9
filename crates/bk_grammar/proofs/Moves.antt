-- What is read is in the grammar: each step.
use Rattle.bk_grammar.proofs.Terms.{◌≡◌, ℕ, ◌≤◌, Bool, true, false, cond, List, ◌∷◌, Option, Some, None, refl, sym, ap, subst, ◌∙◌, inl, inr, arith, nat_lt, ltb-true, Kind, Kind as k, Symbol, Operator, Prefix, Sort, Simple, Guard, Guard as g, Mention, Expression, Expressions, Command, Commands, Declaration, Declarations, Items, Definition, name, number, text, truth, none, simple, block, no_commands, also, constants, definitions, no_declarations, declare, no_definitions, define, upper_name, number_word, row, left, is_relation, infix_of, prefix_of, leaf, simple_of, sort_of, guard_of, sign_of, repeats, is_and, goes, Fails, last, Full, EndsCommand, Filled, Reads, Does, Declares, Defines, Stack, in_section, in_block, in_let, at_items, at_goto, at_for, at_default, in_binary, in_chain, in_then, in_args, in_start, in_dests, in_values, in_guard, in_test, in_result, in_by, in_guarded, in_for, State, want, begin, did, due, limit, linked, infixed, push, is_semicolon, closes, is_sign_of, guarded, after_sign, prefixed, no_args, leaved, take_operand, take_start, take_command, sorted, take_declaration, take_in_section, in_head, take_in_block, declared, declared_by, defined_by, again, dests, labelled, in_constants, to_or_do, inside, declarations_then, definitions_then, position_of}
use Rattle.bk_grammar.proofs.Begin.{row_6}
use Rattle.bk_grammar.proofs.Steps.{infix_goes, infix_row}
use Rattle.bk_grammar.proofs.Complete.{after}
use Rattle.bk_grammar.proofs.Before.{is_colon_kind, is_do_kind, is_and_kind, is_semicolon_kind, closes_kind, is_let_kind, in_block_is, At_head, Ready, Before, Inv, mono, split, to, Reached, zero_row, one_less}
use Rattle.bk_grammar.proofs.Lists.{semis_refl, semis_snoc, heads_snoc, inside_semi, inside_declare, inside_shut, definitions_snoc, definitions_all}

pub up_to : (j : ℕ) (q : Operator) (e : Expression) (ms us : List Symbol) (t : Symbol) → Reached j e ms us t → infix_of t.kind ≡ Some q → j ≤ row q
up_to j q e ms us t r h = grind (arith, infix_goes)

pub cond_inv : (b : Bool) (x y : State) (a us : List Symbol) → (b ≡ true → Inv x a us) → (b ≡ false → Inv y a us) → Inv (cond b x y) a us
cond_inv b x y a us h1 h2 = grind arith

pub linked_inv : (z : Option Expression) (q : Operator) (s : ℕ) (e : Expression) (st : Stack) (a us : List Symbol) → (z ≡ None → Inv (want (in_binary q s e st)) a us) → ((b : Expression) → z ≡ Some b → Inv (want (in_chain q s e b st)) a us) → Inv (linked q s e st z) a us
linked_inv z q s e st a us h1 h2 = grind arith

pub left_plain : (q : Operator) → is_relation q ≡ false → left q ≡ row q
left_plain q h = rw h refl

pub left_rel : (q : Operator) → is_relation q ≡ true → 5 ≡ left q
left_rel q h = rw h refl

pub infixed_at : (z : Option Operator) (st : Stack) (e : Expression) (t : Symbol) (n : State) (a ms us : List Symbol) (j : ℕ) → infix_of t.kind ≡ z → Before st a ms → Reached j e ms us t → goes (limit st) t.kind ≡ true → infixed st e (position_of t) z ≡ Some n → Inv n a us
infixed_at None st e t n a ms us j is b r g h = absurd cc
infixed_at (Some q) st e t n a ms us j is b r g h =
    let le = infix_row t.kind q (limit st) is g in
    let whole_e = mono j (row q) e ms (t ∷ us) (up_to j q e ms us t r is) r.reads in
    let P : ℕ → Type 0 = λ rows. Reads rows e ms (t ∷ us) in
    to (cond (is_relation q) (linked q (position_of t) e st (last e)) (want (in_binary q (position_of t) e st))) n a us h
    (cond_inv (is_relation q) (linked q (position_of t) e st (last e)) (want (in_binary q (position_of t) e st)) a us
    (λ rel. let six = subst P (row_6 q rel) whole_e in linked_inv (last e) q (position_of t) e st a us
    (λ free. (ms, t, b, is, refl, le, subst P (left_rel q rel) (one_less e ms (t ∷ us) six free)))
    (λ x ends. (ms, t, b, is, refl, omega (arith, row_6 q rel), rel, ends, six)))
    (λ rel. (ms, t, b, is, refl, le, subst P (sym (left_plain q rel)) whole_e)))

-- a symbol with which the expression goes on
pub push_at : (y : Kind) (st : Stack) (e : Expression) (t : Symbol) (n : State) (a ms us : List Symbol) (j : ℕ) → t.kind ≡ y → Before st a ms → Reached j e ms us t → goes (limit st) t.kind ≡ true → push st e y (position_of t) ≡ Some n → Inv n a us
push_at k.Open st e t n a ms us j is b r g h = to (want (in_args (position_of t) e none st)) n a us h (ms, t, us, b, is, refl, zero_row j e ms us t r is, refl)
push_at k.Arrow st e t n a ms us j is b r g h =
    let wide : nat_lt 11 (limit st) ≡ true = sym (ap (goes (limit st)) is) ∙ g in
    let big = ltb-true 11 (limit st) wide in
    let low : j ≤ 11 = elim r.top [ inl le ↦ le | inr f ↦ let w = ap (goes 12) is in absurd cc ] in
    to (want (in_then (position_of t) e st)) n a us h (ms, t, b, is, refl, omega arith, mono j 11 e ms (t ∷ us) low r.reads)
push_at y st e t n a ms us j is b r g h = infixed_at (infix_of y) st e t n a ms us j (ap infix_of is) b r g h

-- ---- operands

pub leaf_reads : (y : Kind) (t : Symbol) (us : List Symbol) (e : Expression) → t.kind ≡ y → leaf y (position_of t) t.text ≡ Some e → Reads 0 e (t ∷ us) us
leaf_reads y t us e h1 h2 = grind (arith, text, leaf, number, number_word, truth)

pub prefix_at : (z : Option Prefix) (st : Stack) (t : Symbol) (n : State) (a us : List Symbol) → prefix_of t.kind ≡ z → Before st a (t ∷ us) → prefixed st (position_of t) z ≡ Some n → Inv n a us
prefix_at z st t n a us h1 h2 h3 = grind (arith, to)

pub leaved_at : (z : Option Expression) (y : Kind) (st : Stack) (t : Symbol) (n : State) (a us : List Symbol) → t.kind ≡ y → leaf y (position_of t) t.text ≡ z → Before st a (t ∷ us) → leaved st y (position_of t) z ≡ Some n → Inv n a us
leaved_at z y st t n a us h1 h2 h3 h4 = grind (arith, prefix_at, to, leaf_reads)

pub no_args_at : (st : Stack) (t : Symbol) (n : State) (a us : List Symbol) → t.kind ≡ k.Close → Before st a (t ∷ us) → no_args st ≡ Some n → Inv n a us
no_args_at st t n a us h1 h2 h3 = grind (arith, to, none)

pub operand_at : (y : Kind) (st : Stack) (t : Symbol) (n : State) (a us : List Symbol) → t.kind ≡ y → Before st a (t ∷ us) → take_operand st (position_of t) t.text y ≡ Some n → Inv n a us
operand_at y st t n a us h1 h2 h3 = grind (arith, to, no_args_at, split, none, leaved_at, leaf, text)

-- ---- commands

pub start_at : (z : Option Simple) (w : Option Guard) (st : Stack) (t : Symbol) (n : State) (a us : List Symbol) → simple_of t.kind ≡ z → guard_of t.kind ≡ w → Before st a (t ∷ us) → Ready st → take_start st (position_of t) t.text t.kind z w ≡ Some n → Inv n a us
start_at (Some x) w st t n a us is j b r h = to (did st (simple (position_of t) x)) n a us h (t ∷ us, (b, r), tt, (t, refl, is, refl))
start_at None (Some gd) st t n a us is j b r h = to (want (in_guard gd (position_of t) st)) n a us h (t, (b, r), j, refl)
start_at None None st t n a us is j b r h = operand_at t.kind (in_start st) t n a us refl (b, r) h

pub start_as : (y : Kind) (st : Stack) (t : Symbol) (n : State) (a us : List Symbol) → t.kind ≡ y → Before st a (t ∷ us) → Ready st → take_start st (position_of t) t.text y (simple_of y) (guard_of y) ≡ Some n → Inv n a us
start_as y st t n a us is b r h = grind (arith, text, start_at)

pub command_at : (y : Kind) (st : Stack) (t : Symbol) (n : State) (a us : List Symbol) → t.kind ≡ y → Before st a (t ∷ us) → Ready st → take_command st (position_of t) t.text y ≡ Some n → Inv n a us
command_at k.Goto st t n a us is b r h = to (due (at_goto (position_of t) st)) n a us h (t, (b, r), is, refl)
command_at k.Test st t n a us is b r h = to (want (in_test (position_of t) st)) n a us h (t, (b, r), is, refl)
command_at k.For st t n a us is b r h = to (due (at_for (position_of t) st)) n a us h (t, (b, r), is, refl)
command_at k.ResultIs st t n a us is b r h = to (want (in_result (position_of t) st)) n a us h (t, (b, r), is, refl)
command_at k.Default st t n a us is b r h = to (due (at_default (position_of t) st)) n a us h (t, (b, r), is, refl)
command_at k.SectionOpen st t n a us is b r h = to (due (in_block (position_of t) true no_declarations no_commands st)) n a us h (t, us, (b, r), is, refl, semis_refl us)
command_at y st t n a us is b r h = start_as y st t n a us is b r h

pub full_of : (c : Command) (us : List Symbol) → Filled c → Fails repeats us → Full c us
full_of c us h1 h2 = grind arith

pub ends_of : (c : Command) (us : List Symbol) → Filled c → Fails repeats us → EndsCommand c us
ends_of c us h1 h2 = grind arith

pub again_at : (y : Kind) (st : Stack) (c : Command) (t : Symbol) (n : State) (a ms us : List Symbol) → t.kind ≡ y → Before st a ms → Ready st → Filled c → Does c ms (t ∷ us) → again st c y ≡ Some n → Inv n a us
again_at y st c t n a ms us h1 h2 h3 h4 h5 h6 = grind (arith, to, did)

pub sign_is : (gd : Guard) (t : Kind) → is_sign_of gd t ≡ true → t ≡ sign_of gd
sign_is gd t h1 = grind (arith, is_colon_kind, is_do_kind)

pub behind_inv : (gd : Guard) (m : ℕ) (e : Expression) (st : Stack) (a us : List Symbol) → Before (in_guarded gd m e st) a us → Inv (after_sign gd (in_guarded gd m e st)) a us
behind_inv gd m e st a us h1 = grind arith

pub guarded_does : (gd : Guard) (m : ℕ) (e : Expression) (c : Command) (t : Symbol) (ms : List Symbol) (d : Symbol) (ns z : List Symbol) → guard_of t.kind ≡ Some gd → position_of t ≡ m → Reads 12 e ms (d ∷ ns) → d.kind ≡ sign_of gd → Does c ns z → Filled c → Fails repeats z → Does (guarded gd m e c) (t ∷ ms) z
guarded_does gd m e c t ms d ns z h1 h2 h3 h4 h5 h6 h7 = grind (arith, ends_of, full_of)

pub guarded_filled : (gd : Guard) (m : ℕ) (e : Expression) (c : Command) → Filled (guarded gd m e c)
guarded_filled gd m e c = grind arith

pub dests_at : (y : Kind) (xs : Expressions) (st : Stack) (n : State) (a us : List Symbol) → dests xs st y ≡ Some n → (y ≡ k.Comma → Inv (want (in_dests xs st)) a us) → (y ≡ k.Assign → Inv (want (in_values xs none st)) a us) → Inv n a us
dests_at y xs st n a us h1 h2 h3 = grind (arith, to, none)

pub to_or_do_at : (y : Kind) (l : ℕ) (x : Mention) (p q : Expression) (st : Stack) (n : State) (a us : List Symbol) → to_or_do l x p q st y ≡ Some n → (y ≡ k.By → Inv (want (in_by l x p q st)) a us) → (y ≡ k.Do → Inv (begin (in_for l x p q none st)) a us) → Inv n a us
to_or_do_at y l x p q st n a us h1 h2 h3 = grind (arith, to, none)

pub name_spelled : (y : Kind) (m : ℕ) (s : List ℕ) (l : ℕ) (x : List ℕ) → leaf y m s ≡ Some (name l x) → (y ≡ k.Name) × (m ≡ l) × (upper_name s ≡ x)
name_spelled y m s l x h1 = grind arith

pub labelled_at : (e : Expression) (st : Stack) (t : Symbol) (n : State) (a ms us : List Symbol) → Before st a ms → Ready st → Reads 0 e ms (t ∷ us) → t.kind ≡ k.Colon → labelled e st ≡ Some n → Inv n a us
labelled_at e st t n a ms us h1 h2 h3 h4 h5 = grind (arith, name_spelled, text, to)

-- ---- declarations

pub sorted_at : (z : Option Sort) (st : Stack) (t : Symbol) (other : Option State) (n : State) (a us : List Symbol) → sort_of t.kind ≡ z → Before st a (t ∷ us) → At_head st → sorted st (position_of t) z other ≡ Some n → (other ≡ Some n → Inv n a us) → Inv n a us
sorted_at z st t other n a us h1 h2 h3 h4 h5 = grind (arith, to, due)

pub declaration_at : (st : Stack) (t : Symbol) (other : Option State) (n : State) (a us : List Symbol) → Before st a (t ∷ us) → At_head st → take_declaration st (position_of t) t.kind other ≡ Some n → (other ≡ Some n → Inv n a us) → Inv n a us
declaration_at st t other n a us b head h i = grind (arith, split, to, due, is_let_kind, sorted_at)

pub section_at : (ds : Declarations) (t : Symbol) (n : State) (a us : List Symbol) → Before (in_section ds) a (t ∷ us) → take_in_section ds (position_of t) t.kind ≡ Some n → Inv n a us
section_at ds t n a us b h = grind (arith, split, to, due, in_section, semis_snoc, is_semicolon_kind, declaration_at)

pub block_command : (f : Bool) (l : ℕ) (ds : Declarations) (cs : Commands) (st : Stack) (t : Symbol) (n : State) (a us : List Symbol) → Before (in_block l f ds cs st) a (t ∷ us) → cond f (take_command (in_block l f ds cs st) (position_of t) t.text t.kind) None ≡ Some n → Inv n a us
block_command true l ds cs st t n a us b h = command_at t.kind (in_block l true ds cs st) t n a us refl b tt h
block_command false l ds cs st t n a us b h = absurd cc

pub block_rest : (l : ℕ) (f : Bool) (ds : Declarations) (cs : Commands) (st : Stack) (t : Symbol) (n : State) (a us : List Symbol) → Before (in_block l f ds cs st) a (t ∷ us)
    → cond (in_head cs) (take_declaration (in_block l f ds cs st) (position_of t) t.kind (cond f (take_command (in_block l f ds cs st) (position_of t) t.text t.kind) None)) (cond f (take_command (in_block l f ds cs st) (position_of t) t.text t.kind) None) ≡ Some n → Inv n a us
block_rest l f ds no_commands st t n a us b h = declaration_at (in_block l f ds no_commands st) t _ n a us b tt h (λ w. block_command f l ds no_commands st t n a us b w)
block_rest l f ds (also c cs) st t n a us b h = block_command f l ds (also c cs) st t n a us b h

pub block_at : (l : ℕ) (f : Bool) (ds : Declarations) (cs : Commands) (st : Stack) (t : Symbol) (n : State) (a us : List Symbol) → Before (in_block l f ds cs st) a (t ∷ us) → take_in_block l f ds cs st (position_of t) t.text t.kind ≡ Some n → Inv n a us
block_at l f ds cs st t n a us b h = elim (split (is_semicolon t.kind) _ _ n h) [
  | inl x ↦ to (due (in_block l true ds cs st)) n a us x.1 (b.0, b.1, b.2, b.3, b.4, inside_semi f ds cs b.1 t us b.5 (is_semicolon_kind t.kind x.0))
  | inr x ↦ elim (split (closes t.kind) _ _ n x.1) [
    | inl y ↦ to (did st (block l ds cs)) n a us y.1 (b.0 ∷ b.1, b.2, tt, inside_shut l f ds cs b.0 b.1 t us b.3 b.4 (closes_kind t.kind y.0) b.5)
    | inr y ↦ block_rest l f ds cs st t n a us b y.1
  ]
]

-- one declaration more
pub added : (fr : Stack) (d : Declaration) (a m z : List Symbol) → At_head fr → Before fr a m → Declares (in_block_is fr) d m z → Before (after fr d) a z
added (in_section ds) d a m z head b r = (z, heads_snoc false ds d a b.0 m z b.1 b.2 r, semis_refl z)
added (in_block l f ds no_commands st) d a m z head b r = (b.0, b.1, b.2, b.3, b.4, inside_declare f ds d b.1 m z b.5 r)
added fr d a m z head b r = absurd head

pub declared_at : (fr : Stack) (d : Declaration) (n : State) (a m us : List Symbol) → At_head fr → Before fr a m → Declares (in_block_is fr) d m us → declared fr d ≡ Some n → Inv n a us
declared_at fr d n a m us h1 h2 h3 h4 = grind (arith, to, due, after, in_section, added)

pub declared_by_at : (fr : Stack) (d : Declaration) (t : Symbol) (n : State) (a m us : List Symbol) → At_head fr → Before fr a m → Declares (in_block_is fr) d m (t ∷ us) → declared_by fr d (position_of t) t.text t.kind ≡ Some n → Inv n a us
declared_by_at (in_section ds) d t n a m us head b r h = section_at (declarations_then ds (declare d no_declarations)) t n a us (added (in_section ds) d a m (t ∷ us) head b r) h
declared_by_at (in_block l f ds no_commands st) d t n a m us head b r h = block_at l false (declarations_then ds (declare d no_declarations)) no_commands st t n a us (added (in_block l f ds no_commands st) d a m (t ∷ us) head b r) h
declared_by_at fr d t n a m us head b r h = absurd head

-- whether the LET stands in a block
abbrev pub of_let : Stack → Bool
of_let (in_let l ds st) = in_block_is st
of_let _ = false

pub inside_of : (st : Stack) → inside st ≡ true → of_let st ≡ true
inside_of st h1 = cc

pub defined_at : (st : Stack) (d : Definition) (t : Symbol) (n : State) (a ms us : List Symbol) → Before st a ms → Defines (of_let st) d ms (t ∷ us) → defined_by st d (position_of t) t.text t.kind ≡ Some n → Inv n a us
defined_at (in_let l ds st) d t n a ms us b r h = elim (split (is_and t.kind) _ _ n h) [
  | inl x ↦ to (due (in_let l (definitions_then ds (define d no_definitions)) st)) n a us x.1 (b.0, b.1, b.2, b.3, b.4, b.5, definitions_snoc (in_block_is st) ds d b.1 ms t us b.6 r (is_and_kind t.kind x.0))
  | inr x ↦ declared_by_at st (definitions l (definitions_then ds (define d no_definitions))) t n a (b.0 ∷ b.1) us b.5 b.2 (b.0, b.1, refl, b.3, b.4, definitions_all (in_block_is st) ds d b.1 ms (t ∷ us) b.6 r x.0) x.1
]
defined_at _ d t n a ms us b r h = absurd cc

pub constants_at : (y : Kind) (l : ℕ) (s : Sort) (is : Items) (st : Stack) (n : State) (a us : List Symbol) → in_constants l s is st y ≡ Some n → (y ≡ k.Semicolon → Inv (due (at_items l s is st)) a us) → (y ≡ k.SectionClose → declared st (constants l s is) ≡ Some n → Inv n a us) → Inv n a us
constants_at y l s is st n a us h1 h2 h3 = grind (arith, to, due)
