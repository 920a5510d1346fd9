-- Constants of a regular tree are words where those of MANIFEST are.
use Rattle.bk_simulation.proofs.Words.{◌≡◌, ℕ, zero, suc, ◌+◌, ◌-◌, ◌*◌, ◌<◌, ◌^◌, ◌%◌, ◌/◌, ◌==◌, nat_lt, ltb, ltb-false, ℤ, pos, negsuc, neg_ℤ, nat_abs, int_div, int_rem, Bool, true, false, not, List, Option, Some, None, cond, refl, ap, ◌∙◌, subst, arith, if◌then◌else◌, bit_xor, truth, signed, word_of, word_not, Operator, Expression, Bound, Binding, bound_in, named_word, prefix_word, infix_word, constant_word, or_lt, xor_lt, mod_below, and_le_l, div-le_self, mod-le, Prefix, Regular, option_and_then, bytes_eq, GLOBAL_NUMBER, Items, Definitions, bind, is_global, within, procedure_in_scope, procedures_in_scope, manifests_in_scope, statics_in_scope, globals_in_scope, RegularItems}
use Rattle.bk_simulation.proofs.LaidExpressions.{HasWords}
use Rattle.bk_simulation.proofs.Terms.{Operator as o, Prefix as q, Bound as b}
use Rattle.bk_tree.specs.Tree as t

some_is : (x y : ℕ) → Some x ≡ Some y → x ≡ y
some_is x y e = cc

below : (x y : ℕ) → x < 2 ^ 32 → Some x ≡ Some y → y < 2 ^ 32
below x y h e = subst (λ k. k < 2 ^ 32) (some_is x y e) h

truth_below : (x : Bool) → truth x < 2 ^ 32
truth_below true = omega arith
truth_below false = omega arith

named_below : (bs : List Binding) → HasWords bs → (x : List ℕ) (y : Option Bound) (v : ℕ) → bound_in bs x ≡ y → named_word y ≡ Some v → v < 2 ^ 32
named_below bs h x (Some (b.Constant (Some w))) v e k = h x v (e ∙ ap (λ z. Some (b.Constant z)) k)
named_below bs h x _ v e k = absurd (cc)

prefix_below : (f : Prefix) (x v : ℕ) → x < 2 ^ 32 → prefix_word f x ≡ Some v → v < 2 ^ 32
prefix_below q.Plus x v h e = below x v h e
prefix_below q.Minus x v h e = below _ v (mod_below (0 + (2 ^ 32 - x)) (2 ^ 32) (omega arith)) e
prefix_below q.Not x v h e = below (word_not x) v (omega arith) e
prefix_below _ x v h e = absurd (cc)

cond_below : (q : Bool) (x v : ℕ) → x < 2 ^ 32 → cond q None (Some x) ≡ Some v → v < 2 ^ 32
cond_below true x v h e = absurd (cc)
cond_below false x v h e = below x v h e

if_below : (q : Bool) (x v : ℕ) → x < 2 ^ 32 → Some (if q then x else 0) ≡ Some v → v < 2 ^ 32
if_below true x v h e = below x v h e
if_below false x v h e = below 0 v (omega arith) e

-- quotients and remainders
abbrev IsSmall : ℤ → Type 0
IsSmall (pos n) = n < 2 ^ 32
IsSmall (negsuc n) = suc n < 2 ^ 32

signed_in : (q : Bool) (x : ℕ) → ltb x (2 ^ 31) ≡ q → x < 2 ^ 32 → IsSmall (cond q (pos x) (negsuc (2 ^ 32 - suc x)))
signed_in true x e h = h
signed_in false x e h = let low = ltb-false x (2 ^ 31) e in omega (arith, low, h)

signed_small : (x : ℕ) → x < 2 ^ 32 → IsSmall (signed x)
signed_small x h = signed_in (ltb x (2 ^ 31)) x refl h

negated_below : (n : ℕ) → word_of (neg_ℤ (pos n)) < 2 ^ 32
negated_below zero = omega arith
negated_below (suc n) = omega arith

quotient_below : (x y : ℤ) → IsSmall x → word_of (int_div x y) < 2 ^ 32
quotient_below (pos a) (pos c) h = let l = div-le_self a c in omega (arith, h, l)
quotient_below (pos a) (negsuc c) h = negated_below (a / suc c)
quotient_below (negsuc a) (pos c) h = negated_below (suc a / c)
quotient_below (negsuc a) (negsuc c) h = let l = div-le_self (suc a) (suc c) in omega (arith, h, l)

remainder_below : (x y : ℤ) → IsSmall x → word_of (int_rem x y) < 2 ^ 32
remainder_below (pos a) y h = let l = mod-le a (nat_abs y) in omega (arith, h, l)
remainder_below (negsuc a) y h = negated_below (suc a % nat_abs y)

infix_below : (f : Operator) (x y v : ℕ) → x < 2 ^ 32 → y < 2 ^ 32 → infix_word f x y ≡ Some v → v < 2 ^ 32
infix_below o.Subscript x y v h i e = absurd (cc)
infix_below o.Byte x y v h i e = absurd (cc)
infix_below o.Times x y v h i e = below _ v (mod_below (x * y) (2 ^ 32) (omega arith)) e
infix_below o.Over x y v h i e = cond_below (y == 0) _ v (quotient_below (signed x) (signed y) (signed_small x h)) e
infix_below o.Rem x y v h i e = cond_below (y == 0) _ v (remainder_below (signed x) (signed y) (signed_small x h)) e
infix_below o.Add x y v h i e = below _ v (mod_below (x + y) (2 ^ 32) (omega arith)) e
infix_below o.Subtract x y v h i e = below _ v (mod_below (x + (2 ^ 32 - y)) (2 ^ 32) (omega arith)) e
infix_below o.Equal x y v h i e = below _ v (truth_below (x == y)) e
infix_below o.Unequal x y v h i e = below _ v (truth_below (not (x == y))) e
infix_below o.ShiftLeft x y v h i e = if_below (nat_lt y 32) _ v (mod_below (x * 2 ^ y) (2 ^ 32) (omega arith)) e
infix_below o.ShiftRight x y v h i e = if_below (nat_lt y 32) _ v (let l = div-le_self x (2 ^ y) in omega (arith, h, l)) e
infix_below o.Both x y v h i e = below _ v (let l = and_le_l x y in omega (arith, h, l)) e
infix_below o.Either x y v h i e = below _ v (or_lt 32 x y h i) e
infix_below o.Same x y v h i e = below (word_not (bit_xor x y)) v (omega arith) e
infix_below o.Differ x y v h i e = below _ v (xor_lt 32 x y h i) e
infix_below _ x y v h i e = below _ v (truth_below _) e

then_prefix : (f : Prefix) (y : Option ℕ) (v : ℕ) → ((x : ℕ) → y ≡ Some x → x < 2 ^ 32) → option_and_then (prefix_word f) y ≡ Some v → v < 2 ^ 32
then_prefix f None v h e = absurd (cc)
then_prefix f (Some x) v h e = prefix_below f x v (h x refl) e

then_infix : (f : Operator) (y z : Option ℕ) (v : ℕ) → ((x : ℕ) → y ≡ Some x → x < 2 ^ 32) → ((x : ℕ) → z ≡ Some x → x < 2 ^ 32) → option_and_then (λ x. option_and_then (infix_word f x) z) y ≡ Some v → v < 2 ^ 32
then_infix f (Some x) (Some y) v h i e = infix_below f x y v (h x refl) (i y refl) e
then_infix f _ _ v h i e = absurd (cc)

pub constant_small : (bs : List Binding) → HasWords bs → (e : Expression) → Regular e → (v : ℕ) → constant_word bs e ≡ Some v → v < 2 ^ 32
constant_small bs h (t.name l x) r v e = named_below bs h x (bound_in bs x) v refl e
constant_small bs h (t.number l n) r v e = below n v r e
constant_small bs h (t.truth l x) r v e = below _ v (truth_below x) e
constant_small bs h (t.parens l x) r v e = constant_small bs h x r v e
constant_small bs h (t.unary l f x) r v e = then_prefix f (constant_word bs x) v (λ y k. constant_small bs h x r y k) e
constant_small bs h (t.binary l f m x y) r v e = then_infix f (constant_word bs x) (constant_word bs y) v (λ z k. constant_small bs h x r.0 z k) (λ z k. constant_small bs h y r.1 z k) e
constant_small bs h _ r v e = absurd (cc)

-- ---- constants are words

pub words_bound : (x : List ℕ) (y : Bound) (bs : List Binding) → ((v : ℕ) → Some y ≡ Some (b.Constant (Some v)) → v < 2 ^ 32) → HasWords bs → HasWords (bind x y bs)
words_bound x y bs f h z v e = picked (bytes_eq x z) e
  where
    picked : (q : Bool) → cond q (Some y) (bound_in bs z) ≡ Some (b.Constant (Some v)) → v < 2 ^ 32
    picked true e = f v e
    picked false e = h z v e

pub words_constant : (x : List ℕ) (e : Expression) (bs : List Binding) → HasWords bs → Regular e → HasWords (bind x (b.Constant (constant_word bs e)) bs)
words_constant x e bs h r = words_bound x (b.Constant (constant_word bs e)) bs (λ v q. constant_small bs h e r v (cc)) h

pub words_manifests : (bs : List Binding) (is : Items) → HasWords bs → RegularItems is → HasWords (manifests_in_scope bs is)
words_manifests bs t.no_items h r = h
words_manifests bs (t.item l x e is) h r = words_manifests (bind x (b.Constant (constant_word bs e)) bs) is (words_constant x e bs h r.0) r.1

pub words_statics : (n : ℕ) (is : Items) (bs : List Binding) → HasWords bs → HasWords (statics_in_scope n is bs)
words_statics n t.no_items bs h = h
words_statics n (t.item l x e is) bs h = words_statics (n + 1) is (bind x (b.Static n) bs) (words_bound x (b.Static n) bs (λ v q. absurd (cc)) h)

pub words_globals : (os : List Binding) (is : Items) (bs : List Binding) → HasWords bs → HasWords (globals_in_scope os is bs)
words_globals os t.no_items bs h = h
words_globals os (t.item l x e is) bs h =
    let y : Bound = b.Global (within GLOBAL_NUMBER (constant_word os e)) in
    words_globals os is (bind x y bs) (words_bound x y bs (λ v q. absurd (cc)) h)

words_procedure : (n : ℕ) (x : List ℕ) (bs : List Binding) (q : Bool) → HasWords bs → HasWords (cond q bs (bind x (b.Static n) bs))
words_procedure n x bs true h = h
words_procedure n x bs false h = words_bound x (b.Static n) bs (λ v q. absurd (cc)) h

pub words_procedures : (n : ℕ) (ds : Definitions) (bs : List Binding) → HasWords bs → HasWords (procedures_in_scope n ds bs)
words_procedures n t.no_definitions bs h = h
words_procedures n (t.define (t.routine l x fs c) ds) bs h = words_procedures (n + 1) ds (procedure_in_scope n x bs) (words_procedure n x bs (is_global (bound_in bs x)) h)
words_procedures n (t.define (t.function l x fs e) ds) bs h = words_procedures (n + 1) ds (procedure_in_scope n x bs) (words_procedure n x bs (is_global (bound_in bs x)) h)
words_procedures n (t.define (t.variables l xs is) ds) bs h = words_procedures n ds bs h
