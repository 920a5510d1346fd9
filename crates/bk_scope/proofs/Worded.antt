-- What has a word as a constant is not wrong.
use Rattle.bk_scope.proofs.Terms.{◌≡◌, ℕ, Bool, true, false, cond, Option, Some, None, List, [], ◌∷◌, ◌++◌, refl, sym, ap, ◌∙◌, ◌==◌, option_and_then, none-some, Operator, Operator as o, Prefix, Prefix as q, Expression, name, number, text, truth, query, parens, unary, binary, choice, apply, valof, table, Bound, Constant, Global, Static, Variable, Label, Binding, bound_in, Breach, divided_by_zero, named_word, prefix_word, infix_word, constant_word, is_prefix_of_constants, is_infix_of_constants, divides, divides_by_zero, wrong_name, wrongs, first_of, else_first}
use Rattle.bk_scope.proofs.Firsts.{first_of-append}

pub name_right : (k l : ℕ) (x : List ℕ) (b : Option Bound) (w : ℕ) → named_word b ≡ Some w → wrong_name k l x b ≡ []
name_right k l x (Some (Constant c)) w e = refl
name_right k l x _ w e = absurd (none-some w e)

-- an operand that has a word, and constants hold its prefix
pub prefix_right : (p : Prefix) (m : Option ℕ) (w : ℕ) → option_and_then (prefix_word p) m ≡ Some w → (is_prefix_of_constants p ≡ true) × (x : ℕ) × (m ≡ Some x)
prefix_right p None w e = absurd (none-some w e)
prefix_right q.Contents (Some x) w e = absurd (none-some w e)
prefix_right q.Address (Some x) w e = absurd (none-some w e)
prefix_right _ (Some x) w e = (refl, x, refl)

not_zero : (b : Bool) (v w : ℕ) → cond b None (Some v) ≡ Some w → b ≡ false
not_zero false v w e = refl
not_zero true v w e = absurd (none-some w e)

between_right : (o : Operator) (x y w : ℕ) → infix_word o x y ≡ Some w → (is_infix_of_constants o ≡ true) × (cond (divides o) (y == 0) false ≡ false)
between_right o.Subscript x y w e = absurd (none-some w e)
between_right o.Byte x y w e = absurd (none-some w e)
between_right o.Over x y w e = (refl, not_zero (y == 0) _ w e)
between_right o.Rem x y w e = (refl, not_zero (y == 0) _ w e)
between_right _ x y w e = (refl, refl)

-- two operands that have words, and no division by zero
pub infix_right : (o : Operator) (m n : Option ℕ) (w : ℕ) → option_and_then (λ x. option_and_then (infix_word o x) n) m ≡ Some w → (is_infix_of_constants o ≡ true) × (divides_by_zero o m n ≡ false) × ((x : ℕ) × (m ≡ Some x)) × (y : ℕ) × (n ≡ Some y)
infix_right o (Some x) (Some y) w e = let h : (is_infix_of_constants o ≡ true) × (cond (divides o) (y == 0) false ≡ false) = between_right o x y w e in (h.0, h.1, (x, refl), y, refl)
infix_right o _ _ w e = absurd (none-some w e)

pub no_wrong : (bs : List Binding) (k : ℕ) (e : Expression) (w : ℕ) → constant_word bs e ≡ Some w → wrongs bs k e ≡ []
no_wrong bs k (name l x) w e = name_right k l x (bound_in bs x) w e
no_wrong bs k (number l n) w e = refl
no_wrong bs k (truth l b) w e = refl
no_wrong bs k (parens l x) w e = no_wrong bs k x w e
no_wrong bs k (unary l p x) w e =
    let h : (is_prefix_of_constants p ≡ true) × (v : ℕ) × (constant_word bs x ≡ Some v) = prefix_right p (constant_word bs x) w e in
    rw h.0 (no_wrong bs k x h.1 h.2)
no_wrong bs k (binary l o s a b) w e =
    let h : (is_infix_of_constants o ≡ true) × (divides_by_zero o (constant_word bs a) (constant_word bs b) ≡ false) × ((x : ℕ) × (constant_word bs a ≡ Some x)) × (y : ℕ) × (constant_word bs b ≡ Some y) = infix_right o (constant_word bs a) (constant_word bs b) w e in
    rw h.0 (rw h.1 (rw (no_wrong bs k a h.2.0 h.2.1) (no_wrong bs k b h.3 h.4)))
no_wrong bs k _ w e = absurd (none-some w e)

else-assoc : (x y z : Option Breach) → else_first (else_first x y) z ≡ else_first x (else_first y z)
else-assoc None y z = refl
else-assoc (Some b) y z = refl

else-none : (x : Option Breach) → else_first x None ≡ x
else-none None = refl
else-none (Some b) = refl

-- what is told of an operator between two operands, behind them: only where both have words that it divides by zero
pub told_between : (bs : List Binding) (k l s : ℕ) (o : Operator) (a b : Expression) (f : Option Breach) → is_infix_of_constants o ≡ true → cond (divides_by_zero o (constant_word bs a) (constant_word bs b)) (else_first (else_first (else_first f (first_of (wrongs bs k a))) (first_of (wrongs bs k b))) (Some (record { at = l; wrong = divided_by_zero }))) (else_first (else_first f (first_of (wrongs bs k a))) (first_of (wrongs bs k b))) ≡ else_first f (first_of (wrongs bs k (binary l o s a b)))
told_between bs k l s o a b f of = rw of (by_words (constant_word bs a) (constant_word bs b) refl refl)
  where
    Reported : Option ℕ → Option ℕ → Type 0
    Reported m n = cond (divides_by_zero o m n) (else_first (else_first (else_first f (first_of (wrongs bs k a))) (first_of (wrongs bs k b))) (Some (record { at = l; wrong = divided_by_zero }))) (else_first (else_first f (first_of (wrongs bs k a))) (first_of (wrongs bs k b))) ≡ else_first f (first_of (cond (divides_by_zero o m n) (record { at = l; wrong = divided_by_zero } ∷ []) (wrongs bs k a ++ wrongs bs k b)))

    neither : else_first (else_first f (first_of (wrongs bs k a))) (first_of (wrongs bs k b)) ≡ else_first f (first_of (wrongs bs k a ++ wrongs bs k b))
    neither = else-assoc f (first_of (wrongs bs k a)) (first_of (wrongs bs k b)) ∙ ap (λ (y : Option Breach). else_first f y) (sym (first_of-append (wrongs bs k a) (wrongs bs k b)))

    by_zero : (z : Bool) (x y : ℕ) → constant_word bs a ≡ Some x → constant_word bs b ≡ Some y → cond z (else_first (else_first (else_first f (first_of (wrongs bs k a))) (first_of (wrongs bs k b))) (Some (record { at = l; wrong = divided_by_zero }))) (else_first (else_first f (first_of (wrongs bs k a))) (first_of (wrongs bs k b))) ≡ else_first f (first_of (cond z (record { at = l; wrong = divided_by_zero } ∷ []) (wrongs bs k a ++ wrongs bs k b)))
    by_zero false x y ea eb = neither
    by_zero true x y ea eb = rw (no_wrong bs k a x ea) (rw (no_wrong bs k b y eb) (ap (λ (z : Option Breach). else_first z (Some (record { at = l; wrong = divided_by_zero }))) (else-none (else_first f None) ∙ else-none f)))

    by_words : (m n : Option ℕ) → constant_word bs a ≡ m → constant_word bs b ≡ n → Reported m n
    by_words (Some x) (Some y) ea eb = by_zero (cond (divides o) (y == 0) false) x y ea eb
    by_words _ _ ea eb = neither

-- the same, by the words of the operands and by what was told behind each
pub told_behind : (bs : List Binding) (k l s : ℕ) (o : Operator) (a b c d : Expression) (x y : Option ℕ) (f g h : Option Breach) → c ≡ a → d ≡ b → x ≡ constant_word bs c → g ≡ else_first f (first_of (wrongs bs k c)) → y ≡ constant_word bs d → h ≡ else_first g (first_of (wrongs bs k d)) → is_infix_of_constants o ≡ true → cond (divides_by_zero o x y) (else_first h (Some (record { at = l; wrong = divided_by_zero }))) h ≡ else_first f (first_of (wrongs bs k (binary l o s a b)))
told_behind bs k l s o a b c d x y f g h ec ed ex eg ey eh of = rw eh (rw eg (rw ex (rw ey (rw ec (rw ed (told_between bs k l s o a b f of))))))
