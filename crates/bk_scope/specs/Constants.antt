-- Constants: numbers, characters, TRUE, FALSE, names of MANIFEST, parentheses, and the operators from `*` to NEQV on them,
-- on all bits. What their values are, and what is wrong with an expression where a constant is asked for.
use Rattle.std.specs.Prelude.{ℕ, Bool, true, false, cond, ◌==◌, Option, Some, None, List, [], ◌∷◌, ◌++◌}
use Rattle.std.specs.Option.{option_and_then}
use Rattle.bk_base.specs.Word.{truth as truth_word, word_sum, word_difference, word_product, word_negation, word_quotient, word_remainder, word_equal, word_unequal, word_less, word_greater, word_at_most, word_at_least, word_left_shift, word_right_shift, word_not, word_and, word_or, word_eqv, word_neqv}
use Rattle.bk_tree.specs.declared.tree.Operator.{Operator}
use Rattle.bk_tree.specs.declared.tree.Operator.TheVariants as o
use Rattle.bk_tree.specs.declared.tree.Prefix.{Prefix}
use Rattle.bk_tree.specs.declared.tree.Prefix.TheVariants as p
use Rattle.bk_tree.specs.Tree.{Expression, name, number, text, truth, query, parens, unary, binary, choice, apply, valof, table}
use Rattle.bk_scope.specs.declared.bound.Bound.{Bound}
use Rattle.bk_scope.specs.declared.bound.Bound.TheVariants.{Constant, Variable}
use Rattle.bk_scope.specs.Scope.{Binding, bound_in}
use Rattle.bk_scope.specs.Wrong.{Breach, Wrong, text_of, not_declared, dynamic_name, not_constant, divided_by_zero}

-- the word of a name
abbrev pub named_word : Option Bound → Option ℕ
named_word (Some (Constant w)) = w
named_word _ = None

abbrev pub prefix_word : Prefix → ℕ → Option ℕ
prefix_word p.Contents x = None
prefix_word p.Address x = None
prefix_word p.Plus x = Some x
prefix_word p.Minus x = Some (word_negation x)
prefix_word p.Not x = Some (word_not x)

-- a division by zero has no value
abbrev pub infix_word : Operator → ℕ → ℕ → Option ℕ
infix_word o.Subscript x y = None
infix_word o.Byte x y = None
infix_word o.Times x y = Some (word_product x y)
infix_word o.Over x y = cond (y == 0) None (Some (word_quotient x y))
infix_word o.Rem x y = cond (y == 0) None (Some (word_remainder x y))
infix_word o.Add x y = Some (word_sum x y)
infix_word o.Subtract x y = Some (word_difference x y)
infix_word o.Equal x y = Some (word_equal x y)
infix_word o.Unequal x y = Some (word_unequal x y)
infix_word o.Less x y = Some (word_less x y)
infix_word o.Greater x y = Some (word_greater x y)
infix_word o.AtMost x y = Some (word_at_most x y)
infix_word o.AtLeast x y = Some (word_at_least x y)
infix_word o.ShiftLeft x y = Some (word_left_shift x y)
infix_word o.ShiftRight x y = Some (word_right_shift x y)
infix_word o.Both x y = Some (word_and x y)
infix_word o.Either x y = Some (word_or x y)
infix_word o.Same x y = Some (word_eqv x y)
infix_word o.Differ x y = Some (word_neqv x y)

-- the word of an expression as a constant, if it has one
abbrev pub constant_word : List Binding → Expression → Option ℕ
constant_word bs (name l x) = named_word (bound_in bs x)
constant_word bs (number l n) = Some n
constant_word bs (truth l b) = Some (truth_word b)
constant_word bs (parens l e) = constant_word bs e
constant_word bs (unary l q e) = option_and_then (prefix_word q) (constant_word bs e)
constant_word bs (binary l q s a b) = option_and_then (λ x. option_and_then (infix_word q x) (constant_word bs b)) (constant_word bs a)
constant_word bs _ = None

abbrev breach : ℕ → Wrong → List Breach
breach l w = record { at = l; wrong = w } ∷ []

-- no constant holds these operators
abbrev pub is_prefix_of_constants : Prefix → Bool
is_prefix_of_constants p.Contents = false
is_prefix_of_constants p.Address = false
is_prefix_of_constants _ = true

abbrev pub is_infix_of_constants : Operator → Bool
is_infix_of_constants o.Subscript = false
is_infix_of_constants o.Byte = false
is_infix_of_constants _ = true

abbrev pub divides : Operator → Bool
divides o.Over = true
divides o.Rem = true
divides _ = false

-- a division of two words, by zero
abbrev pub divides_by_zero : Operator → Option ℕ → Option ℕ → Bool
divides_by_zero q (Some x) (Some y) = cond (divides q) (y == 0) false
divides_by_zero q _ _ = false

-- A name that is no constant, in procedure k; the name of another procedure's variable is wrong for that first of all.
abbrev pub wrong_name : ℕ → ℕ → List ℕ → Option Bound → List Breach
wrong_name k l x None = breach l (not_declared (text_of x))
wrong_name k l x (Some (Constant w)) = []
wrong_name k l x (Some (Variable j d)) = cond (j == k) (breach l not_constant) (breach l (dynamic_name (text_of x)))
wrong_name k l x (Some b) = breach l not_constant

-- What is wrong with an expression where a constant is asked for, in procedure k, in the source's order. After what no
-- constant holds nothing more is looked for.
abbrev pub wrongs : List Binding → ℕ → Expression → List Breach
wrongs bs k (name l x) = wrong_name k l x (bound_in bs x)
wrongs bs k (number l n) = []
wrongs bs k (truth l b) = []
wrongs bs k (parens l e) = wrongs bs k e
wrongs bs k (unary l q e) = cond (is_prefix_of_constants q) (wrongs bs k e) (breach l not_constant)
wrongs bs k (binary l q s a b) =
    cond (is_infix_of_constants q)
    (cond (divides_by_zero q (constant_word bs a) (constant_word bs b)) (breach l divided_by_zero) (wrongs bs k a ++ wrongs bs k b))
    (wrongs bs k a ++ breach s not_constant)
wrongs bs k (choice l s c a b) = wrongs bs k c ++ breach s not_constant
wrongs bs k (apply l s f es) = wrongs bs k f ++ breach s not_constant
wrongs bs k (text l x) = breach l not_constant
wrongs bs k (query l) = breach l not_constant
wrongs bs k (valof l c) = breach l not_constant
wrongs bs k (table l es) = breach l not_constant
