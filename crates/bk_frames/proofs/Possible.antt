-- Each state that fits can be completed, if nothing is asked of the section.
use Rattle.bk_frames.proofs.Terms.{◌≡◌, ◌<◌, ℕ, ◌+◌, max, Bool, true, false, ◌==◌, List, [], ◌∷◌, length, inl, inr, subst, arith, nat_lt, nat_tests, Guard, Form, no_items, item, none, depth_of_each, nodes_of_each, size, start_count, Stack, in_section, in_block, in_let, at_name, at_formals, at_formal, at_formal_end, at_head, at_variable, at_variable_end, at_starts, at_opening, at_items, at_sign, at_goto, at_for, at_forward, at_default, in_parens, in_unary, in_binary, in_chain, in_then, in_else, in_args, in_table, in_start, in_dests, in_values, in_guard, in_test, in_result, in_while, in_from, in_to, in_by, in_item, in_function, in_value, in_vector, in_valof, in_label, in_guarded, in_default, in_do, in_or, in_for, in_routine, State, want, have, begin, maybe, did, due, bars, Always, ForExpression, ForCommand, ForDefinition, ForDeclaration, ForSymbol, Fits, Lookahead, closing, assigning, listing, going, repeating, Any, AtListing, Unlisted, AtPart, If, Guarded, Gives, Does, Defines, Declares, Wants, Due, Completes}
use Rattle.bk_frames.specs.declared.size.Form.TheVariants.{Label, Call, Callable, Other}

-- behind an expression a comma is owed, or something else may come
abbrev GoesOn : Bool → (Lookahead → Type 0) → Type 0
GoesOn true F = F listing
GoesOn false F = Any (Unlisted F)

unlisted_any : (F : Lookahead → Type 0) → Any (Unlisted F) → Any F
unlisted_any F h1 = grind arith

any_of : (b : Bool) (F : Lookahead → Type 0) → GoesOn b F → Any F
any_of b F h1 = grind (arith, unlisted_any)

-- the same under another name
same : (b : Bool) (F G : Lookahead → Type 0) → ((c : Lookahead) → F c → G c) → GoesOn b F → GoesOn b G
same b F G h1 h2 = grind arith

-- a TABLE takes the comma
table_goes : (F G : Lookahead → Type 0) → Any (Unlisted F) → Any (Unlisted (AtPart F G))
table_goes F G h1 = grind arith

-- the last value, or a comma
list_goes : (w b : Bool) (F : Lookahead → Type 0) (X : Type 0) → (b ≡ true → w ≡ false) → (b ≡ false → w ≡ true) → Any (Unlisted F) → X → GoesOn w (If b F (AtListing X))
list_goes w b F X h1 h2 h3 h4 = grind arith

last_one : (all done : ℕ) → (all == done + 1) ≡ true → nat_lt (done + 1) all ≡ false
last_one all done h = grind (arith, nat_tests, h)

not_last : (all done : ℕ) → done < all → (all == done + 1) ≡ false → nat_lt (done + 1) all ≡ true
not_last all done lt h = grind (arith, nat_tests, lt, h)

-- behind the sign of a guard
guarded : (k : Guard) (F : ℕ → ℕ → Lookahead → Type 0) → ((d n : ℕ) → Any (F d n)) → (d n : ℕ) → Guarded k F d n
guarded k F h1 d n = grind arith

mutual
  gives : (st : Stack) (os : List (List ℕ)) → ForExpression st os → (f : Form) (d n : ℕ) → GoesOn (bars st) (Gives Always st f d n)
  gives (in_parens l st) os h f d n = (closing, inl (any_of (bars st) _ (gives st os h Callable (d + 1) (n + 1))))
  gives (in_unary l p st) os h f d n = same (bars st) _ _ (λ c z. z) (gives st os h Other _ _)
  gives (in_binary o s a st) os h f d n = same (bars st) _ _ (λ c z. z) (gives st os h Other _ _)
  gives (in_chain o s a b st) os h f d n = same (bars st) _ _ (λ c z. z) (gives st os h Other _ _)
  gives (in_then s x st) os h f d n = any_of (bars st) _ (gives st os h Other _ _)
  gives (in_else s x a st) os h f d n = same (bars st) _ _ (λ c z. z) (gives st os h Other _ _)
  gives (in_args s x es st) os h f d n = (closing, inl (any_of (bars st) _ (gives st os h Call _ _)))
  gives (in_table l es st) os h f d n =
      let F : Lookahead → Type 0 = Gives Always st Other (max (depth_of_each es) d + 1) (nodes_of_each es + n + 1) in
      let P : Bool → Type 0 = λ b. GoesOn b F in
      table_goes F (Gives Always st Other (max (depth_of_each es) (max d 1) + 1) (nodes_of_each es + n + 2)) (subst P h.0 (gives st os h.1 Other (max (depth_of_each es) d + 1) (nodes_of_each es + n + 1)))
  gives (in_start st) os h f d n = (assigning, (repeating, unlisted_any _ (does st os h _ _)))
  gives (in_dests xs st) os h f d n = (assigning, (repeating, unlisted_any _ (does st os h _ _)))
  gives (in_values xs ys st) os h f d n =
      list_goes (nat_lt (size ys + 1) (size xs)) (size xs == size ys + 1) _ _ (last_one (size xs) (size ys)) (not_last (size xs) (size ys) h.0)
      (repeating, unlisted_any _ (does st os h.1 _ _)) (repeating, unlisted_any _ (does st os h.1 _ _))
  gives (in_guard k l st) os h f d n = (closing, guarded k (Does Always st) (λ e m. unlisted_any _ (does st os h e m)) d n)
  gives (in_test l st) os h f d n = (closing, unlisted_any _ (does st os h _ _))
  gives (in_result l st) os h f d n = (repeating, unlisted_any _ (does st os h _ _))
  gives (in_while b a st) os h f d n = (repeating, unlisted_any _ (does st os h _ _))
  gives (in_from l x st) os h f d n = (closing, unlisted_any _ (does st os h _ _))
  gives (in_to l x a st) os h f d n = (closing, unlisted_any _ (does st os h _ _))
  gives (in_by l x a b st) os h f d n = (closing, unlisted_any _ (does st os h _ _))
  gives (in_item l q is x st) [] h f d n = absurd h
  gives (in_item l q is x st) (tag ∷ os) h f d n = (closing, declares st os h.1 _ _)
  gives (in_function x fs st) os h f d n = (closing, defines st os h _ _)
  gives (in_value xs is st) os h f d n =
      list_goes (nat_lt (start_count is + 1) (length xs)) (length xs == start_count is + 1) _ _ (last_one (length xs) (start_count is)) (not_last (length xs) (start_count is) h.0)
      (closing, defines st os h.1 _ _) (defines st os h.1 _ _)
  gives (in_vector l xs is st) os h f d n =
      list_goes (nat_lt (start_count is + 1) (length xs)) (length xs == start_count is + 1) _ _ (last_one (length xs) (start_count is)) (not_last (length xs) (start_count is) h.0)
      (closing, defines st os h.1 _ _) (defines st os h.1 _ _)
  gives _ os h f d n = absurd h

  does : (st : Stack) (os : List (List ℕ)) → ForCommand st os → (d n : ℕ) → Any (Unlisted (Does Always st d n))
  does (in_valof l st) os h d n = (going, any_of (bars st) _ (gives st os h Call (d + 2) (n + 2)))
  does (in_label l x st) os h d n = does st os h _ _
  does (in_guarded k l e st) os h d n = does st os h _ _
  does (in_default l st) os h d n = does st os h _ _
  does (in_do l e st) os h d n = (closing, unlisted_any _ (does st os h _ _))
  does (in_or l e a st) os h d n = does st os h _ _
  does (in_for l x a b t st) os h d n = does st os h _ _
  does (in_routine x fs st) os h d n = (closing, defines st os h _ _)
  does (in_block l b ds cs st) [] h d n = absurd h
  does (in_block l b ds cs st) (tag ∷ os) h d n = (closing, unlisted_any _ (does st os h.1 _ _))
  does _ os h d n = absurd h

  defines : (st : Stack) (os : List (List ℕ)) → ForDefinition st os → (d n : ℕ) → Defines Always st d n
  defines (in_let l ds st) os h d n = declares st os h _ _
  defines _ os h d n = absurd h

  declares : (st : Stack) (os : List (List ℕ)) → ForDeclaration st os → (d n : ℕ) → Declares Always st d n
  declares (in_section ds) os h d n = tt
  declares (in_block l b ds cs st) [] h d n = absurd h
  declares (in_block l b ds cs st) (tag ∷ os) h d n = unlisted_any _ (does st os h.1 _ _)
  declares _ os h d n = absurd h

any_gives : (st : Stack) (os : List (List ℕ)) → ForExpression st os → (f : Form) (d n : ℕ) → Any (Gives Always st f d n)
any_gives st os h f d n = any_of (bars st) (Gives Always st f d n) (gives st os h f d n)

any_does : (st : Stack) (os : List (List ℕ)) → ForCommand st os → (d n : ℕ) → Any (Does Always st d n)
any_does st os h d n = unlisted_any (Does Always st d n) (does st os h d n)

wants : (st : Stack) (os : List (List ℕ)) → ForExpression st os → Wants Always st
wants (in_args s x none st) os h = inl (any_gives st os h Call _ _)
wants st os h = any_gives st os h Label 1 1

dues : (st : Stack) (os : List (List ℕ)) → ForSymbol st os → Due Always st
dues (in_section ds) os h = tt
dues (in_block l b ds cs st) os h = declares (in_block l b ds cs st) os h 0 0
dues (in_let l ds st) os h = declares st os h _ _
dues (at_name x st) os h = defines st os h 2 2
dues (at_formals x st) os h = defines st os h 2 2
dues (at_formal x fs st) os h = defines st os h 2 2
dues (at_formal_end x fs st) os h = defines st os h 2 2
dues (at_head x fs st) os h = defines st os h 2 2
dues (at_variable xs st) os h = defines st os h 2 (length xs + 2)
dues (at_variable_end xs st) os h = defines st os h.1 2 (length xs + 1)
dues (at_starts xs is st) os h = any_gives (in_value xs is st) os h Label 1 1
dues (at_opening l q st) os h = declares st os h 2 2
dues (at_items l q no_items st) (tag ∷ os) h = declares st os h.1 2 2
dues (at_items l q (item b x e is) st) (tag ∷ os) h = declares st os h.1 _ _
dues (at_sign l q is x st) (tag ∷ os) h = declares st os h.1 _ _
dues (at_goto l st) os h = any_does st os h 1 1
dues (at_for l st) os h = any_does st os h 2 4
dues (at_forward l x st) os h = any_does st os h 2 4
dues (at_default l st) os h = inr (any_does st os h 2 2)
dues _ os h = absurd h

pub possible : (x : State) (os : List (List ℕ)) → Fits x os → Completes Always x
possible (want st) os h = wants st os h
possible (have st e) os h = inl (any_gives st os h _ _ _)
possible (begin st) os h = any_does st os h 1 1
possible (maybe st) os h = inr (any_does st os h.1 1 1)
possible (did st a) os h = any_does st os h _ _
possible (due st) os h = dues st os h
