-- Places of labels: one label more, one command further, and where a place leads.
use Rattle.bk_check.proofs.Terms.{◌≡◌, ℕ, ◌+◌, ◌<◌, Bool, true, false, ◌||◌, cond, Option, Some, None, List, ◌∷◌, drop, length, get_or, bytes_eq, Result, Ok, Err, OnOk, refl, ap, ◌∙◌, sym, ⊎_elim, at_drop_more, cases_Bool, cond-true, cond-false, nat_list_eq_equiv, bytes_eq-Decides, command_in, commands_in}
use Rattle.std.specs.Borrow.{Bor}
use Rattle.std.specs.BTreeMap.{BTreeMap, get_by, Updates}
use Rattle.std.specs.Cmp.Lexicographic.{slice_cmp}
use Rattle.std.specs.Option.{option_map}
use Rattle.std.specs.Ordering.{nat_cmp}
use Rattle.std.proofs.lemmas.Map.Text.{btree_map_updates_str}
use Rattle.bk_tree.specs.declared.tree.Command.{Command}
use Rattle.bk_meaning.specs.Environment.{objects_of_command}
use Rattle.bk_check.specs.Places.{first_place, entered, place_in, place_at, place_from, stands_in, stands_in_one}
use Rattle.bk_check.specs.declared.scopes.Place.{Place}

-- in two parts
pub entered_twice : {A : Type 0} (a b : Bool) (p : A) (o : Option A) → entered b p (entered a p o) ≡ entered (a || b) p o
entered_twice a b p (Some q) = refl
entered_twice true b p None = refl
entered_twice false b p None = refl

-- in no part
pub entered_nowhere : {A : Type 0} (p : A) (o : Option A) → entered false p o ≡ o
entered_nowhere p (Some q) = refl
entered_nowhere p None = refl

first_entered : {A : Type 0} (b : Bool) (p : A) (o r : Option A) → first_place (entered b p o) r ≡ first_place o (cond b (Some p) r)
first_entered b p (Some q) r = refl
first_entered true p None r = refl
first_entered false p None r = refl

-- the places of labels in the commands that are left
pub place_next : (x : List ℕ) (c : Command) (cs : List Command) (n m : ℕ) (o : Option (List Command × ℕ)) → m ≡ n + objects_of_command (command_in c) →
    first_place (entered (stands_in x (command_in c)) (c ∷ cs, n) o) (place_from x m cs) ≡ first_place o (place_from x n (c ∷ cs))
place_next x c cs n m o is =
    ap (λ (k : ℕ). first_place (entered (stands_in x (command_in c)) (c ∷ cs, n) o) (place_from x k cs)) is
    ∙ first_entered (stands_in x (command_in c)) (c ∷ cs, n) o (place_from x (n + objects_of_command (command_in c)) cs)

-- labels in some commands have one place
pub entered_next : {A : Type 0} (x : List ℕ) (cs : List Command) (i : ℕ) (c : Command) (p : A) (o : Option A) → i < length cs → c ≡ get_or cs i c →
    entered (stands_in_one x (commands_in (drop (i + 1) cs))) p (entered (stands_in x (command_in c)) p o) ≡ entered (stands_in_one x (commands_in (drop i cs))) p o
entered_next x cs i c p o lt is =
    let F : List Command → Option _ = λ zs. entered (stands_in_one x (commands_in zs)) p o in
    entered_twice (stands_in x (command_in c)) (stands_in_one x (commands_in (drop (i + 1) cs))) p o
    ∙ ap (λ (z : Command). F (z ∷ drop (i + 1) cs)) is ∙ sym (at_drop_more F cs i c lt)

module _ {A B : Type 0} (k : A → B) (l x : List ℕ) (p : A) where
  no_place_yet : (f g : List ℕ → Option A) → f l ≡ None → g x ≡ cond (bytes_eq l x) (Some p) (f x) → option_map k (g x) ≡ entered (bytes_eq x l) (k p) (option_map k (f x))
  no_place_yet f g none put =
      ⊎_elim
      (λ y. let same : l ≡ x = (bytes_eq-Decides l x).0 y in
      ap (option_map k) (put ∙ cond-true (bytes_eq l x) (Some p) (f x) y)
      ∙ sym (ap (λ (b : Bool). entered b (k p) (option_map k (f x))) (nat_list_eq_equiv.symm x l ∙ y)
      ∙ ap (λ (o : Option A). entered true (k p) (option_map k o)) (ap f (sym same) ∙ none)))
      (λ n. ap (option_map k) (put ∙ cond-false (bytes_eq l x) (Some p) (f x) n)
      ∙ sym (ap (λ (b : Bool). entered b (k p) (option_map k (f x))) (nat_list_eq_equiv.symm x l ∙ n) ∙ entered_nowhere (k p) (option_map k (f x))))
      (cases_Bool (bytes_eq l x))

  place_back : (q : A) (f g h : List ℕ → Option A) → f l ≡ Some q → g x ≡ cond (bytes_eq l x) (Some p) (f x) → h x ≡ cond (bytes_eq l x) (Some q) (g x) → option_map k (h x) ≡ entered (bytes_eq x l) (k p) (option_map k (f x))
  place_back q f g h some put back =
      ⊎_elim
      (λ y. let same : l ≡ x = (bytes_eq-Decides l x).0 y in
      ap (option_map k) (back ∙ cond-true (bytes_eq l x) (Some q) (g x) y)
      ∙ sym (ap (λ (o : Option A). entered (bytes_eq x l) (k p) (option_map k o)) (ap f (sym same) ∙ some)))
      (λ n. ap (option_map k) (back ∙ cond-false (bytes_eq l x) (Some q) (g x) n ∙ put ∙ cond-false (bytes_eq l x) (Some p) (f x) n)
      ∙ sym (ap (λ (b : Bool). entered b (k p) (option_map k (f x))) (nat_list_eq_equiv.symm x l ∙ n) ∙ entered_nowhere (k p) (option_map k (f x))))
      (cases_Bool (bytes_eq l x))

-- what a table has at some letters
abbrev pub has : BTreeMap (Bor (List ℕ)) Place → List ℕ → Option Place
has m x = get_by (λ k. slice_cmp nat_cmp x k.now) m

abbrev pub Puts : BTreeMap (Bor (List ℕ)) Place → BTreeMap (Bor (List ℕ)) Place → Bor (List ℕ) → Place → Type 0
Puts m n l p = Updates (λ x y. slice_cmp nat_cmp x.now y.now) m n l (Some p)

-- a label that has no place
pub entered_new : (m n : BTreeMap (Bor (List ℕ)) Place) (l : Bor (List ℕ)) (p : Place) → has m l.now ≡ None → Puts m n l p → (x : List ℕ) → place_at x n ≡ entered (bytes_eq x l.now) (place_in p) (place_at x m)
entered_new m n l p none put x = no_place_yet place_in l.now x p (has m) (has n) none (btree_map_updates_str l.now m n (Some p) put x)

-- one that has a place, which is put back
pub entered_old : (m n o : BTreeMap (Bor (List ℕ)) Place) (l : Bor (List ℕ)) (p q : Place) → has m l.now ≡ Some q → Puts m n l p → Puts n o l q → (x : List ℕ) → place_at x o ≡ entered (bytes_eq x l.now) (place_in p) (place_at x m)
entered_old m n o l p q some put back x =
    place_back place_in l.now x p q (has m) (has n) (has o) some (btree_map_updates_str l.now m n (Some p) put x) (btree_map_updates_str l.now n o (Some q) back x)

-- a fact of what went well
pub on_ok : {A E P Q : Type 0} (r : Result A E) → (P → Q) → OnOk r P → OnOk r Q
on_ok (Ok a) f h = f h
on_ok (Err e) f h = h
