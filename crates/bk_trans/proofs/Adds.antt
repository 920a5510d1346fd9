-- What going through a part adds to what was written: its statements, those that stand by themselves, its choices, and what is left.
-- Numbers are near each other where they are the same word.
use Rattle.bk_trans.proofs.Words.{◌≡◌, ℕ, ◌+◌, ◌%◌, ◌^◌, Option, Some, None, List, [], ◌∷◌, ◌++◌, map, refl, sym, ap, ◌∙◌, append_assoc, append-nil, map-append, Case, Stmt, joined}
use Rattle.std.proofs.Math.Nat.{mod-add-mod, mod-mod}
use Rattle.bk_trans.proofs.Terms.{Goal, Target, Unresolved, Ready, word, case_in_words, entry_in_words, target_in_words, stmt_in_words, Supply, Part, target_of, first_of, procedure_code, data_code, entries_of, Writing, after, settled, puts_drafts, puts_all, with_code, with_choices, takes_labels, Apart, Choices}

-- numbers that are the same word
pub record Near (a b : ℕ) : Type 0 where
  pub same : word a ≡ word b

pub near : (a : ℕ) → Near a a
near a = record { same = refl }

pub near_after : {a b : ℕ} (k : ℕ) → Near a b → Near (after a k) (b + k)
near_after {a} {b} k h = record { same = mod-mod (a + k) (2 ^ 32) ∙ sym (mod-add-mod a (2 ^ 32) k) ∙ ap (λ x. (x + k) % 2 ^ 32) h.same ∙ mod-add-mod b (2 ^ 32) k }

pub near_is : {a b c : ℕ} → Near a b → b ≡ c → Near a c
near_is h e = record { same = h.same ∙ ap word e }

-- lists that are the same in words
pub record Alike {A : Type 0} (f : A → A) (xs ys : List A) : Type 0 where
  pub same : map f xs ≡ map f ys

pub alike : {A : Type 0} (f : A → A) (xs : List A) → Alike f xs xs
alike f xs = record { same = refl }

pub alike_is : {A : Type 0} {f : A → A} {xs ys zs : List A} → Alike f xs ys → ys ≡ zs → Alike f xs zs
alike_is {A} {f} h e = record { same = h.same ∙ ap (map f) e }

pub is_alike : {A : Type 0} {f : A → A} {xs ys zs : List A} → xs ≡ ys → Alike f ys zs → Alike f xs zs
is_alike {A} {f} e h = record { same = ap (map f) e ∙ h.same }

pub alike_both : {A : Type 0} {f : A → A} {xs ys us vs : List A} → Alike f xs ys → Alike f us vs → Alike f (xs ++ us) (ys ++ vs)
alike_both {A} {f} {xs} {ys} {us} {vs} h k = record { same = map-append f xs us ∙ ap (λ l. l ++ map f us) h.same ∙ ap (λ l. map f ys ++ l) k.same ∙ sym (map-append f ys vs) }

pub alike_more : {A : Type 0} {f : A → A} (ws ys vs : List A) {xs us : List A} → Alike f xs (ws ++ ys) → Alike f us (xs ++ vs) → Alike f us (ws ++ (ys ++ vs))
alike_more {A} {f} ws ys vs {xs} {us} h k = alike_is (record { same = k.same ∙ (alike_both h (alike f vs)).same }) (append_assoc ws ys vs)

pub joined_both : {A B : Type 0} (f : A → List B) (xs ys : List A) → joined f (xs ++ ys) ≡ joined f xs ++ joined f ys
joined_both f [] ys = refl
joined_both f (x ∷ xs) ys = ap (λ l. f x ++ l) (joined_both f xs ys) ∙ sym (append_assoc (f x) (joined f xs) (joined f ys))

-- the label of a DEFAULT in words
abbrev pub label_in_words : Option ℕ → Option ℕ
label_in_words None = None
label_in_words (Some l) = Some (word l)

pub first_none : (x : Option ℕ) → first_of x None ≡ x
first_none None = refl
first_none (Some l) = refl

first_more : (x y z u v : Option ℕ) → label_in_words u ≡ label_in_words (first_of x y) → label_in_words v ≡ label_in_words (first_of u z)
    → label_in_words v ≡ label_in_words (first_of x (first_of y z))
first_more None None z None v h k = k
first_more None None z (Some l) v h k = absurd cc
first_more _ _ z None v h k = absurd cc
first_more _ _ z (Some l) v h k = k ∙ h

-- what is left, and the label that is next
pub record At (w : Writing) (g : Supply) (n : ℕ) : Type 0 where
  pub left : w.left ≡ g
  pub next : Near w.next n

-- what was added of what stands by itself, where it came from a to b
pub record AddsApart (gs : List Goal) (ts : List Target) (a : Apart) (parts : List Part) (b : Apart) : Type 0 where
  pub its_procedures : Alike stmt_in_words (map (settled gs) b.procedures) (map (settled gs) a.procedures ++ joined (procedure_code ts) parts)
  pub its_data : Alike stmt_in_words b.data_words (a.data_words ++ joined data_code parts)
  pub its_entries : Alike entry_in_words b.entries (a.entries ++ joined entries_of parts)
  pub its_targets : Alike target_in_words b.targets (a.targets ++ joined target_of parts)

-- and of choices
pub record AddsChoices (a : Choices) (cases : List Case) (default : Option ℕ) (b : Choices) : Type 0 where
  pub its_cases : Alike case_in_words b.cases (a.cases ++ cases)
  pub its_default : label_in_words b.default_label ≡ label_in_words (first_of a.default_label default)

-- what was added to w, where it came to v
pub record Adds (gs : List Goal) (ts : List Target) (w : Writing) (code : List Stmt) (parts : List Part) (cases : List Case) (default : Option ℕ) (g : Supply) (n : ℕ) (v : Writing) : Type 0 where
  pub its_code : Alike stmt_in_words (map (settled gs) v.code) (map (settled gs) w.code ++ code)
  pub its_apart : AddsApart gs ts w.apart parts v.apart
  pub its_choices : AddsChoices w.choices cases default v.choices
  pub at : At v g n

same_list : {A : Type 0} (f : A → A) (xs : List A) → Alike f xs (xs ++ [])
same_list f xs = alike_is (alike f xs) (sym (append-nil xs))

pub no_choice : (a : Choices) → AddsChoices a [] None a
no_choice a = record { its_cases = same_list case_in_words a.cases; its_default = sym (ap label_in_words (first_none a.default_label)) }

-- another label is next, or others are left
pub elsewhere : {gs : List Goal} {ts : List Target} {w : Writing} {left g : Supply} {next n : ℕ} → left ≡ g → Near next n
    → Adds gs ts w [] [] [] None g n (record { code = w.code; apart = w.apart; choices = w.choices; left = left; next = next })
elsewhere {gs} {ts} {w} e h = record {
  its_code = same_list stmt_in_words (map (settled gs) w.code);
  its_apart = record {
    its_procedures = same_list stmt_in_words (map (settled gs) w.apart.procedures);
    its_data = same_list stmt_in_words w.apart.data_words;
    its_entries = same_list entry_in_words w.apart.entries;
    its_targets = same_list target_in_words w.apart.targets;
  };
  its_choices = no_choice w.choices;
  at = record { left = e; next = h };
}

pub nothing : {gs : List Goal} {ts : List Target} {w : Writing} {g : Supply} {n : ℕ} → At w g n → Adds gs ts w [] [] [] None g n w
nothing at = elsewhere at.left at.next

-- one part behind another
pub then : {gs : List Goal} {ts : List Target} {w v u : Writing} {c d : List Stmt} {ps qs : List Part} {ks js : List Case} {x y : Option ℕ} {g h : Supply} {n m : ℕ}
    → Adds gs ts w c ps ks x g n v → Adds gs ts v d qs js y h m u → Adds gs ts w (c ++ d) (ps ++ qs) (ks ++ js) (first_of x y) h m u
then {gs} {ts} {w} {v} {u} {c} {d} {ps} {qs} {ks} {js} {x} {y} a b = record {
  its_code = alike_more _ _ _ a.its_code b.its_code;
  its_apart = record {
    its_procedures = alike_is (alike_more _ _ _ a.its_apart.its_procedures b.its_apart.its_procedures) (ap (λ l. map (settled gs) w.apart.procedures ++ l) (sym (joined_both (procedure_code ts) ps qs)));
    its_data = alike_is (alike_more _ _ _ a.its_apart.its_data b.its_apart.its_data) (ap (λ l. w.apart.data_words ++ l) (sym (joined_both data_code ps qs)));
    its_entries = alike_is (alike_more _ _ _ a.its_apart.its_entries b.its_apart.its_entries) (ap (λ l. w.apart.entries ++ l) (sym (joined_both entries_of ps qs)));
    its_targets = alike_is (alike_more _ _ _ a.its_apart.its_targets b.its_apart.its_targets) (ap (λ l. w.apart.targets ++ l) (sym (joined_both target_of ps qs)));
  };
  its_choices = record {
    its_cases = alike_more _ _ _ a.its_choices.its_cases b.its_choices.its_cases;
    its_default = first_more w.choices.default_label x y v.choices.default_label u.choices.default_label a.its_choices.its_default b.its_choices.its_default;
  };
  at = b.at;
}

-- drafts more, and statements
settled_ready : (gs : List Goal) (ss : List Stmt) → map (settled gs) (map Ready ss) ≡ ss
settled_ready gs [] = refl
settled_ready gs (s ∷ ss) = ap (λ l. s ∷ l) (settled_ready gs ss)

pub put_drafts : {gs : List Goal} {ts : List Target} {w v : Writing} {c : List Stmt} {ps : List Part} {ks : List Case} {x : Option ℕ} {g : Supply} {n : ℕ} {rs : List Stmt} (ds : List Unresolved)
    → Adds gs ts w c ps ks x g n v → Alike stmt_in_words (map (settled gs) ds) rs → Adds gs ts w (c ++ rs) ps ks x g n (puts_drafts ds v)
put_drafts {gs} {ts} {w} {v} {c} {ps} {ks} {x} {g} {n} {rs} ds a h = record {
  its_code = is_alike (map-append (settled gs) v.code ds) (alike_is (alike_both a.its_code h) (append_assoc (map (settled gs) w.code) c rs));
  its_apart = a.its_apart;
  its_choices = a.its_choices;
  at = record { left = a.at.left; next = a.at.next };
}

pub put : {gs : List Goal} {ts : List Target} {w v : Writing} {c : List Stmt} {ps : List Part} {ks : List Case} {x : Option ℕ} {g : Supply} {n : ℕ} {ss rs : List Stmt}
    → Adds gs ts w c ps ks x g n v → Alike stmt_in_words ss rs → Adds gs ts w (c ++ rs) ps ks x g n (puts_all ss v)
put {gs} {ts} {w} {v} {c} {ps} {ks} {x} {g} {n} {ss} a h = put_drafts (map Ready ss) a (is_alike (settled_ready gs ss) h)

-- labels
pub labelled : {gs : List Goal} {ts : List Target} {w : Writing} {g : Supply} {n : ℕ} (k : ℕ) → At w g n → Adds gs ts w [] [] [] None g (n + k) (takes_labels k w)
labelled k at = elsewhere at.left (near_after k at.next)

-- so many labels were taken
pub renumbered : {gs : List Goal} {ts : List Target} {w v : Writing} {c : List Stmt} {ps : List Part} {ks : List Case} {x : Option ℕ} {g : Supply} {n m : ℕ}
    → Adds gs ts w c ps ks x g n v → n ≡ m → Adds gs ts w c ps ks x g m v
renumbered a e = rw (← e) a

-- what was written aside, from where the code was nothing: it stays, and what was written before comes back
pub resumed : {gs : List Goal} {ts : List Target} {w v : Writing} {c : List Stmt} {ps : List Part} {ks : List Case} {x : Option ℕ} {g : Supply} {n : ℕ}
    → Adds gs ts (with_code [] w) c ps ks x g n v → Adds gs ts w [] ps ks x g n (with_code w.code v)
resumed {gs} {ts} {w} a = record {
  its_code = same_list stmt_in_words (map (settled gs) w.code);
  its_apart = a.its_apart;
  its_choices = a.its_choices;
  at = record { left = a.at.left; next = a.at.next };
}

-- choices that were made inside stay there
pub unchosen : {gs : List Goal} {ts : List Target} {w v : Writing} {c : List Stmt} {ps : List Part} {g : Supply} {n : ℕ} {ks : List Case} {x : Option ℕ} (none : _)
    → Adds gs ts (with_choices none w) c ps ks x g n v → Adds gs ts w c ps [] None g n (with_choices w.choices v)
unchosen {gs} {ts} {w} none a = record {
  its_code = a.its_code;
  its_apart = a.its_apart;
  its_choices = no_choice w.choices;
  at = record { left = a.at.left; next = a.at.next };
}

-- the same code, put together in another way
pub recoded : {gs : List Goal} {ts : List Target} {w v : Writing} {c d : List Stmt} {ps : List Part} {ks : List Case} {x : Option ℕ} {g : Supply} {n : ℕ}
    → Adds gs ts w c ps ks x g n v → c ≡ d → Adds gs ts w d ps ks x g n v
recoded a e = rw (← e) a

-- statements more, and drafts or statements behind them
pub put_both : {gs : List Goal} {ts : List Target} {w v : Writing} {c : List Stmt} {ps : List Part} {ks : List Case} {x : Option ℕ} {g : Supply} {n : ℕ} {ss rs vs : List Stmt} (ds : List Unresolved)
    → Adds gs ts w c ps ks x g n v → Alike stmt_in_words ss rs → Alike stmt_in_words (map (settled gs) ds) vs → Adds gs ts w (c ++ (rs ++ vs)) ps ks x g n (puts_drafts ds (puts_all ss v))
put_both {gs} {ts} {w} {v} {c} {ps} {ks} {x} {g} {n} {ss} {rs} {vs} ds a h i = recoded (put_drafts ds (put a h) i) (append_assoc c rs vs)

pub put_twice : {gs : List Goal} {ts : List Target} {w v : Writing} {c : List Stmt} {ps : List Part} {ks : List Case} {x : Option ℕ} {g : Supply} {n : ℕ} {ss rs us vs : List Stmt}
    → Adds gs ts w c ps ks x g n v → Alike stmt_in_words ss rs → Alike stmt_in_words us vs → Adds gs ts w (c ++ (rs ++ vs)) ps ks x g n (puts_all us (puts_all ss v))
put_twice {gs} {ts} {w} {v} {c} {ps} {ks} {x} {g} {n} {ss} {rs} {us} a h i = put_both (map Ready us) a h (is_alike (settled_ready gs us) i)
