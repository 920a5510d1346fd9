-- What single pieces add to what was written: names, labels, words of data, switches and procedures.
use Rattle.bk_trans.proofs.Words.{◌≡◌, ℕ, ◌+◌, true, Option, Some, None, List, [], ◌∷◌, ◌++◌, map, length, refl, sym, ap, ◌∙◌, append_assoc, arith, append-nil, map-append, first_bytes, signed, Operator, Expressions, Items, no_items, item, Bound, Local, Case, Stmt, Number, Load, Dyadic, Assign, Jump, JumpIf, Stack, Store, Entry, Save, EndProcedure, Switch, DataLabel, DataNumber, DataAddress, joined}
use Rattle.bk_trans.proofs.Terms.{Operator as o, Bound as b, Static, Dyadic as d, Address, Label, Aim as aim, Ready, Goal, Around, Target, word, variable_in_words, case_in_words, entry_in_words, target_in_words, stmt_in_words, Supply, meaning, constant, constants_of, step_of, dropped, Part, static_item, static_table, label_place, parts_of_items, target_of, target_of_word, target_of_label, goal, goal_of, goal_in, variable, push, outermost, valued, looping, switching, go, test_of_step, first_of, label_or, procedure_code, data_code, entries_of, word_code, entry_of}
use Rattle.bk_trans.specs.declared.evaluation.Evaluation.TheVariants as evaluation
use Rattle.bk_trans.specs.Filling as f
use Rattle.bk_trans.specs.Labels as n
use Rattle.bk_trans.specs.Writing.{Writing, after, place_of, word_of, push_of, goto_code, settled_word, settled, with_code, with_choices, no_choices, with_left, takes_labels, past_meaning, puts_label, puts_case, puts_default, puts_table, puts_item, puts_items, evaluation_of, puts_switch, before_body, steps_on, goes_on, outside_of, inside, puts_entry, begins_procedure, ends_procedure}
use Rattle.bk_trans.proofs.Adds.{Near, near, near_after, near_is, Alike, alike, alike_is, is_alike, alike_both, label_in_words, first_none, At, Adds, nothing, then, put, labelled, renumbered, resumed, unchosen, elsewhere}

-- places that are the same in words
pub record NearGoal (x y : Goal) : Type 0 where
  pub labels : Near x.label y.label
  pub depths : Near x.depth y.depth

pub near_goal : (x : Goal) → NearGoal x x
near_goal x = record { labels = near x.label; depths = near x.depth }

pub record NearAround (x y : Around) : Type 0 where
  pub goes_on : NearGoal x.goes_on y.goes_on
  pub leaves : NearGoal x.leaves y.leaves
  pub ends_case : NearGoal x.ends_case y.ends_case
  pub valof : Near x.valof y.valof

-- the places of all numbers are those of the declarations
pub record Placed (gs : List Goal) (ts : List Target) : Type 0 where
  pub at_number : (m : ℕ) → NearGoal (place_of gs m) (goal_of ts m)

-- one statement
pub one : (s r : Stmt) → stmt_in_words s ≡ stmt_in_words r → Alike stmt_in_words (s ∷ []) (r ∷ [])
one s r e = record { same = ap (λ x. x ∷ []) e }

pub same : {s r : Stmt} → stmt_in_words s ≡ stmt_in_words r → Alike stmt_in_words (s ∷ []) (r ∷ [])
same {s} {r} e = one s r e

pub and : {s r : Stmt} {ss rs : List Stmt} → stmt_in_words s ≡ stmt_in_words r → Alike stmt_in_words ss rs → Alike stmt_in_words (s ∷ ss) (r ∷ rs)
and {s} {r} {ss} {rs} e h = record { same = ap (λ x. x ∷ map stmt_in_words ss) e ∙ ap (λ l. stmt_in_words r ∷ l) h.same }

pub go_near : (x y : Goal) (s t : ℕ) → NearGoal x y → Near s t → Alike stmt_in_words (go x s) (go y t)
go_near x y s t h k = and (ap Stack h.depths.same) (and (ap Jump h.labels.same) (one (Stack s) (Stack t) (ap Stack k.same)))

module _ (gs : List Goal) (ts : List Target) (placed : Placed gs ts) where
  -- the words of names
  pub variable_near : (x : Bound) → variable_in_words (settled_word gs (word_of x)) ≡ variable_in_words (variable ts x)
  variable_near (b.Static m) = ap Static (placed.at_number m).labels.same
  variable_near (b.Global None) = refl
  variable_near _ = refl

  pub push_near : (x : Bound) → stmt_in_words (settled gs (push_of x)) ≡ stmt_in_words (push ts x)
  push_near (b.Static m) = ap Load (variable_near (b.Static m))
  push_near (b.Constant None) = refl
  push_near (b.Global None) = refl
  push_near _ = refl

  pub goto_near : (x : Bound) {s t : ℕ} → Near s t → Alike stmt_in_words (map (settled gs) (goto_code s x)) (go (goal_in ts x) t)
  goto_near (b.Label k m) {s} {t} h = go_near (place_of gs m) (goal_of ts m) s t (placed.at_number m) h
  goto_near _ {s} {t} h = go_near (goal 0 0) (goal 0 0) s t (near_goal _) h

-- taking a meaning, or a word
pub took : {gs : List Goal} {ts : List Target} {w : Writing} {g : Supply} {n : ℕ} (h : Supply → Supply) → At w g n → Adds gs ts w [] [] [] None (h g) n (with_left (h w.left) w)
took h at = elsewhere (ap h at.left) at.next

pub took_meaning : {gs : List Goal} {ts : List Target} {w : Writing} {g : Supply} {n : ℕ} → At w g n → Adds gs ts w [] [] [] None (meaning g).left n (past_meaning w)
took_meaning at = took (λ s. (meaning s).left) at

-- in a VALOF, a loop, a SWITCHON
pub in_valof : {j l : ℕ} → Near j l → NearAround (valued j) (valued l)
in_valof h = record { goes_on = near_goal (goal 0 0); leaves = near_goal (goal 0 0); ends_case = near_goal (goal 0 0); valof = h }

pub in_loop : {j l i o s t : ℕ} {x y : Around} → Near j l → Near i o → Near s t → NearAround x y → NearAround (looping j i s x) (looping l o t y)
in_loop h k ns a = record { goes_on = record { labels = h; depths = ns }; leaves = record { labels = k; depths = ns }; ends_case = a.ends_case; valof = a.valof }

pub in_switch : {j l s t : ℕ} {x y : Around} → Near j l → Near s t → NearAround x y → NearAround (switching j s x) (switching l t y)
in_switch h ns a = record { goes_on = a.goes_on; leaves = a.leaves; ends_case = record { labels = h; depths = ns }; valof = a.valof }

pub in_procedure : NearAround outermost outermost
in_procedure = record { goes_on = near_goal (goal 0 0); leaves = near_goal (goal 0 0); ends_case = near_goal (goal 0 0); valof = near 0 }

-- places more
pub target_near : (x : Bound) {j l : ℕ} → Near j l → Alike target_in_words (target_of_word j x) (target_of_word l x)
target_near (b.Static m) h = record { same = ap (λ i. record { number = m; label = i; depth = word 0 } ∷ []) h.same }
target_near _ h = record { same = refl }

pub label_near : (x : Bound) {j l s t : ℕ} → Near j l → Near s t → Alike target_in_words (target_of_label j s x) (target_of_label l t x)
label_near (b.Label k m) {j} {l} {s} {t} h ns = record { same = ap (λ i. record { number = m; label = i; depth = word s } ∷ []) h.same ∙ ap (λ i. record { number = m; label = word l; depth = i } ∷ []) ns.same }
label_near _ h ns = record { same = refl }

-- a label that a GOTO may go to
pub put_label : {gs : List Goal} {ts : List Target} {w : Writing} {g : Supply} {k s t : ℕ} → At w g k → Near s t
    → Adds gs ts w (Label k ∷ []) (label_place k t (meaning g).part ∷ []) [] None (meaning g).left (k + 1) (puts_label s w)
put_label {gs} {ts} {w} {g} {k} {s} {t} at ns =
    let a = put (then (took_meaning {gs = gs} {ts = ts} at) (labelled 1 (took_meaning {gs = gs} {ts = ts} at).at)) (same {s = Label w.next} {r = Label k} (ap Label at.next.same)) in
    record {
      its_code = a.its_code;
      its_apart = record {
        its_procedures = a.its_apart.its_procedures;
        its_data = a.its_apart.its_data;
        its_entries = a.its_apart.its_entries;
        its_targets = alike_both (alike target_in_words w.apart.targets) (is_alike (ap (λ x. target_of_label w.next s (meaning x).part) at.left)
            (alike_is (label_near (meaning g).part at.next ns) (sym (append-nil (target_of_label k t (meaning g).part)))));
      };
      its_choices = a.its_choices;
      at = record { left = a.at.left; next = a.at.next };
    }

pub put_case : {gs : List Goal} {ts : List Target} {w : Writing} {g : Supply} {k : ℕ} → At w g k
    → Adds gs ts w (Label k ∷ []) [] (record { value = signed (constant g).part; label = k } ∷ []) None (constant g).left (k + 1) (puts_case w)
put_case {gs} {ts} {w} {g} {k} at =
    let a = put (then (took {gs = gs} {ts = ts} (λ x. (constant x).left) at) (labelled 1 (took {gs = gs} {ts = ts} (λ x. (constant x).left) at).at)) (same {s = Label w.next} {r = Label k} (ap Label at.next.same)) in
    record {
      its_code = a.its_code;
      its_apart = a.its_apart;
      its_choices = record { its_cases = alike_both (alike case_in_words w.choices.cases) (record { same = ap (λ x. record { value = signed (constant x).part; label = word w.next } ∷ []) at.left ∙ ap (λ x. record { value = signed (constant g).part; label = x } ∷ []) at.next.same }); its_default = a.its_choices.its_default };
      at = record { left = a.at.left; next = a.at.next };
    }

pub default_near : (x : Option ℕ) {j l : ℕ} → Near j l → label_in_words (first_of x (Some j)) ≡ label_in_words (first_of x (Some l))
default_near None h = ap Some h.same
default_near (Some m) h = refl

pub put_default : {gs : List Goal} {ts : List Target} {w : Writing} {g : Supply} {k : ℕ} → At w g k → Adds gs ts w (Label k ∷ []) [] [] (Some k) g (k + 1) (puts_default w)
put_default {gs} {ts} {w} {g} {k} at =
    let a = put (labelled {gs = gs} {ts = ts} 1 at) (same {s = Label w.next} {r = Label k} (ap Label at.next.same)) in
    record {
      its_code = a.its_code;
      its_apart = a.its_apart;
      its_choices = record { its_cases = a.its_choices.its_cases; its_default = default_near w.choices.default_label at.next };
      at = record { left = a.at.left; next = a.at.next };
    }

-- items of STATIC, and tables
pub put_item : {gs : List Goal} {ts : List Target} {w : Writing} {g : Supply} {k : ℕ} → At w g k
    → Adds gs ts w [] (static_item k (record { bound = (meaning (constant g).left).part; word = (constant g).part }) ∷ []) [] None (meaning (constant g).left).left (k + 1) (puts_item w)
put_item {gs} {ts} {w} {g} {k} at =
    let one_word = took {gs = gs} {ts = ts} (λ x. (constant x).left) at in
    let a = then one_word (then (took_meaning {gs = gs} {ts = ts} one_word.at) (labelled 1 (took_meaning {gs = gs} {ts = ts} one_word.at).at)) in
    record {
      its_code = a.its_code;
      its_apart = record {
        its_procedures = a.its_apart.its_procedures;
        its_data = alike_both (alike stmt_in_words w.apart.data_words) (is_alike (ap (λ x. DataLabel w.next ∷ DataNumber (signed (constant x).part) ∷ []) at.left) (and (ap DataLabel at.next.same) (alike stmt_in_words _)));
        its_entries = a.its_apart.its_entries;
        its_targets = alike_both (alike target_in_words w.apart.targets) (is_alike (ap (λ x. target_of_word w.next (meaning (constant x).left).part) at.left) (alike_is (target_near (meaning (constant g).left).part at.next) (sym (append-nil _))));
      };
      its_choices = a.its_choices;
      at = record { left = a.at.left; next = a.at.next };
    }

pub put_items : {gs : List Goal} {ts : List Target} (is : Items) {w : Writing} {g : Supply} {k : ℕ} → At w g k
    → Adds gs ts w [] (parts_of_items k (f.static_items is g).part) [] None (f.static_items is g).left (k + length (f.static_items is g).part) (puts_items is w)
put_items no_items at = renumbered (nothing at) (omega arith)
put_items {gs} {ts} (item l x e is) at = let first = put_item {gs = gs} {ts = ts} at in renumbered (then first (put_items is first.at)) (omega arith)

pub no_parts : (is : Items) (g : Supply) → (dropped is g).part ≡ []
no_parts no_items g = refl
no_parts (item l x e is) g = no_parts is (constant g).left

pub put_table : {gs : List Goal} {ts : List Target} (es : Expressions) {w : Writing} {g : Supply} {k : ℕ} → At w g k
    → Adds gs ts w (Address (Static k) ∷ []) (static_table k (constants_of es g).part ∷ []) [] None (constants_of es g).left (k + 1) (puts_table es w)
put_table {gs} {ts} es {w} {g} {k} at =
    let own = labelled {gs = gs} {ts = ts} 1 at in
    let a = put (then own (took (λ x. (constants_of es x).left) own.at)) (same {s = Address (Static w.next)} {r = Address (Static k)} (ap (λ x. Address (Static x)) at.next.same)) in
    record {
      its_code = a.its_code;
      its_apart = record {
        its_procedures = a.its_apart.its_procedures;
        its_data = alike_both (alike stmt_in_words w.apart.data_words) (is_alike (ap (λ x. DataLabel w.next ∷ map (λ v. DataNumber (signed v)) (constants_of es x).part) at.left)
            (alike_is (and (ap DataLabel at.next.same) (alike stmt_in_words _)) (sym (append-nil _))));
        its_entries = a.its_apart.its_entries;
        its_targets = a.its_apart.its_targets;
      };
      its_choices = a.its_choices;
      at = record { left = a.at.left; next = a.at.next };
    }

pub label_or_near : {j l : ℕ} → Near j l → (x y : Option ℕ) → label_in_words x ≡ label_in_words y → word (label_or j x) ≡ word (label_or l y)
label_or_near h None None e = h.same
label_or_near h (Some m) (Some i) e = cc
label_or_near h _ _ e = absurd cc

-- a SWITCHON: its body was written aside, behind its value
pub switched : {gs : List Goal} {ts : List Target} {w v u : Writing} {c e : List Stmt} {ps qs : List Part} {ks : List Case} {x : Option ℕ} {g h : Supply} {k i j l : ℕ} → Near j l
    → Adds gs ts w c ps [] None g k v → Adds gs ts (with_choices no_choices (with_code [] v)) e qs ks x h i u
    → Adds gs ts w (c ++ Switch (label_or l x) ks ∷ e ++ Label l ∷ []) (ps ++ qs) [] None h i (puts_switch j v.code v.choices u)
switched {gs} {ts} {w} {v} {u} {c} {e} {ps} {qs} {ks} {x} {g} {h} {k} {i} {j} {l} near_label a b =
    let inner = then a (unchosen no_choices (resumed b)) in
    let choice : stmt_in_words (Switch (label_or j u.choices.default_label) u.choices.cases) ≡ stmt_in_words (Switch (label_or l x) ks) = ap (λ z. Switch z (map case_in_words u.choices.cases)) (label_or_near near_label _ _ b.its_choices.its_default) ∙ ap (λ z. Switch (word (label_or l x)) z) b.its_choices.its_cases.same in
    let own : Stmt = Switch (label_or j u.choices.default_label) u.choices.cases in
    let before = map (settled gs) w.code in
    record {
      its_code = is_alike (map-append (settled gs) (v.code ++ Ready own ∷ u.code) (Ready (Label j) ∷ []) ∙ ap (λ z. z ++ Label j ∷ []) (map-append (settled gs) v.code (Ready own ∷ u.code)))
          (alike_is (alike_both (alike_both a.its_code (and choice b.its_code)) (one (Label j) (Label l) (ap Label near_label.same)))
          (ap (λ z. z ++ Label l ∷ []) (append_assoc before c (Switch (label_or l x) ks ∷ e)) ∙ append_assoc before (c ++ Switch (label_or l x) ks ∷ e) (Label l ∷ [])));
      its_apart = inner.its_apart;
      its_choices = inner.its_choices;
      at = record { left = b.at.left; next = b.at.next };
    }

-- a procedure, whose parts stand behind it
pub entry_near : (x : Bound) {j l : ℕ} → Near j l → Alike entry_in_words (entry_of j x) (entry_of l x)
entry_near (b.Global (Some g)) h = record { same = ap (λ i. record { number = g; label = i } ∷ []) h.same }
entry_near _ h = record { same = refl }

-- the word of a procedure that sets no global, as it is written
abbrev pub word_written : ℕ → Bound → List Stmt
word_written j (b.Static m) = DataLabel (after j 1) ∷ DataAddress j ∷ []
word_written j _ = []

pub words_near : (x : Bound) {j l : ℕ} → Near j l → Alike stmt_in_words (word_written j x) (word_code l x)
words_near (b.Static m) {j} {l} h = and {s = DataLabel (after j 1)} {r = DataLabel (l + 1)} (ap DataLabel (near_after 1 h).same) (one (DataAddress j) (DataAddress l) (ap DataAddress h.same))
words_near _ h = record { same = refl }

-- a procedure is entered: what was added to w
pub record Entered (x : Bound) (j : ℕ) (w v : Writing) : Type 0 where
  pub code : v.code ≡ w.code
  pub procedures : v.apart.procedures ≡ w.apart.procedures
  pub data_words : v.apart.data_words ≡ w.apart.data_words ++ word_written j x
  pub entries : v.apart.entries ≡ w.apart.entries ++ entry_of j x
  pub targets : v.apart.targets ≡ w.apart.targets ++ target_of_word (after j 1) x
  pub left : v.left ≡ w.left
  pub next : v.next ≡ w.next

pub entered : (x : Bound) (j : ℕ) (w : Writing) → Entered x j w (puts_entry j x w)
entered (b.Constant v) j w = record { code = refl; procedures = refl; data_words = sym (append-nil _); entries = sym (append-nil _); targets = sym (append-nil _); left = refl; next = refl }
entered (b.Global (Some g)) j w = record { code = refl; procedures = refl; data_words = sym (append-nil _); entries = refl; targets = sym (append-nil _); left = refl; next = refl }
entered (b.Static m) j w = record { code = refl; procedures = refl; data_words = refl; entries = sym (append-nil _); targets = refl; left = refl; next = refl }
entered _ j w = record { code = refl; procedures = refl; data_words = sym (append-nil _); entries = sym (append-nil _); targets = sym (append-nil _); left = refl; next = refl }

abbrev pub entering : Writing → Writing
entering w = takes_labels (n.labels_of_procedure (meaning w.left).part) (past_meaning (inside w))

pub begun_at : (x : List ℕ) (formals : ℕ) {w : Writing} {g : Supply} {k : ℕ} → At w g k → At (begins_procedure x formals w) (meaning g).left (k + n.labels_of_procedure (meaning g).part)
begun_at x formals {w} {g} {k} at =
    let e = entered (meaning w.left).part w.next (entering w) in
    record {
      left = e.left ∙ ap (λ s. (meaning s).left) at.left;
      next = record { same = ap word e.next ∙ (near_after (n.labels_of_procedure (meaning w.left).part) at.next).same ∙ ap (λ s. word (k + n.labels_of_procedure (meaning s).part)) at.left };
    }

pub procedure_done : {gs : List Goal} {ts : List Target} {w v : Writing} {body : List Stmt} {ps : List Part} {ks : List Case} {y : Option ℕ} {g h : Supply} {k i : ℕ} (part : Part) (x : List ℕ) (formals : ℕ) (return : Stmt) → At w g k
    → Adds gs ts (begins_procedure x formals w) body ps ks y h i v
    → procedure_code ts part ≡ Entry k (first_bytes x) ∷ Save (formals + 2) ∷ body ++ return ∷ EndProcedure ∷ []
    → data_code part ≡ word_code k (meaning g).part → entries_of part ≡ entry_of k (meaning g).part → target_of part ≡ target_of_word (k + 1) (meaning g).part
    → Adds gs ts w [] (part ∷ ps) [] None h i (ends_procedure return (outside_of w) v)
procedure_done {gs} {ts} {w} {v} {body} {ps} {ks} {y} {g} {h} {k} {i} part x formals return at a is_code is_data is_entries is_targets =
    let e = entered (meaning w.left).part w.next (entering w) in
    let none = nothing {gs = gs} {ts = ts} at in
    let head : Alike stmt_in_words (Entry w.next (first_bytes x) ∷ Save (after 2 formals) ∷ []) (Entry k (first_bytes x) ∷ Save (formals + 2) ∷ []) =
    and (ap (λ z. Entry z (first_bytes x)) at.next.same) (one (Save (after 2 formals)) (Save (formals + 2)) (ap Save (near_is (near_after formals (near 2)) (omega arith)).same)) in
    let code : Alike stmt_in_words (map (settled gs) v.code) (Entry k (first_bytes x) ∷ Save (formals + 2) ∷ body) =
    record { same = a.its_code.same ∙ ap (λ z. map stmt_in_words (map (settled gs) (z ++ Ready (Entry w.next (first_bytes x)) ∷ [] ++ Ready (Save (after 2 formals)) ∷ []) ++ body)) e.code ∙ (alike_both head (alike stmt_in_words body)).same } in
    let inner : Alike stmt_in_words (map (settled gs) v.apart.procedures) (joined (procedure_code ts) ps) = record { same = a.its_apart.its_procedures.same ∙ ap (λ z. map stmt_in_words (map (settled gs) z ++ joined (procedure_code ts) ps)) e.procedures } in
    let whole : Alike stmt_in_words (map (settled gs) v.code ++ return ∷ EndProcedure ∷ [] ++ map (settled gs) v.apart.procedures) (procedure_code ts part ++ joined (procedure_code ts) ps) = alike_is (alike_both (alike_both code (alike stmt_in_words (return ∷ EndProcedure ∷ []))) inner) (ap (λ z. z ++ joined (procedure_code ts) ps) (sym is_code)) in
    let all_settled : map (settled gs) (w.apart.procedures ++ v.code ++ Ready return ∷ Ready EndProcedure ∷ [] ++ v.apart.procedures) ≡ map (settled gs) w.apart.procedures ++ map (settled gs) v.code ++ return ∷ EndProcedure ∷ [] ++ map (settled gs) v.apart.procedures =
    map-append (settled gs) (w.apart.procedures ++ v.code ++ Ready return ∷ Ready EndProcedure ∷ []) v.apart.procedures
    ∙ ap (λ z. z ++ map (settled gs) v.apart.procedures) (map-append (settled gs) (w.apart.procedures ++ v.code) (Ready return ∷ Ready EndProcedure ∷ []) ∙ ap (λ z. z ++ return ∷ EndProcedure ∷ []) (map-append (settled gs) w.apart.procedures v.code)) in
    record {
      its_code = none.its_code;
      its_apart = record {
        its_procedures = is_alike (all_settled ∙ ap (λ z. z ++ map (settled gs) v.apart.procedures) (append_assoc (map (settled gs) w.apart.procedures) (map (settled gs) v.code) (return ∷ EndProcedure ∷ [])) ∙ append_assoc (map (settled gs) w.apart.procedures) (map (settled gs) v.code ++ return ∷ EndProcedure ∷ []) (map (settled gs) v.apart.procedures)) (alike_both (alike stmt_in_words (map (settled gs) w.apart.procedures)) whole);
        its_data = record {
          same = a.its_apart.its_data.same ∙ ap (λ z. map stmt_in_words (z ++ joined data_code ps)) e.data_words
              ∙ (is_alike (append_assoc w.apart.data_words (word_written w.next (meaning w.left).part) (joined data_code ps)) (alike_both (alike stmt_in_words w.apart.data_words) (alike_both (is_alike (ap (λ z. word_written w.next (meaning z).part) at.left) (alike_is (words_near (meaning g).part at.next) (sym is_data))) (alike stmt_in_words (joined data_code ps))))).same;
        };
        its_entries = record {
          same = a.its_apart.its_entries.same ∙ ap (λ z. map entry_in_words (z ++ joined entries_of ps)) e.entries
              ∙ (is_alike (append_assoc w.apart.entries (entry_of w.next (meaning w.left).part) (joined entries_of ps)) (alike_both (alike entry_in_words w.apart.entries) (alike_both (is_alike (ap (λ z. entry_of w.next (meaning z).part) at.left) (alike_is (entry_near (meaning g).part at.next) (sym is_entries))) (alike entry_in_words (joined entries_of ps))))).same;
        };
        its_targets = record {
          same = a.its_apart.its_targets.same ∙ ap (λ z. map target_in_words (z ++ joined target_of ps)) e.targets
              ∙ (is_alike (append_assoc w.apart.targets (target_of_word (after w.next 1) (meaning w.left).part) (joined target_of ps)) (alike_both (alike target_in_words w.apart.targets) (alike_both (is_alike (ap (λ z. target_of_word (after w.next 1) (meaning z).part) at.left) (alike_is (target_near (meaning g).part (near_after 1 at.next)) (sym is_targets))) (alike target_in_words (joined target_of ps))))).same;
        };
      };
      its_choices = none.its_choices;
      at = record { left = a.at.left; next = a.at.next };
    }

-- what stands before the body of a FOR, and behind it
pub before_near : {j l : ℕ} → Near j l → Alike stmt_in_words (before_body j) (Store ∷ Jump l ∷ Label (l + 1) ∷ [])
before_near {j} {l} h = and {s = Store} {r = Store} refl (and {s = Jump j} {r = Jump l} (ap Jump h.same) (one (Label (after j 1)) (Label (l + 1)) (ap Label (near_after 1 h).same)))

pub steps_near : (k : ℕ) {j l s t : ℕ} → Near j l → Near s t → Alike stmt_in_words (steps_on j s k) (Label (l + 2) ∷ Load (Local t) ∷ Number (signed k) ∷ Dyadic d.Add ∷ Assign (Local t) ∷ [])
steps_near k {j} {l} {s} {t} h ns = and {s = Label (after j 2)} {r = Label (l + 2)} (ap Label (near_after 2 h).same) (and {s = Load (Local s)} {r = Load (Local t)} (ap (λ x. Load (Local x)) ns.same)
    (and {s = Number (signed k)} {r = Number (signed k)} refl (and {s = Dyadic d.Add} {r = Dyadic d.Add} refl (one (Assign (Local s)) (Assign (Local t)) (ap (λ x. Assign (Local x)) ns.same)))))

pub goes_near : (k : ℕ) {j l s t : ℕ} → Near j l → Near s t
    → Alike stmt_in_words (goes_on j s k) (Label l ∷ Load (Local t) ∷ Load (Local (t + 1)) ∷ test_of_step k ∷ JumpIf true (l + 1) ∷ Label (l + 3) ∷ Stack t ∷ [])
goes_near k {j} {l} {s} {t} h ns = and {s = Label j} {r = Label l} (ap Label h.same) (and {s = Load (Local s)} {r = Load (Local t)} (ap (λ x. Load (Local x)) ns.same)
    (and {s = Load (Local (after s 1))} {r = Load (Local (t + 1))} (ap (λ x. Load (Local x)) (near_after 1 ns).same) (and {s = test_of_step k} {r = test_of_step k} refl
    (and {s = JumpIf true (after j 1)} {r = JumpIf true (l + 1)} (ap (JumpIf true) (near_after 1 h).same) (and {s = Label (after j 3)} {r = Label (l + 3)} (ap Label (near_after 3 h).same)
    (one (Stack s) (Stack t) (ap Stack ns.same)))))))

-- choices with none behind them
pub tail_cases : {gs : List Goal} {ts : List Target} {w v : Writing} {c : List Stmt} {ps : List Part} {ks : List Case} {x : Option ℕ} {g : Supply} {k : ℕ} → Adds gs ts w c ps (ks ++ []) (first_of x None) g k v → Adds gs ts w c ps ks x g k v
tail_cases {gs} {ts} {w} {v} {c} {ps} {ks} {x} a = rw (← append-nil ks) (rw (← first_none x) a)

-- what has no label and no word stays as it is
pub ways_of_values : (x : Operator) (k : ℕ) → evaluation_of x aim.Value k ≡ evaluation.Plain
ways_of_values o.Subscript k = refl
ways_of_values _ k = refl
