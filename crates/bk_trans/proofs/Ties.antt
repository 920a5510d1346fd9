-- What is written of a part of a section is the scheme's code of it: going through a part adds its statements, what stands by
-- itself in it, and its choices, where what declarations went to is the same in words.
use Rattle.bk_trans.proofs.Words.{◌≡◌, ℕ, ◌+◌, Bool, true, false, not, cond, None, List, [], ◌∷◌, ◌++◌, map, length, refl, sym, ap, ◌∙◌, append_assoc, arith, append-nil, map-append, first_bytes, signed, Operator, Expression, Expressions, Command, Commands, Declaration, Declarations, Definition, Definitions, Starts, name, number, text, truth, query, parens, unary, binary, choice, apply, valof, table, none, more, empty, assign, call, goto, label, case_of, default, when, test, while, for_loop, switch, result, simple, block, repeat, repeat_while, no_commands, also, constants, definitions, no_declarations, declare, routine, function, variables, no_definitions, define, no_starts, value, vector, size, Local, Stmt, Number, Query, Text, Dyadic, Assign, AssignAt, AssignByte, Jump, JumpIf, GiveResult, TakeResult, Stack, Store, CallFunction, CallRoutine, ReturnItem, Return, Finish}
use Rattle.bk_trans.proofs.Terms.{Operator as o, Prefix as q, Simple as w, Sort as sort, Dyadic as d, Address, Label, Aim as aim, Unresolved, Goal, Around, Target, stmt_in_words, Supply, meaning, constant, constants_of, step_of, dropped, Part, procedure, parts, parts_each, parts_if, parts_at, parts_onto, parts_from, parts_in, parts_through, parts_of_declarations, parts_of_declaration, parts_of_definitions, parts_of_definition, parts_of_starts, outermost, valued, prefix_code, infix_code, truth_value, cases, cases_through, default_in, default_through, by_turns, value_code, each_code, jump_code, address_code, store_code, value_codes, store_codes, command_code, through_code, declarations_code, declaration_code, definitions_code, definition_code, starts_code, Writing, Stored, Reached, reached, after, settled_word, settled, word_of, push_of, goto_code, puts_drafts, puts, with_code, with_choices, no_choices, takes_labels, written, each_written, address_written, store_written, stores_written, values_written, act_written, each_act_written, declared, one_declared, defined, one_defined, started, any_variables, steps_on, goes_on, begins_procedure}
use Rattle.bk_trans.specs.Program as p
use Rattle.bk_trans.specs.Filling as f
use Rattle.bk_trans.specs.Labels as n
use Rattle.bk_trans.specs.Depths as depths
use Rattle.bk_trans.proofs.Adds.{Near, near, near_after, near_is, alike, is_alike, At, Adds, nothing, then, put, put_drafts, put_both, put_twice, labelled, renumbered, resumed, unchosen, recoded}
use Rattle.bk_trans.proofs.Additions.{NearAround, Placed, one, same, and, go_near, variable_near, push_near, goto_near, took_meaning, took, in_valof, in_loop, in_switch, in_procedure, put_label, put_case, put_default, put_items, no_parts, put_table, switched, begun_at, procedure_done, before_near, steps_near, goes_near, tail_cases, ways_of_values}

-- as many arguments as expressions
counted : (es : Expressions) (g : Supply) → depths.count (f.terms es g).part ≡ size es
counted none g = refl
counted (more e es) g = ap (λ k. k + 1) (counted es (f.term e g).left)

module _ (gs : List Goal) (ts : List Target) (placed : Placed gs ts) where
  abbrev Valued : Expression → Type 0
  Valued e = (s t : ℕ) (w : Writing) (g : Supply) (k : ℕ) → Near s t → At w g k
      → Adds gs ts w (value_code ts t k (f.term e g).part) (parts t k (f.term e g).part) [] None (f.term e g).left (k + n.labels (f.term e g).part) (written s aim.Value e w)

  abbrev Tested : Expression → Type 0
  Tested e = (s t : ℕ) (w : Writing) (g : Supply) (k : ℕ) → Near s t → At w g k → (z : Bool) (l j : ℕ) → Near l j
      → Adds gs ts w (jump_code ts t k (f.condition e g).part z j) (parts_if t k (f.condition e g).part) [] None (f.condition e g).left (k + n.labels_if (f.condition e g).part) (written s (aim.Jump z l) e w)

  record Tied (e : Expression) : Type 0 where
    pub value : Valued e
    pub jump : Tested e

  -- a value, and a jump by it
  jumping : {w v : Writing} {c : List Stmt} {ps : List Part} {g : Supply} {k : ℕ} (z : Bool) {l j : ℕ} → Near l j → Adds gs ts w c ps [] None g k v
      → Adds gs ts w (c ++ JumpIf z j ∷ []) ps [] None g k (puts (JumpIf z l) v)
  jumping z {l} {j} h a = put a (one (JumpIf z l) (JumpIf z j) (ap (JumpIf z) h.same))

  -- a condition that is a value and a jump by it
  pushing : (e : Expression) → Valued e → ((g : Supply) → f.condition e g ≡ f.one p.holds (f.term e g))
      → ((s : ℕ) (z : Bool) (l : ℕ) (w : Writing) → written s (aim.Jump z l) e w ≡ puts (JumpIf z l) (written s aim.Value e w)) → Tied e
  pushing e push is jumps = record { value = push; jump = λ s t w g k ns at z i j h. rw (is g) (rw (jumps s z i w) (jumping z h (push s t w g k ns at))) }

  -- an operator that is no `&` or `|`, or whose value is pushed
  two_values : (x : Operator) (l m : ℕ) (e h : Expression) → Tied e → Tied h → Valued (binary l x m e h)
  two_values x l m e h te th s t w g k ns at =
      let first = te.value s t w g k ns at in
      let second = th.value (after s 1) (t + 1) (written s aim.Value e w) (f.term e g).left (k + n.labels (f.term e g).part) (near_after 1 ns) first.at in
      let all = put (then first second) (alike stmt_in_words (infix_code x)) in
      rw (ways_of_values x w.next) (renumbered all (omega arith))

  -- `&` and `|` in a condition
  both_tested : (l m : ℕ) (e h : Expression) → Tied e → Tied h → Tested (binary l o.Both m e h)
  both_tested l m e h te th s t w g k ns at true x j near_label =
      let own = labelled {gs = gs} {ts = ts} 1 at in
      let first = then own (te.jump s t (takes_labels 1 w) g (k + 1) ns own.at false w.next k at.next) in
      let all = then first (th.jump s t _ _ _ ns first.at true x j near_label) in
      renumbered (put all (same {s = Label w.next} {r = Label k} (ap Label at.next.same))) (omega arith)
  both_tested l m e h te th s t w g k ns at false x j near_label =
      let own = labelled {gs = gs} {ts = ts} 1 at in
      let first = then own (te.jump s t (takes_labels 1 w) g (k + 1) ns own.at false x j near_label) in
      renumbered (then first (th.jump s t _ _ _ ns first.at false x j near_label)) (omega arith)

  either_tested : (l m : ℕ) (e h : Expression) → Tied e → Tied h → Tested (binary l o.Either m e h)
  either_tested l m e h te th s t w g k ns at true x j near_label =
      let own = labelled {gs = gs} {ts = ts} 1 at in
      let first = then own (te.jump s t (takes_labels 1 w) g (k + 1) ns own.at true x j near_label) in
      renumbered (then first (th.jump s t _ _ _ ns first.at true x j near_label)) (omega arith)
  either_tested l m e h te th s t w g k ns at false x j near_label =
      let own = labelled {gs = gs} {ts = ts} 1 at in
      let first = then own (te.jump s t (takes_labels 1 w) g (k + 1) ns own.at true w.next k at.next) in
      let all = then first (th.jump s t _ _ _ ns first.at false x j near_label) in
      renumbered (put all (same {s = Label w.next} {r = Label k} (ap Label at.next.same))) (omega arith)

  -- what is tied of destinations, lists, commands and declarations
  record Reaching (e : Expression) : Type 0 where
    pub address : (s t : ℕ) (w : Writing) (g : Supply) (k : ℕ) → Near s t → At w g k
        → Adds gs ts w (address_code ts t k (f.lvalue e g).part) (parts_at t k (f.lvalue e g).part) [] None (f.lvalue e g).left (k + n.labels_at (f.lvalue e g).part) (address_written s e w)
    pub store : (s t : ℕ) (w : Writing) (g : Supply) (k : ℕ) → Near s t → At w g k
        → Adds gs ts w (store_code ts t k (f.lvalue e g).part) (parts_at t k (f.lvalue e g).part) [] None (f.lvalue e g).left (k + n.labels_at (f.lvalue e g).part) (store_written s e w)

  leaf : (x y : Stmt) {w : Writing} {g : Supply} {k : ℕ} → stmt_in_words x ≡ stmt_in_words y → At w g k → Adds gs ts w (y ∷ []) [] [] None g (k + 0) (puts x w)
  leaf x y e at = renumbered (put (nothing at) (one x y e)) (omega arith)

  named_value : (l : ℕ) (x : List ℕ) → Valued (name l x)
  named_value l x s t w g k ns at = renumbered (put_drafts _ (took_meaning at) (is_alike (ap (λ z. settled gs (push_of (meaning z).part) ∷ []) at.left) (one _ _ (push_near gs ts placed (meaning g).part)))) (omega arith)

  nowhere : (e : Expression) → ((g : Supply) → f.lvalue e g ≡ f.filled p.nowhere g) → ((s : ℕ) (w : Writing) → address_written s e w ≡ w) → ((s : ℕ) (w : Writing) → store_written s e w ≡ w) → Reaching e
  nowhere e is at_all not_at_all = record {
    address = λ s t w g k ns at. rw (is g) (rw (at_all s w) (renumbered (nothing at) (omega arith)));
    store = λ s t w g k ns at. rw (is g) (rw (not_at_all s w) (renumbered (nothing at) (omega arith)));
  }

  abbrev Eached : Expressions → Type 0
  Eached es = (s t : ℕ) (w : Writing) (g : Supply) (k : ℕ) → Near s t → At w g k
      → Adds gs ts w (each_code ts t k (f.terms es g).part) (parts_each t k (f.terms es g).part) [] None (f.terms es g).left (k + n.labels_each (f.terms es g).part) (each_written s es w)

  -- two operands, one behind the other
  two_behind : (a c : Expression) → Tied a → Tied c → (s t : ℕ) (w : Writing) (g : Supply) (k : ℕ) → Near s t → At w g k
      → Adds gs ts w (value_code ts t k (f.term a g).part ++ value_code ts (t + 1) (k + n.labels (f.term a g).part) (f.term c (f.term a g).left).part)
      (parts t k (f.term a g).part ++ parts (t + 1) (k + n.labels (f.term a g).part) (f.term c (f.term a g).left).part) [] None (f.term c (f.term a g).left).left
      (k + (n.labels (f.term a g).part + n.labels (f.term c (f.term a g).left).part)) (written (after s 1) aim.Value c (written s aim.Value a w))
  two_behind a c ta tc s t w g k ns at =
      let first = ta.value s t w g k ns at in
      renumbered (then first (tc.value (after s 1) (t + 1) _ _ _ (near_after 1 ns) first.at)) (omega arith)

  -- a choice
  chosen : (l m : ℕ) (c a b : Expression) → Tied c → Tied a → Tied b → Valued (choice l m c a b)
  chosen l m c a b tc ta tb s t w g k ns at =
      let own = labelled {gs = gs} {ts = ts} 2 at in
      let test = then own (tc.jump s t (takes_labels 2 w) g (k + 2) ns own.at false w.next k at.next) in
      let yes = then test (ta.value s t _ _ _ ns test.at) in
      let between = put (nothing {gs = gs} {ts = ts} yes.at) (and {s = GiveResult (after w.next 1)} {r = GiveResult (k + 1)} (ap GiveResult (near_after 1 at.next).same) (one (Label w.next) (Label k) (ap Label at.next.same))) in
      let ends = and {s = GiveResult (after w.next 1)} {r = GiveResult (k + 1)} (ap GiveResult (near_after 1 at.next).same)
      (and {s = Label (after w.next 1)} {r = Label (k + 1)} (ap Label (near_after 1 at.next).same) (one (TakeResult s) (TakeResult t) (ap TakeResult ns.same))) in
      renumbered (put (then yes (then between (tb.value s t _ _ _ ns between.at))) ends) (omega arith)

  -- the arguments of a call and what is called, before the call itself
  calling : (e : Expression) (es : Expressions) → Tied e → Eached es → (s t : ℕ) (w : Writing) (g : Supply) (k : ℕ) → Near s t → At w g k
      → Adds gs ts w (Stack (t + 2) ∷ each_code ts (t + 2) (k + n.labels (f.term e g).part) (f.terms es (f.term e g).left).part ++ value_code ts (t + 2 + depths.count (f.terms es (f.term e g).left).part) k (f.term e g).part)
      (parts (t + 2 + depths.count (f.terms es (f.term e g).left).part) k (f.term e g).part ++ parts_each (t + 2) (k + n.labels (f.term e g).part) (f.terms es (f.term e g).left).part) [] None
      (f.terms es (f.term e g).left).left (k + (n.labels (f.term e g).part + n.labels_each (f.terms es (f.term e g).left).part))
      (puts_drafts (written (after s (size es + 2)) aim.Value e (with_code [] w)).code (each_written (after s 2) es (puts (Stack (after s 2)) (with_code w.code (written (after s (size es + 2)) aim.Value e (with_code [] w))))))
  calling e es te tes s t w g k ns at =
      let c = depths.count (f.terms es (f.term e g).left).part in
      let many : c ≡ size es = counted es (f.term e g).left in
      let deeper : t + (size es + 2) ≡ t + 2 + c = omega (arith, many) in
      let callee = te.value (after s (size es + 2)) (t + 2 + c) (with_code [] w) g k (near_is (near_after (size es + 2) ns) deeper) (record { left = at.left; next = at.next }) in
      let stacked = put (resumed callee) (same {s = Stack (after s 2)} {r = Stack (t + 2)} (ap Stack (near_after 2 ns).same)) in
      renumbered (put_drafts _ (then stacked (tes (after s 2) (t + 2) _ _ _ (near_after 2 ns) stacked.at)) (record { same = callee.its_code.same })) (omega arith)

  abbrev Acted : Command → Type 0
  Acted c = (x y : Around) (s t : ℕ) (w : Writing) (g : Supply) (k : ℕ) → NearAround x y → Near s t → At w g k
      → Adds gs ts w (command_code ts y t k (f.command c g).part) (parts_in t k (f.command c g).part) (cases k (f.command c g).part) (default_in k (f.command c g).part) (f.command c g).left
      (k + n.labels_in (f.command c g).part) (act_written x s c w)

  at_choices : {w : Writing} {g : Supply} {k : ℕ} → At w g k → At (with_choices no_choices w) g k
  at_choices at = record { left = at.left; next = at.next }

  valof_value : (l : ℕ) (c : Command) → Acted c → Valued (valof l c)
  valof_value l c tc s t w g k ns at =
      let own = labelled {gs = gs} {ts = ts} 1 at in
      let body = unchosen no_choices (tc (valued w.next) (valued k) s t (with_choices no_choices (takes_labels 1 w)) g (k + 1) (in_valof at.next) ns (at_choices own.at)) in
      let ends = put (put (then own body) (same {s = Label w.next} {r = Label k} (ap Label at.next.same))) (same {s = TakeResult s} {r = TakeResult t} (ap TakeResult ns.same)) in
      renumbered (recoded ends (append_assoc _ (Label k ∷ []) (TakeResult t ∷ []))) (omega arith)

  -- destinations, written aside
  abbrev Same_codes : List (List Unresolved) → List (List Stmt) → Type 0
  Same_codes ds ss = map (map stmt_in_words) (map (map (settled gs)) ds) ≡ map (map stmt_in_words) ss

  record Stores (w : Writing) (before : List (List Stmt)) (codes : List (List Stmt)) (ps : List Part) (g : Supply) (k : ℕ) (r : Stored) : Type 0 where
    pub codes_are : Same_codes r.codes (before ++ codes)
    pub writing_is : Adds gs ts w [] ps [] None g k r.writing

  -- values, with destinations behind them
  -- declarations, and the depth behind them
  pub record Declares (w : Writing) (code : List Stmt) (ps : List Part) (t : ℕ) (g : Supply) (k : ℕ) (r : Reached) : Type 0 where
    pub writing_is : Adds gs ts w code ps [] None g k r.writing
    pub depth_is : Near r.depth t

  no_turns : (xs : List (List Stmt)) → by_turns xs [] ≡ []
  no_turns [] = refl
  no_turns (x ∷ xs) = refl

  same_variables : (ds : Definitions) (g : Supply) → any_variables ds ≡ depths.has_variables (f.all_defined ds g).part
  same_variables (define (routine l x fs c) ds) g = same_variables ds (f.defined (routine l x fs c) g).left
  same_variables (define (function l x fs e) ds) g = same_variables ds (f.defined (function l x fs e) g).left
  same_variables _ g = refl

  put_store : (z : Bool) {w v : Writing} {c : List Stmt} {ps : List Part} {g : Supply} {k : ℕ} → Adds gs ts w c ps [] None g k v → Adds gs ts w (c ++ cond z (Store ∷ []) []) ps [] None g k (cond z (puts Store v) v)
  put_store true a = put a (alike stmt_in_words (Store ∷ []))
  put_store false a = recoded a (sym (append-nil _))

  mutual
    tied : (e : Expression) → Tied e
    tied (name l x) = pushing (name l x) (named_value l x) (λ g. refl) (λ s z i w. refl)
    tied (number l v) = pushing (number l v) (λ s t w g k ns at. leaf (Number (signed v)) (Number (signed v)) refl at) (λ g. refl) (λ s z i w. refl)
    tied (text l x) = pushing (text l x) (λ s t w g k ns at. leaf (Text (first_bytes x)) (Text (first_bytes x)) refl at) (λ g. refl) (λ s z i w. refl)
    tied (truth l v) = pushing (truth l v) (λ s t w g k ns at. leaf (truth_value v) (truth_value v) refl at) (λ g. refl) (λ s z i w. refl)
    tied (query l) = pushing (query l) (λ s t w g k ns at. leaf Query Query refl at) (λ g. refl) (λ s z i w. refl)
    tied (parens l e) = record { value = (tied e).value; jump = (tied e).jump }
    tied (unary l q.Address e) = pushing (unary l q.Address e) (reaching e).address (λ g. refl) (λ s z i w. refl)
    tied (unary l q.Not e) = record {
      value = λ s t w g k ns at. put ((tied e).value s t w g k ns at) (alike stmt_in_words _);
      jump = λ s t w g k ns at z i j h. (tied e).jump s t w g k ns at (not z) i j h;
    }
    tied (unary l x e) = pushing (unary l x e) (λ s t w g k ns at. put ((tied e).value s t w g k ns at) (alike stmt_in_words (prefix_code x))) (λ g. refl) (λ s z i w. refl)
    tied (binary l o.Both m a c) = record { value = two_values o.Both l m a c (tied a) (tied c); jump = both_tested l m a c (tied a) (tied c) }
    tied (binary l o.Either m a c) = record { value = two_values o.Either l m a c (tied a) (tied c); jump = either_tested l m a c (tied a) (tied c) }
    tied (binary l x m a c) = pushing (binary l x m a c) (two_values x l m a c (tied a) (tied c)) (λ g. refl) (λ s z i w. refl)
    tied (choice l m c a b) = pushing (choice l m c a b) (chosen l m c a b (tied c) (tied a) (tied b)) (λ g. refl) (λ s z i w. refl)
    tied (apply l m e es) =
        pushing (apply l m e es) (λ s t w g k ns at. put (calling e es (tied e) (tied_each es) s t w g k ns at) (same {s = CallFunction s} {r = CallFunction t} (ap CallFunction ns.same)))
        (λ g. refl) (λ s z i w. refl)
    tied (table l es) = pushing (table l es) (λ s t w g k ns at. put_table es at) (λ g. refl) (λ s z i w. refl)
    tied (valof l c) = pushing (valof l c) (valof_value l c (acted c)) (λ g. refl) (λ s z i w. refl)

    tied_each : (es : Expressions) → Eached es
    tied_each none s t w g k ns at = renumbered (nothing at) (omega arith)
    tied_each (more e es) s t w g k ns at =
        let first = (tied e).value s t w g k ns at in
        renumbered (then first (tied_each es (after s 1) (t + 1) _ _ _ (near_after 1 ns) first.at)) (omega arith)

    reaching : (e : Expression) → Reaching e
    reaching (name l x) = record {
      address = λ s t w g k ns at. renumbered (put_drafts _ (took_meaning at) (is_alike (ap (λ z. Address (settled_word gs (word_of (meaning z).part)) ∷ []) at.left) (one _ _ (ap Address (variable_near gs ts placed (meaning g).part))))) (omega arith);
      store = λ s t w g k ns at. renumbered (put_drafts _ (took_meaning at) (is_alike (ap (λ z. Assign (settled_word gs (word_of (meaning z).part)) ∷ []) at.left) (one _ _ (ap Assign (variable_near gs ts placed (meaning g).part))))) (omega arith);
    }
    reaching (parens l e) = record { address = (reaching e).address; store = (reaching e).store }
    reaching (unary l q.Contents e) = record {
      address = (tied e).value;
      store = λ s t w g k ns at. put ((tied e).value s t w g k ns at) (alike stmt_in_words (AssignAt ∷ []));
    }
    reaching (binary l o.Subscript m a c) = record {
      address = λ s t w g k ns at. put (two_behind a c (tied a) (tied c) s t w g k ns at) (alike stmt_in_words (Dyadic d.Add ∷ []));
      store = λ s t w g k ns at. recoded (put (put (two_behind a c (tied a) (tied c) s t w g k ns at) (alike stmt_in_words (Dyadic d.Add ∷ []))) (alike stmt_in_words (AssignAt ∷ []))) (append_assoc _ (Dyadic d.Add ∷ []) (AssignAt ∷ []));
    }
    reaching (binary l o.Byte m a c) = record {
      address = λ s t w g k ns at. resumed (two_behind a c (tied a) (tied c) s t (with_code [] w) g k ns (record { left = at.left; next = at.next }));
      store = λ s t w g k ns at. put (two_behind a c (tied a) (tied c) s t w g k ns at) (alike stmt_in_words (AssignByte ∷ []));
    }
    reaching e = nowhere e (λ g. refl) (λ s w. refl) (λ s w. refl)

    stored : (es : Expressions) → (s t : ℕ) (r : Stored) (before : List (List Stmt)) (g : Supply) (k : ℕ) → Near s t → At r.writing g k → Same_codes r.codes before
        → Stores r.writing before (store_codes ts t k (f.lvalues es g).part) (parts_onto t k (f.lvalues es g).part) (f.lvalues es g).left (k + n.labels_onto (f.lvalues es g).part) (stores_written s es r)
    stored none s t r before g k ns at h = record { codes_are = h ∙ ap (map (map stmt_in_words)) (sym (append-nil before)); writing_is = renumbered (nothing at) (omega arith) }
    stored (more e es) s t r before g k ns at h =
        let one_store = (reaching e).store s t (with_code [] r.writing) g k ns (record { left = at.left; next = at.next }) in
        let code = store_code ts t k (f.lvalue e g).part in
        let written_one : Writing = store_written s e (with_code [] r.writing) in
        let next : Stored = record { codes = r.codes ++ written_one.code ∷ []; writing = with_code r.writing.code written_one } in
        let first = resumed one_store in
        let codes : Same_codes (r.codes ++ written_one.code ∷ []) (before ++ code ∷ []) =
        ap (map (map stmt_in_words)) (map-append (map (settled gs)) r.codes (written_one.code ∷ [])) ∙ map-append (map stmt_in_words) (map (map (settled gs)) r.codes) (map (settled gs) written_one.code ∷ [])
        ∙ ap (λ z. z ++ map stmt_in_words (map (settled gs) written_one.code) ∷ []) h ∙ ap (λ z. map (map stmt_in_words) before ++ z ∷ []) one_store.its_code.same
        ∙ sym (map-append (map stmt_in_words) before (code ∷ [])) in
        let rest = stored es s t next (before ++ code ∷ []) _ _ ns first.at codes in
        record {
          codes_are = rest.codes_are ∙ ap (map (map stmt_in_words)) (append_assoc before (code ∷ []) _);
          writing_is = renumbered (then first rest.writing_is) (omega arith);
        }

    set : (es : Expressions) → (s t : ℕ) (w : Writing) (xs : List (List Unresolved)) (ys : List (List Stmt)) (g : Supply) (k : ℕ) → Near s t → At w g k → Same_codes xs ys
        → Adds gs ts w (by_turns (value_codes ts t k (f.terms es g).part) ys) (parts_from t k (f.terms es g).part) [] None (f.terms es g).left (k + n.labels_each (f.terms es g).part) (values_written s es xs w)
    set none s t w xs ys g k ns at h = renumbered (nothing at) (omega arith)
    set (more e es) s t w [] [] g k ns at h =
        let first = resumed ((tied e).value s t (with_code [] w) g k ns (record { left = at.left; next = at.next })) in
        renumbered (recoded (then first (set es s t _ [] [] _ _ ns first.at refl)) (no_turns _)) (omega arith)
    set (more e es) s t w (x ∷ xs) (y ∷ ys) g k ns at h =
        let first = put_drafts _ ((tied e).value s t w g k ns at) (record { same = cc }) in
        renumbered (then first (set es s t _ xs ys _ _ ns first.at (cc))) (omega arith)
    set (more e es) s t w _ _ g k ns at h = absurd cc

    acted : (c : Command) → Acted c
    acted empty x y s t w g k na ns at = renumbered (nothing at) (omega arith)
    acted (assign l xs es) x y s t w g k na ns at =
        let onto = stored xs (after s 1) (t + 1) (record { codes = []; writing = w }) [] g k (near_after 1 ns) at refl in
        let values = set es s t _ _ (store_codes ts (t + 1) k (f.lvalues xs g).part) _ _ ns onto.writing_is.at onto.codes_are in
        renumbered (then onto.writing_is values) (omega arith)
    acted (call l e es) x y s t w g k na ns at = put (calling e es (tied e) (tied_each es) s t w g k ns at) (same {s = CallRoutine s} {r = CallRoutine t} (ap CallRoutine ns.same))
    acted (goto l x) y z s t w g k na ns at =
        renumbered (put_drafts _ (took_meaning at) (is_alike (ap (λ v. map (settled gs) (goto_code s (meaning v).part)) at.left) (goto_near gs ts placed (meaning g).part ns))) (omega arith)
    acted (label l x c) y z s t w g k na ns at =
        let first = put_label {gs = gs} {ts = ts} {w = w} {g = g} {k = k} {s = s} {t = t} at ns in
        renumbered (then first (acted c y z s t _ _ _ na ns first.at)) (omega arith)
    acted (case_of l e c) y z s t w g k na ns at =
        let first = put_case {gs = gs} {ts = ts} {w = w} {g = g} {k = k} at in
        renumbered (then first (acted c y z s t _ _ _ na ns first.at)) (omega arith)
    acted (default l c) y z s t w g k na ns at =
        let first = put_default {gs = gs} {ts = ts} {w = w} {g = g} {k = k} at in
        renumbered (then first (acted c y z s t _ _ _ na ns first.at)) (omega arith)
    acted (when l v e c) y z s t w g k na ns at =
        let own = labelled {gs = gs} {ts = ts} 1 at in
        let test = then own ((tied e).jump s t (takes_labels 1 w) g (k + 1) ns own.at (not v) w.next k at.next) in
        renumbered (put (then test (acted c y z s t _ _ _ na ns test.at)) (same {s = Label w.next} {r = Label k} (ap Label at.next.same))) (omega arith)
    acted (test l e a c) y z s t w g k na ns at =
        let own = labelled {gs = gs} {ts = ts} 2 at in
        let test = then own ((tied e).jump s t (takes_labels 2 w) g (k + 2) ns own.at false w.next k at.next) in
        let yes = then test (acted a y z s t _ _ _ na ns test.at) in
        let between = put (put (nothing {gs = gs} {ts = ts} yes.at) (same {s = Jump (after w.next 1)} {r = Jump (k + 1)} (ap Jump (near_after 1 at.next).same))) (same {s = Label w.next} {r = Label k} (ap Label at.next.same)) in
        let no = then between (acted c y z s t _ _ _ na ns between.at) in
        renumbered (put (then yes no) (same {s = Label (after w.next 1)} {r = Label (k + 1)} (ap Label (near_after 1 at.next).same))) (omega arith)
    acted (while l v e c) y z s t w g k na ns at =
        let own = labelled {gs = gs} {ts = ts} 3 at in
        let test = (tied e).jump s t (with_code [] (takes_labels 3 w)) g (k + 3) ns (record { left = own.at.left; next = own.at.next }) v (after w.next 1) (k + 1) (near_after 1 at.next) in
        let begins = put (put (then own (resumed test)) (same {s = Jump w.next} {r = Jump k} (ap Jump at.next.same))) (same {s = Label (after w.next 1)} {r = Label (k + 1)} (ap Label (near_after 1 at.next).same)) in
        let body = then begins (acted c _ _ s t _ _ _ (in_loop at.next (near_after 2 at.next) ns na) ns begins.at) in
        let tests = put_both (written s (aim.Jump v (after w.next 1)) e (with_code [] (takes_labels 3 w))).code body (same {s = Label w.next} {r = Label k} (ap Label at.next.same)) (record { same = test.its_code.same }) in
        renumbered (put tests (same {s = Label (after w.next 2)} {r = Label (k + 2)} (ap Label (near_after 2 at.next).same))) (omega arith)
    acted (for_loop l x a e h c) y z s t w g k na ns at =
        let own = labelled {gs = gs} {ts = ts} 4 at in
        let start = then own ((tied a).value s t (takes_labels 4 w) g (k + 4) ns own.at) in
        let limit = then start ((tied e).value (after s 1) (t + 1) _ _ _ (near_after 1 ns) start.at) in
        let step = took {gs = gs} {ts = ts} (λ v. (step_of h v).left) limit.at in
        let begins = put step (before_near at.next) in
        let body = unchosen no_choices (acted c _ _ (after s 2) (t + 2) _ _ _ (in_loop (near_after 2 at.next) (near_after 3 at.next) (near_after 2 ns) na) (near_after 2 ns) (at_choices begins.at)) in
        let by : ℕ = (step_of h (f.term e (f.term a g).left).left).part in
        let steps = is_alike (ap (λ v. steps_on w.next s (step_of h v).part) limit.at.left) (steps_near by at.next ns) in
        let goes = is_alike (ap (λ v. goes_on w.next s (step_of h v).part) limit.at.left) (goes_near by at.next ns) in
        renumbered (put_twice (then limit (then begins body)) steps goes) (omega arith)
    acted (switch l e c) y z s t w g k na ns at =
        let own = labelled {gs = gs} {ts = ts} 1 at in
        let first = then own ((tied e).value s t (takes_labels 1 w) g (k + 1) ns own.at) in
        renumbered (switched at.next first (acted c _ _ s t _ _ _ (in_switch at.next ns na) ns (record { left = first.at.left; next = first.at.next }))) (omega arith)
    acted (result l e) y z s t w g k na ns at = put ((tied e).value s t w g k ns at) (same {s = GiveResult y.valof} {r = GiveResult z.valof} (ap GiveResult na.valof.same))
    acted (simple l w.Break) y z s t w g k na ns at = renumbered (put (nothing at) (go_near _ _ s t na.leaves ns)) (omega arith)
    acted (simple l w.Loop) y z s t w g k na ns at = renumbered (put (nothing at) (go_near _ _ s t na.goes_on ns)) (omega arith)
    acted (simple l w.EndCase) y z s t w g k na ns at = renumbered (put (nothing at) (go_near _ _ s t na.ends_case ns)) (omega arith)
    acted (simple l w.Return) y z s t w g k na ns at = renumbered (put (nothing at) (alike stmt_in_words (Return ∷ []))) (omega arith)
    acted (simple l w.Finish) y z s t w g k na ns at = renumbered (put (nothing at) (alike stmt_in_words (Finish ∷ []))) (omega arith)
    acted (block l no_declarations cs) y z s t w g k na ns at =
        let none : k + 0 ≡ k = omega arith in
        rw none (renumbered (acted_each cs y z s t w g k na ns at) (omega arith))
    acted (block l (declare e es) cs) y z s t w g k na ns at =
        let heads = all_declared (declare e es) (reached s w) t g k ns at in
        let body = unchosen no_choices (acted_each cs y z _ _ _ _ _ na heads.depth_is (at_choices heads.writing_is.at)) in
        renumbered (put (then heads.writing_is body) (same {s = Stack s} {r = Stack t} (ap Stack ns.same))) (omega arith)
    acted (repeat l c) y z s t w g k na ns at =
        let own = put (labelled {gs = gs} {ts = ts} 2 at) (same {s = Label w.next} {r = Label k} (ap Label at.next.same)) in
        let body = then own (acted c _ _ s t _ _ _ (in_loop at.next (near_after 1 at.next) ns na) ns own.at) in
        let ends = put_twice body (same {s = Jump w.next} {r = Jump k} (ap Jump at.next.same)) (same {s = Label (after w.next 1)} {r = Label (k + 1)} (ap Label (near_after 1 at.next).same)) in
        renumbered ends (omega arith)
    acted (repeat_while l v c e) y z s t w g k na ns at =
        let own = put (labelled {gs = gs} {ts = ts} 3 at) (same {s = Label w.next} {r = Label k} (ap Label at.next.same)) in
        let body = then own (acted c _ _ s t _ _ _ (in_loop (near_after 1 at.next) (near_after 2 at.next) ns na) ns own.at) in
        let between = put (nothing {gs = gs} {ts = ts} body.at) (same {s = Label (after w.next 1)} {r = Label (k + 1)} (ap Label (near_after 1 at.next).same)) in
        let test = then between ((tied e).jump s t _ _ _ ns between.at v w.next k at.next) in
        renumbered (put (tail_cases (then body test)) (same {s = Label (after w.next 2)} {r = Label (k + 2)} (ap Label (near_after 2 at.next).same))) (omega arith)

    acted_each : (cs : Commands) → (x y : Around) (s t : ℕ) (w : Writing) (g : Supply) (k : ℕ) → NearAround x y → Near s t → At w g k
        → Adds gs ts w (through_code ts y t k (f.commands cs g).part) (parts_through t k (f.commands cs g).part) (cases_through k (f.commands cs g).part) (default_through k (f.commands cs g).part) (f.commands cs g).left
        (k + n.labels_through (f.commands cs g).part) (each_act_written x s cs w)
    acted_each no_commands y z s t w g k na ns at = renumbered (nothing at) (omega arith)
    acted_each (also c cs) y z s t w g k na ns at =
        let first = acted c y z s t w g k na ns at in
        renumbered (then first (acted_each cs y z s t _ _ _ na ns first.at)) (omega arith)

    pub all_declared : (ds : Declarations) → (r : Reached) (t : ℕ) (g : Supply) (k : ℕ) → Near r.depth t → At r.writing g k
        → Declares r.writing (declarations_code ts t k (f.all_declared ds g).part) (parts_of_declarations t k (f.all_declared ds g).part) (depths.after_declarations t (f.all_declared ds g).part) (f.all_declared ds g).left
        (k + n.labels_of_declarations (f.all_declared ds g).part) (declared ds r)
    all_declared no_declarations r t g k ns at = record { writing_is = renumbered (nothing at) (omega arith); depth_is = ns }
    all_declared (declare e es) r t g k ns at =
        let first = declared_one e r t g k ns at in
        let rest = all_declared es _ _ _ _ first.depth_is first.writing_is.at in
        record { writing_is = renumbered (then first.writing_is rest.writing_is) (omega arith); depth_is = rest.depth_is }

    declared_one : (ds : Declaration) → (r : Reached) (t : ℕ) (g : Supply) (k : ℕ) → Near r.depth t → At r.writing g k
        → Declares r.writing (declaration_code ts t k (f.declared ds g).part) (parts_of_declaration t k (f.declared ds g).part) (depths.after_declaration t (f.declared ds g).part) (f.declared ds g).left
        (k + n.labels_of_declaration (f.declared ds g).part) (one_declared ds r)
    declared_one (constants l sort.Static is) r t g k ns at = record { writing_is = put_items is at; depth_is = ns }
    declared_one (constants l _ is) r t g k ns at = rw (no_parts is g) (record { writing_is = renumbered (took (λ v. (dropped is v).left) at) (omega arith); depth_is = ns })
    declared_one (definitions l es) r t g k ns at =
        let all = all_defined es r t g k ns at in
        rw (← same_variables es g) (record { writing_is = put_store (any_variables es) all.writing_is; depth_is = all.depth_is })

    all_defined : (ds : Definitions) → (r : Reached) (t : ℕ) (g : Supply) (k : ℕ) → Near r.depth t → At r.writing g k
        → Declares r.writing (definitions_code ts t k (f.all_defined ds g).part) (parts_of_definitions t k (f.all_defined ds g).part) (depths.after_definitions t (f.all_defined ds g).part) (f.all_defined ds g).left
        (k + n.labels_of_definitions (f.all_defined ds g).part) (defined ds r)
    all_defined no_definitions r t g k ns at = record { writing_is = renumbered (nothing at) (omega arith); depth_is = ns }
    all_defined (define e es) r t g k ns at =
        let first = defined_one e r t g k ns at in
        let rest = all_defined es _ _ _ _ first.depth_is first.writing_is.at in
        record { writing_is = renumbered (then first.writing_is rest.writing_is) (omega arith); depth_is = rest.depth_is }

    defined_one : (ds : Definition) → (r : Reached) (t : ℕ) (g : Supply) (k : ℕ) → Near r.depth t → At r.writing g k
        → Declares r.writing (definition_code ts t k (f.defined ds g).part) (parts_of_definition t k (f.defined ds g).part) (depths.after_definition t (f.defined ds g).part) (f.defined ds g).left
        (k + n.labels_of_definition (f.defined ds g).part) (one_defined ds r)
    defined_one (routine l x fs c) r t g k ns at =
        let body = acted c outermost outermost (after 2 (length fs)) (length fs + 2) (begins_procedure x (length fs) r.writing) _ _ in_procedure (near_is (near_after (length fs) (near 2)) (omega arith)) (begun_at x (length fs) at) in
        record { writing_is = renumbered (procedure_done (procedure k (f.defined (routine l x fs c) g).part) x (length fs) Return at body refl refl refl refl) (omega arith); depth_is = ns }
    defined_one (function l x fs e) r t g k ns at =
        let body = (tied e).value (after 2 (length fs)) (length fs + 2) (begins_procedure x (length fs) r.writing) _ _ (near_is (near_after (length fs) (near 2)) (omega arith)) (begun_at x (length fs) at) in
        record { writing_is = renumbered (procedure_done (procedure k (f.defined (function l x fs e) g).part) x (length fs) ReturnItem at body refl refl refl refl) (omega arith); depth_is = ns }
    defined_one (variables l xs is) r t g k ns at = begun is r t g k ns at

    begun : (is : Starts) → (r : Reached) (t : ℕ) (g : Supply) (k : ℕ) → Near r.depth t → At r.writing g k
        → Declares r.writing (starts_code ts t k (f.starts is g).part) (parts_of_starts t k (f.starts is g).part) (depths.after_starts t (f.starts is g).part) (f.starts is g).left
        (k + n.labels_of_starts (f.starts is g).part) (started is r)
    begun no_starts r t g k ns at = record { writing_is = renumbered (nothing at) (omega arith); depth_is = ns }
    begun (value e is) r t g k ns at =
        let first = (tied e).value r.depth t r.writing g k ns at in
        let rest = begun is (reached (after r.depth 1) (written r.depth aim.Value e r.writing)) (t + 1) _ _ (near_after 1 ns) first.at in
        record { writing_is = renumbered (then first rest.writing_is) (omega arith); depth_is = rest.depth_is }
    begun (vector l e is) r t g k ns at =
        let v : ℕ = (constant g).part in
        let same_word : (constant r.writing.left).part ≡ v = ap (λ x. (constant x).part) at.left in
        let near_top : Near (after r.depth ((constant r.writing.left).part + 1)) (t + v + 1) = near_is (near_after _ ns) (omega (arith, same_word)) in
        let words = put (took {gs = gs} {ts = ts} (λ x. (constant x).left) at) (and {s = Stack (after r.depth ((constant r.writing.left).part + 1))} {r = Stack (t + v + 1)} (ap Stack near_top.same) (one (Address (Local r.depth)) (Address (Local t)) (ap (λ x. Address (Local x)) ns.same))) in
        let rest = begun is (reached (after r.depth ((constant r.writing.left).part + 2)) _) (t + v + 2) _ _ (near_is (near_after _ ns) (omega (arith, same_word))) words.at in
        record { writing_is = renumbered (then words rest.writing_is) (omega arith); depth_is = rest.depth_is }
