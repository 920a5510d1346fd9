-- All forms: what holds of the meanings of the nodes inside holds of each node.
use Rattle.bk_simulation.proofs.Forms.{negates, inverts, not_true, turns_of, turns_among, turns_in, turns_through, Setting, Stretch, ByTurns, AreFrom, AreStores, AreValues, AreActs, CallAt, count, IsValue, IsJump, IsAddress, IsStore, IsAct, IsLoop, Entered, EnteredAny, EnteredBody, Configuration, start, Ready, Account, here, Ran, went, with_ran, turn_behind, CompletedAt, Has, Out, stay, completed_more, ran_first, ran_more, Simulates, for_value, for_truth, for_act, for_rounds, HasTruth, HasAddress, Destined, word, through, byte, Did, RanDid, for_scope, for_counts, contents_run, sign_run, plus_run, combined_run, for_two, one_run, two_run, RanValue, name_runs, number_runs, truth_runs, query_runs, text_runs, table_runs, denied_run, straight_run, over_run, choice_run, tested, order_adds, order_run, landing_adds, scope_runs, valof_run, while_rounds, repeat_rounds, repeat_while_rounds, while_run, while_sought, repeat_run, repeat_while_run, switch_run, switch_sought, when_run, when_sought, test_run, test_sought, left_here, finish_runs, resultis_runs, place_run, assigned_run, RanAddress, RanStore, address_runs, word_runs, contents_address, contents_store, subscript_address, subscript_store, byte_store, for_run, for_rounds_run, rounds_adds, AloneRuns, Procedures, KnowsLibrary, AloneAdds, apply_runs, word_negation, word_not, ◌≡◌, ℕ, suc, ◌+◌, ◌-◌, ◌*◌, ◌≤◌, Bool, true, false, List, ◌∷◌, ◌++◌, Some, refl, sym, ◌∙◌, subst, arith, zero, State, from_label, Stmt, Monadic, JumpIf, Stack, CallRoutine, FRAME_WORDS, infix_code, Operator, Expression, Expressions, Command, Commands, option_map, infix_word, divides_by_zero, Value, number, sum, on_numbers, operate_prefix, Environment, constant_in, past, past_each, labelled, Sought, the_label, the_case, the_default, Mode, forwards, seeking, World, ends, divide_by_zero, done, given, with, turn, Exit, going, history, After, Throughout, Meanings, at, fetch, in_order, scope_of, landing, alone, value_of, truth_of, address_in, combined, judged, assigned, act_of, applied, rounds_of, means_with, turn_for, means, no_turns, no_turn_for, Adds, adds, stays, given_after, with_after, each_way_after, either_after, Prefix, only_grows, goto, break, loop, endcase, return, acts_at, no_number, sum_cause, at_command}
use Rattle.bk_simulation.proofs.Terms.{Monadic as w, Operator as o, Prefix as q, Simple as k, Program, Target, byte_at, target_of}
use Rattle.bk_tree.specs.Tree as t
use Rattle.bk_simulation.proofs.Blocks.{block_runs}

-- what scopes add
pub scope_after : (setting : Setting) (inner : Meanings) → Simulates setting inner → (cs : Commands) (mode : Mode) (env : Environment) (v : World) → After (history v) (scope_of inner cs mode env v)
scope_after setting inner sim cs mode env v =
    each_way_after (history v) (in_order inner cs mode (labelled cs env) v) (λ _ w. done w) (landing cs env (λ x w. inner.scope cs (seeking (the_label x)) env w)) ((order_adds setting inner sim cs mode (labelled cs env)).at v)
    (λ _. adds _ (λ w1. stays (history w1))) (λ x. landing_adds setting inner sim cs env x)

pub alone_adds : (setting : Setting) (inner : Meanings) → Simulates setting inner → AloneAdds inner
alone_adds setting inner sim x env v = scope_after setting inner sim (alone x) forwards env v

pub alone_runs : (setting : Setting) (inner : Meanings) → Simulates setting inner → AloneRuns setting inner
alone_runs setting inner sim x z j c rest v l r = scope_runs setting inner sim (alone x) forwards z j l.0 c rest c v (l.1, l.2, l.3) refl r

-- what operators add
prefix_adds : (place : ℕ) (f : Prefix) (u : Value) → Adds (operate_prefix place f u)
prefix_adds place f (number n) = adds _ (λ v. given_after _ _ _ v)
prefix_adds place f _ = adds _ (λ v. stays (history v))

numbers_add : (place : ℕ) (f : Operator) (x y : Value) → Adds (on_numbers place f x y)
numbers_add place f (number a) (number b) = adds _ (λ v. either_after (divides_by_zero f (Some a) (Some b)) _ _ (adds (λ w. ends (divide_by_zero place) w) (λ w1. stays (history w1))) (adds (λ w. given place (no_number (number a)) (option_map number (infix_word f a b)) w) (λ w1. given_after _ _ _ w1)) v)
numbers_add place f _ _ = adds _ (λ v. stays (history v))

subscript_adds : (place : ℕ) (x y : Value) → Adds (combined place o.Subscript x y)
subscript_adds place x y = adds (combined place o.Subscript x y) (λ v. with_after (history v) (given place (sum_cause x y) (sum v.memory x y) v) (fetch place) (given_after place _ (sum v.memory x y) v) (λ a. adds _ (λ w1. given_after _ _ _ w1)))

combined_adds : (place : ℕ) (f : Operator) (x y : Value) → Adds (combined place f x y)
combined_adds place o.Subscript x y = subscript_adds place x y
combined_adds place o.Times x y = numbers_add place o.Times x y
combined_adds place o.Over x y = numbers_add place o.Over x y
combined_adds place o.Rem x y = numbers_add place o.Rem x y
combined_adds place o.ShiftLeft x y = numbers_add place o.ShiftLeft x y
combined_adds place o.ShiftRight x y = numbers_add place o.ShiftRight x y
combined_adds place o.Both x y = numbers_add place o.Both x y
combined_adds place o.Either x y = numbers_add place o.Either x y
combined_adds place o.Same x y = numbers_add place o.Same x y
combined_adds place o.Differ x y = numbers_add place o.Differ x y
combined_adds place _ x y = adds _ (λ v. given_after _ _ _ v)

-- a turn less
ready_ticked : (setting : Setting) (z : Configuration) (v : World) (n : ℕ) → Ready setting z v → Ready setting z (record v { turns = n })
ready_ticked setting z v n r = grind arith

-- places within larger accounts, and where a turn less was left
larger_address : (setting : Setting) (s : State) (A B : Account) (z : Configuration) (rest : List Stmt) (v : World) (n : ℕ) (u : Target) (w1 : World) → A.most ≤ B.most → B.least ≤ A.least → HasAddress setting s A z rest (record v { turns = n }) u w1
    → HasAddress setting s B z rest v u w1
larger_address setting s A B z rest v n (at a) w1 le ll y = record { arr = completed_more le ll y.arr; stands = y.stands }
larger_address setting s A B z rest v n (byte_at a i) w1 le ll y = tt

larger_store : (setting : Setting) (s : State) (A B : Account) (z : Configuration) (rest : List Stmt) (v : World) (n : ℕ) (u : Target) (w1 : World) → A.most ≤ B.most → B.least ≤ A.least → Destined setting s A z rest (record v { turns = n }) u w1
    → Destined setting s B z rest v u w1
larger_store setting s A B z rest v n _ _ le ll (word x ob i b w1 a eb ep) = word x ob i b w1 (completed_more le ll a) eb ep
larger_store setting s A B z rest v n _ _ le ll (through a w1 y) = through a w1 (record { arr = completed_more le ll y.arr; stands = y.stands })
larger_store setting s A B z rest v n _ _ le ll (byte a i w1 y sa si) = byte a i w1 (completed_more le ll y) sa si

module _ (setting : Setting) (p : Program) (inner : Meanings) (procs : Procedures setting p) (known : KnowsLibrary setting) (simulated : Simulates setting inner) where
  -- ---- values
  value_of_runs : (B : Account) (e : Expression) (z : Configuration) (c rest : List Stmt) (v : World) → 16 * v.turns + 12 ≤ B.most → B.least ≤ suc v.turns - turns_of false e → IsValue setting z.scene z.depth z.env e c rest → Ready setting z v
      → RanValue setting (start z c v) B z rest v (value_of p inner e z.env v)
  value_of_runs B (t.name l x) z c rest v le ll a r = name_runs _ setting B z c x rest v (omega arith) (omega arith) a r
  value_of_runs B (t.number l n) z c rest v le ll a r = number_runs setting B z c n rest v (omega arith) (omega arith) a.0 a.1 r
  value_of_runs B (t.text l x) z c rest v le ll a r = text_runs setting B z c _ rest v z.env.next (omega arith) (omega arith) a.0 a.1 r
  value_of_runs B (t.truth l x) z c rest v le ll a r = truth_runs setting B z c x rest v (omega arith) (omega arith) a r
  value_of_runs B (t.query l) z c rest v le ll a r = query_runs setting B z c rest v (omega arith) (omega arith) a r
  value_of_runs B (t.parens l e) z c rest v le ll a r =
      ran_first (omega arith) (omega arith) (λ u w1 y. record { arr = completed_more (omega arith) (omega arith) y.0.arr; stands = y.0.stands })
      (simulated.value e z c rest v a r)
  value_of_runs B (t.unary l q.Address e) z c rest v le ll a r =
      with_ran address_adds
      (ran_more (omega arith) (omega arith) (simulated.address e z c rest v a r)) addressed
    where
      address_adds : (u : Target) → Adds (address_in l u)
      address_adds (at a) = adds _ (λ w1. stays (history w1))
      address_adds (byte_at a i) = adds _ (λ w1. stays (history w1))

      addressed : (u : Target) (w1 : World) → HasAddress setting (start z c v) (for_value e v) z rest v u w1 → RanValue setting (start z c v) B z rest v (address_in l u w1)
      addressed (at u) w1 y = went (record { arr = completed_more (omega arith) (omega arith) y.arr; stands = y.stands })
      addressed (byte_at u i) w1 y = went tt
  value_of_runs B (t.unary l q.Contents e) z c rest v le ll a r =
      one_run setting inner simulated B e z c (Monadic w.Contents ∷ rest) v _ _ (λ u. adds _ (λ w1. given_after _ _ _ w1)) (omega arith) (omega arith) a r (λ u w1 y pos. contents_run _ setting (start z c v) (for_value e v) B z rest v w1 u (omega arith) (omega arith) r.deep y)
  value_of_runs B (t.unary l q.Plus e) z c rest v le ll a r =
      one_run setting inner simulated B e z c rest v _ _ (λ u. prefix_adds l q.Plus u) (omega arith) (omega arith) a r (λ u w1 y pos. plus_run _ setting (start z c v) (for_value e v) B z rest v w1 u (omega arith) (omega arith) y)
  value_of_runs B (t.unary l q.Minus e) z c rest v le ll a r =
      one_run setting inner simulated B e z c (Monadic w.Negate ∷ rest) v _ _ (λ u. prefix_adds l q.Minus u) (omega arith) (omega arith) a r (λ u w1 y pos. sign_run setting (start z c v) (for_value e v) B z w.Negate word_negation rest v w1 u (operate_prefix l q.Minus u w1) (λ t k. refl) (omega arith) (omega arith) r.deep y
      (negates setting.codes y.arr.bases1 y.arr.cells1 (z.frame + z.depth) w1 y.arr.fits l u _ y.stands))
  value_of_runs B (t.unary l q.Not e) z c rest v le ll a r =
      one_run setting inner simulated B e z c (Monadic w.Not ∷ rest) v _ _ (λ u. prefix_adds l q.Not u) (omega arith) (omega arith) a r (λ u w1 y pos. sign_run setting (start z c v) (for_value e v) B z w.Not word_not rest v w1 u (operate_prefix l q.Not u w1) (λ t k. refl) (omega arith) (omega arith) r.deep y
      (inverts setting.codes y.arr.bases1 y.arr.cells1 (z.frame + z.depth) w1 y.arr.fits l u _ y.stands))
  value_of_runs B (t.binary l f i x y) z c rest v le ll a r =
      two_run setting inner simulated B x y z c a.0 (infix_code f ++ rest) v _ _ (λ u1 u2. combined_adds i f u1 u2) (omega arith) (omega arith) a.1 a.2 r (λ u1 u2 w2 d pos. combined_run _ setting (start z c v) (for_two x y v) B z f rest v w2 u1 u2 (omega arith) (omega arith) r.deep d)
  value_of_runs B (t.choice l i e x y) z c rest v le ll a r = choice_run setting inner simulated B e x y z a.0 a.1 c a.2 a.3 rest v le (omega arith) a.4 a.5 a.6 a.7 a.8 r
  value_of_runs B (t.apply l i f es) z c rest v le ll a r = apply_runs _ true setting p inner procs known simulated (alone_runs setting inner simulated) (alone_adds setting inner simulated) B f es z c a.0 a.1 rest v (omega arith) (omega arith) a.2 a.3 a.4 a.5 a.6 r
  value_of_runs B (t.valof l x) z c rest v le ll a r = valof_run setting inner simulated B x z a.0 a.1 c rest v le (omega arith) (a.2.0, (a.2.1, a.2.2, a.2.3)) a.3 r
  value_of_runs B (t.table l es) z c rest v le ll a r = table_runs setting B z c a.0 rest v z.env.next (omega arith) (omega arith) a.1 a.2 r

  -- ---- truth
  -- of a value
  plain_truth : (B : Account) (e : Expression) (z : Configuration) (u : Bool) (n : ℕ) (to c rest : List Stmt) (v : World) → 16 * v.turns + 13 ≤ B.most → B.least ≤ suc v.turns - turns_of false e → IsValue setting z.scene z.depth z.env e c (JumpIf u n ∷ rest)
      → from_label z.scene.own.stmts n ≡ Some to → Ready setting z v → Ran setting (start z c v) B (HasTruth setting (start z c v) B z u to rest v) (Out setting (start z c v) B z v) (with (value_of p inner e z.env v) (judged (acts_at e)))
  plain_truth B e z u n to c rest v le ll a f r =
      let A : Account = record { most = 16 * v.turns + 12; least = suc v.turns - turns_of false e } in
      with_ran (λ x. adds _ (λ w1. given_after _ _ _ w1))
      (ran_more (omega arith) (omega arith) (value_of_runs A e z c (JumpIf u n ∷ rest) v (omega arith) (omega arith) a r))
      (λ x w1 y. tested _ (omega arith) (omega arith) r f y)

  truth_of_runs : (B : Account) (e : Expression) (z : Configuration) (u : Bool) (n : ℕ) (to c rest : List Stmt) (v : World) → 16 * v.turns + 13 ≤ B.most → B.least ≤ suc v.turns - turns_of false e → IsJump setting z.scene z.depth z.env e u n c rest
      → from_label z.scene.own.stmts n ≡ Some to → Ready setting z v → Ran setting (start z c v) B (HasTruth setting (start z c v) B z u to rest v) (Out setting (start z c v) B z v) (truth_of p inner e z.env v)
  truth_of_runs B (t.parens l e) z u n to c rest v le ll a f r =
      ran_first (omega arith) (omega arith)
      (λ x w1 y. completed_more (omega arith) (omega arith) y) (simulated.truth e z u n to c rest v a f r)
  truth_of_runs B (t.unary l q.Not e) z u n to c rest v le ll a f r = denied_run setting inner simulated B e z u n to c rest v (omega arith) (omega arith) a f r
  truth_of_runs B (t.binary l o.Both i x y) z true n to c rest v le ll a f r =
      over_run setting inner simulated B x y z true n a.0 to c a.1 rest v (omega arith) (omega arith) a.2 a.3 a.4 f r
  truth_of_runs B (t.binary l o.Both i x y) z false n to c rest v le ll a f r =
      straight_run setting inner simulated B x y z false n to c a.0 rest v (omega arith) (omega arith) a.1 a.2 f r
  truth_of_runs B (t.binary l o.Either i x y) z true n to c rest v le ll a f r =
      straight_run setting inner simulated B x y z true n to c a.0 rest v (omega arith) (omega arith) a.1 a.2 f r
  truth_of_runs B (t.binary l o.Either i x y) z false n to c rest v le ll a f r =
      over_run setting inner simulated B x y z false n a.0 to c a.1 rest v (omega arith) (omega arith) a.2 a.3 a.4 f r
  truth_of_runs B (t.binary l o.Byte i x y) z u n to c rest v le ll a f r = plain_truth B (t.binary l o.Byte i x y) z u n to c rest v le ll a f r
  truth_of_runs B y z u n to c rest v le ll a f r = plain_truth B y z u n to c rest v le ll a f r

  -- ---- places
  address_of_runs : (B : Account) (e : Expression) (z : Configuration) (c rest : List Stmt) (v : World) → 16 * v.turns + 12 ≤ B.most → B.least ≤ suc v.turns - turns_of false e → IsAddress setting z.scene z.depth z.env e c rest → Ready setting z v
      → RanAddress setting (start z c v) B z rest v (target_of inner e z.env v)
  address_of_runs B (t.name l x) z c rest v le ll a r = address_runs _ setting B z c x rest v (omega arith) (omega arith) a r
  address_of_runs B (t.parens l e) z c rest v le ll a r =
      ran_first (omega arith) (omega arith) (λ u w1 y. larger_address setting (start z c v) (for_value e v) B z rest v v.turns u w1 (omega arith) (omega arith) y)
      (simulated.address e z c rest v a r)
  address_of_runs B (t.unary l q.Contents e) z c rest v le ll a r = contents_address setting inner simulated B e z c rest v (omega arith) (omega arith) a r
  address_of_runs B (t.binary l o.Subscript i x y) z c rest v le ll a r = subscript_address _ setting inner simulated B x y z c a.0 rest v (omega arith) (omega arith) a.1 a.2 r
  address_of_runs B (t.binary l o.Byte i x y) z c rest v le ll a r = absurd a
  address_of_runs B _ z c rest v le ll a r = went tt

  store_of_runs : (B : Account) (e : Expression) (z : Configuration) (c rest : List Stmt) (v : World) → 16 * v.turns + 12 ≤ B.most → B.least ≤ suc v.turns - turns_of false e → IsStore setting z.scene z.depth z.env e c rest → Ready setting z v
      → RanStore setting (start z c v) B z rest v (target_of inner e z.env v)
  store_of_runs B (t.name l x) z c rest v le ll a r = word_runs _ setting B z c x rest v (omega arith) (omega arith) a r
  store_of_runs B (t.parens l e) z c rest v le ll a r =
      ran_first (omega arith) (omega arith) (λ u w1 y. larger_store setting (start z c v) (for_value e v) B z rest v v.turns u w1 (omega arith) (omega arith) y)
      (simulated.destination e z c rest v a r)
  store_of_runs B (t.unary l q.Contents e) z c rest v le ll a r = contents_store setting inner simulated B e z c rest v (omega arith) (omega arith) a r
  store_of_runs B (t.binary l o.Subscript i x y) z c rest v le ll a r = subscript_store _ setting inner simulated B x y z c a.0 rest v (omega arith) (omega arith) a.1 a.2 r
  store_of_runs B (t.binary l o.Byte i x y) z c rest v le ll a r = byte_store setting inner simulated B x y z c a.0 rest v (omega arith) (omega arith) a.1 a.2 r
  store_of_runs B _ z c rest v le ll a r = went tt

  -- ---- commands
  -- commands made of parts, within their account
  assigned_more : (B : Account) (xs es : Expressions) (z : Configuration) (c rest : List Stmt) (v : World) → 16 * v.turns + 16 ≤ B.most → B.least ≤ suc v.turns - (1 + (turns_among false xs + turns_among false es))
      → (vs ss : List Stretch) × AreFrom setting z.scene z.depth (past_each xs z.env) es vs × AreStores setting z.scene (z.depth + 1) z.env xs ss × ByTurns xs es vs ss c rest → Ready setting z v → RanDid setting (start z c v) B z rest v (assigned inner xs z.env es (past_each xs z.env) v)
  assigned_more B xs es z c rest v le ll a r =
      ran_first (omega arith) (omega arith)
      (λ _ w1 y. completed_more (omega arith) (omega arith) y)
      (assigned_run setting inner simulated xs es a.0 a.1 z.env (past_each xs z.env) z c rest v a.2 a.3 a.4 refl refl r)

  call_more : (place : ℕ) (B : Account) (f : Expression) (es : Expressions) (z : Configuration) (c rest : List Stmt) (v : World) → 16 * v.turns + 16 ≤ B.most → B.least ≤ suc v.turns - (1 + (turns_among false es + turns_of false f))
      → (c1 c2 : List Stmt) × (c ≡ Stack (z.depth + 2) ∷ c1) × AreValues setting z.scene (z.depth + 2) (past f z.env) es c1 c2 × IsValue setting z.scene (z.depth + 2 + count es) z.env f c2 (CallRoutine z.depth ∷ rest) × CallAt setting z.scene (CallRoutine z.depth) rest
      × (z.depth + 2 + count es + 1 ≤ FRAME_WORDS) → Ready setting z v → RanDid setting (start z c v) B z rest v (with (applied p inner place f es z.env v) (λ _ w. done w))
  call_more place B f es z c rest v le ll a r =
      with_ran (λ _. adds _ (λ w1. stays (history w1)))
      (apply_runs _ false setting p inner procs known simulated (alone_runs setting inner simulated) (alone_adds setting inner simulated) B f es z c a.0 a.1 rest v (omega arith) (omega arith) a.2 a.3 a.4 a.5 a.6 r) (λ x w1 y. went y)

  order_more : (B : Account) (cs : Commands) (mode : Mode) (z : Configuration) (there : Sought → List Stmt) (c rest e : List Stmt) (v : World) → 16 * v.turns + 16 ≤ B.most → B.least ≤ v.turns - turns_through false cs → AreActs setting z.scene z.depth z.env cs there c rest
      → EnteredAny mode z.env cs there c e → Ready setting z v → RanDid setting (start z e v) B z rest v (in_order inner cs mode z.env v)
  order_more B cs mode z there c rest e v le ll a en r =
      ran_first (omega arith) (omega arith)
      (λ _ w1 y. completed_more (omega arith) (omega arith) y) (order_run setting inner simulated cs mode z there c rest e v a en r)

  act_of_runs : (B : Account) (x : Command) (mode : Mode) (z : Configuration) (there : Sought → List Stmt) (c rest e : List Stmt) (v : World) → 16 * v.turns + 16 ≤ B.most → B.least ≤ suc v.turns - turns_in false x → B.least ≤ v.turns → IsAct setting z.scene z.depth z.env x there c rest
      → Entered mode z.env x there c e → Ready setting z v → RanDid setting (start z e v) B z rest v (act_of p inner x mode z.env v)
  act_of_runs B (t.empty) forwards z there c rest e v le ll lb a en r =
      subst (λ code. RanDid setting (start z code v) B z rest v (act_of p inner (t.empty) forwards z.env v)) (sym en)
      (went (subst (λ y. CompletedAt setting (start z c v) B z y z.depth v v) a (stay setting B z c v (omega arith) lb r)))
  act_of_runs B (t.assign l xs es) forwards z there c rest e v le ll lb a en r = subst (λ code. RanDid setting (start z code v) B z rest v (act_of p inner (t.assign l xs es) forwards z.env v)) (sym en) (assigned_more B xs es z c rest v le ll a r)
  act_of_runs B (t.call l f es) forwards z there c rest e v le ll lb a en r = subst (λ code. RanDid setting (start z code v) B z rest v (act_of p inner (t.call l f es) forwards z.env v)) (sym en) (call_more l B f es z c rest v le ll a r)
  act_of_runs B (t.goto l x) forwards z there c rest e v le ll lb a en r = subst (λ code. RanDid setting (start z code v) B z rest v (act_of p inner (t.goto l x) forwards z.env v)) (sym en) (left_here setting B z (goto x.letters) c v (omega arith) (omega arith) r tt ((Stack z.depth ∷ rest, a.0), a.1))
  act_of_runs B (t.label l x y) forwards z there c rest e v le ll lb a en r = place_run setting inner simulated B (the_label x) y forwards z there c rest e v (omega arith) (omega arith) a en r
  act_of_runs B (t.label l x y) (seeking s) z there c rest e v le ll lb a en r = place_run setting inner simulated B (the_label x) y (seeking s) z there c rest e v (omega arith) (omega arith) a en r
  act_of_runs B (t.case_of l i y) forwards z there c rest e v le ll lb a en r = place_run setting inner simulated B (the_case (constant_in z.env i)) y forwards z there c rest e v (omega arith) (omega arith) a en r
  act_of_runs B (t.case_of l i y) (seeking s) z there c rest e v le ll lb a en r = place_run setting inner simulated B (the_case (constant_in z.env i)) y (seeking s) z there c rest e v (omega arith) (omega arith) a en r
  act_of_runs B (t.default l y) forwards z there c rest e v le ll lb a en r = place_run setting inner simulated B (the_default) y forwards z there c rest e v (omega arith) (omega arith) a en r
  act_of_runs B (t.default l y) (seeking s) z there c rest e v le ll lb a en r = place_run setting inner simulated B (the_default) y (seeking s) z there c rest e v (omega arith) (omega arith) a en r
  act_of_runs B (t.when l b i y) forwards z there c rest e v le ll lb a en r = subst (λ code. RanDid setting (start z code v) B z rest v (act_of p inner (t.when l b i y) forwards z.env v)) (sym en) (when_run setting inner simulated B b i y z a.0 there c a.1 rest v (omega arith) (omega arith) a.2 a.3 a.4 r)
  act_of_runs B (t.when l b i y) (seeking s) z there c rest e v le ll lb a en r = when_sought setting inner simulated B i y s z a.0 there a.1 e rest v (omega arith) (omega arith) a.3 a.4 en r
  act_of_runs B (t.test l i x y) forwards z there c rest e v le ll lb a en r = subst (λ code. RanDid setting (start z code v) B z rest v (act_of p inner (t.test l i x y) forwards z.env v)) (sym en) (test_run setting inner simulated B i x y z a.0 a.1 a.4 a.5 c a.2 a.3 rest v (omega arith) (omega arith) a.6 a.7 a.8 a.9 a.10 r)
  act_of_runs B (t.test l i x y) (seeking s) z there c rest e v le ll lb a en r = test_sought setting inner simulated B i x y s z a.0 a.1 there a.4 a.5 a.2 a.3 e rest v (omega arith) (omega arith) a.7 a.8 a.10 a.11 en r
  act_of_runs B (t.while l b i y) forwards z there c rest e v le ll lb a en r = subst (λ code. RanDid setting (start z code v) B z rest v (act_of p inner (t.while l b i y) forwards z.env v)) (sym en) (while_run setting inner simulated B l b i y z there c rest v (omega arith) (omega arith) a r)
  act_of_runs B (t.while l b i y) (seeking s) z there c rest e v le ll lb a en r = while_sought setting inner simulated B l b i y s z there c rest e v (omega arith) (omega arith) a en r
  act_of_runs B (t.for_loop l x i j h y) forwards z there c rest e v le ll lb a en r = subst (λ code. RanDid setting (start z code v) B z rest v (act_of p inner (t.for_loop l x i j h y) forwards z.env v)) (sym en) (for_run setting inner simulated B l x i j h y z there c rest v le (omega arith) a (λ o v k env. rounds_adds x.at setting inner simulated y o v k env (adds _ (λ w1. scope_after setting inner simulated (alone y) forwards env w1))) r)
  act_of_runs B (t.switch l i y) forwards z there c rest e v le ll lb a en r = subst (λ code. RanDid setting (start z code v) B z rest v (act_of p inner (t.switch l i y) forwards z.env v)) (sym en) (switch_run setting inner simulated B l i y z there c rest v (omega arith) (omega arith) a r)
  act_of_runs B (t.switch l i y) (seeking s) z there c rest e v le ll lb a en r = switch_sought setting inner simulated B l i y s z there c rest e v (omega arith) (omega arith) a en r
  act_of_runs B (t.result l i) forwards z there c rest e v le ll lb a en r = subst (λ code. RanDid setting (start z code v) B z rest v (act_of p inner (t.result l i) forwards z.env v)) (sym en) (resultis_runs setting inner simulated B i z a.0 c rest v (omega arith) (omega arith) a.1 a.2 r)
  act_of_runs B (t.simple l k.Break) forwards z there c rest e v le ll lb a en r = subst (λ code. RanDid setting (start z code v) B z rest v (act_of p inner (t.simple l k.Break) forwards z.env v)) (sym en) (left_here setting B z break c v (omega arith) (omega arith) r tt ((Stack z.depth ∷ rest, a.0), a.1))
  act_of_runs B (t.simple l k.Loop) forwards z there c rest e v le ll lb a en r = subst (λ code. RanDid setting (start z code v) B z rest v (act_of p inner (t.simple l k.Loop) forwards z.env v)) (sym en) (left_here setting B z loop c v (omega arith) (omega arith) r tt ((Stack z.depth ∷ rest, a.0), a.1))
  act_of_runs B (t.simple l k.EndCase) forwards z there c rest e v le ll lb a en r = subst (λ code. RanDid setting (start z code v) B z rest v (act_of p inner (t.simple l k.EndCase) forwards z.env v)) (sym en) (left_here setting B z endcase c v (omega arith) (omega arith) r tt ((Stack z.depth ∷ rest, a.0), a.1))
  act_of_runs B (t.simple l k.Return) forwards z there c rest e v le ll lb a en r = subst (λ code. RanDid setting (start z code v) B z rest v (act_of p inner (t.simple l k.Return) forwards z.env v)) (sym en) (left_here setting B z return c v (omega arith) (omega arith) r tt (rest, a))
  act_of_runs B (t.simple l k.Finish) forwards z there c rest e v le ll lb a en r = subst (λ code. RanDid setting (start z code v) B z rest v (act_of p inner (t.simple l k.Finish) forwards z.env v)) (sym en) (finish_runs setting B z c rest v (omega arith) a)
  act_of_runs B (t.block l t.no_declarations cs) forwards z there c rest e v le ll lb a en r = order_more B cs forwards z there c rest e v le (omega arith) a en r
  act_of_runs B (t.block l t.no_declarations cs) (seeking s) z there c rest e v le ll lb a en r = order_more B cs (seeking s) z there c rest e v le (omega arith) a en r
  act_of_runs B (t.block l (t.declare h hs) cs) forwards z there c rest e v le ll lb a en r = subst (λ code. RanDid setting (start z code v) B z rest v (act_of p inner (t.block l (t.declare h hs) cs) forwards z.env v)) (sym en) (block_runs setting inner simulated (λ env w1 ds. scope_after setting inner simulated ds forwards env w1) B l h hs cs z there c rest v (omega arith) (omega arith) a r)
  act_of_runs B (t.repeat l y) mode z there c rest e v le ll lb a en r = repeat_run setting inner simulated B l y mode z there c rest e v (omega arith) (omega arith) a en r
  act_of_runs B (t.repeat_while l b y i) mode z there c rest e v le ll lb a en r =
      repeat_while_run setting inner simulated B l b y i mode z there c rest e v (omega arith) (omega arith) a en r
  act_of_runs B _ (seeking s) z there c rest e v le ll lb a en r = not_true en.0

  -- ---- with their turns
  value_turn : (e : Expression) (z : Configuration) (c rest : List Stmt) (v : World) → IsValue setting z.scene z.depth z.env e c rest → Ready setting z v
      → Ran setting (start z c v) (for_value e v) (λ u w1. Has setting (start z c v) (for_value e v) z rest (z.depth + 1) v u w1 × (1 ≤ v.turns)) (Out setting (start z c v) (for_value e v) z v) (turn (acts_at e) v (λ w. value_of p inner e z.env w))
  value_turn e z c rest v a r =
      turn_behind _ 0 0 v _ (here _) (omega arith) (omega arith) refl refl (λ n en.
      let v1 : World = record v { turns = n } in
      let B : Account = for_value e v in
      ran_first (omega arith) (omega arith)
      (λ u w1 y. (record { arr = y.arr; stands = y.stands }, omega arith)) (value_of_runs B e z c rest v1 (omega arith) (omega arith) a (ready_ticked setting z v n r)))

  truth_turn : (e : Expression) (z : Configuration) (u : Bool) (n : ℕ) (to c rest : List Stmt) (v : World) → IsJump setting z.scene z.depth z.env e u n c rest → from_label z.scene.own.stmts n ≡ Some to → Ready setting z v
      → Ran setting (start z c v) (for_truth e v) (HasTruth setting (start z c v) (for_truth e v) z u to rest v) (Out setting (start z c v) (for_truth e v) z v) (turn (acts_at e) v (λ w. truth_of p inner e z.env w))
  truth_turn e z u n to c rest v a f r =
      turn_behind _ 0 0 v _ (here _) (omega arith) (omega arith) refl refl (λ k en.
      truth_of_runs (for_truth e v) e z u n to c rest (record v { turns = k }) (omega arith) (omega arith) a f (ready_ticked setting z v k r))

  address_turn : (e : Expression) (z : Configuration) (c rest : List Stmt) (v : World) → IsAddress setting z.scene z.depth z.env e c rest → Ready setting z v
      → Ran setting (start z c v) (for_value e v) (HasAddress setting (start z c v) (for_value e v) z rest v) (Out setting (start z c v) (for_value e v) z v) (turn (acts_at e) v (λ w. target_of inner e z.env w))
  address_turn e z c rest v a r =
      turn_behind _ 0 0 v _ (here _) (omega arith) (omega arith) refl refl (λ n en.
      let v1 : World = record v { turns = n } in
      let B : Account = for_value e v in
      ran_first (omega arith) (omega arith)
      (λ u w1 y. larger_address setting (start z c v) B B z rest v n u w1 (omega arith) (omega arith) y) (address_of_runs B e z c rest v1 (omega arith) (omega arith) a (ready_ticked setting z v n r)))

  store_turn : (e : Expression) (z : Configuration) (c rest : List Stmt) (v : World) → IsStore setting z.scene z.depth z.env e c rest → Ready setting z v
      → Ran setting (start z c v) (for_value e v) (λ u w1. Destined setting (start z c v) (for_value e v) z rest v u w1) (Out setting (start z c v) (for_value e v) z v) (turn (acts_at e) v (λ w. target_of inner e z.env w))
  store_turn e z c rest v a r =
      turn_behind _ 0 0 v _ (here _) (omega arith) (omega arith) refl refl (λ n en.
      let v1 : World = record v { turns = n } in
      let B : Account = for_value e v in
      ran_first (omega arith) (omega arith)
      (λ u w1 y. larger_store setting (start z c v) B B z rest v n u w1 (omega arith) (omega arith) y) (store_of_runs B e z c rest v1 (omega arith) (omega arith) a (ready_ticked setting z v n r)))

  act_turn : (x : Command) (mode : Mode) (z : Configuration) (there : Sought → List Stmt) (c rest e : List Stmt) (v : World) → 1 ≤ turns_in false x → IsAct setting z.scene z.depth z.env x there c rest → Entered mode z.env x there c e → Ready setting z v
      → RanDid setting (start z e v) (for_act x v) z rest v (turn (at_command x) v (λ w. act_of p inner x mode z.env w))
  act_turn x mode z there c rest e v pos a en r =
      turn_behind _ 0 0 v _ (here _) (omega arith) (omega arith) refl refl (λ n ev.
      act_of_runs (for_act x v) x mode z there c rest e (record v { turns = n }) (omega arith) (omega arith) (omega arith) a en (ready_ticked setting z v n r))

  act_run : (x : Command) (mode : Mode) (z : Configuration) (there : Sought → List Stmt) (c rest e : List Stmt) (v : World) → IsAct setting z.scene z.depth z.env x there c rest → Entered mode z.env x there c e → Ready setting z v
      → RanDid setting (start z e v) (for_act x v) z rest v (turn_for x v (λ w. act_of p inner x mode z.env w))
  act_run t.empty forwards z there c rest e v a en r =
      went (subst (λ code. Did setting (start z e v) (for_act t.empty v) z code v v) (en ∙ a) (stay setting (for_act t.empty v) z e v (omega arith) (omega arith) r))
  act_run t.empty (seeking s) z there c rest e v a en r = not_true en.0
  act_run x mode z there c rest e v a en r = act_turn x mode z there c rest e v (omega arith) a en r

  loop_run : (x : Command) (mode : Mode) (z : Configuration) (there : Sought → List Stmt) (body rest e : List Stmt) (v : World) → IsLoop setting z.scene z.depth z.env x there body rest → EnteredBody mode z.env x there body e → Ready setting z v
      → RanDid setting (start z e v) (for_rounds x v) z rest v (rounds_of inner x mode z.env v)
  loop_run (t.while l b i y) mode z there body rest e v a en r = while_rounds setting inner simulated l b i y mode z there body rest e v a en r
  loop_run (t.repeat l y) mode z there body rest e v a en r = repeat_rounds setting inner simulated l y mode z there body rest e v a en r
  loop_run (t.repeat_while l b y i) mode z there body rest e v a en r = repeat_while_rounds setting inner simulated l b y i mode z there body rest e v a en r
  loop_run _ mode z there body rest e v a en r = absurd a

  -- WHAT HOLDS OF THE NODES INSIDE HOLDS OF EACH NODE
  pub simulates_next : Throughout (λ A w u. After (history w) u) (means_with p inner) → Simulates setting (means_with p inner)
  simulates_next grows = record {
    grows = grows;
    value = value_turn;
    truth = truth_turn;
    address = address_turn;
    destination = store_turn;
    act = act_run;
    rounds = loop_run;
    scope = λ cs mode z j there c rest e v a en r. scope_runs setting inner simulated cs mode z j there c rest e v a en r;
    for_rounds = λ place x ob u i d z body rest v ed lf lim r. for_rounds_run place setting inner simulated x ob u i d z body rest v ed lf lim r;
  }

-- ---- With any number of turns each form does what it means.

-- where no turn is left a run goes on from where it is
still_going : {A : Type 0} {l : ℕ} {K : A → World → Type 0} {X : Exit → World → Type 0} (setting : Setting) (B : Account) (z : Configuration) (c : List Stmt) (w : World)
    → B.least ≤ w.turns → Ran setting (start z c w) B K X (going l w)
still_going setting B z c w le = went (record { to = start z c w; steps = 0; paid = 0; comes = here _; most = omega arith; least = omega arith; wrote = refl; left = refl })

act_without : (setting : Setting) (x : Command) (mode : Mode) (z : Configuration) (there : Sought → List Stmt) (c rest e : List Stmt) (w : World) → IsAct setting z.scene z.depth z.env x there c rest → Entered mode z.env x there c e → Ready setting z w
    → RanDid setting (start z e w) (for_act x w) z rest w (no_turn_for x w)
act_without setting t.empty forwards z there c rest e w a en r =
    went (subst (λ code. Did setting (start z e w) (for_act t.empty w) z code w w) (en ∙ a) (stay setting (for_act t.empty w) z e w (omega arith) (omega arith) r))
act_without setting t.empty (seeking s) z there c rest e w a en r = not_true en.0
act_without setting x mode z there c rest e w a en r = still_going setting (for_act x w) z e w (omega arith)

without_turns : (setting : Setting) (p : Program) → Simulates setting no_turns
without_turns setting p = record {
  grows = only_grows p zero;
  value = λ e z c rest w a r. still_going setting (for_value e w) z c w (omega arith);
  truth = λ e z u n to c rest w a f r. still_going setting (for_truth e w) z c w (omega arith);
  address = λ e z c rest w a r. still_going setting (for_value e w) z c w (omega arith);
  destination = λ e z c rest w a r. still_going setting (for_value e w) z c w (omega arith);
  act = act_without setting;
  rounds = λ x mode z there body rest e w a en r. still_going setting (for_rounds x w) z e w (omega arith);
  scope = λ cs mode z j there c rest e w a en r. still_going setting (for_scope cs w) z e w (omega arith);
  for_rounds = λ place x ob u k d z body rest w ed lf lim r. still_going setting (for_counts x w) z body w (omega arith);
}

-- ALL FORMS, WITH ANY NUMBER OF TURNS
pub simulates : (setting : Setting) (p : Program) → Procedures setting p → KnowsLibrary setting → (n : ℕ) → Simulates setting (means p n)
simulates setting p procs known zero = without_turns setting p
simulates setting p procs known (suc n) = simulates_next setting p (means p n) procs known (simulates setting p procs known n) (only_grows p (suc n))
