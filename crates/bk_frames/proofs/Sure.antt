-- What is surely spare on a stack leaves what is surely spare above it.
use Rattle.bk_frames.proofs.Terms.{◌≡◌, ◌≤◌, ◌<◌, ℕ, zero, suc, List, [], ◌∷◌, cond, refl, ◌+◌, ◌==◌, max, Bool, true, length, inl, inr, ap, arith, TREE_DEPTH, Guard, Size, Frame, Decl, Unfinished, ParserState, Form, depth, depth_of_each, depth_of_command, depth_of_commands, depth_of_declarations, depth_of_items, depth_of_definitions, depth_of_starts, nodes, nodes_of_each, nodes_of_command, nodes_of_commands, nodes_of_declarations, nodes_of_items, nodes_of_definitions, nodes_of_starts, nat_lt, nat_le, map, inner, size, start_count, Stack, in_section, in_args, unfinished_on, kept, owed, form_of, size_of_declarations, held_depth, held_nodes, Always, Limit, owes, alone, spare_of_section, Leaves, IsSmall, above, stack, spare_under, spare_below, Spared, state, part_of, OpenExpression as o, Phrase as p, Member as member, Clause as c, Place as a, Point as t, Unfinished as b, ParserState as n, Lookahead, going, repeating, operating, Closed, Missing, Started, Whole, Guarded, Gives, Does, Operates, Defines, Declares, Wants, Misses, Lists, Due, Completes}
use Rattle.bk_frames.specs.declared.size.Form.TheVariants.{Label, Call, Callable, Other}
use Rattle.bk_tree.specs.Tree.{Expression, Expressions, Items, Declarations, no_items, item, none, more, mention, expression, expressions_in, step_in, command_in, commands_in, declarations_in, items_in, definitions_in, starts_in}
use Rattle.bk_frames.proofs.Lowering.{at_closing, at_listing, at_argument, at_assignment, any, at_part, either, taken}

abbrev Completions : Type 1
Completions = ℕ → ℕ → Lookahead → Type 0

-- a section within the limits
abbrev Most : ℕ → ℕ → Type 0
Most = Limit true

-- up to so many levels and nodes
abbrev Lifts : ℕ → ℕ → Completions → Completions → Type 0
Lifts e m F G = (d n : ℕ) → d ≤ e → n ≤ m → (c : Lookahead) → F d n c → G d n c

closed_in : (e m : ℕ) (F G : Completions) → Lifts e m F G → (d n : ℕ) → d + 1 ≤ e → n + 1 ≤ m → (c : Lookahead) → Closed F d n c → Closed G d n c
closed_in e m F G h1 d n h2 h3 c h4 = grind arith

missing_in : (e m : ℕ) (F G : Completions) → Lifts e m F G → (d n : ℕ) → d + 1 ≤ e → n + 1 ≤ m → (c : Lookahead) → Missing F d n c → Missing G d n c
missing_in e m F G h1 d n h2 h3 c h4 = grind arith

started_in : (e m : ℕ) (F G : Completions) → Lifts e m F G → (f : Form) (d n : ℕ) → max d 1 + 2 ≤ e → n + 5 ≤ m → (c : Lookahead) → Started F f d n c → Started G f d n c
started_in e m F G h1 f d n h2 h3 c h4 = grind (arith, closed_in, missing_in)

whole_in : (e m : ℕ) (F G : Form → Completions) → ((f : Form) → Lifts e m (F f) (G f)) → (f : Form) (d n : ℕ) → d + 1 ≤ e → n + 1 ≤ m → Whole F f d n → Whole G f d n
whole_in e m F G h1 f d n h2 h3 h4 = grind arith

guarded_in : (e m : ℕ) (F G : Completions) → Lifts e m F G → (k : Guard) (d n : ℕ) → max d 1 + 2 ≤ e → n + 2 ≤ m → Guarded k F d n → Guarded k G d n
guarded_in e m F G h1 k d n h2 h3 h4 = grind (arith, missing_in)

-- with any part of at most this depth and so many nodes on this stack, and with what is due on it
pub record Sure (levels most : ℕ) (st : Stack) : Type 0 where
  pub gives : (f : Form) (d n : ℕ) → d ≤ levels → n ≤ most → (c : Lookahead) → Gives Always st f d n c → Gives Most st f d n c
  pub does : (d n : ℕ) → d ≤ levels → n ≤ most → (c : Lookahead) → Does Always st d n c → Does Most st d n c
  -- (the operator adds a level and two nodes)
  pub operates : (d n : ℕ) → d + 1 ≤ levels → n + 2 ≤ most → Operates Always st (Gives Always st) d n → Operates Most st (Gives Most st) d n
  pub defines : (d n : ℕ) → d ≤ levels → n ≤ most → Defines Always st d n → Defines Most st d n
  pub declares : (d n : ℕ) → d ≤ levels → n ≤ most → Declares Always st d n → Declares Most st d n
  pub wants : Wants Always st → Wants Most st
  pub misses : Misses Always st → Misses Most st
  pub due : Due Always st → Due Most st

-- of this much: nothing is known where no level or no node is spare
abbrev pub Spares : Size → Stack → Type 0
Spares s st = 0 < s.depth → 0 < s.nodes → Sure s.depth s.nodes st

abbrev Fewer : ℕ → ℕ → ℕ → ℕ → Unfinished → Type 0
Fewer e m l k x = (e + 2 ≤ l) × (held_depth (alone x) + 2 ≤ l) × (m + held_nodes (alone x) + owes (alone x) + 6 ≤ k) × (1 ≤ e) × (1 ≤ m)

module _ (e m l k : ℕ) (st : Stack) (s : Sure l k st) where
  gives_on : (x : Unfinished) → Fewer e m l k x → (f : Form) (d n : ℕ) → d ≤ e → n ≤ m → (c : Lookahead) → Gives Always (unfinished_on x st) f d n c → Gives Most (unfinished_on x st) f d n c
  gives_on (b.OpenExpression (o.Parens i)) (u, v, w, y, z) f d n p q c h = at_closing (whole_in l k (Gives Always st) (Gives Most st) s.gives Callable (d + 1) (n + 1) (omega (arith, u, p)) (omega (arith, w, q))) c h
  gives_on (b.OpenExpression (o.Unary i j)) (u, v, w, y, z) f d n p q c h = s.gives Other (d + 1) (n + 1) (omega (arith, u, p)) (omega (arith, w, q)) c h
  gives_on (b.OpenExpression (o.Binary i j x)) (u, v, w, y, z) f d n p q c h =
      let e1 = expression x.value in
      s.gives Other (max (depth e1) d + 1) (nodes e1 + n + 1) (omega (arith, u, v, p)) (omega (arith, w, q)) c h
  gives_on (b.OpenExpression (o.Chain i j x1 x2)) (u, v, w, y, z) f d n p q c h =
      let e1 = expression x1.value in
      let e2 = expression x2.value in
      s.gives Other (max (depth e1) (max (depth e2) d + 1) + 1) (nodes e1 + (nodes e2 + n + 1) + 1) (omega (arith, u, v, p)) (omega (arith, w, q)) c h
  gives_on (b.OpenExpression (o.Then i x1)) (u, v, w, y, z) f d n p q c h =
      let e1 = expression x1.value in
      at_listing (any (s.gives Other (max (depth e1) (max d 1) + 1) (nodes e1 + n + 2) (omega (arith, u, v, y, p)) (omega (arith, w, q)))) c h
  gives_on (b.OpenExpression (o.Else i x1 x2)) (u, v, w, y, z) f d n p q c h =
      let e1 = expression x1.value in
      let e2 = expression x2.value in
      s.gives Other (max (depth e1) (max (depth e2) d) + 1) (nodes e1 + nodes e2 + n + 1) (omega (arith, u, v, p)) (omega (arith, w, q)) c h
  gives_on (b.OpenExpression (o.Args i x1 xs)) (u, v, w, y, z) f d n p q c h =
      let e1 = expression x1.value in
      let es = expressions_in xs.items in
      at_argument (whole_in l k (Gives Always st) (Gives Most st) s.gives Call (max (depth e1) (max (depth_of_each es) d) + 1) (nodes e1 + (nodes_of_each es + n) + 1) (omega (arith, u, v, p)) (omega (arith, w, q)))
      (whole_in l k (Gives Always st) (Gives Most st) s.gives Call (max (depth e1) (max (depth_of_each es) (max d 1)) + 1) (nodes e1 + (nodes_of_each es + n) + 2) (omega (arith, u, v, y, p)) (omega (arith, w, q))) c h
  gives_on (b.OpenExpression (o.Table i xs)) (u, v, w, y, z) f d n p q c h =
      let es = expressions_in xs.items in
      at_part (s.gives Other (max (depth_of_each es) d + 1) (nodes_of_each es + n + 1) (omega (arith, u, v, p)) (omega (arith, w, q)))
      (s.gives Other (max (depth_of_each es) (max d 1) + 1) (nodes_of_each es + n + 2) (omega (arith, u, v, y, p)) (omega (arith, w, q))) c h
  gives_on (b.Phrase p.Start) (u, v, w, y, z) f d n p q c h = started_in l k (Does Always st) (Does Most st) s.does f d n (omega (arith, u, y, p)) (omega (arith, w, q)) c h
  gives_on (b.Phrase (p.Dests x1)) (u, v, w, y, z) f d n p q c h =
      let xs = expressions_in x1.items in
      at_assignment (any (closed_in l k (Does Always st) (Does Most st) s.does (max (max (depth_of_each xs) 1) d + 1) (nodes_of_each xs + n + size xs + 2) (omega (arith, u, v, y, p)) (omega (arith, w, q))))
      (any (closed_in l k (Does Always st) (Does Most st) s.does (max (max (depth_of_each xs) 1) d + 1) (nodes_of_each xs + n + size xs + 4) (omega (arith, u, v, y, p)) (omega (arith, w, q)))) c h
  gives_on (b.Phrase (p.Values x1 x2)) (u, v, w, y, z) f d n p q c h =
      let xs = expressions_in x1.items in
      let ys = expressions_in x2.items in
      let few : owed (size xs) (size ys) ≤ size xs = omega arith in
      either (size xs == size ys + 1) (closed_in l k (Does Always st) (Does Most st) s.does (max (depth_of_each xs) (max (depth_of_each ys) d) + 1) (nodes_of_each xs + (nodes_of_each ys + n) + 1) (omega (arith, u, v, p)) (omega (arith, w, q)))
      (at_listing (any (closed_in l k (Does Always st) (Does Most st) s.does (max (depth_of_each xs) (max (depth_of_each ys) (max d 1)) + 1) (nodes_of_each xs + (nodes_of_each ys + n) + owed (size xs) (size ys) + 1) (omega (arith, u, v, y, p)) (omega (arith, w, q, few))))) c h
  gives_on (b.Phrase (p.Guard i j)) (u, v, w, y, z) f d n p q c h = at_closing (guarded_in l k (Does Always st) (Does Most st) s.does i d n (omega (arith, u, y, p)) (omega (arith, w, q))) c h
  gives_on (b.Phrase (p.Test i)) (u, v, w, y, z) f d n p q c h = at_closing (any (s.does (max d 1 + 1) (n + 3) (omega (arith, u, y, p)) (omega (arith, w, q)))) c h
  gives_on (b.Phrase (p.ResultIs i)) (u, v, w, y, z) f d n p q c h = closed_in l k (Does Always st) (Does Most st) s.does (d + 1) (n + 1) (omega (arith, u, p)) (omega (arith, w, q)) c h
  gives_on (b.Phrase (p.RepeatWhile i x1)) (u, v, w, y, z) f d n p q c h =
      let e1 = command_in x1.value in
      closed_in l k (Does Always st) (Does Most st) s.does (max (depth_of_command e1) d + 1) (nodes_of_command e1 + n + 1) (omega (arith, u, v, p)) (omega (arith, w, q)) c h
  gives_on (b.Phrase (p.From i j)) (u, v, w, y, z) f d n p q c h = at_closing (any (s.does (max d 1 + 1) (n + 3) (omega (arith, u, y, p)) (omega (arith, w, q)))) c h
  gives_on (b.Phrase (p.To i j x1)) (u, v, w, y, z) f d n p q c h =
      let e1 = expression x1.value in
      at_closing (any (s.does (max (depth e1) (max d 1) + 1) (nodes e1 + n + 2) (omega (arith, u, v, y, p)) (omega (arith, w, q)))) c h
  gives_on (b.Phrase (p.By i j x1 x2)) (u, v, w, y, z) f d n p q c h =
      let e1 = expression x1.value in
      let e2 = expression x2.value in
      at_closing (any (s.does (max (depth e1) (max (depth e2) (max d 1)) + 1) (nodes e1 + nodes e2 + n + 2) (omega (arith, u, v, y, p)) (omega (arith, w, q)))) c h
  gives_on (b.Member (member.Item i j x1 x2)) (u, v, w, y, z) f d n p q c h =
      let is = items_in x1.items in
      at_closing (s.declares (max (depth_of_items is) (d + 1)) (nodes_of_items is + (n + 1)) (omega (arith, u, v, p)) (omega (arith, w, q))) c h
  gives_on (b.Member (member.Function i j)) (u, v, w, y, z) f d n p q c h = at_closing (s.defines (d + 1) (n + 1) (omega (arith, u, p)) (omega (arith, w, q))) c h
  gives_on (b.Member (member.Value x1 x2)) (u, v, w, y, z) f d n p q c h =
      let xs = map mention x1.items in
      let is = starts_in x2.items in
      let few : owed (length xs) (start_count is) ≤ length xs = omega arith in
      either (length xs == start_count is + 1) (at_closing (s.defines (max (depth_of_starts is) d + 1) (nodes_of_starts is + n + 1) (omega (arith, u, v, p)) (omega (arith, w, q))))
      (at_listing (s.defines (max (depth_of_starts is) (max d 1) + 1) (nodes_of_starts is + n + owed (length xs) (start_count is) + 1) (omega (arith, u, v, y, p)) (omega (arith, w, q, few)))) c h
  gives_on (b.Member (member.Vector i x1 x2)) (u, v, w, y, z) f d n p q c h =
      let xs = map mention x1.items in
      let is = starts_in x2.items in
      let few : owed (length xs) (start_count is) ≤ length xs = omega arith in
      either (length xs == start_count is + 1) (at_closing (s.defines (max (depth_of_starts is) d + 1) (nodes_of_starts is + n + 1) (omega (arith, u, v, p)) (omega (arith, w, q))))
      (at_listing (s.defines (max (depth_of_starts is) (max d 1) + 1) (nodes_of_starts is + n + owed (length xs) (start_count is) + 1) (omega (arith, u, v, y, p)) (omega (arith, w, q, few)))) c h
  gives_on (b.Point (t.Goto i)) _ f d n p q c h = h
  gives_on (b.Place (a.Let i j)) _ f d n p q c h = h
  gives_on (b.Clause (c.Valof i)) _ f d n p q c h = h
  gives_on x _ f d n p q c h = h

  does_on : (x : Unfinished) → Fewer e m l k x → (d n : ℕ) → d ≤ e → n ≤ m → (c : Lookahead) → Does Always (unfinished_on x st) d n c → Does Most (unfinished_on x st) d n c
  does_on (b.Clause (c.Valof i)) (u, v, w, y, z) d n p q going h = any (s.gives Call (d + 2) (n + 2) (omega (arith, u, p)) (omega (arith, w, q))) h
  does_on (b.Clause (c.Valof i)) (u, v, w, y, z) d n p q operating h = s.operates (d + 1) (n + 1) (omega (arith, u, p)) (omega (arith, w, q)) h
  does_on (b.Clause (c.Valof i)) (u, v, w, y, z) d n p q repeating h = h
  does_on (b.Clause (c.Valof i)) (u, v, w, y, z) d n p q x h = s.gives Callable (d + 1) (n + 1) (omega (arith, u, p)) (omega (arith, w, q)) x h
  does_on (b.Clause (c.Label i j)) (u, v, w, y, z) d n p q c h = s.does (d + 1) (n + 1) (omega (arith, u, p)) (omega (arith, w, q)) c h
  does_on (b.Clause (c.Guarded i j x1)) (u, v, w, y, z) d n p q c h =
      let e1 = expression x1.value in
      s.does (max (depth e1) d + 1) (nodes e1 + n + 1) (omega (arith, u, v, p)) (omega (arith, w, q)) c h
  does_on (b.Clause (c.Default i)) (u, v, w, y, z) d n p q c h = s.does (d + 1) (n + 1) (omega (arith, u, p)) (omega (arith, w, q)) c h
  does_on (b.Clause (c.Then i x1)) (u, v, w, y, z) d n p q c h =
      let e1 = expression x1.value in
      at_closing (any (s.does (max (depth e1) (max d 1) + 1) (nodes e1 + n + 2) (omega (arith, u, v, y, p)) (omega (arith, w, q)))) c h
  does_on (b.Clause (c.Else i x1 x2)) (u, v, w, y, z) d n p q c h =
      let e1 = expression x1.value in
      let e2 = command_in x2.value in
      s.does (max (depth e1) (max (depth_of_command e2) d) + 1) (nodes e1 + nodes_of_command e2 + n + 1) (omega (arith, u, v, p)) (omega (arith, w, q)) c h
  does_on (b.Clause (c.For i j x1 x2 x3)) (u, v, w, y, z) d n p q c h =
      let e1 = expression x1.value in
      let e2 = expression x2.value in
      let e3 = step_in x3 in
      s.does (max (depth e1) (max (depth e2) (max (depth_of_each e3) d)) + 1) (nodes e1 + nodes e2 + nodes_of_each e3 + n + 1) (omega (arith, u, v, p)) (omega (arith, w, q)) c h
  does_on (b.Clause (c.Routine i j)) (u, v, w, y, z) d n p q c h = at_closing (s.defines (d + 1) (n + 1) (omega (arith, u, p)) (omega (arith, w, q))) c h
  does_on (b.Place (a.Block i j x1 x2)) (u, v, w, y, z) d n p q c h =
      let ds = declarations_in x1.items in
      let cs = commands_in x2.items in
      at_closing (any (s.does (max (depth_of_declarations ds) (max (depth_of_commands cs) d) + 1) (nodes_of_declarations ds + (nodes_of_commands cs + n) + 1) (omega (arith, u, v, p)) (omega (arith, w, q)))) c h
  does_on (b.Point (t.Goto i)) _ d n p q c h = h
  does_on (b.Member (member.Function i j)) _ d n p q c h = h
  does_on (b.Phrase (p.Start)) _ d n p q c h = h
  does_on (b.OpenExpression (o.Parens i)) _ d n p q c h = h
  does_on x _ d n p q c h = h

  operates_on : (x : Unfinished) → Fewer e m l k x → (d n : ℕ) → d + 1 ≤ e → n + 2 ≤ m → Operates Always (unfinished_on x st) (Gives Always (unfinished_on x st)) d n → Operates Most (unfinished_on x st) (Gives Most (unfinished_on x st)) d n
  operates_on (b.OpenExpression (o.Binary i j x1)) (u, v, w, y, z) d n p q h =
      let e1 = expression x1.value in
      taken (nat_lt 1 (inner i)) (any (s.gives Other (max (depth e1) (d + 1) + 1) (nodes e1 + (n + 2) + 1) (omega (arith, u, v, p)) (omega (arith, w, q))))
      (s.operates (max (depth e1) d + 1) (nodes e1 + n + 1) (omega (arith, u, v, p)) (omega (arith, w, q))) h
  operates_on (b.OpenExpression (o.Parens i)) a d n p q h = any (gives_on (b.OpenExpression (o.Parens i)) a Other (d + 1) (n + 2) p q) h
  operates_on (b.Phrase p.Start) a d n v q h = any (gives_on (b.Phrase p.Start) a Other (d + 1) (n + 2) v q) h
  operates_on (b.Member (member.Function i j)) a d n p q h = any (gives_on (b.Member (member.Function i j)) a Other (d + 1) (n + 2) p q) h
  operates_on (b.Clause (c.Valof i)) a d n p q h = any (gives_on (b.Clause (c.Valof i)) a Other (d + 1) (n + 2) p q) h
  operates_on (b.Place (a.Let i j)) v d n p q h = any (gives_on (b.Place (a.Let i j)) v Other (d + 1) (n + 2) p q) h
  operates_on (b.Point (t.Goto i)) a d n p q h = any (gives_on (b.Point (t.Goto i)) a Other (d + 1) (n + 2) p q) h
  operates_on x a d n p q h = any (gives_on x a Other (d + 1) (n + 2) p q) h

  defines_on : (x : Unfinished) → Fewer e m l k x → (d n : ℕ) → d ≤ e → n ≤ m → Defines Always (unfinished_on x st) d n → Defines Most (unfinished_on x st) d n
  defines_on (b.Place (a.Let i x1)) (u, v, w, y, z) d n p q h =
      let ds = definitions_in x1.items in
      s.declares (max (depth_of_definitions ds) d) (nodes_of_definitions ds + n) (omega (arith, u, v, p)) (omega (arith, w, q)) h
  defines_on (b.Point (t.Goto i)) _ d n p q h = h
  defines_on (b.Clause (c.Valof i)) _ d n p q h = h
  defines_on (b.Member (member.Function i j)) _ d n p q h = h
  defines_on (b.Phrase (p.Start)) _ d n p q h = h
  defines_on (b.OpenExpression (o.Parens i)) _ d n p q h = h
  defines_on x _ d n p q h = h

  declares_on : (x : Unfinished) → Fewer e m l k x → (d n : ℕ) → d ≤ e → n ≤ m → Declares Always (unfinished_on x st) d n → Declares Most (unfinished_on x st) d n
  declares_on (b.Place (a.Block i j x1 x2)) (u, v, w, y, z) d n p q h =
      let ds = declarations_in x1.items in
      let cs = commands_in x2.items in
      any (s.does (max (depth_of_declarations ds) (max (depth_of_commands cs) d) + 1) (nodes_of_declarations ds + (nodes_of_commands cs + n) + 1) (omega (arith, u, v, p)) (omega (arith, w, q))) h
  declares_on (b.Point (t.Goto i)) _ d n p q h = h
  declares_on (b.Clause (c.Valof i)) _ d n p q h = h
  declares_on (b.Member (member.Function i j)) _ d n p q h = h
  declares_on (b.Phrase (p.Start)) _ d n p q h = h
  declares_on (b.OpenExpression (o.Parens i)) _ d n p q h = h
  declares_on x _ d n p q h = h

  args_want : (e1 : Expression) (es : Expressions) (i : ℕ) → depth e1 + 2 ≤ l → nodes e1 + 2 ≤ k → ((f : Form) (d n : ℕ) → d ≤ e → n ≤ m → (c : Lookahead) → Gives Always (in_args i e1 es st) f d n c → Gives Most (in_args i e1 es st) f d n c)
      → 1 ≤ e → 1 ≤ m → Wants Always (in_args i e1 es st) → Wants Most (in_args i e1 es st)
  args_want e1 none i p q f y z h = whole_in l k (Gives Always st) (Gives Most st) s.gives Call (depth e1 + 1) (nodes e1 + 1) (omega (arith, p)) (omega (arith, q)) h
  args_want e1 (more x xs) i p q f y z h = any (f Label 1 1 y z) h

  wants_on : (x : Unfinished) → Fewer e m l k x → Wants Always (unfinished_on x st) → Wants Most (unfinished_on x st)
  wants_on (b.OpenExpression (o.Args i x1 xs)) (u, v, w, y, z) h =
      args_want (expression x1.value) (expressions_in xs.items) i (omega (arith, v)) (omega (arith, w)) (gives_on (b.OpenExpression (o.Args i x1 xs)) (u, v, w, y, z)) y z h
  wants_on (b.OpenExpression (o.Parens i)) (u, v, w, y, z) h = any (gives_on (b.OpenExpression (o.Parens i)) (u, v, w, y, z) Label 1 1 y z) h
  wants_on (b.Phrase (p.Start)) (u, v, w, y, z) h = any (gives_on (b.Phrase (p.Start)) (u, v, w, y, z) Label 1 1 y z) h
  wants_on (b.Member (member.Function i j)) (u, v, w, y, z) h = any (gives_on (b.Member (member.Function i j)) (u, v, w, y, z) Label 1 1 y z) h
  wants_on (b.Clause (c.Valof i)) (u, v, w, y, z) h = any (gives_on (b.Clause (c.Valof i)) (u, v, w, y, z) Label 1 1 y z) h
  wants_on (b.Place (a.Let i j)) (u, v, w, y, z) h = any (gives_on (b.Place (a.Let i j)) (u, v, w, y, z) Label 1 1 y z) h
  wants_on (b.Point (t.Goto i)) (u, v, w, y, z) h = any (gives_on (b.Point (t.Goto i)) (u, v, w, y, z) Label 1 1 y z) h
  wants_on x (u, v, w, y, z) h = any (gives_on x (u, v, w, y, z) Label 1 1 y z) h

  misses_on : (x : Unfinished) → Fewer e m l k x → Misses Always (unfinished_on x st) → Misses Most (unfinished_on x st)
  misses_on (b.Clause (c.Label i j)) (u, v, w, y, z) h = any (missing_in l k (Does Always st) (Does Most st) s.does 1 1 (omega (arith, u, y)) (omega (arith, w))) h
  misses_on (b.Clause (c.Guarded i j x1)) (u, v, w, y, z) h =
      let e1 = expression x1.value in
      any (missing_in l k (Does Always st) (Does Most st) s.does (depth e1 + 1) (nodes e1 + 1) (omega (arith, v)) (omega (arith, w))) h
  misses_on (b.Clause (c.Default i)) (u, v, w, y, z) h = any (missing_in l k (Does Always st) (Does Most st) s.does 1 1 (omega (arith, u, y)) (omega (arith, w))) h
  misses_on (b.OpenExpression (o.Parens i)) _ h = h
  misses_on (b.Phrase (p.Start)) _ h = h
  misses_on (b.Member (member.Function i j)) _ h = h
  misses_on (b.Place (a.Let i j)) _ h = h
  misses_on (b.Point (t.Goto i)) _ h = h
  misses_on _ _ h = h

  lists_on : (is : Items) → depth_of_items is + 2 ≤ l → nodes_of_items is + 2 ≤ k → 2 ≤ l → 2 ≤ k → Lists Always st is → Lists Most st is
  lists_on no_items p q u w h = s.declares 2 2 u w h
  lists_on (item i j x1 is) p q u w h = s.declares (depth_of_items (item i j x1 is)) (nodes_of_items (item i j x1 is)) (omega (arith, p)) (omega (arith, q)) h

  due_on : (x : Unfinished) → Fewer e m l k x → Due Always (unfinished_on x st) → Due Most (unfinished_on x st)
  due_on (b.Place (a.Block i j x1 x2)) (u, v, w, y, z) h = declares_on (b.Place (a.Block i j x1 x2)) (u, v, w, y, z) 0 0 (omega arith) (omega arith) h
  due_on (b.Place (a.Let i x1)) (u, v, w, y, z) h =
      let ds = definitions_in x1.items in
      s.declares (max (depth_of_definitions ds) 2) (nodes_of_definitions ds + 2) (omega (arith, u, v, y)) (omega (arith, w)) h
  due_on (b.Place (a.Variable x1)) (u, v, w, y, z) h = s.defines 2 (length (map mention x1.items) + 2) (omega (arith, u, y)) (omega (arith, w)) h
  due_on (b.Place (a.VariableEnd x1)) (u, v, w, y, z) h = s.defines 2 (length (map mention x1.items) + 1) (omega (arith, u, y)) (omega (arith, w)) h
  due_on (b.Place (a.Inits x1 x2)) (u, v, w, y, z) h = any (gives_on (b.Member (member.Value x1 x2)) (u, v, w, y, z) Label 1 1 y z) h
  due_on (b.Place (a.Named x1)) (u, v, w, y, z) h = s.defines 2 2 (omega (arith, u, y)) (omega (arith, w)) h
  due_on (b.Place (a.Formals x1)) (u, v, w, y, z) h = s.defines 2 2 (omega (arith, u, y)) (omega (arith, w)) h
  due_on (b.Place (a.Formal x1 x2)) (u, v, w, y, z) h = s.defines 2 2 (omega (arith, u, y)) (omega (arith, w)) h
  due_on (b.Place (a.FormalEnd x1 x2)) (u, v, w, y, z) h = s.defines 2 2 (omega (arith, u, y)) (omega (arith, w)) h
  due_on (b.Place (a.Headed x1 x2)) (u, v, w, y, z) h = s.defines 2 2 (omega (arith, u, y)) (omega (arith, w)) h
  due_on (b.Point (t.Opening i j)) (u, v, w, y, z) h = s.declares 2 2 (omega (arith, u, y)) (omega (arith, w)) h
  due_on (b.Point (t.Items i j x1)) (u, v, w, y, z) h = lists_on (items_in x1.items) v (omega (arith, w)) (omega (arith, u)) (omega (arith, w)) h
  due_on (b.Point (t.Signed i j x1 x2)) (u, v, w, y, z) h =
      let is = items_in x1.items in
      s.declares (max 2 (depth_of_items is)) (nodes_of_items is + 2) (omega (arith, u, v)) (omega (arith, w)) h
  due_on (b.Point (t.Goto i)) (u, v, w, y, z) h = any (s.does 1 1 (omega (arith, u)) (omega (arith, w))) h
  due_on (b.Point (t.For i)) (u, v, w, y, z) h = any (s.does 2 4 (omega (arith, u)) (omega (arith, w))) h
  due_on (b.Point (t.Forward i j)) (u, v, w, y, z) h = any (s.does 2 4 (omega (arith, u)) (omega (arith, w))) h
  due_on (b.Point (t.Default i)) (u, v, w, y, z) (inl h) = inl (any (missing_in l k (Does Always st) (Does Most st) s.does 1 1 (omega (arith, u)) (omega (arith, w))) h)
  due_on (b.Point (t.Default i)) (u, v, w, y, z) (inr h) = inr (any (s.does 2 2 (omega (arith, u)) (omega (arith, w))) h)
  due_on (b.OpenExpression (o.Parens i)) _ h = h
  due_on (b.Phrase (p.Start)) _ h = h
  due_on (b.Member (member.Function i j)) _ h = h
  due_on (b.Clause (c.Valof i)) _ h = h
  due_on x _ h = h

  sure_on : (x : Unfinished) → Fewer e m l k x → Sure e m (unfinished_on x st)
  sure_on x a =
      record {
        gives = gives_on x a;
        does = does_on x a;
        operates = operates_on x a;
        defines = defines_on x a;
        declares = declares_on x a;
        wants = wants_on x a;
        misses = misses_on x a;
        due = due_on x a;
      }

-- what is spare above what was begun
spare_on : (x : Frame) (st : Stack) (below : Size) → Leaves below x.unfinished x.spare → Spares below st → Spares x.spare (unfinished_on x.unfinished st)
spare_on x st below h s y z =
    let q = h y z in
    let u = q.0 in
    let w = q.2 in
    sure_on x.spare.depth x.spare.nodes below.depth below.nodes st (s (omega (arith, u)) (omega (arith, w))) x.unfinished (u, q.1, w, y, z)

-- above all of them
spare_all : (st : Stack) (s : Size) (xs : List Frame) → Spares s st → Spared s xs → Spares (spare_under s xs) (above st xs)
unfolding spare_under spare_below
spare_all st s [] h f = h
spare_all st s (x ∷ xs) h f = spare_all (unfinished_on x.unfinished st) x.spare xs (spare_on x st s (f zero x refl) h) (λ i. f (suc i))

at_most_by : (a b : ℕ) (t : Bool) → nat_le a b ≡ t → 0 < cond t b 0 → (a ≤ b) × (cond (nat_le a b) b 0 ≤ b)
at_most_by a b t h1 h2 = grind arith

at_most : (a b : ℕ) → 0 < cond (nat_le a b) b 0 → (a ≤ b) × (cond (nat_le a b) b 0 ≤ b)
at_most a b h = at_most_by a b (nat_le a b) refl h

-- in a section
in_a_section : (ds : Declarations) (held : Size) → held ≡ size_of_declarations ds → Spares (spare_of_section held) (in_section ds)
in_a_section ds held is y z =
    let d : held.depth ≡ kept (depth_of_declarations ds) = ap (λ (i : Size). i.depth) is in
    let n : held.nodes ≡ kept (nodes_of_declarations ds) = ap (λ (i : Size). i.nodes) is in
    let p : (held.depth ≤ TREE_DEPTH) × (cond (nat_le held.depth TREE_DEPTH) TREE_DEPTH 0 ≤ TREE_DEPTH) = at_most held.depth TREE_DEPTH y in
    let p1 = p.0 in
    let p2 = p.1 in
    record {
      gives = λ f e m u v c h. h;
      does = λ e m u v c h. h;
      operates = λ e m u v h. h;
      defines = λ e m u v h. h;
      declares = λ e m u v h. (omega (arith, d, p1, p2, u), omega (arith, n, z, v));
      wants = λ h. h;
      misses = λ h. h;
      due = λ h. (omega (arith, d, p1), omega (arith, n, z));
    }

-- above all that was begun
pub spare_of_all : (ds : List Decl) (held : Size) (xs : List Frame) → held ≡ size_of_declarations (declarations_in ds) → Spared (spare_of_section held) xs → Spares (spare_under (spare_of_section held) xs) (stack ds xs)
unfolding stack
spare_of_all ds held xs is h = spare_all (in_section (declarations_in ds)) (spare_of_section held) xs (in_a_section (declarations_in ds) held is) h

-- with what is spare the state goes on
pub goes_on_surely : (st : Stack) (s : Size) (now : ParserState) → IsSmall s → Spares s st → (part_of now).depth < s.depth → (part_of now).nodes < s.nodes → Completes Always (state st now) → Completes Most (state st now)
goes_on_surely st s n.Want l h p q c = let r = h (omega (arith, p)) (omega (arith, q)) in r.wants c
goes_on_surely st s (n.Have x) l h p q c =
    let r = h (omega (arith, p)) (omega (arith, q)) in
    let e = expression x.expr in
    let is = x.sizes in
    let d : x.size.depth ≡ kept (depth e) = ap (λ (i : Size). i.depth) is in
    let n : x.size.nodes ≡ kept (nodes e) = ap (λ (i : Size). i.nodes) is in
    let far = l.0 in
    let large = l.1 in
    whole_in s.depth s.nodes (Gives Always st) (Gives Most st) r.gives (form_of e) (depth e) (nodes e) (omega (arith, d, p, far)) (omega (arith, n, q, large)) c
goes_on_surely st s n.Begin l h p q c = let r = h (omega (arith, p)) (omega (arith, q)) in any (r.does 1 1 (omega (arith, p)) (omega (arith, q))) c
goes_on_surely st s n.Maybe l h p q (inl c) = let r = h (omega (arith, p)) (omega (arith, q)) in inl (r.misses c)
goes_on_surely st s n.Maybe l h p q (inr c) = let r = h (omega (arith, p)) (omega (arith, q)) in inr (any (r.does 1 1 (omega (arith, p)) (omega (arith, q))) c)
goes_on_surely st s (n.Did x) l h p q c =
    let r = h (omega (arith, p)) (omega (arith, q)) in
    let e = command_in x.command in
    let is = x.sizes in
    let d : x.size.depth ≡ kept (depth_of_command e) = ap (λ (i : Size). i.depth) is in
    let n : x.size.nodes ≡ kept (nodes_of_command e) = ap (λ (i : Size). i.nodes) is in
    let far = l.0 in
    let large = l.1 in
    any (r.does (depth_of_command e) (nodes_of_command e) (omega (arith, d, p, far)) (omega (arith, n, q, large))) c
goes_on_surely st s n.Due l h p q c = let r = h (omega (arith, p)) (omega (arith, q)) in r.due c
