-- What can be completed with a part can be completed with a smaller one.
use Rattle.bk_frames.proofs.Terms.{◌≤◌, ℕ, ◌+◌, max, Bool, ◌==◌, length, arith, Guard, Form, depth, depth_of_each, depth_of_command, depth_of_commands, depth_of_declarations, depth_of_items, depth_of_definitions, depth_of_starts, nodes, nodes_of_each, nodes_of_command, nodes_of_commands, nodes_of_declarations, nodes_of_items, nodes_of_definitions, nodes_of_starts, nat_lt, inner, size, start_count, Stack, in_section, in_block, in_let, in_parens, in_unary, in_binary, in_chain, in_then, in_else, in_args, in_table, in_start, in_dests, in_values, in_guard, in_test, in_result, in_while, in_from, in_to, in_by, in_item, in_function, in_value, in_vector, in_valof, in_label, in_guarded, in_default, in_do, in_or, in_for, in_routine, owed, AtMost, LevelsAtMost, Lookahead, Any, AtClosing, AtListing, AtArgument, AtAssignment, Unlisted, AtPart, If, Closed, Missing, Started, Answered, Whole, Guarded, Taken, Gives, Does, Operates, Defines, Declares}
use Rattle.bk_frames.specs.declared.size.Form.TheVariants.{Call, Callable, Other}

-- a smaller section has the property too
abbrev pub Down : (ℕ → ℕ → Type 0) → Type 0
Down P = (d e n m : ℕ) → d ≤ e → n ≤ m → P e m → P d n

pub at_most_down : (levels most : ℕ) → Down (AtMost levels most)
at_most_down levels most d e n m i j h = let p = h.0 in let q = h.1 in (omega (arith, i, p), omega (arith, j, q))

pub levels_down : (levels : ℕ) → Down (LevelsAtMost levels)
levels_down levels d e n m i j h = omega (arith, i, h)

abbrev pub Falls : (ℕ → ℕ → Lookahead → Type 0) → Type 0
Falls F = (d e n m : ℕ) → d ≤ e → n ≤ m → (c : Lookahead) → F e m c → F d n c

pub at_closing : {X Y : Type 0} → (X → Y) → (c : Lookahead) → AtClosing X c → AtClosing Y c
at_closing h1 c h2 = grind arith

pub at_listing : {X Y : Type 0} → (X → Y) → (c : Lookahead) → AtListing X c → AtListing Y c
at_listing h1 c h2 = grind arith

pub at_argument : {X Y A B : Type 0} → (X → Y) → (A → B) → (c : Lookahead) → AtArgument X A c → AtArgument Y B c
at_argument h1 h2 c h3 = grind arith

pub at_assignment : {X Y A B : Type 0} → (X → Y) → (A → B) → (c : Lookahead) → AtAssignment X A c → AtAssignment Y B c
at_assignment h1 h2 c h3 = grind arith

pub from_closing : {X : Type 0} → Any (AtClosing X) → X
from_closing h1 = grind arith

pub from_listing : {X : Type 0} → Any (AtListing X) → X
from_listing h1 = grind arith

pub any : {F G : Lookahead → Type 0} → ((c : Lookahead) → F c → G c) → Any F → Any G
any f h = (h.0, f h.0 h.1)

pub unlisted : {F G : Lookahead → Type 0} → ((c : Lookahead) → F c → G c) → (c : Lookahead) → Unlisted F c → Unlisted G c
unlisted h1 c h2 = grind arith

pub at_part : {F G A B : Lookahead → Type 0} → ((c : Lookahead) → F c → G c) → ((c : Lookahead) → A c → B c) → (c : Lookahead) → AtPart F A c → AtPart G B c
at_part h1 h2 c h3 = grind (arith, any, unlisted)

pub either : {F G A B : Lookahead → Type 0} → (b : Bool) → ((c : Lookahead) → F c → G c) → ((c : Lookahead) → A c → B c) → (c : Lookahead) → If b F A c → If b G B c
either b h1 h2 c h3 = grind arith

pub closed_falls : (F : ℕ → ℕ → Lookahead → Type 0) → Falls F → Falls (Closed F)
closed_falls F h1 = grind (arith, any)

pub missing_falls : (F : ℕ → ℕ → Lookahead → Type 0) → Falls F → Falls (Missing F)
missing_falls F h1 = grind (arith, any)

pub any_falls : (F : ℕ → ℕ → Lookahead → Type 0) → Falls F → (d e n m : ℕ) → d ≤ e → n ≤ m → Any (F e m) → Any (F d n)
any_falls F f d e n m p q h = any (f d e n m p q) h

pub any_missing : (F : ℕ → ℕ → Lookahead → Type 0) → Falls F → (d e n m : ℕ) → d ≤ e → n ≤ m → Any (Missing F e m) → Any (Missing F d n)
any_missing F f d e n m p q h = any (missing_falls F f d e n m p q) h

pub any_closed : (F : ℕ → ℕ → Lookahead → Type 0) → Falls F → (d e n m : ℕ) → d ≤ e → n ≤ m → Any (Closed F e m) → Any (Closed F d n)
any_closed F f d e n m p q h = any (closed_falls F f d e n m p q) h

started_falls : (F : ℕ → ℕ → Lookahead → Type 0) → Falls F → (f : Form) → Falls (Started F f)
started_falls F h1 f = grind (arith, any_closed, any_falls)

answered_falls : (G : Form → ℕ → ℕ → Lookahead → Type 0) → ((f : Form) → Falls (G f)) → (H : ℕ → ℕ → Type 0) → Down H → Falls (Answered G H)
answered_falls G h1 H h2 = grind (arith, any)

pub whole_falls : (G : Form → ℕ → ℕ → Lookahead → Type 0) → ((f : Form) → Falls (G f)) → (f : Form) → (d e n m : ℕ) → d ≤ e → n ≤ m → Whole G f e m → Whole G f d n
whole_falls G h1 f d e n m h2 h3 h4 = grind (arith, any)

pub taken : {X Y A B : Type 0} → (b : Bool) → (X → Y) → (A → B) → Taken b X A → Taken b Y B
taken b h1 h2 h3 = grind arith

guarded_falls : (gd : Guard) (F : ℕ → ℕ → Lookahead → Type 0) → Falls F → (d e n m : ℕ) → d ≤ e → n ≤ m → Guarded gd F e m → Guarded gd F d n
guarded_falls gd F h1 d e n m h2 h3 h4 = grind (arith, any_missing, any_falls)

mutual
  pub gives_falls : (P : ℕ → ℕ → Type 0) → Down P → (st : Stack) (f : Form) → Falls (Gives P st f)
  gives_falls P w (in_parens l st) f d e n m p q c h = at_closing (whole_falls (Gives P st) (gives_falls P w st) Callable (d + 1) (e + 1) (n + 1) (m + 1) (omega (arith, p)) (omega (arith, q))) c h
  gives_falls P w (in_unary l x st) f d e n m p q c h = gives_falls P w st Other (d + 1) (e + 1) (n + 1) (m + 1) (omega (arith, p)) (omega (arith, q)) c h
  gives_falls P w (in_binary o s a st) f d e n m p q c h = gives_falls P w st Other (max (depth a) d + 1) (max (depth a) e + 1) (nodes a + n + 1) (nodes a + m + 1) (omega (arith, p)) (omega (arith, q)) c h
  gives_falls P w (in_chain o s a b st) f d e n m p q c h = gives_falls P w st Other (max (depth a) (max (depth b) d + 1) + 1) (max (depth a) (max (depth b) e + 1) + 1) (nodes a + (nodes b + n + 1) + 1) (nodes a + (nodes b + m + 1) + 1) (omega (arith, p)) (omega (arith, q)) c h
  gives_falls P w (in_then s x st) f d e n m p q c h = at_listing (any_falls (Gives P st Other) (gives_falls P w st Other) (max (depth x) (max d 1) + 1) (max (depth x) (max e 1) + 1) (nodes x + n + 2) (nodes x + m + 2) (omega (arith, p)) (omega (arith, q))) c h
  gives_falls P w (in_else s x a st) f d e n m p q c h = gives_falls P w st Other (max (depth x) (max (depth a) d) + 1) (max (depth x) (max (depth a) e) + 1) (nodes x + nodes a + n + 1) (nodes x + nodes a + m + 1) (omega (arith, p)) (omega (arith, q)) c h
  gives_falls P w (in_args s x es st) f d e n m p q c h =
      at_argument (whole_falls (Gives P st) (gives_falls P w st) Call (max (depth x) (max (depth_of_each es) d) + 1) (max (depth x) (max (depth_of_each es) e) + 1) (nodes x + (nodes_of_each es + n) + 1) (nodes x + (nodes_of_each es + m) + 1) (omega (arith, p)) (omega (arith, q)))
      (whole_falls (Gives P st) (gives_falls P w st) Call (max (depth x) (max (depth_of_each es) (max d 1)) + 1) (max (depth x) (max (depth_of_each es) (max e 1)) + 1) (nodes x + (nodes_of_each es + n) + 2) (nodes x + (nodes_of_each es + m) + 2) (omega (arith, p)) (omega (arith, q))) c h
  gives_falls P w (in_table l es st) f d e n m p q c h =
      at_part (gives_falls P w st Other (max (depth_of_each es) d + 1) (max (depth_of_each es) e + 1) (nodes_of_each es + n + 1) (nodes_of_each es + m + 1) (omega (arith, p)) (omega (arith, q)))
      (gives_falls P w st Other (max (depth_of_each es) (max d 1) + 1) (max (depth_of_each es) (max e 1) + 1) (nodes_of_each es + n + 2) (nodes_of_each es + m + 2) (omega (arith, p)) (omega (arith, q))) c h
  gives_falls P w (in_start st) f d e n m p q c h = started_falls (Does P st) (does_falls P w st) f d e n m p q c h
  gives_falls P w (in_dests xs st) f d e n m p q c h =
      at_assignment (any_closed (Does P st) (does_falls P w st) (max (max (depth_of_each xs) 1) d + 1) (max (max (depth_of_each xs) 1) e + 1) (nodes_of_each xs + n + size xs + 2) (nodes_of_each xs + m + size xs + 2) (omega (arith, p)) (omega (arith, q)))
      (any_closed (Does P st) (does_falls P w st) (max (max (depth_of_each xs) 1) d + 1) (max (max (depth_of_each xs) 1) e + 1) (nodes_of_each xs + n + size xs + 4) (nodes_of_each xs + m + size xs + 4) (omega (arith, p)) (omega (arith, q))) c h
  gives_falls P w (in_values xs ys st) f d e n m p q c h =
      either (size xs == size ys + 1) (closed_falls (Does P st) (does_falls P w st) (max (depth_of_each xs) (max (depth_of_each ys) d) + 1) (max (depth_of_each xs) (max (depth_of_each ys) e) + 1) (nodes_of_each xs + (nodes_of_each ys + n) + 1) (nodes_of_each xs + (nodes_of_each ys + m) + 1) (omega (arith, p)) (omega (arith, q)))
      (at_listing (any_closed (Does P st) (does_falls P w st) (max (depth_of_each xs) (max (depth_of_each ys) (max d 1)) + 1) (max (depth_of_each xs) (max (depth_of_each ys) (max e 1)) + 1) (nodes_of_each xs + (nodes_of_each ys + n) + owed (size xs) (size ys) + 1) (nodes_of_each xs + (nodes_of_each ys + m) + owed (size xs) (size ys) + 1) (omega (arith, p)) (omega (arith, q)))) c h
  gives_falls P w (in_guard k l st) f d e n m p q c h = at_closing (guarded_falls k (Does P st) (does_falls P w st) d e n m p q) c h
  gives_falls P w (in_test l st) f d e n m p q c h = at_closing (any_falls (Does P st) (does_falls P w st) (max d 1 + 1) (max e 1 + 1) (n + 3) (m + 3) (omega (arith, p)) (omega (arith, q))) c h
  gives_falls P w (in_result l st) f d e n m p q c h = closed_falls (Does P st) (does_falls P w st) (d + 1) (e + 1) (n + 1) (m + 1) (omega (arith, p)) (omega (arith, q)) c h
  gives_falls P w (in_while b a st) f d e n m p q c h = closed_falls (Does P st) (does_falls P w st) (max (depth_of_command a) d + 1) (max (depth_of_command a) e + 1) (nodes_of_command a + n + 1) (nodes_of_command a + m + 1) (omega (arith, p)) (omega (arith, q)) c h
  gives_falls P w (in_from l x st) f d e n m p q c h = at_closing (any_falls (Does P st) (does_falls P w st) (max d 1 + 1) (max e 1 + 1) (n + 3) (m + 3) (omega (arith, p)) (omega (arith, q))) c h
  gives_falls P w (in_to l x a st) f d e n m p q c h = at_closing (any_falls (Does P st) (does_falls P w st) (max (depth a) (max d 1) + 1) (max (depth a) (max e 1) + 1) (nodes a + n + 2) (nodes a + m + 2) (omega (arith, p)) (omega (arith, q))) c h
  gives_falls P w (in_by l x a b st) f d e n m p q c h = at_closing (any_falls (Does P st) (does_falls P w st) (max (depth a) (max (depth b) (max d 1)) + 1) (max (depth a) (max (depth b) (max e 1)) + 1) (nodes a + nodes b + n + 2) (nodes a + nodes b + m + 2) (omega (arith, p)) (omega (arith, q))) c h
  gives_falls P w (in_item l s is x st) f d e n m p q c h = at_closing (declares_fall P w st (max (depth_of_items is) (d + 1)) (max (depth_of_items is) (e + 1)) (nodes_of_items is + (n + 1)) (nodes_of_items is + (m + 1)) (omega (arith, p)) (omega (arith, q))) c h
  gives_falls P w (in_function x fs st) f d e n m p q c h = at_closing (defines_fall P w st (d + 1) (e + 1) (n + 1) (m + 1) (omega (arith, p)) (omega (arith, q))) c h
  gives_falls P w (in_value xs is st) f d e n m p q c h =
      either (length xs == start_count is + 1) (at_closing (defines_fall P w st (max (depth_of_starts is) d + 1) (max (depth_of_starts is) e + 1) (nodes_of_starts is + n + 1) (nodes_of_starts is + m + 1) (omega (arith, p)) (omega (arith, q))))
      (at_listing (defines_fall P w st (max (depth_of_starts is) (max d 1) + 1) (max (depth_of_starts is) (max e 1) + 1) (nodes_of_starts is + n + owed (length xs) (start_count is) + 1) (nodes_of_starts is + m + owed (length xs) (start_count is) + 1) (omega (arith, p)) (omega (arith, q)))) c h
  gives_falls P w (in_vector l xs is st) f d e n m p q c h =
      either (length xs == start_count is + 1) (at_closing (defines_fall P w st (max (depth_of_starts is) d + 1) (max (depth_of_starts is) e + 1) (nodes_of_starts is + n + 1) (nodes_of_starts is + m + 1) (omega (arith, p)) (omega (arith, q))))
      (at_listing (defines_fall P w st (max (depth_of_starts is) (max d 1) + 1) (max (depth_of_starts is) (max e 1) + 1) (nodes_of_starts is + n + owed (length xs) (start_count is) + 1) (nodes_of_starts is + m + owed (length xs) (start_count is) + 1) (omega (arith, p)) (omega (arith, q)))) c h
  gives_falls P w _ f d e n m p q c h = h

  pub does_falls : (P : ℕ → ℕ → Type 0) → Down P → (st : Stack) → Falls (Does P st)
  does_falls P w (in_valof l st) d e n m p q c h = answered_falls (Gives P st) (gives_falls P w st) (Operates P st (Gives P st)) (operates_fall P w st (gives_falls P w st)) d e n m p q c h
  does_falls P w (in_label l x st) d e n m p q c h = does_falls P w st (d + 1) (e + 1) (n + 1) (m + 1) (omega (arith, p)) (omega (arith, q)) c h
  does_falls P w (in_guarded k l x st) d e n m p q c h = does_falls P w st (max (depth x) d + 1) (max (depth x) e + 1) (nodes x + n + 1) (nodes x + m + 1) (omega (arith, p)) (omega (arith, q)) c h
  does_falls P w (in_default l st) d e n m p q c h = does_falls P w st (d + 1) (e + 1) (n + 1) (m + 1) (omega (arith, p)) (omega (arith, q)) c h
  does_falls P w (in_do l x st) d e n m p q c h = at_closing (any_falls (Does P st) (does_falls P w st) (max (depth x) (max d 1) + 1) (max (depth x) (max e 1) + 1) (nodes x + n + 2) (nodes x + m + 2) (omega (arith, p)) (omega (arith, q))) c h
  does_falls P w (in_or l x a st) d e n m p q c h = does_falls P w st (max (depth x) (max (depth_of_command a) d) + 1) (max (depth x) (max (depth_of_command a) e) + 1) (nodes x + nodes_of_command a + n + 1) (nodes x + nodes_of_command a + m + 1) (omega (arith, p)) (omega (arith, q)) c h
  does_falls P w (in_for l x a b y st) d e n m p q c h = does_falls P w st (max (depth a) (max (depth b) (max (depth_of_each y) d)) + 1) (max (depth a) (max (depth b) (max (depth_of_each y) e)) + 1) (nodes a + nodes b + nodes_of_each y + n + 1) (nodes a + nodes b + nodes_of_each y + m + 1) (omega (arith, p)) (omega (arith, q)) c h
  does_falls P w (in_routine x fs st) d e n m p q c h = at_closing (defines_fall P w st (d + 1) (e + 1) (n + 1) (m + 1) (omega (arith, p)) (omega (arith, q))) c h
  does_falls P w (in_block l b ds cs st) d e n m p q c h = at_closing (any_falls (Does P st) (does_falls P w st) (max (depth_of_declarations ds) (max (depth_of_commands cs) d) + 1) (max (depth_of_declarations ds) (max (depth_of_commands cs) e) + 1) (nodes_of_declarations ds + (nodes_of_commands cs + n) + 1) (nodes_of_declarations ds + (nodes_of_commands cs + m) + 1) (omega (arith, p)) (omega (arith, q))) c h
  does_falls P w _ d e n m p q c h = h

  pub operates_fall : (P : ℕ → ℕ → Type 0) → Down P → (st : Stack) → ((f : Form) → Falls (Gives P st f)) → Down (Operates P st (Gives P st))
  operates_fall P w (in_binary o s a st) f d e n m p q h = taken (nat_lt 1 (inner o)) (any_falls (Gives P st Other) (gives_falls P w st Other) (max (depth a) (d + 1) + 1) (max (depth a) (e + 1) + 1) (nodes a + (n + 2) + 1) (nodes a + (m + 2) + 1) (omega (arith, p)) (omega (arith, q))) (operates_fall P w st (gives_falls P w st) (max (depth a) d + 1) (max (depth a) e + 1) (nodes a + n + 1) (nodes a + m + 1) (omega (arith, p)) (omega (arith, q))) h
  operates_fall P w st f d e n m p q h = any_falls (Gives P st Other) (f Other) (d + 1) (e + 1) (n + 2) (m + 2) (omega (arith, p)) (omega (arith, q)) h

  pub defines_fall : (P : ℕ → ℕ → Type 0) → Down P → (st : Stack) (d e n m : ℕ) → d ≤ e → n ≤ m → Defines P st e m → Defines P st d n
  defines_fall P w (in_let l ds st) d e n m p q h = declares_fall P w st (max (depth_of_definitions ds) d) (max (depth_of_definitions ds) e) (nodes_of_definitions ds + n) (nodes_of_definitions ds + m) (omega (arith, p)) (omega (arith, q)) h
  defines_fall P w _ d e n m p q h = h

  pub declares_fall : (P : ℕ → ℕ → Type 0) → Down P → (st : Stack) (d e n m : ℕ) → d ≤ e → n ≤ m → Declares P st e m → Declares P st d n
  declares_fall P w (in_section ds) d e n m p q h = w (max (depth_of_declarations ds) d) (max (depth_of_declarations ds) e) (nodes_of_declarations ds + n) (nodes_of_declarations ds + m) (omega (arith, p)) (omega (arith, q)) h
  declares_fall P w (in_block l b ds cs st) d e n m p q h = any_falls (Does P st) (does_falls P w st) (max (depth_of_declarations ds) (max (depth_of_commands cs) d) + 1) (max (depth_of_declarations ds) (max (depth_of_commands cs) e) + 1) (nodes_of_declarations ds + (nodes_of_commands cs + n) + 1) (nodes_of_declarations ds + (nodes_of_commands cs + m) + 1) (omega (arith, p)) (omega (arith, q)) h
  declares_fall P w _ d e n m p q h = h
