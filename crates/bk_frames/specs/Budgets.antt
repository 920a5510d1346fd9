-- The budget of a part of a section: its greatest depth and number of nodes, so that the section can be completed with P; and
-- the completions of the unfinished construct around a part: the budget inside it is the one below it less its own node.
use Rattle.std.specs.Prelude.{ℕ, ◌+◌, ◌≡◌, ◌==◌, ◌&&◌, ◌||◌, max, min, nat_lt, nat_le, not, Bool, true, false, cond, Option, Some, None, List, [], ◌∷◌, length}
use Rattle.bk_base.specs.declared.limit.TheConstants.{TREE_DEPTH, TREE_NODES}
use Rattle.bk_grammar.specs.declared.symbols.Guard.{Guard}
use Rattle.bk_grammar.specs.declared.symbols.Guard.TheVariants as g
use Rattle.bk_frames.specs.declared.budget.Category.{Category}
use Rattle.bk_frames.specs.declared.budget.Category.TheVariants.{Expression, Label, Call, Operated, Command, Missing, Definition, Declaration, Due, Closed}
use Rattle.bk_frames.specs.declared.budget.Lookahead.{Lookahead}
use Rattle.bk_frames.specs.declared.budget.Lookahead.TheVariants.{Closing, Assigning, Listing, Going, Repeating, Operating}
use Rattle.bk_frames.specs.declared.budget.Budget.{Budget}
use Rattle.bk_frames.specs.declared.completion.Link.{Link}
use Rattle.bk_frames.specs.declared.completion.Link.TheVariants as l
use Rattle.bk_frames.specs.declared.completion.Completion.{Completion}
use Rattle.bk_frames.specs.declared.completion.Completions.{Completions}
use Rattle.bk_frames.specs.declared.completion.Completions.TheVariants.{One, Two, Three, Five}
use Rattle.bk_frames.specs.declared.completion.Following.{Following}
use Rattle.bk_frames.specs.declared.size.Form.{Form}
use Rattle.bk_frames.specs.declared.size.Form.TheVariants as f
use Rattle.bk_tree.specs.Tree.{none}
use Rattle.bk_grammar.specs.Rows.{inner}
use Rattle.bk_tree.specs.Parts.{size, start_count}
use Rattle.bk_tree.specs.Limits.{depth, nodes, depth_of_declarations, nodes_of_declarations}
use Rattle.bk_frames.specs.Bounds.{AtMost, LevelsAtMost}
use Rattle.bk_grammar.specs.Machine.{Stack, in_section, in_block, in_let, at_name, at_formals, at_formal, at_formal_end, at_head, at_variable, at_variable_end, at_starts, at_opening, at_items, at_sign, at_goto, at_for, at_forward, at_default, in_parens, in_unary, in_binary, in_chain, in_then, in_else, in_args, in_table, in_start, in_dests, in_values, in_guard, in_test, in_result, in_while, in_from, in_to, in_by, in_item, in_function, in_value, in_vector, in_valof, in_label, in_guarded, in_default, in_do, in_or, in_for, in_routine}
use Rattle.bk_frames.specs.Sizes.{kept, held_depth, held_nodes, owed, are_none, due_items}
use Rattle.bk_frames.specs.Completing as w
use Rattle.bk_frames.specs.Completing.{Whole, Taken, Gives, Does, Operates, Defines, Declares, Misses, AtClosing}

-- the limits, where nodes are counted, and where they are not
abbrev pub Limit : Bool → ℕ → ℕ → Type 0
Limit true = AtMost TREE_DEPTH TREE_NODES
Limit false = LevelsAtMost TREE_DEPTH

abbrev pub counted : Bool → ℕ → ℕ
counted true n = n
counted false n = 0

abbrev pub next_of : Lookahead → w.Lookahead
next_of Closing = w.closing
next_of Assigning = w.assigning
next_of Listing = w.listing
next_of Going = w.going
next_of Repeating = w.repeating
next_of Operating = w.operating

abbrev pub is_next : w.Lookahead → w.Lookahead → Bool
is_next w.closing w.closing = true
is_next w.assigning w.assigning = true
is_next w.listing w.listing = true
is_next w.going w.going = true
is_next w.repeating w.repeating = true
is_next w.operating w.operating = true
is_next _ _ = false

abbrev pub category_number : Category → ℕ
category_number Expression = 0
category_number Label = 1
category_number Call = 2
category_number Operated = 3
category_number Command = 4
category_number Missing = 5
category_number Definition = 6
category_number Declaration = 7
category_number Due = 8
category_number Closed = 9

abbrev pub next_number : Lookahead → ℕ
next_number Closing = 0
next_number Assigning = 1
next_number Listing = 2
next_number Going = 3
next_number Repeating = 4
next_number Operating = 5

-- a budget of an expression of any form is one of a label and of a call
abbrev pub serves : Category → Category → Bool
serves Expression Label = true
serves Expression Call = true
serves x y = category_number x == category_number y

-- ---- budgets

-- within the budget, where nodes are what is counted of them
abbrev pub fits : Budget → ℕ → ℕ → Bool
fits r d n = nat_le d r.depth && nat_le n r.nodes

abbrev pub holds : Budget → Category → w.Lookahead → ℕ → ℕ → Bool
holds r x c d n = is_next (next_of r.next) c && (serves r.category x && fits r d n)

abbrev pub covered : List Budget → Category → w.Lookahead → ℕ → ℕ → Bool
covered [] x c d n = false
covered (r ∷ rs) x c d n = holds r x c d n || covered rs x c d n

abbrev pub holds_if : Option Budget → Category → w.Lookahead → ℕ → ℕ → Bool
holds_if None x c d n = false
holds_if (Some r) x c d n = holds r x c d n

-- what the one holds the other holds too
abbrev pub Within : Budget → Budget → Type 0
Within r s = (x : Category) (c : w.Lookahead) (d n : ℕ) → holds r x c d n ≡ true → holds s x c d n ≡ true

-- one budget more
abbrev pub IsAdded : Budget → List Budget → List Budget → Type 0
IsAdded r rs ss = (x : Category) (c : w.Lookahead) (d n : ℕ) → covered ss x c d n ≡ (covered rs x c d n || holds r x c d n)

abbrev pub has_budget : List Budget → Category → ℕ → ℕ → Bool
has_budget [] x d n = false
has_budget (r ∷ rs) x d n = (serves r.category x && fits r d n) || has_budget rs x d n

-- ---- completions

abbrev pub is_ended : Lookahead → Bool
is_ended Closing = true
is_ended Assigning = true
is_ended Listing = true
is_ended _ = false

abbrev pub is_listing : Lookahead → Bool
is_listing Listing = true
is_listing _ = false

abbrev pub is_closing : Lookahead → Bool
is_closing Closing = true
is_closing _ = false

abbrev pub is_operating : Lookahead → Bool
is_operating Operating = true
is_operating _ = false

abbrev pub raised : Bool → ℕ → ℕ
raised true n = n + 1
raised false n = n

abbrev pub following : Lookahead → Bool → Option Following
following c m = Some (record { next = c; more = m })

-- the symbol after the part is the one after the whole
abbrev pub keeps_symbol : Link → Bool
keeps_symbol l.Each = true
keeps_symbol l.Unlisted = true
keeps_symbol l.Ended = true
keeps_symbol l.Closing = true
keeps_symbol _ = false

-- the symbol after a part where this one comes after the whole
abbrev pub reached : Link → Lookahead → Option Following
reached l.Each c = following c false
reached l.Unlisted c = cond (is_listing c) None (following c false)
reached l.Ended c = cond (is_ended c) (following c false) None
reached l.Closing c = cond (is_closing c) (following c false) None
reached (l.Then k) c = following k false
reached (l.ThenUnlisted k) c = cond (is_listing c) None (following k false)
reached (l.ThenClosed k) c = following k (not (is_ended c))
reached (l.ThenMissing k) c = following k (not (is_ended c || is_operating c))

abbrev pub node : Category → Link → Category → ℕ → ℕ → ℕ → Completion
node x k y d n o = record { category = x; link = k; onto = y; floor = max d (min 1 o) + 1; rise = 1; nodes = n + 1 + o }

abbrev pub deep : Category → Link → Category → ℕ → ℕ → ℕ → ℕ → Completion
deep x k y d n e m = record { category = x; link = k; onto = y; floor = d + e; rise = 2; nodes = n + m }

abbrev pub beside : Category → Link → Category → ℕ → ℕ → ℕ → ℕ → Completion
beside x k y d n e m = record { category = x; link = k; onto = y; floor = max d e; rise = 0; nodes = n + m }

-- whether an operator after a VALOF on this stack goes on more than the operand that the VALOF is
abbrev pub is_tight : Stack → Bool
is_tight (in_binary o s a st) = not (nat_lt 1 (inner o))
is_tight _ = false

abbrev pub completions_of_binary : Bool → Bool → ℕ → ℕ → Completions
completions_of_binary false t d n = One (node Expression l.Each Expression d n 0)
completions_of_binary true false d n = Two (node Expression l.Each Expression d n 0) (deep Operated (l.Then Closing) Expression d n 2 3)
completions_of_binary true true d n = Two (node Expression l.Each Expression d n 0) (node Operated (l.Then Closing) Operated d n 0)

abbrev pub completions_of_args : Bool → ℕ → ℕ → Completions
completions_of_args true d n = Three (node Expression (l.Then Closing) Call d n 0) (node Expression (l.Then Listing) Call d n 1) (beside Closed (l.Then Closing) Call d n (d + 1) 1)
completions_of_args false d n = Two (node Expression (l.Then Closing) Call d n 0) (node Expression (l.Then Listing) Call d n 1)

-- a command that an expression ends
abbrev pub completions_of_closed : ℕ → ℕ → Completions
completions_of_closed d n = Two (node Expression l.Ended Command d n 0) (deep Expression (l.Then Repeating) Command d n 2 2)

abbrev pub completions_of_dests : ℕ → ℕ → ℕ → Completions
completions_of_dests d n o = Two (node Expression (l.ThenClosed Assigning) Command d n (o + 1)) (node Expression (l.ThenClosed Listing) Command d n (o + 3))

abbrev pub completions_of_values : Bool → ℕ → ℕ → ℕ → Completions
completions_of_values true d n o = completions_of_closed d n
completions_of_values false d n o = One (node Expression (l.ThenClosed Listing) Command (max d 1) n o)

abbrev pub completions_of_starts : Bool → ℕ → ℕ → ℕ → Completions
completions_of_starts true d n o = One (node Expression (l.Then Closing) Definition d n 0)
completions_of_starts false d n o = One (node Expression (l.Then Listing) Definition (max d 1) n o)

abbrev pub completions_of_guard : Guard → Completions
completions_of_guard g.Case = Two (node Expression (l.ThenMissing Closing) Command 0 0 0) (node Expression (l.Then Closing) Command 0 0 1)
completions_of_guard _ = One (node Expression (l.Then Closing) Command 0 0 1)

abbrev pub completions_of_valof : Bool → Completions
completions_of_valof true = Three (node Command l.Ended Expression 0 0 0) (deep Command (l.Then Going) Call 0 0 2 2) (node Command (l.Then Operating) Operated 0 0 0)
completions_of_valof false = Three (node Command l.Ended Expression 0 0 0) (deep Command (l.Then Going) Call 0 0 2 2) (deep Command (l.Then Operating) Expression 0 0 2 3)

-- a name may be a label, with a command after the colon or without; a call may be a command; any expression may be a
-- destination
abbrev pub completions_of_start : Completions
completions_of_start = Five (node Expression (l.ThenClosed Assigning) Command 0 0 1) (node Expression (l.ThenClosed Listing) Command 0 0 3) (beside Label (l.ThenMissing Closing) Command 0 0 1 0) (beside Call l.Closing Command 0 0 0 0) (node Call (l.Then Repeating) Command 0 0 0)

-- after a colon
abbrev pub completions_of_labelled : ℕ → ℕ → Completions
completions_of_labelled d n = Two (node Command l.Each Command d n 0) (beside Missing (l.ThenMissing Closing) Command d n (d + 1) 1)

-- a symbol is due before a part of this depth and so many nodes
abbrev pub awaiting : Category → ℕ → ℕ → ℕ → ℕ → Completions
awaiting y d n e m = One (beside Due (l.Then Closing) y d n e m)

-- the completions of the top of a stack, where its parts have this depth and number of nodes
abbrev pub completions_with : ℕ → ℕ → Stack → Completions
completions_with d n (in_section ds) = One (beside Due (l.Then Closing) Due d n 0 0)
completions_with d n (in_block k b ds cs st) = Three (node Command (l.Then Closing) Command d n 0) (node Declaration (l.Then Closing) Command d n 0) (node Due (l.Then Closing) Command d n 0)
completions_with d n (in_let k ds st) = Two (beside Definition (l.Then Closing) Declaration d n 0 0) (beside Due (l.Then Closing) Declaration d n 2 2)
completions_with d n (at_variable xs st) = awaiting Definition d n 2 (length xs + 2)
completions_with d n (at_variable_end xs st) = awaiting Definition d n 2 (length xs + 1)
completions_with d n (at_starts xs is st) = awaiting Definition d n (max d 1 + 1) (owed (length xs) (start_count is) + 2)
completions_with d n (at_opening k q st) = awaiting Declaration d n 2 2
completions_with d n (at_items k q is st) = awaiting Declaration d n (due_items is) (due_items is)
completions_with d n (at_sign k q is x st) = awaiting Declaration d n 2 2
completions_with d n (at_goto k st) = awaiting Command d n 1 1
completions_with d n (at_for k st) = awaiting Command d n 2 4
completions_with d n (at_forward k x st) = awaiting Command d n 2 4
completions_with d n (at_default k st) = One (beside Due (l.ThenMissing Closing) Command d n 1 1)
completions_with d n (in_parens k st) = Two (node Expression (l.Then Closing) Expression d n 0) (deep Expression (l.Then Closing) Call d n 2 2)
completions_with d n (in_unary k p st) = One (node Expression l.Each Expression d n 0)
completions_with d n (in_binary o s a st) = completions_of_binary (is_tight (in_binary o s a st)) (is_tight st) d n
completions_with d n (in_chain o s a b st) = One (deep Expression l.Each Expression d n 1 1)
completions_with d n (in_then s x st) = One (node Expression (l.Then Listing) Expression d n 1)
completions_with d n (in_else s x a st) = One (node Expression l.Each Expression d n 0)
completions_with d n (in_args s x es st) = completions_of_args (are_none es) d n
completions_with d n (in_table k es st) = Two (node Expression l.Unlisted Expression d n 0) (node Expression (l.ThenUnlisted Listing) Expression d n 1)
completions_with d n (in_start st) = completions_of_start
completions_with d n (in_dests xs st) = completions_of_dests d n (size xs)
completions_with d n (in_values xs ys st) = completions_of_values (size xs == size ys + 1) d n (owed (size xs) (size ys))
completions_with d n (in_guard k s st) = completions_of_guard k
completions_with d n (in_test k st) = One (node Expression (l.Then Closing) Command d n 2)
completions_with d n (in_result k st) = completions_of_closed d n
completions_with d n (in_while b a st) = completions_of_closed d n
completions_with d n (in_from k x st) = One (node Expression (l.Then Closing) Command d n 2)
completions_with d n (in_to k x a st) = One (node Expression (l.Then Closing) Command d n 1)
completions_with d n (in_by k x a b st) = One (node Expression (l.Then Closing) Command d n 1)
completions_with d n (in_item k q is x st) = One (record { category = Expression; link = l.Then Closing; onto = Declaration; floor = d; rise = 1; nodes = n + 1 })
completions_with d n (in_function x fs st) = One (node Expression (l.Then Closing) Definition d n 0)
completions_with d n (in_value xs is st) = completions_of_starts (length xs == start_count is + 1) d n (owed (length xs) (start_count is))
completions_with d n (in_vector k xs is st) = completions_of_starts (length xs == start_count is + 1) d n (owed (length xs) (start_count is))
completions_with d n (in_valof k st) = completions_of_valof (is_tight st)
completions_with d n (in_label k x st) = completions_of_labelled d n
completions_with d n (in_guarded k s e st) = completions_of_labelled d n
completions_with d n (in_default k st) = completions_of_labelled d n
completions_with d n (in_do k e st) = One (node Command (l.Then Closing) Command d n 1)
completions_with d n (in_or k e a st) = One (node Command l.Each Command d n 0)
completions_with d n (in_for k x a b h st) = One (node Command l.Each Command d n 0)
completions_with d n (in_routine x fs st) = One (node Command (l.Then Closing) Definition d n 0)
completions_with d n _ = awaiting Definition d n 2 2

abbrev pub completions : Stack → Completions
completions st = completions_with (held_depth st) (held_nodes st) st

-- a completion as it is kept
abbrev pub IsKept : Completion → Completion → Type 0
IsKept x y = (x.category ≡ y.category) × (x.link ≡ y.link) × (x.onto ≡ y.onto) × (x.floor ≡ kept y.floor) × (x.rise ≡ kept y.rise) × (x.nodes ≡ kept y.nodes)

abbrev pub AreKept : Completions → Completions → Type 0
AreKept (One a) (One x) = IsKept a x
AreKept (Two a b) (Two x y) = IsKept a x × IsKept b y
AreKept (Three a b c) (Three x y z) = IsKept a x × IsKept b y × IsKept c z
AreKept (Five a b c d e) (Five x y z u v) = IsKept a x × IsKept b y × IsKept c z × IsKept d u × IsKept e v
AreKept _ _ = ⊥

-- ---- what the budgets of a list are

abbrev pub category_of : Form → Category
category_of f.Label = Label
category_of f.Call = Call
category_of _ = Expression

-- a `)` without arguments
abbrev pub Closes : (ℕ → ℕ → Type 0) → Stack → Type 0
Closes P (in_args s x none st) = Whole (Gives P st) f.Call (depth x + 1) (nodes x + 1)
Closes P _ = ⊥

abbrev pub Tight : Bool → Type 0 → Type 0
Tight true X = X
Tight false X = ⊥

-- with such a part on this stack, and such a symbol after it, a section with P goes on
abbrev pub Part : (ℕ → ℕ → Type 0) → Stack → Category → w.Lookahead → ℕ → ℕ → Type 0
Part P st Expression c d n = Gives P st f.Other d n c
Part P st Label c d n = Gives P st f.Label d n c
Part P st Call c d n = Gives P st f.Call d n c
Part P st Operated c d n = AtClosing (Tight (is_tight st) (Operates P st (Gives P st) d n)) c
Part P st Command c d n = Does P st d n c
Part P st Missing c d n = AtClosing (Misses P st) c
Part P st Definition c d n = AtClosing (Defines P st d n) c
Part P st Declaration c d n = AtClosing (Declares P st d n) c
Part P st Due c d n = AtClosing (w.Due P st) c
Part P st Closed c d n = AtClosing (Closes P st) c

-- a label is a name, and what is missing or due has no size
abbrev pub Sized : Category → ℕ → ℕ → Type 0
Sized Label d n = (d ≡ 1) × (n ≡ 1)
Sized Missing d n = (d ≡ 0) × (n ≡ 0)
Sized Due d n = (d ≡ 0) × (n ≡ 0)
Sized Closed d n = (d ≡ 0) × (n ≡ 0)
Sized _ d n = Unit {0}

-- ---- the effect of the completions

-- for a part, the symbol after it, its depth and its nodes
abbrev pub Test : Type 0
Test = Category → w.Lookahead → ℕ → ℕ → Bool

abbrev pub some_next : (Lookahead → Bool) → Bool
some_next f = f Closing || (f Assigning || (f Listing || (f Going || (f Repeating || f Operating))))

abbrev pub led_following : Option Following → (ℕ → ℕ → Bool) → ℕ → ℕ → w.Lookahead → Bool
led_following None t d n c = false
led_following (Some m) t d n c = t (raised m.more d) (raised m.more n) && is_next (next_of m.next) c

abbrev pub led_by : Link → (w.Lookahead → ℕ → ℕ → Bool) → ℕ → ℕ → w.Lookahead → Bool
led_by k t d n c = some_next (λ j. led_following (reached k j) (t (next_of j)) d n c)

abbrev pub led_completion : Completion → Test → Test
led_completion y t x c d n = serves y.category x && led_by y.link (t y.onto) (max y.floor (d + y.rise)) (n + y.nodes) c

abbrev pub led : Completions → Test → Test
led (One s) t x c d n = led_completion s t x c d n
led (Two s u) t x c d n = led_completion s t x c d n || led_completion u t x c d n
led (Three s u v) t x c d n = led_completion s t x c d n || (led_completion u t x c d n || led_completion v t x c d n)
led (Five s u v y z) t x c d n = led_completion s t x c d n || (led_completion u t x c d n || (led_completion v t x c d n || (led_completion y t x c d n || led_completion z t x c d n)))

abbrev pub is_outer : Category → Bool
is_outer Declaration = true
is_outer Due = true
is_outer _ = false

abbrev pub within : Bool → ℕ → ℕ → Bool
within b d n = nat_le d TREE_DEPTH && nat_le (counted b n) TREE_NODES

-- a declaration, or the symbol that is due, after those of a section
abbrev pub in_bounds : Bool → ℕ → ℕ → Test
in_bounds b e m x c d n = is_outer x && (is_next w.closing c && within b (max e d) (m + n))

-- whether with such a part on this stack a section within the limits goes on
abbrev pub goes_on : Bool → Stack → Test
goes_on b (in_section ds) = in_bounds b (depth_of_declarations ds) (nodes_of_declarations ds)
goes_on b (in_block k t ds cs st) = led (completions (in_block k t ds cs st)) (goes_on b st)
goes_on b (in_let k ds st) = led (completions (in_let k ds st)) (goes_on b st)
goes_on b (at_name x st) = led (completions (at_name x st)) (goes_on b st)
goes_on b (at_formals x st) = led (completions (at_formals x st)) (goes_on b st)
goes_on b (at_formal x fs st) = led (completions (at_formal x fs st)) (goes_on b st)
goes_on b (at_formal_end x fs st) = led (completions (at_formal_end x fs st)) (goes_on b st)
goes_on b (at_head x fs st) = led (completions (at_head x fs st)) (goes_on b st)
goes_on b (at_variable xs st) = led (completions (at_variable xs st)) (goes_on b st)
goes_on b (at_variable_end xs st) = led (completions (at_variable_end xs st)) (goes_on b st)
goes_on b (at_starts xs is st) = led (completions (at_starts xs is st)) (goes_on b st)
goes_on b (at_opening k q st) = led (completions (at_opening k q st)) (goes_on b st)
goes_on b (at_items k q is st) = led (completions (at_items k q is st)) (goes_on b st)
goes_on b (at_sign k q is x st) = led (completions (at_sign k q is x st)) (goes_on b st)
goes_on b (at_goto k st) = led (completions (at_goto k st)) (goes_on b st)
goes_on b (at_for k st) = led (completions (at_for k st)) (goes_on b st)
goes_on b (at_forward k x st) = led (completions (at_forward k x st)) (goes_on b st)
goes_on b (at_default k st) = led (completions (at_default k st)) (goes_on b st)
goes_on b (in_parens k st) = led (completions (in_parens k st)) (goes_on b st)
goes_on b (in_unary k p st) = led (completions (in_unary k p st)) (goes_on b st)
goes_on b (in_binary o s a st) = led (completions (in_binary o s a st)) (goes_on b st)
goes_on b (in_chain o s a e st) = led (completions (in_chain o s a e st)) (goes_on b st)
goes_on b (in_then s x st) = led (completions (in_then s x st)) (goes_on b st)
goes_on b (in_else s x a st) = led (completions (in_else s x a st)) (goes_on b st)
goes_on b (in_args s x es st) = led (completions (in_args s x es st)) (goes_on b st)
goes_on b (in_table k es st) = led (completions (in_table k es st)) (goes_on b st)
goes_on b (in_start st) = led (completions (in_start st)) (goes_on b st)
goes_on b (in_dests xs st) = led (completions (in_dests xs st)) (goes_on b st)
goes_on b (in_values xs ys st) = led (completions (in_values xs ys st)) (goes_on b st)
goes_on b (in_guard k s st) = led (completions (in_guard k s st)) (goes_on b st)
goes_on b (in_test k st) = led (completions (in_test k st)) (goes_on b st)
goes_on b (in_result k st) = led (completions (in_result k st)) (goes_on b st)
goes_on b (in_while t a st) = led (completions (in_while t a st)) (goes_on b st)
goes_on b (in_from k x st) = led (completions (in_from k x st)) (goes_on b st)
goes_on b (in_to k x a st) = led (completions (in_to k x a st)) (goes_on b st)
goes_on b (in_by k x a e st) = led (completions (in_by k x a e st)) (goes_on b st)
goes_on b (in_item k q is x st) = led (completions (in_item k q is x st)) (goes_on b st)
goes_on b (in_function x fs st) = led (completions (in_function x fs st)) (goes_on b st)
goes_on b (in_value xs is st) = led (completions (in_value xs is st)) (goes_on b st)
goes_on b (in_vector k xs is st) = led (completions (in_vector k xs is st)) (goes_on b st)
goes_on b (in_valof k st) = led (completions (in_valof k st)) (goes_on b st)
goes_on b (in_label k x st) = led (completions (in_label k x st)) (goes_on b st)
goes_on b (in_guarded k s e st) = led (completions (in_guarded k s e st)) (goes_on b st)
goes_on b (in_default k st) = led (completions (in_default k st)) (goes_on b st)
goes_on b (in_do k e st) = led (completions (in_do k e st)) (goes_on b st)
goes_on b (in_or k e a st) = led (completions (in_or k e a st)) (goes_on b st)
goes_on b (in_for k x a e h st) = led (completions (in_for k x a e h st)) (goes_on b st)
goes_on b (in_routine x fs st) = led (completions (in_routine x fs st)) (goes_on b st)

-- the budgets allow the parts with which it goes on, and no others
abbrev pub AreBudgets : Bool → Stack → List Budget → Type 0
AreBudgets b st rs = (x : Category) (c : w.Lookahead) (d n : ℕ) → covered rs x c d (counted b n) ≡ goes_on b st x c d n

-- the budget that a completion leaves of one below it allows a part
abbrev pub leads : Bool → Completion → Budget → Option Following → Category → w.Lookahead → ℕ → ℕ → Bool
leads b y r None x c d n = false
leads b y r (Some m) x c d n = serves y.category x && ((serves r.category y.onto && (nat_le (raised m.more (max y.floor (d + y.rise))) r.depth && nat_le (n + counted b (raised m.more y.nodes)) r.nodes)) && is_next (next_of m.next) c)

abbrev pub by_budget : Bool → Completion → Budget → Category → w.Lookahead → ℕ → ℕ → Bool
by_budget b y r = leads b y r (reached y.link r.next)

abbrev pub by_completion : Bool → Completion → List Budget → Category → w.Lookahead → ℕ → ℕ → Bool
by_completion b y [] x c d n = false
by_completion b y (r ∷ rs) x c d n = by_budget b y r x c d n || by_completion b y rs x c d n

abbrev pub by_completions : Bool → Completions → List Budget → Category → w.Lookahead → ℕ → ℕ → Bool
by_completions b (One s) rs x c d n = by_completion b s rs x c d n
by_completions b (Two s t) rs x c d n = by_completion b s rs x c d n || by_completion b t rs x c d n
by_completions b (Three s t u) rs x c d n = by_completion b s rs x c d n || (by_completion b t rs x c d n || by_completion b u rs x c d n)
by_completions b (Five s t u v y) rs x c d n = by_completion b s rs x c d n || (by_completion b t rs x c d n || (by_completion b u rs x c d n || (by_completion b v rs x c d n || by_completion b y rs x c d n)))

-- with the budgets for which this test holds
abbrev pub AreAdded : Test → List Budget → List Budget → Type 0
AreAdded t rs ss = (x : Category) (c : w.Lookahead) (d n : ℕ) → covered ss x c d n ≡ (covered rs x c d n || t x c d n)
