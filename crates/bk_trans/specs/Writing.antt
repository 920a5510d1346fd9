-- Writing the statements of a section while one goes once through its tree, in the source's order: what was written so far, the
-- meanings and words that are left, and the label that is next. This definition is inner: it says what the code does, part by
-- part, where the scheme says what is right; a law ties the two.
--
-- What the scheme has in another order is written aside and put where it belongs: the operand that is called after its
-- arguments, the condition of a WHILE after its body, destinations after their values, a procedure after the one around it.
-- A name may mean a word or a label that is set further on: the draft of its statement has the number of the declaration, and is
-- settled at the end. Labels and depths are words, and wrap.
use Rattle.std.specs.Prelude.{◌≡◌, ℕ, ◌+◌, pos, ◌%◌, ◌^◌, Bool, true, false, not, cond, Option, Some, None, List, [], ◌∷◌, ◌++◌, length, map, get_or}
use Rattle.bk_base.specs.Strings.{first_bytes}
use Rattle.bk_base.specs.Word.{signed}
use Rattle.bk_tree.specs.declared.tree.Operator.{Operator}
use Rattle.bk_tree.specs.declared.tree.Operator.TheVariants as o
use Rattle.bk_tree.specs.declared.tree.Prefix.TheVariants as q
use Rattle.bk_tree.specs.declared.tree.Simple.{Simple}
use Rattle.bk_tree.specs.declared.tree.Simple.TheVariants as w
use Rattle.bk_tree.specs.declared.tree.Sort.TheVariants as sort
use Rattle.bk_tree.specs.Tree.{Expression, Expressions, Command, Commands, Declaration, Declarations, Items, Definition, Definitions, Starts, name, number, text, truth, query, parens, unary, binary, choice, apply, valof, table, none, more, empty, assign, call, goto, label, case_of, default, when, test, while, for_loop, switch, result, simple, block, repeat, repeat_while, no_commands, also, constants, definitions, no_declarations, declare, no_items, item, routine, function, variables, no_definitions, define, no_starts, value, vector}
use Rattle.bk_tree.specs.Parts.{size}
use Rattle.bk_scope.specs.declared.bound.Bound.{Bound}
use Rattle.bk_scope.specs.declared.bound.Bound.TheVariants as b
use Rattle.bk_ocode.specs.declared.stmt.Variable.{Variable}
use Rattle.bk_ocode.specs.declared.stmt.Variable.TheVariants.{Local, Global, Static}
use Rattle.bk_ocode.specs.declared.stmt.Dyadic.TheVariants as d
use Rattle.bk_ocode.specs.declared.stmt.Monadic.TheVariants as m
use Rattle.bk_ocode.specs.declared.stmt.Case.{Case}
use Rattle.bk_ocode.specs.declared.stmt.GlobalEntry.{GlobalEntry}
use Rattle.bk_ocode.specs.declared.stmt.Stmt.{Stmt}
use Rattle.bk_ocode.specs.declared.stmt.Stmt.TheVariants.{Number, Query, Load, Address, Text, Monadic, Dyadic, Assign, AssignAt, AssignByte, Jump, JumpIf, Label, GiveResult, TakeResult, Stack, Store, Entry, Save, CallFunction, CallRoutine, ReturnItem, Return, EndProcedure, Switch, Finish, DataLabel, DataNumber, DataAddress, Globals}
use Rattle.bk_trans.specs.declared.aim.Aim.{Aim}
use Rattle.bk_trans.specs.declared.aim.Aim.TheVariants as aim
use Rattle.bk_trans.specs.declared.evaluation.Evaluation.{Evaluation}
use Rattle.bk_trans.specs.declared.evaluation.Evaluation.TheVariants as evaluation
use Rattle.bk_trans.specs.declared.evaluation.Access.{Access}
use Rattle.bk_trans.specs.declared.evaluation.Access.TheVariants as access
use Rattle.bk_trans.specs.declared.unresolved.Unresolved.{Unresolved}
use Rattle.bk_trans.specs.declared.unresolved.Unresolved.TheVariants as draft
use Rattle.bk_trans.specs.declared.unresolved.Unresolved.TheVariants.{Ready}
use Rattle.bk_trans.specs.declared.around.Goal.{Goal}
use Rattle.bk_trans.specs.declared.around.Around.{Around}
use Rattle.bk_trans.specs.declared.around.Target.{Target}
use Rattle.bk_trans.specs.Filling.{Supply, meaning, constant, constants_of, step_of, dropped}
use Rattle.bk_trans.specs.Labels.{labels_of_procedure}
use Rattle.bk_trans.specs.Parts.{target_of_word, target_of_label}
use Rattle.bk_trans.specs.Scheme.{goal, goal_of, outermost, valued, looping, switching, prefix_code, infix_code, truth_value, go, test_of_step, first_of, label_or}

-- what is by itself in the code: the procedures inside the one that is written, data, the globals that procedures set, and
-- where declarations went
pub record Apart : Type 0 where
  pub procedures : List Unresolved
  pub data_words : List Stmt
  pub entries : List GlobalEntry
  pub targets : List Target

-- the CASEs of the SWITCHON around, and its DEFAULT
pub record Choices : Type 0 where
  pub cases : List Case
  pub default_label : Option ℕ

pub record Writing : Type 0 where
  pub code : List Unresolved
  pub apart : Apart
  pub choices : Choices
  pub left : Supply
  pub next : ℕ

-- a label or a depth that is so much greater
abbrev pub after : ℕ → ℕ → ℕ
after n k = (n + k) % 2 ^ 32

-- where the declaration of this number went, where those of all numbers from 0 on are listed
abbrev pub place_of : List Goal → ℕ → Goal
place_of gs m = get_or gs m (goal 0 0)

-- the word of a name; a static one has the number of its declaration
abbrev pub word_of : Bound → Variable
word_of (b.Global (Some g)) = Global g
word_of (b.Static m) = Static m
word_of (b.Variable k d) = Local d
word_of _ = Local 0

-- pushes what a name means
abbrev pub push_of : Bound → Unresolved
push_of (b.Constant (Some w)) = Ready (Number (signed w))
push_of (b.Constant None) = Ready (Number (pos 0))
push_of x = draft.Load (word_of x)

-- a GOTO to a name, from the depth s
abbrev pub goto_code : ℕ → Bound → List Unresolved
goto_code s (b.Label k m) = draft.Stack m ∷ draft.Jump m ∷ Ready (Stack s) ∷ []
goto_code s _ = map Ready (go (goal 0 0) s)

-- a draft as a statement, where declarations went to these places
abbrev pub settled_word : List Goal → Variable → Variable
settled_word gs (Static m) = Static ((place_of gs m).label)
settled_word gs x = x

abbrev pub settled : List Goal → Unresolved → Stmt
settled gs (Ready s) = s
settled gs (draft.Load x) = Load (settled_word gs x)
settled gs (draft.Address x) = Address (settled_word gs x)
settled gs (draft.Assign x) = Assign (settled_word gs x)
settled gs (draft.Stack m) = Stack ((place_of gs m).depth)
settled gs (draft.Jump m) = Jump ((place_of gs m).label)

-- drafts and statements more
abbrev pub puts_drafts : List Unresolved → Writing → Writing
puts_drafts ds w = record { code = w.code ++ ds; apart = w.apart; choices = w.choices; left = w.left; next = w.next }

abbrev pub puts_all : List Stmt → Writing → Writing
puts_all ss w = puts_drafts (map Ready ss) w

abbrev pub puts : Stmt → Writing → Writing
puts s w = puts_all (s ∷ []) w

-- other drafts in their place
abbrev pub with_code : List Unresolved → Writing → Writing
with_code ss w = record { code = ss; apart = w.apart; choices = w.choices; left = w.left; next = w.next }

abbrev pub with_choices : Choices → Writing → Writing
with_choices cs w = record { code = w.code; apart = w.apart; choices = cs; left = w.left; next = w.next }

abbrev pub no_choices : Choices
no_choices = record { cases = []; default_label = None }

abbrev pub takes_labels : ℕ → Writing → Writing
takes_labels k w = record { code = w.code; apart = w.apart; choices = w.choices; left = w.left; next = after w.next k }

abbrev pub with_left : Supply → Writing → Writing
with_left g w = record { code = w.code; apart = w.apart; choices = w.choices; left = g; next = w.next }

-- the meaning that is next is taken, and the word
abbrev pub past_meaning : Writing → Writing
past_meaning w = with_left (meaning w.left).left w

abbrev pub past_word : Writing → Writing
past_word w = with_left (constant w.left).left w

abbrev pub with_apart : Apart → Writing → Writing
with_apart a w = record { code = w.code; apart = a; choices = w.choices; left = w.left; next = w.next }

-- data, globals that procedures set, and places more
abbrev pub adds_data : List Stmt → Writing → Writing
adds_data ds w = with_apart (record { procedures = w.apart.procedures; data_words = w.apart.data_words ++ ds; entries = w.apart.entries; targets = w.apart.targets }) w

abbrev pub adds_entries : List GlobalEntry → Writing → Writing
adds_entries es w = with_apart (record { procedures = w.apart.procedures; data_words = w.apart.data_words; entries = w.apart.entries ++ es; targets = w.apart.targets }) w

abbrev pub adds_targets : List Target → Writing → Writing
adds_targets ts w = with_apart (record { procedures = w.apart.procedures; data_words = w.apart.data_words; entries = w.apart.entries; targets = w.apart.targets ++ ts }) w

-- what a name means is pushed
abbrev pub puts_name : Writing → Writing
puts_name w = puts_drafts (push_of (meaning w.left).part ∷ []) (past_meaning w)

-- a GOTO to what a name means
abbrev pub puts_goto : ℕ → Writing → Writing
puts_goto s w = puts_drafts (goto_code s (meaning w.left).part) (past_meaning w)

-- how the operands of an operator are gone through: for their values, or both for a jump, with a label of its own after them
-- or not
abbrev pub evaluation_of : Operator → Aim → ℕ → Evaluation
evaluation_of o.Both (aim.Jump true k) n = evaluation.Short (aim.Jump false n) (aim.Jump true k) true
evaluation_of o.Both (aim.Jump false k) n = evaluation.Short (aim.Jump false k) (aim.Jump false k) false
evaluation_of o.Either (aim.Jump true k) n = evaluation.Short (aim.Jump true k) (aim.Jump true k) false
evaluation_of o.Either (aim.Jump false k) n = evaluation.Short (aim.Jump true n) (aim.Jump false k) true
evaluation_of _ a n = evaluation.Plain

abbrev pub first_aim : Evaluation → Aim
first_aim evaluation.Plain = aim.Value
first_aim (evaluation.Short x y own) = x

abbrev pub second_aim : Evaluation → Aim
second_aim evaluation.Plain = aim.Value
second_aim (evaluation.Short x y own) = y

abbrev pub by_evaluation : Evaluation → Writing → Writing → Writing
by_evaluation evaluation.Plain x y = x
by_evaluation (evaluation.Short a b own) x y = y

-- the label of its own is set
abbrev pub ends_evaluation : Evaluation → ℕ → Writing → Writing
ends_evaluation evaluation.Plain n w = w
ends_evaluation (evaluation.Short x y true) n w = puts (Label n) w
ends_evaluation (evaluation.Short x y false) n w = w

-- the aim of the operand of NOT, and the NOT of a value
abbrev pub negated : Aim → Aim
negated aim.Value = aim.Value
negated (aim.Jump t k) = aim.Jump (not t) k

abbrev pub puts_not : Aim → Writing → Writing
puts_not aim.Value w = puts (Monadic m.Not) w
puts_not (aim.Jump t k) w = w

-- what may be between the operands of a destination
abbrev pub access_of : Operator → Access
access_of o.Subscript = access.Word
access_of o.Byte = access.Byte
access_of _ = access.Nothing

-- an address, where what is after its operands is `following`; a byte has none, and its operands are written aside and left out
abbrev pub puts_address : Access → Writing → Writing → Writing → Writing
puts_address access.Word w following aside = puts (Dyadic d.Add) following
puts_address access.Byte w following aside = with_code w.code aside
puts_address access.Nothing w following aside = w

abbrev pub puts_store : Access → Writing → Writing → Writing
puts_store access.Word w following = puts AssignAt (puts (Dyadic d.Add) following)
puts_store access.Byte w following = puts AssignByte following
puts_store access.Nothing w following = w

-- a value that was pushed serves the aim
abbrev pub aimed : Aim → Writing → Writing
aimed aim.Value w = w
aimed (aim.Jump t l) w = puts (JumpIf t l) w

-- a table
abbrev pub puts_table : Expressions → Writing → Writing
puts_table es w =
    puts (Address (Static w.next)) (adds_data (DataLabel w.next ∷ map (λ x. DataNumber (signed x)) (constants_of es w.left).part)
    (with_left (constants_of es w.left).left (takes_labels 1 w)))

-- the items of STATIC, with a word and a meaning each
abbrev pub puts_item : Writing → Writing
puts_item w =
    adds_targets (target_of_word w.next (meaning (constant w.left).left).part)
    (adds_data (DataLabel w.next ∷ DataNumber (signed (constant w.left).part) ∷ []) (takes_labels 1 (past_meaning (past_word w))))

abbrev pub puts_items : Items → Writing → Writing
puts_items no_items w = w
puts_items (item l x e is) w = puts_items is (puts_item w)

-- items and a step that leave nothing
abbrev pub past_items : Items → Writing → Writing
past_items is w = with_left (dropped is w.left).left w

abbrev pub past_step : Expressions → Writing → Writing
past_step h w = with_left (step_of h w.left).left w

-- a command of one word
abbrev pub simple_code : Around → ℕ → Simple → List Stmt
simple_code a s w.Break = go a.leaves s
simple_code a s w.Loop = go a.goes_on s
simple_code a s w.EndCase = go a.ends_case s
simple_code a s w.Return = Return ∷ []
simple_code a s w.Finish = Finish ∷ []

-- a label, a CASE, a DEFAULT before their commands
abbrev pub puts_label : ℕ → Writing → Writing
puts_label s w =
    puts (Label w.next) (adds_targets (target_of_label w.next s (meaning w.left).part) (takes_labels 1 (past_meaning w)))

abbrev pub puts_case : Writing → Writing
puts_case w =
    puts (Label w.next) (takes_labels 1 (with_choices (record { cases = w.choices.cases ++ (record { value = signed (constant w.left).part; label = w.next } ∷ []); default_label = w.choices.default_label }) (past_word w)))

abbrev pub puts_default : Writing → Writing
puts_default w =
    puts (Label w.next) (takes_labels 1 (with_choices (record { cases = w.choices.cases; default_label = first_of w.choices.default_label (Some w.next) }) w))

-- what is between the values of a choice, and after them
abbrev pub begins_other : ℕ → ℕ → List Stmt
begins_other n m = GiveResult m ∷ Label n ∷ []

abbrev pub ends_choice : ℕ → ℕ → List Stmt
ends_choice m s = GiveResult m ∷ Label m ∷ TakeResult s ∷ []

-- what is before the body of a FOR and after it, with first label n and depth s
abbrev pub before_body : ℕ → List Stmt
before_body n = Store ∷ Jump n ∷ Label (after n 1) ∷ []

abbrev pub steps_on : ℕ → ℕ → ℕ → List Stmt
steps_on n s k = Label (after n 2) ∷ Load (Local s) ∷ Number (signed k) ∷ Dyadic d.Add ∷ Assign (Local s) ∷ []

abbrev pub goes_on : ℕ → ℕ → ℕ → List Stmt
goes_on n s k = Label n ∷ Load (Local s) ∷ Load (Local (after s 1)) ∷ test_of_step k ∷ JumpIf true (after n 1) ∷ Label (after n 3) ∷ Stack s ∷ []

abbrev pub ends_for : ℕ → ℕ → ℕ → Writing → Writing
ends_for n s k w = puts_all (goes_on n s k) (puts_all (steps_on n s k) w)

-- a SWITCHON: its body was written aside with its choices, after these statements, in these choices
abbrev pub puts_switch : ℕ → List Unresolved → Choices → Writing → Writing
puts_switch n before around body =
    record { code = before ++ Ready (Switch (label_or n body.choices.default_label) body.choices.cases) ∷ body.code ++ Ready (Label n) ∷ []; apart = body.apart; choices = around; left = body.left; next = body.next }

-- what is written around a procedure
pub record Outside : Type 0 where
  pub code : List Unresolved
  pub procedures : List Unresolved
  pub choices : Choices

abbrev pub outside_of : Writing → Outside
outside_of w = record { code = w.code; procedures = w.apart.procedures; choices = w.choices }

abbrev pub inside : Writing → Writing
inside w = record { code = []; apart = record { procedures = []; data_words = w.apart.data_words; entries = w.apart.entries; targets = w.apart.targets }; choices = no_choices; left = w.left; next = w.next }

-- a procedure is begun, and ended after its body
abbrev pub puts_entry : ℕ → Bound → Writing → Writing
puts_entry l (b.Static m) w = adds_targets (record { number = m; label = after l 1; depth = 0 } ∷ []) (adds_data (DataLabel (after l 1) ∷ DataAddress l ∷ []) w)
puts_entry l (b.Global (Some g)) w = adds_entries (record { number = g; label = l } ∷ []) w
puts_entry l _ w = w

abbrev pub begins_procedure : List ℕ → ℕ → Writing → Writing
begins_procedure x formals w =
    puts (Save (after 2 formals)) (puts (Entry w.next (first_bytes x)) (puts_entry w.next (meaning w.left).part
    (takes_labels (labels_of_procedure (meaning w.left).part) (past_meaning (inside w)))))

abbrev pub ends_procedure : Stmt → Outside → Writing → Writing
ends_procedure return around body =
    record {
      code = around.code;
      apart = record {
        procedures = around.procedures ++ body.code ++ (Ready return ∷ Ready EndProcedure ∷ []) ++ body.apart.procedures;
        data_words = body.apart.data_words;
        entries = body.apart.entries;
        targets = body.apart.targets;
      };
      choices = around.choices;
      left = body.left;
      next = body.next;
    }

-- whether a LET has variables
abbrev pub any_variables : Definitions → Bool
any_variables no_definitions = false
any_variables (define (variables l xs is) ds) = true
any_variables (define _ ds) = any_variables ds

-- destinations that were written, and what is after them
pub record Stored : Type 0 where
  pub codes : List (List Unresolved)
  pub writing : Writing

-- declarations that were written, and the depth after them
pub record Reached : Type 0 where
  pub depth : ℕ
  pub writing : Writing

abbrev pub reached : ℕ → Writing → Reached
reached s w = record { depth = s; writing = w }

abbrev mutual
  pub written : ℕ → Aim → Expression → Writing → Writing
  written s a (name l x) w = aimed a (puts_name w)
  written s a (number l n) w = aimed a (puts (Number (signed n)) w)
  written s a (text l x) w = aimed a (puts (Text (first_bytes x)) w)
  written s a (truth l t) w = aimed a (puts (truth_value t) w)
  written s a (query l) w = aimed a (puts Query w)
  written s a (parens l e) w = written s a e w
  written s a (unary l q.Address e) w = aimed a (address_written s e w)
  written s a (unary l q.Not e) w = puts_not a (written s (negated a) e w)
  written s a (unary l f e) w = aimed a (puts_all (prefix_code f) (written s aim.Value e w))
  written s a (binary l f m x y) w =
      let t : Evaluation = evaluation_of f a w.next in
      by_evaluation t (aimed a (puts_all (infix_code f) (written (after s 1) aim.Value y (written s aim.Value x w))))
      (ends_evaluation t w.next (written s (second_aim t) y (written s (first_aim t) x (takes_labels 1 w))))
  written s a (choice l m c x y) w =
      let n : ℕ = w.next in
      aimed a (puts_all (ends_choice (after n 1) s) (written s aim.Value y (puts_all (begins_other n (after n 1)) (written s aim.Value x (written s (aim.Jump false n) c (takes_labels 2 w))))))
  written s a (apply l m e es) w =
      let callee : Writing = written (after s (size es + 2)) aim.Value e (with_code [] w) in
      aimed a (puts (CallFunction s) (puts_drafts callee.code (each_written (after s 2) es (puts (Stack (after s 2)) (with_code w.code callee)))))
  written s a (valof l c) w =
      let n : ℕ = w.next in
      aimed a (puts (TakeResult s) (puts (Label n) (with_choices (takes_labels 1 w).choices (act_written (valued n) s c (with_choices no_choices (takes_labels 1 w))))))
  written s a (table l es) w = aimed a (puts_table es w)

  pub each_written : ℕ → Expressions → Writing → Writing
  each_written s none w = w
  each_written s (more e es) w = each_written (after s 1) es (written s aim.Value e w)

  pub address_written : ℕ → Expression → Writing → Writing
  address_written s (name l x) w = puts_drafts (draft.Address (word_of (meaning w.left).part) ∷ []) (past_meaning w)
  address_written s (parens l e) w = address_written s e w
  address_written s (unary l q.Contents e) w = written s aim.Value e w
  address_written s (binary l f m x y) w =
      puts_address (access_of f) w (written (after s 1) aim.Value y (written s aim.Value x w)) (written (after s 1) aim.Value y (written s aim.Value x (with_code [] w)))
  address_written s _ w = w

  pub store_written : ℕ → Expression → Writing → Writing
  store_written s (name l x) w = puts_drafts (draft.Assign (word_of (meaning w.left).part) ∷ []) (past_meaning w)
  store_written s (parens l e) w = store_written s e w
  store_written s (unary l q.Contents e) w = puts AssignAt (written s aim.Value e w)
  store_written s (binary l f m x y) w = puts_store (access_of f) w (written (after s 1) aim.Value y (written s aim.Value x w))
  store_written s _ w = w

  -- each destination is written apart
  pub stores_written : ℕ → Expressions → Stored → Stored
  stores_written s none r = r
  stores_written s (more e es) r =
      let one : Writing = store_written s e (with_code [] r.writing) in
      stores_written s es (record { codes = r.codes ++ one.code ∷ []; writing = with_code r.writing.code one })

  -- values, and after each its destination; where there is none, the value is left out
  pub values_written : ℕ → Expressions → List (List Unresolved) → Writing → Writing
  values_written s none codes w = w
  values_written s (more e es) [] w = values_written s es [] (with_code w.code (written s aim.Value e (with_code [] w)))
  values_written s (more e es) (c ∷ cs) w = values_written s es cs (puts_drafts c (written s aim.Value e w))

  pub act_written : Around → ℕ → Command → Writing → Writing
  act_written a s empty w = w
  act_written a s (assign l xs es) w =
      let r : Stored = stores_written (after s 1) xs (record { codes = []; writing = w }) in
      values_written s es r.codes r.writing
  act_written a s (call l e es) w =
      let callee : Writing = written (after s (size es + 2)) aim.Value e (with_code [] w) in
      puts (CallRoutine s) (puts_drafts callee.code (each_written (after s 2) es (puts (Stack (after s 2)) (with_code w.code callee))))
  act_written a s (goto l x) w = puts_goto s w
  act_written a s (label l x c) w = act_written a s c (puts_label s w)
  act_written a s (case_of l e c) w = act_written a s c (puts_case w)
  act_written a s (default l c) w = act_written a s c (puts_default w)
  act_written a s (when l t e c) w =
      let n : ℕ = w.next in
      puts (Label n) (act_written a s c (written s (aim.Jump (not t) n) e (takes_labels 1 w)))
  act_written a s (test l e c x) w =
      let n : ℕ = w.next in
      puts (Label (after n 1)) (act_written a s x (puts (Label n) (puts (Jump (after n 1)) (act_written a s c (written s (aim.Jump false n) e (takes_labels 2 w))))))
  act_written a s (while l t e c) w =
      let n : ℕ = w.next in
      let tested : Writing = written s (aim.Jump t (after n 1)) e (with_code [] (takes_labels 3 w)) in
      puts (Label (after n 2)) (puts_drafts tested.code (puts (Label n) (act_written (looping n (after n 2) s a) s c (puts (Label (after n 1)) (puts (Jump n) (with_code w.code tested))))))
  act_written a s (for_loop l x e f h c) w =
      let n : ℕ = w.next in
      let ranged : Writing = written (after s 1) aim.Value f (written s aim.Value e (takes_labels 4 w)) in
      let begun : Writing = puts_all (before_body n) (past_step h ranged) in
      ends_for n s (step_of h ranged.left).part (with_choices begun.choices (act_written (looping (after n 2) (after n 3) (after s 2) a) (after s 2) c (with_choices no_choices begun)))
  act_written a s (switch l e c) w =
      let n : ℕ = w.next in
      let valued : Writing = written s aim.Value e (takes_labels 1 w) in
      puts_switch n valued.code valued.choices (act_written (switching n s a) s c (with_choices no_choices (with_code [] valued)))
  act_written a s (result l e) w = puts (GiveResult a.valof) (written s aim.Value e w)
  act_written a s (simple l x) w = puts_all (simple_code a s x) w
  act_written a s (block l no_declarations cs) w = each_act_written a s cs w
  act_written a s (block l (declare d ds) cs) w =
      let r : Reached = declared (declare d ds) (reached s w) in
      puts (Stack s) (with_choices r.writing.choices (each_act_written a r.depth cs (with_choices no_choices r.writing)))
  act_written a s (repeat l c) w =
      let n : ℕ = w.next in
      puts (Label (after n 1)) (puts (Jump n) (act_written (looping n (after n 1) s a) s c (puts (Label n) (takes_labels 2 w))))
  act_written a s (repeat_while l t c e) w =
      let n : ℕ = w.next in
      puts (Label (after n 2)) (written s (aim.Jump t n) e (puts (Label (after n 1)) (act_written (looping (after n 1) (after n 2) s a) s c (puts (Label n) (takes_labels 3 w)))))

  pub each_act_written : Around → ℕ → Commands → Writing → Writing
  each_act_written a s no_commands w = w
  each_act_written a s (also c cs) w = each_act_written a s cs (act_written a s c w)

  pub declared : Declarations → Reached → Reached
  declared no_declarations r = r
  declared (declare d ds) r = declared ds (one_declared d r)

  pub one_declared : Declaration → Reached → Reached
  one_declared (constants l sort.Static is) r = reached r.depth (puts_items is r.writing)
  one_declared (constants l o is) r = reached r.depth (past_items is r.writing)
  one_declared (definitions l ds) r =
      let t : Reached = defined ds r in
      reached t.depth (cond (any_variables ds) (puts Store t.writing) t.writing)

  pub defined : Definitions → Reached → Reached
  defined no_definitions r = r
  defined (define d ds) r = defined ds (one_defined d r)

  pub one_defined : Definition → Reached → Reached
  one_defined (routine l x fs c) r = reached r.depth (ends_procedure Return (outside_of r.writing) (act_written outermost (after 2 (length fs)) c (begins_procedure x (length fs) r.writing)))
  one_defined (function l x fs e) r = reached r.depth (ends_procedure ReturnItem (outside_of r.writing) (written (after 2 (length fs)) aim.Value e (begins_procedure x (length fs) r.writing)))
  one_defined (variables l xs is) r = started is r

  pub started : Starts → Reached → Reached
  started no_starts r = r
  started (value e is) r = started is (reached (after r.depth 1) (written r.depth aim.Value e r.writing))
  started (vector l e is) r =
      let k : ℕ = (constant r.writing.left).part in
      started is (reached (after r.depth (k + 2)) (puts_all (Stack (after r.depth (k + 1)) ∷ Address (Local r.depth) ∷ []) (past_word r.writing)))

-- a command and commands whose choices are their own
abbrev pub acted_apart : Around → ℕ → Command → Writing → Writing
acted_apart a s c w = with_choices w.choices (act_written a s c (with_choices no_choices w))

abbrev pub each_acted_apart : Around → ℕ → Commands → Writing → Writing
each_acted_apart a s cs w = with_choices w.choices (each_act_written a s cs (with_choices no_choices w))

-- a section: what is written of it from nothing on, and its statements, where declarations went to these places
abbrev pub starting : Supply → Writing
starting g = record { code = []; apart = record { procedures = []; data_words = []; entries = []; targets = [] }; choices = no_choices; left = g; next = 1 }

abbrev pub section_written : Declarations → Supply → Writing
section_written ds g = (declared ds (reached 2 (starting g))).writing

abbrev pub ending : List Goal → Writing → List Stmt
ending gs w = map (settled gs) w.apart.procedures ++ w.apart.data_words ++ Globals w.apart.entries ∷ []

-- the places of all numbers, where these declarations went
abbrev pub PlacesOf : List Goal → List Target → Type 0
PlacesOf gs ts = (m : ℕ) → place_of gs m ≡ goal_of ts m

-- the statements of a section, where the places are those to which its declarations went
pub record AreWritten (ds : Declarations) (g : Supply) (stmts : List Stmt) : Type 0 where
  pub goals : List Goal
  pub places : PlacesOf goals (section_written ds g).apart.targets
  pub are : stmts ≡ ending goals (section_written ds g)
