-- What is proved of each form: its code, where it is laid, does what the form means, within an account.
use Rattle.bk_simulation.proofs.Situations.{BaseOf, Alive, Applies, turns_of, turns_among, turns_in, turns_through, Setting, IsValue, IsJump, IsAddress, IsStore, IsAct, IsScopeAt, IsLoop, IsForLoop, Entered, EnteredAny, EnteredBody, Configuration, start, place_of, Ready, Account, Ran, CompletedAt, Has, Out, ◌≡◌, ◌≢◌, ◌<◌, ℕ, suc, ◌+◌, ◌-◌, ◌*◌, ◌≤◌, Bool, true, false, List, ◌∷◌, Some, content_of, State, from_label, Stmt, Assign, AssignAt, AssignByte, Expression, Expressions, Command, Commands, Value, address, labelled, Sought, Mode, World, Outcome, Done, history, After, Throughout, at, Meanings}
use Rattle.bk_simulation.proofs.Terms.{Variable, Target, byte_at}
use Rattle.bk_tree.specs.Tree as t

-- the accounts of forms in a world
abbrev pub for_value : Expression → World → Account
for_value e w = record { most = 16 * w.turns - 4; least = w.turns - turns_of false e }

abbrev pub for_truth : Expression → World → Account
for_truth e w = record { most = 16 * w.turns - 3; least = w.turns - turns_of false e }

abbrev pub for_act : Command → World → Account
for_act x w = record { most = 16 * w.turns; least = w.turns - turns_in false x }

abbrev pub for_scope : Commands → World → Account
for_scope cs w = record { most = 16 * w.turns; least = w.turns - turns_through false cs }

abbrev pub for_values : Expressions → World → Account
for_values es w = record { most = 16 * w.turns; least = w.turns - turns_among false es }

-- what a round takes
abbrev pub turns_in_round : Command → ℕ
turns_in_round (t.while l u e a) = suc (turns_of false e + turns_in false a)
turns_in_round (t.repeat l a) = suc (turns_in false a)
turns_in_round (t.repeat_while l u a e) = suc (turns_of false e + turns_in false a)
turns_in_round _ = 0

abbrev pub for_rounds : Command → World → Account
for_rounds x w = record { most = 16 * w.turns + 2; least = w.turns - turns_in_round x }

-- where a test leads
abbrev pub where_to : Bool → Bool → List Stmt → List Stmt → List Stmt
where_to true true to rest = to
where_to false false to rest = to
where_to true false to rest = rest
where_to false true to rest = rest

abbrev pub HasTruth : Setting → State → Account → Configuration → Bool → List Stmt → List Stmt → World → Bool → World → Type 0
HasTruth setting s B z u to rest w b w1 = CompletedAt setting s B z (where_to u b to rest) z.depth w w1

abbrev pub Did : Setting → State → Account → Configuration → List Stmt → World → World → Type 0
Did setting s B z rest w w1 = CompletedAt setting s B z rest z.depth w w1

abbrev pub RanDid : Setting → State → Account → Configuration → List Stmt → World → Outcome Done → Type 0
RanDid setting s B z rest w o = Ran setting s B (λ _ w1. Did setting s B z rest w w1) (Out setting s B z w) o

-- an address is on top; a byte has none
abbrev pub HasAddress : Setting → State → Account → Configuration → List Stmt → World → Target → World → Type 0
HasAddress setting s B z rest w (at a) w1 = Has setting s B z rest (z.depth + 1) w a w1
HasAddress setting s B z rest w (byte_at a i) w1 = Unit {0}

-- Where a value is to be stored: before SP, SG or SL of the word, before STIND with the address on top, or before PUTBYTE with the words'
-- address and the byte's number on top.
pub data Destined (setting : Setting) (s : State) (B : Account) (z : Configuration) (rest : List Stmt) (w : World) : Target → World → Type 0 where
  word : (v : Variable) (o i b : ℕ) (w1 : World) (a : CompletedAt setting s B z (Assign v ∷ rest) z.depth w w1) → BaseOf a.bases1 o b → b + i ≡ place_of z.scene.own z.frame v
      → Destined setting s B z rest w (at (address o i)) w1
  through : (a : Value) (w1 : World) → Has setting s B z (AssignAt ∷ rest) (z.depth + 1) w a w1 → Destined setting s B z rest w (at a) w1
  byte : (a i : Value) (w1 : World) (arr : CompletedAt setting s B z (AssignByte ∷ rest) (z.depth + 1 + 1) w w1) → Applies setting.codes arr.bases1 a (content_of (arr.cells1 (z.frame + z.depth)))
      → Applies setting.codes arr.bases1 i (content_of (arr.cells1 (z.frame + (z.depth + 1)))) → Destined setting s B z rest w (byte_at a i) w1

-- the variable and the limit of a FOR
pub record Limit (setting : Setting) (z : Configuration) (w : World) (d o : ℕ) (u : Value) : Type 0 where
  pub base : BaseOf z.bases o (z.frame + d)
  pub limit : Applies setting.codes z.bases u (content_of (z.cells (z.frame + (d + 1))))
  pub free : (o1 n b i : ℕ) → Alive w.memory o1 n → BaseOf z.bases o1 b → i < n → b + i ≢ z.frame + (d + 1)

abbrev pub for_counts : Command → World → Account
for_counts x w = record { most = 16 * w.turns + 11; least = w.turns - suc (turns_in false x) }

-- the code of each form does what it means
pub record Simulates (setting : Setting) (inner : Meanings) : Type 0 where
  pub grows : Throughout (λ A w u. After (history w) u) inner
  pub value : (e : Expression) (z : Configuration) (c rest : List Stmt) (w : World) → IsValue setting z.scene z.depth z.env e c rest → Ready setting z w
      → Ran setting (start z c w) (for_value e w) (λ u w1. Has setting (start z c w) (for_value e w) z rest (z.depth + 1) w u w1 × (1 ≤ w.turns)) (Out setting (start z c w) (for_value e w) z w) (inner.value e z.env w)
  pub truth : (e : Expression) (z : Configuration) (u : Bool) (n : ℕ) (to c rest : List Stmt) (w : World) → IsJump setting z.scene z.depth z.env e u n c rest → from_label z.scene.own.stmts n ≡ Some to → Ready setting z w
      → Ran setting (start z c w) (for_truth e w) (HasTruth setting (start z c w) (for_truth e w) z u to rest w) (Out setting (start z c w) (for_truth e w) z w) (inner.truth e z.env w)
  pub address : (e : Expression) (z : Configuration) (c rest : List Stmt) (w : World) → IsAddress setting z.scene z.depth z.env e c rest → Ready setting z w
      → Ran setting (start z c w) (for_value e w) (HasAddress setting (start z c w) (for_value e w) z rest w) (Out setting (start z c w) (for_value e w) z w) (inner.target e z.env w)
  pub destination : (e : Expression) (z : Configuration) (c rest : List Stmt) (w : World) → IsStore setting z.scene z.depth z.env e c rest → Ready setting z w
      → Ran setting (start z c w) (for_value e w) (λ t w1. Destined setting (start z c w) (for_value e w) z rest w t w1) (Out setting (start z c w) (for_value e w) z w) (inner.target e z.env w)
  pub act : (x : Command) (mode : Mode) (z : Configuration) (at : Sought → List Stmt) (c rest e : List Stmt) (w : World) → IsAct setting z.scene z.depth z.env x at c rest → Entered mode z.env x at c e → Ready setting z w
      → RanDid setting (start z e w) (for_act x w) z rest w (inner.act x mode z.env w)
  pub rounds : (x : Command) (mode : Mode) (z : Configuration) (at : Sought → List Stmt) (body rest e : List Stmt) (w : World) → IsLoop setting z.scene z.depth z.env x at body rest → EnteredBody mode z.env x at body e → Ready setting z w
      → RanDid setting (start z e w) (for_rounds x w) z rest w (inner.rounds x mode z.env w)
  pub scope : (cs : Commands) (mode : Mode) (z : Configuration) (j : ℕ) (at : Sought → List Stmt) (c rest e : List Stmt) (w : World) → IsScopeAt setting z.scene z.depth z.env cs j at c rest → EnteredAny mode (labelled cs z.env) cs at c e → Ready setting z w
      → RanDid setting (start z e w) (for_scope cs w) z rest w (inner.scope cs mode z.env w)
  pub for_rounds : (place : ℕ) (x : Command) (o : ℕ) (u : Value) (k d : ℕ) (z : Configuration) (body rest : List Stmt) (w : World) → z.depth ≡ d + 2 → IsForLoop setting z.scene z.depth d k z.env x body rest → Limit setting z w d o u → Ready setting z w
      → RanDid setting (start z body w) (for_counts x w) z rest w (inner.for_rounds place x o u k z.env w)
