-- Ways on: symbols that lead from a state of the machine to the end of a section, by the class of the first of them.
use Rattle.bk_syntax.proofs.Terms.{◌≡◌, ◌≤◌, ℕ, arith, false, cond, List, [], ◌∷◌, Option, Some, None, Ok, refl, subst, ap, ◌∙◌, Kind, Symbol, symbol, upper_name, Mention, Expression, Command, Declarations, Definition, Declaration, name, simple, depth, depth_of_command, depth_of_declarations, depth_of_definition, nodes, nodes_of_command, nodes_of_declarations, nodes_of_definition, begins_command, repeats, assigns, goes, one_more, up_to_tag, closed_by, in_front, plain, Stack, State, want, have, begin, did, opens, closes, declared, declared_by, defined_by, stepped_by, run, form_of, Lookahead, closing, assigning, listing, going, repeating, operating, Any, AtClosing, AtListing, AtArgument, AtAssignment, Gives, Does, Defines, Takes, stepped, alike, takes, one_tag, Tagged, Kind as k}
use Rattle.bk_tree.specs.declared.tree.Simple.TheVariants as w
use Rattle.bk_syntax.proofs.Following.{plain_end, plain_open, plain_other, plain_close}
use Rattle.bk_grammar.specs.Placed.{position_of}

-- ---- ways on

-- these symbols, which are plain where these sections are open, lead from the state to the end of a section with P
pub record Completion (P : ℕ → ℕ → Type 0) (os : List (List ℕ)) (x : State) : Type 0 where
  pub symbols : List Symbol
  pub brackets : plain symbols os ≡ Some symbols
  pub tree : Declarations
  pub runs : run symbols x ≡ Ok tree
  pub has : P (depth_of_declarations tree) (nodes_of_declarations tree)

-- a symbol of the class: any that nothing takes, and one for each of the others
abbrev pub IsOf : Lookahead → Kind → Type 0
IsOf closing t = (begins_command t ≡ false) × (goes 12 t ≡ false) × (repeats t ≡ false) × (assigns t ≡ false)
IsOf assigning t = t ≡ k.Assign
IsOf listing t = t ≡ k.Comma
IsOf going t = t ≡ k.Open
IsOf repeating t = t ≡ k.Repeat
IsOf operating t = t ≡ k.Percent

-- the first of the symbols is one; the end is a semicolon
abbrev pub FirstOf : Lookahead → List Symbol → Type 0
FirstOf c [] = IsOf c k.Semicolon
FirstOf c (t ∷ ts) = IsOf c t.kind

pub record CompletionBy (P : ℕ → ℕ → Type 0) (c : Lookahead) (os : List (List ℕ)) (x : State) : Type 0 where
  pub completion : Completion P os x
  pub first : FirstOf c completion.symbols

-- the same of what is as deep and as large
pub sized : (F : ℕ → ℕ → Type 0) (d e n m : ℕ) → d ≡ e → n ≡ m → F d n → F e m
sized F d e n m p q h = let G : ℕ → Type 0 = λ x. F x n in subst (F e) q (subst G p h)

-- ---- one symbol before the others

unfoldable pub step_on : {P : ℕ → ℕ → Type 0} (y : Kind) (os : List (List ℕ)) (x z : State) → opens y ≡ false → closes y ≡ false → stepped_by x 1 [] y ≡ Some z → Completion P os z → Completion P os x
step_on y os x z o c h e = let t : Symbol = symbol y 1 None [] in record {
  symbols = t ∷ e.symbols;
  brackets = plain_other t e.symbols os o c ∙ ap (in_front (t ∷ [])) e.brackets;
  tree = e.tree;
  runs = stepped x z t e.symbols h ∙ e.runs;
  has = e.has;
}

pub step_by : {P : ℕ → ℕ → Type 0} (n : Lookahead) (y : Kind) (os : List (List ℕ)) (x z : State) → IsOf n y → opens y ≡ false → closes y ≡ false → stepped_by x 1 [] y ≡ Some z → Completion P os z → CompletionBy P n os x
unfolding step_on
step_by n y os x z f o c h e = record { completion = step_on y os x z o c h e; first = f }

-- an opening without a tag
pub open_on : {P : ℕ → ℕ → Type 0} (os : List (List ℕ)) (x z : State) → stepped_by x 1 [] k.SectionOpen ≡ Some z → Completion P ([] ∷ os) z → Completion P os x
open_on os x z h e = let t : Symbol = symbol k.SectionOpen 1 None [] in record {
  symbols = t ∷ e.symbols;
  brackets = plain_open t e.symbols os refl ∙ ap (in_front (t ∷ [])) e.brackets;
  tree = e.tree;
  runs = stepped x z t e.symbols h ∙ e.runs;
  has = e.has;
}

pub closes_one : (t : Symbol) (tag : List ℕ) (os : List (List ℕ)) → closed_by t tag (tag ∷ os) ≡ Some (record { closings = t ∷ []; still = os })
closes_one t [] os = refl
closes_one t (x ∷ xs) os = ap (λ b. cond b (Some (record { closings = t ∷ []; still = os })) (one_more t (up_to_tag t (x ∷ xs) os))) (one_tag (x ∷ xs))

-- a closing with the innermost tag
pub shut_by : {P : ℕ → ℕ → Type 0} (tag : List ℕ) (os : List (List ℕ)) (x z : State) → Tagged tag → ((l : ℕ) (s : List ℕ) → stepped_by x l s k.SectionClose ≡ Some z) → Completion P os z → CompletionBy P closing (tag ∷ os) x
shut_by tag os x z has h e =
    let t : Symbol = symbol k.SectionClose 1 None (0 ∷ 0 ∷ has.0) in
    record {
      completion = record {
        symbols = t ∷ e.symbols;
        brackets = plain_close t e.symbols (tag ∷ os) (Some (record { closings = t ∷ []; still = os })) refl (ap (λ y. closed_by t y (tag ∷ os)) has.1 ∙ closes_one t tag os)
            ∙ ap (in_front (t ∷ [])) e.brackets;
        tree = e.tree;
        runs = stepped x z t e.symbols (h 1 (0 ∷ 0 ∷ has.0)) ∙ e.runs;
        has = e.has;
      };
      first = (refl, refl, refl, refl);
    }

-- the end
pub end_completion : {P : ℕ → ℕ → Type 0} (os : List (List ℕ)) (x : State) (ds : Declarations) → run [] x ≡ Ok ds → P (depth_of_declarations ds) (nodes_of_declarations ds) → Completion P os x
end_completion os x ds r h = record { symbols = []; brackets = plain_end os; tree = ds; runs = r; has = h }

takes_first : (c : Lookahead) (us : List Symbol) (x : State) (f : ℕ → List ℕ → Kind → Option State) → FirstOf c us → ((l : ℕ) (s : List ℕ) (t : Kind) → IsOf c t → stepped_by x l s t ≡ f l s t) → Takes us x f
takes_first c [] x f h g = g 1 [] k.Semicolon h
takes_first c (t ∷ us) x f h g = g (position_of t) t.text t.kind h

-- the state goes on as another one, wherever a symbol of the class comes
pub same_by : {P : ℕ → ℕ → Type 0} (c : Lookahead) (os : List (List ℕ)) (x y : State) → ((l : ℕ) (s : List ℕ) (t : Kind) → IsOf c t → stepped_by x l s t ≡ stepped_by y l s t) → CompletionBy P c os y → CompletionBy P c os x
same_by c os x y h e = record {
  completion = record {
    symbols = e.completion.symbols;
    brackets = e.completion.brackets;
    tree = e.completion.tree;
    runs = alike e.completion.symbols x y (stepped_by y) (takes_first c e.completion.symbols x (stepped_by y) e.first h) (takes e.completion.symbols y) ∙ e.completion.runs;
    has = e.completion.has;
  };
  first = e.first;
}

-- ---- the classes

-- the expression ends before it
abbrev pub Ends : Lookahead → Type 0
Ends going = ⊥
Ends operating = ⊥
Ends _ = Unit {0}

-- the command is not repeated by it
abbrev pub Leaves : Lookahead → Type 0
Leaves repeating = ⊥
Leaves _ = Unit {0}

pub ends_expression : (c : Lookahead) → Ends c → (t : Kind) → IsOf c t → goes 12 t ≡ false
ends_expression closing e t h = h.1
ends_expression going e t h = absurd e
ends_expression operating e t h = absurd e
ends_expression x e t h = rw h refl

pub leaves_command : (c : Lookahead) → Leaves c → (t : Kind) → IsOf c t → repeats t ≡ false
leaves_command closing e t h = h.2
leaves_command repeating e t h = absurd e
leaves_command x e t h = rw h refl

-- what only some symbols end

pub at_close : {P : ℕ → ℕ → Type 0} {X : Type 0} (os : List (List ℕ)) (x : State) (c : Lookahead) → AtClosing X c → (X → CompletionBy P closing os x) → CompletionBy P c os x
at_close os x closing h f = f h
at_close os x y h f = absurd h

pub at_comma : {P : ℕ → ℕ → Type 0} {X : Type 0} (os : List (List ℕ)) (x : State) (c : Lookahead) → AtListing X c → (X → CompletionBy P listing os x) → CompletionBy P c os x
at_comma os x listing h f = f h
at_comma os x y h f = absurd h

pub at_argument : {P : ℕ → ℕ → Type 0} {X Y : Type 0} (os : List (List ℕ)) (x : State) (c : Lookahead) → AtArgument X Y c → (X → CompletionBy P closing os x) → (Y → CompletionBy P listing os x) → CompletionBy P c os x
at_argument os x closing h f g = f h
at_argument os x listing h f g = g h
at_argument os x y h f g = absurd h

pub at_assignment : {P : ℕ → ℕ → Type 0} {X Y : Type 0} (os : List (List ℕ)) (x : State) (c : Lookahead) → AtAssignment X Y c → (X → CompletionBy P assigning os x) → (Y → CompletionBy P listing os x) → CompletionBy P c os x
at_assignment os x assigning h f g = f h
at_assignment os x listing h f g = g h
at_assignment os x y h f g = absurd h

-- ---- what stands below

-- an expression, a command, a definition or a declaration that is complete on this stack goes on
abbrev pub GivesOn : (ℕ → ℕ → Type 0) → List (List ℕ) → Stack → Type 0
GivesOn P os st = (e : Expression) (c : Lookahead) → Gives P st (form_of e) (depth e) (nodes e) c → CompletionBy P c os (have st e)

abbrev pub DoesOn : (ℕ → ℕ → Type 0) → List (List ℕ) → Stack → Type 0
DoesOn P os st = (a : Command) (c : Lookahead) → Does P st (depth_of_command a) (nodes_of_command a) c → CompletionBy P c os (did st a)

-- a definition ends with a semicolon
pub record DefinedCompletion (P : ℕ → ℕ → Type 0) (os : List (List ℕ)) (st : Stack) (d : Definition) : Type 0 where
  pub next : State
  pub takes : defined_by st d 1 [] k.Semicolon ≡ Some next
  pub completion : Completion P os next

abbrev pub DefinesOn : (ℕ → ℕ → Type 0) → List (List ℕ) → Stack → Type 0
DefinesOn P os st = (d : Definition) → Defines P st (depth_of_definition d) (nodes_of_definition d) → DefinedCompletion P os st d

-- a declaration ends with its bracket, or with a semicolon
pub record DeclaredCompletion (P : ℕ → ℕ → Type 0) (os : List (List ℕ)) (st : Stack) (d : Declaration) : Type 0 where
  pub next : State
  pub takes : declared st d ≡ Some next
  pub completion : Completion P os next
  pub following : State
  pub goes : declared_by st d 1 [] k.Semicolon ≡ Some following
  pub rest : Completion P os following

pub given : {P : ℕ → ℕ → Type 0} (os : List (List ℕ)) (st : Stack) (e : Expression) (d n : ℕ) → GivesOn P os st → d ≡ depth e → n ≡ nodes e → Any (Gives P st (form_of e) d n) → Completion P os (have st e)
given {P = P} os st e d n g p q h = (g e h.0 (sized (λ x y. Gives P st (form_of e) x y h.0) d (depth e) n (nodes e) p q h.1)).completion

pub done : {P : ℕ → ℕ → Type 0} (os : List (List ℕ)) (st : Stack) (a : Command) (d n : ℕ) → DoesOn P os st → d ≡ depth_of_command a → n ≡ nodes_of_command a → Any (Does P st d n) → Completion P os (did st a)
done {P = P} os st a d n g p q h = (g a h.0 (sized (λ x y. Does P st x y h.0) d (depth_of_command a) n (nodes_of_command a) p q h.1)).completion

-- ---- the least parts

abbrev pub name_here : Expression
name_here = name 1 (upper_name [])

abbrev pub mention_here : Mention
mention_here = record { at = 1; letters = upper_name [] }

abbrev pub break_here : Command
break_here = simple 1 w.Break

pub name_on : {P : ℕ → ℕ → Type 0} (os : List (List ℕ)) (st : Stack) → Completion P os (have st name_here) → Completion P os (want st)
name_on os st e = step_on k.Name os (want st) (have st name_here) refl refl refl e

pub break_on : {P : ℕ → ℕ → Type 0} (os : List (List ℕ)) (st : Stack) → Completion P os (did st break_here) → Completion P os (begin st)
break_on os st e = step_on k.Break os (begin st) (did st break_here) refl refl refl e

pub depth_some : (e : Expression) → 1 ≤ depth e
depth_some (name l x) = omega arith
depth_some _ = omega arith
