-- Trees of the grammar are regular: their numbers are words, an assignment and a LET have as many values as names, and a section's own
-- LETs have no variables.
use Rattle.bk_filters.proofs.Terms.{◌≡◌, ℕ, inl, inr, Bool, true, false, List, [], ◌∷◌, Some, None, cond, refl, subst, ◌∙◌, arith, Symbol, Mention, Expression, Expressions, Command, Commands, Declaration, Declarations, Items, Definition, Definitions, Starts, inner, left, following, is_relation, start_count, IsSection, starts, Regular, RegularEach, RegularCommand, RegularCommands, RegularItems, RegularDeclaration, RegularDeclarations, RegularDefinition, RegularDefinitions, RegularStarts, DefineNoVariables, DeclareNoVariables, IsRegular}
use Rattle.bk_tree.specs.declared.tree.Operator.TheVariants as o
use Rattle.bk_tree.specs.Tree as t
use Rattle.bk_grammar.specs.Placed.{position_of}
use Rattle.bk_grammar.specs.Grammar.{Names, Formals, Semis, last, Reads, Each, Does, Body, Parted, Heads, Declares, Listed, Defined, Defines, Started}
use Rattle.bk_filters.proofs.SmallSymbols.{AreSmall, leaf_small, plain_small}

-- ---- symbols that are left

semis_left : (ts us : List Symbol) → AreSmall ts → Semis ts us → AreSmall us
semis_left [] us h j = subst AreSmall j h
semis_left (s ∷ ts) us h (inl e) = subst AreSmall e h
semis_left (s ∷ ts) us h (inr j) = semis_left ts us h.1 j.1

names_left : (xs : List Mention) (ts us : List Symbol) → AreSmall ts → Names xs ts us → AreSmall us
names_left [] ts us h j = absurd j
names_left (x ∷ []) ts us h j = (subst AreSmall j.1 h).1
names_left (x ∷ (y ∷ xs)) ts us h j = names_left (y ∷ xs) j.2 us (subst AreSmall j.3 h).1.1 j.6

formals_left : (xs : List Mention) (ts us : List Symbol) → AreSmall ts → Formals xs ts us → AreSmall us
formals_left [] ts us h j = (subst AreSmall j.1 h).1
formals_left (x ∷ xs) ts us h j = (names_left (x ∷ xs) ts (j.0 ∷ us) h j.2).1

-- ---- values and names

-- the operand that a further relation shares
last_regular : (x b : Expression) → Regular x → last x ≡ Some b → Regular b
last_regular (t.binary l o.Both s a (t.binary m f n c d)) b r e = chained (is_relation f) e
  where
    chained : (q : Bool) → cond q (Some d) None ≡ Some b → Regular b
    chained true e = subst Regular (let same : d ≡ b = cc in same) r.1.1
    chained false e = absurd cc
last_regular (t.binary l f s a d) b r e = shared (is_relation f) e
  where
    shared : (q : Bool) → cond q (Some d) None ≡ Some b → Regular b
    shared true e = subst Regular (let same : d ≡ b = cc in same) r.1
    shared false e = absurd cc
last_regular x b r e = absurd cc

starts_counted : (is : Starts) → start_count is ≡ starts is
starts_counted t.no_starts = refl
starts_counted (t.value e is) = let h = starts_counted is in omega (arith, h)
starts_counted (t.vector l e is) = let h = starts_counted is in omega (arith, h)

-- ---- each form, and what is left behind it

mutual
  reads : (rows : ℕ) (e : Expression) (ts us : List Symbol) → AreSmall ts → Reads rows e ts us → Regular e × AreSmall us
  reads rows (t.name l x) ts us h j = (tt, (subst AreSmall j.1 h).1)
  reads rows (t.number l n) ts us h j = let i = subst AreSmall j.1 h in (leaf_small j.0.kind (position_of j.0) j.0.text l n i.0 j.2, i.1)
  reads rows (t.text l x) ts us h j = (tt, (subst AreSmall j.1 h).1)
  reads rows (t.truth l x) ts us h j = (tt, (subst AreSmall j.1 h).1)
  reads rows (t.query l) ts us h j = (tt, (subst AreSmall j.1 h).1)
  reads rows (t.parens l e) ts us h j = let r = reads 12 e j.1 (j.2 ∷ us) (subst AreSmall j.3 h).1 j.7 in (r.0, r.1.1)
  reads rows (t.unary l f e) ts us h j = reads (following f) e j.2 us (subst AreSmall j.3 h).1 j.6
  reads rows (t.binary l o.Both s x (t.binary m f n b c)) ts us h (inl j) =
      let r = reads 9 x ts (j.1 ∷ j.2) h j.6 in let q = reads 8 (t.binary m f n b c) j.2 us r.1.1 j.7 in
      ((r.0, q.0), q.1)
  reads rows (t.binary l o.Both s x (t.binary m f n b c)) ts us h (inr j) =
      let r = reads 6 x ts (j.1 ∷ j.2) h j.10 in let q = reads 5 c j.2 us r.1.1 j.11 in
      ((r.0, (last_regular x b r.0 j.9, q.0)), q.1)
  reads rows (t.binary l f s a b) ts us h j =
      let r = reads (left f) a ts (j.1 ∷ j.2) h j.6 in let q = reads (inner f) b j.2 us r.1.1 j.7 in
      ((r.0, q.0), q.1)
  reads rows (t.choice l s c a b) ts us h j =
      let r = reads 11 c ts (j.1 ∷ j.2) h j.9 in let q = reads 12 a j.2 (j.3 ∷ j.4) r.1.1 j.10 in let p = reads 12 b j.4 us q.1.1 j.11 in
      ((r.0, q.0, p.0), p.1)
  reads rows (t.apply l s f t.none) ts us h j = let r = reads 0 f ts (j.0 ∷ j.1 ∷ us) h j.6 in ((r.0, tt), r.1.1.1)
  reads rows (t.apply l s f (t.more e es)) ts us h j =
      let r = reads 0 f ts (j.0 ∷ j.1) h j.7 in let q = each (t.more e es) j.1 (j.2 ∷ us) r.1.1 j.8 in
      ((r.0, q.0), q.1.1)
  reads rows (t.valof l c) ts us h j = does c j.1 us (subst AreSmall j.2 h).1 j.5
  reads rows (t.table l es) ts us h j = each es j.1 us (subst AreSmall j.2 h).1 j.5

  each : (es : Expressions) (ts us : List Symbol) → AreSmall ts → Each es ts us → RegularEach es × AreSmall us
  each t.none ts us h j = absurd j
  each (t.more e t.none) ts us h j = let r = reads 12 e ts us h j.0 in ((r.0, tt), r.1)
  each (t.more e (t.more f es)) ts us h j =
      let r = reads 12 e ts (j.0 ∷ j.1) h j.3 in let q = each (t.more f es) j.1 us r.1.1 j.4 in
      ((r.0, q.0), q.1)

  does : (c : Command) (ts us : List Symbol) → AreSmall ts → Does c ts us → RegularCommand c × AreSmall us
  does t.empty ts us h j = (tt, subst AreSmall j.0 h)
  does (t.assign l xs es) ts us h j =
      let r = each xs ts (j.0 ∷ j.1) h j.5 in let q = each es j.1 us r.1.1 j.6 in
      ((j.3, r.0, q.0), q.1)
  does (t.call l f t.none) ts us h j = let r = reads 0 f ts (j.0 ∷ j.1 ∷ us) h j.5 in ((r.0, tt), r.1.1.1)
  does (t.call l f (t.more e es)) ts us h j =
      let r = reads 0 f ts (j.0 ∷ j.1) h j.6 in let q = each (t.more e es) j.1 (j.2 ∷ us) r.1.1 j.7 in
      ((r.0, q.0), q.1.1)
  does (t.goto l x) ts us h j = (tt, (subst AreSmall j.2 h).1.1)
  does (t.label l x c) ts us h j = does c j.2 us (subst AreSmall j.3 h).1.1 j.6
  does (t.case_of l e c) ts us h j =
      let r = reads 12 e j.1 (j.2 ∷ j.3) (subst AreSmall j.4 h).1 j.7 in let q = does c j.3 us r.1.1 j.9 in
      ((r.0, q.0), q.1)
  does (t.default l c) ts us h j = does c j.2 us (subst AreSmall j.3 h).1.1 j.7
  does (t.when l x e c) ts us h j =
      let r = reads 12 e j.1 (j.2 ∷ j.3) (subst AreSmall j.4 h).1 j.7 in let q = does c j.3 us r.1.1 j.9 in
      ((r.0, q.0), q.1)
  does (t.test l e a b) ts us h j =
      let r = reads 12 e j.1 (j.2 ∷ j.3) (subst AreSmall j.6 h).1 j.9 in let q = does a j.3 (j.4 ∷ j.5) r.1.1 j.11 in let p = does b j.5 us q.1.1 j.14 in
      ((r.0, q.0, p.0), p.1)
  does (t.while l x e c) ts us h j =
      let r = reads 12 e j.1 (j.2 ∷ j.3) (subst AreSmall j.4 h).1 j.7 in let q = does c j.3 us r.1.1 j.9 in
      ((r.0, q.0), q.1)
  does (t.for_loop l x a b t.none c) ts us h j =
      let r = reads 12 a j.3 (j.4 ∷ j.5) (subst AreSmall j.8 h).1.1.1 j.13 in let q = reads 12 b j.5 (j.6 ∷ j.7) r.1.1 j.15 in let p = does c j.7 us q.1.1 j.17 in
      ((r.0, q.0, tt, p.0), p.1)
  does (t.for_loop l x a b (t.more e t.none) c) ts us h j =
      let r = reads 12 a j.3 (j.4 ∷ j.5) (subst AreSmall j.10 h).1.1.1 j.15 in let q = reads 12 b j.5 (j.6 ∷ j.7) r.1.1 j.17 in
      let p = reads 12 e j.7 (j.8 ∷ j.9) q.1.1 j.19 in let o = does c j.9 us p.1.1 j.21 in
      ((r.0, q.0, (p.0, tt), o.0), o.1)
  does (t.for_loop l x a b (t.more e (t.more f es)) c) ts us h j = absurd j
  does (t.switch l e c) ts us h j =
      let r = reads 12 e j.1 (j.2 ∷ j.3) (subst AreSmall j.4 h).1 j.7 in let q = does c j.3 us r.1.1 j.9 in
      ((r.0, q.0), q.1)
  does (t.result l e) ts us h j = reads 12 e j.1 us (subst AreSmall j.2 h).1 j.5
  does (t.simple l w) ts us h j = (tt, (subst AreSmall j.1 h).1)
  does (t.block l t.no_declarations cs) ts us h j = let r = body cs j.1 (j.2 ∷ us) (subst AreSmall j.3 h).1 j.7 in ((tt, r.0), r.1.1)
  does (t.block l (t.declare d ds) cs) ts us h j =
      let r = heads true (t.declare d ds) j.1 j.2 (subst AreSmall j.4 h).1 j.8 in let q = parted cs j.2 (j.3 ∷ us) r.1 j.9 in
      ((r.0, q.0), q.1.1)
  does (t.repeat l c) ts us h j = let r = does c ts (j.0 ∷ us) h j.4 in (r.0, r.1.1)
  does (t.repeat_while l x c e) ts us h j =
      let r = does c ts (j.0 ∷ j.1) h j.5 in let q = reads 12 e j.1 us r.1.1 j.6 in
      ((r.0, q.0), q.1)

  body : (cs : Commands) (ts us : List Symbol) → AreSmall ts → Body cs ts us → RegularCommands cs × AreSmall us
  body t.no_commands ts us h j = (tt, semis_left ts us h j)
  body (t.also c cs) ts us h j =
      let r = does c j.0 j.1 (semis_left ts j.0 h j.2) j.3 in let q = parted cs j.1 us r.1 j.5 in
      ((r.0, q.0), q.1)

  parted : (cs : Commands) (ts us : List Symbol) → AreSmall ts → Parted cs ts us → RegularCommands cs × AreSmall us
  parted t.no_commands ts us h j = (tt, semis_left ts us h j)
  parted (t.also c cs) ts us h j =
      let r = does c j.2 j.3 (semis_left j.1 j.2 (subst AreSmall j.4 h).1 j.6) j.7 in let q = parted cs j.3 us r.1 j.9 in
      ((r.0, q.0), q.1)

  heads : (inside : Bool) (ds : Declarations) (ts us : List Symbol) → AreSmall ts → Heads inside ds ts us → RegularDeclarations ds × AreSmall us
  heads inside t.no_declarations ts us h j = (tt, subst AreSmall j h)
  heads inside (t.declare d ds) ts us h j =
      let r = declares inside d j.0 j.1 (semis_left ts j.0 h j.2) j.3 in let q = heads inside ds j.1 us r.1 j.4 in
      ((r.0, q.0), q.1)

  declares : (inside : Bool) (d : Declaration) (ts us : List Symbol) → AreSmall ts → Declares inside d ts us → RegularDeclaration d × AreSmall us
  declares inside (t.constants l s is) ts us h j = let r = listed is j.2 (j.3 ∷ us) (subst AreSmall j.4 h).1.1 j.9 in (r.0, r.1.1)
  declares inside (t.definitions l ds) ts us h j = defined inside ds j.1 us (subst AreSmall j.2 h).1 j.5

  listed : (is : Items) (ts us : List Symbol) → AreSmall ts → Listed is ts us → RegularItems is × AreSmall us
  listed t.no_items ts us h j = absurd j
  listed (t.item l x e t.no_items) ts us h j = let r = reads 12 e j.2 j.3 (subst AreSmall j.4 h).1.1 j.7 in ((r.0, tt), semis_left j.3 us r.1 j.9)
  listed (t.item l x e (t.item m y f is)) ts us h j =
      let r = reads 12 e j.2 (j.3 ∷ j.4) (subst AreSmall j.6 h).1.1 j.9 in let q = listed (t.item m y f is) j.5 us (semis_left j.4 j.5 r.1.1 j.11) j.12 in
      ((r.0, q.0), q.1)

  defined : (inside : Bool) (ds : Definitions) (ts us : List Symbol) → AreSmall ts → Defined inside ds ts us → RegularDefinitions ds × AreSmall us
  defined inside t.no_definitions ts us h j = absurd j
  defined inside (t.define d t.no_definitions) ts us h j = let r = defines inside d ts us h j.0 in ((r.0, tt), r.1)
  defined inside (t.define d (t.define e ds)) ts us h j =
      let r = defines inside d ts (j.0 ∷ j.1) h j.3 in let q = defined inside (t.define e ds) j.1 us r.1.1 j.4 in
      ((r.0, q.0), q.1)

  defines : (inside : Bool) (d : Definition) (ts us : List Symbol) → AreSmall ts → Defines inside d ts us → RegularDefinition d × AreSmall us
  defines inside (t.routine l x fs c) ts us h j = does c j.4 us (formals_left fs j.2 (j.3 ∷ j.4) (subst AreSmall j.5 h).1.1 j.8).1 j.10
  defines inside (t.function l x fs e) ts us h j = reads 12 e j.4 us (formals_left fs j.2 (j.3 ∷ j.4) (subst AreSmall j.5 h).1.1 j.8).1 j.10
  defines inside (t.variables l xs is) ts us h j =
      let r = started is j.2 us (names_left xs ts (j.1 ∷ j.2) h j.6).1 j.7 in
      ((j.5 ∙ starts_counted is, r.0), r.1)

  started : (is : Starts) (ts us : List Symbol) → AreSmall ts → Started is ts us → RegularStarts is × AreSmall us
  started t.no_starts ts us h j = absurd j
  started (t.value e t.no_starts) ts us h j = let r = reads 12 e ts us h j.0 in ((r.0, tt), r.1)
  started (t.value e (t.value f is)) ts us h j =
      let r = reads 12 e ts (j.0 ∷ j.1) h j.3 in let q = started (t.value f is) j.1 us r.1.1 j.4 in
      ((r.0, q.0), q.1)
  started (t.value e (t.vector m f is)) ts us h j =
      let r = reads 12 e ts (j.0 ∷ j.1) h j.3 in let q = started (t.vector m f is) j.1 us r.1.1 j.4 in
      ((r.0, q.0), q.1)
  started (t.vector l e t.no_starts) ts us h j = let r = reads 12 e j.1 us (subst AreSmall j.2 h).1 j.5 in ((r.0, tt), r.1)
  started (t.vector l e (t.value f is)) ts us h j =
      let r = reads 12 e j.1 (j.2 ∷ j.3) (subst AreSmall j.4 h).1 j.8 in let q = started (t.value f is) j.3 us r.1.1 j.9 in
      ((r.0, q.0), q.1)
  started (t.vector l e (t.vector m f is)) ts us h j =
      let r = reads 12 e j.1 (j.2 ∷ j.3) (subst AreSmall j.4 h).1 j.8 in let q = started (t.vector m f is) j.3 us r.1.1 j.9 in
      ((r.0, q.0), q.1)

-- ---- a section has no variables of its own

no_variables : (ds : Definitions) (ts us : List Symbol) → Defined false ds ts us → DefineNoVariables ds
no_variables t.no_definitions ts us j = absurd j
no_variables (t.define (t.routine l x fs c) t.no_definitions) ts us j = tt
no_variables (t.define (t.routine l x fs c) (t.define e ds)) ts us j = no_variables (t.define e ds) j.1 us j.4
no_variables (t.define (t.function l x fs b) t.no_definitions) ts us j = tt
no_variables (t.define (t.function l x fs b) (t.define e ds)) ts us j = no_variables (t.define e ds) j.1 us j.4
no_variables (t.define (t.variables l xs is) t.no_definitions) ts us j = let inside = j.0.0 in absurd cc
no_variables (t.define (t.variables l xs is) (t.define e ds)) ts us j = let inside = j.3.0 in absurd cc

without_variables : (ds : Declarations) (ts us : List Symbol) → Heads false ds ts us → DeclareNoVariables ds
without_variables t.no_declarations ts us j = tt
without_variables (t.declare (t.constants l s is) ds) ts us j = without_variables ds j.1 us j.4
without_variables (t.declare (t.definitions l es) ds) ts us j = (no_variables es j.3.1 j.1 j.3.5, without_variables ds j.1 us j.4)

pub tree_regular : (tree : Declarations) (symbols : List Symbol) → AreSmall symbols → IsSection tree symbols → IsRegular tree
tree_regular tree symbols h is = (
  (heads false tree is.plainly is.section.0 (plain_small symbols [] is.plainly h is.brackets) is.section.1).0,
  without_variables tree is.plainly is.section.0 is.section.1,
)
