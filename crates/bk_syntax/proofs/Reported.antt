-- What is told of the symbols, and what is answered behind them all.
use Rattle.bk_syntax.proofs.Terms.{◌≡◌, ℕ, ◌+◌, ◌<◌, length, get_or, take, drop, List, [], ◌∷◌, ◌++◌, Result, Ok, Err, IfErr, refl, sym, ap, subst, ◌∙◌, inl, inr, append_assoc, map-append, take-append-drop, at_drop_more, Bor, SourceFault, PlacedFault, position, position_of, line_in, UnexpectedSymbol, WrongSectionTag, NestedTooDeeply, TooManyNodes, Refused, Fault, Memory, Device, Token, Symbol, symbol_of, symbols_of, ParserState, Frames, ParseError, Declarations, Within, depth_of_declarations, nodes_of_declarations, Completes, plain, reading, BeginsCompletes, CompletesBegins, IsSection, Begins, Shallow, Applies, State, run, stack_of, state, Always, AtMost, LevelsAtMost, Bounded, Passed, Down, at_most_down, levels_down, run_completes, complete, ParseError as w}
use Rattle.bk_base.specs.declared.limit.TheConstants.{TREE_DEPTH, TREE_NODES}
use Rattle.bk_base.specs.declared.source_fault.SourceKind.{SourceKind}
use Rattle.bk_tree.specs.declared.section.Section.{Section}
use Rattle.bk_grammar.specs.Grammar as G
use Rattle.bk_syntax.specs.Parsing.{tags, AfterSymbols, IsLimit, reported, answered, reached, IsPassed, Advances, AnswersAtEnd, PlacedAt, PlacedAtEnd, ParsesPlaced, Parses, Gives, without_place}
use Rattle.bk_tree.specs.Section.{declarations_of}
use Rattle.bk_tree.specs.Placed.{fault_on_line}
use Rattle.std.specs.Prelude.{IfOk, None}
use Rattle.bk_syntax.proofs.Applies.{one_tree, end_stands}
use Rattle.bk_syntax.proofs.Exact.{reads_the_grammar}
use Rattle.bk_syntax.proofs.Tags.{tag_stands}
use Rattle.bk_syntax.proofs.Following.{reads, plain_all, reading_all}
use Rattle.bk_syntax.proofs.Unfinished.{in_front_some, completes_begins_with, behind_begins}

-- what a section has behind the symbols with which it begins is read from there
rest_runs : (ts us : List Symbol) (opens : List (List ℕ)) (x : State) (ds : Declarations) → AfterSymbols ts opens x → IsSection ds (ts ++ us) → (rest : List Symbol) × (run rest x ≡ Ok ds)
rest_runs ts us opens x ds b is =
    let r = in_front_some b.plainly (plain us opens) is.plainly (sym (b.brackets us) ∙ is.brackets) in
    let whole : reading is.plainly ≡ Ok ds = complete ds is.plainly is.section in
    (r.0, sym (reads b r.0) ∙ ap reading (sym r.2) ∙ whole)

-- where a section with the property begins with the symbols, the state behind them can be completed to one
begins_completes_to : (P : ℕ → ℕ → Type 0) → Down P → (ts : List Symbol) (opens : List (List ℕ)) (x : State) → AfterSymbols ts opens x
    → Begins (λ ds. P (depth_of_declarations ds) (nodes_of_declarations ds)) ts → Completes P x
begins_completes_to P down ts opens x b w =
    let r = rest_runs ts w.0 opens x w.1 b w.2 in
    run_completes P down r.0 x w.1 r.1 w.3

-- behind the symbols a section goes on
pub behind_completes : (ts : List Symbol) (opens : List (List ℕ)) (x : State) → AfterSymbols ts opens x → Completes Always x
behind_completes ts opens x b = begins_completes_to Always (λ d e n m p q h. tt) ts opens x b (behind_begins ts opens x b)

pub begins_completes : BeginsCompletes
begins_completes ts opens x levels most b w = begins_completes_to (AtMost levels most) (at_most_down levels most) ts opens x b w

-- where the state behind them completes some bounds, a section within these begins with them
pub completes_begins : CompletesBegins
completes_begins ts opens x levels most b h = completes_begins_with (AtMost levels most) ts opens x b h

limit_stands : (kind : SourceKind) (u : List Symbol) (t : Symbol) (opens : List (List ℕ)) (x : State) → IsLimit kind → AfterSymbols (u ++ t ∷ []) opens x → Passed kind x → Applies kind u t
limit_stands NestedTooDeeply u t opens x h b over =
    let deep : Begins Shallow (u ++ t ∷ []) → ⊥ = λ w. over (begins_completes_to (LevelsAtMost TREE_DEPTH) (levels_down TREE_DEPTH) (u ++ t ∷ []) opens x b w) in
    (λ w. deep (w.0, w.1, w.2, w.3.0), (behind_begins (u ++ t ∷ []) opens x b, deep))
limit_stands TooManyNodes u t opens x h b over =
    let large : Begins Within (u ++ t ∷ []) → ⊥ = λ w. over.1 (begins_completes (u ++ t ∷ []) opens x TREE_DEPTH TREE_NODES b w) in
    (large, (completes_begins_with (LevelsAtMost TREE_DEPTH) (u ++ t ∷ []) opens x b over.0, large))
limit_stands _ u t opens x h b over = absurd h

-- a limit is told where it stands
limit_told : (error : ParseError) (new : Frames) (xs : List (Bor (List ℕ))) (u : List Symbol) (t : Symbol) (opens : List (List ℕ)) (x : State) → AfterSymbols (u ++ t ∷ []) opens x → IsPassed error x
    → Advances new xs (Err (reported error (position_of t))) u t
limit_told w.Memory new xs u t opens x b over = tt
limit_told w.NestedTooDeeply new xs u t opens x b over = (refl, limit_stands NestedTooDeeply u t opens x tt b over)
limit_told w.TooManyNodes new xs u t opens x b over = (refl, limit_stands TooManyNodes u t opens x tt b over)
limit_told w.Unexpected new xs u t opens x b over = absurd over
limit_told w.WrongSectionTag new xs u t opens x b over = absurd over

-- what is answered where the limits were looked at behind a symbol
pub limited : (r : Result Unit ParseError) (after : ParserState) (new : Frames) (xs : List (Bor (List ℕ))) (u : List Symbol) (t : Symbol) → AfterSymbols (u ++ t ∷ []) (tags xs) (state (stack_of new) after)
    → IfErr r (λ error. IsPassed error (state (stack_of new) after)) → Advances new xs (answered (reached r after) (position_of t)) u t
limited (Ok _) after new xs u t b over = b
limited (Err error) after new xs u t b over = limit_told error new xs u t (tags xs) (state (stack_of new) after) b over

-- a fault that is reported at one of the symbols, whose line its position has
pub reported_of : (r : Refused PlacedFault) (new : Frames) (xs : List (Bor (List ℕ))) (ts : List Token) (i : ℕ) (t : Token) (end : ℕ) (opens : List (List ℕ)) (x : State) → i < length ts → t ≡ get_or ts i t
    → line_in (position_of (symbol_of t)) ≡ t.line → AfterSymbols (symbols_of (take i ts)) opens x → Bounded x → Advances new xs (Err r) (symbols_of (take i ts)) (symbol_of t) → ParsesPlaced (Err r) (symbols_of ts) end
reported_of (Fault f) new xs ts i t end opens x lt at line b w h = inl (record {
  reported = record {
    before = symbols_of (take i ts);
    at = symbol_of t;
    more = symbols_of (drop (i + 1) ts);
    parts = ap symbols_of (sym (take-append-drop i ts)) ∙ map-append symbol_of (take i ts) (drop i ts)
        ∙ ap (λ (z : List Symbol). symbols_of (take i ts) ++ z) (at_drop_more symbols_of ts i t lt ∙ ap (λ z. symbol_of z ∷ symbols_of (drop (i + 1) ts)) (sym at));
    line = ap line_in h.0 ∙ line;
    first = (completes_begins (symbols_of (take i ts)) opens x TREE_DEPTH TREE_NODES b w, h.1);
  };
  position = h.0;
})
reported_of Memory new xs ts i t end opens x lt at line b w h = tt
reported_of Device new xs ts i t end opens x lt at line b w h = absurd h

-- what is answered after them all
pub ended : (r : Result Section (Refused PlacedFault)) (ts : List Symbol) (opens : List (List ℕ)) (x : State) (end : ℕ) → line_in (position end None) ≡ end → AfterSymbols ts opens x → Bounded x
    → AnswersAtEnd r (run [] x) (position end None) → ParsesPlaced r ts end
ended (Ok s) ts opens x end line b w h = record {
  plainly = b.plainly;
  brackets = plain_all ts opens x b;
  section = (reads_the_grammar (declarations_of s) b.plainly).1 (reading_all ts opens x b ∙ h);
}
ended (Err (Fault f)) ts opens x end line b w h = inr (record {
  reported = record {
    kind = h.1;
    line = ap line_in h.2 ∙ line;
    begins = completes_begins ts opens x TREE_DEPTH TREE_NODES b w;
    applies = λ ds is.
        let same : is.plainly ≡ b.plainly = let e = is.brackets in let g = plain_all ts opens x b in cc in
        let P : List Symbol → Type 0 = λ z. G.Section ds z in
        end_stands b.plainly [] (reading_all ts opens x b ∙ h.0) ds (subst P same is.section);
  };
  position = h.2;
})
ended (Err Memory) ts opens x end line b w h = tt
ended (Err Device) ts opens x end line b w h = absurd h

pub parses_unplaced : (r : Result Section (Refused PlacedFault)) (ts : List Symbol) (end : ℕ) → ParsesPlaced r ts end → Parses (without_place r) ts end
parses_unplaced (Ok s) ts end p = p
parses_unplaced (Err (Fault f)) ts end (inl a) = inl a.reported
parses_unplaced (Err (Fault f)) ts end (inr e) = inr e.reported
parses_unplaced (Err Memory) ts end p = tt
parses_unplaced (Err Device) ts end p = absurd p

pub section_within : (r : Result Section (Refused PlacedFault)) → IfOk r (λ x. Within (declarations_of x))
section_within (Ok x) = x.within
section_within (Err e) = tt

told_only : (kind : SourceKind) (u : List Symbol) (t : Symbol) (more : List Symbol) (ds : Declarations) → Applies kind u t → IsSection ds ((u ++ t ∷ []) ++ more) → IsLimit kind × (Within ds → ⊥)
told_only WrongSectionTag u t more ds h is = absurd (tag_stands (u ++ t ∷ []) more ds h.1 is)
told_only UnexpectedSymbol u t more ds h is = absurd (h.1.1 (more, ds, is, tt))
told_only NestedTooDeeply u t more ds h is = (tt, λ w. h.0 (more, ds, is, w))
told_only TooManyNodes u t more ds h is = (tt, λ w. h.0 (more, ds, is, w))
told_only _ u t more ds h is = absurd h.1

-- where the symbols are a section
pub gives_only : (r : Result Section (Refused SourceFault)) (ts : List Symbol) (end : ℕ) → Parses r ts end → (ds : Declarations) → IsSection ds ts → Gives r ds
gives_only (Ok s) ts end p ds is = one_tree (declarations_of s) ds ts p is
gives_only (Err (Fault f)) ts end p ds is = elim p [
  | inl a ↦
      let P : List Symbol → Type 0 = λ z. IsSection ds z in
      told_only f.kind a.before a.at a.more ds a.first.1 (subst P (a.parts ∙ sym (append_assoc a.before (a.at ∷ []) a.more)) is)
  | inr e ↦ absurd (e.applies ds is)
]
gives_only (Err Memory) ts end p ds is = tt
gives_only (Err Device) ts end p ds is = absurd p
