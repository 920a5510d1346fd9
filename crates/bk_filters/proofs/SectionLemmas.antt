-- The symbols of a section that are refused, for their syntax or their names.
use Rattle.bk_filters.proofs.Terms.{◌≡◌, ◌≢◌, inl, inr, ℕ, true, false, ◌==◌, length, arith, eqb-true, List, [], ◌∷◌, None, Some, Ok, Err, refl, sym, ap, ◌∙◌, SourceFault, Refused, Fault, Device, Symbol, symbols_of, section_of, lexed, Declarations, IsSection, declarations_of, Stmt, KitFault, Source, source_refused, Translates, HasCode, Refuses, RefusesSymbols, Refused as refusals, KitFault as k, faults, Breach}
use Rattle.bk_lex.specs.declared.scan.Lexed.{Lexed}
use Rattle.bk_lex.specs.declared.token.Token.{Token}
use Rattle.bk_tree.specs.declared.section.Section.{Section}
use Rattle.bk_tree.specs.Limits.{Within}
use Rattle.bk_syntax.specs.Parsing.{Parses, Gives}
use Rattle.bk_scope.specs.Points.{first_reported}
use Rattle.bk_scope.specs.FirstFault.{breach_of}
use Rattle.bk_tree.specs.declared.placed.PlacedFault.{PlacedFault}
use Rattle.bk_tree.specs.Placed.{fault_on_line}
use Rattle.bk_scope.specs.Resolution.{Resolves}

module _ (symbols : List Symbol) (end : ℕ) (fault : SourceFault) where
  -- they are no section within the limits
  pub no_section : Parses (Err (Fault fault)) symbols end → ((tree : Declarations) → IsSection tree symbols → Gives (Err (Fault fault)) tree) → RefusesSymbols (Source fault) symbols end
  no_section (inl at) only = (inl at, λ tree is. (only tree is.section).1 is.within)
  no_section (inr at_end) only = (inr (inl at_end), λ tree is. (only tree is.section).1 is.within)

  -- the section has a wrong name
  pub misnamed : (x : Section) → Parses (Ok x) symbols end → Within (declarations_of x) → ((tree : Declarations) → IsSection tree symbols → Gives (Ok x) tree)
      → (placed : PlacedFault) → first_reported (faults (declarations_of x)) ≡ Some (breach_of placed) → fault ≡ fault_on_line placed → RefusesSymbols (Source fault) symbols end
  misnamed x parses within only placed first line = (
    inr (inr record { tree = declarations_of x; section = parses; within = within; placed = placed; first = first; line = line }),
    λ tree is.
        let same = only tree is.section in
        let none = ap (λ (t : Declarations). first_reported (faults t)) same ∙ ap first_reported is.faultless in
        absurd (differ (sym first ∙ none)),
  )
    where
      differ : {b : Breach} → Some b ≡ None → ⊥
      differ is = cc

-- what `parse` and `resolve` refuse
pub parse_refuses : (symbols : List Symbol) (end : ℕ) (refused : Refused SourceFault) → Parses (Err refused) symbols end → ((tree : Declarations) → IsSection tree symbols → Gives (Err refused) tree)
    → RefusesSymbols (source_refused refused) symbols end
parse_refuses symbols end (Fault fault) parses only = no_section symbols end fault parses only
parse_refuses symbols end refusals.Memory parses only = tt
parse_refuses symbols end Device parses only = absurd parses

pub resolve_refuses : (symbols : List Symbol) (end : ℕ) (x : Section) (refused : Refused SourceFault) → Parses (Ok x) symbols end → Within (declarations_of x)
    → ((tree : Declarations) → IsSection tree symbols → Gives (Ok x) tree) → Resolves (Err refused) (declarations_of x) → RefusesSymbols (source_refused refused) symbols end
resolve_refuses symbols end x (Fault fault) parses within only resolves = misnamed symbols end fault x parses within only resolves.0 resolves.1 resolves.2
resolve_refuses symbols end x refusals.Memory parses within only resolves = tt
resolve_refuses symbols end x Device parses within only resolves = absurd resolves

-- the section that was cut into symbols is refused
pub section_refuses : (fault : KitFault) (text : List ℕ) (from : ℕ) (l : Lexed) → lexed text from ≡ Ok (section_of l) → symbols_of l.tokens.items ≢ [] → RefusesSymbols fault (symbols_of l.tokens.items) l.line → Refuses fault text from
section_refuses (Source fault) text from l is some refuses = inr (section_of l, is, some, refuses)
section_refuses k.Memory text from l is some refuses = tt
section_refuses x text from l is some refuses = absurd refuses

-- or it has this meaning
pub code_some : (symbols : List Symbol) (stmts : List Stmt) (tree : Declarations) → symbols ≢ [] → Translates symbols stmts tree → HasCode symbols (stmts ∷ []) (tree ∷ [])
code_some [] stmts tree some translates = absurd (some refl)
code_some (symbol ∷ symbols) stmts tree some translates = record {
  trees = translates.tree ∷ [];
  trees_are = ap (λ (t : Declarations). t ∷ []) translates.tree_is;
  means = (translates.tree, translates.is, refl);
  code = ap (λ (s : List Stmt). s ∷ []) translates.code;
}

pub code_none : (symbols : List Symbol) → symbols ≡ [] → HasCode symbols [] []
code_none [] none = record { trees = []; trees_are = refl; means = refl; code = refl }
code_none (symbol ∷ symbols) none = absurd cc

-- whether there are symbols
pub no_symbols : (tokens : List Token) → (length tokens == 0) ≡ true → symbols_of tokens ≡ []
no_symbols [] none = refl
no_symbols (token ∷ tokens) none = absurd (omega (arith, eqb-true (length (token ∷ tokens)) 0 none))

pub some_symbols : (tokens : List Token) → (length tokens == 0) ≡ false → symbols_of tokens ≢ []
some_symbols [] some is = absurd cc
some_symbols (token ∷ tokens) some is = cc
