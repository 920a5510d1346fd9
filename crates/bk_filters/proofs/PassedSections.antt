-- Accepted sections, one after another, that were read of a source.
use Rattle.bk_filters.proofs.Terms.{◌≡◌, ◌≢◌, inl, inr, ℕ, zero, suc, ◌≤◌, ◌<◌, ◌++◌, Bool, true, false, List, [], ◌∷◌, Option, None, Some, Ok, Err, length, if◌then◌else◌, arith, refl, sym, ap, subst, ◌∙◌, append_assoc, append-nil, length-append, map-append, Consumes, Consumes-nothing, Consumes-trans, INPUT_BYTES, SourceFault, State, start, state_after, NotEnded, Settled, Symbol, Section, lexed, means_as, lexed_has_fault, lexed_told, lexed_is_section, section_is_lexed, AreBytes, Stmt, section_whole, Declarations, Source, CompiledSection, SectionCode, Settles, IsDelivered, codes_in, Compiled, Refuses, AreAllTyped, Accepts, Delivered}
use Rattle.bk_filters.specs.Sources as sources
use Rattle.bk_filters.specs.Sources.{Accepted, Refused, WholeSection, bytes_of, trees_of, codes_of, codes_of_trees, stmts_of_tree, line_following, AreAccepted}
use Rattle.bk_filters.proofs.ReadingLemmas.{whole_used, used_some}

-- ---- lists of sections

bytes_push : (sections : List WholeSection) (last : WholeSection) → bytes_of (sections ++ last ∷ []) ≡ bytes_of sections ++ last.bytes
bytes_push [] last = append-nil last.bytes
bytes_push (first ∷ sections) last =
    ap (λ (l : List ℕ). first.bytes ++ l) (bytes_push sections last) ∙ sym (append_assoc first.bytes (bytes_of sections) last.bytes)

trees_push : (sections : List WholeSection) (last : WholeSection) → trees_of (sections ++ last ∷ []) ≡ trees_of sections ++ last.trees
trees_push [] last = append-nil last.trees
trees_push (first ∷ sections) last =
    ap (λ (l : List Declarations). first.trees ++ l) (trees_push sections last) ∙ sym (append_assoc first.trees (trees_of sections) last.trees)

codes_push : (sections : List WholeSection) (last : WholeSection) → codes_of (sections ++ last ∷ []) ≡ codes_of sections ++ codes_of_trees last.trees
codes_push sections last = ap codes_of_trees (trees_push sections last) ∙ map-append stmts_of_tree (trees_of sections) last.trees

line_push : (line : ℕ) (sections : List WholeSection) (last : WholeSection) → line_following line (sections ++ last ∷ []) ≡ last.tokens.line
line_push line [] last = refl
line_push line (first ∷ sections) last = line_push first.tokens.line sections last

accepted_push : (line : ℕ) (sections : List WholeSection) (last : WholeSection) (rest : List ℕ) → AreAccepted line sections (last.bytes ++ rest)
    → Accepted (last.bytes ++ rest) (line_following line sections) last.tokens last.trees → last.tokens.ended ≡ true → last.tokens.used ≡ length last.bytes
    → AreAccepted line (sections ++ last ∷ []) rest
accepted_push line [] last rest are here ended used = (here, ended, used, tt)
accepted_push line (first ∷ sections) last rest are here ended used = (
  subst (λ (l : List ℕ). Accepted (first.bytes ++ l) line first.tokens first.trees)
      (sym (append_assoc (bytes_of sections) last.bytes rest) ∙ ap (λ (l : List ℕ). l ++ rest) (sym (bytes_push sections last))) are.0,
  are.1,
  are.2,
  accepted_push first.tokens.line sections last rest are.3 here ended used,
)

-- ---- what is read of a section stands whatever follows

dot_settles : (text : List ℕ) (line : ℕ) (tokens : Section) → lexed text line ≡ Ok tokens → tokens.ended ≡ true → Settled text
dot_settles text line tokens is ended = by_cut (state_after (Some start) text) refl
  where
    by_cut : (o : Option State) → state_after (Some start) text ≡ o → Settled text
    by_cut None at = means_as None text at
    by_cut (Some s) at =
        let not_ended : NotEnded (lexed text line) = (means_as (Some s) text at).1 line in
        let no : tokens.ended ≡ false = rw is at not_ended in
        absurd (let both = sym no ∙ ended in cc)

pub accepted_as : (text : List ℕ) (line : ℕ) (tokens : Section) (trees : List Declarations) → lexed text line ≡ Ok tokens → sources.Means tokens.symbols trees → Accepted text line tokens trees
accepted_as text line tokens trees is means = record { tokens = lexed_is_section text line tokens is; means = means }

pub takes_as : (text : List ℕ) (line : ℕ) (ended : Bool) (c : CompiledSection) (compiled : Compiled c text line) → Settles text ended → Accepts text line ended compiled.tokens compiled.has.trees
takes_as text line ended c compiled settles rest follows = accepted_as (text ++ rest) line compiled.tokens compiled.has.trees (settles line rest follows ∙ compiled.lexed_as) compiled.has.means

-- two answers on one text
not_both : (text : List ℕ) (line : ℕ) (tokens : Section) (fault : SourceFault) → lexed text line ≡ Ok tokens → lexed text line ≡ Err fault → ⊥
not_both text line tokens fault is other = let both = sym is ∙ other in cc

same_tokens : (text : List ℕ) (line : ℕ) (s t : Section) → lexed text line ≡ Ok s → lexed text line ≡ Ok t → s ≡ t
same_tokens text line s t is other = let both = sym is ∙ other in cc

-- symbols that are accepted have a tree, where there are any
tree_there : (symbols : List Symbol) (trees : List Declarations) → symbols ≢ [] → sources.Means symbols trees → (tree : Declarations) × sources.IsTree tree symbols
tree_there [] trees some means = absurd (some refl)
tree_there (symbol ∷ symbols) trees some means = (means.0, means.1)

pub refused_as : (text : List ℕ) (line : ℕ) (fault : SourceFault) → Refuses (Source fault) text line → Refused fault text line
refused_as text line fault (inl is) = record {
  applies = inl (lexed_has_fault text line fault is, lexed_told text line fault is);
  not_accepted = λ tokens trees accepted. not_both text line tokens fault (section_is_lexed text line tokens accepted.tokens) is;
}
refused_as text line fault (inr refused) = record {
  applies = inr (refused.0, lexed_is_section text line refused.0 refused.1, refused.3.0);
  not_accepted = λ tokens trees accepted.
      let same = same_tokens text line tokens refused.0 (section_is_lexed text line tokens accepted.tokens) refused.1 in
      let tree = tree_there refused.0.symbols trees refused.2 (subst (λ (t : Section). sources.Means t.symbols trees) same accepted.means) in
      refused.3.1 tree.0 tree.1;
}

pub refuses_behind : (text rest : List ℕ) (line : ℕ) (fault : SourceFault) → lexed (text ++ rest) line ≡ lexed text line → Refuses (Source fault) text line → Refuses (Source fault) (text ++ rest) line
refuses_behind text rest line fault same (inl is) = inl (same ∙ is)
refuses_behind text rest line fault same (inr refused) = inr (refused.0, same ∙ refused.1, refused.2, refused.3)

-- the end of a section, by the line of the next
pub not_ended : (tokens : Section) → None ≡ (if tokens.ended then Some tokens.line else None) → tokens.ended ≡ false
not_ended tokens is = by_end tokens.ended refl
  where
    by_end : (b : Bool) → tokens.ended ≡ b → tokens.ended ≡ false
    by_end false e = e
    by_end true e = let some = rw e at is in absurd cc

pub is_ended : (tokens : Section) (next : ℕ) → Some next ≡ (if tokens.ended then Some tokens.line else None) → (tokens.ended ≡ true) × (next ≡ tokens.line)
is_ended tokens next is = by_end tokens.ended refl
  where
    by_end : (b : Bool) → tokens.ended ≡ b → (tokens.ended ≡ true) × (next ≡ tokens.line)
    by_end true e = (e, (let some = rw e at is in cc))
    by_end false e = let none = rw e at is in absurd cc

-- ---- bytes

pub bytes_both : (first second : List ℕ) → AreBytes first → AreBytes second → AreBytes (first ++ second)
bytes_both [] second are also k byte is = also k byte is
bytes_both (b ∷ first) second are also zero byte is = are 0 byte is
bytes_both (b ∷ first) second are also (suc k) byte is = bytes_both first second (λ j other there. are (suc j) other there) also k byte is

-- ---- the statements of sections

pub typed_both : (first second : List (List Stmt)) → AreAllTyped first → AreAllTyped second → AreAllTyped (first ++ second)
typed_both [] second are also = also
typed_both (stmts ∷ first) second are also = (are.0, typed_both first second are.1 also)

pub typed_in : (code : Option SectionCode) → AreAllTyped (codes_in code)
typed_in None = tt
typed_in (Some section) = ((section_whole section.code).1, tt)

-- ---- the sections so far

-- Accepted sections were delivered, each with its `.`: of so many bytes, and the next begins on this line.
pub record Passed (old now : Option (List ℕ)) (taken line : ℕ) : Type 0 where
  pub sections : List WholeSection
  pub delivered : Consumes old now (bytes_of sections)
  pub accepted : (rest : List ℕ) → AreAccepted 1 sections rest
  pub bytes : AreBytes (bytes_of sections)
  pub typed : AreAllTyped (codes_of sections)
  pub counted : taken ≡ length (bytes_of sections)
  pub at : line ≡ line_following 1 sections

abbrev pub passed_none : (known : Option (List ℕ)) → Passed known known 0 1
passed_none known = record {
  sections = [];
  delivered = Consumes-nothing known;
  accepted = λ rest. tt;
  bytes = λ k byte is. absurd (let h : None ≡ Some byte = is in cc);
  typed = tt;
  counted = refl;
  at = refl;
}

module _ (old now new : Option (List ℕ)) (taken taken' line : ℕ) (passed : Passed old now taken line) (text : List ℕ) (here : IsDelivered text now new taken taken') where
  abbrev pub all_delivered : Consumes old new (bytes_of passed.sections ++ text)
  all_delivered = Consumes-trans old now new (bytes_of passed.sections) text passed.delivered here.delivered

  pub all_counted : taken' ≡ length (bytes_of passed.sections ++ text)
  all_counted = omega (arith, here.counted, passed.counted, length-append (bytes_of passed.sections) text)

  -- they, and the bytes of the next
  abbrev pub passed_and_part : taken' ≤ INPUT_BYTES → Delivered old new
  passed_and_part most = record {
    sections = passed.sections;
    part = text;
    delivered = all_delivered;
    accepted = passed.accepted;
    bytes = passed.bytes;
    typed = passed.typed;
    asked = here.asked;
    within = omega (arith, all_counted, most);
  }

  -- where another section follows there was a byte
  pub some_taken : (c : CompiledSection) → Compiled c text line → (next : ℕ) → c.next ≡ Some next → taken < taken'
  some_taken c compiled next some =
      let ends = is_ended compiled.tokens next (sym some ∙ compiled.next) in
      omega (arith, here.counted, whole_used text line compiled.tokens here.asked compiled.lexed_as ends.0, used_some text line compiled.tokens compiled.lexed_as ends.0)

  -- one more, where another follows
  pub passed_on : (c : CompiledSection) (compiled : Compiled c text line) → (next : ℕ) → c.next ≡ Some next
      → (more : Passed old new taken' next) × (codes_of more.sections ≡ codes_of passed.sections ++ codes_in c.code) × (trees_of more.sections ≡ trees_of passed.sections ++ compiled.has.trees)
  passed_on c compiled next some =
      let ends = is_ended compiled.tokens next (sym some ∙ compiled.next) in
      let settled = dot_settles text line compiled.tokens compiled.lexed_as ends.0 in
      let last : WholeSection = record { bytes = text; tokens = compiled.tokens; trees = compiled.has.trees } in
      let all = bytes_push passed.sections last in
      let codes = codes_push passed.sections last ∙ ap (λ l. codes_of passed.sections ++ l) (sym compiled.has.code) in (
        record {
          sections = passed.sections ++ last ∷ [];
          delivered = subst (λ (l : List ℕ). Consumes old new l) (sym all) all_delivered;
          accepted = λ rest. accepted_push 1 passed.sections last rest (passed.accepted (text ++ rest))
              (subst (λ (l : ℕ). Accepted (text ++ rest) l compiled.tokens compiled.has.trees) passed.at (accepted_as (text ++ rest) line compiled.tokens compiled.has.trees (settled line rest ∙ compiled.lexed_as) compiled.has.means))
              ends.0 (whole_used text line compiled.tokens here.asked compiled.lexed_as ends.0);
          bytes = subst AreBytes (sym all) (bytes_both (bytes_of passed.sections) text passed.bytes compiled.bytes);
          typed = subst AreAllTyped (sym codes) (typed_both (codes_of passed.sections) (codes_in c.code) passed.typed (typed_in c.code));
          counted = omega (arith, all_counted, ap (λ (l : List ℕ). length l) all);
          at = ends.1 ∙ sym (line_push 1 passed.sections last);
        },
        codes,
        trees_push passed.sections last,
      )
