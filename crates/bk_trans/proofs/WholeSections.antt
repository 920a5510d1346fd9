-- The statements that are written of a section are the scheme's, in words.
use Rattle.bk_trans.proofs.Words.{◌≡◌, ℕ, ◌==◌, Bool, true, false, cond, List, [], ◌∷◌, map, refl, sym, ap, ◌∙◌, Declarations, Bound, meanings, words, Stmt, Globals, joined, map_same}
use Rattle.bk_scope.specs.Known.{Known}
use Rattle.bk_trans.proofs.Terms.{Within, IsSection, Goal, Target, word, target_in_words, stmt_in_words, in_words, Supply, program_of, AllFit, AreWords, named_tree, Part, target_of, parts_of_declarations, goal, goal_of, entries_of, scheme, reached, starting, section_written, AreWritten}
use Rattle.bk_trans.specs.Filling as f
use Rattle.bk_trans.proofs.Adds.{near, Alike, alike_both}
use Rattle.bk_trans.proofs.FittingLemmas.{all_at}
use Rattle.bk_trans.proofs.Accepted.{scheme_is_accepted}
use Rattle.bk_trans.proofs.Ranges.{in_range_is}
use Rattle.bk_trans.proofs.Named.{filling_names}
use Rattle.bk_trans.proofs.Additions.{NearGoal, Placed}
use Rattle.bk_trans.proofs.Ties.{all_declared}

-- places of declarations that are the same in words
one_near : (c : Bool) (x y u v : Goal) → NearGoal x y → NearGoal u v → NearGoal (cond c x u) (cond c y v)
one_near true x y u v h k = h
one_near false x y u v h k = k

goals_near : (xs ys : List Target) → map target_in_words xs ≡ map target_in_words ys → (m : ℕ) → NearGoal (goal_of xs m) (goal_of ys m)
goals_near [] [] h m = record { labels = near 0; depths = near 0 }
goals_near (x ∷ xs) (y ∷ ys) h m =
    let head : ◌≡◌ {A = Target} (target_in_words x) (target_in_words y) = cc in
    let tail : map target_in_words xs ≡ map target_in_words ys = cc in
    let number : x.number ≡ y.number = ap (λ t. t.number) head in
    let label : word x.label ≡ word y.label = ap (λ t. t.label) head in
    let depth : word x.depth ≡ word y.depth = ap (λ t. t.depth) head in
    rw number (one_near (y.number == m) (goal x.label x.depth) (goal y.label y.depth) (goal_of xs m) (goal_of ys m) (record { labels = record { same = label }; depths = record { same = depth } }) (goals_near xs ys tail m))
goals_near _ _ h m = absurd cc

nowhere : Placed [] []
nowhere = record { at_number = λ m. record { labels = near 0; depths = near 0 } }

module _ (ds : Declarations) (g : Supply) where
  abbrev its_parts : List Part
  its_parts = parts_of_declarations 2 1 (f.all_declared ds g).part

  -- where its declarations went is found by writing it once
  found : map target_in_words (section_written ds g).apart.targets ≡ map target_in_words (joined target_of its_parts)
  found = (all_declared [] [] nowhere ds (reached 2 (starting g)) 2 g 1 (near 2) (record { left = refl; next = near 1 })).writing_is.its_apart.its_targets.same

  -- and so the statements are those of the scheme
  pub section_alike : (stmts : List Stmt) → AreWritten ds g stmts → in_words stmts ≡ in_words (scheme (f.all_declared ds g).part)
  section_alike stmts w =
      let ts : List Target = joined target_of its_parts in
      let placed : Placed w.goals ts = record { at_number = λ m. rw (w.places m) (goals_near (section_written ds g).apart.targets ts found m) } in
      let all = (all_declared w.goals ts placed ds (reached 2 (starting g)) 2 g 1 (near 2) (record { left = refl; next = near 1 })).writing_is in
      let globals : stmt_in_words (Globals (section_written ds g).apart.entries) ≡ stmt_in_words (Globals (joined entries_of its_parts)) = ap Globals all.its_apart.its_entries.same in
      let last : Alike stmt_in_words (Globals (section_written ds g).apart.entries ∷ []) (Globals (joined entries_of its_parts) ∷ []) = record { same = ap (λ x. x ∷ []) globals } in
      ap (map stmt_in_words) w.are ∙ (alike_both (alike_both (record { same = all.its_apart.its_procedures.same }) (record { same = all.its_apart.its_data.same })) last).same

-- of a section without faults, with its meanings and words
pub written_is_alike : (ds : Declarations) (ms : List Bound) (ws : List ℕ) (stmts : List Stmt) → Known ds ms ws → AreWritten ds (record { meanings = ms; words = ws }) stmts
    → in_words stmts ≡ in_words (scheme (named_tree ds))
written_is_alike ds ms ws stmts k w =
    let its_own : Supply = record { meanings = meanings ds; words = words ds } in
    let same : ◌≡◌ {A = Supply} (record { meanings = ms; words = ws }) its_own = ap (λ x. record { meanings = x; words = ws }) k.meanings_are ∙ ap (λ x. record { meanings = meanings ds; words = x }) k.words_are in
    section_alike ds (record { meanings = ms; words = ws }) stmts w ∙ ap (λ g. in_words (scheme (f.all_declared ds g).part)) same ∙ ap (λ r. in_words (scheme r.part)) (filling_names ds k.faultless)

-- the statements of a section within the limits, whose numbers fit, are the scheme's, and a section
pub record Translated (ds : Declarations) (stmts : List Stmt) : Type 0 where
  pub are : stmts ≡ scheme (named_tree ds)
  pub section : IsSection stmts

pub translated : {ds es : Declarations} {ms us : List Bound} {ws vs : List ℕ} {stmts fitting : List Stmt} → es ≡ ds → us ≡ ms → vs ≡ ws → fitting ≡ stmts → Known ds ms ws → Within es → AreWords vs
    → AreWritten es (record { meanings = us; words = vs }) stmts → AllFit fitting → Translated ds stmts
translated {ds} {es} {ms} {us} {ws} {vs} {stmts} {fitting} tree meant worded same known within are_words w fit =
    let of_them : AreWritten ds (record { meanings = ms; words = ws }) stmts = rw (← tree) (rw (← meant) (rw (← worded) w)) in
    let fits : AllFit stmts = rw (← same) fit in
    let limited : Within ds = rw (← tree) within in
    let in_range : AreWords (words ds) = rw (← known.words_are) (rw (← worded) are_words) in
    let section : IsSection (scheme (named_tree ds)) = scheme_is_accepted ds known.faultless limited in_range in
    let are : stmts ≡ scheme (named_tree ds) = sym (map_same stmt_in_words stmts (λ k s e. (all_at stmts fits k s e).0)) ∙ written_is_alike ds ms ws stmts known of_them ∙ in_range_is (scheme (named_tree ds)) section.are_faultless.in_range in
    record { are = are; section = rw are section }
