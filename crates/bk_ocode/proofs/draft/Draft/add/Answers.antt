use Rattle.bk_ocode.proofs.Terms.{◌≡◌, ◌∙◌, ◌+◌, ap, ℕ, length-append, arith, length, List, ◌∷◌, [], start_from, uses_of, context_in, Stmt}
use Rattle.bk_ocode.proofs.DraftLemmas.{context-push, named_so, fits_behind, start_from-low}
use Rattle.bk_ocode.proofs.draft.Draft.add.Goals as goal

pub returns-clause-draft : goal.returns-clause-draft
returns-clause-draft c =
    let k = context_in c.args.self.now in
    let s = c.args.stmt in
    let before = c.args.self.now.stmts.items in
    let fits = fits_behind before k s c.requires.draft.context c.requires.faultless in
    let count : c.len-count.result ≡ length before = c.len-count.ensures in
    let more : length c.push.new.self.items ≡ length before + 1 = omega (arith, ap (λ (l : List Stmt). length l) c.in_ok-push.ensures.items, length-append before (s ∷ [])) in
    record {
      context = context-push k before c.push.new.self.items s _ _ _ _ _ _ c.requires.draft.context c.in_ok-push.ensures.items
          more (ap (λ (n : ℕ). k.words + n) c.requires.words) c.following-self.ensures c.depth_after-self.ensures
          (c.start_with-self.ensures ∙ ap (λ (n : ℕ). start_from n k.start s) count)
          (named_so k s c.len-count.result (uses_of c.stand.new.self) (uses_of c.name.new.self) count c.in_ok-stand.ensures c.in_ok-name.ensures);
      depth_fits = omega (arith, c.depth_after-self.ensures, fits.0);
      words_fit = omega (arith, c.requires.words, fits.1);
      start_fits = omega (arith, more, c.start_with-self.ensures, start_from-low c.len-count.result k.start s (omega (arith, count, c.requires.draft.start_fits)));
    }
