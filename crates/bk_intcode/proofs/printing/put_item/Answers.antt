use Rattle.bk_intcode.proofs.Parts.{on_err, sym, ap, ◌∙◌, ◌++◌, ◌≡◌, ◌∷◌, [], List, ℕ, item_text, AppendsPart-front}
use Rattle.bk_intcode.proofs.printing.put_item.Goals as goal

pub returns-in_err-put_all-clause-part : goal.returns-in_err-put_all-clause-part
returns-in_err-put_all-clause-part g c =
    let is : item_text c.args.item ++ 10 ∷ [] ≡ c.as_bytes.result.now ++ 10 ∷ [] = ap (λ (t : List ℕ). t ++ 10 ∷ []) (sym c.item_word.ensures ∙ sym c.as_bytes.ensures.value) in
    on_err c.from_residual.result (AppendsPart-front _ _ c.as_bytes.result.now (10 ∷ []) _ is c.in_err-put_all.ensures.part)
