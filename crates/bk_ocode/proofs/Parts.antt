-- Answers by cases, from what holds of their values.
pub use Rattle.bk_ocode.proofs.Terms.{◌≡◌, refl, None, Some, IfSome, ℕ, List, ◌++◌, Option, Result, Ok, Err, OnErr, Appends, AppendsPart, AppendsPart-after, rules, [], ◌∷◌, ap, append-nil, natural_word, label_word, AppendsPart-front, length, byte_words, spaced, pos, spelling, global_words, append_assoc, Begins-trans, argument_words, keyword, sym, case_words, Appends-trans, Case, ◌∙◌, get_or, stmt_text, section_text, Stmt, GlobalEntry}
pub use Rattle.bk_ocode.proofs.Rows.{byte_rows, AppendsPart-row, case_rows, line_rows, global_rows}

pub on_err : {T E P : Type 0} (r : Result T E) → P → OnErr r P
on_err (Ok x) p = tt
on_err (Err e) p = p

-- what is behind other bytes, by the answer of a call
pub part_behind : {T E : Type 0} (r : Result T E) (a b c : Option (List ℕ)) (x y all : List ℕ) → all ≡ x ++ y → Appends a b x → OnErr r (AppendsPart b c y) → OnErr r (AppendsPart a c all)
part_behind (Ok v) a b c x y all is p q = tt
part_behind (Err e) a b c x y all is p q = AppendsPart-after a b c x y all is p q
