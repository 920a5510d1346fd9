-- Answers by cases, from what holds of their values.
pub use Rattle.bk_intcode.proofs.Terms.{Option, None, Some, Result, Ok, Err, OnErr, IfOk, IfErr, IfNone, ◌∷◌, List, ℕ, sym, subst, letter, MeansNothing, pos, spelling, ◌≡◌, ◌∙◌, ap, IntcodeKind, Holds, WordFault, begins_item, rules, Begins-trans, arith, ◌≢◌, Operand, operand_text, IsOperand, ◌++◌, [], item_text, AppendsPart-front}
pub use Rattle.bk_intcode.proofs.WordLemmas.{nothing-instruction, nothing-data, no_data-label, no_global-place, no_global-number, no_global-label, nothing-frame}

pub on_err : {T E P : Type 0} (r : Result T E) → P → OnErr r P
on_err (Ok x) p = tt
on_err (Err e) p = p

pub on_none : {T P : Type 0} (r : Option T) → P → IfNone r P
on_none None p = p
on_none (Some x) p = tt

pub if_err_map : {T E : Type 0} (r : Result T E) (P Q : E → Type 0) → ((e : E) → P e → Q e) → IfErr r P → IfErr r Q
if_err_map (Ok x) P Q f h = tt
if_err_map (Err e) P Q f h = f e h

pub if_ok_map : {T E : Type 0} (r : Result T E) (P Q : T → Type 0) → ((x : T) → P x → Q x) → IfOk r P → IfOk r Q
if_ok_map (Ok x) P Q f h = f x h
if_ok_map (Err e) P Q f h = tt
