-- A line on the error stream, passed on or in part.
use Rattle.bk_filters.proofs.Terms.{Appends-Keeps, AppendsPart-kept, Begins-trans, Begins, Output, ReportsLine, ◌≡◌, ℕ, true, false, List, [], Result, Ok, Err, OnOk, OnErr, is_ok, is_err, if◌then◌else◌, sym, ◌∙◌, append-nil, arith, Appends, Keeps}

-- the line was put, and then a flush was tried
line_put : {E : Type 0} (line : List ℕ) (old mid new : Output) (flushed : Result (Unit {0}) E) → Appends old.taken mid.taken line → Begins old.passed mid.passed
    → Keeps mid.taken new.taken → Begins mid.passed new.passed → OnOk flushed (new.passed ≡ new.taken) → new.faults ≡ (if is_err flushed then 1 else 0) → ReportsLine line old new
line_put line old mid new (Ok done) taken passes keeps more all count = record {
  part = AppendsPart-kept old.taken mid.taken new.taken line [] line (sym (append-nil line)) taken keeps;
  passes = Begins-trans old.passed mid.passed new.passed passes more;
  whole = λ none. (Appends-Keeps old.taken mid.taken new.taken line taken keeps, all);
}
line_put line old mid new (Err e) taken passes keeps more all count = record {
  part = AppendsPart-kept old.taken mid.taken new.taken line [] line (sym (append-nil line)) taken keeps;
  passes = Begins-trans old.passed mid.passed new.passed passes more;
  whole = λ none. absurd (let bad : 0 ≡ 1 = sym none ∙ count in omega arith);
}

pub line_told : {D E : Type 0} (line : List ℕ) (old mid new : Output) (put : Result (Unit {0}) D) (flushed : Result (Unit {0}) E) → is_ok put ≡ true
    → OnOk put (Appends old.taken mid.taken line) → Begins old.passed mid.passed → Keeps mid.taken new.taken → Begins mid.passed new.passed
    → OnOk flushed (new.passed ≡ new.taken) → new.faults ≡ (if is_err flushed then 1 else 0) → ReportsLine line old new
line_told line old mid new (Ok done) flushed fine taken passes keeps more all count = line_put line old mid new flushed taken passes keeps more all count
line_told line old mid new (Err e) flushed fine taken passes keeps more all count = absurd (let bad : false ≡ true = fine in cc)

-- what holds anyhow holds of an error
pub on_err : {T E P : Type 0} (r : Result T E) → P → OnErr r P
on_err (Ok x) p = tt
on_err (Err e) p = p
