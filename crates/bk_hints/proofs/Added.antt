-- Pages of further faults, added after others.
use Rattle.std.proofs.Common.{◌∙◌, ap, refl, ℕ, List, [], ◌∷◌, ◌++◌, Vec}
use Rattle.std.proofs.lemmas.List.{append_assoc}
use Rattle.std.proofs.lemmas.List.Elements.{All-append, All-cons, All-nil}
use Rattle.std.specs.Global.{Global}
use Rattle.bk_lines.specs.declared.places.Start.{Start}
use Rattle.bk_hints.specs.Hints.{ReportsFurther, AddsFurther}

pub adds_on : (start : Start) (text : List ℕ) (a b c : List (Vec ℕ Global)) → AddsFurther start text a b → AddsFurther start text b c → AddsFurther start text a c
adds_on start text a b c first second =
    (first.0 ++ second.0, second.1 ∙ ap (λ pages. pages ++ second.0) first.1 ∙ append_assoc a first.0 second.0, All-append (ReportsFurther start text) first.0 second.0 first.2 second.2)

pub adds_one : (start : Start) (text : List ℕ) (a : List (Vec ℕ Global)) (page : Vec ℕ Global) → ReportsFurther start text page → AddsFurther start text a (a ++ page ∷ [])
adds_one start text a page said =
    (page ∷ [], refl, All-cons (ReportsFurther start text) page [] said (All-nil (ReportsFurther start text)))
