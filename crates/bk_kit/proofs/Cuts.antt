-- Hints of a section whose line is read to its end.
pub use Rattle.bk_kit.proofs.Terms.{◌≡◌, ◌∙◌, sym, refl, subst, append_assoc, Some, None, Result, Ok, Err, Bool, true, false, List, ◌++◌, ℕ, Option, Consumes, Consumes-trans, KitFault, Report, Streams, HintsAt, HintsIn, IsCut, is_of_bytes, ChecksSource, TextHints, NotChecked, Refusal, Start, output, ReportsCheck, file_read, rules, ReadsOn, read_from, ap}
use Rattle.bk_kit.specs.declared.cut.CutSection.{CutSection}
use Rattle.bk_kit.specs.declared.checker.NotChecked.TheVariants as n

-- hints of a text with more bytes
pub hints_on : (old now new : Option (List ℕ)) (refusal said : Refusal) (cut : CutSection) (more : List ℕ) → HintsIn refusal old now → refusal.cut ≡ Some cut
    → Consumes now new more → HintsAt cut.start (cut.text.items ++ more) said.fault said.hints.items → said.cut ≡ None → HintsIn said old new
hints_on old now new refusal said cut more are is delivered hints none =
    let here : IsCut are.start are.text refusal.fault (Some cut) = subst (IsCut are.start are.text refusal.fault) is are.cut in
    let moved : HintsAt cut.start (are.text ++ more) said.fault said.hints.items
    = subst (λ (t : List ℕ). HintsAt cut.start (t ++ more) said.fault said.hints.items) here.1 hints in
    record {
      before = are.before;
      text = are.text ++ more;
      start = are.start;
      delivered = subst (Consumes old new) (append_assoc are.before are.text more) (Consumes-trans old now new (are.before ++ are.text) more are.delivered delivered);
      starts = are.starts;
      hints = subst (λ (s : Start). HintsAt s (are.text ++ more) said.fault said.hints.items) here.0 moved;
      cut = subst (IsCut are.start (are.text ++ more) said.fault) (sym none) tt;
    }

-- a fault that is not of bytes cuts no line
pub not_cut : (start : Start) (text : List ℕ) (fault : KitFault) (cut : Option CutSection) → IsCut start text fault cut → is_of_bytes fault ≡ false → cut ≡ None
not_cut start text fault None is other = refl
not_cut start text fault (Some cut) is other = absurd (let same : true ≡ false = sym is.2 ∙ other in cc)

-- a source that is refused has hints
pub text_hints : (answer : Result Report NotChecked) (turns : ℕ) (old new : Option (List ℕ)) (ended : Bool) (before after : Streams)
    → ChecksSource answer turns old new ended before after → TextHints answer old new
text_hints (Ok report) turns old new ended before after checks = tt
text_hints (Err (n.Text refusal)) turns old new ended before after checks = checks.1
text_hints (Err (n.Run stop)) turns old new ended before after checks = tt
