-- Where the hints of a refused source begin.
use Rattle.bk_kit.proofs.Terms.{◌≡◌, ℕ, ◌++◌, List, [], ◌∷◌, Option, None, Some, refl, sym, subst, ap, ◌∙◌, inl, inr, append_assoc, append-nil, Consumes, Consumes-nothing, Consumes-trans, IsAdded, IsPlaced, StartsAfter, HintsAt, HintsIn, IsCut, InSource, AllInSource, IsPlacedIn, Refusal, line_after, Start, column_after, ◌⊎◌, IfSome}
use Rattle.std.proofs.lemmas.List.Elements.{All-weaker, All-contains, All-same, All-push, All-nil}
use Rattle.bk_reports.specs.declared.notice.Notice.{Notice}
use Rattle.bk_checker.specs.declared.source.SourceText.{SourceText}

-- What comes next begins here.
pub record Reached (old now : Option (List ℕ)) (start : Start) : Type 0 where
  pub before : List ℕ
  pub delivered : Consumes old now before
  pub starts : StartsAfter before start

line_after_both : (xs ys : List ℕ) (line : ℕ) → line_after line (xs ++ ys) ≡ line_after (line_after line xs) ys
line_after_both [] ys line = refl
line_after_both (x ∷ xs) ys line = line_after_both xs ys _

column_after_both : (xs ys : List ℕ) (column : ℕ) → column_after column (xs ++ ys) ≡ column_after (column_after column xs) ys
column_after_both [] ys column = refl
column_after_both (x ∷ xs) ys column = column_after_both xs ys _

module _ (old now new : Option (List ℕ)) (start : Start) (reached : Reached old now start) (text : List ℕ) (delivered : Consumes now new text) where
  pub reached_on : (next : Start) → next.line ≡ line_after start.line text → next.column ≡ column_after start.column text → Reached old new next
  reached_on next line column = record {
    before = reached.before ++ text;
    delivered = Consumes-trans old now new reached.before text reached.delivered delivered;
    starts = record {
      line_is = line ∙ ap (λ n. line_after n text) reached.starts.line_is ∙ sym (line_after_both reached.before text 1);
      column_is = column ∙ ap (λ n. column_after n text) reached.starts.column_is ∙ sym (column_after_both reached.before text 1);
    };
  }

  pub hinted : (refusal : Refusal) → HintsAt start text refusal.fault refusal.hints.items → IsCut start text refusal.fault refusal.cut → HintsIn refusal old new
  hinted refusal hints cut = record {
    before = reached.before;
    text = text;
    start = start;
    delivered = Consumes-trans old now new reached.before text reached.delivered delivered;
    starts = reached.starts;
    hints = hints;
    cut = cut;
  }

  -- there are none
  pub not_hinted : (refusal : Refusal) → refusal.hints.items ≡ [] → refusal.cut ≡ None → HintsIn refusal old new
  not_hinted refusal hints cut = hinted refusal (rw hints tt) (rw cut tt)

-- ---- the texts of the sections

abbrev TextIn : Option (List ℕ) → Option (List ℕ) → SourceText → Type 0
TextIn old new text = InSource old new text.start text.bytes.items

pub none_yet : (old new : Option (List ℕ)) (texts : List SourceText) → texts ≡ [] → AllInSource old new texts
none_yet old new texts none = All-same (TextIn old new) texts [] none (All-nil (TextIn old new))

pub in_source : (old now new : Option (List ℕ)) (start : Start) (text : List ℕ) → Reached old now start → Consumes now new text → InSource old new start text
in_source old now new start text reached delivered = record {
  before = reached.before;
  later = [];
  delivered = subst (Consumes old new) (sym (append-nil (reached.before ++ text))) (Consumes-trans old now new reached.before text reached.delivered delivered);
  starts = reached.starts;
}

-- more was read
in_source_later : (old now new : Option (List ℕ)) (start : Start) (text more : List ℕ) → Consumes now new more → InSource old now start text → InSource old new start text
in_source_later old now new start text more delivered there = record {
  before = there.before;
  later = there.later ++ more;
  delivered = subst (Consumes old new) (append_assoc (there.before ++ text) there.later more) (Consumes-trans old now new ((there.before ++ text) ++ there.later) more there.delivered delivered);
  starts = there.starts;
}

pub all_later : (old now new : Option (List ℕ)) (more : List ℕ) (texts : List SourceText) → Consumes now new more → AllInSource old now texts → AllInSource old new texts
all_later old now new more texts delivered all =
    All-weaker (TextIn old now) (TextIn old new) (λ text there. in_source_later old now new text.start text.bytes.items more delivered there) texts all

-- a text is added, or nothing is changed
pub all_pushed : (old new : Option (List ℕ)) (start : Start) (bytes : List ℕ) (before after : List SourceText)
    → (after ≡ before) ⊎ IsAdded start bytes before after → AllInSource old new before → InSource old new start bytes → AllInSource old new after
all_pushed old new start bytes before after (inl kept) all one = All-same (TextIn old new) after before kept all
all_pushed old new start bytes before after (inr added) all one =
    let here : TextIn old new added.text = rw (added.begins, added.has) one in
    All-same (TextIn old new) after (before ++ added.text ∷ []) added.last (All-push (TextIn old new) before added.text all here)

pub placed_in : (old new : Option (List ℕ)) (texts : List SourceText) (notice : Notice) → AllInSource old new texts → IsPlaced texts notice → IsPlacedIn old new notice
placed_in old new texts notice all (inl none) = inl none
placed_in old new texts notice all (inr there) = inr (record {
  start = there.text.start;
  text = there.text.bytes.items;
  in_source = All-contains (TextIn old new) texts there.text all there.is_text;
  before = there.before;
  is_before = there.is_before;
  is_place = there.is_place;
})

pub some_placed_in : (old new : Option (List ℕ)) (texts : List SourceText) (notice : Option Notice) → AllInSource old new texts → IfSome notice (λ stop. IsPlaced texts stop) → IfSome notice (IsPlacedIn old new)
some_placed_in old new texts None all there = tt
some_placed_in old new texts (Some notice) all there = placed_in old new texts notice all there

pub reached_none : (known : Option (List ℕ)) (start : Start) → start.line ≡ 1 → start.column ≡ 1 → Reached known known start
reached_none known start line column = record {
  before = [];
  delivered = Consumes-nothing known;
  starts = record { line_is = line; column_is = column };
}
