use Rattle.bk_machine.proofs.Terms.{◌≡◌, ℕ, ◌+◌, ◌<◌, ap, sym, ◌∙◌, arith, List, take, length, get_or, fold, append-nil, take_all, fold_more, Growth, grown, segment_settings, segment_words, with_setting, Item, number_of, IsFilled, items_bounded, words_after}
use Rattle.bk_machine.proofs.Growing.{growth_of}
use Rattle.bk_machine.proofs.Settings.{settings-behind, global-within, grown-long, grown-kept, grown-set}
use Rattle.bk_machine.proofs.packing.push_items.Goals as goal
use Rattle.bk_machine.proofs.packing.push_items.Goals.{in-SetGlobal, in_default+in_ok-filled-in_default}

-- one more item is put behind the others
pushed : (labels : ℕ → ℕ) (base words next : List ℕ) (filled more : ℕ) (items : List Item) (i : ℕ) (d : Item) → i < length items
    → growth_of words filled ≡ fold (grown labels) (growth_of base 0) (take i items)
    → grown labels (growth_of words filled) (get_or items i d) ≡ growth_of next more
    → growth_of next more ≡ fold (grown labels) (growth_of base 0) (take (i + 1) items)
pushed labels base words next filled more items i d within known one =
    sym one ∙ ap (λ g. grown labels g (get_or items i d)) known ∙ sym (fold_more (grown labels) (growth_of base 0) items i d within)

unfilled : (words : List ℕ) (filled : ℕ) → filled ≡ 0 → IsFilled words filled
unfilled words filled none = record { within = omega arith; last = λ some. absurd (omega arith); small = λ some. absurd (omega arith) }

pub overflow_add-number : goal.overflow_add-number
overflow_add-number c =
    let within = global-within c.args.items.now c.loop-item.item-index c.in-SetGlobal.number c.in-SetGlobal.label _ c.requires.whole (omega arith) c.in-SetGlobal.is in
    omega (arith, within)

pub index_mut-requires : goal.index_mut-requires
index_mut-requires c =
    let labels = number_of c.args.labels.now in
    let items = c.args.items.now in
    let i = c.loop-item.item-index in
    let within = global-within items i c.in-SetGlobal.number c.in-SetGlobal.label _ c.requires.whole (omega arith) c.in-SetGlobal.is in
    let long = grown-long labels c.args.words.now.items c.loop-item.words.items c.loop-item.filled (segment_settings labels (take i items)) (take i items) c.loop-item.invariant.grown in
    omega (arith, within, long, c.loop-item.words.ok.0, c.args.words.now.ok.0)

pub loop-item-preserved : goal.loop-item-preserved
loop-item-preserved c =
    let labels = number_of c.args.labels.now in
    let items = c.args.items.now in
    let i = c.loop-item.item-index in
    let store = c.args.words.now.items in
    let words = c.loop-item.words.items in
    let filled = c.loop-item.filled in
    elim c.match-item.branch [
      | in-SetGlobal w ↦
          let known = pushed labels _ words words filled 0 items i _ (omega arith) c.loop-item.invariant.grown
          (ap (λ x. grown labels (growth_of words filled) x) w.in-SetGlobal.is ∙ ap (λ l. growth_of l 0) (append-nil words)) in
          record {
            grown = rw (w.words-is, w.filled-is)
                (grown-set labels store words 0 items i w.in-SetGlobal.number w.in-SetGlobal.label w.number.result _ (omega arith)
                (global-within items i w.in-SetGlobal.number w.in-SetGlobal.label _ c.requires.whole (omega arith) w.in-SetGlobal.is)
                (omega (arith, c.args.words.now.ok.0)) w.in-SetGlobal.is w.number.ensures.value known);
            filled = unfilled _ c.match-item.filled w.filled-is;
          }
      | in_default+in_ok-filled-in_default w ↦
          let known = pushed labels _ words w.push_item.new.words.items filled _ items i _ (omega arith) c.loop-item.invariant.grown w.in_ok-filled-in_default.ensures.value in
          record {
            grown = rw (w.words-is, w.filled-is) (grown-kept labels store w.push_item.new.words.items _ items i _ (omega arith) w.in_default.not-SetGlobal known);
            filled = rw (w.words-is, w.filled-is) w.in_ok-filled-in_default.ensures.filled;
          }
    ]

pub returns : goal.returns
returns c =
    let labels = number_of c.args.labels.now in
    let store = c.args.words.now.items in
    let base : List Item → List ℕ = λ l. fold with_setting store (segment_settings labels l) in
    ap (λ (g : Growth). g.words) c.loop-item.invariant.grown
    ∙ ap (λ (l : List Item). (fold (grown labels) (growth_of (base l) 0) l).words) (take_all c.loop-item.item-index c.args.items.now (omega arith))
    ∙ words_after labels (base c.args.items.now) c.args.items.now
    ∙ sym (settings-behind store (segment_words labels c.args.items.now) (segment_settings labels c.args.items.now)
    (omega (arith, c.args.words.now.ok.0)) (items_bounded labels c.args.items.now c.requires.whole.in_range))
