-- Whether a LET stands in a block, by the two frames on top.
use Rattle.bk_frames.proofs.Terms.{◌≡◌, ℕ, ◌+◌, ◌-◌, ◌<◌, ◌≤◌, false, cond, List, [], ◌∷◌, length, get_or, take, refl, sym, ap, ◌∙◌, arith, take-length, Unfinished, Frame, Decl, Declarations, declarations_in, Stack, in_section, inside, limit, unfinished_on, phrase_on, member_on, stack, is_let_unfinished, is_block_unfinished, OpenExpression as o, Phrase as p, Member as m, Clause as c, Place as a, Point as t, Unfinished as b, Phrase, Member}
use Rattle.bk_frames.proofs.Stacks.{stack_take}

inside_one : (x : Unfinished) (ds : Declarations) → inside (unfinished_on x (in_section ds)) ≡ false
inside_one (b.Point (t.Goto l)) ds = refl
inside_one (b.Place (a.Let l xs)) ds = refl
inside_one (b.Clause (c.Valof l)) ds = refl
inside_one (b.Member (m.Function n fs)) ds = refl
inside_one (b.Phrase p.Start) ds = refl
inside_one (b.OpenExpression (o.Parens l)) ds = refl
inside_one x ds = refl

pub inside_short : (ds : List Decl) (xs : List Frame) → length xs < 2 → inside (stack ds xs) ≡ false
unfolding stack
inside_short ds [] h = refl
inside_short ds (x ∷ []) h = inside_one x.unfinished (declarations_in ds)
inside_short ds (x ∷ (y ∷ xs)) h = absurd (omega arith)

let_in : (y : Unfinished) (l : ℕ) (xs : _) (st : Stack) → inside (unfinished_on (b.Place (a.Let l xs)) (unfinished_on y st)) ≡ is_block_unfinished y
let_in (b.Point (t.Goto l)) m xs st = refl
let_in (b.Place (a.Block l q ds cs)) m xs st = refl
let_in (b.Clause (c.Valof l)) m xs st = refl
let_in (b.Member (m.Function n fs)) l xs st = refl
let_in (b.Phrase p.Start) m xs st = refl
let_in (b.OpenExpression (o.Parens l)) m xs st = refl
let_in x l xs st = refl

inside_two : (x y : Unfinished) (st : Stack) → inside (unfinished_on x (unfinished_on y st)) ≡ cond (is_let_unfinished x) (is_block_unfinished y) false
inside_two (b.OpenExpression (o.Parens l)) y st = refl
inside_two (b.Phrase p.Start) y st = refl
inside_two (b.Member (m.Function n fs)) y st = refl
inside_two (b.Clause (c.Valof l)) y st = refl
inside_two (b.Place (a.Let l xs)) y st = let_in y l xs st
inside_two (b.Point (t.Goto l)) y st = refl
inside_two _ y st = refl

pub inside_at : (ds : List Decl) (xs : List Frame) (n : ℕ) (x y : Frame) → n ≡ length xs → 2 ≤ n → x ≡ get_or xs (n - 1) x → y ≡ get_or xs (n - 2) y → inside (stack ds xs) ≡ cond (is_let_unfinished x.unfinished) (is_block_unfinished y.unfinished) false
inside_at ds xs n x y is two at_x at_y =
    let one : n - 1 + 1 ≡ length xs = omega arith in
    let back : n - 2 + 1 ≡ n - 1 = omega arith in
    let first = stack_take ds xs (n - 1) x (omega arith) at_x in
    let second = stack_take ds xs (n - 2) y (omega arith) at_y in
    ap (λ zs. inside (stack ds zs)) (sym (take-length xs)) ∙ ap (λ k. inside (stack ds (take k xs))) (sym one) ∙ ap inside first
    ∙ ap (λ k. inside (unfinished_on x.unfinished (stack ds (take k xs)))) (sym back) ∙ ap (λ st. inside (unfinished_on x.unfinished st)) second
    ∙ inside_two x.unfinished y.unfinished (stack ds (take (n - 2) xs))

pub limit_phrase : (x : Phrase) (st : Stack) → limit (phrase_on x st) ≡ 12
limit_phrase p.Start st = refl
limit_phrase _ st = refl

pub limit_member : (x : Member) (st : Stack) → limit (member_on x st) ≡ 12
limit_member (m.Function n fs) st = refl
limit_member _ st = refl
