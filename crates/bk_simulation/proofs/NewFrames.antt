-- What a call leaves in the store: the links of the new frame, the arguments behind them, and all else as it was.
use Rattle.bk_simulation.proofs.Words.{◌≡◌, ◌≢◌, ℕ, zero, suc, ◌+◌, ◌<◌, ◌≤◌, List, [], ◌∷◌, length, Some, refl, ap, ◌∙◌, arith, ◌⊎◌, inl, inr, slice_get, Value, unset, holds, formal_cells, Word, Variable, Link, Cell, Held, content_of, write, below, settle, settle-kept, Cell_of}
use Rattle.bk_simulation.proofs.FramesKept.{LinksFrom, links_through, links_below, links_settled}
use Rattle.bk_simulation.proofs.Memory.{Like, like_refl, like_on}
use Rattle.bk_simulation.proofs.WrittenCells.{written, untouched, below_at, settle_at}

-- the cells in the frame of a call that begins at a place, where the caller's frame has words up to another
abbrev pub called_cells : (ℕ → Cell) → ℕ → ℕ → ℕ → ℕ → ℕ → Cell
called_cells cells frame top items back = below items (write (write cells top (Held Link (Word frame))) (top + 1) (Held Link (Word back)))

-- with its formals
abbrev pub saved_cells : (ℕ → Cell) → ℕ → ℕ → ℕ → Cell
saved_cells cells top size = below (top + size) (settle (top + 2) (top + size) cells)

module _ (cells : ℕ → Cell) (frame top items back : ℕ) (low : top + 2 ≤ items) where
  abbrev linked : ℕ → Cell
  linked = write cells top (Held Link (Word frame))

  abbrev both : ℕ → Cell
  both = write linked (top + 1) (Held Link (Word back))

  abbrev new : ℕ → Cell
  new = called_cells cells frame top items back

  -- what lies below the frame, and the arguments
  pub called_same : (a : ℕ) → a < items → a ≢ top → a ≢ top + 1 → new a ≡ cells a
  called_same a lt no0 no1 = below_at items both a lt ∙ untouched linked (top + 1) (Held Link (Word back)) a no1 ∙ untouched cells top (Held Link (Word frame)) a no0

  pub called_like : (a : ℕ) → a < top → Like (new a) (cells a)
  called_like a lt = let n0 : a ≢ top = omega arith in let n1 : a ≢ top + 1 = omega arith in like_refl _ _ (called_same a (omega arith) n0 n1)

  pub called_argument : (i : ℕ) → top + 2 + i < items → new (top + 2 + i) ≡ cells (top + 2 + i)
  called_argument i lt = let n0 : top + 2 + i ≢ top = omega arith in let n1 : top + 2 + i ≢ top + 1 = omega arith in called_same (top + 2 + i) lt n0 n1

  -- the links
  pub called_frame : new top ≡ Held Link (Word frame)
  called_frame = let ne : top ≢ top + 1 = omega arith in below_at items both top (omega arith) ∙ untouched linked (top + 1) (Held Link (Word back)) top ne ∙ written cells top (Held Link (Word frame))

  pub called_back : new (top + 1) ≡ Held Link (Word back)
  called_back = below_at items both (top + 1) (omega arith) ∙ written linked (top + 1) (Held Link (Word back))

  pub called_links : (n : ℕ) → suc n < top → LinksFrom (suc n) cells new
  called_links n lt x w le e = (called_like x (omega arith)).link w e

  -- behind SAVE
  module _ (size : ℕ) (some : 2 ≤ size) where
    abbrev kept : ℕ → Cell
    kept = saved_cells new top size

    pub saved_links : (n : ℕ) → LinksFrom n new kept
    saved_links n = links_through n new (settle (top + 2) (top + size) new) kept (links_settled n (top + 2) (top + size) new) (links_below n (top + size) (settle (top + 2) (top + size) new))

    pub saved_same : (a : ℕ) → a < top + 2 → kept a ≡ new a
    saved_same a lt = below_at (top + size) (settle (top + 2) (top + size) new) a (omega arith) ∙ settle-kept (top + 2) (top + size) new a lt

    pub saved_like : (a : ℕ) → a < top → Like (kept a) (cells a)
    saved_like a lt = like_on _ _ _ (like_refl _ _ (saved_same a (omega arith))) (called_like a lt)

    pub saved_formal : (i : ℕ) → i + 2 < size → kept (top + 2 + i) ≡ Held Variable (content_of (new (top + 2 + i)))
    saved_formal i lt = below_at (top + size) (settle (top + 2) (top + size) new) (top + 2 + i) (omega arith) ∙ settle_at (top + 2) (top + size) new (top + 2 + i) (omega arith) (omega arith)

-- ---- the cells of formals

pub formals_long : (xs : List (List ℕ)) (vs : List Value) → length (formal_cells xs vs) ≡ length xs
formals_long [] vs = refl
formals_long (x ∷ xs) [] = ap (λ n. suc n) (formals_long xs [])
formals_long (x ∷ xs) (v ∷ vs) = ap (λ n. suc n) (formals_long xs vs)

pub formal_is : (xs : List (List ℕ)) (vs : List Value) (i : ℕ) (c : Cell_of) → slice_get (formal_cells xs vs) i ≡ Some c → ((v : Value) × (slice_get vs i ≡ Some v) × (c ≡ holds v)) ⊎ (c ≡ holds unset)
formal_is [] vs i c h = absurd (cc)
formal_is (x ∷ xs) [] zero c h = inr (cc)
formal_is (x ∷ xs) [] (suc i) c h = formal_is xs [] i c h
formal_is (x ∷ xs) (v ∷ vs) zero c h = inl (v, refl, cc)
formal_is (x ∷ xs) (v ∷ vs) (suc i) c h = formal_is xs vs i c h
