-- The arithmetic of sizes that are kept.
use Rattle.bk_frames.proofs.Terms.{◌≡◌, ℕ, ◌+◌, ap, ◌∙◌, arith, Size, kept, kept_size, node_of}

suc_kept : (a : ℕ) → kept (kept a + 1) ≡ kept (a + 1)
suc_kept a = omega arith

abbrev sized : ℕ → ℕ → Size
sized d n = record { depth = d; nodes = n }

pub sizes_are : {a b c d : ℕ} → a ≡ c → b ≡ d → sized a b ≡ sized c d
sizes_are {b = b} {c = c} p q = ap (λ x. sized x b) p ∙ ap (sized c) q

pub node_kept : (d n : ℕ) → node_of (kept_size d n) ≡ kept_size (d + 1) (n + 1)
node_kept d n = sizes_are (suc_kept d) (suc_kept n)
