-- A text of OCODE of which the law speaks: START, which returns at once.
use Rattle.bk_filters.proofs.Terms.{◌≡◌, ℕ, zero, suc, ◌<◌, List, [], ◌∷◌, Some, None, refl, subst, arith, Stmt, ocode, parts, words_of, Says, InRange, IsTyped, IsGlobal, IsLabel, Entry, Save, Return, EndProcedure, Globals, slice_get, take, codes}
use Rattle.std.specs.Fmt.{digits}
use Rattle.bk_ocode.specs.Faults.{stmt_fault}
use Rattle.bk_ocode.specs.declared.stmt.GlobalEntry.{GlobalEntry}

abbrev stmts : List Stmt
stmts = Entry 1 (83 ∷ 84 ∷ 65 ∷ 82 ∷ 84 ∷ []) ∷ Save 2 ∷ Return ∷ EndProcedure ∷ Globals (record { number = 1; label = 1 } ∷ []) ∷ []

-- what holds of each of these statements holds of all
each : (P : ℕ → Stmt → Type 0) → P 0 (Entry 1 (83 ∷ 84 ∷ 65 ∷ 82 ∷ 84 ∷ [])) → P 1 (Save 2) → P 2 Return → P 3 EndProcedure → P 4 (Globals (record { number = 1; label = 1 } ∷ []))
    → (k : ℕ) (s : Stmt) → slice_get stmts k ≡ Some s → P k s
each P a b c d e zero s is = subst (P 0) (let h : Entry 1 (83 ∷ 84 ∷ 65 ∷ 82 ∷ 84 ∷ []) ≡ s = cc in h) a
each P a b c d e (suc zero) s is = subst (P 1) (let h : Save 2 ≡ s = cc in h) b
each P a b c d e (suc (suc zero)) s is = subst (P 2) (let h : Return ≡ s = cc in h) c
each P a b c d e (suc (suc (suc zero))) s is = subst (P 3) (let h : EndProcedure ≡ s = cc in h) d
each P a b c d e (suc (suc (suc (suc zero)))) s is = subst (P 4) (let h : Globals (record { number = 1; label = 1 } ∷ []) ≡ s = cc in h) e
each P a b c d e (suc (suc (suc (suc (suc k))))) s is = cc

faultless : (k : ℕ) (s : Stmt) → slice_get stmts k ≡ Some s → stmt_fault (take k stmts) s ≡ None
unfolding digits
faultless = each (λ k s. stmt_fault (take k stmts) s ≡ None) refl refl refl refl refl

is_start : (k byte : ℕ) → slice_get (83 ∷ 84 ∷ 65 ∷ 82 ∷ 84 ∷ []) k ≡ Some byte → byte < 256
is_start zero byte is = let h : 83 ≡ byte = cc in omega (arith, h)
is_start (suc zero) byte is = let h : 84 ≡ byte = cc in omega (arith, h)
is_start (suc (suc zero)) byte is = let h : 65 ≡ byte = cc in omega (arith, h)
is_start (suc (suc (suc zero))) byte is = let h : 82 ≡ byte = cc in omega (arith, h)
is_start (suc (suc (suc (suc zero)))) byte is = let h : 84 ≡ byte = cc in omega (arith, h)
is_start (suc (suc (suc (suc (suc k))))) byte is = cc

is_entry : (k : ℕ) (e : GlobalEntry) → slice_get (record { number = 1; label = 1 } ∷ []) k ≡ Some e → IsGlobal e.number × IsLabel e.label
is_entry zero e is = subst (λ (x : GlobalEntry). IsGlobal x.number × IsLabel x.label) (let h : record { number = 1; label = 1 } ≡ e = cc in h) (omega arith, (omega arith, omega arith))
is_entry (suc k) e is = cc

says : Says ocode (parts (stmts ∷ [])) (words_of (codes "ENTRY L1 5 83 84 65 82 84\nSAVE 2\nRTRN\nENDPROC\nGLOBAL 1 1 L1\n"))
unfolding digits
says = (
  (
    (
      record {
        are_faultless = record {
          in_range = each (λ k s. InRange s) ((omega arith, omega arith), omega arith) (omega arith, omega arith) tt tt (record { in_range = is_entry; counted = omega arith });
          faultless = faultless;
        };
        ended = refl;
      },
      each (λ k s. IsTyped s) is_start tt tt tt tt,
    ),
    tt,
  ),
  refl,
)
