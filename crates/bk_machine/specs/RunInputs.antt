-- A run depends on the bytes that it read alone, unless it asked for one where none was left.
use Rattle.std.proofs.Common.{◌≡◌, ℕ, zero, suc, Bool, true, false, List, [], ◌∷◌, ◌++◌, refl, ap, ◌∙◌, if◌then◌else◌}
use Rattle.bk_base.specs.declared.run_end.End.TheVariants.{StoreLimit}
use Rattle.bk_machine.specs.declared.registers.Registers.{Registers}
use Rattle.bk_machine.specs.Output.{output_text}
use Rattle.bk_machine.specs.RunLaws.{input_of}
use Rattle.bk_machine.specs.Runs.{Standing, Going, Over, next_byte, after, run}
use Rattle.bk_machine.specs.ShorterStores.{run_reads}
use Rattle.bk_machine.specs.Step.{Turn, Goes, Outputs, Asks, Ends, step}

-- whether a run of so many steps asks for a byte where none is left
abbrev pub meets_end_after : (List ℕ → Registers → List ℕ → Bool) → Turn → List ℕ → Bool
meets_end_after go (Goes store r) input = go store r input
meets_end_after go (Outputs what store r) input = if (output_text store what).whole then go store r input else false
meets_end_after go (Asks store r) [] = true
meets_end_after go (Asks store r) (b ∷ rest) = go store (record r { a = b }) rest
meets_end_after go (Ends e) input = false

abbrev pub meets_end : ℕ → List ℕ → Registers → List ℕ → Bool
meets_end zero store r input = false
meets_end (suc n) store r input = meets_end_after (meets_end n) (step store r) input

-- the same with other input left
abbrev pub with_input : List ℕ → Standing → Standing
with_input input (Going store r left written) = Going store r input written
with_input input (Over e left written) = Over e input written

-- A run that did not ask where nothing was left does the same with any input after the bytes that it read, and leaves that.
abbrev pub RunsDependOnWhatTheyRead : Type 0
RunsDependOnWhatTheyRead = (n : ℕ) (store : List ℕ) (r : Registers) (input written : List ℕ) → meets_end n store r input ≡ false
    → (read : List ℕ) × (input ≡ read ++ input_of (run n store r input written))
    × ((more : List ℕ) → run n store r (read ++ more) written ≡ with_input more (run n store r input written))

-- A run that leaves a byte did not.
abbrev pub RunsThatLeaveInput : Type 0
RunsThatLeaveInput = (n : ℕ) (store : List ℕ) (r : Registers) (input written : List ℕ) (byte : ℕ) (rest : List ℕ)
    → input_of (run n store r input written) ≡ byte ∷ rest → meets_end n store r input ≡ false

DependsAt : ℕ → Type 0
DependsAt n = (s : List ℕ) (r : Registers) (i o : List ℕ) → meets_end n s r i ≡ false
    → (read : List ℕ) × (i ≡ read ++ input_of (run n s r i o)) × ((more : List ℕ) → run n s r (read ++ more) o ≡ with_input more (run n s r i o))

depends_after : (n : ℕ) → DependsAt n → (u : Turn) (i o : List ℕ) → meets_end_after (meets_end n) u i ≡ false
    → (read : List ℕ) × (i ≡ read ++ input_of (after (run n) u i o)) × ((more : List ℕ) → after (run n) u (read ++ more) o ≡ with_input more (after (run n) u i o))
unfolding DependsAt
depends_after n go (Goes s r) i o e = go s r i o e
depends_after n go (Outputs what s r) i o e = by_whole (output_text s what).whole e
  where
    telling : Bool → List ℕ → Standing
    telling w j = if w then run n s r j (o ++ (output_text s what).bytes) else Over StoreLimit j (o ++ (output_text s what).bytes)

    by_whole : (w : Bool) → (if w then meets_end n s r i else false) ≡ false
        → (read : List ℕ) × (i ≡ read ++ input_of (telling w i)) × ((more : List ℕ) → telling w (read ++ more) ≡ with_input more (telling w i))
    by_whole true h = go s r i (o ++ (output_text s what).bytes) h
    by_whole false h = ([], refl, λ more. refl)
depends_after n go (Asks s r) [] o e = absurd (let h : true ≡ false = e in cc)
depends_after n go (Asks s r) (b ∷ rest) o e = let h = go s (record r { a = b }) rest o e in (b ∷ h.0, ap (λ l. b ∷ l) h.1, h.2)
depends_after n go (Ends x) i o e = ([], refl, λ more. refl)

depends : (n : ℕ) → DependsAt n
unfolding DependsAt
depends zero s r i o e = ([], refl, λ more. refl)
depends (suc n) s r i o e = depends_after n (depends n) (step s r) i o e

pub run_depends : RunsDependOnWhatTheyRead
unfolding DependsAt
run_depends n s r i o e = depends n s r i o e

LeavesAt : ℕ → Type 0
LeavesAt n = (s : List ℕ) (r : Registers) (i o : List ℕ) (b : ℕ) (rest : List ℕ) → input_of (run n s r i o) ≡ b ∷ rest → meets_end n s r i ≡ false

-- where nothing was left nothing is
nothing_left : (read left : List ℕ) (b : ℕ) (rest : List ℕ) → [] ≡ read ++ left → left ≡ b ∷ rest → ⊥
nothing_left [] left b rest e h = let z : [] ≡ b ∷ rest = e ∙ h in cc
nothing_left (x ∷ read) left b rest e h = cc

leaves_after : (n : ℕ) → LeavesAt n → (u : Turn) (i o : List ℕ) (b : ℕ) (rest : List ℕ) → input_of (after (run n) u i o) ≡ b ∷ rest → meets_end_after (meets_end n) u i ≡ false
unfolding LeavesAt
leaves_after n go (Goes s r) i o b rest e = go s r i o b rest e
leaves_after n go (Outputs what s r) i o b rest e = by_whole (output_text s what).whole e
  where
    by_whole : (w : Bool) → input_of (if w then run n s r i (o ++ (output_text s what).bytes) else Over StoreLimit i (o ++ (output_text s what).bytes)) ≡ b ∷ rest
        → (if w then meets_end n s r i else false) ≡ false
    by_whole true h = go s r i (o ++ (output_text s what).bytes) b rest h
    by_whole false h = refl
leaves_after n go (Asks s r) [] o b rest e =
    let reads = run_reads n s (record r { a = next_byte [] }) [] o in
    absurd (nothing_left reads.0 (input_of (run n s (record r { a = next_byte [] }) [] o)) b rest reads.1 e)
leaves_after n go (Asks s r) (c ∷ left) o b rest e = go s (record r { a = c }) left o b rest e
leaves_after n go (Ends x) i o b rest e = refl

leaves : (n : ℕ) → LeavesAt n
unfolding LeavesAt
leaves zero s r i o b rest e = refl
leaves (suc n) s r i o b rest e = leaves_after n (leaves n) (step s r) i o b rest e

pub run_leaves : RunsThatLeaveInput
unfolding LeavesAt
run_leaves n s r i o b rest e = leaves n s r i o b rest e
