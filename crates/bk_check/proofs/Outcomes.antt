-- Outcomes, one after another.
use Rattle.bk_check.proofs.Terms.{◌≡◌, ℕ, zero, suc, refl, World, Outcome, gives, leaves, with, Done, done, turn, turn_of}

pub with_with : {A B C : Type 0} (u : Outcome A) (f : A → World → Outcome B) (g : B → World → Outcome C) → with (with u f) g ≡ with u (λ a w. with (f a w) g)
with_with (gives a w) f g = refl
with_with _ f g = refl

pub with_each : {A B : Type 0} (u : Outcome A) (f g : A → World → Outcome B) → ((a : A) (w : World) → f a w ≡ g a w) → with u f ≡ with u g
with_each (gives a w) f g h = h a w
with_each (leaves x w) f g h = refl
with_each _ f g h = refl

turned : {A B : Type 0} (l : ℕ) (n : ℕ) (w : World) (go : World → Outcome A) (f : A → World → Outcome B) → with (turn_of l n w go) f ≡ turn_of l n w (λ w. with (go w) f)
turned l zero w go f = refl
turned l (suc n) w go f = refl

pub with_turn : {A B : Type 0} (l : ℕ) (w : World) (go : World → Outcome A) (f : A → World → Outcome B) → with (turn l w go) f ≡ turn l w (λ w. with (go w) f)
with_turn l w go f = turned _ w.turns w go f

-- nothing follows a command that is done
pub with_done : (u : Outcome Done) → with u (λ _ w. done w) ≡ u
with_done (gives d w) = refl
with_done _ = refl
