-- Lemmas on what is occupied by trains, and on trains of which one is changed.
use Rattle.std.proofs.Common.{◌≡◌, ℕ, zero, suc, ◌<◌, Bool, true, false, List, refl, inl, inr, arith}
use Rattle.plan.specs.Plan.{among}
use Rattle.model.specs.World.{Train, occupied, with_train}
use Rattle.safety.proofs.Tests.{clash, decide, either_way}

-- what is occupied, some train stands in
pub occupied_some : (n : ℕ) (ts : ℕ → Train) (x : ℕ) → occupied n ts x ≡ true → (i : ℕ) × (i < n) × (among x (ts i).body ≡ true)
unfolding occupied
occupied_some zero ts x h = absurd (grind arith)
occupied_some (suc n) ts x h =
    elim (decide (among x (ts n).body)) [
      | inl e ↦ (n, omega arith, e)
      | inr e ↦ (let r = occupied_some n ts x (grind arith) in (r.0, omega (arith, r.1), r.2))
    ]

-- what a train stands in is occupied
pub occupied_at : (n : ℕ) (ts : ℕ → Train) (x i : ℕ) → i < n → among x (ts i).body ≡ true → occupied n ts x ≡ true
unfolding occupied
occupied_at zero ts x i h a = absurd (omega arith)
occupied_at (suc n) ts x i h a = let ih = occupied_at n ts x i in grind arith

pub vacant_at : (n : ℕ) (ts : ℕ → Train) (x i : ℕ) → i < n → occupied n ts x ≡ false → among x (ts i).body ≡ true → ⊥
vacant_at n ts x i h s a = clash (occupied n ts x) (occupied_at n ts x i h a) s

-- trains in fewer sections occupy fewer
pub occupied_less : (n : ℕ) (ts us : ℕ → Train) (x : ℕ) → ((i : ℕ) → i < n → among x (us i).body ≡ true → among x (ts i).body ≡ true) →
    occupied n us x ≡ true → occupied n ts x ≡ true
occupied_less n ts us x f h = let w = occupied_some n us x h in occupied_at n ts x w.0 w.1 (f w.0 w.1 w.2)

pub occupied_same : (n : ℕ) (ts us : ℕ → Train) (x : ℕ) → ((i : ℕ) → among x (ts i).body ≡ among x (us i).body) → occupied n ts x ≡ occupied n us x
unfolding occupied
occupied_same zero ts us x h = refl
occupied_same (suc n) ts us x h = let ih = occupied_same n ts us x h in let e = h n in grind arith

-- one train of them
train_here : (ts : ℕ → Train) (i : ℕ) (up : Bool) (b : List ℕ) → with_train ts i up b i ≡ record { up = up; body = b }
unfolding with_train
train_here ts i up b = grind arith

train_other : (ts : ℕ → Train) (i : ℕ) (up : Bool) (b : List ℕ) (j : ℕ) → (j ≡ i → ⊥) → with_train ts i up b j ≡ ts j
unfolding with_train
train_other ts i up b j h = grind arith

-- what holds of the changed train and of each other one holds of all
pub each_train :
    (ts : ℕ → Train) (i : ℕ) (up : Bool) (b : List ℕ) (P : ℕ → Train → Type 0) →
    P i (record { up = up; body = b }) → ((j : ℕ) → (j ≡ i → ⊥) → P j (ts j)) → (j : ℕ) → P j (with_train ts i up b j)
each_train ts i up b P here there j = either_way j i (λ e. rw (e, train_here ts i up b) here) (λ e. rw (train_other ts i up b j e) (there j e))
