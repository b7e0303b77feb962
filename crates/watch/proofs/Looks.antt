-- What was found by looking at each of some numbers.
use Rattle.std.proofs.Common.{◌≡◌, ℕ, ◌<◌, ◌≤◌, Bool, true, false, List, length, refl, subst, arith, Option, Some, None, MatchOption}
use Rattle.std.specs.Bool.{then_some}
use Rattle.std.specs.List.{AllWithin, HoldsAt}
use Rattle.plan.specs.Plan.{among}
use Rattle.model.specs.World.{Train, occupied}
use Rattle.watch.proofs.Lists.{among_at, each_among, vacant_all}

-- what `find` says of the places of a list is so of what stands among its elements
pub found_among : (xs : List ℕ) (No Yes : ℕ → Type 0) (o : Option ℕ) →
    MatchOption o (AllWithin No xs 0 (length xs)) (λ x. Yes x × (i : ℕ) × (i < length xs) × HoldsAt (λ y. y ≡ x) xs i × AllWithin No xs 0 i) →
    MatchOption o ((x : ℕ) → among x xs ≡ true → No x) (λ x. (among x xs ≡ true) × Yes x)
found_among xs No Yes None h = each_among No xs (λ k l. h k 0 (omega arith) l)
found_among xs No Yes (Some x) h = (subst (λ y. among y xs ≡ true) (h.3 0) (among_at xs h.1 h.2), h.0)

-- something is named only if a test says so
pub named_if : {T : Type 0} (A : Type 0) (Named : T → Type 0) (b : Bool) (x : T) (r : Option T) → r ≡ then_some b x → (b ≡ false → A) → (b ≡ true → Named x) → MatchOption r A Named
named_if A Named true x r e f g = rw e (g refl)
named_if A Named false x r e f g = rw e (f refl)

-- no train was found in a section, or the first
pub found_train : (ts : ℕ → Train) (x : ℕ) (o : Option ℕ) →
    MatchOption o ((k : ℕ) → 0 ≤ k → k < 16 → among x (ts k).body ≡ false) (λ i. (0 ≤ i) × (i < 16) × (among x (ts i).body ≡ true) × ((k : ℕ) → 0 ≤ k → k < i → among x (ts k).body ≡ false)) →
    MatchOption o (occupied 16 ts x ≡ false) (λ i. (i < 16) × (among x (ts i).body ≡ true))
found_train ts x None h = vacant_all ts x 16 (λ k l. h k (omega arith) l)
found_train ts x (Some i) h = (h.1, h.2)
