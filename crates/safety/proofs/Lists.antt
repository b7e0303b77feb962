-- Lemmas on lists of sections: what is among them, each once, the front, the last, turned round and without the last.
use Rattle.std.proofs.Common.{◌≡◌, ℕ, zero, suc, ◌<◌, true, false, ◌||◌, ◌⊎◌, List, [], ◌∷◌, ◌++◌, length, get_or, refl, ap, ◌∙◌, inl, inr, arith}
use Rattle.plan.specs.Plan.{among, last_of, Once, none, more}
use Rattle.model.specs.World.{without_last, reversed, empty, front}
use Rattle.safety.proofs.Tests.{clash, fails}

-- AMONG
pub among_head : (x : ℕ) (xs : List ℕ) → among x (x ∷ xs) ≡ true
unfolding among
among_head x xs = grind arith

pub among_tail : (x y : ℕ) (xs : List ℕ) → among x xs ≡ true → among x (y ∷ xs) ≡ true
unfolding among
among_tail x y xs h = grind arith

pub among_cases : (x y : ℕ) (ys : List ℕ) → among x (y ∷ ys) ≡ true → (x ≡ y) ⊎ (among x ys ≡ true)
unfolding among
among_cases x y ys h = grind arith

pub among_none : (x : ℕ) → among x [] ≡ false
unfolding among
among_none x = refl

pub among_one : (x y : ℕ) → among x (y ∷ []) ≡ true → x ≡ y
unfolding among
among_one x y h = grind arith

pub among_append : (x : ℕ) (xs ys : List ℕ) → among x (xs ++ ys) ≡ (among x xs || among x ys)
unfolding among
among_append x [] ys = refl
among_append x (y ∷ xs) ys = let ih = among_append x xs ys in grind arith

-- what stands at a place is among them, and what is among them stands at some place
pub among_at : (xs : List ℕ) (k : ℕ) → k < length xs → among (get_or xs k 0) xs ≡ true
among_at [] k h = absurd (omega arith)
among_at (x ∷ xs) zero h = among_head x xs
among_at (x ∷ xs) (suc k) h = among_tail (get_or xs k 0) x xs (among_at xs k (omega arith))

pub among_place : (x : ℕ) (xs : List ℕ) → among x xs ≡ true → (k : ℕ) × (k < length xs) × (get_or xs k 0 ≡ x)
unfolding among
among_place x [] h = absurd (grind arith)
among_place x (y ∷ ys) h =
    elim (among_cases x y ys h) [
      | inl e ↦ (0, omega arith, grind arith)
      | inr e ↦ (let o = among_place x ys e in (suc o.0, omega (arith, o.1), o.2))
    ]

-- EACH ONCE
pub once_tail : {x : ℕ} {xs : List ℕ} → Once (x ∷ xs) → Once xs
once_tail (more x xs a o) = o

pub once_head : {x : ℕ} {xs : List ℕ} → Once (x ∷ xs) → among x xs ≡ false
once_head (more x xs a o) = a

-- the same section, the same place
pub once_same : (xs : List ℕ) (j k : ℕ) → Once xs → j < length xs → k < length xs → get_or xs j 0 ≡ get_or xs k 0 → j ≡ k
once_same [] j k o h i e = omega arith
once_same (x ∷ xs) zero zero o h i e = refl
once_same (x ∷ xs) zero (suc k) o h i e = clash (among x xs) (rw e (among_at xs k (omega arith))) (once_head o)
once_same (x ∷ xs) (suc j) zero o h i e = clash (among x xs) (rw (← e) (among_at xs j (omega arith))) (once_head o)
once_same (x ∷ xs) (suc j) (suc k) o h i e = ap suc (once_same xs j k (once_tail o) (omega arith) (omega arith) e)

once_snoc : (x : ℕ) (zs : List ℕ) → among x zs ≡ false → Once zs → Once (zs ++ (x ∷ []))
unfolding among
once_snoc x [] a o = more x [] refl none
once_snoc x (z ∷ zs) a o =
    let b = among_append z zs (x ∷ []) in let c = once_head o in more z (zs ++ (x ∷ [])) (grind arith) (once_snoc x zs (grind arith) (once_tail o))

-- FRONT AND LAST
pub some_long : (xs : List ℕ) → (xs ≡ [] → ⊥) → 0 < length xs
some_long [] h = absurd (h refl)
some_long (x ∷ xs) h = omega arith

pub front_of : (xs : List ℕ) (y : ℕ) (ys : List ℕ) → xs ≡ y ∷ ys → get_or xs 0 0 ≡ y
front_of xs y ys e = ap (λ zs. get_or zs 0 0) e

pub front_among : (xs : List ℕ) (y : ℕ) (ys : List ℕ) → xs ≡ y ∷ ys → among y xs ≡ true
front_among xs y ys e = rw e (among_head y ys)

pub split_front : (xs : List ℕ) → empty xs ≡ false → (ys : List ℕ) × (xs ≡ front xs ∷ ys)
unfolding empty front
split_front [] h = absurd (grind arith)
split_front (x ∷ xs) h = (xs, refl)

-- TURNED ROUND: the same sections, each once, with the last in front
pub among_round : (x : ℕ) (xs : List ℕ) → among x (reversed xs) ≡ among x xs
unfolding among reversed
among_round x [] = refl
among_round x (y ∷ xs) = let ih = among_round x xs in let a = among_append x (reversed xs) (y ∷ []) in grind arith

pub once_round : (xs : List ℕ) → Once xs → Once (reversed xs)
unfolding reversed
once_round [] o = none
once_round (x ∷ xs) o = once_snoc x (reversed xs) (among_round x xs ∙ once_head o) (once_round xs (once_tail o))

front_snoc : (d x : ℕ) (zs : List ℕ) → get_or (zs ++ (x ∷ [])) 0 d ≡ get_or zs 0 x
front_snoc d x [] = refl
front_snoc d x (z ∷ zs) = refl

pub front_round : (d : ℕ) (xs : List ℕ) → get_or (reversed xs) 0 d ≡ last_of d xs
unfolding reversed last_of
front_round d [] = refl
front_round d (x ∷ xs) = front_snoc d x (reversed xs) ∙ front_round x xs

-- WITHOUT THE LAST: fewer sections, each once, with the same front
pub among_without_last : (x : ℕ) (xs : List ℕ) → among x (without_last xs) ≡ true → among x xs ≡ true
unfolding without_last among
among_without_last x [] h = h
among_without_last x (y ∷ []) h = grind arith
among_without_last x (y ∷ (z ∷ zs)) h = let ih = among_without_last x (z ∷ zs) in grind (arith, ih)

pub once_without_last : (xs : List ℕ) → Once xs → Once (without_last xs)
unfolding without_last
once_without_last [] o = none
once_without_last (x ∷ []) o = none
once_without_last (x ∷ (y ∷ ys)) o =
    more x (without_last (y ∷ ys)) (fails (among x (y ∷ ys)) (among x (without_last (y ∷ ys))) (among_without_last x (y ∷ ys)) (once_head o)) (once_without_last (y ∷ ys) (once_tail o))

pub front_without_last : (x : ℕ) (xs ys : List ℕ) → without_last ys ≡ x ∷ xs → (zs : List ℕ) × (ys ≡ x ∷ zs)
unfolding without_last
front_without_last x xs [] h = let z : ◌≡◌ {A = ℕ} 0 1 = cc in absurd (omega arith)
front_without_last x xs (y ∷ []) h = let z : ◌≡◌ {A = ℕ} 0 1 = cc in absurd (omega arith)
front_without_last x xs (y ∷ (z ∷ zs)) h = (z ∷ zs, cc)
