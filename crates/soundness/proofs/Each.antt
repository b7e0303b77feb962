-- Each test of a list, or of all numbers below one, is its rule.
use Rattle.std.proofs.Common.{◌≡◌, ℕ, zero, suc, ◌-◌, ◌<◌, ◌≤◌, Bool, true, false, not, eqb, ◌⊎◌, List, [], ◌∷◌, length, get_or, take, sym, refl, ap, ◌∙◌, inl, inr, arith}
use Rattle.std.proofs.lemmas.List.{get_or-take, length-take-le}
use Rattle.plan.specs.Plan.{Plan, Positions, beyond, needed, Once, none, more}
use Rattle.plan.specs.declared.Need.{Need}
use Rattle.soundness.specs.Tests.{all_below, empty, differ, known, quiet, own, closed, shut}

pub decide : (b : Bool) → (b ≡ true) ⊎ (b ≡ false)
decide true = inl refl
decide false = inr refl

pub clash : {A : Type 0} (b : Bool) → b ≡ true → b ≡ false → A
clash b t f = absurd (grind arith)

pub untrue : (b : Bool) → (b ≡ false → ⊥) → b ≡ true
untrue true h = refl
untrue false h = absurd (h refl)

-- all numbers below one
pub all_at : (n : ℕ) (f : ℕ → Bool) (k : ℕ) → all_below n f ≡ true → k < n → f k ≡ true
unfolding all_below
all_at zero f k h l = absurd (omega arith)
all_at (suc n) f k h l =
    elim (decide (eqb k n)) [
      | inl e ↦ (let q : k ≡ n = grind arith in rw q (grind arith))
      | inr e ↦ (let q : k < n = grind arith in all_at n f k (grind arith) q)
    ]

pub all_true : (n : ℕ) (f : ℕ → Bool) → ((k : ℕ) → k < n → f k ≡ true) → all_below n f ≡ true
unfolding all_below
all_true zero f h = refl
all_true (suc n) f h =
    let ih = all_true n f (λ k l. h k (omega arith)) in
    let l : n < suc n = omega arith in
    let here = h n l in grind arith

-- all different
pub differ_once : (xs : List ℕ) → differ xs ≡ true → Once xs
unfolding differ
differ_once [] h = none
differ_once (x ∷ xs) h = more x xs (grind arith) (differ_once xs (grind arith))

pub once_differ : (xs : List ℕ) → Once xs → differ xs ≡ true
unfolding differ
once_differ [] o = refl
once_differ (x ∷ xs) (more y ys a o) = let ih = once_differ ys o in grind arith

pub some_path : (xs : List ℕ) → not (empty xs) ≡ true → xs ≡ [] → ⊥
unfolding empty
some_path [] h e = grind arith
some_path (x ∷ xs) h e = grind arith

pub path_some : (xs : List ℕ) → (xs ≡ [] → ⊥) → not (empty xs) ≡ true
unfolding empty
path_some [] h = absurd (h refl)
path_some (x ∷ xs) h = refl

-- points that there are
pub known_all : (m : ℕ) (ns : List Need) (q : ℕ) → known m ns ≡ true → needed q ns ≡ true → q < m
unfolding known needed
known_all m [] q h e = absurd (grind arith)
known_all m (n ∷ ns) q h e = let ih = known_all m ns q in grind arith

pub all_known : (m : ℕ) (ns : List Need) → ((q : ℕ) → needed q ns ≡ true → q < m) → known m ns ≡ true
unfolding known needed
all_known m [] h = refl
all_known m (n ∷ ns) h =
    let ih = all_known m ns (λ q e. h q (grind arith)) in
    let here = h n.point (grind arith) in grind arith

-- no signals
pub quiet_at : (p : Plan) (up : Bool) (xs : List ℕ) (k : ℕ) → quiet p up xs ≡ true → k < length xs → p.signal up (get_or xs k 0) ≡ false
unfolding quiet
quiet_at p up [] k h l = absurd (omega arith)
quiet_at p up (x ∷ xs) zero h l = grind arith
quiet_at p up (x ∷ xs) (suc k) h l = quiet_at p up xs k (grind arith) (omega arith)

pub quiet_all : (p : Plan) (up : Bool) (xs : List ℕ) → ((k : ℕ) → k < length xs → p.signal up (get_or xs k 0) ≡ false) → quiet p up xs ≡ true
unfolding quiet
quiet_all p up [] h = refl
quiet_all p up (x ∷ xs) h =
    let ih = quiet_all p up xs (λ k l. h (suc k) (omega arith)) in
    let here = h 0 (omega arith) in grind arith

pub quiet_passes : (p : Plan) (up : Bool) (xs : List ℕ) → quiet p up (take (length xs - 1) xs) ≡ true →
    (k : ℕ) → suc k < length xs → p.signal up (get_or xs k 0) ≡ false
quiet_passes p up xs h k l =
    let m : k < length xs - 1 = omega arith in
    let s : length xs - 1 ≤ length xs = omega arith in
    let n = length-take-le (length xs - 1) xs s in
    let e = get_or-take (length xs - 1) xs k 0 m in
    let g = quiet_at p up (take (length xs - 1) xs) k h (omega arith) in ap (p.signal up) (sym e) ∙ g

pub passes_quiet : (p : Plan) (up : Bool) (xs : List ℕ) →
    ((k : ℕ) → suc k < length xs → p.signal up (get_or xs k 0) ≡ false) → quiet p up (take (length xs - 1) xs) ≡ true
passes_quiet p up xs h =
    let s : length xs - 1 ≤ length xs = omega arith in
    let n = length-take-le (length xs - 1) xs s in
    quiet_all p up (take (length xs - 1) xs) (λ k l.
    let m : k < length xs - 1 = omega arith in
    let e = get_or-take (length xs - 1) xs k 0 m in
    let g = h k (omega arith) in ap (p.signal up) e ∙ g)

-- ends of sections
pub own_is : (p : Plan) (up : Bool) (x : ℕ) → own p up x ≡ true → (p.end up x).moves ≡ true →
    ((p.end up x).point < p.points) × (p.place (p.end up x).point ≡ x)
unfolding own
own_is p up x h m = grind arith

pub is_own : (p : Plan) (up : Bool) (x : ℕ) → ((p.end up x).moves ≡ true → ((p.end up x).point < p.points) × (p.place (p.end up x).point ≡ x)) → own p up x ≡ true
unfolding own
is_own p up x h = elim (decide (p.end up x).moves) [ inl m ↦ (let g = h m in grind arith) | inr m ↦ grind arith ]

pub closed_is : (p : Plan) (up : Bool) (x : ℕ) (t : Positions) → closed p.sections (p.end up x) ≡ true → p.sections ≤ beyond p t up x
unfolding closed beyond
closed_is p up x t h = grind arith

pub is_closed : (p : Plan) (up : Bool) (x : ℕ) → ((t : Positions) → p.sections ≤ beyond p t up x) → closed p.sections (p.end up x) ≡ true
unfolding closed beyond
is_closed p up x h = let l = h (λ q. true) in let r = h (λ q. false) in grind arith

pub shut_is : (p : Plan) (x : ℕ) (up : Bool) → shut p x up ≡ true → (p.signal up x ≡ true) ⊎ ((t : Positions) → p.sections ≤ beyond p t up x)
unfolding shut
shut_is p x up h =
    elim (decide (p.signal up x)) [
      | inl e ↦ inl e
      | inr e ↦ inr (λ t. closed_is p up x t (grind arith))
    ]

pub is_shut : (p : Plan) (x : ℕ) (up : Bool) → (p.signal up x ≡ true) ⊎ ((t : Positions) → p.sections ≤ beyond p t up x) → shut p x up ≡ true
unfolding shut
is_shut p x up (inl e) = grind arith
is_shut p x up (inr h) = let e = is_closed p up x h in grind arith
