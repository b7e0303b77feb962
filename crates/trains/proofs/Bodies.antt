-- The sections of one train, as a list and by their places.
use Rattle.std.proofs.Common.{◌≡◌, ℕ, zero, suc, ◌-◌, ◌<◌, ◌≤◌, Bool, true, false, eqb, ltb, List, [], ◌∷◌, ◌++◌, reverse, length, take, sym, refl, ap, ◌∙◌, arith}
use mathlib.Core.List.{reverse-cons}
use Rattle.std.specs.List.{slice_get}
use Rattle.std.specs.Option.{unwrap_or}
use Rattle.std.proofs.lemmas.Option.{unwrap_or-slice_get}
use Rattle.plan.specs.Plan.{among, last_of}
use Rattle.plan.proofs.Walks.{last_is, last_nil}
use Rattle.trains.specs.Trains.{Train, empty, front, reversed, without_last}
use Rattle.trains.specs.Held.{all_inside}

pub empty_is : (xs : List ℕ) → eqb (length xs) 0 ≡ empty xs
unfolding empty
empty_is [] = refl
empty_is (x ∷ xs) = grind arith

pub empty_nil : (xs : List ℕ) → empty xs ≡ true → xs ≡ []
unfolding empty
empty_nil [] h = refl
empty_nil (x ∷ xs) h = absurd (grind arith)

pub short_is : (xs : List ℕ) (n m : ℕ) → n ≡ m → m ≡ length xs → ltb n 2 ≡ empty (without_last xs)
unfolding empty without_last
short_is [] n m e f = grind arith
short_is (x ∷ []) n m e f = grind arith
short_is (x ∷ (y ∷ ys)) n m e f = grind arith

pub front_is : (xs : List ℕ) → unwrap_or (slice_get xs 0) 0 ≡ front xs
unfolding front
front_is [] = refl
front_is (x ∷ xs) = refl

pub back_is : (xs : List ℕ) → unwrap_or (slice_get xs (length xs - 1)) 0 ≡ last_of 0 xs
back_is [] = sym (last_nil [] (omega arith))
back_is (x ∷ xs) = unwrap_or-slice_get (x ∷ xs) (length (x ∷ xs) - 1) 0 ∙ last_is (x ∷ xs) (omega arith)

cut : (xs : List ℕ) (k : ℕ) → suc k ≡ length xs → take k xs ≡ without_last xs
unfolding without_last
cut [] k e = absurd (omega arith)
cut (x ∷ []) zero e = refl
cut (x ∷ []) (suc k) e = absurd (omega arith)
cut (x ∷ (y ∷ ys)) zero e = absurd (omega arith)
cut (x ∷ (y ∷ ys)) (suc k) e = ap (λ (zs : List ℕ). x ∷ zs) (cut (y ∷ ys) k (omega arith))

pub drawn : (xs ys : List ℕ) (m : ℕ) → m ≡ length xs → ys ≡ take (m - 1) xs → ys ≡ without_last xs
unfolding without_last
drawn [] ys m e h = let z : m - 1 ≡ 0 = omega arith in h ∙ ap (λ (n : ℕ). take n []) z
drawn (x ∷ xs) ys m e h = h ∙ cut (x ∷ xs) (m - 1) (omega arith)

pub reversed_is : (xs : List ℕ) → reverse xs ≡ reversed xs
unfolding reversed
reversed_is [] = refl
reversed_is (x ∷ xs) = reverse-cons x xs ∙ ap (λ (zs : List ℕ). zs ++ (x ∷ [])) (reversed_is xs)

pub same_way : (u : Bool) (a b : List ℕ) → a ≡ b → ◌≡◌ {A = Train} (record { up = u; body = a }) (record { up = u; body = b })
same_way u a b e = ap (λ (z : List ℕ). record { up = u; body = z }) e

-- sections below 64 stay so
pub cut_inside : (xs : List ℕ) → all_inside xs ≡ true → all_inside (without_last xs) ≡ true
unfolding all_inside without_last
cut_inside [] h = refl
cut_inside (x ∷ []) h = refl
cut_inside (x ∷ (y ∷ ys)) h = let ih = cut_inside (y ∷ ys) in grind arith

append_inside : (xs ys : List ℕ) → all_inside xs ≡ true → all_inside ys ≡ true → all_inside (xs ++ ys) ≡ true
unfolding all_inside
append_inside [] ys h k = k
append_inside (x ∷ xs) ys h k = let ih = append_inside xs ys in grind arith

pub reversed_inside : (xs : List ℕ) → all_inside xs ≡ true → all_inside (reversed xs) ≡ true
unfolding all_inside reversed
reversed_inside [] h = refl
reversed_inside (x ∷ xs) h = append_inside (reversed xs) (x ∷ []) (reversed_inside xs (grind arith)) (grind arith)

pub cons_inside : (x : ℕ) (xs : List ℕ) → x < 64 → all_inside xs ≡ true → all_inside (x ∷ xs) ≡ true
unfolding all_inside
cons_inside x xs l h = grind arith

pub none_inside : all_inside [] ≡ true
unfolding all_inside
none_inside = refl

pub among_inside : (xs : List ℕ) (x : ℕ) → all_inside xs ≡ true → 64 ≤ x → among x xs ≡ false
unfolding all_inside among
among_inside [] x h l = refl
among_inside (y ∷ ys) x h l = let ih = among_inside ys x in grind arith
