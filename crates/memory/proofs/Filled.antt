-- A loop that fills an array, and one that writes a memory.
use Rattle.std.proofs.Common.{◌≡◌, ℕ, ◌<◌, ◌≤◌, Bool, true, false, ltb, List, length, get_or, refl, ◌∙◌, arith, ltb-false, ltb-true}
use mathlib.Core.Path.{fun_ext}
use Rattle.std.proofs.lemmas.List.{get_or_past}
use Rattle.plan.specs.Plan.{pick, marks}
use Rattle.plan.specs.Numbers.{bitb}
use Rattle.memory.specs.Entry.{marked}

-- what a list of n says, and its default beyond
pub within : {X : Type 0} (xs : List X) (n x : ℕ) (d v : X) → length xs ≡ n → (x < n → v ≡ get_or xs x d) → pick (ltb x n) v d ≡ get_or xs x d
within {X} xs n x d v l e = go (ltb x n) refl
  where
    go : (b : Bool) → ltb x n ≡ b → pick (ltb x n) v d ≡ get_or xs x d
    go true q = let f = e (ltb-true x n q) in cc
    go false q =
        let m : n ≤ x = ltb-false x n q in
        let k : length xs ≤ x = omega arith in
        let f = get_or_past xs x d k in cc

-- marks that were read say what was lent
pub marks_are : (n : ℕ) (bs : List Bool) (xs : List ℕ) → length xs ≡ n → ((x : ℕ) → get_or bs x false ≡ pick (ltb x n) (bitb (get_or xs x 0)) false) → marks bs ≡ marked xs
marks_are n bs xs l e = fun_ext (λ x. e x ∙ go x (ltb x n) refl)
  where
    go : (x : ℕ) (b : Bool) → ltb x n ≡ b → pick (ltb x n) (bitb (get_or xs x 0)) false ≡ marked xs x
    go x true q = cc
    go x false q =
        let m : n ≤ x = ltb-false x n q in
        let k : length xs ≤ x = omega arith in
        let f = get_or_past xs x 0 k in cc
