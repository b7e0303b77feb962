-- An array that `from_fn` fills, each place with what belongs there.
use Rattle.std.proofs.Common.{◌≡◌, ℕ, zero, suc, ◌+◌, ◌<◌, ◌≤◌, eqb, ltb, ◌≢◌, Bool, true, false, List, get_or, refl, subst, arith, ltb-false, ltb-true, eqb-true}
use borrow.Author.Tests.{eqb-false}
use Rattle.std.proofs.lemmas.List.{get_or_past}
use Rattle.std.specs.Array.{IsFromFnResult, IsFromFnResultFrom}
use Rattle.std.specs.Fn.{Called}
use denote.Param.Members.{Mut}
use Rattle.plan.specs.Plan.{pick}

-- each call gives what belongs at its place, and leaves the closure as it is
abbrev pub Gives : {F B : Type 0} → Mut F (ℕ × Unit {0}) B → F → (ℕ → B) → Type 0
Gives {F} {B} g f v = (i : ℕ) (y : B) (q : F) → Called g f (i, tt) y q → (q ≡ f) × (y ≡ v i)

filled_from : {F B : Type 0} (g : Mut F (ℕ × Unit {0}) B) (f : F) (v : ℕ → B) (ys : List B) (i n x : ℕ) (d : B) → Gives g f v → IsFromFnResultFrom g f ys i n → i ≤ x → x < i + n → get_or ys x d ≡ v x
filled_from g f v ys i zero x d c r l m = absurd (omega arith)
filled_from {F} {B} g f v ys i (suc n) x d c r l m =
    go (eqb x i) refl (filled_from g f v ys (i + 1) n x d c (subst (λ w. IsFromFnResultFrom g w ys (i + 1) n) said.0 r.4))
  where
    said : (r.0 ≡ f) × (r.1 ≡ v i)
    said = c i r.1 r.0 r.3

    go : (b : Bool) → eqb x i ≡ b → (i + 1 ≤ x → x < i + 1 + n → get_or ys x d ≡ v x) → get_or ys x d ≡ v x
    go true e ih = let z = eqb-true x i e in let w = r.2.1 d in let s = said in cc
    go false e ih = let z : x ≢ i = eqb-false x i e in ih (omega arith) (omega arith)

pub filled : {F B : Type 0} (g : Mut F (ℕ × Unit {0}) B) (f : F) (v : ℕ → B) (ys : List B) (n : ℕ) (d : B) → IsFromFnResult g f ys n → Gives g f v → (x : ℕ) → get_or ys x d ≡ pick (ltb x n) (v x) d
filled g f v ys n d r c x = go (ltb x n) refl
  where
    go : (b : Bool) → ltb x n ≡ b → get_or ys x d ≡ pick b (v x) d
    go true e = let z : x < n = ltb-true x n e in filled_from g f v ys 0 n x d c r.each (omega arith) (omega arith)
    go false e = let z : n ≤ x = ltb-false x n e in get_or_past ys x d (omega (arith, r.long))
