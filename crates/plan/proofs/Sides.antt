-- Two sides, or two numbers, are the same.
use Rattle.std.proofs.Common.{◌≡◌, ℕ, Bool, true, false, eqb, refl, arith}
use Rattle.std.proofs.lemmas.Bool.Decides.{nat_tests}
use mathlib.Core.Bool.{beq}
use Rattle.plan.specs.Plan.{sameb}

pub same_is : (a b : Bool) → beq a b ≡ sameb a b
unfolding sameb
same_is true true = refl
same_is true false = refl
same_is false true = refl
same_is false false = refl

pub eqb_swap : (x y : ℕ) → eqb x y ≡ eqb y x
eqb_swap x y = grind (arith, nat_tests)
