-- When a reason is right, and to which outcome it belongs. Assumes nothing: these are definitions.
use Rattle.std.specs.Prelude.{◌≡◌, ℕ, ◌<◌, ◌⊎◌, List, length, Some, None, Ok, Err, Option, Result, ◌≢◌, slice_index}
use Rattle.plan.specs.Plan.{route}
use Rattle.plan.specs.Numbers.{plan_in, whole, most, routes_from}
use Rattle.plan.specs.declared.Size.{Size}
use Rattle.plan.specs.declared.Size.TheVariants.{Sections, Points, Routes, Time}
use Rattle.plan.specs.declared.Refusal.{Refusal}
use Rattle.plan.specs.declared.Refusal.TheVariants.{Sizes, Length as RefusedLength, Number}
use Rattle.soundness.specs.Rules.{FirstBroken, Judges}
use Rattle.soundness.specs.declared.Verdict.{Verdict}
use Rattle.soundness.specs.declared.Verdict.TheVariants.{Sound as IsSound, Route as InRoute, Whole as InWhole}
use Rattle.explain.specs.declared.NumbersFault.{NumbersFault}
use Rattle.explain.specs.declared.NumbersFault.TheVariants.{TooFew, OutOfRange, Length, Large}
use Rattle.explain.specs.declared.Reason.{Reason}
use Rattle.explain.specs.declared.Reason.TheVariants.{Numbers, Route, Whole}
use Rattle.explain.specs.Faults.{breaks, breaks_whole, WrongRoute, WrongPlan}

abbrev pub size_of : List ℕ → Size → ℕ
size_of xs Sections = slice_index xs 0
size_of xs Points = slice_index xs 1
size_of xs Routes = slice_index xs 3
size_of xs Time = slice_index xs 2

-- a size is out of its range
abbrev pub Out : Size → ℕ → Type 0
Out Sections n = (n < 1) ⊎ (64 < n)
Out Points n = 32 < n
Out Routes n = 64 < n
Out Time n = 1000 < n

-- what is wrong with the numbers
abbrev pub WrongNumbers : List ℕ → NumbersFault → Type 0
WrongNumbers xs (TooFew n) = (length xs ≡ n) × (n < 4)
WrongNumbers xs (OutOfRange s n) = (size_of xs s ≡ n) × Out s n
WrongNumbers xs (Length n m) = (length xs ≡ n) × (whole xs ≡ m) × (n ≢ m)
WrongNumbers xs (Large k n m) = (k < length xs) × (slice_index xs k ≡ n) × (most (routes_from xs) k ≡ m) × (m < n)

abbrev pub refusal_of : NumbersFault → Refusal
refusal_of (TooFew n) = Sizes Sections
refusal_of (OutOfRange s n) = Sizes s
refusal_of (Length n m) = RefusedLength m
refusal_of (Large k n m) = Number k

-- a fault belongs to a refusal, and is really there
pub record TurnedAway (xs : List ℕ) (e : Refusal) (f : NumbersFault) : Type 0 where
  pub refusal : refusal_of f ≡ e
  pub wrong : WrongNumbers xs f

-- what a reason names is really wrong
abbrev pub Wrong : List ℕ → Reason → Type 0
Wrong xs (Numbers f) = WrongNumbers xs f
Wrong xs (Route r f) = (r < length (plan_in xs).routes) × WrongRoute (plan_in xs) (route (plan_in xs) r) f
Wrong xs (Whole f) = WrongPlan (plan_in xs) f

-- the outcome to which a reason belongs
abbrev pub outcome_of : Reason → Result Verdict Refusal
outcome_of (Numbers f) = Err (refusal_of f)
outcome_of (Route r f) = Ok (InRoute r (breaks f))
outcome_of (Whole f) = Ok (InWhole (breaks_whole f))

-- a reason for a verdict; there is none only if the plan is sound or has another verdict
abbrev pub Explains : List ℕ → Verdict → Option Reason → Type 0
Explains xs v None = FirstBroken (plan_in xs) v → v ≡ IsSound
Explains xs v (Some w) = (outcome_of w ≡ Ok v) × Wrong xs w

-- a reason for the outcome; there is none just if the plan is sound
abbrev pub Explained : List ℕ → Option Reason → Type 0
Explained xs None = Judges xs (Ok IsSound)
Explained xs (Some w) = Judges xs (outcome_of w) × Wrong xs w
