use Rattle.std.proofs.Common.{◌≡◌, ◌-◌, length}
use Rattle.plan.specs.Numbers.{too_large}
use Rattle.plan.proofs.read.too_large.Given as goal

abbrev pub invariant-loop-k : goal.invariant-loop-k
invariant-loop-k l = too_large l.numbers l.k (length l.numbers - l.k) ≡ too_large l.numbers 0 (length l.numbers)
