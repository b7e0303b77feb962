use Rattle.std.proofs.Common.{◌≡◌, length}
use Rattle.plan.specs.Plan.{repeated}
use Rattle.plan.proofs.read.repeated.Given as goal

abbrev pub invariant-loop-x : goal.invariant-loop-x
invariant-loop-x l = repeated l.rest ≡ repeated l.path

abbrev pub decreases-loop-x : goal.decreases-loop-x
decreases-loop-x l = length l.rest
