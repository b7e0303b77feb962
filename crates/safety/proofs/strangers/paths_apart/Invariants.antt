use Rattle.std.proofs.Common.{length}
use Rattle.safety.proofs.Sides.{Passed}
use Rattle.safety.proofs.strangers.paths_apart.Given as goal

abbrev pub invariant-loop-x : goal.invariant-loop-x
invariant-loop-x l = Passed l.xs l.ys (length l.yielded)
