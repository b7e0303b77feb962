use Rattle.std.proofs.Common.{◌≡◌, length}
use Rattle.plan.specs.Plan.{marks}
use Rattle.trains.specs.Trains.{occupied}
use Rattle.trains.specs.Held.{trains_of, within}
use Rattle.trains.proofs.fleet.occupancy.Given as goal

abbrev pub invariant-loop-train : goal.invariant-loop-train
invariant-loop-train l = (length l.occupied ≡ 64) × (marks l.occupied ≡ within (occupied l.train-index (trains_of l.trains)))
