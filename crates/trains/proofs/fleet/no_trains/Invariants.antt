use Rattle.std.proofs.Common.{vec_items}
use Rattle.trains.specs.Held.{Nowhere}
use Rattle.trains.proofs.fleet.no_trains.Given as goal

abbrev pub invariant-loop : goal.invariant-loop
invariant-loop l = Nowhere l.counter (vec_items l.trains)
