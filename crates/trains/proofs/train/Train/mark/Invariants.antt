use Rattle.std.proofs.Common.{◌≡◌, drop}
use Rattle.trains.specs.Held.{mark_all}
use Rattle.trains.proofs.train.Train.mark.Given as goal

abbrev pub invariant-loop-x : goal.invariant-loop-x
invariant-loop-x l = mark_all (drop l.x-index l.x-items) l.occupied ≡ mark_all l.x-items l.initial.occupied
