use Rattle.std.proofs.Common.{false, length, replicate, refl, ap, ◌∙◌, arith}
use Rattle.trains.specs.Held.{trains_of}
use Rattle.trains.proofs.Tracks.{all_clear, seen_none, seen_more, length_marked}
use Rattle.trains.proofs.Trains.{trains_at}
use Rattle.trains.proofs.fleet.occupancy.Goals as goal

pub loop-train-init : goal.loop-train-init
loop-train-init c = (refl, seen_none (trains_of c.args.trains.now) (replicate 64 false) (all_clear 64))

pub loop-train-preserved : goal.loop-train-preserved
loop-train-preserved c = (
  ap length c.mark.ensures ∙ length_marked _ _ ∙ c.loop-train.invariant.0,
  seen_more (trains_of c.args.trains.now) c.loop-train.occupied _ c.loop-train.train-index _ c.loop-train.invariant.0
      (trains_at c.args.trains.now c.loop-train.train-index _ (omega arith) c.train-item.is) c.mark.ensures c.loop-train.invariant.1,
)
