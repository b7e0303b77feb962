use Rattle.std.proofs.Common.{vec_items}
use Rattle.trains.proofs.Trains.{nowhere_more, nowhere_start}
use Rattle.trains.proofs.fleet.no_trains.Goals as goal

pub loop-init : goal.loop-init
loop-init c = nowhere_start _ c.new-trains.ensures.items

pub loop-preserved : goal.loop-preserved
loop-preserved c = nowhere_more c.loop.counter (vec_items c.loop.trains) _ c.nowhere.result c.in_ok-push.ensures.items c.nowhere.ensures c.loop.invariant
