use Rattle.plan.proofs.Sides.{same_is}
use Rattle.trains.proofs.track.opens.Goals as goal

pub returns : goal.returns
returns c = let s = same_is c.up.result c.args.up in cc
