use Rattle.std.proofs.Common.{◌∙◌}
use Rattle.trains.proofs.Bodies.{reversed_is, same_way}
use Rattle.trains.proofs.train.Train.reverses.Goals as goal

pub returns : goal.returns
returns c = same_way _ _ _ (c.reverse.ensures.items ∙ reversed_is _)
