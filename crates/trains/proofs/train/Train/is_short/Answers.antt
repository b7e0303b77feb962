use Rattle.trains.proofs.Bodies.{short_is}
use Rattle.trains.proofs.train.Train.is_short.Goals as goal

pub returns : goal.returns
returns c = short_is _ _ _ c.len.ensures c.args.self.now.body.ok.0
