use Rattle.trains.proofs.Bodies.{back_is}
use Rattle.trains.proofs.train.Train.back.Goals as goal

pub returns : goal.returns
returns c = let f = back_is c.args.self.now.body.items in cc
