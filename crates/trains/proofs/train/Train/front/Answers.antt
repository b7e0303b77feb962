use Rattle.trains.proofs.Bodies.{front_is}
use Rattle.trains.proofs.train.Train.front.Goals as goal

pub returns : goal.returns
returns c = let f = front_is c.args.self.now.body.items in cc
