use Rattle.trains.proofs.Bodies.{empty_is}
use Rattle.trains.proofs.train.Train.is_nowhere.Goals as goal

pub returns : goal.returns
returns c = let f = empty_is c.args.self.now.body.items in cc
