use Rattle.trains.proofs.Bodies.{drawn, same_way}
use Rattle.trains.proofs.train.Train.draws.Goals as goal

pub returns : goal.returns
returns c = same_way _ _ _ (drawn _ _ _ c.args.self.now.body.ok.0 c.pop.ensures.rest)
