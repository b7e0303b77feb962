use Rattle.replay.proofs.Owned.{own}
use Rattle.replay.proofs.own_holds.Goals as goal

pub returns : goal.returns
returns c = own
