use Rattle.message.proofs.Places.{read_back}
use Rattle.message.proofs.read_back_holds.Goals as goal

pub returns : goal.returns
returns c = read_back
