use Rattle.safety.proofs.Guards.{agrees}
use Rattle.safety.proofs.agrees_holds.Goals as goal

pub returns : goal.returns
returns c = agrees
