use Rattle.safety.proofs.Steps.{keeps}
use Rattle.safety.proofs.keeps_holds.Goals as goal

pub returns : goal.returns
returns c = keeps
