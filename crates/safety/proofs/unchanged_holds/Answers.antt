use Rattle.safety.proofs.Order.{unchanged}
use Rattle.safety.proofs.unchanged_holds.Goals as goal

pub returns : goal.returns
returns c = unchanged
