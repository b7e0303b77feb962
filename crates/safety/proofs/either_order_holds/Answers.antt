use Rattle.safety.proofs.Order.{either_order}
use Rattle.safety.proofs.either_order_holds.Goals as goal

pub returns : goal.returns
returns c = either_order
