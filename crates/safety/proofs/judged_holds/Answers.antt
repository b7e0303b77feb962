use Rattle.soundness.proofs.Order.{is_judged}
use Rattle.safety.proofs.judged_holds.Goals as goal

pub returns : goal.returns
returns c = is_judged
