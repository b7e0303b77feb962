use Rattle.std.proofs.Common.{rules}
use Rattle.plan.specs.Numbers.{plan_in}
use Rattle.plan.proofs.view.Plan.time.Goals as goal

pub returns : goal.returns
unfolding plan_in
returns c = search rules
