use Rattle.std.proofs.lemmas.Result.{IfOk-weaker}
use Rattle.safety.proofs.Promised.{promised}
use Rattle.safety.proofs.run.run.Goals as goal

pub returns : goal.returns
returns c = IfOk-weaker c.run.result _ _ (λ done h. promised c.args.plan.numbers.now _ _ _ _ _ c.args.plan.formed h.1) c.run.ensures
