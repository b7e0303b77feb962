use Rattle.std.proofs.Common.{◌∙◌}
use Rattle.plan.specs.View.{plan_of, route_of}
use Rattle.soundness.proofs.Loops.{ends_is}
use Rattle.soundness.proofs.rules.ends.Goals as goal

pub returns : goal.returns
returns c = c.has_end.ensures ∙ ends_is (plan_of c.args.plan) (route_of c.args.route) c.last-last.result _ _ _ c.last-last.ensures c.up.ensures c.signal.ensures c.edge.ensures
