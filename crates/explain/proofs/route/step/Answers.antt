use Rattle.plan.specs.View.{plan_of, route_of}
use Rattle.explain.proofs.Walk.{no_section}
use Rattle.explain.proofs.route.step.Goals as goal

pub returns-then-n-b : goal.returns-then-n-b
returns-then-n-b c = no_section (plan_of c.args.plan) (route_of c.args.route) _ _ _ c.requires c.sections-n.ensures c.if-n-b.true
