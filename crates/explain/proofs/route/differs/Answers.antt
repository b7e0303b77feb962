use Rattle.std.proofs.Common.{rules}
use Rattle.plan.specs.View.{plan_of, route_of}
use Rattle.explain.proofs.Walk.{differs_by}
use Rattle.explain.proofs.route.differs.Goals as goal

pub returns : goal.returns
returns c = differs_by (plan_of c.args.plan) (route_of c.args.route) c.begin-begin.result c.path-path.result.now c.found.result c.repeated.result c.map.result c.begin-begin.ensures c.path-path.ensures c.found.ensures c.if-found.false c.repeated.ensures (search rules)
