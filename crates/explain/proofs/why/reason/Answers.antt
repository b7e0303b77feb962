use Rattle.std.proofs.Common.{rules}
use Rattle.explain.proofs.Turned.{in_route, in_whole}
use Rattle.explain.proofs.why.reason.Goals as goal

pub returns-in-Route : goal.returns-in-Route
returns-in-Route c = in_route c.args.plan.numbers.now _ _ _ c.fault_in.result c.map.result c.in-Route.is c.fault_in.ensures (search rules)

pub returns-in-Whole : goal.returns-in-Whole
returns-in-Whole c = in_whole c.args.plan.numbers.now _ _ c.whole_fault.result c.map-in-Whole.result c.in-Whole.is c.whole_fault.ensures (search rules)
