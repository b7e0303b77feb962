use Rattle.std.proofs.Common.{rules}
use Rattle.plan.specs.View.{route_of}
use Rattle.plan.proofs.Walks.{last_or}
use Rattle.plan.proofs.route.Route.last.Goals as goal

pub returns : goal.returns
returns c = let l = last_or (route_of c.args.self).path in search rules
