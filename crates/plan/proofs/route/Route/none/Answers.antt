use Rattle.std.proofs.Common.{refl}
use Rattle.plan.specs.Plan.{no_route}
use Rattle.plan.specs.Numbers.{path_at, needs_at}
use Rattle.plan.proofs.route.Route.none.Goals as goal

pub returns : goal.returns
unfolding no_route path_at needs_at
returns c = refl
