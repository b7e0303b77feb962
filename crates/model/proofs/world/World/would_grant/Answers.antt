use Rattle.std.proofs.Common.{refl}
use Rattle.plan.specs.Plan.{marks}
use Rattle.plan.specs.View.{plan_of}
use Rattle.model.proofs.Steps.{sees, told_asked}
use Rattle.model.proofs.world.World.would_grant.Goals as goal

pub returns : goal.returns
returns c =
    (told_asked (plan_of c.args.plan) c.args.self.now c.args.request c.args.request (marks c.occupancy-occupied.result) c.perform.result.0 c.perform.result.1 c.perform.ensures
    refl (sees c.args.self.now (marks c.occupancy-occupied.result) c.occupancy-occupied.ensures)).told
