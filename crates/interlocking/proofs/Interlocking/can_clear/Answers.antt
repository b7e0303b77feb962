use Rattle.plan.specs.Plan.{marks}
use Rattle.plan.specs.View.{plan_of}
use Rattle.interlocking.specs.Says.{state_of}
use Rattle.interlocking.proofs.Does.{clear_is}
use Rattle.interlocking.proofs.Interlocking.can_clear.Goals as goal

pub returns : goal.returns
returns c =
    clear_is (plan_of c.args.sight.plan) (state_of c.args.self.now) (marks c.args.sight.occupied.now) (marks c.args.sight.lies.now) c.args.r _ _ _ _ _ _ _
    c.routes.ensures c.route-route.ensures c.stage_of.ensures c.met-lie.ensures c.met-wanted.ensures c.is_set-set.ensures c.may_show.ensures
