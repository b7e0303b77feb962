use Rattle.std.proofs.Common.{ap, ◌∙◌}
use Rattle.plan.specs.Plan.{marks}
use Rattle.plan.specs.View.{plan_of}
use Rattle.interlocking.specs.State.{all_vacant}
use Rattle.interlocking.specs.Says.{state_of}
use Rattle.interlocking.proofs.Does.{back_is}
use Rattle.interlocking.proofs.Interlocking.can_back.Goals as goal

pub returns : goal.returns
returns c =
    back_is (plan_of c.args.sight.plan) (state_of c.args.self.now) (marks c.args.sight.occupied.now) (marks c.args.sight.lies.now) c.args.r _ _ _ _ _ _ _
    c.routes.ensures c.route.ensures c.stage_of-stage.ensures
    (c.all_vacant-vacant.ensures ∙ ap (all_vacant (marks c.args.sight.occupied.now)) c.path.ensures) c.can_fall.ensures c.is_used.ensures c.may_take_back.ensures
