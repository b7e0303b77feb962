use Rattle.std.proofs.Common.{ap, ◌∙◌}
use Rattle.plan.specs.Plan.{marks}
use Rattle.plan.specs.View.{plan_of}
use Rattle.interlocking.specs.State.{all_free}
use Rattle.interlocking.specs.Says.{state_of}
use Rattle.interlocking.proofs.Does.{ask_is}
use Rattle.interlocking.proofs.Interlocking.can_ask.Goals as goal

pub returns : goal.returns
returns c =
    ask_is (plan_of c.args.sight.plan) (state_of c.args.self.now) (marks c.args.sight.occupied.now) (marks c.args.sight.lies.now) c.args.r _ _ _ _ _ _ _
    c.routes.ensures c.route-route.ensures c.stage_of.ensures
    (c.all_free-free.ensures ∙ ap (all_free (state_of c.args.self.now) (marks c.args.sight.occupied.now)) c.path.ensures) c.can_have-had.ensures c.is_idle-idle.ensures c.may_set.ensures
