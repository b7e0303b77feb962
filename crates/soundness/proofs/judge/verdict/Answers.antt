use Rattle.std.proofs.Common.{ap, ◌∙◌}
use Rattle.plan.specs.Plan.{route}
use Rattle.plan.specs.View.{plan_of}
use Rattle.soundness.specs.Tests.{route_fails}
use Rattle.soundness.proofs.Found.{verdict_start, verdict_route, verdict_more, verdict_whole}
use Rattle.soundness.proofs.judge.verdict.Goals as goal

pub loop-r-init : goal.loop-r-init
loop-r-init c = verdict_start (plan_of c.args.plan) _ c.routes-n.ensures

pub returns-in-Some : goal.returns-in-Some
returns-in-Some c = verdict_route (plan_of c.args.plan) c.loop-r.r _ c.in-Some.rule c.loop-r-test.true c.loop-r.invariant
    (c.in-Some.ensures ∙ ap (route_fails (plan_of c.args.plan)) (c.route.ensures ∙ ap (route (plan_of c.args.plan)) c.from.ensures))

pub loop-r-preserved : goal.loop-r-preserved
loop-r-preserved c = verdict_more (plan_of c.args.plan) c.loop-r.r _ c.loop-r-test.true c.loop-r.invariant
    (c.in_default.ensures ∙ ap (route_fails (plan_of c.args.plan)) (c.route.ensures ∙ ap (route (plan_of c.args.plan)) c.from.ensures))

pub returns : goal.returns
returns c = verdict_whole (plan_of c.args.plan) c.loop-r.r _ _ c.loop-r-test.false c.loop-r.invariant c.whole.ensures
