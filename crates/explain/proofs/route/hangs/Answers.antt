use Rattle.std.proofs.Common.{sym, refl}
use Rattle.plan.specs.View.{plan_of, route_of}
use Rattle.soundness.specs.Tests.{route_test}
use Rattle.soundness.proofs.Loops.{hangs_more, hangs_all}
use Rattle.explain.proofs.Walk.{step_next}
use Rattle.explain.proofs.route.hangs.Goals as goal

pub loop-x-preserved : goal.loop-x-preserved
loop-x-preserved c = (hangs_more (plan_of c.args.plan) (route_of c.args.route).needs (route_of c.args.route).up c.loop-x.at _ _ _ _ c.loop-x-test.true refl c.in_default.ensures c.loop-x.invariant.0, step_next (route_of c.args.route) _ _ c.path-path.ensures)

pub returns : goal.returns
unfolding route_test
returns c = sym (hangs_all (plan_of c.args.plan) (route_of c.args.route).needs (route_of c.args.route).up c.loop-x.at _ _ _ c.loop-x-test.false c.loop-x.invariant.0)
