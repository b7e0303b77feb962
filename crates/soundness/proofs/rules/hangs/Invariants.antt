use Rattle.std.proofs.Common.{◌≡◌, drop}
use Rattle.plan.specs.View.{plan_of, route_of}
use Rattle.soundness.specs.Tests.{hangs}
use Rattle.soundness.proofs.rules.hangs.Given as goal

abbrev pub invariant-loop-x : goal.invariant-loop-x
invariant-loop-x l = hangs (plan_of l.plan) (route_of l.route).needs (route_of l.route).up l.at (drop l.x-index l.path) ≡ hangs (plan_of l.plan) (route_of l.route).needs (route_of l.route).up (route_of l.route).begin (route_of l.route).path
