use Rattle.std.proofs.Common.{◌≡◌, true, false, rules, tests}
use Rattle.std.proofs.lemmas.Iterator.{first_from_Range}
use Rattle.plan.specs.View.{plan_of, route_of}
use Rattle.soundness.specs.Tests.{holds, route_test}
use Rattle.soundness.specs.declared.RouteRule.TheVariants.{Holds}
use Rattle.explain.specs.Faults.{Blames}
use Rattle.explain.proofs.Walk.{below_none}
use Rattle.explain.proofs.route.holds.Goals as goal

pub returns-in_err-q : goal.returns-in_err-q
unfolding route_test holds
returns-in_err-q c =
    let p = plan_of c.args.plan in
    below_none c.points.result p.points (holds p (route_of c.args.route)) (Blames p (route_of c.args.route) Holds) _ c.find.result c.from_residual.result c.points.ensures
    (first_from_Range _ c.find.new.self _ c.find.result (λ q. (holds p (route_of c.args.route) q) ≡ false) (λ q. (holds p (route_of c.args.route) q) ≡ true) c.find.ensures.ran (λ x q k. search (rules, tests)) (λ x q k. search (rules, tests)))
    c.in_err-q.was c.from_residual.ensures
