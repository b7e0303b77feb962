use Rattle.std.proofs.Common.{◌<◌, ◌≤◌, rules, tests}
use Rattle.std.proofs.lemmas.Iterator.{first_from_find}
use Rattle.std.proofs.lemmas.Iterator.Consumers.{YieldsList-from_first}
use Rattle.plan.specs.View.{needs_left, plan_of, route_of}
use Rattle.plan.proofs.Walks.{found_need}
use Rattle.explain.proofs.Walk.{knows_none, knows_some}
use Rattle.explain.proofs.route.knows.Goals as goal

pub returns-in_err-need : goal.returns-in_err-need
returns-in_err-need c =
    knows_none (plan_of c.args.plan) (route_of c.args.route) c.points-points.result _ c.find.result _ c.points-points.ensures
    (found_need (route_of c.args.route).needs c.find.result (λ n. n.point < c.points-points.result) (λ n. c.points-points.result ≤ n.point)
    (first_from_find c.find.new.self _ c.find.result (λ n. c.points-points.result ≤ n.point) (λ n. n.point < c.points-points.result) c.find.ensures.ran
    (YieldsList-from_first (λ n. n) needs_left (route_of c.args.route).needs c.needs.ensures) (λ x q k. search (rules, tests)) (λ x q k. search (rules, tests))))
    c.in_err-need.was c.from_residual.ensures

pub returns : goal.returns
returns c =
    knows_some (plan_of c.args.plan) (route_of c.args.route) c.points-points.result _ c.find.result _ c.points-points.ensures
    (found_need (route_of c.args.route).needs c.find.result (λ n. n.point < c.points-points.result) (λ n. c.points-points.result ≤ n.point)
    (first_from_find c.find.new.self _ c.find.result (λ n. c.points-points.result ≤ n.point) (λ n. n.point < c.points-points.result) c.find.ensures.ran
    (YieldsList-from_first (λ n. n) needs_left (route_of c.args.route).needs c.needs.ensures) (λ x q k. search (rules, tests)) (λ x q k. search (rules, tests))))
    c.in_ok-need.was
