use Rattle.std.proofs.Common.{◌≡◌, true, false, rules, tests}
use Rattle.std.proofs.lemmas.Iterator.{first_from_find}
use Rattle.std.proofs.lemmas.Iterator.Consumers.{YieldsList-from_first}
use Rattle.plan.specs.View.{needs_left, plan_of, route_of}
use Rattle.plan.proofs.Walks.{found_need}
use Rattle.explain.proofs.Walk.{agrees_none, agrees_some, contrary}
use Rattle.explain.proofs.route.agrees.Goals as goal

pub returns-in_err-need : goal.returns-in_err-need
returns-in_err-need c =
    agrees_none (plan_of c.args.plan) (route_of c.args.route) _ c.find.result _ (found_need (route_of c.args.route).needs c.find.result (λ n. contrary (route_of c.args.route) n ≡ false) (λ n. contrary (route_of c.args.route) n ≡ true)
    (first_from_find c.find.new.self _ c.find.result (λ n. contrary (route_of c.args.route) n ≡ true) (λ n. contrary (route_of c.args.route) n ≡ false) c.find.ensures.ran
    (YieldsList-from_first (λ n. n) needs_left (route_of c.args.route).needs c.needs.ensures) (λ x q k. search (rules, tests)) (λ x q k. search (rules, tests))))
    c.in_err-need.was c.from_residual.ensures

pub returns : goal.returns
returns c =
    agrees_some (plan_of c.args.plan) (route_of c.args.route) _ c.find.result _ (found_need (route_of c.args.route).needs c.find.result (λ n. contrary (route_of c.args.route) n ≡ false) (λ n. contrary (route_of c.args.route) n ≡ true)
    (first_from_find c.find.new.self _ c.find.result (λ n. contrary (route_of c.args.route) n ≡ true) (λ n. contrary (route_of c.args.route) n ≡ false) c.find.ensures.ran
    (YieldsList-from_first (λ n. n) needs_left (route_of c.args.route).needs c.needs.ensures) (λ x q k. search (rules, tests)) (λ x q k. search (rules, tests))))
    c.in_ok-need.was
