use Rattle.std.proofs.Common.{◌≡◌, ◌-◌, true, false, take, rules, tests}
use Rattle.std.proofs.lemmas.Iterator.{first_from_find, YieldsList-from_slice}
use Rattle.std.proofs.lemmas.Iterator.Consumers.{YieldsList-from_copied}
use Rattle.plan.specs.View.{plan_of, route_of}
use Rattle.explain.proofs.Walk.{passes_none, passes_some}
use Rattle.explain.proofs.route.passes.Goals as goal

pub returns-in_err-x : goal.returns-in_err-x
returns-in_err-x c =
    passes_none (plan_of c.args.plan) (route_of c.args.route) c.path-path.result.now c.saturating_sub.result c.up-up.result c.find.result _ c.path-path.ensures c.saturating_sub.ensures c.up-up.ensures
    (first_from_find _ _ c.find.result (λ x. (plan_of c.args.plan).signal c.up-up.result x ≡ true) (λ x. (plan_of c.args.plan).signal c.up-up.result x ≡ false) c.find.ensures.ran
    (YieldsList-from_copied (YieldsList-from_slice (take (c.saturating_sub.result - 0) c.path-path.result.now) (search rules))) (λ x q k. search (rules, tests)) (λ x q k. search (rules, tests)))
    c.in_err-x.was c.from_residual.ensures

pub returns : goal.returns
returns c =
    passes_some (plan_of c.args.plan) (route_of c.args.route) c.path-path.result.now c.saturating_sub.result c.up-up.result c.find.result _ c.path-path.ensures c.saturating_sub.ensures c.up-up.ensures
    (first_from_find _ _ c.find.result (λ x. (plan_of c.args.plan).signal c.up-up.result x ≡ true) (λ x. (plan_of c.args.plan).signal c.up-up.result x ≡ false) c.find.ensures.ran
    (YieldsList-from_copied (YieldsList-from_slice (take (c.saturating_sub.result - 0) c.path-path.result.now) (search rules))) (λ x q k. search (rules, tests)) (λ x q k. search (rules, tests)))
    c.in_ok-x.was
