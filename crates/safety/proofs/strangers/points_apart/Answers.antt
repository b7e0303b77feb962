use Rattle.std.proofs.Common.{◌∙◌, refl, rules, tests}
use Rattle.std.proofs.lemmas.Iterator.Consumers.{YieldsList-from_first}
use Rattle.std.proofs.lemmas.Iterator.Search.{all_from_yields_List}
use Rattle.plan.specs.View.{needs_left, plan_of, route_of}
use Rattle.plan.proofs.Walks.{all_is}
use Rattle.safety.specs.Sides.{unrelated, all_unrelated}
use Rattle.safety.proofs.strangers.points_apart.Goals as goal

pub returns : goal.returns
unfolding all_unrelated
returns c =
    all_from_yields_List (λ n. unrelated (plan_of c.args.plan) (route_of c.args.other) n.point) c.all.new.self _ _ c.all.ensures.ran (YieldsList-from_first (λ n. n) needs_left (route_of c.args.route).needs c.needs.ensures) (λ x b q k. search (rules, tests))
    ∙ all_is (all_unrelated (plan_of c.args.plan) (route_of c.args.other)) (λ n. unrelated (plan_of c.args.plan) (route_of c.args.other) n.point) refl (λ n ns. refl) _
