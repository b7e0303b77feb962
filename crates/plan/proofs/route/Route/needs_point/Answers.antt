use Rattle.std.proofs.Common.{eqb, ◌∙◌, refl, rules, tests}
use Rattle.std.proofs.lemmas.Iterator.Consumers.{YieldsList-from_first}
use Rattle.std.proofs.lemmas.Iterator.Search.{any_from_yields_List}
use Rattle.plan.specs.Plan.{needed}
use Rattle.plan.specs.View.{needs_left, route_of}
use Rattle.plan.proofs.Walks.{any_is}
use Rattle.plan.proofs.route.Route.needs_point.Goals as goal

pub returns : goal.returns
unfolding needed
returns c =
    any_from_yields_List (λ n. eqb c.args.q n.point) c.any.new.self _ _ c.any.ensures.ran (YieldsList-from_first (λ n. n) needs_left (route_of c.args.self).needs c.needs.ensures) (λ x b q k. search (rules, tests))
    ∙ any_is (needed c.args.q) (λ n. eqb c.args.q n.point) refl (λ n ns. refl) _
