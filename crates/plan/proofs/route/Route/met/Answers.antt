use Rattle.std.proofs.Common.{◌∙◌, refl, rules, tests}
use Rattle.std.proofs.lemmas.Iterator.Consumers.{YieldsList-from_first}
use Rattle.std.proofs.lemmas.Iterator.Search.{all_from_yields_List}
use Rattle.plan.specs.Plan.{marks, met, sameb}
use Rattle.plan.specs.View.{needs_left, route_of}
use Rattle.plan.proofs.Walks.{all_is}
use Rattle.plan.proofs.route.Route.met.Goals as goal

pub returns : goal.returns
unfolding met
returns c =
    all_from_yields_List (λ n. sameb (marks c.args.positions.now n.point) n.left) c.all.new.self _ _ c.all.ensures.ran (YieldsList-from_first (λ n. n) needs_left (route_of c.args.self).needs c.needs.ensures) (λ x b q k. search (rules, tests))
    ∙ all_is (met (marks c.args.positions.now)) (λ n. sameb (marks c.args.positions.now n.point) n.left) refl (λ n ns. refl) _
