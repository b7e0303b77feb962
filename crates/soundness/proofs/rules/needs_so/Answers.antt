use Rattle.std.proofs.Common.{◌&&◌, eqb, ◌∙◌, refl, rules, tests}
use Rattle.std.proofs.lemmas.Iterator.Consumers.{YieldsList-from_first}
use Rattle.std.proofs.lemmas.Iterator.Search.{any_from_yields_List}
use Rattle.plan.specs.Plan.{sameb}
use Rattle.plan.specs.View.{needs_left, route_of}
use Rattle.plan.proofs.Sides.{same_is}
use Rattle.plan.proofs.Walks.{any_is}
use Rattle.soundness.specs.Tests.{needed_so}
use Rattle.soundness.proofs.rules.needs_so.Goals as goal

pub returns : goal.returns
unfolding needed_so
returns c =
    any_from_yields_List (λ n. eqb c.args.q n.point && sameb c.args.left n.left) c.any.new.self _ _ c.any.ensures.ran (YieldsList-from_first (λ n. n) needs_left (route_of c.args.route).needs c.needs.ensures) (λ x b q k. let s = same_is c.args.left x.left in search (rules, tests))
    ∙ any_is (needed_so c.args.q c.args.left) (λ n. eqb c.args.q n.point && sameb c.args.left n.left) refl (λ n ns. refl) _
