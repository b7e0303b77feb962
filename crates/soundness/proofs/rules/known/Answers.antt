use Rattle.std.proofs.Common.{ltb, ◌∙◌, refl, rules, tests}
use Rattle.std.proofs.lemmas.Iterator.Consumers.{YieldsList-from_first}
use Rattle.std.proofs.lemmas.Iterator.Search.{all_from_yields_List}
use Rattle.plan.specs.View.{needs_left, route_of}
use Rattle.plan.proofs.Walks.{all_is}
use Rattle.soundness.specs.Tests.{known}
use Rattle.soundness.proofs.rules.known.Goals as goal

pub returns : goal.returns
unfolding known
returns c =
    all_from_yields_List (λ n. ltb n.point c.args.points) c.all.new.self _ _ c.all.ensures.ran (YieldsList-from_first (λ n. n) needs_left (route_of c.args.route).needs c.needs.ensures) (λ x b q k. search (rules, tests))
    ∙ all_is (known c.args.points) (λ n. ltb n.point c.args.points) refl (λ n ns. refl) _
