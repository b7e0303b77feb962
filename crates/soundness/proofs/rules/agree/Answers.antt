use Rattle.std.proofs.Common.{not, ◌∙◌, refl, rules, tests}
use Rattle.std.proofs.lemmas.Iterator.Consumers.{YieldsList-from_first}
use Rattle.std.proofs.lemmas.Iterator.Search.{all_from_yields_List}
use Rattle.plan.specs.View.{needs_left, route_of}
use Rattle.plan.proofs.Walks.{all_is}
use Rattle.soundness.specs.Tests.{agree, needed_so}
use Rattle.soundness.proofs.rules.agree.Goals as goal

pub returns : goal.returns
unfolding agree
returns c =
    all_from_yields_List (λ n. not (needed_so n.point (not n.left) (route_of c.args.route).needs)) c.all.new.self _ _ c.all.ensures.ran (YieldsList-from_first (λ n. n) needs_left (route_of c.args.route).needs c.needs.ensures) (λ x b q k. search (rules, tests))
    ∙ all_is (agree (route_of c.args.route).needs) (λ n. not (needed_so n.point (not n.left) (route_of c.args.route).needs)) refl (λ n ns. refl) _
