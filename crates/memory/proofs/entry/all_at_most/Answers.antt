use Rattle.std.proofs.Common.{leb, refl, ◌∙◌, rules, tests}
use Rattle.std.proofs.lemmas.Iterator.{YieldsList-from_slice}
use Rattle.std.proofs.lemmas.Iterator.Search.{all_from_yields_List}
use Rattle.plan.specs.Shape.{all_at_most}
use Rattle.plan.proofs.Walks.{all_is}
use Rattle.memory.proofs.entry.all_at_most.Goals as goal

pub returns : goal.returns
unfolding all_at_most
returns c =
    all_from_yields_List (λ x. leb x c.args.most) c.all.new.self _ _ c.all.ensures.ran (YieldsList-from_slice c.args.numbers.now cc) (λ x b q k. search (rules, tests))
    ∙ all_is (all_at_most c.args.most) (λ x. leb x c.args.most) refl (λ x xs. refl) _
