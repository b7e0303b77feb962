use Rattle.std.proofs.Common.{ℕ, true, List, set, refl, ap, ◌∙◌}
use Rattle.plan.proofs.Walks.{folds_more, folds_all}
use Rattle.trains.specs.Held.{mark_all}
use Rattle.trains.proofs.train.Train.mark.Goals as goal

pub loop-x-preserved : goal.loop-x-preserved
unfolding mark_all
loop-x-preserved c = folds_more mark_all (λ bs x. set bs x true) (λ x xs bs. refl) _ _ 0 _ _ _ c.loop-x-test.true c.loop-x.invariant c.mark.ensures

pub returns : goal.returns
unfolding mark_all
returns c =
    folds_all mark_all _ _ _ _ c.loop-x-test.false c.loop-x.invariant ∙ ap (λ (xs : List ℕ). mark_all xs c.args.occupied.now) c.deref-x-items.ensures.value
