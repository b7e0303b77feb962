use Rattle.std.proofs.Common.{eqb, ◌||◌, ap, ◌∙◌, refl}
use Rattle.plan.specs.Plan.{among}
use Rattle.plan.proofs.Sides.{eqb_swap}
use Rattle.plan.proofs.Walks.{any_is}
use Rattle.plan.proofs.read.found.Goals as goal

pub returns : goal.returns
unfolding among
returns c = c.contains.ensures.value ∙ any_is (among c.args.x) (λ y. eqb y c.args.x) refl (λ y ys. ap (λ b. b || among c.args.x ys) (eqb_swap c.args.x y)) c.args.path.now
