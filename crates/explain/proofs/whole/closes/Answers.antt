use Rattle.std.proofs.Common.{◌≡◌, true, false, not, ◌&&◌, ◌||◌, rules}
use Rattle.plan.specs.View.{plan_of}
use Rattle.plan.proofs.Looks.{looked_below}
use Rattle.soundness.specs.Tests.{shut, whole_test}
use Rattle.soundness.specs.declared.WholeRule.TheVariants.{Closes}
use Rattle.explain.specs.Faults.{BlamesWhole}
use Rattle.explain.proofs.Walk.{below_found}
use Rattle.explain.proofs.whole.closes.Goals as goal

pub returns : goal.returns
unfolding whole_test
returns c =
    let p = plan_of c.args.plan in
    below_found p.sections (λ x. not (p.edge x) || (shut p x true && shut p x false)) (BlamesWhole p Closes) c.find_map.result
    (looked_below (λ x. (not (p.edge x) || (shut p x true && shut p x false)) ≡ true) (BlamesWhole p Closes) (λ x r q k. search rules) _ _ _ c.sections.ensures c.find_map.ensures.runs)
