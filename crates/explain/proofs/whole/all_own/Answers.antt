use Rattle.std.proofs.Common.{◌≡◌, true, false, ◌&&◌, rules}
use Rattle.plan.specs.View.{plan_of}
use Rattle.plan.proofs.Looks.{looked_below}
use Rattle.soundness.specs.Tests.{own}
use Rattle.soundness.specs.declared.WholeRule.TheVariants.{Places}
use Rattle.explain.specs.Faults.{BlamesWhole}
use Rattle.explain.proofs.Walk.{below_found}
use Rattle.explain.proofs.whole.all_own.Goals as goal

pub returns : goal.returns
returns c =
    let p = plan_of c.args.plan in
    below_found p.sections (λ x. own p true x && own p false x) (BlamesWhole p Places) c.find_map.result
    (looked_below (λ x. (own p true x && own p false x) ≡ true) (BlamesWhole p Places) (λ x r q k. search rules) _ _ _ c.sections.ensures c.find_map.ensures.runs)
