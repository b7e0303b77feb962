use Rattle.std.proofs.Common.{◌≡◌, true, false, not, rules, tests}
use Rattle.std.proofs.lemmas.Iterator.{first_from_Range}
use Rattle.plan.specs.View.{plan_of}
use Rattle.soundness.specs.Tests.{whole_test}
use Rattle.soundness.specs.declared.WholeRule.TheVariants.{Clears}
use Rattle.explain.specs.Faults.{BlamesWhole}
use Rattle.explain.proofs.Walk.{below_none}
use Rattle.explain.proofs.whole.clears.Goals as goal

pub returns-in_err-q : goal.returns-in_err-q
unfolding whole_test
returns-in_err-q c =
    let p = plan_of c.args.plan in
    below_none c.points.result p.points (λ q. not (p.edge (p.place q))) (BlamesWhole p Clears) _ c.find.result c.from_residual.result c.points.ensures
    (first_from_Range _ c.find.new.self _ c.find.result (λ q. (not (p.edge (p.place q))) ≡ false) (λ q. (not (p.edge (p.place q))) ≡ true) c.find.ensures.ran (λ x q k. search (rules, tests)) (λ x q k. search (rules, tests)))
    c.in_err-q.was c.from_residual.ensures
