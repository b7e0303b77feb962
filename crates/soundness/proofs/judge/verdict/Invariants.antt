use Rattle.std.proofs.Common.{◌≡◌, ◌-◌}
use Rattle.plan.specs.View.{plan_of}
use Rattle.soundness.specs.Tests.{fails_from, judged}
use Rattle.soundness.proofs.judge.verdict.Given as goal

abbrev pub invariant-loop-r : goal.invariant-loop-r
invariant-loop-r l = fails_from (plan_of l.plan) l.r (l.n - l.r) ≡ judged (plan_of l.plan)
