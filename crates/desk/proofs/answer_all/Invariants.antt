use Rattle.std.proofs.Common.{◌≡◌, ◌++◌, drop, vec_items}
use Rattle.plan.specs.Plan.{marks}
use Rattle.plan.specs.View.{plan_of}
use Rattle.interlocking.specs.Says.{state_of}
use Rattle.desk.specs.Desk.{served_all, answers}
use Rattle.desk.proofs.answer_all.Given as goal

abbrev pub invariant-loop-w : goal.invariant-loop-w
invariant-loop-w l =
    (served_all (plan_of l.sight.plan) (marks l.sight.occupied.now) (marks l.sight.lies.now) (drop l.w-index l.waiting) (state_of l.left) ≡ served_all (plan_of l.sight.plan) (marks l.sight.occupied.now) (marks l.sight.lies.now) l.waiting (state_of l.initial.left))
    × (vec_items l.served ++ answers (plan_of l.sight.plan) (marks l.sight.occupied.now) (marks l.sight.lies.now) (drop l.w-index l.waiting) (state_of l.left) ≡ answers (plan_of l.sight.plan) (marks l.sight.occupied.now) (marks l.sight.lies.now) l.waiting (state_of l.initial.left))
