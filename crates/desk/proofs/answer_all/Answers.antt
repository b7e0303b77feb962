use Rattle.std.proofs.Common.{refl}
use Rattle.plan.specs.Plan.{marks}
use Rattle.plan.specs.View.{plan_of}
use Rattle.desk.proofs.Rows.{served_more, served_end, answers_more, answers_end, none_served}
use Rattle.desk.proofs.answer_all.Goals as goal

pub loop-w-init : goal.loop-w-init
loop-w-init c = (refl, none_served _ _ c.new-served.ensures.items)

pub loop-w-preserved : goal.loop-w-preserved
loop-w-preserved c = (
  served_more (plan_of c.args.sight.plan) (marks c.args.sight.occupied.now) (marks c.args.sight.lies.now) c.args.waiting.now c.loop-w.w-index _ c.loop-w.left c.perform.result.0 c.perform.result.1 _
      c.loop-w-test.true c.loop-w.invariant.0 c.perform.ensures,
  answers_more (plan_of c.args.sight.plan) (marks c.args.sight.occupied.now) (marks c.args.sight.lies.now) c.args.waiting.now c.loop-w.w-index _ c.loop-w.left c.perform.result.0 c.perform.result.1 _ _ _
      c.loop-w-test.true c.loop-w.invariant.1 c.perform.ensures c.in_ok-push.ensures.items,
)

pub returns : goal.returns
returns c = (
  served_end (plan_of c.args.sight.plan) (marks c.args.sight.occupied.now) (marks c.args.sight.lies.now) c.args.waiting.now c.loop-w.w-index _ _ c.loop-w-test.false c.loop-w.invariant.0,
  answers_end (plan_of c.args.sight.plan) (marks c.args.sight.occupied.now) (marks c.args.sight.lies.now) c.args.waiting.now c.loop-w.w-index _ _ _ c.loop-w-test.false c.loop-w.invariant.1,
)
