use Rattle.std.proofs.Common.{sym, ap, ◌∙◌}
use Rattle.plan.specs.Plan.{marks}
use Rattle.plan.specs.View.{plan_of}
use Rattle.plan.proofs.Formed.{route_few}
use Rattle.interlocking.specs.Says.{state_of}
use Rattle.interlocking.specs.declared.Request.TheVariants.{Ask}
use Rattle.interlocking.proofs.Said.{said_done, said_cant}
use Rattle.interlocking.proofs.Does.{ask_there}
use Rattle.interlocking.proofs.Interlocking.ask.Goals as goal
use Rattle.interlocking.proofs.Interlocking.ask.Goals.{then-done, else-done}

pub invariant_of-granted : goal.invariant_of-granted
invariant_of-granted c =
    record {
      below_64 = route_few c.args.sight.plan.numbers.now c.args.r c.args.sight.plan.formed
          (ask_there (plan_of c.args.sight.plan) (state_of c.args.self) (marks c.args.sight.occupied.now) (marks c.args.sight.lies.now) c.args.r (sym c.can_ask-done.ensures ∙ c.if-done.true));
    }

pub returns : goal.returns
returns c =
    elim c.if-done.branch [
      | then-done w ↦
          said_done (plan_of c.args.sight.plan) c.args.self (marks c.args.sight.occupied.now) (marks c.args.sight.lies.now) (Ask c.args.r) _ _ _ c.answered.ensures.request c.answered.ensures.done c.can_ask-done.ensures w.if-done.true
          (ap state_of w.self-is ∙ w.granted-self.ensures)
      | else-done w ↦
          said_cant (plan_of c.args.sight.plan) c.args.self (marks c.args.sight.occupied.now) (marks c.args.sight.lies.now) (Ask c.args.r) _ _ _ c.answered.ensures.request c.answered.ensures.done c.can_ask-done.ensures w.if-done.false w.self-is
    ]
