use Rattle.std.proofs.Common.{sym, ap, ◌∙◌, rules}
use Rattle.plan.specs.Plan.{marks}
use Rattle.plan.specs.View.{plan_of}
use Rattle.plan.proofs.Formed.{route_few}
use Rattle.interlocking.specs.State.{done}
use Rattle.interlocking.specs.Says.{state_of}
use Rattle.interlocking.specs.declared.Request.TheVariants.{Clear}
use Rattle.interlocking.proofs.Said.{said_done, said_cant}
use Rattle.interlocking.proofs.Fits.{same_fits}
use Rattle.interlocking.proofs.Does.{clear_there}
use Rattle.interlocking.proofs.Interlocking.clear.Goals as goal
use Rattle.interlocking.proofs.Interlocking.clear.Goals.{then-done, else-done}

pub invariant_of-restaged : goal.invariant_of-restaged
invariant_of-restaged c =
    record {
      below_64 = route_few c.args.sight.plan.numbers.now c.args.r c.args.sight.plan.formed
          (clear_there (plan_of c.args.sight.plan) (state_of c.args.self) (marks c.args.sight.occupied.now) (marks c.args.sight.lies.now) c.args.r (sym c.can_clear-done.ensures ∙ c.if-done.true));
    }

pub returns : goal.returns
unfolding done
returns c =
    elim c.if-done.branch [
      | then-done w ↦
          said_done (plan_of c.args.sight.plan) c.args.self (marks c.args.sight.occupied.now) (marks c.args.sight.lies.now) (Clear c.args.r) _ _ _ c.answered.ensures.request c.answered.ensures.done c.can_clear-done.ensures w.if-done.true
          (ap state_of w.self-is ∙ same_fits _ _ (search rules) (search rules) (search rules) (search rules) w.restaged-self.ensures)
      | else-done w ↦
          said_cant (plan_of c.args.sight.plan) c.args.self (marks c.args.sight.occupied.now) (marks c.args.sight.lies.now) (Clear c.args.r) _ _ _ c.answered.ensures.request c.answered.ensures.done c.can_clear-done.ensures w.if-done.false w.self-is
    ]
