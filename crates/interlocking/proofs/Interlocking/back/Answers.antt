use Rattle.std.proofs.Common.{get_or, sym, ap, ◌∙◌, rules}
use Rattle.plan.specs.Plan.{marks}
use Rattle.plan.specs.View.{plan_of}
use Rattle.plan.proofs.Formed.{route_few}
use Rattle.interlocking.specs.State.{done, taken_back}
use Rattle.interlocking.specs.Says.{state_of}
use Rattle.interlocking.specs.declared.Request.TheVariants.{Back}
use Rattle.interlocking.specs.declared.Stage.TheVariants.{Idle}
use Rattle.interlocking.proofs.Said.{said_done, said_cant}
use Rattle.interlocking.proofs.Fits.{same_fits}
use Rattle.interlocking.proofs.Does.{back_there}
use Rattle.interlocking.proofs.Interlocking.back.Goals as goal
use Rattle.interlocking.proofs.Interlocking.back.Goals.{then-done, else-done}

pub invariant_of-taken_back : goal.invariant_of-taken_back
invariant_of-taken_back c =
    record {
      below_64 = route_few c.args.sight.plan.numbers.now c.args.r c.args.sight.plan.formed
          (back_there (plan_of c.args.sight.plan) (state_of c.args.self) (marks c.args.sight.occupied.now) (marks c.args.sight.lies.now) c.args.r (sym c.can_back-done.ensures ∙ c.if-done.true));
    }

pub returns : goal.returns
unfolding done
returns c =
    elim c.if-done.branch [
      | then-done w ↦
          said_done (plan_of c.args.sight.plan) c.args.self (marks c.args.sight.occupied.now) (marks c.args.sight.lies.now) (Back c.args.r) _ _ _ c.answered.ensures.request c.answered.ensures.done c.can_back-done.ensures w.if-done.true
          (ap state_of w.self-is ∙ same_fits _ _ (search rules) (search rules) (search rules) (search rules)
          (w.taken_back-self.ensures ∙ ap (λ n. taken_back n (state_of c.args.self) c.args.r (get_or c.args.self.stages c.args.r Idle)) w.time.ensures))
      | else-done w ↦
          said_cant (plan_of c.args.sight.plan) c.args.self (marks c.args.sight.occupied.now) (marks c.args.sight.lies.now) (Back c.args.r) _ _ _ c.answered.ensures.request c.answered.ensures.done c.can_back-done.ensures w.if-done.false w.self-is
    ]
