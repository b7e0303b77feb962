use Rattle.std.proofs.Common.{◌≡◌, length, sym, ap, ◌∙◌, arith, rules}
use Rattle.plan.specs.Plan.{marks}
use Rattle.plan.specs.View.{plan_of}
use Rattle.interlocking.specs.Says.{state_of}
use Rattle.interlocking.specs.declared.Request.TheVariants.{Free}
use Rattle.interlocking.proofs.Said.{said_done, said_cant}
use Rattle.interlocking.proofs.Fits.{same_fits}
use Rattle.interlocking.proofs.Does.{free_locked, free_there}
use Rattle.interlocking.proofs.Asks.{within_locked, few_routes}
use Rattle.interlocking.proofs.Interlocking.free.Goals as goal
use Rattle.interlocking.proofs.Interlocking.free.Goals.{then-done, else-done}

pub freed-self-requires : goal.freed-self-requires
freed-self-requires c =
    let done = sym c.can_free-done.ensures ∙ c.if-done.true in
    let l = free_locked (plan_of c.args.sight.plan) (state_of c.args.self) (marks c.args.sight.occupied.now) (marks c.args.sight.lies.now) c.args.x done in
    let m = free_there (plan_of c.args.sight.plan) (state_of c.args.self) (marks c.args.sight.occupied.now) (marks c.args.sight.lies.now) c.args.x done in
    let n = few_routes c.args.sight.plan.numbers.now c.args.sight.plan.formed in
    let k = within_locked c.args.self.locks c.args.x l in
    let e : length c.args.self.locks ≡ 64 = search rules in
    record { within = omega arith; locked = l; there = omega arith }

pub returns : goal.returns
returns c =
    elim c.if-done.branch [
      | then-done w ↦
          said_done (plan_of c.args.sight.plan) c.args.self (marks c.args.sight.occupied.now) (marks c.args.sight.lies.now) (Free c.args.x) _ _ _ c.answered.ensures.request c.answered.ensures.done c.can_free-done.ensures w.if-done.true
          (ap state_of w.self-is ∙ same_fits _ _ (search rules) (search rules) (search rules) (search rules) w.freed-self.ensures)
      | else-done w ↦
          said_cant (plan_of c.args.sight.plan) c.args.self (marks c.args.sight.occupied.now) (marks c.args.sight.lies.now) (Free c.args.x) _ _ _ c.answered.ensures.request c.answered.ensures.done c.can_free-done.ensures w.if-done.false w.self-is
    ]
