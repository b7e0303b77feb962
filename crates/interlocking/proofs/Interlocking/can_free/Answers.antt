use Rattle.std.proofs.Common.{eqb, ap, ◌∙◌}
use Rattle.plan.specs.Plan.{marks}
use Rattle.plan.specs.View.{plan_of}
use Rattle.interlocking.specs.State.{behind_free}
use Rattle.interlocking.specs.Says.{state_of}
use Rattle.interlocking.proofs.Does.{free_is, free_none, free_above}
use Rattle.interlocking.proofs.Interlocking.can_free.Goals as goal
use Rattle.interlocking.proofs.Interlocking.can_free.Goals.{then-lock-eq0-via-then-lock-eq0, then-lock-eq0-via-else-lock-eq0+then-lock-routes}

pub returns-then-lock-eq0 : goal.returns-then-lock-eq0
returns-then-lock-eq0 c =
    elim c.then-lock-eq0.branch [
      | then-lock-eq0-via-then-lock-eq0 w ↦
          free_none (plan_of c.args.sight.plan) (state_of c.args.self.now) (marks c.args.sight.occupied.now) (marks c.args.sight.lies.now) c.args.x _ c.lock_of-lock.ensures w.if-lock-eq0.true
      | then-lock-eq0-via-else-lock-eq0+then-lock-routes w ↦
          free_above (plan_of c.args.sight.plan) (state_of c.args.self.now) (marks c.args.sight.occupied.now) (marks c.args.sight.lies.now) c.args.x _ _ c.lock_of-lock.ensures w.routes.ensures w.if-lock-routes.true
    ]

pub returns : goal.returns
returns c =
    free_is (plan_of c.args.sight.plan) (state_of c.args.self.now) (marks c.args.sight.occupied.now) (marks c.args.sight.lies.now) c.args.x _ _ _ _ _ _ _ _ _ _
    c.lock_of-lock.ensures c.routes.ensures c.if-lock-eq0.false c.if-lock-routes.false c.route-route.ensures
    c.is_passed.ensures c.stage_of.ensures
    (c.behind_free-behind.ensures ∙ ap (behind_free (state_of c.args.self.now) c.lock_of-lock.result c.args.x) c.path.ensures)
    c.mark_at.ensures (ap (eqb c.args.x) c.last.ensures) c.is_used.ensures c.may_free.ensures
