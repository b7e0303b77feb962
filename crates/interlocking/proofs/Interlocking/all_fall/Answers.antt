use Rattle.std.proofs.Common.{sym, refl, ap, ◌∙◌}
use Rattle.interlocking.specs.State.{all_fall}
use Rattle.interlocking.specs.Says.{state_of}
use Rattle.interlocking.proofs.States.{fall_more, stays}
use Rattle.interlocking.proofs.Interlocking.all_fall.Goals as goal
use Rattle.interlocking.proofs.Interlocking.all_fall.Goals.{then-is_falling, else-is_falling}

pub loop-r-init : goal.loop-r-init
unfolding all_fall
loop-r-init c = refl

pub loop-r-preserved : goal.loop-r-preserved
loop-r-preserved c =
    elim c.if-is_falling.branch [
      | then-is_falling w ↦ fall_more c.args.self _ _ _ c.loop-r.invariant (ap state_of w.self-is ∙ w.fallen-self.ensures)
      | else-is_falling w ↦
          fall_more c.args.self _ _ _ c.loop-r.invariant (ap state_of w.self-is ∙ stays (state_of c.loop-r.self) c.loop-r.r _ (sym c.is_falling.ensures ∙ w.if-is_falling.false))
    ]
