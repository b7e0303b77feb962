use Rattle.std.proofs.Common.{refl, ap, ◌∙◌}
use Rattle.plan.specs.Plan.{marks}
use Rattle.plan.specs.View.{plan_of}
use Rattle.interlocking.specs.Says.{state_of}
use Rattle.occupancy.specs.Notes.{notes}
use Rattle.model.proofs.Steps.{sees}
use Rattle.model.proofs.world.World.note.Goals as goal

pub returns : goal.returns
returns c = record {
  interlocking = c.note-left.ensures ∙ ap (notes (plan_of c.args.plan) (state_of c.args.self.now.interlocking)) (sees c.args.self.now (marks c.occupancy-occupied.result) c.occupancy-occupied.ensures);
  lies = refl;
  trains = refl;
}
