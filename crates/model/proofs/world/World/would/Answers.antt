use Rattle.std.proofs.Common.{sym, ◌∙◌}
use Rattle.plan.specs.View.{plan_of}
use Rattle.model.specs.Held.{world_of}
use Rattle.model.proofs.Steps.{happens_else}
use Rattle.model.proofs.world.World.would.Goals as goal

pub returns-in_default : goal.returns-in_default
returns-in_default c =
    c.can.ensures ∙ sym (happens_else (plan_of c.args.plan) c.args.self.now.trains.len (world_of c.args.self.now) c.args.event c.in_default.not-Asked)
