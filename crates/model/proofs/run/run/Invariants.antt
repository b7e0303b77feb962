use Rattle.std.proofs.Common.{◌≡◌, length, vec_items, vec_len}
use Rattle.plan.specs.Plan.{marks}
use Rattle.plan.specs.View.{plan_of}
use Rattle.model.specs.Held.{world_of}
use Rattle.model.specs.Ran.{Played}
use Rattle.model.proofs.run.run.Given as goal

abbrev pub invariant-loop-event : goal.invariant-loop-event
invariant-loop-event l =
    (vec_len l.answers ≡ length l.yielded) × (plan_of l.station.plan ≡ plan_of l.plan)
    × Played (plan_of l.plan) (marks l.initial.station.world.lies) l.events (vec_items l.answers) (world_of l.station.world)
