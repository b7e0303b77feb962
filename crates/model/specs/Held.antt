-- What the code's world stands for. Assumes nothing: these are definitions.
use Rattle.std.specs.Prelude.{vec_items, vec_len}
use Rattle.plan.specs.Plan.{marks}
use Rattle.interlocking.specs.State.{Occupancy}
use Rattle.interlocking.specs.Says.{state_of}
use Rattle.trains.specs.Trains.{occupied}
use Rattle.trains.specs.Held.{trains_of}
use Rattle.model.specs.World.{World}
use Rattle.model.specs.declared.world.World.{World as HeldWorld}

abbrev pub world_of : HeldWorld → World
world_of w = record { interlocking = state_of w.interlocking; lies = marks w.lies; trains = trains_of (vec_items w.trains) }

abbrev pub occupied_in : HeldWorld → Occupancy
occupied_in w = occupied (vec_len w.trains) (trains_of (vec_items w.trains))
