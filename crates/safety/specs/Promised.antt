-- A run of events, and all that is promised of it. Assumes nothing: these are definitions.
use Rattle.std.specs.Prelude.{ℕ, Bool, List}
use Rattle.plan.specs.Plan.{Plan, Positions}
use Rattle.soundness.specs.Sound.{Sound}
use Rattle.model.specs.World.{World}
use Rattle.model.specs.Ran.{Ran, done_row}
use Rattle.model.specs.declared.Event.{Event}
use Rattle.safety.specs.Promise.{Promises}

-- as many events as the budget allows were played from the empty station: the world is the one after those that were done, and that row is lawful;
-- if the plan is sound, every promise holds after it
pub record Promised (p : Plan) (t : Positions) (events : List Event) (budget : ℕ) (answers : List Bool) (w : World) : Type 0 where
  pub ran : Ran p t events budget answers w
  pub promises : Sound p → Promises p 16 t (done_row answers events)
