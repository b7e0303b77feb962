-- What one event does to the code's world. Assumes nothing: these are definitions.
use Rattle.std.specs.Prelude.{◌≡◌, ℕ, Bool, true, false, vec_len, Result, MatchResult}
use Rattle.plan.specs.Plan.{Plan}
use Rattle.interlocking.specs.State.{does}
use Rattle.interlocking.specs.Says.{state_of}
use Rattle.occupancy.specs.Notes.{notes}
use Rattle.model.specs.World.{World, can, next}
use Rattle.trains.specs.Trains.{occupied}
use Rattle.model.specs.Held.{occupied_in, world_of}
use Rattle.model.specs.declared.Event.{Event}
use Rattle.model.specs.declared.Event.TheVariants.{Asked, Turns, Goes, Draws, Reverses, Comes, Leaves}
use Rattle.model.specs.declared.world.World.{World as HeldWorld}

-- is it done: a request as the interlocking's rules say, all else if it can happen
unfoldable pub happens : Plan → ℕ → World → Event → Bool
happens p n w (Asked a) = does p w.interlocking (occupied n w.trains) w.lies a
happens p n w (Turns q) = can p n w (Turns q)
happens p n w (Goes i) = can p n w (Goes i)
happens p n w (Draws i) = can p n w (Draws i)
happens p n w (Reverses i) = can p n w (Reverses i)
happens p n w (Comes i up x) = can p n w (Comes i up x)
happens p n w (Leaves i) = can p n w (Leaves i)

-- an event is done and makes the next world, or is not and leaves the world as it was
pub record Told (p : Plan) (n : ℕ) (old new : World) (e : Event) (b : Bool) : Type 0 where
  pub told : b ≡ happens p n old e
  pub done : b ≡ true → new ≡ next p n old e
  pub not_done : b ≡ false → new ≡ old

-- for want of memory nothing is changed
abbrev pub Steps : {E : Type 0} → Plan → HeldWorld → HeldWorld → Event → Result Bool E → Type 0
Steps p old new e r = MatchResult r (λ b. Told p (vec_len old.trains) (world_of old) (world_of new) e b) (λ _. world_of new ≡ world_of old)

-- an event in which no plan has a say makes the next world
abbrev pub Makes : HeldWorld → HeldWorld → Event → Type 0
Makes old new e = (p : Plan) → world_of new ≡ next p (vec_len old.trains) (world_of old) e

-- the interlocking has noted what is occupied, all else as it was
pub record Noted (p : Plan) (old new : HeldWorld) : Type 0 where
  pub interlocking : state_of new.interlocking ≡ notes p (state_of old.interlocking) (occupied_in old)
  pub lies : new.lies ≡ old.lies
  pub trains : new.trains ≡ old.trains
