-- A row of events played from the empty station. Assumes nothing: these are definitions.
use Rattle.std.specs.Prelude.{◌≡◌, ℕ, ◌<◌, min, Bool, false, List, [], ◌∷◌, length, take, slice_index_or}
use Rattle.plan.specs.Plan.{pick, Plan, Positions}
use Rattle.interlocking.specs.declared.Request.TheVariants.{Ask}
use Rattle.model.specs.World.{World, Lawful, after}
use Rattle.model.specs.Steps.{happens}
use Rattle.model.specs.declared.Event.{Event}
use Rattle.model.specs.declared.Event.TheVariants.{Asked}

-- past the end of a row
abbrev pub no_event : Event
no_event = Asked (Ask 0)

-- the events that were done, put before those done earlier: the latest comes first
unfoldable pub done_onto : List Event → List Bool → List Event → List Event
done_onto row [] es = row
done_onto row (b ∷ bs) [] = row
done_onto row (b ∷ bs) (e ∷ es) = done_onto (pick b (e ∷ row) row) bs es

-- the events that were done, by the answers to a row of them, the latest first
unfoldable pub done_row : List Bool → List Event → List Event
done_row bs es = done_onto [] bs es

-- each answer says whether the event was done in the world before it, the world is the one after those that were, and each of them could happen
pub record Played (p : Plan) (t : Positions) (events : List Event) (answers : List Bool) (w : World) : Type 0 where
  pub told : (k : ℕ) → k < length answers → slice_index_or answers k false ≡ happens p 16 (after p 16 t (done_row (take k answers) events)) (slice_index_or events k no_event)
  pub world : w ≡ after p 16 t (done_row answers events)
  pub lawful : Lawful p 16 t (done_row answers events)

-- so many events as the budget allows were played
pub record Ran (p : Plan) (t : Positions) (events : List Event) (budget : ℕ) (answers : List Bool) (w : World) : Type 0 where
  pub count : length answers ≡ min budget (length events)
  pub played : Played p t events answers w
