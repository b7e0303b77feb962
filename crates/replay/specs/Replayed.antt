-- A journal replayed. Assumes nothing: these are definitions.
use Rattle.std.specs.Prelude.{◌≡◌, ℕ, ◌+◌, ◌<◌, ◌≤◌, Bool, false, List, length, get_or, take, Some, None, Ok, Err, Option, Result, slice_index_or}
use Rattle.plan.specs.Plan.{Plan, Positions}
use Rattle.model.specs.World.{World, after}
use Rattle.model.specs.Steps.{happens, Told}
use Rattle.model.specs.Ran.{done_row, no_event, Played, Ran}
use Rattle.model.specs.Stations.{station_plan, station_world}
use Rattle.model.specs.declared.Event.{Event}
use Rattle.model.specs.declared.station.Station.{Station}
use Rattle.safety.specs.Promised.{Promised}
use Rattle.journal.specs.Entries.{answers_of, entry_of, events_of, paired}
use Rattle.journal.specs.declared.Entry.{Entry}
use Rattle.replay.specs.declared.Wrong.{Wrong}
use Rattle.replay.specs.declared.Wrong.TheVariants.{Memory, Entry as EntryWrong}

-- past the end of a journal
abbrev pub no_entry : Entry
no_entry = entry_of no_event false

-- the world after the first so many entries
abbrev pub world_at : Plan → Positions → List Entry → ℕ → World
world_at p t es k = after p 16 t (done_row (take k (answers_of es)) (events_of es))

-- the first so many entries were played, their answers the run's own
abbrev pub Replayed : Plan → Positions → List Entry → ℕ → World → Type 0
Replayed p t es k w = Played p t (events_of es) (take k (answers_of es)) w

-- the first entry whose answer is not the run's own: all before it are
pub record FirstFalse (p : Plan) (t : Positions) (es : List Entry) (k : ℕ) : Type 0 where
  pub there : k < length es
  pub before : Replayed p t es k (world_at p t es k)
  pub here : get_or (answers_of es) k false ≡ happens p 16 (world_at p t es k) (slice_index_or (events_of es) k no_event) → ⊥

-- one more entry, its answer the station's own
pub record Stepped (p : Plan) (es : List Entry) (k : ℕ) (old : World) (at : ℕ) (new : World) (e : Entry) : Type 0 where
  pub there : k < length es
  pub entry_is : e ≡ slice_index_or es k no_entry
  pub told : Told p 16 old new e.event e.done
  pub at_is : at ≡ k + 1

pub record Stays (k : ℕ) (old : World) (at : ℕ) (new : World) : Type 0 where
  pub at_is : at ≡ k
  pub world : new ≡ old

-- an entry whose answer is not the station's own: nothing is changed
pub record Refuses (p : Plan) (es : List Entry) (k : ℕ) (old : World) (at : ℕ) (new : World) (place : ℕ) : Type 0 where
  pub place_is : place ≡ k
  pub there : k < length es
  pub not_own : (get_or es k no_entry).done ≡ happens p 16 old (get_or es k no_entry).event → ⊥
  pub stays : Stays k old at new

-- the next entry of a journal
abbrev pub Nexts : Plan → List Entry → ℕ → World → ℕ → World → Result (Option Entry) Wrong → Type 0
Nexts p es k old at new (Ok None) = (length es ≤ k) × Stays k old at new
Nexts p es k old at new (Ok (Some e)) = Stepped p es k old at new e
Nexts p es k old at new (Err Memory) = Stays k old at new
Nexts p es k old at new (Err (EntryWrong j)) = Refuses p es k old at new j

-- where an answer is refused, it is the first that is not the run's own
abbrev pub RefusedRightly : {A : Type 0} → Plan → Positions → List Entry → Result A Wrong → Type 0
RefusedRightly p t es (Ok o) = Unit {0}
RefusedRightly p t es (Err Memory) = Unit {0}
RefusedRightly p t es (Err (EntryWrong j)) = FirstFalse p t es j

-- what is a run's own world stays so
abbrev pub Stands : Plan → Positions → List Entry → ℕ → World → ℕ → World → Result (Option Entry) Wrong → Type 0
Stands p t es k old at new r = Replayed p t es k old → Replayed p t es at new × RefusedRightly p t es r

-- a whole replay: the run's own world after so many entries, with all that is promised of it, or the first answer that is not its own
abbrev pub Replays : Plan → Positions → List Entry → ℕ → Result Station Wrong → Type 0
Replays p t es upto (Ok s) = (station_plan s ≡ p) × Promised p t (events_of es) upto (take upto (answers_of es)) (station_world s)
Replays p t es upto (Err Memory) = Unit {0}
Replays p t es upto (Err (EntryWrong k)) = (k < upto) × FirstFalse p t es k

-- of a run: its journal has no entry that is refused, and after each of them the world is the run's own
pub record OwnAt (p : Plan) (t : Positions) (events : List Event) (answers : List Bool) (k : ℕ) : Type 0 where
  pub accepted : FirstFalse p t (paired events answers) k → ⊥
  pub replayed : Replayed p t (paired events answers) k (after p 16 t (done_row (take k answers) events))
  pub world : (v : World) → Replayed p t (paired events answers) k v → v ≡ after p 16 t (done_row (take k answers) events)

abbrev pub Own : Type 0
Own =
    (p : Plan) (t : Positions) (events : List Event) (budget : ℕ) (answers : List Bool) (w : World) → Ran p t events budget answers w →
    (k : ℕ) → k ≤ length answers → OwnAt p t events answers k
