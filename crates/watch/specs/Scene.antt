-- What is seen in a station. Assumes nothing: these are definitions.
use Rattle.std.specs.Prelude.{◌≡◌, ℕ, Bool, List, Option, MatchOption}
use Rattle.plan.specs.Plan.{Plan, Positions, marks}
use Rattle.plan.specs.View.{plan_of}
use Rattle.interlocking.specs.Says.{state_of}
use Rattle.interlocking.specs.State.{State, Occupancy}
use Rattle.model.specs.Stations.{station_plan, station_world}
use Rattle.model.specs.World.{Train, occupied}
use Rattle.model.specs.declared.station.Station.{Station}
use Rattle.watch.specs.Broken.{ViolatedIn}
use Rattle.watch.specs.declared.Broken.{Broken}
use Rattle.watch.specs.declared.scene.Scene.{Scene}

abbrev pub plan_in : Scene → Plan
plan_in s = plan_of s.plan

abbrev pub state_in : Scene → State
state_in s = state_of s.interlocking

abbrev pub lies_in : Scene → Positions
lies_in s = marks s.lies

abbrev pub occupied_in : Scene → Occupancy
occupied_in s = marks s.occupied

abbrev pub trains_in : Scene → ℕ → Train
trains_in s = (station_world s.station.now).trains

abbrev pub body_in : Scene → ℕ → List ℕ
body_in s i = (trains_in s i).body

abbrev pub up_in : Scene → ℕ → Bool
up_in s i = (trains_in s i).up

-- what is named is broken there
abbrev pub BrokenIn : Scene → Broken → Type 0
BrokenIn s b = ViolatedIn (plan_in s) (state_in s) (lies_in s) (occupied_in s) (trains_in s) b

-- a promise that is looked at in a scene holds, or something is named that is broken there
abbrev pub Looked : Scene → Option Broken → Type 0 → Type 0
Looked s o Holds = MatchOption o Holds (BrokenIn s)

-- a scene shows a station's world
pub record Shows (s : Scene) (t : Station) : Type 0 where
  pub plan : plan_in s ≡ station_plan t
  pub state : state_in s ≡ (station_world t).interlocking
  pub lies : lies_in s ≡ (station_world t).lies
  pub occupied : occupied_in s ≡ occupied 16 (station_world t).trains
  pub trains : trains_in s ≡ (station_world t).trains
