-- The plan and the world of a station. Assumes nothing: these are definitions.
use Rattle.plan.specs.Plan.{Plan}
use Rattle.plan.specs.View.{plan_of}
use Rattle.model.specs.World.{World}
use Rattle.model.specs.Held.{world_of}
use Rattle.model.specs.declared.station.Station.{Station}

abbrev pub station_plan : Station → Plan
station_plan s = plan_of s.plan

abbrev pub station_world : Station → World
station_world s = world_of s.world
