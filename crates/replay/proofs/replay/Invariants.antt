use Rattle.std.proofs.Common.{◌≡◌, vec_items}
use Rattle.plan.specs.Plan.{marks}
use Rattle.plan.specs.View.{plan_of}
use Rattle.model.specs.Stations.{station_plan, station_world}
use Rattle.replay.specs.Replayed.{Replayed}
use Rattle.replay.proofs.replay.Given as goal

abbrev pub invariant-loop : goal.invariant-loop
invariant-loop l = record {
  plan : station_plan l.replay.station ≡ plan_of l.plan;
  at : l.replay.at ≡ l.counter;
  run : Replayed (plan_of l.plan) (marks l.journal.lies) (vec_items l.journal.entries) l.replay.at (station_world l.replay.station);
}
