use Rattle.std.proofs.Common.{◌+◌, vec_items, rules}
use Rattle.model.specs.Stations.{station_plan, station_world}
use Rattle.replay.specs.Replayed.{Stepped}
use Rattle.replay.proofs.Stepping.{step_run}
use Rattle.replay.proofs.step.Replay.next.Goals as goal

pub returns-clause-run : goal.returns-clause-run
returns-clause-run c =
    let s = c.args.self.now in let es = vec_items c.args.journal.now.entries in
    let r : Stepped (station_plan s.station) es s.at (station_world s.station) (s.at + 1) (station_world c.step.new.self) c.in-Some.entry.now = search rules in
    λ t h. (step_run _ t _ _ _ _ _ _ r h, tt)
