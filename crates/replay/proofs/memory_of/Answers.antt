use Rattle.std.proofs.Common.{length, ap, rules}
use Rattle.interlocking.specs.Says.{state_of}
use Rattle.memory.proofs.Room.{time_in}
use Rattle.model.specs.Stations.{station_plan, station_world}
use Rattle.replay.proofs.Held.{memory_says}
use Rattle.replay.proofs.memory_of.Goals as goal

pub returns : goal.returns
returns c = λ t row e.
    memory_says (station_plan c.args.station.now) t row (station_world c.args.station.now) c.interlocking-interlocking.result c.empty-memory.result c.store.new.memory
    (time_in c.args.station.now.plan.numbers.now c.args.station.now.plan.formed) (ap length c.empty-memory.ensures) (search rules) (ap state_of c.interlocking-interlocking.ensures) c.store.ensures e
