use Rattle.std.proofs.Common.{vec_items, refl}
use Rattle.plan.specs.Plan.{marks}
use Rattle.interlocking.specs.Says.{state_of}
use Rattle.model.proofs.Runs.{start}
use Rattle.model.proofs.station.Station.new.Goals as goal

pub returns : goal.returns
returns c = (refl, start (state_of c.at_rest-interlocking.result) (marks c.args.lies) (vec_items c.in_ok-trains.trains) c.at_rest-interlocking.ensures c.in_ok-trains.ensures)
