use Rattle.std.proofs.Common.{vec_items, rules}
use Rattle.trains.specs.Trains.{Train}
use Rattle.model.proofs.Cans.{of_train}
use Rattle.model.proofs.station.Station.goes_up.Goals as goal

pub returns : goal.returns
returns c =
    of_train _ (vec_items c.args.self.now.world.trains) c.args.i _ _ (λ (t : Train). t.up) c.deref.ensures.value c.get.ensures.lookup.3 c.map_or.ensures (λ k. k) (λ x k. search rules)
