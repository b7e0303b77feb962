use Rattle.std.proofs.Common.{ℕ, List, Bor, vec_items, ap, rules}
use Rattle.trains.specs.Trains.{Train}
use Rattle.model.proofs.Cans.{of_train}
use Rattle.model.proofs.station.Station.sections_of.Goals as goal

pub returns : goal.returns
returns c =
    of_train _ (vec_items c.args.self.now.world.trains) c.args.i _ c.map_or.result.now (λ (t : Train). t.body) c.deref.ensures.value c.get.ensures.lookup.3 c.map_or.ensures (λ k. ap (λ (s : Bor (List ℕ)). s.now) k) (λ x k. search rules)
