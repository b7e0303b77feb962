use Rattle.std.proofs.Common.{not, vec_items, rules}
use Rattle.trains.specs.Trains.{Train, empty, without_last}
use Rattle.model.specs.World.{can}
use Rattle.model.proofs.Cans.{some_train}
use Rattle.model.proofs.world.World.can_draw.Goals as goal

pub returns : goal.returns
unfolding can
returns c =
    some_train _ (vec_items c.args.self.now.trains) c.args.self.now.trains.len c.args.i _ _ (λ (t : Train). not (empty (without_last t.body))) c.deref.ensures.value c.args.self.now.trains.ok.0 c.get.ensures.lookup.3 c.is_some_and.ensures (λ x k. search rules)
