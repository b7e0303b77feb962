use Rattle.std.proofs.Common.{vec_items}
use Rattle.plan.specs.View.{plan_of}
use Rattle.trains.specs.Trains.{may_reverse}
use Rattle.model.specs.World.{can}
use Rattle.model.proofs.Cans.{train_is, train_none}
use Rattle.model.proofs.world.World.can_reverse.Goals as goal

pub returns-in-Some : goal.returns-in-Some
unfolding can
returns-in-Some c =
    train_is _ (vec_items c.args.self.now.trains) c.args.self.now.trains.len c.args.i c.in-Some.train _ (may_reverse (plan_of c.args.plan)) c.deref.ensures.value c.args.self.now.trains.ok.0 c.in-Some.ensures.lookup.3 c.may_reverse.ensures

pub returns-in-None : goal.returns-in-None
unfolding can
returns-in-None c = train_none _ (vec_items c.args.self.now.trains) c.args.self.now.trains.len c.args.i _ c.deref.ensures.value c.args.self.now.trains.ok.0 c.in-None.ensures.lookup.3
