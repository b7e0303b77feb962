use Rattle.std.proofs.Common.{vec_items, sym, ap, ◌∙◌, rules}
use Rattle.plan.specs.Plan.{marks}
use Rattle.plan.specs.View.{plan_of}
use Rattle.interlocking.specs.Says.{state_of}
use Rattle.trains.specs.Trains.{may_go, may_leave}
use Rattle.model.specs.Held.{world_of}
use Rattle.model.specs.World.{can}
use Rattle.model.proofs.Cans.{train_is, train_none}
use Rattle.model.proofs.world.World.can.Goals as goal

pub returns-in-Asked : goal.returns-in-Asked
unfolding can
returns-in-Asked c = rw c.in-Asked.is

pub returns-in-Turns : goal.returns-in-Turns
unfolding can
returns-in-Turns c = rw c.in-Turns.is (search rules)

pub returns-in-Some : goal.returns-in-Some
unfolding can
returns-in-Some c =
    train_is _ (vec_items c.args.self.now.trains) c.args.self.now.trains.len c.in-Goes.i c.in-Some.train _ (may_go (plan_of c.args.plan) (state_of c.args.self.now.interlocking) (marks c.args.self.now.lies)) c.deref.ensures.value c.args.self.now.trains.ok.0 c.in-Some.ensures.lookup.3 c.may_go.ensures
    ∙ ap (can (plan_of c.args.plan) c.args.self.now.trains.len (world_of c.args.self.now)) (sym c.in-Goes.is)

pub returns-in-None : goal.returns-in-None
unfolding can
returns-in-None c = train_none _ (vec_items c.args.self.now.trains) c.args.self.now.trains.len c.in-Goes.i _ c.deref.ensures.value c.args.self.now.trains.ok.0 c.in-None.ensures.lookup.3 ∙ ap (can (plan_of c.args.plan) c.args.self.now.trains.len (world_of c.args.self.now)) (sym c.in-Goes.is)

pub returns-in-Some-get : goal.returns-in-Some-get
unfolding can
returns-in-Some-get c =
    train_is _ (vec_items c.args.self.now.trains) c.args.self.now.trains.len c.in-Leaves.i c.in-Some-get.train _ (may_leave (plan_of c.args.plan) (marks c.args.self.now.lies)) c.deref-in-Leaves.ensures.value c.args.self.now.trains.ok.0 c.in-Some-get.ensures.lookup.3 c.may_leave.ensures
    ∙ ap (can (plan_of c.args.plan) c.args.self.now.trains.len (world_of c.args.self.now)) (sym c.in-Leaves.is)

pub returns-in-None-get : goal.returns-in-None-get
unfolding can
returns-in-None-get c = train_none _ (vec_items c.args.self.now.trains) c.args.self.now.trains.len c.in-Leaves.i _ c.deref-in-Leaves.ensures.value c.args.self.now.trains.ok.0 c.in-None-get.ensures.lookup.3 ∙ ap (can (plan_of c.args.plan) c.args.self.now.trains.len (world_of c.args.self.now)) (sym c.in-Leaves.is)
