use Rattle.std.proofs.Common.{refl}
use Rattle.plan.specs.View.{plan_of}
use Rattle.trains.proofs.Tracks.{few_points, few_sections}
use Rattle.model.specs.Held.{world_of}
use Rattle.model.specs.Steps.{happens}
use Rattle.model.specs.declared.Event.TheVariants.{Comes, Draws, Goes, Leaves, Reverses, Turns}
use Rattle.model.proofs.Steps.{can_at, come_nowhere, come_under, draw_under, few_turn, leave_under, reverse_under, small_section, told_cannot, told_next}
use Rattle.model.proofs.world.World.step.Goals as goal

pub returns-then-not-can : goal.returns-then-not-can
returns-then-not-can c = told_cannot (plan_of c.args.plan) c.args.self.now.trains.len (world_of c.args.self.now) c.args.event c.can.result c.can.ensures c.if-not-can.true

pub turns-requires : goal.turns-requires
turns-requires c = few_turn (plan_of c.args.plan) c.args.self.now.trains.len (world_of c.args.self.now) c.in-Turns.q (can_at (plan_of c.args.plan) c.args.self.now.trains.len (world_of c.args.self.now) c.args.event (Turns c.in-Turns.q) c.can.result c.in-Turns.is c.can.ensures c.if-not-can.false) (few_points c.args.plan)

pub draws-requires : goal.draws-requires
draws-requires c = draw_under (plan_of c.args.plan) c.args.self.now.trains.len (world_of c.args.self.now) c.in-Draws.i (can_at (plan_of c.args.plan) c.args.self.now.trains.len (world_of c.args.self.now) c.args.event (Draws c.in-Draws.i) c.can.result c.in-Draws.is c.can.ensures c.if-not-can.false)

pub reverses-requires : goal.reverses-requires
reverses-requires c = reverse_under (plan_of c.args.plan) c.args.self.now.trains.len (world_of c.args.self.now) c.in-Reverses.i (can_at (plan_of c.args.plan) c.args.self.now.trains.len (world_of c.args.self.now) c.args.event (Reverses c.in-Reverses.i) c.can.result c.in-Reverses.is c.can.ensures c.if-not-can.false)

pub comes-requires-clause-train : goal.comes-requires-clause-train
comes-requires-clause-train c = come_under (plan_of c.args.plan) c.args.self.now.trains.len (world_of c.args.self.now) c.in-Comes.i c.in-Comes.up c.in-Comes.x (can_at (plan_of c.args.plan) c.args.self.now.trains.len (world_of c.args.self.now) c.args.event (Comes c.in-Comes.i c.in-Comes.up c.in-Comes.x) c.can.result c.in-Comes.is c.can.ensures c.if-not-can.false)

pub comes-requires-clause-nowhere : goal.comes-requires-clause-nowhere
comes-requires-clause-nowhere c = come_nowhere (plan_of c.args.plan) c.args.self.now.trains.len (world_of c.args.self.now) c.in-Comes.i c.in-Comes.up c.in-Comes.x (can_at (plan_of c.args.plan) c.args.self.now.trains.len (world_of c.args.self.now) c.args.event (Comes c.in-Comes.i c.in-Comes.up c.in-Comes.x) c.can.result c.in-Comes.is c.can.ensures c.if-not-can.false)

pub comes-requires-clause-section : goal.comes-requires-clause-section
comes-requires-clause-section c = small_section (plan_of c.args.plan) c.args.self.now.trains.len (world_of c.args.self.now) c.in-Comes.i c.in-Comes.up c.in-Comes.x (can_at (plan_of c.args.plan) c.args.self.now.trains.len (world_of c.args.self.now) c.args.event (Comes c.in-Comes.i c.in-Comes.up c.in-Comes.x) c.can.result c.in-Comes.is c.can.ensures c.if-not-can.false) (few_sections c.args.plan)

pub leaves-requires : goal.leaves-requires
leaves-requires c = leave_under (plan_of c.args.plan) c.args.self.now.trains.len (world_of c.args.self.now) c.in-Leaves.i (can_at (plan_of c.args.plan) c.args.self.now.trains.len (world_of c.args.self.now) c.args.event (Leaves c.in-Leaves.i) c.can.result c.in-Leaves.is c.can.ensures c.if-not-can.false)

pub returns-in-Turns : goal.returns-in-Turns
unfolding happens
returns-in-Turns c = told_next (plan_of c.args.plan) c.args.self.now.trains.len (world_of c.args.self.now) (world_of c.turns.new.self) c.args.event (Turns c.in-Turns.q) c.can.result c.in-Turns.is c.can.ensures c.if-not-can.false refl (c.turns.ensures (plan_of c.args.plan))

pub returns-in_ok-goes-in-Goes : goal.returns-in_ok-goes-in-Goes
unfolding happens
returns-in_ok-goes-in-Goes c = told_next (plan_of c.args.plan) c.args.self.now.trains.len (world_of c.args.self.now) (world_of c.goes.new.self) c.args.event (Goes c.in-Goes.i) c.can.result c.in-Goes.is c.can.ensures c.if-not-can.false refl c.in_ok-goes-in-Goes.ensures

pub returns-in-Draws : goal.returns-in-Draws
unfolding happens
returns-in-Draws c = told_next (plan_of c.args.plan) c.args.self.now.trains.len (world_of c.args.self.now) (world_of c.draws.new.self) c.args.event (Draws c.in-Draws.i) c.can.result c.in-Draws.is c.can.ensures c.if-not-can.false refl c.draws.ensures

pub returns-in-Reverses : goal.returns-in-Reverses
unfolding happens
returns-in-Reverses c = told_next (plan_of c.args.plan) c.args.self.now.trains.len (world_of c.args.self.now) (world_of c.reverses.new.self) c.args.event (Reverses c.in-Reverses.i) c.can.result c.in-Reverses.is c.can.ensures c.if-not-can.false refl (c.reverses.ensures (plan_of c.args.plan))

pub returns-in_ok-comes-in-Comes : goal.returns-in_ok-comes-in-Comes
unfolding happens
returns-in_ok-comes-in-Comes c = told_next (plan_of c.args.plan) c.args.self.now.trains.len (world_of c.args.self.now) (world_of c.comes.new.self) c.args.event (Comes c.in-Comes.i c.in-Comes.up c.in-Comes.x) c.can.result c.in-Comes.is c.can.ensures c.if-not-can.false refl (c.in_ok-comes-in-Comes.ensures (plan_of c.args.plan))

pub returns-in-Leaves : goal.returns-in-Leaves
unfolding happens
returns-in-Leaves c = told_next (plan_of c.args.plan) c.args.self.now.trains.len (world_of c.args.self.now) (world_of c.leaves.new.self) c.args.event (Leaves c.in-Leaves.i) c.can.result c.in-Leaves.is c.can.ensures c.if-not-can.false refl (c.leaves.ensures (plan_of c.args.plan))
