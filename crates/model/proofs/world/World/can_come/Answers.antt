use Rattle.std.proofs.Common.{vec_items, arith, rules}
use Rattle.plan.specs.Plan.{marks}
use Rattle.plan.specs.View.{plan_of}
use Rattle.trains.specs.Trains.{Train, empty}
use Rattle.trains.proofs.Tracks.{few_sections}
use Rattle.model.specs.Held.{world_of}
use Rattle.model.proofs.Cans.{come_far, come_in, come_out, some_train}
use Rattle.model.proofs.world.World.can_come.Goals.{then-not-nowhere-via-then-not-nowhere, then-not-nowhere-via-else-not-nowhere+then-x-from}
use Rattle.model.proofs.world.World.can_come.Goals as goal

pub returns-then-not-nowhere : goal.returns-then-not-nowhere
returns-then-not-nowhere c =
    let s = (some_train _ (vec_items c.args.self.now.trains) c.args.self.now.trains.len c.args.i _ _ (λ (t : Train). empty t.body) c.deref.ensures.value c.args.self.now.trains.ok.0 c.get.ensures.lookup.3 c.is_some_and-nowhere.ensures (λ x k. search rules)) in
    elim c.then-not-nowhere.branch [
      | then-not-nowhere-via-then-not-nowhere w ↦ come_out (plan_of c.args.plan) c.args.self.now.trains.len (world_of c.args.self.now) c.args.i c.args.up c.args.x _ s w.if-not-nowhere.true
      | then-not-nowhere-via-else-not-nowhere+then-x-from w ↦ come_far (plan_of c.args.plan) c.args.self.now.trains.len (world_of c.args.self.now) c.args.i c.args.up c.args.x (omega (arith, w.sections.ensures, w.from.ensures, w.if-x-from.true))
    ]

pub returns : goal.returns
returns c =
    let s = (some_train _ (vec_items c.args.self.now.trains) c.args.self.now.trains.len c.args.i _ _ (λ (t : Train). empty t.body) c.deref.ensures.value c.args.self.now.trains.ok.0 c.get.ensures.lookup.3 c.is_some_and-nowhere.ensures (λ x k. search rules)) in
    come_in (plan_of c.args.plan) c.args.self.now.trains.len (world_of c.args.self.now) c.args.i c.args.up c.args.x c.is_some_and-nowhere.result c.may_enter.result (marks c.occupancy-occupied.result) s c.if-not-nowhere.false
    (omega arith) (few_sections c.args.plan) c.occupancy-occupied.ensures c.may_enter.ensures
