use Rattle.std.proofs.Common.{vec_items, ap}
use Rattle.plan.specs.View.{plan_of}
use Rattle.model.proofs.Steps.{draw_inside_still, draw_next}
use Rattle.model.proofs.world.World.draws.Goals as goal

pub invariant_of-self : goal.invariant_of-self
invariant_of-self c = record {
  count = c.args.self.now.count;
  inside = draw_inside_still c.args.self.now c.args.i c.index_mut.result.now c.draws.new.self c.requires c.index_mut.ensures.value c.draws.ensures;
}

pub returns : goal.returns
returns c =
    draw_next (plan_of c.args.plan) c.args.self.now c.note.new.self c.args.i c.index_mut.result.now c.draws.new.self c.requires c.index_mut.ensures.value c.draws.ensures
    c.note.ensures.interlocking c.note.ensures.lies (ap (λ v. vec_items v) c.note.ensures.trains)
