use Rattle.model.proofs.Steps.{leave_done}
use Rattle.model.proofs.world.World.leaves.Goals as goal

pub invariant_of-self : goal.invariant_of-self
invariant_of-self c = record {
  count = c.args.self.now.count;
  inside = (leave_done c.args.self.now c.args.i c.index_mut.result.now c.leaves.new.self c.requires c.index_mut.ensures.value c.leaves.ensures).1;
}

pub returns : goal.returns
returns c = (leave_done c.args.self.now c.args.i c.index_mut.result.now c.leaves.new.self c.requires c.index_mut.ensures.value c.leaves.ensures).0
