use Rattle.model.proofs.Steps.{reverse_done}
use Rattle.model.proofs.world.World.reverses.Goals as goal

pub invariant_of-self : goal.invariant_of-self
invariant_of-self c = record {
  count = c.args.self.now.count;
  inside = (reverse_done c.args.self.now c.args.i c.index_mut.result.now c.reverses.new.self c.requires c.index_mut.ensures.value c.reverses.ensures).1;
}

pub returns : goal.returns
returns c = (reverse_done c.args.self.now c.args.i c.index_mut.result.now c.reverses.new.self c.requires c.index_mut.ensures.value c.reverses.ensures).0
