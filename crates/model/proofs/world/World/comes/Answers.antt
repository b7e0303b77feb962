use Rattle.model.proofs.Steps.{come_either}
use Rattle.model.proofs.world.World.comes.Goals as goal

pub invariant_of-self : goal.invariant_of-self
invariant_of-self c = record {
  count = c.args.self.now.count;
  inside = (come_either c.args.self.now c.args.i c.args.up c.args.x c.index_mut.result.now c.comes.new.self _ c.requires.train c.requires.nowhere c.requires.section c.index_mut.ensures.value c.comes.ensures).1;
}

pub returns : goal.returns
returns c = (come_either c.args.self.now c.args.i c.args.up c.args.x c.index_mut.result.now c.comes.new.self _ c.requires.train c.requires.nowhere c.requires.section c.index_mut.ensures.value c.comes.ensures).0
