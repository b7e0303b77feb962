use Rattle.interlocking.proofs.States.{same_state}
use Rattle.memory.specs.Memory.{state_in}
use Rattle.memory.proofs.read.Goals as goal

pub returns : goal.returns
unfolding state_in
returns c = same_state _ _ c.locks.ensures c.marks.ensures c.stages.ensures c.marks-2.ensures
