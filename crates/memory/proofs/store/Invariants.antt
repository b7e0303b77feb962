use Rattle.interlocking.specs.Says.{state_of}
use Rattle.interlocking.proofs.Sweeps.{Upto}
use Rattle.memory.specs.Memory.{number_in}
use Rattle.memory.proofs.store.Given as goal

abbrev pub invariant-loop-k : goal.invariant-loop-k
invariant-loop-k l = Upto (number_in (state_of l.interlocking)) 0 l.initial.memory l.memory l.k
