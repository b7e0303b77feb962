use Rattle.interlocking.specs.Says.{released}
use Rattle.interlocking.proofs.Sweeps.{Upto}
use Rattle.interlocking.proofs.sweep.release.Given as goal

abbrev pub invariant-loop-held : goal.invariant-loop-held
invariant-loop-held l = Upto (released l.lock) 0 l.initial.locks l.locks l.held-index
