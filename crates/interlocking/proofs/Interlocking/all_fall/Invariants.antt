use Rattle.std.proofs.Common.{◌≡◌}
use Rattle.interlocking.specs.State.{all_fall}
use Rattle.interlocking.specs.Says.{state_of}
use Rattle.interlocking.proofs.Interlocking.all_fall.Given as goal

abbrev pub invariant-loop-r : goal.invariant-loop-r
invariant-loop-r l = state_of l.self ≡ all_fall l.r (state_of l.initial.self)
