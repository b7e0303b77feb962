use Rattle.std.proofs.Common.{◌≡◌, drop}
use Rattle.interlocking.specs.State.{behind_free}
use Rattle.interlocking.specs.Says.{state_of}
use Rattle.interlocking.proofs.Interlocking.behind_free.Given as goal

abbrev pub invariant-loop-y : goal.invariant-loop-y
invariant-loop-y l = behind_free (state_of l.self) l.lock l.x (drop l.y-index l.path) ≡ behind_free (state_of l.self) l.lock l.x l.path
