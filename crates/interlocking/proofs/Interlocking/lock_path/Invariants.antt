use Rattle.std.proofs.Common.{◌≡◌, drop}
use Rattle.interlocking.specs.Says.{lock_path}
use Rattle.interlocking.proofs.Interlocking.lock_path.Given as goal

abbrev pub invariant-loop-x : goal.invariant-loop-x
invariant-loop-x l = lock_path l.lock (drop l.x-index l.path) l.self ≡ lock_path l.lock l.path l.initial.self
