use Rattle.std.proofs.Common.{ℕ, length}
use Rattle.safety.specs.Promise.{Hangs}
use Rattle.watch.specs.Broken.{Parted}
use Rattle.watch.specs.Scene.{lies_in, plan_in}
use Rattle.watch.proofs.scene.Scene.parted.Given as goal

abbrev pub invariant-loop-rest : goal.invariant-loop-rest
invariant-loop-rest l = record {
  parts : (a b : ℕ) → Parted (plan_in l.self) (lies_in l.self) l.up l.rest a b → Parted (plan_in l.self) (lies_in l.self) l.up l.body a b;
  hangs : Hangs (plan_in l.self) (lies_in l.self) l.up l.rest → Hangs (plan_in l.self) (lies_in l.self) l.up l.body;
}

abbrev pub decreases-loop-rest : goal.decreases-loop-rest
decreases-loop-rest l = length l.rest
