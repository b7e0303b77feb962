use Rattle.safety.proofs.Theorem.{theorem}
use Rattle.safety.proofs.theorem_holds.Goals as goal

pub returns : goal.returns
returns c = theorem
