use Rattle.operation.proofs.Runs.{signals_always_safe}
use Rattle.operation.proofs.signals_always_safe.Goals as goal

pub returns : goal.returns
returns c = signals_always_safe
