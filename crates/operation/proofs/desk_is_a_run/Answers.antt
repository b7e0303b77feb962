use Rattle.operation.proofs.Runs.{desk_is_a_run}
use Rattle.operation.proofs.desk_is_a_run.Goals as goal

pub returns : goal.returns
returns c = desk_is_a_run
