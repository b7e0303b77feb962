use Rattle.memory.proofs.Numbered.{at_rest_empty}
use Rattle.memory.proofs.starts_at_rest.Goals as goal

pub returns : goal.returns
returns c = at_rest_empty
