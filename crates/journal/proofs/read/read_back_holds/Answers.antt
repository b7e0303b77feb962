use Rattle.journal.proofs.Begun.{read_back}
use Rattle.journal.proofs.read.read_back_holds.Goals as goal

pub returns : goal.returns
returns c = read_back
