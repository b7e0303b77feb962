use Rattle.field.proofs.Shown.{exactly}
use Rattle.field.proofs.shows_exactly.Goals as goal

pub returns : goal.returns
returns c = exactly
