use Rattle.interlocking.proofs.Fits.{resting}
use Rattle.interlocking.proofs.Interlocking.at_rest.Goals as goal

pub returns : goal.returns
returns c = resting c.all_left.result c.all_left.ensures
