use Rattle.safety.proofs.Order.{strangers_in_sound}
use Rattle.safety.proofs.strangers_in_sound_holds.Goals as goal

pub returns : goal.returns
returns c = strangers_in_sound
