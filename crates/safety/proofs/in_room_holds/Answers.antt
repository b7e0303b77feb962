use Rattle.safety.proofs.Guards.{always_in_room}
use Rattle.safety.proofs.in_room_holds.Goals as goal

pub returns : goal.returns
returns c = always_in_room
