use Rattle.safety.proofs.Guards.{arrays_in_room}
use Rattle.safety.proofs.arrays_in_room_holds.Goals as goal

pub returns : goal.returns
returns c = arrays_in_room
