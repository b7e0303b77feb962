use Rattle.std.proofs.Common.{true, sym}
use Rattle.memory.proofs.Refuses.{lent_sound}
use Rattle.occupancy.proofs.entry.note.Goals as goal

pub noted-requires : goal.noted-requires
noted-requires c =
    let s = lent_sound c.args.plan.now c.args.memory.now c.args.seen.now true (sym c.in_ok-plan.ensures.refused) in
    record { memory = s.memory; occupancy = s.occupancy }
