use Rattle.std.proofs.Common.{rules}
use Rattle.plan.specs.View.{plan_of}
use Rattle.memory.specs.Entry.{marked}
use Rattle.memory.proofs.Filled.{marks_are}
use Rattle.occupancy.proofs.Lasting.{noted_stored}
use Rattle.occupancy.proofs.entry.noted.Goals as goal

pub returns : goal.returns
returns c =
    noted_stored (plan_of c.args.plan) (marked c.args.seen.now) c.args.memory.now _ _ _ _ c.requires.memory (λ i. search rules) (search rules)
    c.read.ensures (marks_are 64 _ c.args.seen.now c.requires.occupancy c.marks_in-occupied.ensures) c.note-left.ensures c.store.ensures
