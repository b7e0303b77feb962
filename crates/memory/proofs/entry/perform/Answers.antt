use Rattle.std.proofs.Common.{rules}
use Rattle.plan.specs.View.{plan_of}
use Rattle.memory.specs.Entry.{marked}
use Rattle.memory.proofs.Filled.{marks_are}
use Rattle.memory.proofs.Room.{time_in}
use Rattle.memory.proofs.Performed.{answered, performed, not_performed}
use Rattle.memory.proofs.entry.perform.Goals as goal

pub returns-then-answer : goal.returns-then-answer
returns-then-answer c =
    let k = answered (plan_of c.args.plan) (marked c.args.seen.now) (marked c.args.turned.now) c.args.request c.args.memory.now _ _ _ _ _
    c.read.ensures (marks_are 64 _ c.args.seen.now c.requires.occupancy c.marks_in-occupied.ensures)
    (marks_are 32 _ c.args.turned.now c.requires.positions c.marks_in-lies.ensures) c.perform.ensures in
    performed (plan_of c.args.plan) (marked c.args.seen.now) (marked c.args.turned.now) c.args.request c.args.memory.now _ _ _
    k c.if-answer.true (time_in c.args.plan.numbers.now c.args.plan.formed) (λ i. search rules) c.requires.memory (search rules) c.store.ensures

pub returns-else-answer : goal.returns-else-answer
returns-else-answer c =
    let k = answered (plan_of c.args.plan) (marked c.args.seen.now) (marked c.args.turned.now) c.args.request c.args.memory.now _ _ _ _ _
    c.read.ensures (marks_are 64 _ c.args.seen.now c.requires.occupancy c.marks_in-occupied.ensures)
    (marks_are 32 _ c.args.turned.now c.requires.positions c.marks_in-lies.ensures) c.perform.ensures in
    not_performed (plan_of c.args.plan) (marked c.args.seen.now) (marked c.args.turned.now) c.args.request c.args.memory.now _ _
    k c.if-answer.false (λ i. search rules)
