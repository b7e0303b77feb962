use Rattle.std.proofs.Common.{refl, arith}
use Rattle.desk.specs.Desk.{waiting_of}
use Rattle.desk.proofs.Rows.{withdrawn_one, withdrawn_none}
use Rattle.desk.proofs.Desk.withdraw.Goals as goal

pub returns-then-i-len : goal.returns-then-i-len
returns-then-i-len c =
    let w = withdrawn_one c.args.ticket (waiting_of c.args.self.now) c.waiting.result.now c.place_of-i.result c.len.result _ c.waiting.ensures.row c.place_of-i.ensures c.len.ensures.count c.if-i-len.true c.remove.ensures.waiting in
    record { answer = w.0; waiting = w.1; next = c.remove.ensures.next }

pub returns : goal.returns
returns c =
    let w = withdrawn_none c.args.ticket (waiting_of c.args.self.now) c.waiting.result.now c.place_of-i.result c.len.result c.waiting.ensures.row c.place_of-i.ensures c.len.ensures.count c.if-i-len.false in
    record { answer = w.0; waiting = w.1; next = refl }

pub remove-requires : goal.remove-requires
remove-requires c =
    record { within = omega arith; waits = omega arith }
