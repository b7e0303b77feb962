use Rattle.std.proofs.Common.{◌≤◌, length, arith}
use Rattle.std.proofs.lemmas.List.{set_past}
use Rattle.rows.proofs.Path.push.Goals as goal

pub returns-else-k-lt16 : goal.returns-else-k-lt16
returns-else-k-lt16 c =
    let l : length c.args.self.now.sections ≤ c.args.self.now.count = omega arith in
    rw (set_past c.args.self.now.sections c.args.self.now.count c.args.x l, c.saturating_add-self.ensures)
