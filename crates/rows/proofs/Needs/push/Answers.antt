use Rattle.std.proofs.Common.{◌+◌, ◌*◌, ◌≤◌, length, arith}
use Rattle.std.proofs.lemmas.List.{set_past}
use Rattle.rows.specs.Rows.{bit}
use Rattle.rows.proofs.Needs.push.Goals as goal

pub returns-else-k-lt16 : goal.returns-else-k-lt16
returns-else-k-lt16 c =
    let l : length c.args.self.now.pairs ≤ 2 * c.args.self.now.count = omega arith in
    let m : length c.args.self.now.pairs ≤ 2 * c.args.self.now.count + 1 = omega arith in
    rw (
      set_past c.args.self.now.pairs (2 * c.args.self.now.count) c.args.need.point l,
      set_past c.args.self.now.pairs (2 * c.args.self.now.count + 1) (bit c.args.need.left) m,
      c.saturating_add-self.ensures,
    )
