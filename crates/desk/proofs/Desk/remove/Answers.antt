use Rattle.std.proofs.Common.{◌≡◌, length, refl, ◌∙◌, ap, take, ◌-◌, arith}
use Rattle.desk.proofs.Rows.{row_less}
use Rattle.desk.proofs.Desk.remove.Goals as goal

pub returns : goal.returns
returns c =
    let m : length c.args.self.now.places ≡ 64 = omega arith in
    record {
      waiting = ap (take (c.len-count.result - 1)) c.copy_within.ensures.after ∙ row_less c.args.self.now.places c.args.self.now.count c.len-count.result c.args.i m c.len-count.ensures.count (omega arith);
      next = refl;
    }
