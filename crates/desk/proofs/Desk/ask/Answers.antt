use Rattle.std.proofs.Common.{◌<◌, ◌||◌, leb, length, sym, refl, ap, ◌∙◌, arith}
use Rattle.desk.proofs.Rows.{row_more}
use Rattle.desk.proofs.Desk.ask.Goals as goal

pub returns : goal.returns
returns c =
    let l : c.len-count.result < length c.args.self.now.places = grind arith in
    (ap (λ n. leb 64 n || leb 18446744073709551615 c.args.self.now.next) (sym c.len-count.ensures.count) ∙ sym c.if-is_full.ensures, refl, row_more c.args.self.now.places c.args.self.now.count _ _ c.len-count.ensures.count l, refl)
