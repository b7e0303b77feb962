use Rattle.desk.proofs.Rows.{order_kept}
use Rattle.desk.proofs.keeps_order.Goals as goal

pub returns : goal.returns
returns c = order_kept
