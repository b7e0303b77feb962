use Rattle.std.proofs.Common.{arith}
use Rattle.rows.proofs.Placed.{put_fits, put_none}
use Rattle.rows.proofs.put.Goals as goal

pub returns-then-k-numbers : goal.returns-then-k-numbers
returns-then-k-numbers c =
    put_fits c.args.k _ c.args.numbers.now c.copy_from_slice.new.self c.args.part.now (omega arith) c.copy_from_slice.ensures.after (omega arith)

pub returns-else-n-numbers : goal.returns-else-n-numbers
returns-else-n-numbers c = put_none c.args.k c.args.numbers.now c.args.part.now (λ h. grind arith)
