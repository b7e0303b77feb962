use Rattle.std.proofs.Common.{rules}
use Rattle.plan.proofs.Sides.{same_is}
use Rattle.plan.proofs.Need.lies.Goals as goal

pub returns : goal.returns
returns c = let s = same_is c.mark_at.result c.args.self.left in search rules
