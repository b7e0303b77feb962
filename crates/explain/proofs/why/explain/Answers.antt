use Rattle.std.proofs.Common.{sym}
use Rattle.explain.proofs.Turned.{says_some}
use Rattle.explain.proofs.why.explain.Goals as goal

pub fault-requires : goal.fault-requires
fault-requires c = says_some _ _ (sym c.in-Err.ensures)
