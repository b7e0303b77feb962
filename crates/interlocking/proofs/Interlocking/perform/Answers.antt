use Rattle.std.proofs.Common.{subst}
use Rattle.interlocking.specs.Says.{SaysAt}
use Rattle.interlocking.specs.declared.Request.{Request}
use Rattle.interlocking.proofs.Requests.{same_request}
use Rattle.interlocking.proofs.Interlocking.perform.Goals as goal

pub returns : goal.returns
returns c =
    subst (λ (a : Request). SaysAt c.args.sight c.args.self a c.act.result.0 c.act.result.1)
    (same_request c.kind.result c.which.result c.args.request c.kind.ensures c.which.ensures) c.act.ensures
