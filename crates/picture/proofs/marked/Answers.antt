use Rattle.std.proofs.Common.{rules, false}
use Rattle.plan.specs.Plan.{marks}
use Rattle.picture.proofs.Filled.{filled}
use Rattle.picture.proofs.marked.Goals as goal

pub returns : goal.returns
returns g c =
    filled _ _ (marks c.args.given.now) c.from_fn.result g.row.N false c.from_fn.ensures.items (λ x y q k. search rules)
