use Rattle.std.proofs.Common.{sym, subst, MatchOption}
use Rattle.plan.specs.Plan.{Once}
use Rattle.watch.specs.Broken.{Doubled}
use Rattle.watch.proofs.Lists.{doubled_is}
use Rattle.watch.proofs.fleet.doubled.Goals as goal

pub returns : goal.returns
returns c = subst (λ o. MatchOption o (Once c.args.body.now) (λ x. Doubled x c.args.body.now)) (sym c.repeated.ensures) (doubled_is c.args.body.now)
