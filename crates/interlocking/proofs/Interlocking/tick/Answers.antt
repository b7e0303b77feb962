use Rattle.std.proofs.Common.{refl, ap, ◌∙◌, arith, rules}
use Rattle.plan.specs.Plan.{marks}
use Rattle.plan.specs.View.{plan_of}
use Rattle.interlocking.proofs.Asks.{few_routes}
use Rattle.interlocking.specs.State.{done, all_fall}
use Rattle.interlocking.specs.Says.{state_of}
use Rattle.interlocking.specs.declared.Request.TheVariants.{Tick}
use Rattle.interlocking.proofs.Said.{said_done}
use Rattle.interlocking.proofs.Fits.{same_fits}
use Rattle.interlocking.proofs.Does.{tick_is}
use Rattle.interlocking.proofs.Interlocking.tick.Goals as goal

pub all_fall-left-requires : goal.all_fall-left-requires
all_fall-left-requires c = let e = c.routes.ensures in let n = few_routes c.args.sight.plan.numbers.now c.args.sight.plan.formed in omega arith

pub returns : goal.returns
unfolding done
returns c =
    said_done (plan_of c.args.sight.plan) c.args.self (marks c.args.sight.occupied.now) (marks c.args.sight.lies.now) Tick _ _ _ c.answered.ensures.request c.answered.ensures.done (tick_is _ _ _ _) refl
    (same_fits _ _ (search rules) (search rules) (search rules) (search rules) (c.all_fall-left.ensures ∙ ap (λ n. all_fall n (state_of c.args.self)) c.routes.ensures))
