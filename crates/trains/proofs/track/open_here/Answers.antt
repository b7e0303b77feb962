use Rattle.std.proofs.Common.{◌≡◌, true, false, refl, ◌∙◌, arith, rules}
use Rattle.std.proofs.lemmas.Iterator.{cases_from_any, YieldsList-from_range}
use Rattle.interlocking.specs.Says.{state_of}
use Rattle.plan.specs.View.{plan_of}
use Rattle.trains.proofs.Tracks.{open_to, open_among}
use Rattle.trains.proofs.track.open_here.Goals as goal

pub returns : goal.returns
returns c =
    let p = plan_of c.args.plan in
    let h = state_of c.args.interlocking.now in
    let by_call = cases_from_any _ _ _ (λ r. open_to p h c.args.up c.args.x r ≡ true) (λ r. open_to p h c.args.up c.args.x r ≡ false) c.any.ensures.ran
    (YieldsList-from_range 0 c.from-n.result c.from-n.result refl (omega arith)) (λ r q k. search rules) (λ r q k. search rules)
    in
    open_among p h c.args.up c.args.x c.from-n.result _ _ (c.from-n.ensures ∙ c.routes.ensures) by_call
