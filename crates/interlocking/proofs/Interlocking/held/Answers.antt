use Rattle.std.proofs.Common.{not, ◌&&◌, ◌∙◌, ap, rules, tests, arith}
use Rattle.std.proofs.lemmas.Iterator.{YieldsList-from_range}
use Rattle.std.proofs.lemmas.Iterator.Search.{any_from_yields_List}
use Rattle.plan.specs.Plan.{needed, route}
use Rattle.plan.specs.View.{plan_of}
use Rattle.interlocking.specs.State.{held, is_idle}
use Rattle.interlocking.specs.Says.{state_of}
use Rattle.interlocking.proofs.Asks.{held_is}
use Rattle.interlocking.proofs.Interlocking.held.Goals as goal

pub returns : goal.returns
returns c =
    any_from_yields_List (λ r. not (is_idle ((state_of c.args.self.now).stage r)) && needed c.args.q (route (plan_of c.args.plan) r).needs) c.any.new.self _ _ c.any.ensures.ran
    (YieldsList-from_range 0 c.routes.result c.routes.result (cc) (omega arith)) (λ x b q k. search (rules, tests))
    ∙ held_is (plan_of c.args.plan) (state_of c.args.self.now) c.args.q c.routes.result ∙ ap (held (plan_of c.args.plan) (state_of c.args.self.now) c.args.q) c.routes.ensures
