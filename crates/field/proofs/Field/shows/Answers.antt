use Rattle.std.proofs.Common.{rules, tests, refl, arith, ◌∙◌}
use Rattle.std.proofs.lemmas.Iterator.{YieldsList-from_range}
use Rattle.std.proofs.lemmas.Iterator.Search.{any_from_yields_List}
use Rattle.interlocking.specs.Says.{state_of}
use Rattle.plan.specs.View.{plan_of}
use Rattle.field.specs.Field.{clears}
use Rattle.field.proofs.Shown.{any_shows}
use Rattle.field.proofs.Field.shows.Goals as goal

pub returns : goal.returns
returns c =
    let p = plan_of c.args.self.plan in
    let h = state_of c.args.self.interlocking.now in
    let n = c.from-routes.result in
    let found = any_from_yields_List (λ r. clears p h c.args.up c.args.x r) _ _ c.any.result c.any.ensures.ran (YieldsList-from_range 0 n n refl (omega arith)) (λ r b q k. search (rules, tests)) in
    let said = any_shows p h c.args.up c.args.x n in
    let all = c.from-routes.ensures ∙ c.routes.ensures in cc
