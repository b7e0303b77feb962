use Rattle.std.proofs.Common.{◌≤◌, length, sym, ◌∙◌, arith}
use Rattle.plan.specs.Numbers.{plan_in}
use Rattle.plan.proofs.Formed.{route_past}
use Rattle.plan.proofs.view.Plan.route.Goals as goal

pub returns : goal.returns
returns c =
    let e = c.routes.ensures in
    let f = c.from.ensures in
    let l : length (plan_in c.args.self.numbers.now).routes ≤ c.args.r = omega arith in
    c.none.ensures ∙ sym (route_past c.args.self.numbers.now c.args.r l)
