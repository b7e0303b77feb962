use Rattle.std.proofs.Common.{◌≡◌, ℕ, ◌+◌, ◌*◌, take, drop, ap, ◌∙◌, arith}
use Rattle.plan.specs.Numbers.{routes_from}
use Rattle.plan.proofs.Formed.{formed, route_place, route_is, route_few}
use Rattle.plan.proofs.view.Plan.route_at.Goals as goal

pub overflow_mul-r : goal.overflow_mul-r
overflow_mul-r c = let l = route_few c.args.self.numbers.now c.args.r c.args.self.formed c.requires in omega arith

pub overflow_add-first_route : goal.overflow_add-first_route
overflow_add-first_route c =
    let f = formed c.args.self.numbers.now c.args.self.formed in
    let a = f.sections in
    let b = f.points in
    let l = route_few c.args.self.numbers.now c.args.r c.args.self.formed c.requires in
    let e = c.first_route.ensures in omega arith

pub new-requires : goal.new-requires
new-requires c = let s = route_place c.args.self.numbers.now c.args.r c.args.self.formed c.requires in simp c.first_route.ensures s

pub returns : goal.returns
returns c =
    let e : c.first_route.result + 52 * c.args.r ≡ routes_from c.args.self.numbers.now + 52 * c.args.r = cc in
    route_is c.args.self.numbers.now c.new.result.numbers.now c.args.r c.args.self.formed c.requires
    (c.new.ensures ∙ ap (λ (z : ℕ). take 52 (drop z c.args.self.numbers.now)) e)
