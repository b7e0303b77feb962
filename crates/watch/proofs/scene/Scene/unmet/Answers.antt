use Rattle.std.proofs.Common.{◌≡◌, true, false, rules, tests}
use Rattle.std.proofs.lemmas.Iterator.{first_from_find}
use Rattle.std.proofs.lemmas.Iterator.Consumers.{YieldsList-from_first}
use Rattle.plan.specs.Plan.{sameb}
use Rattle.plan.specs.View.{needs_left, route_of}
use Rattle.plan.proofs.Walks.{found_need}
use Rattle.watch.specs.Scene.{lies_in}
use Rattle.watch.proofs.Lists.{lies_wrong, met_all}
use Rattle.watch.proofs.scene.Scene.unmet.Goals as goal

pub returns-in_err-need : goal.returns-in_err-need
returns-in_err-need c =
    met_all (lies_in c.args.self.now) (route_of c.args.route).needs _ c.find.result _
    (found_need (route_of c.args.route).needs c.find.result (λ n. sameb (lies_in c.args.self.now n.point) n.left ≡ true) (λ n. sameb (lies_in c.args.self.now n.point) n.left ≡ false)
    (first_from_find c.find.new.self _ c.find.result (λ n. sameb (lies_in c.args.self.now n.point) n.left ≡ false) (λ n. sameb (lies_in c.args.self.now n.point) n.left ≡ true) c.find.ensures.ran
    (YieldsList-from_first (λ n. n) needs_left (route_of c.args.route).needs c.needs.ensures) (λ x q k. search (rules, tests)) (λ x q k. search (rules, tests))))
    c.in_err-need.was c.from_residual.ensures

pub returns : goal.returns
returns c =
    lies_wrong (lies_in c.args.self.now) (route_of c.args.route).needs _ c.find.result _
    (found_need (route_of c.args.route).needs c.find.result (λ n. sameb (lies_in c.args.self.now n.point) n.left ≡ true) (λ n. sameb (lies_in c.args.self.now n.point) n.left ≡ false)
    (first_from_find c.find.new.self _ c.find.result (λ n. sameb (lies_in c.args.self.now n.point) n.left ≡ false) (λ n. sameb (lies_in c.args.self.now n.point) n.left ≡ true) c.find.ensures.ran
    (YieldsList-from_first (λ n. n) needs_left (route_of c.args.route).needs c.needs.ensures) (λ x q k. search (rules, tests)) (λ x q k. search (rules, tests))))
    c.in_ok-need.was
