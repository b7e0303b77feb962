use Rattle.std.proofs.Common.{◌∙◌, rules, tests}
use Rattle.std.proofs.lemmas.Iterator.Consumers.{YieldsList-from_first}
use Rattle.std.proofs.lemmas.Iterator.Search.{all_from_yields_List}
use Rattle.plan.specs.Plan.{marks}
use Rattle.plan.specs.View.{needs_left, plan_of, route_of}
use Rattle.plan.proofs.Walks.{all_is}
use Rattle.interlocking.specs.State.{can_want, can_have}
use Rattle.interlocking.specs.Says.{state_of}
use Rattle.interlocking.proofs.Walked.{have_nil, have_cons}
use Rattle.interlocking.proofs.Interlocking.can_have.Goals as goal

pub returns : goal.returns
returns c =
    all_from_yields_List (can_want (plan_of c.args.plan) (state_of c.args.self.now) (marks c.args.occupied.now)) c.all.new.self _ _ c.all.ensures.ran (YieldsList-from_first (λ n. n) needs_left (route_of c.args.route).needs c.needs.ensures) (λ x b q k. search (rules, tests))
    ∙ all_is (can_have (plan_of c.args.plan) (state_of c.args.self.now) (marks c.args.occupied.now)) (can_want (plan_of c.args.plan) (state_of c.args.self.now) (marks c.args.occupied.now))
    (have_nil (plan_of c.args.plan) (state_of c.args.self.now) (marks c.args.occupied.now)) (have_cons (plan_of c.args.plan) (state_of c.args.self.now) (marks c.args.occupied.now)) _
