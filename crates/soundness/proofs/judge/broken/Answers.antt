use Rattle.std.proofs.Common.{ℕ, sym, ap, ◌∙◌}
use Rattle.plan.specs.View.{plan_of, route_of}
use Rattle.soundness.specs.Tests.{known, route_test}
use Rattle.soundness.proofs.Found.{fails_1, fails_2, fails_3, fails_4, fails_5, fails_6, fails_7, fails_8, fails_9, fails_10}
use Rattle.soundness.proofs.judge.broken.Goals as goal

pub returns-then-not-begins : goal.returns-then-not-begins
unfolding route_test
returns-then-not-begins c = fails_1 (plan_of c.args.plan) (route_of c.args.route)
    (sym c.begins.ensures ∙ c.if-not-begins.true)

pub returns-then-not-goes : goal.returns-then-not-goes
unfolding route_test
returns-then-not-goes c = fails_2 (plan_of c.args.plan) (route_of c.args.route)
    (sym c.begins.ensures ∙ c.if-not-begins.false) (sym c.goes.ensures ∙ c.if-not-goes.true)

pub returns-then-not-differs : goal.returns-then-not-differs
unfolding route_test
returns-then-not-differs c = fails_3 (plan_of c.args.plan) (route_of c.args.route)
    (sym c.begins.ensures ∙ c.if-not-begins.false) (sym c.goes.ensures ∙ c.if-not-goes.false) (sym c.differs.ensures ∙ c.if-not-differs.true)

pub returns-then-not-agree : goal.returns-then-not-agree
unfolding route_test
returns-then-not-agree c = fails_4 (plan_of c.args.plan) (route_of c.args.route)
    (sym c.begins.ensures ∙ c.if-not-begins.false) (sym c.goes.ensures ∙ c.if-not-goes.false) (sym c.differs.ensures ∙ c.if-not-differs.false) (sym c.agree.ensures ∙ c.if-not-agree.true)

pub returns-then-not-known : goal.returns-then-not-known
unfolding route_test
returns-then-not-known c = fails_5 (plan_of c.args.plan) (route_of c.args.route)
    (sym c.begins.ensures ∙ c.if-not-begins.false) (sym c.goes.ensures ∙ c.if-not-goes.false) (sym c.differs.ensures ∙ c.if-not-differs.false) (sym c.agree.ensures ∙ c.if-not-agree.false) (sym (c.known.ensures ∙ ap (λ (m : ℕ). known m (route_of c.args.route).needs) c.points.ensures) ∙ c.if-not-known.true)

pub returns-then-not-hangs : goal.returns-then-not-hangs
unfolding route_test
returns-then-not-hangs c = fails_6 (plan_of c.args.plan) (route_of c.args.route)
    (sym c.begins.ensures ∙ c.if-not-begins.false) (sym c.goes.ensures ∙ c.if-not-goes.false) (sym c.differs.ensures ∙ c.if-not-differs.false) (sym c.agree.ensures ∙ c.if-not-agree.false) (sym (c.known.ensures ∙ ap (λ (m : ℕ). known m (route_of c.args.route).needs) c.points.ensures) ∙ c.if-not-known.false) (sym c.hangs.ensures ∙ c.if-not-hangs.true)

pub returns-then-not-passes : goal.returns-then-not-passes
unfolding route_test
returns-then-not-passes c = fails_7 (plan_of c.args.plan) (route_of c.args.route)
    (sym c.begins.ensures ∙ c.if-not-begins.false) (sym c.goes.ensures ∙ c.if-not-goes.false) (sym c.differs.ensures ∙ c.if-not-differs.false) (sym c.agree.ensures ∙ c.if-not-agree.false) (sym (c.known.ensures ∙ ap (λ (m : ℕ). known m (route_of c.args.route).needs) c.points.ensures) ∙ c.if-not-known.false) (sym c.hangs.ensures ∙ c.if-not-hangs.false) (sym c.passes.ensures ∙ c.if-not-passes.true)

pub returns-then-not-ends : goal.returns-then-not-ends
unfolding route_test
returns-then-not-ends c = fails_8 (plan_of c.args.plan) (route_of c.args.route)
    (sym c.begins.ensures ∙ c.if-not-begins.false) (sym c.goes.ensures ∙ c.if-not-goes.false) (sym c.differs.ensures ∙ c.if-not-differs.false) (sym c.agree.ensures ∙ c.if-not-agree.false) (sym (c.known.ensures ∙ ap (λ (m : ℕ). known m (route_of c.args.route).needs) c.points.ensures) ∙ c.if-not-known.false) (sym c.hangs.ensures ∙ c.if-not-hangs.false) (sym c.passes.ensures ∙ c.if-not-passes.false) (sym c.ends.ensures ∙ c.if-not-ends.true)

pub returns-then-not-holds : goal.returns-then-not-holds
unfolding route_test
returns-then-not-holds c = fails_9 (plan_of c.args.plan) (route_of c.args.route)
    (sym c.begins.ensures ∙ c.if-not-begins.false) (sym c.goes.ensures ∙ c.if-not-goes.false) (sym c.differs.ensures ∙ c.if-not-differs.false) (sym c.agree.ensures ∙ c.if-not-agree.false) (sym (c.known.ensures ∙ ap (λ (m : ℕ). known m (route_of c.args.route).needs) c.points.ensures) ∙ c.if-not-known.false) (sym c.hangs.ensures ∙ c.if-not-hangs.false) (sym c.passes.ensures ∙ c.if-not-passes.false) (sym c.ends.ensures ∙ c.if-not-ends.false) (sym c.holds.ensures ∙ c.if-not-holds.true)

pub returns-else-not-holds : goal.returns-else-not-holds
unfolding route_test
returns-else-not-holds c = fails_10 (plan_of c.args.plan) (route_of c.args.route)
    (sym c.begins.ensures ∙ c.if-not-begins.false) (sym c.goes.ensures ∙ c.if-not-goes.false) (sym c.differs.ensures ∙ c.if-not-differs.false) (sym c.agree.ensures ∙ c.if-not-agree.false) (sym (c.known.ensures ∙ ap (λ (m : ℕ). known m (route_of c.args.route).needs) c.points.ensures) ∙ c.if-not-known.false) (sym c.hangs.ensures ∙ c.if-not-hangs.false) (sym c.passes.ensures ∙ c.if-not-passes.false) (sym c.ends.ensures ∙ c.if-not-ends.false) (sym c.holds.ensures ∙ c.if-not-holds.false)
