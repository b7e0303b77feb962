use Rattle.std.proofs.Common.{◌++◌, ap, sym, ◌∙◌, vec_items}
use Rattle.plan.specs.View.{plan_of}
use Rattle.interlocking.specs.Says.{state_of}
use Rattle.field.proofs.Shown.{none_yet, one_put, section_more, no_point, point_more, all_orders}
use Rattle.field.proofs.Field.orders.Goals as goal

pub loop-x-init : goal.loop-x-init
loop-x-init c = c.new-orders.ensures.items ∙ sym (none_yet (plan_of c.args.self.plan) (state_of c.args.self.interlocking.now))

pub loop-x-preserved : goal.loop-x-preserved
loop-x-preserved c =
    let p = plan_of c.args.self.plan in
    let h = state_of c.args.self.interlocking.now in
    let a = c.in_ok-extend.ensures.ran in
    let b = c.in_ok-extend-2.ensures.ran in
    let u = one_put _ _ _ _ a.0 a.2.0 a.3.0 a.4 in
    let d = one_put _ _ _ _ b.0 b.2.0 b.3.0 b.4 in
    section_more p h c.loop-x.x _ _ _ c.loop-x.invariant (u ∙ ap (λ w. vec_items c.loop-x.orders ++ w) c.signal_order.ensures)
    (d ∙ ap (λ w. vec_items c.extend.new.self ++ w) c.signal_order-in-loop-x.ensures)

pub loop-point-init : goal.loop-point-init
loop-point-init c =
    no_point (plan_of c.args.self.plan) (state_of c.args.self.interlocking.now) c.loop-x.x _ _ _ c.loop-x.invariant c.loop-x.auto.x-end c.loop-x-test.false c.sections-x-end.ensures

pub loop-point-preserved : goal.loop-point-preserved
loop-point-preserved c =
    point_more (plan_of c.args.self.plan) (state_of c.args.self.interlocking.now) _ c.loop-point.point _ _ c.told-left.result c.loop-point.invariant (c.told-left.ensures ∙ ap (state_of c.args.self.interlocking.now).wanted c.from.ensures) c.in_ok-push.ensures.items

pub returns : goal.returns
returns c =
    all_orders (plan_of c.args.self.plan) (state_of c.args.self.interlocking.now) c.loop-point.point _ _ c.loop-point.invariant c.loop-point.auto.point-end c.loop-point-test.false c.points-point-end.ensures
