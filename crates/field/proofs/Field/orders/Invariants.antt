use Rattle.std.proofs.Common.{◌≡◌, ◌++◌, vec_items}
use Rattle.plan.specs.View.{plan_of}
use Rattle.interlocking.specs.Says.{state_of}
use Rattle.field.specs.Field.{signal_orders, point_orders}
use Rattle.field.proofs.Field.orders.Given as goal

abbrev pub invariant-loop-x : goal.invariant-loop-x
invariant-loop-x l = vec_items l.orders ≡ signal_orders (plan_of l.self.plan) (state_of l.self.interlocking.now) l.x

abbrev pub invariant-loop-point : goal.invariant-loop-point
invariant-loop-point l =
    vec_items l.orders ≡ signal_orders (plan_of l.self.plan) (state_of l.self.interlocking.now) (plan_of l.self.plan).sections ++ point_orders (state_of l.self.interlocking.now) l.point
