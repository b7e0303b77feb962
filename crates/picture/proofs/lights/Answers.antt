use Rattle.std.proofs.Common.{rules, None}
use Rattle.plan.specs.View.{plan_of}
use Rattle.interlocking.specs.Says.{state_of}
use Rattle.picture.specs.Picture.{light_of}
use Rattle.picture.proofs.Filled.{filled}
use Rattle.picture.proofs.lights.Goals as goal

pub returns : goal.returns
returns c =
    filled _ _ (light_of (plan_of c.args.field.plan) (state_of c.args.field.interlocking.now) c.args.up) c.from_fn.result 64 None c.from_fn.ensures.items (λ x y q k. search rules)
