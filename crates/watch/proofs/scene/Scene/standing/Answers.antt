use Rattle.std.proofs.Common.{rules, refl}
use Rattle.safety.specs.Promise.{Hangs}
use Rattle.watch.specs.Scene.{BrokenIn, body_in, lies_in, plan_in, up_in}
use Rattle.plan.proofs.Looks.{looked_below}
use Rattle.watch.proofs.scene.Scene.standing.Goals as goal

pub returns : goal.returns
returns c = let s = c.args.self.now in looked_below (λ r. Hangs (plan_in s) (lies_in s) (up_in s r) (body_in s r)) (BrokenIn s) (λ x r q k. search rules) 16 _ _ refl c.find_map.ensures.runs
