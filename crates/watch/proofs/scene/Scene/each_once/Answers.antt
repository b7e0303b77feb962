use Rattle.std.proofs.Common.{rules, refl}
use Rattle.plan.specs.Plan.{Once}
use Rattle.watch.specs.Scene.{BrokenIn, body_in}
use Rattle.plan.proofs.Looks.{looked_below}
use Rattle.watch.proofs.scene.Scene.each_once.Goals as goal

pub returns : goal.returns
returns c = let s = c.args.self.now in looked_below (λ r. Once (body_in s r)) (BrokenIn s) (λ x r q k. search rules) 16 _ _ refl c.find_map.ensures.runs
