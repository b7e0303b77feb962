use Rattle.std.proofs.Common.{rules, refl}
use Rattle.watch.specs.Broken.{LetsGoAt}
use Rattle.watch.specs.Scene.{BrokenIn, lies_in, occupied_in, plan_in, state_in}
use Rattle.plan.proofs.Looks.{looked_below}
use Rattle.watch.proofs.scene.Scene.lets_go.Goals as goal

pub returns : goal.returns
returns c = let s = c.args.self.now in looked_below (λ r. LetsGoAt (plan_in s) (state_in s) (lies_in s) (occupied_in s) r) (BrokenIn s) (λ x r q k. search rules) 64 _ _ refl c.find_map.ensures.runs
