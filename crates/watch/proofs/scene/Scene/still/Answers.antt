use Rattle.std.proofs.Common.{rules, ◌≡◌, true}
use Rattle.model.specs.World.{occupied}
use Rattle.watch.specs.Scene.{BrokenIn, lies_in, plan_in, state_in, trains_in}
use Rattle.plan.proofs.Looks.{looked_below}
use Rattle.watch.proofs.scene.Scene.still.Goals as goal

pub returns : goal.returns
returns c = let s = c.args.self.now in looked_below (λ r. occupied 16 (trains_in s) ((plan_in s).place r) ≡ true → (state_in s).wanted r ≡ lies_in s r) (BrokenIn s) (λ x r q k. search rules) _ _ _ c.points.ensures c.find_map.ensures.runs
