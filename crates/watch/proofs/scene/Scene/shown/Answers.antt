use Rattle.std.proofs.Common.{rules, ◌∙◌, ◌≡◌, true}
use Rattle.watch.specs.Broken.{ShownRight}
use Rattle.interlocking.specs.State.{is_open}
use Rattle.watch.specs.Scene.{BrokenIn, lies_in, occupied_in, plan_in, state_in}
use Rattle.plan.proofs.Looks.{looked_below}
use Rattle.watch.proofs.scene.Scene.shown.Goals as goal

pub returns : goal.returns
returns c = let s = c.args.self.now in looked_below (λ r. is_open ((state_in s).stage r) ≡ true → ShownRight (plan_in s) (state_in s) (lies_in s) (occupied_in s) r) (BrokenIn s) (λ x r q k. search rules) _ _ _ (c.from.ensures ∙ c.routes.ensures) c.find_map.ensures.runs
