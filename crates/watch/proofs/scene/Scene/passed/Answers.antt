use Rattle.std.proofs.Common.{rules, refl, ◌≡◌}
use Rattle.occupancy.specs.Notes.{notes}
use Rattle.watch.specs.Scene.{BrokenIn, occupied_in, plan_in, state_in}
use Rattle.plan.proofs.Looks.{looked_below}
use Rattle.watch.proofs.scene.Scene.passed.Goals as goal

pub returns : goal.returns
returns c = let s = c.args.self.now in looked_below (λ r. (notes (plan_in s) (state_in s) (occupied_in s)).passed r ≡ (state_in s).passed r) (BrokenIn s) (λ x r q k. search rules) 64 _ _ refl c.find_map.ensures.runs
