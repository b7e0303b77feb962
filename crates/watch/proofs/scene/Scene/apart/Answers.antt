use Rattle.std.proofs.Common.{rules, refl, ℕ, ◌+◌, ◌<◌, ◌≤◌}
use Rattle.watch.specs.Broken.{ApartLists}
use Rattle.watch.specs.Scene.{BrokenIn, body_in}
use Rattle.plan.proofs.Looks.{looked_below}
use Rattle.watch.proofs.scene.Scene.apart.Goals as goal

pub returns : goal.returns
returns c =
    let s = c.args.self.now in
    looked_below (λ i. (j : ℕ) → i + 1 ≤ j → j < 16 → ApartLists (body_in s i) (body_in s j)) (BrokenIn s) (λ x r q k. search rules) 16 _ _ refl c.find_map.ensures.runs
