use Rattle.std.proofs.Common.{rules, refl, ◌≡◌, ℕ, List, ◌∷◌}
use Rattle.watch.specs.Broken.{WayAt}
use Rattle.watch.specs.Scene.{BrokenIn, body_in, lies_in, occupied_in, plan_in, up_in}
use Rattle.plan.proofs.Looks.{looked_below}
use Rattle.watch.proofs.scene.Scene.way_before.Goals as goal

pub returns : goal.returns
returns c = let s = c.args.self.now in looked_below (λ r. (x : ℕ) → (xs : List ℕ) → body_in s r ≡ x ∷ xs → WayAt (plan_in s) (lies_in s) (occupied_in s) (up_in s r) x) (BrokenIn s) (λ x r q k. search rules) 16 _ _ refl c.find_map.ensures.runs
