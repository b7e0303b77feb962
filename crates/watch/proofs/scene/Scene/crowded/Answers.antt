use Rattle.std.proofs.Common.{rules}
use Rattle.watch.specs.Broken.{ApartLists}
use Rattle.watch.specs.Scene.{BrokenIn, body_in}
use Rattle.plan.proofs.Looks.{looked_over}
use Rattle.watch.proofs.scene.Scene.crowded.Goals as goal

pub returns : goal.returns
returns c =
    let s = c.args.self.now in
    looked_over (λ j. ApartLists (body_in s c.args.i) (body_in s j)) (BrokenIn s) (λ x r q k. search rules) _ _ c.find_map.ensures.runs
