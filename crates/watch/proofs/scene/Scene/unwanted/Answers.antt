use Rattle.std.proofs.Common.{arith, not}
use Rattle.std.proofs.lemmas.Grind.{common_steps}
use Rattle.watch.specs.Broken.{WantedAt}
use Rattle.watch.specs.Scene.{BrokenIn, plan_in, state_in}
use Rattle.watch.specs.declared.Broken.TheVariants.{Unwanted}
use Rattle.watch.proofs.Looks.{named_if}
use Rattle.watch.proofs.scene.Scene.unwanted.Goals as goal

pub returns : goal.returns
returns c =
    let s = c.args.self.now in
    named_if (WantedAt (plan_in s) (state_in s) c.args.r) (BrokenIn s) (not c.met.result) (Unwanted c.args.r) _ c.then_some.ensures
    (λ e f. grind (arith, common_steps))
    (λ e. grind (arith, common_steps))
