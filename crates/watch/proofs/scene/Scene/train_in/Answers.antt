use Rattle.std.proofs.Common.{◌≡◌, true, false, arith, rules}
use Rattle.std.proofs.lemmas.Iterator.{first_from_Range}
use Rattle.plan.specs.Plan.{among}
use Rattle.watch.specs.Scene.{body_in, trains_in}
use Rattle.watch.proofs.Looks.{found_train}
use Rattle.watch.proofs.scene.Scene.train_in.Goals as goal

pub returns : goal.returns
returns c =
    found_train (trains_in c.args.self.now) c.args.x _
    (first_from_Range _ _ _ _ (λ i. among c.args.x (body_in c.args.self.now i) ≡ true) (λ i. among c.args.x (body_in c.args.self.now i) ≡ false) c.find.ensures.ran
    (λ i q k. grind arith)
    (λ i q k. (search rules, grind arith)))
