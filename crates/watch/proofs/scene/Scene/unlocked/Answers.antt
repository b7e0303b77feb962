use Rattle.std.proofs.Common.{◌≡◌, arith, rules}
use Rattle.std.proofs.lemmas.Iterator.{first_from_find, YieldsList-from_slice}
use Rattle.std.proofs.lemmas.Iterator.Consumers.{YieldsList-from_copied}
use Rattle.watch.specs.Scene.{state_in}
use Rattle.watch.proofs.Looks.{found_among}
use Rattle.watch.proofs.scene.Scene.unlocked.Goals as goal

pub returns : goal.returns
returns c =
    found_among c.args.path.now (λ x. (state_in c.args.self.now).lock x ≡ c.args.lock) (λ x. (state_in c.args.self.now).lock x ≡ c.args.lock → ⊥) _
    (first_from_find _ _ _ (λ x. (state_in c.args.self.now).lock x ≡ c.args.lock → ⊥) (λ x. (state_in c.args.self.now).lock x ≡ c.args.lock) c.find.ensures.ran (YieldsList-from_copied (YieldsList-from_slice c.args.path.now (search rules)))
    (λ x q k. grind arith)
    (λ x q k. (search rules, grind arith)))
