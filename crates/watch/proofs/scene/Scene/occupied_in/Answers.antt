use Rattle.std.proofs.Common.{◌≡◌, true, false, arith, rules}
use Rattle.std.proofs.lemmas.Iterator.{first_from_find, YieldsList-from_slice}
use Rattle.std.proofs.lemmas.Iterator.Consumers.{YieldsList-from_copied}
use Rattle.watch.specs.Scene.{occupied_in}
use Rattle.watch.proofs.Looks.{found_among}
use Rattle.watch.proofs.scene.Scene.occupied_in.Goals as goal

pub returns : goal.returns
returns c =
    found_among c.args.path.now (λ x. occupied_in c.args.self.now x ≡ false) (λ x. occupied_in c.args.self.now x ≡ true) _
    (first_from_find _ _ _ (λ x. occupied_in c.args.self.now x ≡ true) (λ x. occupied_in c.args.self.now x ≡ false) c.find.ensures.ran (YieldsList-from_copied (YieldsList-from_slice c.args.path.now (search rules)))
    (λ x q k. grind arith)
    (λ x q k. (search rules, grind arith)))
