use Rattle.std.proofs.Common.{◌≡◌, true, arith, rules}
use Rattle.std.proofs.lemmas.Iterator.{first_from_find, YieldsList-from_slice}
use Rattle.std.proofs.lemmas.Iterator.Consumers.{YieldsList-from_copied}
use Rattle.plan.specs.Plan.{among}
use Rattle.watch.proofs.Looks.{found_among}
use Rattle.watch.proofs.fleet.shared.Goals as goal

pub returns : goal.returns
returns c =
    found_among c.args.a.now (λ x. among x c.args.b.now ≡ true → ⊥) (λ x. among x c.args.b.now ≡ true) _
    (first_from_find _ _ _ (λ x. among x c.args.b.now ≡ true) (λ x. among x c.args.b.now ≡ true → ⊥) c.find.ensures.ran (YieldsList-from_copied (YieldsList-from_slice c.args.a.now (search rules)))
    (λ x q k. grind arith)
    (λ x q k. (search rules, grind arith)))
