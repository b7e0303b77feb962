use Rattle.std.proofs.Common.{rules}
use Rattle.picture.specs.Picture.{number_in}
use Rattle.picture.proofs.Filled.{filled}
use Rattle.picture.proofs.Picture.numbers.Goals as goal

pub returns : goal.returns
returns c =
    filled _ _ (number_in c.args.self.now) c.from_fn.result 448 0 c.from_fn.ensures.items (λ k y q w. search rules)
