use Rattle.std.proofs.Common.{◌≡◌, false, get_or, refl, rules}
use Rattle.plan.specs.Numbers.{bitb}
use Rattle.interlocking.proofs.Made.{made_filled}
use Rattle.memory.proofs.marks_in.Goals as goal

pub returns : goal.returns
returns g c =
    made_filled _ _ c.from_fn.result g.row.N (λ f. f.0.now ≡ c.args.numbers.now) (λ x. bitb (get_or c.args.numbers.now x 0)) false refl (λ p q i y s k. search rules) c.from_fn.ensures.items
