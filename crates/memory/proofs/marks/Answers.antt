use Rattle.std.proofs.Common.{◌≡◌, ◌+◌, false, get_or, refl, rules}
use Rattle.plan.specs.Numbers.{bitb}
use Rattle.interlocking.proofs.Made.{made_filled}
use Rattle.memory.proofs.marks.Goals as goal

pub returns : goal.returns
returns g c =
    made_filled _ _ c.from_fn.result g.row.N (λ f. (f.0.now ≡ c.args.memory.now) × (f.1.now ≡ c.args.from)) (λ x. bitb (get_or c.args.memory.now (c.args.from + x) 0)) false (refl, refl)
    (λ p q i y s k. search rules) c.from_fn.ensures.items
