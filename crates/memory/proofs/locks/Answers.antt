use Rattle.std.proofs.Common.{◌≡◌, get_or, refl, rules}
use Rattle.interlocking.proofs.Made.{made_filled}
use Rattle.memory.proofs.locks.Goals as goal

pub returns : goal.returns
returns c =
    made_filled _ _ c.from_fn.result 64 (λ f. f.0.now ≡ c.args.memory.now) (λ x. get_or c.args.memory.now x 0) 0 refl (λ p q i y s k. search rules) c.from_fn.ensures.items
