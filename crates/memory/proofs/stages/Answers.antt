use Rattle.std.proofs.Common.{◌≡◌, ◌+◌, get_or, refl, rules}
use Rattle.interlocking.specs.declared.Stage.TheVariants.{Idle}
use Rattle.interlocking.proofs.Made.{made_filled}
use Rattle.memory.specs.Memory.{stage_in}
use Rattle.memory.proofs.stages.Goals as goal

pub returns : goal.returns
returns c =
    made_filled _ _ c.from_fn.result 64 (λ f. f.0.now ≡ c.args.memory.now) (λ r. stage_in (get_or c.args.memory.now (128 + r) 0)) Idle refl (λ p q i y s k. search rules)
    c.from_fn.ensures.items
