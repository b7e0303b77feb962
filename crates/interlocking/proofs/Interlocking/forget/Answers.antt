use Rattle.std.proofs.Common.{◌≡◌, ℕ, Bool, true, false, ◌&&◌, get_or, refl, ap, ◌∙◌, rules}
use Rattle.interlocking.specs.Says.{forgotten}
use Rattle.interlocking.proofs.States.{forget_state}
use Rattle.interlocking.proofs.Made.{made_swept}
use Rattle.interlocking.proofs.Interlocking.forget.Goals as goal

nought : (b : Bool) → (b && false) ≡ false
nought true = refl
nought false = refl

pub returns : goal.returns
returns c =
    let s = made_swept _ _ c.args.self.passed c.from_fn-passed.result 64 (λ f. (f.0.now ≡ c.args.self) × (f.1.now ≡ c.lock-lock.result)) (forgotten c.args.self.locks c.lock-lock.result) false
    (search rules) (refl, refl) (λ p q i y s k. search rules) (λ x m. nought _) c.from_fn-passed.ensures.items in
    forget_state c.args.self c.args.r.number c.from_fn-passed.result
    (λ x. s x ∙ ap (λ (v : ℕ). forgotten c.args.self.locks v x (get_or c.args.self.passed x false)) c.lock-lock.ensures)
