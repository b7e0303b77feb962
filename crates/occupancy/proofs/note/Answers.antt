use Rattle.std.proofs.Common.{◌≡◌, ◌≤◌, false, length, refl, arith, rules}
use Rattle.plan.specs.Plan.{marks}
use Rattle.plan.specs.View.{plan_of}
use Rattle.interlocking.specs.declared.Stage.TheVariants.{Idle}
use Rattle.interlocking.proofs.Made.{made_swept}
use Rattle.occupancy.specs.Notes.{entering, noted}
use Rattle.occupancy.proofs.Sweeping.{entering_idle, noted_past, noted_state}
use Rattle.occupancy.proofs.note.Goals as goal

pub returns : goal.returns
returns c =
    let l : length c.args.interlocking.locks ≡ 64 = search rules in
    let ps = made_swept _ _ c.args.interlocking.passed c.from_fn-passed.result 64 (λ f. (f.0.now ≡ c.args.interlocking) × (f.1.now ≡ c.args.occupied.now))
    (noted c.args.interlocking.locks c.args.occupied.now) false (search rules) (refl, refl) (λ p q i y s k. search rules)
    (λ x m. let k : length c.args.interlocking.locks ≤ x = omega arith in noted_past c.args.interlocking.locks c.args.occupied.now x k) c.from_fn-passed.ensures.items in
    let gs = made_swept _ _ c.args.interlocking.stages c.from_fn-stages.result 64
    (λ f. (f.0.now ≡ c.args.interlocking) × (f.1.now ≡ c.args.plan) × (f.2.now ≡ c.args.occupied.now))
    (entering (plan_of c.args.plan) (marks c.args.occupied.now)) Idle (search rules) (refl, refl, refl) (λ p q i y s k. search rules)
    (λ x m. entering_idle (plan_of c.args.plan) (marks c.args.occupied.now) x) c.from_fn-stages.ensures.items in
    noted_state (plan_of c.args.plan) c.args.interlocking c.args.occupied.now _ _ ps gs
