-- What the arrays stand for after what is reported is noted.
use Rattle.std.proofs.Common.{◌≡◌, ℕ, ◌≤◌, Bool, true, false, ltb, List, length, get_or, refl, eq-eqb}
use Rattle.std.proofs.lemmas.List.{get_or_past}
use Rattle.plan.specs.Plan.{pick, Plan, marks}
use Rattle.interlocking.specs.State.{Occupancy}
use Rattle.interlocking.specs.Says.{state_of, Swept}
use Rattle.interlocking.specs.declared.Interlocking.{Interlocking}
use Rattle.interlocking.specs.declared.Stage.{Stage}
use Rattle.interlocking.specs.declared.Stage.TheVariants.{Idle}
use Rattle.interlocking.proofs.States.{same_state}
use Rattle.occupancy.specs.Notes.{entering, noted, notes}

-- past the last lock nothing is passed
pub noted_past : (locks : List ℕ) (occupied : List Bool) (x : ℕ) → length locks ≤ x → noted locks occupied x false ≡ false
noted_past locks occupied x l = let e = get_or_past locks x 0 l in let g = eq-eqb (get_or locks x 0) 0 e in cc

-- an idle route is not entered
pub entering_idle : (p : Plan) (s : Occupancy) (r : ℕ) → entering p s r Idle ≡ Idle
entering_idle p s r = go (ltb r (length p.routes))
  where
    go : (b : Bool) → pick b Idle Idle ≡ Idle
    go true = refl
    go false = refl

pub noted_state : (p : Plan) (h : Interlocking) (occupied ps : List Bool) (gs : List Stage) → Swept (noted h.locks occupied) false h.passed ps →
    Swept (entering p (marks occupied)) Idle h.stages gs →
    state_of (record { locks = h.locks; passed = ps; stages = gs; wanted = h.wanted }) ≡ notes p (state_of h) (marks occupied)
unfolding notes
noted_state p h occupied ps gs a b = same_state _ _ (λ x. refl) a b (λ x. refl)
