-- Every plan that can be read has room, so a run of a sound one keeps its promises.
use Rattle.std.proofs.Common.{◌≡◌, ℕ, Bool, false, List, get_or, is_some, arith}
use Rattle.plan.specs.Plan.{Positions}
use Rattle.plan.specs.Numbers.{plan_in, refused, routes_from}
use Rattle.plan.proofs.Formed.{formed}
use Rattle.plan.proofs.Parts.{length_routes}
use Rattle.model.specs.World.{World}
use Rattle.model.specs.Ran.{Ran, done_row}
use Rattle.model.specs.declared.Event.{Event}
use Rattle.safety.specs.Promise.{Sized}
use Rattle.safety.specs.Promised.{Promised}
use Rattle.safety.proofs.Theorem.{theorem}

pub sized_plan : (xs : List ℕ) → is_some (refused xs) ≡ false → Sized (plan_in xs)
unfolding plan_in
sized_plan xs h =
    let f = formed xs h in
    let n = length_routes xs (routes_from xs) (get_or xs 3 0) in
    let m = f.routes in record { sections = f.sections; points = f.points; routes = omega arith }

pub promised : (xs : List ℕ) (t : Positions) (events : List Event) (budget : ℕ) (answers : List Bool) (w : World) → is_some (refused xs) ≡ false → Ran (plan_in xs) t events budget answers w →
    Promised (plan_in xs) t events budget answers w
promised xs t events budget answers w h r =
    record { ran = r; promises = λ snd. theorem (plan_in xs) 16 t (done_row answers events) (sized_plan xs h) snd r.played.lawful }
