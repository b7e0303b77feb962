-- Showing a route's signal keeps what is safe.
use Rattle.std.proofs.Common.{◌≡◌, ℕ, true, refl, arith}
use Rattle.plan.specs.Plan.{Plan, Positions, route, met}
use Rattle.interlocking.specs.declared.Stage.TheVariants.{Set, Shown}
use Rattle.interlocking.specs.State.{State, Occupancy, does, done}
use Rattle.interlocking.specs.declared.Request.TheVariants.{Clear}
use Rattle.model.specs.World.{Train, occupied}
use Rattle.safety.specs.Safe.{Kept, Books, Unmarked, Sure}
use Rattle.safety.proofs.Stages.{set_only, staged}
use Rattle.safety.proofs.Carry.{stage_kept, stage_run, stage_books, stage_unmarked}

-- a set route may be shown if its points really lie as it needs; that they are wanted so is kept already
pub clear_kept : (p : Plan) (h : State) (s : Occupancy) (t : Positions) (r : ℕ) → Kept p h s t → h.stage r ≡ Set → met t (route p r).needs ≡ true → Kept p (staged h r Shown) s t
clear_kept p h s t r k e m = stage_kept p h s t r Shown k (rw e) refl (λ a b. m)

-- u is how the points are reported to lie
pub clear_sure : (p : Plan) (n : ℕ) (h : State) (o : Occupancy) (t u : Positions) (ts : ℕ → Train) (r : ℕ) →
    (met u (route p r).needs ≡ true → met h.wanted (route p r).needs ≡ true → met t (route p r).needs ≡ true) → Sure p n h t ts →
    does p h o u (Clear r) ≡ true → Sure p n (done p h (Clear r)) t ts
unfolding does done
clear_sure p n h o t u ts r real k ok =
    let e : h.stage r ≡ Set = set_only (h.stage r) (grind arith) in
    (clear_kept p h (occupied n ts) t r k.0 e (real (grind arith) (grind arith)), stage_run p n h t ts r Shown k.1 (rw e))

pub clear_books : (p : Plan) (h : State) (o : Occupancy) (u : Positions) (r : ℕ) → Books p h o → does p h o u (Clear r) ≡ true → Books p (done p h (Clear r)) o
unfolding does done
clear_books p h o u r b ok = let e : h.stage r ≡ Set = set_only (h.stage r) (grind arith) in stage_books p h o r Shown b (rw e) (λ m q. grind arith)

pub clear_unmarked : (p : Plan) (h : State) (o : Occupancy) (u : Positions) (r : ℕ) → Unmarked p h → does p h o u (Clear r) ≡ true → Unmarked p (done p h (Clear r))
unfolding does done
clear_unmarked p h o u r b ok = let e : h.stage r ≡ Set = set_only (h.stage r) (grind arith) in stage_unmarked p h r Shown b (rw e)
