-- The time that is left has room in the memory.
use Rattle.std.proofs.Common.{◌≡◌, ℕ, zero, suc, ◌+◌, ◌-◌, ◌<◌, ◌≤◌, Bool, true, false, eqb, ltb, List, get_or, is_some, refl, arith, lit<}
use Rattle.plan.specs.Plan.{pick, Plan, Positions, route, last_of}
use Rattle.plan.specs.Numbers.{plan_in, refused}
use Rattle.plan.proofs.Formed.{formed}
use Rattle.interlocking.specs.State.{State, Occupancy, with_stage, taken_back, fallen, all_fall, after_free, does, done, fitted, acts}
use Rattle.interlocking.specs.declared.Stage.{Stage}
use Rattle.interlocking.specs.declared.Stage.TheVariants.{Idle, Set, Shown, Used, Falling}
use Rattle.interlocking.specs.declared.Request.{Request}
use Rattle.interlocking.specs.declared.Request.TheVariants.{Ask, Clear, Back, Free, Tick}
use Rattle.memory.specs.Memory.{stage_in, state_in}
use Rattle.memory.proofs.Numbered.{size, Fits}

pub fit_pick : (b : Bool) (g s : Stage) → size g < 65536 → size s < 65536 → size (pick b g s) < 65536
fit_pick true g s l m = l
fit_pick false g s l m = m

fit_with : (f : ℕ → Stage) (r : ℕ) (g : Stage) → Fits f → size g < 65536 → Fits (with_stage f r g)
fit_with f r g l m k = fit_pick (eqb k r) g (f k) m (l k)

fit_back : (time : ℕ) (h : State) (r : ℕ) (g : Stage) → time ≤ 1000 → Fits h.stage → Fits (taken_back time h r g).stage
fit_back time h r Idle b f = f
fit_back time h r Set b f = fit_with h.stage r Idle f (lit< tt)
fit_back time h r Shown b f = fit_with h.stage r (Falling time) f (omega arith)
fit_back time h r Used b f = fit_with h.stage r Idle f (lit< tt)
fit_back time h r (Falling n) b f = f

fit_fallen : (h : State) (r : ℕ) (g : Stage) → size g < 65536 → Fits h.stage → Fits (fallen h r g).stage
fit_fallen h r Idle b f = f
fit_fallen h r Set b f = f
fit_fallen h r Shown b f = f
fit_fallen h r Used b f = f
fit_fallen h r (Falling zero) b f = fit_with h.stage r Idle f (lit< tt)
fit_fallen h r (Falling (suc n)) b f = fit_with h.stage r (Falling n) f (omega arith)

fit_all : (n : ℕ) (h : State) → Fits h.stage → Fits (all_fall n h).stage
unfolding all_fall
fit_all zero h f = f
fit_all (suc n) h f = let i = fit_all n h f in fit_fallen (all_fall n h) n ((all_fall n h).stage n) (i n) i

fit_done : (p : Plan) (h : State) (q : Request) → p.time ≤ 1000 → Fits h.stage → Fits (done p h q).stage
unfolding done after_free
fit_done p h (Ask r) b f = fit_with h.stage r Set f (lit< tt)
fit_done p h (Clear r) b f = fit_with h.stage r Shown f (lit< tt)
fit_done p h (Back r) b f = fit_back p.time h r (h.stage r) b f
fit_done p h (Free x) b f =
    fit_with h.stage (h.lock x - 1) _ f (fit_pick (eqb x (last_of 0 (route p (h.lock x - 1)).path)) Idle (h.stage (h.lock x - 1)) (lit< tt) (f (h.lock x - 1)))
fit_done p h Tick b f = fit_all _ h f

fit_fitted : (h : State) → Fits h.stage → Fits (fitted h).stage
unfolding fitted
fit_fitted h f k = fit_pick (ltb k 64) (h.stage k) Idle (f k) (lit< tt)

fit_either : (b : Bool) (h g : State) → Fits h.stage → Fits g.stage → Fits (pick b h g).stage
fit_either true h g f e = f
fit_either false h g f e = e

pub fit_acts : (p : Plan) (h : State) (s : Occupancy) (t : Positions) (q : Request) → p.time ≤ 1000 → Fits h.stage → Fits (acts p h s t q).stage
unfolding acts
fit_acts p h s t q l f = fit_either (does p h s t q) (fitted (done p h q)) h (fit_fitted (done p h q) (fit_done p h q l f)) f

size_in : (n : ℕ) → size (stage_in n) ≡ n
size_in zero = refl
size_in (suc zero) = refl
size_in (suc (suc zero)) = refl
size_in (suc (suc (suc zero))) = refl
size_in (suc (suc (suc (suc n)))) = omega arith

pub fit_in : (m : List ℕ) → ((i : ℕ) → get_or m i 0 < 65536) → Fits (state_in m).stage
unfolding state_in
fit_in m f k =
    let e = size_in (get_or m (128 + k) 0) in let l = f (128 + k) in
    let n : size (stage_in (get_or m (128 + k) 0)) < 65536 = omega arith in
    fit_pick (ltb k 64) (stage_in (get_or m (128 + k) 0)) Idle n (lit< tt)

pub time_in : (xs : List ℕ) → is_some (refused xs) ≡ false → (plan_in xs).time ≤ 1000
unfolding plan_in
time_in xs h = (formed xs h).time
