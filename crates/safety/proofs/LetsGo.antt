-- A used route with no train in its path can be let go; and where no train stands anywhere, all can.
use Rattle.std.proofs.Common.{◌≡◌, ℕ, zero, suc, ◌+◌, ◌<◌, ◌≤◌, Bool, true, false, ◌&&◌, ◌||◌, eqb, ltb, List, [], ◌∷◌, ◌++◌, length, refl, ap, append_assoc, arith}
use Rattle.plan.specs.Plan.{pick, Plan, Positions, route}
use Rattle.interlocking.specs.declared.Stage.{Stage}
use Rattle.interlocking.specs.declared.Stage.TheVariants.{Idle, Set, Shown, Used, Falling}
use Rattle.interlocking.specs.State.{is_idle, can_fall, is_used, State, Occupancy, does, done, fitted, acts, taken_back, all_vacant, fallen, all_fall}
use Rattle.interlocking.specs.declared.Request.TheVariants.{Back, Tick}
use Rattle.model.specs.World.{World, occupied, can, trains_after, state_after, after, Lawful}
use Rattle.model.specs.declared.Event.{Event}
use Rattle.model.specs.declared.Event.TheVariants.{Asked, Turns, Goes, Draws, Reverses, Comes, Leaves}
use Rattle.soundness.specs.Sound.{Sound}
use Rattle.safety.specs.Promise.{Sized, is_request, is_request_or_turn, all_by, RequestsOnly, LetsGo, AllLetGo}
use Rattle.safety.specs.Safe.{Safe}
use Rattle.safety.proofs.Tests.{either_way}
use Rattle.safety.proofs.Stages.{idle_only}
use Rattle.safety.proofs.Back.{vacant_all}
use Rattle.safety.proofs.Steps.{always}
use Rattle.safety.proofs.Shows.{only_more}

-- ONE ROUTE
back_goes : (p : Plan) (h : State) (s : Occupancy) (t : Positions) (r : ℕ) → r < length p.routes → h.stage r ≡ Used → all_vacant s (route p r).path ≡ true →
    acts p h s t (Back r) ≡ fitted (taken_back p.time h r Used)
unfolding acts does done
back_goes p h s t r less e none = grind arith

back_idle : (p : Plan) (h : State) (r : ℕ) → ((fitted (taken_back p.time h r Used)).stage r ≡ Idle) × ((x : ℕ) → (fitted (taken_back p.time h r Used)).lock x ≡ suc r → ⊥)
unfolding fitted
back_idle p h r = (grind arith, λ x e. grind arith)

pub lets_go : (p : Plan) (n : ℕ) (t : Positions) (hs : List Event) → Sized p → Sound p → Lawful p n t hs → LetsGo p n t hs
unfolding after Lawful can state_after all_by is_request_or_turn
lets_go p n t hs sz snd l r e none =
    let w : World = after p n t hs in
    let less : r < length p.routes = (always p n t hs sz snd l).books.named r (ap is_idle e) in
    let same = back_goes p w.interlocking (occupied n w.trains) w.lies r less e (vacant_all (occupied n w.trains) (route p r).path none) in
    let gone = back_idle p w.interlocking r in
    (Asked (Back r) ∷ [], refl, (refl, l), rw same gone.0, rw same gone.1)

-- ALL: take each route back, then let time pass
-- a row of requests is lawful, and no train moves
requests_lawful : (p : Plan) (n : ℕ) (t : Positions) (hs gs : List Event) → RequestsOnly gs → Lawful p n t hs → Lawful p n t (gs ++ hs)
unfolding all_by is_request Lawful can
requests_lawful p n t hs [] o l = l
requests_lawful p n t hs (Asked a ∷ gs) o l = (refl, requests_lawful p n t hs gs o l)
requests_lawful p n t hs (Turns q ∷ gs) o l = absurd (grind arith)
requests_lawful p n t hs (Goes i ∷ gs) o l = absurd (grind arith)
requests_lawful p n t hs (Draws i ∷ gs) o l = absurd (grind arith)
requests_lawful p n t hs (Reverses i ∷ gs) o l = absurd (grind arith)
requests_lawful p n t hs (Comes i up x ∷ gs) o l = absurd (grind arith)
requests_lawful p n t hs (Leaves i ∷ gs) o l = absurd (grind arith)

-- a stage of which nothing but time is left
resting : Stage → Bool
resting Idle = true
resting Set = false
resting Shown = false
resting Used = false
resting (Falling m) = true

backs : ℕ → List Event
backs zero = []
backs (suc r) = Asked (Back r) ∷ backs r

backs_only : (r : ℕ) → RequestsOnly (backs r)
unfolding backs all_by is_request
backs_only zero = refl
backs_only (suc r) = backs_only r

backs_trains : (p : Plan) (n : ℕ) (t : Positions) (hs : List Event) (r : ℕ) → (after p n t (backs r ++ hs)).trains ≡ (after p n t hs).trains
unfolding backs after trains_after
backs_trains p n t hs zero = refl
backs_trains p n t hs (suc r) = backs_trains p n t hs r

rests : (p : Plan) (h : State) (s : Occupancy) (r : ℕ) (g : Stage) → h.stage r ≡ g → r < length p.routes → all_vacant s (route p r).path ≡ true →
    resting ((pick (ltb r (length p.routes) && (can_fall g || (is_used g && all_vacant s (route p r).path))) (fitted (taken_back p.time h r g)) h).stage r) ≡ true
unfolding resting fitted
rests p h s r Idle e l none = grind arith
rests p h s r Set e l none = grind arith
rests p h s r Shown e l none = grind arith
rests p h s r Used e l none = grind arith
rests p h s r (Falling m) e l none = grind arith

else_same : (p : Plan) (h : State) (r q : ℕ) (b : Bool) (g : Stage) → q < 64 → (q ≡ r → ⊥) → (pick b (fitted (taken_back p.time h r g)) h).stage q ≡ h.stage q
unfolding fitted
else_same p h r q b Idle room ne = grind arith
else_same p h r q b Set room ne = grind arith
else_same p h r q b Shown room ne = grind arith
else_same p h r q b Used room ne = grind arith
else_same p h r q b (Falling m) room ne = grind arith

back_rests : (p : Plan) (h : State) (s : Occupancy) (t : Positions) (r : ℕ) → r < length p.routes → all_vacant s (route p r).path ≡ true → resting ((acts p h s t (Back r)).stage r) ≡ true
unfolding acts does done
back_rests p h s t r l none = rests p h s r (h.stage r) refl l none

back_else : (p : Plan) (h : State) (s : Occupancy) (t : Positions) (r q : ℕ) → q < 64 → (q ≡ r → ⊥) → (acts p h s t (Back r)).stage q ≡ h.stage q
unfolding acts done
back_else p h s t r q room ne = else_same p h r q (does p h s t (Back r)) (h.stage r) room ne

backs_rest : (p : Plan) (n : ℕ) (t : Positions) (hs : List Event) (r : ℕ) → Sized p → r ≤ length p.routes → ((x : ℕ) → occupied n (after p n t hs).trains x ≡ false) →
    (q : ℕ) → q < r → resting ((after p n t (backs r ++ hs)).interlocking.stage q) ≡ true
unfolding backs after state_after
backs_rest p n t hs zero sz l none q less = absurd (omega arith)
backs_rest p n t hs (suc r) sz l none q less =
    let w : World = after p n t (backs r ++ hs) in
    let empty : (x : ℕ) → occupied n w.trains x ≡ false = λ x. rw (backs_trains p n t hs r) (none x) in
    either_way q r
    (λ e. rw e (back_rests p w.interlocking (occupied n w.trains) w.lies r l (vacant_all (occupied n w.trains) (route p r).path (λ x a. empty x))))
    (λ e. rw (back_else p w.interlocking (occupied n w.trains) w.lies r q (let room = sz.routes in omega arith) e) (backs_rest p n t hs r sz (omega arith) none q (omega arith)))

-- what a tick makes of a stage
lower : Stage → Stage
lower Idle = Idle
lower Set = Set
lower Shown = Shown
lower Used = Used
lower (Falling zero) = Idle
lower (Falling (suc m)) = Falling m

fallen_stage : (h : State) (r q : ℕ) (g : Stage) → h.stage r ≡ g → (fallen h r g).stage q ≡ pick (eqb q r) (lower g) (h.stage q)
unfolding lower
fallen_stage h r q Idle e = grind arith
fallen_stage h r q Set e = grind arith
fallen_stage h r q Shown e = grind arith
fallen_stage h r q Used e = grind arith
fallen_stage h r q (Falling zero) e = grind arith
fallen_stage h r q (Falling (suc m)) e = grind arith

all_fall_stage : (n : ℕ) (h : State) (q : ℕ) → (all_fall n h).stage q ≡ pick (ltb q n) (lower (h.stage q)) (h.stage q)
unfolding all_fall
all_fall_stage zero h q = grind arith
all_fall_stage (suc n) h q =
    let old = all_fall_stage n h q in
    let now = fallen_stage (all_fall n h) n q ((all_fall n h).stage n) refl in
    let at = all_fall_stage n h n in
    grind arith

-- idle, or falling with less than b left
due : ℕ → Stage → Bool
due b Idle = true
due b Set = false
due b Shown = false
due b Used = false
due b (Falling m) = ltb m b

due_first : (b : ℕ) (g : Stage) → resting g ≡ true → ((m : ℕ) → g ≡ Falling m → m ≤ b) → due (suc b) g ≡ true
unfolding resting due
due_first b Idle e f = refl
due_first b Set e f = absurd (grind arith)
due_first b Shown e f = absurd (grind arith)
due_first b Used e f = absurd (grind arith)
due_first b (Falling m) e f = let less = f m refl in grind arith

due_lower : (b : ℕ) (g : Stage) → due (suc b) g ≡ true → due b (lower g) ≡ true
unfolding due lower
due_lower b Idle e = refl
due_lower b Set e = e
due_lower b Shown e = e
due_lower b Used e = e
due_lower b (Falling zero) e = refl
due_lower b (Falling (suc m)) e = grind arith

due_last : (g : Stage) → due 0 g ≡ true → g ≡ Idle
unfolding due
due_last Idle e = refl
due_last Set e = absurd (grind arith)
due_last Shown e = absurd (grind arith)
due_last Used e = absurd (grind arith)
due_last (Falling m) e = absurd (grind arith)

ticks : ℕ → List Event
ticks zero = []
ticks (suc k) = Asked Tick ∷ ticks k

ticks_only : (k : ℕ) → RequestsOnly (ticks k)
unfolding ticks all_by is_request
ticks_only zero = refl
ticks_only (suc k) = ticks_only k

tick_stage : (p : Plan) (h : State) (s : Occupancy) (t : Positions) (q : ℕ) → Sized p → q < length p.routes → (acts p h s t Tick).stage q ≡ lower (h.stage q)
unfolding acts does done fitted
tick_stage p h s t q sz l = let room = sz.routes in let all = all_fall_stage (length p.routes) h q in grind arith

ticks_due : (p : Plan) (n : ℕ) (t : Positions) (hs : List Event) (k b q : ℕ) → Sized p → q < length p.routes → due (k + b) ((after p n t hs).interlocking.stage q) ≡ true →
    due b ((after p n t (ticks k ++ hs)).interlocking.stage q) ≡ true
unfolding ticks after state_after
ticks_due p n t hs zero b q sz l e = let same : 0 + b ≡ b = omega arith in rw same at e
ticks_due p n t hs (suc k) b q sz l e =
    let w : World = after p n t (ticks k ++ hs) in
    let same : k + suc b ≡ suc k + b = omega arith in
    let old = ticks_due p n t hs k (suc b) q sz l (rw same e) in
    rw (tick_stage p w.interlocking (occupied n w.trains) w.lies q sz l) (due_lower b (w.interlocking.stage q) old)

pub all_let_go : (p : Plan) (n : ℕ) (t : Positions) (hs : List Event) → Sized p → Sound p → Lawful p n t hs → AllLetGo p n t hs
all_let_go p n t hs sz snd l none = (gs, only, lawful, idles, λ x. unlocked_all (w.interlocking.lock x) x refl)
  where
    gs : List Event
    gs = ticks (suc p.time) ++ backs (length p.routes)

    only : RequestsOnly gs
    only = only_more is_request (ticks (suc p.time)) (backs (length p.routes)) (ticks_only (suc p.time)) (backs_only (length p.routes))

    lawful : Lawful p n t (gs ++ hs)
    lawful = requests_lawful p n t hs gs only l

    w : World
    w = after p n t (gs ++ hs)

    mid : List Event
    mid = backs (length p.routes) ++ hs

    safe_mid : Safe p n (after p n t mid)
    safe_mid = always p n t mid sz snd (requests_lawful p n t hs (backs (length p.routes)) (backs_only (length p.routes)) l)

    in_plan : (r : ℕ) → r < length p.routes → w.interlocking.stage r ≡ Idle
    in_plan r less =
        let start = due_first p.time ((after p n t mid).interlocking.stage r) (backs_rest p n t hs (length p.routes) sz (omega arith) none r less) (safe_mid.books.soon r) in
        let same : suc p.time ≡ suc p.time + 0 = omega arith in
        let last = ticks_due p n t mid (suc p.time) 0 r sz less (rw (← same) start) in
        rw (append_assoc (ticks (suc p.time)) (backs (length p.routes)) hs) (due_last ((after p n t (ticks (suc p.time) ++ mid)).interlocking.stage r) last)

    safe : Safe p n w
    safe = always p n t (gs ++ hs) sz snd lawful

    idles : (r : ℕ) → w.interlocking.stage r ≡ Idle
    idles r = go (is_idle (w.interlocking.stage r)) refl
      where
        go : (b : Bool) → is_idle (w.interlocking.stage r) ≡ b → w.interlocking.stage r ≡ Idle
        go true e = idle_only (w.interlocking.stage r) e
        go false e = in_plan r (safe.books.named r e)

    unlocked_all : (m x : ℕ) → w.interlocking.lock x ≡ m → w.interlocking.lock x ≡ 0
    unlocked_all zero x e = e
    unlocked_all (suc r) x e = let busy = (safe.kept.owner x r e).2 in let rests = idles r in absurd (grind arith)
