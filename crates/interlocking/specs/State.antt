-- What the interlocking holds, and what it does when asked. Assumes nothing: these are definitions.
use Rattle.std.specs.Prelude.{ℕ, zero, suc, ◌-◌, Bool, true, false, not, ◌&&◌, ◌||◌, List, [], ◌∷◌, length, ◌==◌, nat_le, nat_lt}
use Rattle.plan.specs.declared.Need.{Need}
use Rattle.plan.specs.Plan.{pick, sameb, Plan, Positions, route, met, among, needed, last_of}
use Rattle.interlocking.specs.declared.Stage.{Stage}
use Rattle.interlocking.specs.declared.Stage.TheVariants.{Idle, Set, Shown, Used, Falling}
use Rattle.interlocking.specs.declared.Request.{Request}
use Rattle.interlocking.specs.declared.Request.TheVariants.{Ask, Clear, Back, Free, Tick}

abbrev pub is_idle : Stage → Bool
is_idle Idle = true
is_idle Set = false
is_idle Shown = false
is_idle Used = false
is_idle (Falling n) = false

abbrev pub is_set : Stage → Bool
is_set Idle = false
is_set Set = true
is_set Shown = false
is_set Used = false
is_set (Falling n) = false

-- can it be taken back
abbrev pub can_fall : Stage → Bool
can_fall Idle = false
can_fall Set = true
can_fall Shown = true
can_fall Used = false
can_fall (Falling n) = false

abbrev pub is_used : Stage → Bool
is_used Idle = false
is_used Set = false
is_used Shown = false
is_used Used = true
is_used (Falling n) = false

abbrev pub is_falling : Stage → Bool
is_falling Idle = false
is_falling Set = false
is_falling Shown = false
is_falling Used = false
is_falling (Falling n) = true

-- may a train still pass its signal
abbrev pub is_open : Stage → Bool
is_open Idle = false
is_open Set = false
is_open Shown = true
is_open Used = false
is_open (Falling n) = true

-- lock is 0, or 1 more than the route that holds the section; passed says that a train has been in it since it was locked
-- a point is wanted left or not
pub record State : Type 0 where
  pub lock : ℕ → ℕ
  pub passed : ℕ → Bool
  pub stage : ℕ → Stage
  pub wanted : Positions

-- which sections are occupied, as they are reported
abbrev pub Occupancy : Type 0
Occupancy = ℕ → Bool

-- a section is free if nothing has locked it and nothing stands in it
unfoldable pub all_free : State → Occupancy → List ℕ → Bool
all_free h s [] = true
all_free h s (x ∷ xs) = h.lock x == 0 && (not (s x) && all_free h s xs)

-- does a route that isn't idle need this point
unfoldable pub held : Plan → State → ℕ → ℕ → Bool
held p h q zero = false
held p h q (suc r) = (not (is_idle (h.stage r)) && needed q (route p r).needs) || held p h q r

-- a point is wanted so already, or nothing holds it and nothing stands or is locked where it lies
abbrev pub can_want : Plan → State → Occupancy → Need → Bool
can_want p h s n =
    sameb (h.wanted n.point) n.left || (not (held p h n.point (length p.routes)) && (not (s (p.place n.point)) && h.lock (p.place n.point) == 0))

unfoldable pub can_have : Plan → State → Occupancy → List Need → Bool
can_have p h s [] = true
can_have p h s (n ∷ ns) = can_want p h s n && can_have p h s ns

unfoldable pub with_wants : List Need → Positions → Positions
with_wants [] t q = t q
with_wants (n ∷ ns) t q = pick (q == n.point) n.left (with_wants ns t q)

abbrev pub with_stage : (ℕ → Stage) → ℕ → Stage → ℕ → Stage
with_stage f r g k = pick (k == r) g (f k)

abbrev pub locked : State → ℕ → List ℕ → ℕ → ℕ
locked h r xs x = pick (among x xs) (suc r) (h.lock x)

abbrev pub unlocked : State → ℕ → ℕ → ℕ
unlocked h r x = pick (h.lock x == suc r) 0 (h.lock x)

-- the sections of a path before x no longer have this lock
unfoldable pub behind_free : State → ℕ → ℕ → List ℕ → Bool
behind_free h lock x [] = true
behind_free h lock x (y ∷ ys) = pick (y == x) true (not (h.lock y == lock) && behind_free h lock x ys)

unfoldable pub all_vacant : Occupancy → List ℕ → Bool
all_vacant s [] = true
all_vacant s (x ∷ xs) = not (s x) && all_vacant s xs

unfoldable pub none_locked : State → ℕ → List ℕ → Bool
none_locked h r [] = true
none_locked h r (y ∷ ys) = not (h.lock y == suc r) && none_locked h r ys

-- is it done, or turned away; a section is freed only of a route that the plan has
unfoldable pub does : Plan → State → Occupancy → Positions → Request → Bool
does p h s t (Ask r) =
    nat_lt r (length p.routes) && (is_idle (h.stage r) && (all_free h s (route p r).path && can_have p h s (route p r).needs))
does p h s t (Clear r) = nat_lt r (length p.routes) && (is_set (h.stage r) && (met t (route p r).needs && met h.wanted (route p r).needs))
does p h s t (Back r) = nat_lt r (length p.routes) && (can_fall (h.stage r) || (is_used (h.stage r) && all_vacant s (route p r).path))
does p h s t (Free x) =
    not (h.lock x == 0) && (nat_le (h.lock x) (length p.routes) && (h.passed x && (is_used (h.stage (h.lock x - 1))
    && (behind_free h (h.lock x) x (route p (h.lock x - 1)).path && (not (s x) || x == last_of 0 (route p (h.lock x - 1)).path)))))
does p h s t Tick = true

unfoldable pub after_free : Plan → State → ℕ → ℕ → State
after_free p h r x = record {
  lock = λ y. pick (y == x) 0 (h.lock y);
  passed = λ y. pick (y == x) false (h.passed y);
  stage = with_stage h.stage r (pick (x == last_of 0 (route p r).path) Idle (h.stage r));
  wanted = h.wanted;
}

-- a route that is idle, its locks gone
abbrev pub let_go : State → ℕ → State
let_go h r = record { lock = unlocked h r; passed = h.passed; stage = with_stage h.stage r Idle; wanted = h.wanted }

-- the sections of a route are not passed
abbrev pub forget : State → ℕ → State
forget h r = record { lock = h.lock; passed = λ x. not (h.lock x == suc r) && h.passed x; stage = h.stage; wanted = h.wanted }

abbrev pub restaged : State → ℕ → Stage → State
restaged h r g = record { lock = h.lock; passed = h.passed; stage = with_stage h.stage r g; wanted = h.wanted }

-- a set route is let go at once; a shown one falls, with the plan's time left; a used one is let go, with its marks
abbrev pub taken_back : ℕ → State → ℕ → Stage → State
taken_back time h r Idle = h
taken_back time h r Set = let_go h r
taken_back time h r Shown = restaged h r (Falling time)
taken_back time h r Used = let_go (forget h r) r
taken_back time h r (Falling n) = h

-- a route that is falling falls by one; one that has come to 0 is let go
abbrev pub fallen : State → ℕ → Stage → State
fallen h r Idle = h
fallen h r Set = h
fallen h r Shown = h
fallen h r Used = h
fallen h r (Falling zero) = let_go h r
fallen h r (Falling (suc n)) = restaged h r (Falling n)

unfoldable pub all_fall : ℕ → State → State
all_fall zero h = h
all_fall (suc r) h = fallen (all_fall r h) r ((all_fall r h).stage r)

unfoldable pub done : Plan → State → Request → State
done p h (Ask r) = record { lock = locked h r (route p r).path; passed = h.passed; stage = with_stage h.stage r Set; wanted = with_wants (route p r).needs h.wanted }
done p h (Clear r) = restaged h r Shown
done p h (Back r) = taken_back p.time h r (h.stage r)
done p h (Free x) = after_free p h (h.lock x - 1) x
done p h Tick = all_fall (length p.routes) h

-- there is room for 64 sections, 64 routes and 32 points: what lies beyond is unlocked, not passed, idle, and wanted right
unfoldable pub fitted : State → State
fitted h = record {
  lock = λ x. pick (nat_lt x 64) (h.lock x) 0;
  passed = λ x. pick (nat_lt x 64) (h.passed x) false;
  stage = λ r. pick (nat_lt r 64) (h.stage r) Idle;
  wanted = λ q. pick (nat_lt q 32) (h.wanted q) false;
}

-- what can't be done changes nothing
unfoldable pub acts : Plan → State → Occupancy → Positions → Request → State
acts p h s t a = pick (does p h s t a) (fitted (done p h a)) h

-- nothing is locked, passed or set, and every point is wanted left
unfoldable pub at_rest : State
at_rest = record { lock = λ x. 0; passed = λ x. false; stage = λ r. Idle; wanted = λ q. nat_lt q 32 }
