-- What the code's interlocking stands for, and what a request is answered.
use Rattle.std.specs.Prelude.{◌≡◌, ℕ, zero, suc, Bool, false, not, ◌&&◌, List, [], ◌∷◌, codes, ◌==◌, slice_index, slice_index_or, slice_set}
use Rattle.plan.specs.declared.Need.{Need}
use Rattle.plan.specs.Plan.{pick, Plan, Positions, marks}
use Rattle.plan.specs.View.{plan_of}
use Rattle.interlocking.specs.State.{State, Occupancy, does, acts}
use Rattle.interlocking.specs.declared.Stage.{Stage}
use Rattle.interlocking.specs.declared.Stage.TheVariants.{Idle, Set, Shown, Used, Falling}
use Rattle.interlocking.specs.declared.Interlocking.{Interlocking}
use Rattle.interlocking.specs.declared.Answer.{Answer}
use Rattle.interlocking.specs.declared.Sight.{Sight}
use Rattle.interlocking.specs.declared.Request.{Request}
use Rattle.interlocking.specs.declared.Request.TheVariants.{Ask, Clear, Back, Free, Tick}

-- what is not in an array is unlocked, not passed, idle, and wanted right
abbrev pub state_of : Interlocking → State
state_of h = record {
  lock = λ x. slice_index h.locks x;
  passed = λ x. slice_index_or h.passed x false;
  stage = λ r. slice_index_or h.stages r Idle;
  wanted = λ q. slice_index_or h.wanted q false;
}

-- the request that a number stands for
abbrev pub request_of : ℕ → ℕ → Request
request_of zero r = Ask r
request_of (suc zero) r = Clear r
request_of (suc (suc zero)) r = Back r
request_of (suc (suc (suc zero))) r = Free r
request_of (suc (suc (suc (suc n)))) r = Tick

-- what it is asked for: a route or a section; a tick is for none
abbrev pub which_of : Request → ℕ
which_of (Ask r) = r
which_of (Clear r) = r
which_of (Back r) = r
which_of (Free x) = x
which_of Tick = 0

-- and the number of each request
abbrev pub kind_of : Request → ℕ
kind_of (Ask r) = 0
kind_of (Clear r) = 1
kind_of (Back r) = 2
kind_of (Free x) = 3
kind_of Tick = 4

-- the request comes back with whether it was done, and the state is what the rules make of it; what can't be done changes nothing
pub record Says (p : Plan) (h : Interlocking) (s : Occupancy) (t : Positions) (a : Request) (left : Interlocking) (r : Answer) : Type 0 where
  pub request : r.request ≡ a
  pub done_is : r.done ≡ does p (state_of h) s t a
  pub state : state_of left ≡ acts p (state_of h) s t a
  pub unchanged : does p (state_of h) s t a ≡ false → left ≡ h

-- can it be done, by what is seen
abbrev pub does_at : Sight → State → Request → Bool
does_at v h a = does (plan_of v.plan) h (marks v.occupied.now) (marks v.lies.now) a

-- what is said by what is seen
abbrev pub SaysAt : Sight → Interlocking → Request → Interlocking → Answer → Type 0
SaysAt v h a left r = Says (plan_of v.plan) h (marks v.occupied.now) (marks v.lies.now) a left r

-- each place of a list after a sweep over it
abbrev pub Swept : {A : Type 0} → (ℕ → A → A) → A → List A → List A → Type 0
Swept {A} f d old new = (x : ℕ) → slice_index_or new x d ≡ f x (slice_index_or old x d)

-- a lock that is let go
abbrev pub released : ℕ → ℕ → ℕ → ℕ
released lock x v = pick (v == lock) 0 v

-- a mark of a section that is let go
abbrev pub forgotten : List ℕ → ℕ → ℕ → Bool → Bool
forgotten locks lock x b = not (slice_index locks x == lock) && b

-- one lock written; a number that is no section changes nothing
abbrev pub with_lock : Interlocking → ℕ → ℕ → Interlocking
with_lock h x v = record { locks = slice_set h.locks x v; passed = h.passed; stages = h.stages; wanted = h.wanted }

abbrev pub with_locks : Interlocking → List ℕ → Interlocking
with_locks h ls = record { locks = ls; passed = h.passed; stages = h.stages; wanted = h.wanted }

-- each section of a path gets the same lock
abbrev pub lock_all : ℕ → List ℕ → List ℕ → List ℕ
lock_all v [] ls = ls
lock_all v (x ∷ xs) ls = lock_all v xs (slice_set ls x v)

abbrev pub lock_path : ℕ → List ℕ → Interlocking → Interlocking
lock_path v xs h = with_locks h (lock_all v xs h.locks)

-- each point that is needed is wanted so; where two needs name one point the first counts
abbrev pub want_all : List Need → List Bool → List Bool
want_all [] w = w
want_all (n ∷ ns) w = slice_set (want_all ns w) n.point n.left

abbrev pub with_wanted : Interlocking → List Bool → Interlocking
with_wanted h w = record { locks = h.locks; passed = h.passed; stages = h.stages; wanted = w }

-- a stage in a word
abbrev pub stage_name : Stage → List ℕ
stage_name Idle = codes "idle"
stage_name Set = codes "set"
stage_name Shown = codes "shown"
stage_name Used = codes "used"
stage_name (Falling n) = codes "falling"
