-- What each signal shows and what each point is told. Assumes nothing: these are definitions.
use Rattle.std.specs.Prelude.{◌≡◌, ℕ, zero, suc, ◌<◌, Bool, true, false, ◌&&◌, ◌||◌, List, [], ◌∷◌, ◌++◌, length, ◌==◌}
use Rattle.plan.specs.Plan.{pick, sameb, Plan, Positions, route, met, among}
use Rattle.interlocking.specs.State.{State, Occupancy, is_open}
use Rattle.interlocking.specs.declared.Stage.{Stage}
use Rattle.interlocking.specs.declared.Stage.TheVariants.{Idle, Set, Shown, Used, Falling}
use Rattle.field.specs.declared.Aspect.{Aspect}
use Rattle.field.specs.declared.Aspect.TheVariants.{Stop, Proceed}
use Rattle.field.specs.declared.Order.{Order}
use Rattle.field.specs.declared.Order.TheVariants.{Signal, Point}

abbrev pub is_shown : Stage → Bool
is_shown Idle = false
is_shown Set = false
is_shown Shown = true
is_shown Used = false
is_shown (Falling n) = false

-- a route is shown and begins at that end of a section
abbrev pub clears : Plan → State → Bool → ℕ → ℕ → Bool
clears p h up x r = is_shown (h.stage r) && ((route p r).begin == x && sameb (route p r).up up)

-- does one of the first n routes clear the signal
unfoldable pub shows_below : Plan → State → Bool → ℕ → ℕ → Bool
shows_below p h up x zero = false
shows_below p h up x (suc r) = clears p h up x r || shows_below p h up x r

abbrev pub shows : Plan → State → Bool → ℕ → Bool
shows p h up x = shows_below p h up x (length p.routes)

abbrev pub aspect_of : Bool → Aspect
aspect_of true = Proceed
aspect_of false = Stop

-- a route of the plan begins there and is shown
pub record ClearedBy (p : Plan) (h : State) (up : Bool) (x : ℕ) (r : ℕ) : Type 0 where
  pub there : r < length p.routes
  pub begins : (route p r).begin ≡ x
  pub goes : (route p r).up ≡ up
  pub shown : h.stage r ≡ Shown

-- a signal shows proceed exactly if some route clears it
abbrev pub ShowsExactly : Type 0
ShowsExactly = (p : Plan) (h : State) (up : Bool) (x : ℕ) →
    (shows p h up x ≡ true → (r : ℕ) × ClearedBy p h up x r) × ((r : ℕ) → ClearedBy p h up x r → shows p h up x ≡ true)

-- a route's whole path is locked for it and vacant, and its points lie right
pub record PathHeld (p : Plan) (h : State) (s : Occupancy) (t : Positions) (r : ℕ) : Type 0 where
  pub locked : (x : ℕ) → among x (route p r).path ≡ true → h.lock x ≡ suc r
  pub vacant : (x : ℕ) → among x (route p r).path ≡ true → s x ≡ false
  pub lies : met t (route p r).needs ≡ true

-- to hold after every event of a run: whatever signal shows proceed, or may still be passed, has its route's path held for it
pub record SignalsSafe (p : Plan) (h : State) (s : Occupancy) (t : Positions) : Type 0 where
  pub proceed : (up : Bool) (x : ℕ) → shows p h up x ≡ true → (r : ℕ) × (ClearedBy p h up x r × PathHeld p h s t r)
  pub passable : (r : ℕ) → r < length p.routes → is_open (h.stage r) ≡ true → PathHeld p h s t r

-- the order for a signal, if there is one
abbrev pub signal_order : Plan → State → Bool → ℕ → List Order
signal_order p h up x = pick (p.signal up x) (Signal x up (aspect_of (shows p h up x)) ∷ []) []

-- those for the first n sections, each with its signal up and then its signal down
unfoldable pub signal_orders : Plan → State → ℕ → List Order
signal_orders p h zero = []
signal_orders p h (suc x) = (signal_orders p h x ++ signal_order p h true x) ++ signal_order p h false x

-- those for the first n points
unfoldable pub point_orders : State → ℕ → List Order
point_orders h zero = []
point_orders h (suc q) = point_orders h q ++ Point q (h.wanted q) ∷ []

unfoldable pub orders_of : Plan → State → List Order
orders_of p h = signal_orders p h p.sections ++ point_orders h p.points
