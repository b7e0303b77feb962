-- The inductive invariant: what holds in every world that a lawful row of events leads to. Assumes nothing: these are definitions.
use Rattle.std.specs.Prelude.{◌≡◌, ℕ, suc, ◌<◌, ◌≤◌, Bool, true, false, List, ◌∷◌, length, ◌≢◌, slice_index, slice_index_or}
use Rattle.plan.specs.Plan.{Plan, Positions, beyond, Joined, route, met, among, Once}
use Rattle.soundness.specs.Sound.{Sound}
use Rattle.interlocking.specs.declared.Stage.{Stage}
use Rattle.interlocking.specs.declared.Stage.TheVariants.{Idle, Set, Shown, Used, Falling}
use Rattle.interlocking.specs.State.{is_idle, State, Occupancy}
use Rattle.model.specs.World.{next, Train, World, occupied, can}
use Rattle.model.specs.declared.Event.{Event}
use Rattle.safety.specs.Promise.{Sized, Hangs}

-- set, shown or falling: the whole path is still the route's and no train is in it
abbrev pub is_waiting : Stage → Bool
is_waiting Idle = false
is_waiting Set = true
is_waiting Shown = true
is_waiting Used = false
is_waiting (Falling n) = true

-- shown, falling or used: its points were reported to lie as it needs
abbrev pub is_cleared : Stage → Bool
is_cleared Idle = false
is_cleared Set = false
is_cleared Shown = true
is_cleared Used = true
is_cleared (Falling n) = true

-- the rest of a path from place k on, this way: the section there is the route's own (`mine`), those after it are too and no train is in them,
-- and each is joined to the next as the points lie
pub record Rest (p : Plan) (path : List ℕ) (mine : ℕ → Type 0) (s : Occupancy) (t : Positions) (up : Bool) (k : ℕ) : Type 0 where
  pub own : mine (slice_index path k)
  pub vacant : (j : ℕ) → k < j → j < length path → mine (slice_index path j) × (s (slice_index path j) ≡ false)
  pub joins : (j : ℕ) → k ≤ j → suc j < length path → Joined p t up (slice_index path j) (slice_index path (suc j))

-- the sections that are locked for a route
abbrev pub Mine : State → ℕ → ℕ → Type 0
Mine h r y = h.lock y ≡ suc r

-- route r is used, this way, x is at place k of its path and not the last, and the rest of the path from x on is its own
pub record OnRoute (p : Plan) (h : State) (s : Occupancy) (t : Positions) (up : Bool) (x r k : ℕ) : Type 0 where
  pub there : r < length p.routes
  pub in_use : h.stage r ≡ Used
  pub way : (route p r).up ≡ up
  pub inside : suc k < length (route p r).path
  pub here : slice_index_or (route p r).path k 0 ≡ x
  pub rest : Rest p (route p r).path (Mine h r) s t up k

-- what lies before a front: a signal, or outside however points lie, or the rest of a used route
pub data Ahead (p : Plan) (h : State) (s : Occupancy) (t : Positions) (up : Bool) (x : ℕ) : Type 0 where
  at_signal : p.signal up x ≡ true → Ahead p h s t up x
  at_end : ((u : Positions) → p.sections ≤ beyond p u up x) → Ahead p h s t up x
  on_route : (r k : ℕ) → OnRoute p h s t up x r k → Ahead p h s t up x

-- what concerns the interlocking, what is really occupied (s) and how the points really lie (t)
pub record Kept (p : Plan) (h : State) (s : Occupancy) (t : Positions) : Type 0 where
  pub still : (q : ℕ) → q < p.points → s (p.place q) ≡ true → h.wanted q ≡ t q
  pub owner : (x r : ℕ) → h.lock x ≡ suc r → (r < length p.routes) × (among x (route p r).path ≡ true) × (is_idle (h.stage r) ≡ false)
  pub waits : (r : ℕ) → r < length p.routes → is_waiting (h.stage r) ≡ true →
      (x : ℕ) → among x (route p r).path ≡ true → (h.lock x ≡ suc r) × (s x ≡ false)
  pub wants : (r : ℕ) → r < length p.routes → is_idle (h.stage r) ≡ false → met h.wanted (route p r).needs ≡ true
  pub lies : (r : ℕ) → r < length p.routes → is_cleared (h.stage r) ≡ true → met t (route p r).needs ≡ true

-- what concerns the trains
pub record Run (p : Plan) (n : ℕ) (h : State) (t : Positions) (ts : ℕ → Train) : Type 0 where
  pub inside : (i x : ℕ) → i < n → among x (ts i).body ≡ true → x < p.sections
  pub once : (i : ℕ) → i < n → Once (ts i).body
  pub apart : (i j x : ℕ) → i < n → j < n → (i ≢ j) → among x (ts i).body ≡ true → among x (ts j).body ≢ true
  pub hangs : (i : ℕ) → i < n → Hangs p t (ts i).up (ts i).body
  pub ahead : (i x : ℕ) (xs : List ℕ) → i < n → (ts i).body ≡ x ∷ xs → Ahead p h (occupied n ts) t (ts i).up x

-- what the interlocking keeps in order for itself, of what is reported occupied (o): only routes of the plan are ever not idle, a falling one has at most the plan's time left,
-- and what is locked and reported occupied is marked as passed. Nothing above rests on it
pub record Books (p : Plan) (h : State) (o : Occupancy) : Type 0 where
  pub named : (r : ℕ) → is_idle (h.stage r) ≡ false → r < length p.routes
  pub soon : (r m : ℕ) → h.stage r ≡ Falling m → m ≤ p.time
  pub marked : (x r : ℕ) → h.lock x ≡ suc r → o x ≡ true → h.passed x ≡ true

-- no mark of passing too many: none where nothing is locked, and none before a train has come. This holds as long as nothing is reported occupied that is not; nothing rests on it
pub record Unmarked (p : Plan) (h : State) : Type 0 where
  pub clean : (x : ℕ) → h.lock x ≡ 0 → h.passed x ≡ false
  pub fresh : (r : ℕ) → r < length p.routes → is_waiting (h.stage r) ≡ true → (x : ℕ) → among x (route p r).path ≡ true → h.passed x ≡ false

-- the invariant
pub record Safe (p : Plan) (n : ℕ) (w : World) : Type 0 where
  pub kept : Kept p w.interlocking (occupied n w.trains) w.lies
  pub run : Run p n w.interlocking w.lies w.trains
  pub books : Books p w.interlocking (occupied n w.trains)
  pub unmarked : Unmarked p w.interlocking

-- what keeps trains apart, of all of it
abbrev pub Sure : Plan → ℕ → State → Positions → (ℕ → Train) → Type 0
Sure p n h t ts = Kept p h (occupied n ts) t × Run p n h t ts

-- what is occupied is reported to be
abbrev pub Covers : Occupancy → Occupancy → Type 0
Covers o s = (x : ℕ) → s x ≡ true → o x ≡ true

-- ONE STEP: each event that can happen keeps the invariant
abbrev pub Keeps : Type 0
Keeps = (p : Plan) (n : ℕ) (w : World) (h : Event) → Sized p → Sound p → Safe p n w → can p n w h ≡ true → Safe p n (next p n w h)
