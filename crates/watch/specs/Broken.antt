-- What it means that a promise does not hold of a world, and that those that are looked at hold. Assumes nothing: these are definitions.
use Rattle.std.specs.Prelude.{◌≡◌, ℕ, suc, ◌+◌, ◌-◌, ◌<◌, ◌≤◌, Bool, true, false, not, ◌&&◌, List, ◌∷◌, length, drop, ◌==◌, ◌≢◌, slice_index, slice_index_or}
use Rattle.plan.specs.Plan.{Plan, Positions, Joined, among, beyond, met, route, sameb}
use Rattle.plan.specs.View.{no_need}
use Rattle.plan.specs.declared.Need.{Need}
use Rattle.interlocking.specs.declared.Stage.TheVariants.{Idle, Set, Used, Falling}
use Rattle.interlocking.specs.declared.Request.TheVariants.{Back}
use Rattle.interlocking.specs.State.{State, Occupancy, does, is_open}
use Rattle.occupancy.specs.Notes.{notes}
use Rattle.model.specs.World.{Train, World, occupied}
use Rattle.safety.specs.Promise.{Apart, EachOnce, ShownWhen, Standing, Still, WayBefore}
use Rattle.watch.specs.declared.Broken.{Broken}
use Rattle.watch.specs.declared.Broken.TheVariants.{Together, Torn, Moved, Unlocked, Occupied, Unmet, Blocked, Orphan, Twice, Late, Unentered, Unpassed, Unwanted, Kept}

-- two lists of sections have none in common
abbrev pub ApartLists : List ℕ → List ℕ → Type 0
ApartLists xs ys = (x : ℕ) → among x xs ≡ true → among x ys ≢ true

-- a section stands at a place of a list, and again behind it
abbrev pub Doubled : ℕ → List ℕ → Type 0
Doubled x xs = (k : ℕ) × (k < length xs) × (slice_index xs k ≡ x) × (among x (drop (k + 1) xs) ≡ true)

-- a section of a list and the one in front of it do not hang together
abbrev pub Parted : Plan → Positions → Bool → List ℕ → ℕ → ℕ → Type 0
Parted p t up xs behind before = (k : ℕ) × (0 < k) × (k < length xs) × (slice_index xs k ≡ behind) × (slice_index xs (k - 1) ≡ before) × (Joined p t up behind before → ⊥)

-- do they, by a test
abbrev pub joined : Plan → Positions → Bool → ℕ → ℕ → Bool
joined p t up a b = beyond p t up a == b && beyond p t (not up) b == a

-- one of the needs is for this point, which lies otherwise
abbrev pub LiesWrong : Positions → List Need → ℕ → Type 0
LiesWrong t ns q = (k : ℕ) × (k < length ns) × ((slice_index_or ns k no_need).point ≡ q) × (sameb (t q) (slice_index_or ns k no_need).left ≡ false)

-- the whole path is locked for a route and vacant, and its points lie as they should
abbrev pub ShownRight : Plan → State → Positions → Occupancy → ℕ → Type 0
ShownRight p h t s r = ((x : ℕ) → among x (route p r).path ≡ true → (h.lock x ≡ suc r) × (s x ≡ false)) × (met t (route p r).needs ≡ true)

-- a train with its front in a section has its way before it
abbrev pub WayAt : Plan → Positions → Occupancy → Bool → ℕ → Type 0
WayAt p t s up x = p.signal up x ≡ false → beyond p t up x < p.sections → s (beyond p t up x) ≡ false

-- it has not: there is no signal, and a section beyond that is occupied
abbrev pub WayBlocked : Plan → Positions → Occupancy → Bool → ℕ → ℕ → Type 0
WayBlocked p t s up x y = (p.signal up x ≡ false) × (y ≡ beyond p t up x) × (y < p.sections) × (s y ≡ true)

-- what is promised of one section or of one route, in the order of its kinds
abbrev pub NoOrphanAt : State → ℕ → Type 0
NoOrphanAt h x = (r : ℕ) → h.stage r ≡ Idle → h.lock x ≢ suc r

abbrev pub FallsSoonAt : Plan → State → ℕ → Type 0
FallsSoonAt p h r = (m : ℕ) → h.stage r ≡ Falling m → m ≤ p.time

abbrev pub WantedAt : Plan → State → ℕ → Type 0
WantedAt p h r = h.stage r ≡ Set → met h.wanted (route p r).needs ≡ true

abbrev pub LetsGoAt : Plan → State → Positions → Occupancy → ℕ → Type 0
LetsGoAt p h t s r = h.stage r ≡ Used → ((x : ℕ) → among x (route p r).path ≡ true → s x ≡ false) → does p h s t (Back r) ≡ true

-- a promise does not hold, by the interlocking, the points, what is occupied, and the trains
abbrev pub ViolatedIn : Plan → State → Positions → Occupancy → (ℕ → Train) → Broken → Type 0
ViolatedIn p h t s ts (Together x i j) = (i < 16) × (j < 16) × (i ≢ j) × (among x (ts i).body ≡ true) × (among x (ts j).body ≡ true)
ViolatedIn p h t s ts (Torn i behind before) = (i < 16) × Parted p t (ts i).up (ts i).body behind before
ViolatedIn p h t s ts (Moved q x i left) = (q < p.points) × (x ≡ p.place q) × (i < 16) × (among x (ts i).body ≡ true) × (t q ≡ left) × (h.wanted q ≡ not left)
ViolatedIn p h t s ts (Unlocked r x) = (r < length p.routes) × (is_open (h.stage r) ≡ true) × (among x (route p r).path ≡ true) × (h.lock x ≢ suc r)
ViolatedIn p h t s ts (Occupied r x) = (r < length p.routes) × (is_open (h.stage r) ≡ true) × (among x (route p r).path ≡ true) × (s x ≡ true)
ViolatedIn p h t s ts (Unmet r q) = (r < length p.routes) × (is_open (h.stage r) ≡ true) × LiesWrong t (route p r).needs q
ViolatedIn p h t s ts (Blocked i x) = (i < 16) × ((y : ℕ) × (ys : List ℕ) × ((ts i).body ≡ y ∷ ys) × WayBlocked p t s (ts i).up y x)
ViolatedIn p h t s ts (Orphan x r) = (h.lock x ≡ suc r) × (h.stage r ≡ Idle)
ViolatedIn p h t s ts (Twice i x) = (i < 16) × Doubled x (ts i).body
ViolatedIn p h t s ts (Late r m) = (h.stage r ≡ Falling m) × (p.time < m)
ViolatedIn p h t s ts (Unentered r) = (notes p h s).stage r ≡ h.stage r → ⊥
ViolatedIn p h t s ts (Unpassed x) = (notes p h s).passed x ≡ h.passed x → ⊥
ViolatedIn p h t s ts (Unwanted r) = (h.stage r ≡ Set) × (met h.wanted (route p r).needs ≡ false)
ViolatedIn p h t s ts (Kept r) = (h.stage r ≡ Used) × ((x : ℕ) → among x (route p r).path ≡ true → s x ≡ false) × (does p h s t (Back r) ≡ false)

abbrev pub Violated : Plan → World → Broken → Type 0
Violated p w b = ViolatedIn p w.interlocking w.lies (occupied 16 w.trains) w.trains b

-- the promises on trains hold, and those on the routes that may be entered
pub record Placed (p : Plan) (h : State) (t : Positions) (s : Occupancy) (ts : ℕ → Train) : Type 0 where
  pub apart : Apart p 16 (record { interlocking = h; lies = t; trains = ts })
  pub standing : Standing p 16 (record { interlocking = h; lies = t; trains = ts })
  pub still : Still p 16 (record { interlocking = h; lies = t; trains = ts })
  pub shown : (r : ℕ) → r < length p.routes → is_open (h.stage r) ≡ true → ShownRight p h t s r
  pub way : (i : ℕ) → i < 16 → (x : ℕ) (xs : List ℕ) → (ts i).body ≡ x ∷ xs → WayAt p t s (ts i).up x

-- the promises on what is locked, passed, wanted and left, of 64 sections and routes, and that no train has a section twice
pub record Held (p : Plan) (h : State) (t : Positions) (s : Occupancy) (ts : ℕ → Train) : Type 0 where
  pub orphan : (x : ℕ) → x < 64 → NoOrphanAt h x
  pub once : EachOnce p 16 (record { interlocking = h; lies = t; trains = ts })
  pub falls : (r : ℕ) → r < 64 → FallsSoonAt p h r
  pub entered : (r : ℕ) → r < length p.routes → (notes p h s).stage r ≡ h.stage r
  pub passed : (x : ℕ) → x < 64 → (notes p h s).passed x ≡ h.passed x
  pub wanted : (r : ℕ) → r < 64 → WantedAt p h r
  pub lets_go : (r : ℕ) → r < 64 → LetsGoAt p h t s r

-- nothing is broken: these promises hold as they are stated, and the others of 64 sections and routes
pub record Fine (p : Plan) (w : World) : Type 0 where
  pub apart : Apart p 16 w
  pub standing : Standing p 16 w
  pub still : Still p 16 w
  pub shown_when : ShownWhen p 16 w
  pub way_before : WayBefore p 16 w
  pub each_once : EachOnce p 16 w
  pub held : Held p w.interlocking w.lies (occupied 16 w.trains) w.trains
