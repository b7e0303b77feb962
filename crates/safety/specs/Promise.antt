-- What is promised of a station. Each is a statement, a type whose proof is owed. Assumes nothing.
use Rattle.std.specs.Prelude.{◌≡◌, ℕ, suc, ◌<◌, ◌≤◌, Bool, true, false, ◌&&◌, ◌⊎◌, List, [], ◌∷◌, ◌++◌, length, get_or, ◌≢◌, slice_index, slice_index_or}
use Rattle.plan.specs.Plan.{Plan, Positions, beyond, Joined, route, met, among, needed, Once}
use Rattle.soundness.specs.Sound.{Sound}
use Rattle.interlocking.specs.declared.Stage.{Stage}
use Rattle.interlocking.specs.declared.Stage.TheVariants.{Idle, Set, Shown, Used, Falling}
use Rattle.interlocking.specs.State.{is_open, State, Occupancy, behind_free, does, done, fitted, acts}
use Rattle.interlocking.specs.declared.Request.{Request}
use Rattle.interlocking.specs.declared.Request.TheVariants.{Ask}
use Rattle.occupancy.specs.Notes.{notes}
use Rattle.model.specs.World.{World, occupied, front, can, after, Lawful}
use Rattle.model.specs.declared.Event.{Event}
use Rattle.model.specs.declared.Event.TheVariants.{Asked, Turns, Goes, Draws, Reverses, Comes, Leaves}

-- the sizes for which the interlocking has room
pub record Sized (p : Plan) : Type 0 where
  pub sections : p.sections ≤ 64
  pub points : p.points ≤ 32
  pub routes : length p.routes ≤ 64

-- OF A WORLD: a plan, a number of trains and the world that they are in

-- no section has two trains
abbrev pub Apart : Plan → ℕ → World → Type 0
Apart p n w = (i j x : ℕ) → i < n → j < n → (i ≢ j) → among x (w.trains i).body ≡ true → among x (w.trains j).body ≢ true

-- a train's sections hang together as the points lie, from each to the one in front of it
pub data Hangs (p : Plan) (t : Positions) (up : Bool) : List ℕ → Type 0 where
  nowhere : Hangs p t up []
  in_one : (x : ℕ) → Hangs p t up (x ∷ [])
  in_more : (x y : ℕ) (ys : List ℕ) → Joined p t up y x → Hangs p t up (y ∷ ys) → Hangs p t up (x ∷ (y ∷ ys))

-- every train stands on a way that hangs together
abbrev pub Standing : Plan → ℕ → World → Type 0
Standing p n w = (i : ℕ) → i < n → Hangs p w.lies (w.trains i).up (w.trains i).body

-- no point turns where a train stands: there, a point lies as it is wanted
abbrev pub Still : Plan → ℕ → World → Type 0
Still p n w = (q : ℕ) → q < p.points → occupied n w.trains (p.place q) ≡ true → w.interlocking.wanted q ≡ w.lies q

-- while a signal may be passed, the whole path is locked for its route, no train is in it, and its points lie as they should
abbrev pub ShownWhen : Plan → ℕ → World → Type 0
ShownWhen p n w =
    (r : ℕ) → r < length p.routes → is_open (w.interlocking.stage r) ≡ true →
    ((x : ℕ) → among x (route p r).path ≡ true → (w.interlocking.lock x ≡ suc r) × (occupied n w.trains x ≡ false)) × (met w.lies (route p r).needs ≡ true)

-- a train with no signal before its front has its way before it: if a section lies beyond, it is vacant
abbrev pub WayBefore : Plan → ℕ → World → Type 0
WayBefore p n w =
    (i x : ℕ) (xs : List ℕ) → i < n → (w.trains i).body ≡ x ∷ xs → p.signal (w.trains i).up x ≡ false → beyond p w.lies (w.trains i).up x < p.sections →
    occupied n w.trains (beyond p w.lies (w.trains i).up x) ≡ false

-- an idle route holds no lock: nothing stays locked for nobody
abbrev pub NoOrphan : Plan → ℕ → World → Type 0
NoOrphan p n w = (x r : ℕ) → w.interlocking.stage r ≡ Idle → w.interlocking.lock x ≢ suc r

-- two states that are the same in all that they hold
pub record Same (h h' : State) : Type 0 where
  pub lock : (x : ℕ) → h'.lock x ≡ h.lock x
  pub passed : (x : ℕ) → h'.passed x ≡ h.passed x
  pub stage : (r : ℕ) → h'.stage r ≡ h.stage r
  pub wanted : (q : ℕ) → h'.wanted q ≡ h.wanted q

-- all has been noted: to note again what is occupied changes nothing
abbrev pub Noted : Plan → ℕ → World → Type 0
Noted p n w = Same w.interlocking (notes p w.interlocking (occupied n w.trains))

-- no train has a section twice
abbrev pub EachOnce : Plan → ℕ → World → Type 0
EachOnce p n w = (i : ℕ) → i < n → Once (w.trains i).body

-- a route that is taken back has at most the plan's time left
abbrev pub FallsSoon : Plan → ℕ → World → Type 0
FallsSoon p n w = (r m : ℕ) → w.interlocking.stage r ≡ Falling m → m ≤ p.time

-- where a train stands, what lies beyond is the same by the points as they are wanted and as they lie
abbrev pub BeyondSame : Plan → ℕ → World → Type 0
BeyondSame p n w = (up : Bool) (x : ℕ) → occupied n w.trains x ≡ true → beyond p w.interlocking.wanted up x ≡ beyond p w.lies up x

-- route r begins at x, this way, and may be entered
pub record Open (p : Plan) (h : State) (up : Bool) (x r : ℕ) : Type 0 where
  pub there : r < length p.routes
  pub may : is_open (h.stage r) ≡ true
  pub begins : (route p r).begin ≡ x
  pub way : (route p r).up ≡ up

-- at one signal only one route at a time may be entered
abbrev pub Alone : Plan → ℕ → World → Type 0
Alone p n w = (up : Bool) (x r q : ℕ) → Open p w.interlocking up x r → Open p w.interlocking up x q → r ≡ q

-- section b is vacant, and locked for route r at place j of its path: its first, and the route may be entered at x, or the next after x, and the route is used
pub record OwnWay (p : Plan) (h : State) (s : Occupancy) (up : Bool) (x b r j : ℕ) : Type 0 where
  pub inside : j < length (route p r).path
  pub here : get_or (route p r).path j 0 ≡ b
  pub lock : h.lock b ≡ suc r
  pub vacant : s b ≡ false
  pub how : (Open p h up x r × (j ≡ 0)) ⊎ ((h.stage r ≡ Used) × (h.lock x ≡ suc r) × ((k : ℕ) × (j ≡ suc k) × (slice_index (route p r).path k ≡ x)))

-- a train that goes on enters a section of its own way: one that is vacant and locked for the route that it enters or is on
abbrev pub Enters : Plan → ℕ → World → Type 0
Enters p n w =
    (i : ℕ) → can p n w (Goes i) ≡ true →
    let up : Bool = (w.trains i).up in
    let x : ℕ = front (w.trains i).body in (r j : ℕ) × OwnWay p w.interlocking (occupied n w.trains) up x (beyond p w.lies up x) r j

-- OF A ROW OF EVENTS: that more can follow, and what it leads to

-- a request; a request or a point that turns
unfoldable pub is_request : Event → Bool
is_request (Asked a) = true
is_request (Turns q) = false
is_request (Goes i) = false
is_request (Draws i) = false
is_request (Reverses i) = false
is_request (Comes i up x) = false
is_request (Leaves i) = false

unfoldable pub is_request_or_turn : Event → Bool
is_request_or_turn (Asked a) = true
is_request_or_turn (Turns q) = true
is_request_or_turn (Goes i) = false
is_request_or_turn (Draws i) = false
is_request_or_turn (Reverses i) = false
is_request_or_turn (Comes i up x) = false
is_request_or_turn (Leaves i) = false

unfoldable pub all_by : (Event → Bool) → List Event → Bool
all_by f [] = true
all_by f (h ∷ hs) = f h && all_by f hs

abbrev pub RequestsOnly : List Event → Type 0
RequestsOnly gs = all_by is_request gs ≡ true

abbrev pub RequestsAndTurns : List Event → Type 0
RequestsAndTurns gs = all_by is_request_or_turn gs ≡ true

-- nothing is refused for nothing: a route that can be set comes to be shown, by requests and points that turn and nothing else
abbrev pub ComesToShow : Plan → ℕ → Positions → List Event → Type 0
ComesToShow p n t hs =
    (r : ℕ) → does p (after p n t hs).interlocking (occupied n (after p n t hs).trains) (after p n t hs).lies (Ask r) ≡ true →
    (gs : List Event) × RequestsAndTurns gs × Lawful p n t (gs ++ hs) × ((after p n t (gs ++ hs)).interlocking.stage r ≡ Shown)

-- and so does one that is set, from whatever came after it was
abbrev pub SetComesToShow : Plan → ℕ → Positions → List Event → Type 0
SetComesToShow p n t hs =
    (r : ℕ) → (after p n t hs).interlocking.stage r ≡ Set →
    (gs : List Event) × RequestsAndTurns gs × Lawful p n t (gs ++ hs) × ((after p n t (gs ++ hs)).interlocking.stage r ≡ Shown)

-- a used route with no train in its path can be let go, with all its locks
abbrev pub LetsGo : Plan → ℕ → Positions → List Event → Type 0
LetsGo p n t hs =
    (r : ℕ) → (after p n t hs).interlocking.stage r ≡ Used → ((x : ℕ) → among x (route p r).path ≡ true → occupied n (after p n t hs).trains x ≡ false) →
    (gs : List Event) × RequestsAndTurns gs × Lawful p n t (gs ++ hs) × ((after p n t (gs ++ hs)).interlocking.stage r ≡ Idle) × ((x : ℕ) → (after p n t (gs ++ hs)).interlocking.lock x ≢ suc r)

-- where no train stands anywhere, all routes and locks can be let go by requests alone
abbrev pub AllLetGo : Plan → ℕ → Positions → List Event → Type 0
AllLetGo p n t hs =
    ((x : ℕ) → occupied n (after p n t hs).trains x ≡ false) →
    (gs : List Event) × RequestsOnly gs × Lawful p n t (gs ++ hs) × ((r : ℕ) → (after p n t (gs ++ hs)).interlocking.stage r ≡ Idle) × ((x : ℕ) → (after p n t (gs ++ hs)).interlocking.lock x ≡ 0)

-- all that is promised after a row of events, the latest written first, with n trains, from an empty station where the points lie as t says
pub record Promises (p : Plan) (n : ℕ) (t : Positions) (hs : List Event) : Type 0 where
  pub apart : Apart p n (after p n t hs)
  pub standing : Standing p n (after p n t hs)
  pub still : Still p n (after p n t hs)
  pub shown_when : ShownWhen p n (after p n t hs)
  pub way_before : WayBefore p n (after p n t hs)
  pub comes_to_show : ComesToShow p n t hs
  pub set_comes_to_show : SetComesToShow p n t hs
  pub lets_go : LetsGo p n t hs
  pub no_orphan : NoOrphan p n (after p n t hs)
  pub all_let_go : AllLetGo p n t hs
  pub noted : Noted p n (after p n t hs)
  pub each_once : EachOnce p n (after p n t hs)
  pub falls_soon : FallsSoon p n (after p n t hs)
  pub beyond_same : BeyondSame p n (after p n t hs)
  pub alone : Alone p n (after p n t hs)
  pub enters : Enters p n (after p n t hs)

-- THE THEOREM: for every sound plan that there is room for, every number of trains, however the points lie at first, and every lawful row of events
abbrev pub Theorem : Type 0
Theorem = (p : Plan) (n : ℕ) (t : Positions) (hs : List Event) → Sized p → Sound p → Lawful p n t hs → Promises p n t hs

-- OF ALL PLANS AND STATES

-- what can't be done changes nothing
abbrev pub Unchanged : Type 0
Unchanged = (p : Plan) (h : State) (s : Occupancy) (t : Positions) (a : Request) → does p h s t a ≡ false → acts p h s t a ≡ h

-- a state that holds nothing beyond its room
pub record InRoom (h : State) : Type 0 where
  pub lock : (x : ℕ) → 64 ≤ x → h.lock x ≡ 0
  pub passed : (x : ℕ) → 64 ≤ x → h.passed x ≡ false
  pub stage : (r : ℕ) → 64 ≤ r → h.stage r ≡ Idle
  pub wanted : (q : ℕ) → 32 ≤ q → h.wanted q ≡ false

-- such is every state that is kept in arrays of 64, 64 and 32
abbrev pub ArraysInRoom : Type 0
ArraysInRoom =
    (locks : List ℕ) (passed : List Bool) (stages : List Stage) (wanted : List Bool) → length locks ≤ 64 → length passed ≤ 64 → length stages ≤ 64 → length wanted ≤ 32 →
    InRoom (record { lock = λ x. slice_index locks x; passed = λ x. slice_index_or passed x false; stage = λ r. slice_index_or stages r Idle; wanted = λ q. slice_index_or wanted q false })

-- and so does every state that a row of events leads to, lawful or not
abbrev pub AlwaysInRoom : Type 0
AlwaysInRoom = (p : Plan) (n : ℕ) (t : Positions) (hs : List Event) → InRoom (after p n t hs).interlocking

-- two routes that share no section and no point
pub record Strangers (p : Plan) (r s : ℕ) : Type 0 where
  pub sections : (x : ℕ) → among x (route p r).path ≡ true → among x (route p s).path ≡ false
  pub points : (q : ℕ) → needed q (route p r).needs ≡ true → (needed q (route p s).needs ≡ false) × (among (p.place q) (route p s).path ≡ false)
  pub points_too : (q : ℕ) → needed q (route p s).needs ≡ true → among (p.place q) (route p r).path ≡ false

-- two requests for routes, one after the other: each is granted before the other if and only if it is granted after it, and both orders lead to the same state
pub record EitherWay (p : Plan) (h : State) (s : Occupancy) (t : Positions) (a b : ℕ) : Type 0 where
  pub first : does p h s t (Ask a) ≡ does p (acts p h s t (Ask b)) s t (Ask a)
  pub second : does p h s t (Ask b) ≡ does p (acts p h s t (Ask a)) s t (Ask b)
  pub same : Same (acts p (acts p h s t (Ask a)) s t (Ask b)) (acts p (acts p h s t (Ask b)) s t (Ask a))

-- two routes that are strangers can be asked for in either order, whatever the plan and the state
abbrev pub EitherOrder : Type 0
EitherOrder =
    (p : Plan) (h : State) (s : Occupancy) (t : Positions) (a b : ℕ) → InRoom h → (a ≢ b) → Strangers p a b → EitherWay p h s t a b

-- in a sound plan it is enough that they share no section and no needed point, for a point that lies in a path is needed
abbrev pub StrangersInSound : Type 0
StrangersInSound =
    (p : Plan) → Sound p → (a b : ℕ) → a < length p.routes → b < length p.routes →
    ((x : ℕ) → among x (route p a).path ≡ true → among x (route p b).path ≡ false) →
    ((q : ℕ) → needed q (route p a).needs ≡ true → needed q (route p b).needs ≡ false) → Strangers p a b

-- WHAT THE GUARDS IN THE DEFINITIONS COME TO

-- what is cut off lies beyond the room
pub record SameInRoom (h h' : State) : Type 0 where
  pub lock : (x : ℕ) → x < 64 → h'.lock x ≡ h.lock x
  pub passed : (x : ℕ) → x < 64 → h'.passed x ≡ h.passed x
  pub stage : (r : ℕ) → r < 64 → h'.stage r ≡ h.stage r
  pub wanted : (q : ℕ) → q < 32 → h'.wanted q ≡ h.wanted q

abbrev pub CutBeyond : Type 0
CutBeyond = (h : State) → SameInRoom h (fitted h)

-- and of a sound plan that there is room for, nothing is ever cut off: a request that is granted is done, as the rules say it
abbrev pub RoomEnough : Type 0
RoomEnough =
    (p : Plan) (n : ℕ) (t : Positions) (hs : List Event) (a : Request) → Sized p → Sound p → Lawful p n t hs →
    does p (after p n t hs).interlocking (occupied n (after p n t hs).trains) (after p n t hs).lies a ≡ true →
    Same (done p (after p n t hs).interlocking a) (acts p (after p n t hs).interlocking (occupied n (after p n t hs).trains) (after p n t hs).lies a)

-- no section that stands before place j in a path is locked for the route
abbrev pub FreeBefore : State → ℕ → List ℕ → ℕ → Type 0
FreeBefore h r path j = (k : ℕ) → k < j → h.lock (slice_index path k) ≢ suc r

-- and that is what is tested before a section is freed that is locked for a route
abbrev pub BehindSays : Type 0
BehindSays =
    (h : State) (r x : ℕ) (path : List ℕ) (j : ℕ) → Once path → j < length path → slice_index path j ≡ x → h.lock x ≡ suc r →
    (behind_free h (h.lock x) x path ≡ true → FreeBefore h r path j) × (FreeBefore h r path j → behind_free h (h.lock x) x path ≡ true)

pub record Agrees : Type 0 where
  pub beyond : CutBeyond
  pub room : RoomEnough
  pub behind : BehindSays
