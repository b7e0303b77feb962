-- When what a fault names is really wrong, in the words of the rules. Assumes nothing: these are definitions.
use Rattle.std.specs.Prelude.{◌≡◌, ℕ, suc, ◌+◌, ◌<◌, ◌≤◌, Bool, true, false, not, List, [], ◌∷◌, length, drop, Option, MatchOption, ◌≢◌, nat_le, slice_index_or}
use Rattle.plan.specs.Plan.{Route, End, Plan, among, needed, last_of}
use Rattle.plan.specs.declared.Need.{Need}
use Rattle.soundness.specs.Tests.{needed_so, route_test, whole_test}
use Rattle.soundness.specs.declared.RouteRule.{RouteRule}
use Rattle.soundness.specs.declared.RouteRule.TheVariants.{Begins, Goes, Differs, Agrees, Knows, Hangs, Passes, Ends, Holds}
use Rattle.soundness.specs.declared.WholeRule.{WholeRule}
use Rattle.soundness.specs.declared.WholeRule.TheVariants.{Places, Clears, Closes}
use Rattle.explain.specs.declared.Lie.{Lie}
use Rattle.explain.specs.declared.Lie.TheVariants.{Fixed, Left, Right}
use Rattle.explain.specs.declared.Way.{Way}
use Rattle.explain.specs.declared.RouteFault.{RouteFault}
use Rattle.explain.specs.declared.RouteFault.TheVariants.{NoBegin, NoSignal, NoPath, ComesBack, Twice, NeedsBoth, NoPoint, NoSection, Astray, NoReturn, Signal, NoEnd, NotNeeded}
use Rattle.explain.specs.declared.PlanFault.{PlanFault}
use Rattle.explain.specs.declared.PlanFault.TheVariants.{Missing, Elsewhere, NoPlace, InEdge, Open}

-- the rule that a fault breaks
abbrev pub breaks : RouteFault → RouteRule
breaks (NoBegin x n) = Begins
breaks (NoSignal up x) = Begins
breaks NoPath = Goes
breaks (ComesBack x) = Differs
breaks (Twice x) = Differs
breaks (NeedsBoth q) = Agrees
breaks (NoPoint q n) = Knows
breaks (NoSection x n) = Hangs
breaks (Astray w b) = Hangs
breaks (NoReturn w a) = Hangs
breaks (Signal up x) = Passes
breaks (NoEnd up x) = Ends
breaks (NotNeeded q x) = Holds

abbrev pub breaks_whole : PlanFault → WholeRule
breaks_whole (Missing up x q n) = Places
breaks_whole (Elsewhere up x q y) = Places
breaks_whole (NoPlace q y n) = Places
breaks_whole (InEdge q x) = Clears
breaks_whole (Open w) = Closes

-- an end is moved by that point, or by none
abbrev pub Moved : End → Lie → Type 0
Moved e Fixed = e.moves ≡ false
Moved e (Left q) = (e.moves ≡ true) × (e.point ≡ q)
Moved e (Right q) = (e.moves ≡ true) × (e.point ≡ q)

-- what lies beyond an end with its point so
abbrev pub leg : End → Lie → ℕ
leg e Fixed = e.on_left
leg e (Left q) = e.on_left
leg e (Right q) = e.on_right

-- a route lets a point lie so: it does not need it on the other side
abbrev pub Free : List Need → Lie → Type 0
Free ns Fixed = Unit {0}
Free ns (Left q) = needed_so q false ns ≡ false
Free ns (Right q) = needed_so q true ns ≡ false

-- a way beyond an end, as the plan has it
pub record Lies (p : Plan) (w : Way) : Type 0 where
  pub moved : Moved (p.end w.up w.from) w.lie
  pub beyond : w.beyond ≡ leg (p.end w.up w.from) w.lie
  pub outside : w.outside ≡ nat_le p.sections w.beyond

-- that way from a, which the route leaves open, one does not come to b
pub record Strays (p : Plan) (ns : List Need) (up : Bool) (a b : ℕ) (w : Way) : Type 0 where
  pub way : w.up ≡ up
  pub from : w.from ≡ a
  pub lies : Lies p w
  pub free : Free ns w.lie
  pub other : w.beyond ≡ b → ⊥

-- a path goes from a to b, at some place
pub record Step (r : Route) (a b : ℕ) : Type 0 where
  pub place : ℕ
  pub inside : place < length r.path
  pub from : slice_index_or (r.begin ∷ r.path) place 0 ≡ a
  pub to : slice_index_or r.path place 0 ≡ b

-- a section stands at some place, and again after it
pub record Again (x : ℕ) (xs : List ℕ) : Type 0 where
  pub place : ℕ
  pub inside : place < length xs
  pub here : slice_index_or xs place 0 ≡ x
  pub later : among x (drop (place + 1) xs) ≡ true

-- a section stands at some place that is not the last
pub record Inner (x : ℕ) (xs : List ℕ) : Type 0 where
  pub place : ℕ
  pub before : suc place < length xs
  pub here : slice_index_or xs place 0 ≡ x

-- what is wrong with a route
abbrev pub WrongRoute : Plan → Route → RouteFault → Type 0
WrongRoute p r (NoBegin x n) = (r.begin ≡ x) × (p.sections ≡ n) × (n ≤ x)
WrongRoute p r (NoSignal up x) = (r.up ≡ up) × (r.begin ≡ x) × (p.signal up x ≡ false)
WrongRoute p r NoPath = r.path ≡ []
WrongRoute p r (ComesBack x) = (r.begin ≡ x) × (among x r.path ≡ true)
WrongRoute p r (Twice x) = Again x r.path
WrongRoute p r (NeedsBoth q) = (needed_so q true r.needs ≡ true) × (needed_so q false r.needs ≡ true)
WrongRoute p r (NoPoint q n) = (needed q r.needs ≡ true) × (p.points ≡ n) × (n ≤ q)
WrongRoute p r (NoSection x n) = (among x r.path ≡ true) × (p.sections ≡ n) × (n ≤ x)
WrongRoute p r (Astray w b) = Step r w.from b × (b < p.sections) × Strays p r.needs r.up w.from b w
WrongRoute p r (NoReturn w a) = Step r a w.from × Strays p r.needs (not r.up) w.from a w
WrongRoute p r (Signal up x) = (r.up ≡ up) × Inner x r.path × (p.signal up x ≡ true)
WrongRoute p r (NoEnd up x) = (r.up ≡ up) × (last_of 0 r.path ≡ x) × (p.signal up x ≡ false) × (p.edge x ≡ false)
WrongRoute p r (NotNeeded q x) = (q < p.points) × (p.place q ≡ x) × (among x r.path ≡ true) × (needed q r.needs ≡ false)

-- what is wrong with the rest of a plan
abbrev pub WrongPlan : Plan → PlanFault → Type 0
WrongPlan p (Missing up x q n) = (x < p.sections) × ((p.end up x).moves ≡ true) × ((p.end up x).point ≡ q) × (p.points ≡ n) × (n ≤ q)
WrongPlan p (Elsewhere up x q y) = (x < p.sections) × ((p.end up x).moves ≡ true) × ((p.end up x).point ≡ q) × (p.place q ≡ y) × (y ≢ x)
WrongPlan p (NoPlace q y n) = (q < p.points) × (p.place q ≡ y) × (p.sections ≡ n) × (n ≤ y)
WrongPlan p (InEdge q x) = (q < p.points) × (p.place q ≡ x) × (p.edge x ≡ true)
WrongPlan p (Open w) = (w.from < p.sections) × (p.edge w.from ≡ true) × (p.signal w.up w.from ≡ false) × Lies p w × (w.outside ≡ false)

-- a fault breaks this rule of a route, and is really there
pub record Blames (p : Plan) (r : Route) (k : RouteRule) (f : RouteFault) : Type 0 where
  pub rule : breaks f ≡ k
  pub wrong : WrongRoute p r f

pub record BlamesWhole (p : Plan) (k : WholeRule) (f : PlanFault) : Type 0 where
  pub rule : breaks_whole f ≡ k
  pub wrong : WrongPlan p f

-- a fault is found just if the rule's test fails
abbrev pub Finds : Plan → Route → RouteRule → Option RouteFault → Type 0
Finds p r k o = MatchOption o (route_test p r k ≡ true) (Blames p r k)

abbrev pub FindsWhole : Plan → WholeRule → Option PlanFault → Type 0
FindsWhole p k o = MatchOption o (whole_test p k ≡ true) (BlamesWhole p k)

-- the way beyond an end with its point so
abbrev pub way_of : Plan → Bool → ℕ → Lie → Way
way_of p up x l = record { up = up; from = x; lie = l; beyond = leg (p.end up x) l; outside = nat_le p.sections (leg (p.end up x) l) }

-- with the point so, which the needs allow, not x lies beyond an end
pub record ElsewhereSo (ns : List Need) (e : End) (x : ℕ) (l : Lie) : Type 0 where
  pub moved : Moved e l
  pub free : Free ns l
  pub other : leg e l ≡ x → ⊥

-- with the point so, a section lies beyond an end
pub record OpenSo (sections : ℕ) (e : End) (l : Lie) : Type 0 where
  pub moved : Moved e l
  pub inside : leg e l < sections
