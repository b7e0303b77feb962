-- The twelve rules of a plan, and which of them is broken first. Assumes nothing: these are definitions.
use Rattle.std.specs.Prelude.{◌≡◌, ℕ, suc, ◌<◌, ◌≤◌, Bool, true, false, ◌⊎◌, List, [], ◌∷◌, ◌++◌, codes, decimal, length, None, Some, Ok, Err, Result, MatchResult, slice_index}
use Rattle.plan.specs.Plan.{Route, Plan, Positions, beyond, route, met, among, needed, Leads, last_of, Once}
use Rattle.plan.specs.Numbers.{plan_in, refused, refusal_text}
use Rattle.plan.specs.declared.Refusal.{Refusal}
use Rattle.soundness.specs.declared.RouteRule.{RouteRule}
use Rattle.soundness.specs.declared.RouteRule.TheVariants.{Begins, Goes, Differs, Agrees, Knows, Hangs, Passes, Ends, Holds}
use Rattle.soundness.specs.declared.WholeRule.{WholeRule}
use Rattle.soundness.specs.declared.WholeRule.TheVariants.{Places, Clears, Closes}
use Rattle.soundness.specs.declared.Verdict.{Verdict}
use Rattle.soundness.specs.declared.Verdict.TheVariants.{Sound as IsSound, Route as InRoute, Whole as InWhole}

abbrev pub route_number : RouteRule → ℕ
route_number Begins = 1
route_number Goes = 2
route_number Differs = 3
route_number Agrees = 4
route_number Knows = 5
route_number Hangs = 6
route_number Passes = 7
route_number Ends = 8
route_number Holds = 9

abbrev pub whole_number : WholeRule → ℕ
whole_number Places = 10
whole_number Clears = 11
whole_number Closes = 12

-- a route keeps a rule
abbrev pub Rule : Plan → Route → RouteRule → Type 0
Rule p r Begins = (r.begin < p.sections) × (p.signal r.up r.begin ≡ true)
Rule p r Goes = r.path ≡ [] → ⊥
Rule p r Differs = Once (r.begin ∷ r.path)
Rule p r Agrees = (t : Positions) × (met t r.needs ≡ true)
Rule p r Knows = (q : ℕ) → needed q r.needs ≡ true → q < p.points
Rule p r Hangs = (t : Positions) → met t r.needs ≡ true → Leads p t r.up r.begin r.path
Rule p r Passes = (k : ℕ) → suc k < length r.path → p.signal r.up (slice_index r.path k) ≡ false
Rule p r Ends = (p.signal r.up (last_of 0 r.path) ≡ true) ⊎ (p.edge (last_of 0 r.path) ≡ true)
Rule p r Holds = (q : ℕ) → q < p.points → among (p.place q) r.path ≡ true → needed q r.needs ≡ true

-- a point that moves what is beyond an end is there and in that section, and every place is a section
pub record Placed (p : Plan) : Type 0 where
  pub own : (up : Bool) (x : ℕ) → x < p.sections → (p.end up x).moves ≡ true → ((p.end up x).point < p.points) × (p.place (p.end up x).point ≡ x)
  pub there : (q : ℕ) → q < p.points → p.place q < p.sections

-- the whole plan keeps a rule
abbrev pub Whole : Plan → WholeRule → Type 0
Whole p Places = Placed p
Whole p Clears = (q : ℕ) → q < p.points → p.edge (p.place q) ≡ false
Whole p Closes = (x : ℕ) → x < p.sections → p.edge x ≡ true → (up : Bool) → (p.signal up x ≡ true) ⊎ ((t : Positions) → p.sections ≤ beyond p t up x)

-- a route keeps all nine
abbrev pub Fits : Plan → Route → Type 0
Fits p r = (k : RouteRule) → Rule p r k

-- all routes do, and the plan keeps the last three
pub record Keeps (p : Plan) : Type 0 where
  pub routes : (r : ℕ) → r < length p.routes → Fits p (route p r)
  pub whole : (k : WholeRule) → Whole p k

-- this rule is the first that a route breaks
pub record FirstRule (p : Plan) (r : Route) (k : RouteRule) : Type 0 where
  pub before : (j : RouteRule) → route_number j < route_number k → Rule p r j
  pub broken : Rule p r k → ⊥

-- the routes before this one keep all nine rules, and this is the first that it breaks
pub record FirstRoute (p : Plan) (r : ℕ) (k : RouteRule) : Type 0 where
  pub there : r < length p.routes
  pub routes : (s : ℕ) → s < r → Fits p (route p s)
  pub rule : FirstRule p (route p r) k

-- all routes keep all nine, and this is the first of the last three that is broken
pub record FirstWhole (p : Plan) (k : WholeRule) : Type 0 where
  pub routes : (r : ℕ) → r < length p.routes → Fits p (route p r)
  pub before : (j : WholeRule) → whole_number j < whole_number k → Whole p j
  pub broken : Whole p k → ⊥

abbrev pub FirstBroken : Plan → Verdict → Type 0
FirstBroken p IsSound = Keeps p
FirstBroken p (InRoute r k) = FirstRoute p r k
FirstBroken p (InWhole k) = FirstWhole p k

-- the verdict of the plan that the numbers are, or why they are none
abbrev pub Judges : List ℕ → Result Verdict Refusal → Type 0
Judges xs r = MatchResult r (λ v. (refused xs ≡ None) × FirstBroken (plan_in xs) v) (λ e. refused xs ≡ Some e)

abbrev pub is_sound : Verdict → Bool
is_sound IsSound = true
is_sound (InRoute r k) = false
is_sound (InWhole k) = false

-- does the judge say that the numbers are a sound plan
abbrev pub says_sound : Result Verdict Refusal → Bool
says_sound (Ok v) = is_sound v
says_sound (Err e) = false

-- what is printed of a verdict
abbrev pub verdict_text : Verdict → List ℕ
verdict_text IsSound = codes "sound"
verdict_text (InRoute r k) = codes "route " ++ (decimal r ++ (codes " breaks " ++ decimal (route_number k)))
verdict_text (InWhole k) = codes "breaks " ++ decimal (whole_number k)

-- what is printed of what the judge says
abbrev pub outcome_text : Result Verdict Refusal → List ℕ
outcome_text (Ok v) = verdict_text v
outcome_text (Err e) = refusal_text e
