-- When a plan is sound, as one record. Assumes nothing: these are definitions.
use Rattle.std.specs.Prelude.{◌≡◌, ℕ, suc, ◌<◌, ◌≤◌, Bool, true, false, ◌⊎◌, [], ◌∷◌, length, slice_index}
use Rattle.plan.specs.Plan.{Route, Plan, Positions, beyond, route, met, among, needed, Leads, last_of, Once}

-- a route as it should be: a signal where it begins; a path of different sections, without the first, that its needs lead along;
-- some way for the points to lie as it needs; no signal that way before its end, one at its end unless it ends outside; and all points that lie in its path are needed
pub record Fit (p : Plan) (r : Route) : Type 0 where
  pub there : r.begin < p.sections
  pub sign : p.signal r.up r.begin ≡ true
  pub some : r.path ≡ [] → ⊥
  pub once : Once (r.begin ∷ r.path)
  pub leads : (t : Positions) → met t r.needs ≡ true → Leads p t r.up r.begin r.path
  pub inner : (k : ℕ) → suc k < length r.path → p.signal r.up (slice_index r.path k) ≡ false
  pub end : (p.signal r.up (last_of 0 r.path) ≡ true) ⊎ (p.edge (last_of 0 r.path) ≡ true)
  pub hold : (q : ℕ) → q < p.points → among (p.place q) r.path ≡ true → needed q r.needs ≡ true
  pub meets : (t : Positions) × (met t r.needs ≡ true)
  pub known : (q : ℕ) → needed q r.needs ≡ true → q < p.points

-- a plan as it should be. A point moves only what is beyond ends of its own section, and none lies in an edge; an edge has, each way, a signal or nothing beyond it
pub record Sound (p : Plan) : Type 0 where
  pub routes_fit : (r : ℕ) → r < length p.routes → Fit p (route p r)
  pub own : (up : Bool) (x : ℕ) → x < p.sections → (p.end up x).moves ≡ true → ((p.end up x).point < p.points) × (p.place (p.end up x).point ≡ x)
  pub places : (q : ℕ) → q < p.points → p.place q < p.sections
  pub clean : (q : ℕ) → q < p.points → p.edge (p.place q) ≡ false
  pub edges : (x : ℕ) → x < p.sections → p.edge x ≡ true → (up : Bool) → (p.signal up x ≡ true) ⊎ ((t : Positions) → p.sections ≤ beyond p t up x)
