-- A station's plan: sections, points, signals and routes. Assumes nothing: these are definitions.
use Rattle.std.specs.Prelude.{◌≡◌, ℕ, ◌<◌, Bool, true, false, not, ◌&&◌, ◌||◌, List, [], ◌∷◌, Option, None, Some, ◌==◌, slice_index_or}
use Rattle.plan.specs.declared.Need.{Need}

abbrev pub pick : {A : Type 0} → Bool → A → A → A
pick true a b = a
pick false a b = b

unfoldable pub sameb : Bool → Bool → Bool
sameb true b = b
sameb false b = not b

-- a route begins at the signal at the end of a section, one way, and goes through the sections of its path
pub record Route : Type 0 where
  pub begin : ℕ
  pub up : Bool
  pub path : List ℕ
  pub needs : List Need

-- a section has two ends. Beyond an end one comes to another section, by one point at most, or outside
pub record End : Type 0 where
  pub point : ℕ
  pub moves : Bool
  pub on_left : ℕ
  pub on_right : ℕ

pub record Plan : Type 0 where
  pub sections : ℕ
  pub points : ℕ
  pub end : (up : Bool) → ℕ → End
  pub place : ℕ → ℕ
  pub signal : (up : Bool) → ℕ → Bool
  pub edge : ℕ → Bool
  pub routes : List Route
  pub time : ℕ

-- how points lie: left or not
abbrev pub Positions : Type 0
Positions = ℕ → Bool

-- marks by their places; past the end there is none
abbrev pub marks : List Bool → ℕ → Bool
marks bs x = slice_index_or bs x false

-- what lies beyond an end as the points lie; a number that is no section is outside
unfoldable pub beyond : Plan → Positions → Bool → ℕ → ℕ
beyond p t up x = pick (p.end up x).moves (pick (t (p.end up x).point) (p.end up x).on_left (p.end up x).on_right) (p.end up x).on_left

-- two sections hang together that way: from a one comes to b, and back
unfoldable pub Joined : Plan → Positions → Bool → ℕ → ℕ → Type 0
Joined p t up a b = (beyond p t up a ≡ b) × (beyond p t (not up) b ≡ a)

-- what stands for a route that the plan has not
unfoldable pub no_route : Route
no_route = record { begin = 0; up = false; path = []; needs = [] }

unfoldable pub route : Plan → ℕ → Route
route p r = slice_index_or p.routes r no_route

-- do the points lie as needed
unfoldable pub met : Positions → List Need → Bool
met t [] = true
met t (n ∷ ns) = sameb (t n.point) n.left && met t ns

unfoldable pub among : ℕ → List ℕ → Bool
among x [] = false
among x (y ∷ ys) = x == y || among x ys

-- the first that stands again behind itself
unfoldable pub repeated : List ℕ → Option ℕ
repeated [] = None
repeated (x ∷ xs) = pick (among x xs) (Some x) (repeated xs)

-- is a point among those that are needed
unfoldable pub needed : ℕ → List Need → Bool
needed q [] = false
needed q (n ∷ ns) = q == n.point || needed q ns

-- from a section through a path, each joined to the next
pub data Leads (p : Plan) (t : Positions) (up : Bool) : ℕ → List ℕ → Type 0 where
  there : (a : ℕ) → Leads p t up a []
  on : (a b : ℕ) (xs : List ℕ) → b < p.sections → Joined p t up a b → Leads p t up b xs → Leads p t up a (b ∷ xs)

unfoldable pub last_of : ℕ → List ℕ → ℕ
last_of d [] = d
last_of d (x ∷ xs) = last_of x xs

-- all different
pub data Once : List ℕ → Type 0 where
  none : Once []
  more : (x : ℕ) (xs : List ℕ) → among x xs ≡ false → Once xs → Once (x ∷ xs)
