-- Trains by their numbers, and what one of them finds before it. Assumes nothing: these are definitions.
use Rattle.std.specs.Prelude.{ℕ, zero, suc, Bool, true, false, not, ◌&&◌, ◌||◌, List, [], ◌∷◌, ◌++◌, length, ◌==◌, nat_le, nat_lt}
use Rattle.plan.specs.Plan.{pick, sameb, Plan, Positions, beyond, route, among, last_of}
use Rattle.interlocking.specs.State.{is_open, State, Occupancy}

-- a train is nowhere, or stands in sections, its front first
pub record Train : Type 0 where
  pub up : Bool
  pub body : List ℕ

unfoldable pub occupied : ℕ → (ℕ → Train) → Occupancy
occupied zero ts x = false
occupied (suc n) ts x = among x (ts n).body || occupied n ts x

unfoldable pub front : List ℕ → ℕ
front [] = 0
front (x ∷ xs) = x

unfoldable pub without_last : List ℕ → List ℕ
without_last [] = []
without_last (x ∷ []) = []
without_last (x ∷ (y ∷ ys)) = x ∷ without_last (y ∷ ys)

unfoldable pub reversed : List ℕ → List ℕ
reversed [] = []
reversed (x ∷ xs) = reversed xs ++ (x ∷ [])

unfoldable pub empty : List ℕ → Bool
empty [] = true
empty (x ∷ xs) = false

-- some route that begins here, this way, may still be entered
unfoldable pub open_here : Plan → State → Bool → ℕ → ℕ → Bool
open_here p h up x zero = false
open_here p h up x (suc r) = (is_open (h.stage r) && ((route p r).begin == x && sameb (route p r).up up)) || open_here p h up x r

-- one train as said, the others as they are
unfoldable pub with_train : (ℕ → Train) → ℕ → Bool → List ℕ → ℕ → Train
with_train ts i up b j = pick (j == i) (record { up = up; body = b }) (ts j)

-- what one train can do, as the interlocking and the points are
abbrev pub may_go : Plan → State → Positions → Train → Bool
may_go p h t r =
    not (empty r.body) && (nat_lt (beyond p t r.up (front r.body)) p.sections
    && (not (p.signal r.up (front r.body)) || open_here p h r.up (front r.body) (length p.routes)))

abbrev pub may_reverse : Plan → Train → Bool
may_reverse p r = not (empty r.body) && p.signal (not r.up) (last_of 0 r.body)

abbrev pub may_leave : Plan → Positions → Train → Bool
may_leave p t r = not (empty r.body) && (empty (without_last r.body) && nat_le p.sections (beyond p t r.up (front r.body)))

-- a section where a train may come in: an edge with a signal that way, not locked and not occupied
abbrev pub may_enter : Plan → State → Occupancy → Bool → ℕ → Bool
may_enter p h s up x = p.edge x && (p.signal up x && (h.lock x == 0 && not (s x)))
