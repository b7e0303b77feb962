-- The numbers of a plan's parts, and where they stand. Assumes nothing: these are definitions.
use Rattle.std.specs.Prelude.{ℕ, ◌+◌, ◌-◌, ◌*◌, ◌^◌, min, Bool, ◌&&◌, ◌||◌, List, [], ◌∷◌, ◌++◌, length, take, Some, None, Option, nat_le, nat_lt, slice_set}
use Rattle.std.proofs.Math.Seq.{paste}
use Rattle.plan.specs.Plan.{pick}
use Rattle.plan.specs.declared.End.{End}
use Rattle.plan.specs.declared.Refusal.{Refusal}
use Rattle.plan.specs.declared.Refusal.TheVariants.{Sizes as OfSizes, Length, Number}
use Rattle.plan.specs.declared.Need.{Need}
use Rattle.rows.specs.declared.Needs.{Needs}
use Rattle.rows.specs.declared.Path.{Path}
use Rattle.rows.specs.declared.RouteText.{RouteText}
use Rattle.rows.specs.declared.Rows.{Rows}
use Rattle.rows.specs.declared.Sizes.{Sizes}

-- a part from a place on, the rest as it was; nothing where it does not fit
unfoldable pub put_in : List ℕ → ℕ → List ℕ → List ℕ
put_in xs k part = pick (nat_le (k + length part) (length xs)) (paste xs k part (length part)) xs

abbrev pub bit : Bool → ℕ
bit b = pick b 1 0

-- one more, past the largest number no more
abbrev pub counted : ℕ → ℕ
counted n = min (n + 1) (2 ^ 16 - 1)

-- a path with one more section, and needs with one more, written where there is room
abbrev pub path_with : Path → ℕ → Path
path_with p x = record { count = counted p.count; sections = slice_set p.sections p.count x }

abbrev pub needs_with : Needs → Need → Needs
needs_with n q = record { count = counted n.count; pairs = slice_set (slice_set n.pairs (2 * n.count) q.point) (2 * n.count + 1) (bit q.left) }

-- a section's end up, and its end down
abbrev pub ends_in : End → End → List ℕ
ends_in up down =
    bit up.moves ∷ (up.point ∷ (up.on_left ∷ (up.on_right ∷
    (bit down.moves ∷ (down.point ∷ (down.on_left ∷ (down.on_right ∷ [])))))))

abbrev pub head_in : RouteText → List ℕ
head_in r = r.begin ∷ (bit r.up ∷ (r.path.count ∷ (r.needs.count ∷ [])))

-- a route from a place on
abbrev pub route_in : List ℕ → ℕ → RouteText → List ℕ
route_in xs k r = put_in (put_in (put_in xs k (head_in r)) (k + 4) r.path.sections) (k + 20) r.needs.pairs

-- what lies beyond, among so many sections
abbrev pub closed : ℕ → ℕ → ℕ
closed n x = pick (nat_lt x n || nat_lt 1000 x) x 1000

-- the four sizes, and what stands for the parts if there are few enough
abbrev pub sizes_in : Sizes → List ℕ
sizes_in s = s.sections ∷ (s.points ∷ (s.time ∷ (s.routes ∷ [])))

abbrev pub few : Sizes → Bool
few s = nat_le s.sections 64 && (nat_le s.points 32 && nat_le s.routes 64)

abbrev pub parts_in : Sizes → Rows → List ℕ
parts_in s r = (take (11 * s.sections) r.sections ++ take s.points r.points) ++ take (52 * s.routes) r.routes

unfoldable pub numbers_in : Sizes → Rows → List ℕ
numbers_in s r = sizes_in s ++ pick (few s) (parts_in s r) []

-- the numbers are as many as they should be
abbrev pub NotLength : Option Refusal → Type 0
NotLength None = Unit {0}
NotLength (Some (OfSizes s)) = Unit {0}
NotLength (Some (Length n)) = ⊥
NotLength (Some (Number k)) = Unit {0}
