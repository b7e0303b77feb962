-- What the code's trains stand for. Assumes nothing: these are definitions.
use Rattle.std.specs.Prelude.{◌≡◌, ℕ, Bool, true, ◌&&◌, List, [], ◌∷◌, map, length, vec_items, ◌==◌, nat_lt, slice_index_or, slice_set}
use Rattle.plan.specs.Plan.{pick, sameb, Route}
use Rattle.plan.specs.declared.End.{End as HeldEnd}
use Rattle.interlocking.specs.State.{is_open, Occupancy}
use Rattle.interlocking.specs.declared.Stage.{Stage}
use Rattle.trains.specs.Trains.{Train}
use Rattle.trains.specs.declared.train.Train.{Train as HeldTrain}

abbrev pub train_of : HeldTrain → Train
train_of t = record { up = t.up; body = vec_items t.body }

-- a train that is nowhere
abbrev pub nowhere : Train
nowhere = record { up = true; body = [] }

-- trains by their numbers; past the last one there is none
unfoldable pub trains_of : List HeldTrain → ℕ → Train
trains_of ts i = slice_index_or (map train_of ts) i nowhere

-- every section is below 64
unfoldable pub all_inside : List ℕ → Bool
all_inside [] = true
all_inside (x ∷ xs) = nat_lt x 64 && all_inside xs

unfoldable pub trains_inside : List HeldTrain → Bool
trains_inside [] = true
trains_inside (t ∷ ts) = all_inside (vec_items t.body) && trains_inside ts

-- so many trains, none of them anywhere
pub record Nowhere (count : ℕ) (ts : List HeldTrain) : Type 0 where
  pub long : length ts ≡ count
  pub none : (i : ℕ) → trains_of ts i ≡ nowhere
  pub inside : trains_inside ts ≡ true

-- what can be seen of occupied sections in 64 places
abbrev pub within : Occupancy → Occupancy
within s x = nat_lt x 64 && s x

-- each section of a train marked
unfoldable pub mark_all : List ℕ → List Bool → List Bool
mark_all [] bs = bs
mark_all (x ∷ xs) bs = mark_all xs (slice_set bs x true)

-- what lies beyond an end, its point left or not
abbrev pub ahead : HeldEnd → Bool → ℕ
ahead e left = pick e.moves (pick left e.on_left e.on_right) e.on_left

-- may a train enter a route here: it is open, begins here and goes this way
abbrev pub opens : Stage → Route → Bool → ℕ → Bool
opens g r up x = is_open g && (r.begin == x && sameb r.up up)
