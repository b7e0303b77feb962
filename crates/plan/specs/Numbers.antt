-- A plan in numbers, and which numbers are turned away. Assumes nothing: these are definitions.
use Rattle.std.specs.Prelude.{◌≡◌, ℕ, zero, suc, ◌+◌, ◌-◌, ◌*◌, ◌%◌, ◌<◌, ◌≤◌, Bool, ◌&&◌, ◌||◌, List, [], ◌∷◌, ◌++◌, codes, decimal, length, Some, None, Option, ◌==◌, ◌≢◌, nat_le, slice_index, slice_index_or}
use Rattle.plan.specs.Plan.{pick, Route, End, Plan}
use Rattle.plan.specs.declared.Need.{Need}
use Rattle.plan.specs.declared.Size.{Size}
use Rattle.plan.specs.declared.Size.TheVariants.{Sections, Points, Routes, Time}
use Rattle.plan.specs.declared.Refusal.{Refusal}
use Rattle.plan.specs.declared.Refusal.TheVariants.{Sizes, Length, Number}

-- only 1 means yes
abbrev pub bitb : ℕ → Bool
bitb n = n == 1

-- sections, points, time, routes; for each section 11: the end up (1 if a point moves it, the point, left, right), the end down, a signal up, a signal down, edge;
-- for each point its place; for each route 52: begin, 1 for up, sections of its path, needs, 16 places for the path, 16 pairs of point and 1 for left
abbrev pub end_at : List ℕ → ℕ → End
end_at xs k = record { point = slice_index xs (k + 1); moves = bitb (slice_index xs k); on_left = slice_index xs (k + 2); on_right = slice_index xs (k + 3) }

unfoldable pub path_at : List ℕ → ℕ → ℕ → List ℕ
path_at xs k zero = []
path_at xs k (suc n) = slice_index xs k ∷ path_at xs (suc k) n

abbrev pub need_at : List ℕ → ℕ → Need
need_at xs k = record { point = slice_index xs k; left = bitb (slice_index xs (suc k)) }

unfoldable pub needs_at : List ℕ → ℕ → ℕ → List Need
needs_at xs k zero = []
needs_at xs k (suc n) = need_at xs k ∷ needs_at xs (suc (suc k)) n

abbrev pub route_at : List ℕ → ℕ → Route
route_at xs k = record {
  begin = slice_index xs k;
  up = bitb (slice_index xs (k + 1));
  path = path_at xs (k + 4) (slice_index xs (k + 2));
  needs = needs_at xs (k + 20) (slice_index xs (k + 3));
}

unfoldable pub routes_at : List ℕ → ℕ → ℕ → List Route
routes_at xs k zero = []
routes_at xs k (suc n) = route_at xs k ∷ routes_at xs (k + 52) n

-- where the first route stands
abbrev pub routes_from : List ℕ → ℕ
routes_from xs = 4 + 11 * slice_index xs 0 + slice_index xs 1

unfoldable pub plan_in : List ℕ → Plan
plan_in xs = record {
  sections = slice_index xs 0;
  points = slice_index xs 1;
  time = slice_index xs 2;
  end = λ up x. pick up (end_at xs (4 + 11 * x)) (end_at xs (8 + 11 * x));
  signal = λ up x. pick up (bitb (slice_index xs (12 + 11 * x))) (bitb (slice_index xs (13 + 11 * x)));
  edge = λ x. bitb (slice_index xs (14 + 11 * x));
  place = λ q. slice_index xs (4 + 11 * slice_index xs 0 + q);
  routes = routes_at xs (routes_from xs) (slice_index xs 3);
}

-- the first of the four sizes that is too large, or the first if there are fewer than four numbers or no section
abbrev pub bad_size : List ℕ → Option Size
bad_size xs =
    pick (nat_le 4 (length xs) && (nat_le 1 (slice_index xs 0) && nat_le (slice_index xs 0) 64))
    (pick (nat_le (slice_index xs 1) 32) (pick (nat_le (slice_index xs 3) 64) (pick (nat_le (slice_index xs 2) 1000) None (Some Time)) (Some Routes)) (Some Points)) (Some Sections)

-- how many numbers there should be
abbrev pub whole : List ℕ → ℕ
whole xs = routes_from xs + 52 * slice_index xs 3

-- is it the place of a route's count, of its path or of its needs
abbrev pub counts : ℕ → ℕ → Bool
counts from k = nat_le from k && ((k - from) % 52 == 2 || (k - from) % 52 == 3)

-- the largest number that may stand at a place
abbrev pub most : ℕ → ℕ → ℕ
most from k = pick (counts from k) 16 1000

-- the first place from k on, of so many, with a number that is too large
unfoldable pub too_large : List ℕ → ℕ → ℕ → Option ℕ
too_large xs k zero = None
too_large xs k (suc n) = pick (nat_le (slice_index xs k) (most (routes_from xs) k)) (too_large xs (suc k) n) (Some k)

abbrev pub sized : Option Size → Option Refusal → Option Refusal
sized None r = r
sized (Some s) r = Some (Sizes s)

abbrev pub numbered : Option ℕ → Option Refusal
numbered None = None
numbered (Some k) = Some (Number k)

-- why numbers are turned away, if they are: the sizes, then the length, then the first number that is too large
unfoldable pub refused : List ℕ → Option Refusal
refused xs = sized (bad_size xs) (pick (length xs == whole xs) (numbered (too_large xs 0 (length xs))) (Some (Length (whole xs))))

-- the number of a refusal, and its place
abbrev pub refusal_number : Refusal → ℕ
refusal_number (Sizes s) = 1
refusal_number (Length n) = 2
refusal_number (Number k) = 3

abbrev pub size_place : Size → ℕ
size_place Sections = 0
size_place Points = 1
size_place Routes = 2
size_place Time = 3

abbrev pub refusal_place : Refusal → ℕ
refusal_place (Sizes s) = size_place s
refusal_place (Length n) = n
refusal_place (Number k) = k

-- what is printed of a refusal
abbrev pub refusal_text : Refusal → List ℕ
refusal_text e = codes "refused " ++ (decimal (refusal_number e) ++ (codes " at " ++ decimal (refusal_place e)))

-- the sizes in their ranges
pub record Sized (xs : List ℕ) : Type 0 where
  pub four : 4 ≤ length xs
  pub some : 1 ≤ slice_index xs 0
  pub sections : slice_index_or xs 0 0 ≤ 64
  pub points : slice_index_or xs 1 0 ≤ 32
  pub routes : slice_index_or xs 3 0 ≤ 64
  pub time : slice_index_or xs 2 0 ≤ 1000

-- the first place with a number that is too large
pub record FirstLarge (xs : List ℕ) (k : ℕ) : Type 0 where
  pub inside : k < length xs
  pub here : most (routes_from xs) k < slice_index xs k
  pub before : (j : ℕ) → j < k → slice_index xs j ≤ most (routes_from xs) j

-- which size is out of its range, those before it being within theirs
abbrev pub OutOfRange : List ℕ → Size → Type 0
OutOfRange xs Sections = ((4 ≤ length xs) × (1 ≤ slice_index xs 0) × (slice_index xs 0 ≤ 64)) → ⊥
OutOfRange xs Points = (4 ≤ length xs) × (1 ≤ slice_index xs 0) × (slice_index xs 0 ≤ 64) × (32 < slice_index xs 1)
OutOfRange xs Routes = (4 ≤ length xs) × (1 ≤ slice_index xs 0) × (slice_index xs 0 ≤ 64) × (slice_index xs 1 ≤ 32) × (64 < slice_index xs 3)
OutOfRange xs Time = (4 ≤ length xs) × (1 ≤ slice_index xs 0) × (slice_index xs 0 ≤ 64) × (slice_index xs 1 ≤ 32) × (slice_index xs 3 ≤ 64) × (1000 < slice_index xs 2)

-- numbers that are not turned away
pub record Formed (xs : List ℕ) : Type 0 where
  pub some : 1 ≤ slice_index xs 0
  pub sections : slice_index_or xs 0 0 ≤ 64
  pub points : slice_index_or xs 1 0 ≤ 32
  pub time : slice_index_or xs 2 0 ≤ 1000
  pub routes : slice_index_or xs 3 0 ≤ 64
  pub size : length xs ≡ whole xs
  pub small : (k : ℕ) → k < length xs → slice_index xs k ≤ most (routes_from xs) k

-- the numbers of one route: 52, with a path and needs of at most 16
pub record Shaped (xs : List ℕ) : Type 0 where
  pub size : length xs ≡ 52
  pub sections : slice_index_or xs 2 0 ≤ 16
  pub points : slice_index_or xs 3 0 ≤ 16

-- where a route stands, it is whole and its counts are small
pub record Stands (xs : List ℕ) (k : ℕ) : Type 0 where
  pub within : k + 52 ≤ length xs
  pub sections : slice_index_or xs (k + 2) 0 ≤ 16
  pub points : slice_index_or xs (k + 3) 0 ≤ 16

-- why numbers are turned away, or that they are formed
abbrev pub Says : List ℕ → Option Refusal → Type 0
Says xs None = Formed xs
Says xs (Some (Sizes s)) = OutOfRange xs s
Says xs (Some (Length n)) = Sized xs × (n ≡ whole xs) × (length xs ≢ n)
Says xs (Some (Number k)) = Sized xs × (length xs ≡ whole xs) × FirstLarge xs k

-- it is said of all numbers
abbrev pub RefusedSays : Type 0
RefusedSays = (xs : List ℕ) → Says xs (refused xs)
