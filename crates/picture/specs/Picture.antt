-- What the picture says, and its numbers. Assumes nothing: these are definitions.
use Rattle.std.specs.Prelude.{◌≡◌, ℕ, zero, suc, ◌-◌, Bool, true, false, length, Some, None, Option, nat_lt, slice_index, slice_index_or}
use Rattle.plan.specs.Plan.{pick, marks, Plan, Positions}
use Rattle.interlocking.specs.State.{State, Occupancy}
use Rattle.interlocking.specs.Says.{state_of}
use Rattle.interlocking.specs.declared.Interlocking.{Interlocking}
use Rattle.interlocking.specs.declared.Stage.{Stage}
use Rattle.interlocking.specs.declared.Stage.TheVariants.{Idle, Set, Shown, Used, Falling}
use Rattle.field.specs.Field.{shows, aspect_of}
use Rattle.field.specs.declared.Aspect.{Aspect}
use Rattle.field.specs.declared.Aspect.TheVariants.{Stop, Proceed}
use Rattle.picture.specs.declared.Picture.{Picture}

abbrev pub lit : Aspect → Option Aspect
lit a = Some a

-- what stands at an end of a section: no signal, or one and what it shows
abbrev pub light_of : Plan → State → Bool → ℕ → Option Aspect
light_of p h up x = pick (nat_lt x p.sections) (pick (p.signal up x) (lit (aspect_of (shows p h up x))) None) None

-- each entry is what is seen or what is set; there is room for 64 sections and 32 points
pub record Pictured (p : Plan) (h : Interlocking) (s : Occupancy) (t : Positions) (c : Picture) : Type 0 where
  pub sections : c.sections ≡ p.sections
  pub points : c.points ≡ p.points
  pub routes : c.routes ≡ length p.routes
  pub occupied : (x : ℕ) → slice_index_or c.occupied x false ≡ pick (nat_lt x 64) (s x) false
  pub lies : (q : ℕ) → slice_index_or c.lies q false ≡ pick (nat_lt q 32) (t q) false
  pub up : (x : ℕ) → slice_index_or c.up x None ≡ pick (nat_lt x 64) (light_of p (state_of h) true x) None
  pub down : (x : ℕ) → slice_index_or c.down x None ≡ pick (nat_lt x 64) (light_of p (state_of h) false x) None
  pub interlocking : c.interlocking ≡ h

abbrev pub light_at : Picture → Bool → ℕ → Option Aspect
light_at c up x = pick up (slice_index_or c.up x None) (slice_index_or c.down x None)

abbrev pub locked_for : ℕ → Option ℕ
locked_for zero = None
locked_for (suc r) = Some r

abbrev pub bit : Bool → ℕ
bit true = 1
bit false = 0

abbrev pub light_number : Option Aspect → ℕ
light_number None = 0
light_number (Some Stop) = 1
light_number (Some Proceed) = 2

abbrev pub stage_kind : Stage → ℕ
stage_kind Idle = 0
stage_kind Set = 1
stage_kind Shown = 2
stage_kind Used = 3
stage_kind (Falling n) = 4

abbrev pub time_left : Stage → ℕ
time_left Idle = 0
time_left Set = 0
time_left Shown = 0
time_left Used = 0
time_left (Falling n) = n

-- each number by its place: 64 times occupied, lock, signal up, signal down, 32 times lies left, wanted left, 64 times stage, time left
abbrev pub number_in : Picture → ℕ → ℕ
number_in c k =
    pick (nat_lt k 64) (bit (marks c.occupied k))
    (pick (nat_lt k 128) (slice_index c.interlocking.locks (k - 64))
    (pick (nat_lt k 192) (light_number (light_at c true (k - 128)))
    (pick (nat_lt k 256) (light_number (light_at c false (k - 192)))
    (pick (nat_lt k 288) (bit (marks c.lies (k - 256)))
    (pick (nat_lt k 320) (bit (slice_index_or c.interlocking.wanted (k - 288) false))
    (pick (nat_lt k 384) (stage_kind (slice_index_or c.interlocking.stages (k - 320) Idle))
    (time_left (slice_index_or c.interlocking.stages (k - 384) Idle))))))))
