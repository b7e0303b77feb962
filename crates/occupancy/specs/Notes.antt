-- What the interlocking notes when sections are reported occupied. Assumes nothing: these are definitions.
use Rattle.std.specs.Prelude.{ℕ, Bool, false, not, ◌&&◌, ◌||◌, List, length, ◌==◌, nat_lt, slice_index, slice_index_or}
use Rattle.plan.specs.Plan.{pick, Plan, route}
use Rattle.interlocking.specs.State.{State, Occupancy}
use Rattle.interlocking.specs.declared.Stage.{Stage}
use Rattle.interlocking.specs.declared.Stage.TheVariants.{Idle, Set, Shown, Used, Falling}

-- a shown or falling route whose first section is occupied is used
abbrev pub entered : Bool → Stage → Stage
entered b Idle = Idle
entered b Set = Set
entered b Shown = pick b Used Shown
entered b Used = Used
entered b (Falling n) = pick b Used (Falling n)

-- the stage of a route of the plan, after its first section was looked at
abbrev pub entering : Plan → Occupancy → ℕ → Stage → Stage
entering p s r g = pick (nat_lt r (length p.routes)) (entered (s (slice_index (route p r).path 0)) g) g

-- what it notes when sections are seen occupied: a route of the plan whose first section is has been entered, and a locked section that is has been passed
unfoldable pub notes : Plan → State → Occupancy → State
notes p h s = record {
  lock = h.lock;
  passed = λ x. h.passed x || (not (h.lock x == 0) && s x);
  stage = λ r. entering p s r (h.stage r);
  wanted = h.wanted;
}

-- a section that is locked and occupied is passed, and stays so
abbrev pub noted_mark : Bool → ℕ → Bool → Bool
noted_mark b lock occupied = b || (not (lock == 0) && occupied)

-- the mark of a section, in arrays, after what is reported is noted
abbrev pub noted : List ℕ → List Bool → ℕ → Bool → Bool
noted locks occupied x b = noted_mark b (slice_index locks x) (slice_index_or occupied x false)
