-- What noting on numbers answers and leaves behind. Assumes nothing: these are definitions.
use Rattle.std.specs.Prelude.{◌≡◌, ℕ, List, Some, None, Ok, Err, Option, Result}
use Rattle.plan.specs.Plan.{Plan}
use Rattle.interlocking.specs.State.{Occupancy}
use Rattle.memory.specs.Memory.{state_in}
use Rattle.memory.specs.Entry.{Stored}
use Rattle.memory.specs.declared.Refusal.{Refusal}
use Rattle.occupancy.specs.Notes.{notes}

-- what is refused changes nothing; else the memory says what was noted
abbrev pub NoteSays : Option Refusal → Plan → Occupancy → List ℕ → Result Unit Refusal → List ℕ → Type 0
NoteSays (Some e) p s m r m₁ = (r ≡ Err e) × (m₁ ≡ m)
NoteSays None p s m r m₁ = (r ≡ Ok tt) × Stored (notes p (state_in m) s) m m₁
