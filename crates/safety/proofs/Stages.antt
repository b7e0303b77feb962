-- Lemmas on the stages of a route and on its locks.
use Rattle.std.proofs.Common.{◌≡◌, ℕ, suc, Bool, true, false, List, arith}
use Rattle.plan.specs.Plan.{among}
use Rattle.interlocking.specs.declared.Stage.{Stage}
use Rattle.interlocking.specs.declared.Stage.TheVariants.{Idle, Set, Used}
use Rattle.interlocking.specs.State.{is_idle, is_set, is_used, is_open, State, with_stage, locked, unlocked}
use Rattle.safety.specs.Safe.{is_waiting, is_cleared}

-- what one test of a stage says of another
pub waiting_unused : (g : Stage) → is_waiting g ≡ true → g ≡ Used → ⊥
waiting_unused g e q = grind arith

pub cleared_busy : (g : Stage) → is_cleared g ≡ true → is_idle g ≡ false
cleared_busy g h = grind arith

pub open_waits : (g : Stage) → is_open g ≡ true → is_waiting g ≡ true
open_waits g h = grind arith

pub open_cleared : (g : Stage) → is_open g ≡ true → is_cleared g ≡ true
open_cleared g h = grind arith

pub idle_only : (g : Stage) → is_idle g ≡ true → g ≡ Idle
idle_only g e = grind arith

pub set_only : (g : Stage) → is_set g ≡ true → g ≡ Set
set_only g e = grind arith

pub used_only : (g : Stage) → is_used g ≡ true → g ≡ Used
used_only g e = grind arith

-- one stage changed
pub stage_else : (f : ℕ → Stage) (r : ℕ) (g : Stage) (k : ℕ) → (k ≡ r → ⊥) → with_stage f r g k ≡ f k
stage_else f r g k e = grind arith

-- sections locked for a route, and all of its sections unlocked
pub locked_out : (h : State) (r : ℕ) (xs : List ℕ) (x : ℕ) → among x xs ≡ false → locked h r xs x ≡ h.lock x
locked_out h r xs x e = grind arith

pub unlocked_else : (h : State) (r x : ℕ) → (h.lock x ≡ suc r → ⊥) → unlocked h r x ≡ h.lock x
unlocked_else h r x e = grind arith

-- a state in which only the stage of a route is another
abbrev pub staged : State → ℕ → Stage → State
staged h r g = record { lock = h.lock; passed = h.passed; stage = with_stage h.stage r g; wanted = h.wanted }

-- a state in which a route is let go: its locks go, and what has been passed is f
abbrev pub let_go : State → ℕ → (ℕ → Bool) → State
let_go h r f = record { lock = unlocked h r; passed = f; stage = with_stage h.stage r Idle; wanted = h.wanted }
