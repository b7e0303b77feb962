-- The memory: 64 locks, 64 marks of passed sections, 64 stages (0 idle, 1 set, 2 shown, 3 used, 4 and more falling), 32 marks of points wanted left.
-- Assumes nothing: these are definitions.
use Rattle.std.specs.Prelude.{◌≡◌, ℕ, zero, suc, ◌+◌, ◌-◌, ◌<◌, Bool, false, List, ◌++◌, length, replicate, nat_lt, slice_index}
use Rattle.plan.specs.Plan.{pick}
use Rattle.plan.specs.Numbers.{bitb}
use Rattle.interlocking.specs.State.{State}
use Rattle.interlocking.specs.declared.Stage.{Stage}
use Rattle.interlocking.specs.declared.Stage.TheVariants.{Idle, Set, Shown, Used, Falling}

-- a mark that says so already stays as it is
abbrev pub remarked : ℕ → Bool → ℕ
remarked old b = pick b 1 (pick (bitb old) 0 old)

abbrev pub stage_in : ℕ → Stage
stage_in zero = Idle
stage_in (suc zero) = Set
stage_in (suc (suc zero)) = Shown
stage_in (suc (suc (suc zero))) = Used
stage_in (suc (suc (suc (suc n)))) = Falling n

-- the longest time that has room is 65531
abbrev pub stage_number : Stage → ℕ
stage_number Idle = 0
stage_number Set = 1
stage_number Shown = 2
stage_number Used = 3
stage_number (Falling n) = pick (nat_lt n 65532) (n + 4) 65535

-- what a memory says; beyond its sections, routes and points nothing is locked, passed, set or wanted left
unfoldable pub state_in : List ℕ → State
state_in m = record {
  lock = λ x. pick (nat_lt x 64) (slice_index m x) 0;
  passed = λ x. pick (nat_lt x 64) (bitb (slice_index m (64 + x))) false;
  stage = λ r. pick (nat_lt r 64) (stage_in (slice_index m (128 + r))) Idle;
  wanted = λ q. pick (nat_lt q 32) (bitb (slice_index m (192 + q))) false;
}

-- the number at a place, where another stood, once a state is written there
unfoldable pub number_in : State → ℕ → ℕ → ℕ
number_in h k old =
    pick (nat_lt k 64) (h.lock k)
    (pick (nat_lt k 128) (remarked old (h.passed (k - 64)))
    (pick (nat_lt k 192) (stage_number (h.stage (k - 128)))
    (pick (nat_lt k 224) (remarked old (h.wanted (k - 192))) old)))

-- each number of a memory after a state was written into it, as far as there is room
pub record Written (h : State) (m m₁ : List ℕ) : Type 0 where
  pub whole : length m₁ ≡ length m
  pub numbers : (k : ℕ) → k < length m → slice_index m₁ k ≡ number_in h k (slice_index m k)

-- nothing locked, passed or set, and every point wanted left
abbrev pub empty_memory : List ℕ
empty_memory = replicate 192 0 ++ replicate 32 1
