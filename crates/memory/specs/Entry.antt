-- What is refused, what the entry answers and what it leaves behind, over the numbers that are lent. Assumes nothing: these are definitions.
use Rattle.std.specs.Prelude.{◌≡◌, ℕ, Bool, false, List, length, take, Some, None, Ok, Err, Option, Result, ◌==◌, nat_le, slice_index}
use Rattle.plan.specs.declared.Refusal.{Refusal as PlanRefusal}
use Rattle.plan.specs.Plan.{pick, Plan, Positions}
use Rattle.plan.specs.Numbers.{bitb, refused, refusal_number, refusal_place}
use Rattle.plan.specs.Shape.{all_at_most}
use Rattle.interlocking.specs.State.{State, Occupancy, does, acts}
use Rattle.interlocking.specs.declared.Answer.{Answer}
use Rattle.interlocking.specs.declared.Request.{Request}
use Rattle.memory.specs.Memory.{state_in, number_in}
use Rattle.memory.specs.declared.Lent.{Lent}
use Rattle.memory.specs.declared.Lent.TheVariants.{Memory, Occupied, Positions as Lies, Lock}
use Rattle.memory.specs.declared.Asked.{Asked}
use Rattle.memory.specs.declared.Asked.TheVariants.{Kind, Which}
use Rattle.memory.specs.declared.Refusal.{Refusal}
use Rattle.memory.specs.declared.Refusal.TheVariants.{Plan as OfPlan, Lent as OfLent, Asked as OfAsked}

-- what is lent as marks: only 1 says yes
abbrev pub marked : List ℕ → ℕ → Bool
marked xs x = bitb (slice_index xs x)

-- each refusal has a number and a place
abbrev pub lent_place : Lent → ℕ
lent_place Memory = 0
lent_place Occupied = 1
lent_place Lies = 2
lent_place Lock = 3

abbrev pub asked_place : Asked → ℕ
asked_place Kind = 0
asked_place Which = 1

abbrev pub number_of : Refusal → ℕ
number_of (OfPlan e) = refusal_number e
number_of (OfLent e) = 4
number_of (OfAsked e) = 5

abbrev pub place_of : Refusal → ℕ
place_of (OfPlan e) = refusal_place e
place_of (OfLent e) = lent_place e
place_of (OfAsked e) = asked_place e

-- the memory, the occupancy or the positions are of another length, or a lock is above the number of routes
abbrev pub bad_lent : (memory seen : List ℕ) → Bool → ℕ → Option Lent
bad_lent memory seen positions routes =
    pick (length memory == 224)
    (pick (length seen == 64)
    (pick positions
    (pick (all_at_most routes (take 64 memory)) None (Some Lock))
    (Some Lies))
    (Some Occupied))
    (Some Memory)

-- a request, or its number, that there is not
abbrev pub bad_asked : ℕ → ℕ → Option Asked
bad_asked kind which = pick (nat_le kind 4) (pick (nat_le which 63) None (Some Which)) (Some Kind)

-- the plan's refusals come before what else is lent
abbrev pub lent_after : Option PlanRefusal → Option Lent → Option Refusal
lent_after (Some e) b = Some (OfPlan e)
lent_after None (Some e) = Some (OfLent e)
lent_after None None = None

-- and what is asked comes last
abbrev pub asked_after : Option Refusal → Option Asked → Option Refusal
asked_after (Some e) b = Some e
asked_after None (Some e) = Some (OfAsked e)
asked_after None None = None

-- whether the positions have their length is known before
unfoldable pub lent_refusal : (plan memory seen : List ℕ) → Bool → Option Refusal
lent_refusal plan memory seen positions = lent_after (refused plan) (bad_lent memory seen positions (slice_index plan 3))

unfoldable pub refusal : (plan memory seen turned : List ℕ) → (kind which : ℕ) → Option Refusal
refusal plan memory seen turned kind which = asked_after (lent_refusal plan memory seen (length turned == 32)) (bad_asked kind which)

-- a memory that was another, after it was made to say this: each number is known, and what says the same as before is the same number
pub record Stored (h : State) (m m₁ : List ℕ) : Type 0 where
  pub whole : length m₁ ≡ length m
  pub state : state_in m₁ ≡ h
  pub numbers : (k : ℕ) → slice_index m₁ k ≡ number_in h k (slice_index m k)

-- a request is done as defined, and said to be; one that can't be done leaves the memory as it was
pub record Performs (p : Plan) (s : Occupancy) (t : Positions) (q : Request) (m : List ℕ) (a : Answer) (m₁ : List ℕ) : Type 0 where
  pub request : a.request ≡ q
  pub done_is : a.done ≡ does p (state_in m) s t q
  pub stored : Stored (acts p (state_in m) s t q) m m₁
  pub unchanged : does p (state_in m) s t q ≡ false → m₁ ≡ m

-- what is refused changes nothing
abbrev pub ActSays : Option Refusal → Plan → Occupancy → Positions → Request → List ℕ → Result Answer Refusal → List ℕ → Type 0
ActSays (Some e) p s t q m r m₁ = (r ≡ Err e) × (m₁ ≡ m)
ActSays None p s t q m r m₁ = (a : Answer) × (r ≡ Ok a) × Performs p s t q m a m₁
