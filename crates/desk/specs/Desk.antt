-- Requests that wait, and how they are served. Assumes nothing: these are definitions.
use Rattle.std.specs.Prelude.{◌≡◌, ℕ, suc, ◌+◌, ◌-◌, ◌^◌, ◌≤◌, Bool, true, false, ◌||◌, List, [], ◌∷◌, ◌++◌, length, take, Some, None, Ok, Err, Option, Result, ◌==◌, nat_le}
use Rattle.plan.specs.Plan.{pick, Plan, Positions}
use Rattle.interlocking.specs.State.{State, Occupancy, does, acts}
use Rattle.interlocking.specs.Says.{Says}
use Rattle.interlocking.specs.declared.Interlocking.{Interlocking}
use Rattle.interlocking.specs.declared.Request.{Request}
use Rattle.desk.specs.declared.Desk.{Desk}
use Rattle.desk.specs.declared.Full.{Full}
use Rattle.desk.specs.declared.Served.{Served}
use Rattle.desk.specs.declared.Ticketed.{Ticketed}

-- those that wait, oldest first
abbrev pub waiting_of : Desk → List Ticketed
waiting_of d = take d.count d.places

-- no room, or no number left
abbrev pub is_full : Desk → Bool
is_full d = nat_le 64 (length (waiting_of d)) || nat_le (2 ^ 64 - 1) d.next

-- a request waits behind all others under the next number; a full desk says so and stays as it is
abbrev pub Asked : Request → Desk → Desk → Result ℕ Full → Type 0
Asked a d e (Ok n) =
    (is_full d ≡ false) × (n ≡ d.next) × (waiting_of e ≡ waiting_of d ++ record { ticket = n; request = a } ∷ []) × (e.next ≡ n + 1)
Asked a d e (Err f) = (is_full d ≡ true) × (e ≡ d)

-- does a ticket wait
unfoldable pub waits : ℕ → List Ticketed → Bool
waits n [] = false
waits n (w ∷ ws) = w.ticket == n || waits n ws

-- where it stands, or past the last
unfoldable pub first_at : ℕ → List Ticketed → ℕ
first_at n [] = 0
first_at n (w ∷ ws) = pick (w.ticket == n) 0 (suc (first_at n ws))

-- the row without it
unfoldable pub without : ℕ → List Ticketed → List Ticketed
without n [] = []
without n (w ∷ ws) = pick (w.ticket == n) ws (w ∷ without n ws)

-- the oldest is served, and only it: it is answered under its own number, and the rest wait on
abbrev pub Serves : Plan → Interlocking → Occupancy → Positions → List Ticketed → List Ticketed → Interlocking → Option Served → Type 0
Serves p h s t [] rest left None = (rest ≡ []) × (left ≡ h)
Serves p h s t [] rest left (Some v) = ⊥
Serves p h s t (w ∷ ws) rest left None = ⊥
Serves p h s t (w ∷ ws) rest left (Some v) = (rest ≡ ws) × (v.ticket ≡ w.ticket) × Says p h s t w.request left v.answer

-- all requests in their order, one after the other
unfoldable pub served_all : Plan → Occupancy → Positions → List Ticketed → State → State
served_all p s t [] h = h
served_all p s t (w ∷ ws) h = served_all p s t ws (acts p h s t w.request)

-- and the answer to each
unfoldable pub answers : Plan → Occupancy → Positions → List Ticketed → State → List Served
answers p s t [] h = []
answers p s t (w ∷ ws) h =
    record { ticket = w.ticket; answer = record { request = w.request; done = does p h s t w.request } } ∷ answers p s t ws (acts p h s t w.request)

-- tickets in rising order, from one number on and below another: none stands twice
pub data Rising : ℕ → List Ticketed → ℕ → Type 0 where
  end : (low high : ℕ) → low ≤ high → Rising low [] high
  then : (low high : ℕ) (w : Ticketed) (ws : List Ticketed) → low ≤ w.ticket → Rising (suc w.ticket) ws high → Rising low (w ∷ ws) high

-- and so it stays: behind one that is asked, without one that is withdrawn, and when the oldest is served
pub record KeepsOrder : Type 0 where
  pub asked : (low : ℕ) (ws : List Ticketed) (next : ℕ) (a : Request) → Rising low ws next → Rising low (ws ++ record { ticket = next; request = a } ∷ []) (next + 1)
  pub withdrawn : (low n : ℕ) (ws : List Ticketed) (next : ℕ) → Rising low ws next → Rising low (without n ws) next
  pub served : (low : ℕ) (w : Ticketed) (ws : List Ticketed) (next : ℕ) → Rising low (w ∷ ws) next → Rising low ws next
