-- Trains that keep to signals, points that turn when they like, and all that can happen. Assumes nothing: these are definitions.
use Rattle.std.specs.Prelude.{◌≡◌, ℕ, ◌≤◌, Bool, true, not, ◌&&◌, ◌||◌, List, [], ◌∷◌, length, ◌==◌, nat_le, nat_lt}
use Rattle.plan.specs.Plan.{pick, Plan, Positions, beyond, last_of}
use Rattle.model.specs.declared.Event.{Event}
use Rattle.model.specs.declared.Event.TheVariants.{Asked, Turns, Goes, Draws, Reverses, Comes, Leaves}
use Rattle.interlocking.specs.State.{State, acts, at_rest}
use Rattle.occupancy.specs.Notes.{notes}
pub use Rattle.trains.specs.Trains.{Train}
unfoldable pub use Rattle.trains.specs.Trains.{occupied, front, without_last, reversed, empty, open_here, with_train}

-- the interlocking, how the points really lie, and the trains by their numbers
pub record World : Type 0 where
  pub interlocking : State
  pub lies : Positions
  pub trains : ℕ → Train

-- can it happen, trains keeping to signals: a front passes a signal only if a route from there is open; a train turns round only at a signal;
-- one comes in at an edge that is free and not locked, its way in; one leaves that stands in one section with outside beyond its front
unfoldable pub can : Plan → ℕ → World → Event → Bool
can p n w (Asked a) = true
can p n w (Turns q) = nat_lt q p.points
can p n w (Goes i) =
    nat_lt i n && (not (empty (w.trains i).body) && (nat_lt (beyond p w.lies (w.trains i).up (front (w.trains i).body)) p.sections
    && (not (p.signal (w.trains i).up (front (w.trains i).body)) || open_here p w.interlocking (w.trains i).up (front (w.trains i).body) (length p.routes))))
can p n w (Draws i) = nat_lt i n && not (empty (without_last (w.trains i).body))
can p n w (Reverses i) = nat_lt i n && (not (empty (w.trains i).body) && p.signal (not (w.trains i).up) (last_of 0 (w.trains i).body))
can p n w (Comes i up x) =
    nat_lt i n && (empty (w.trains i).body && (nat_lt x p.sections && (p.edge x && (p.signal up x && (w.interlocking.lock x == 0 && not (occupied n w.trains x))))))
can p n w (Leaves i) =
    nat_lt i n && (not (empty (w.trains i).body) && (empty (without_last (w.trains i).body) && nat_le p.sections (beyond p w.lies (w.trains i).up (front (w.trains i).body))))

unfoldable pub trains_after : Plan → World → Event → ℕ → Train
trains_after p w (Asked a) = w.trains
trains_after p w (Turns q) = w.trains
trains_after p w (Goes i) =
    with_train w.trains i (w.trains i).up (beyond p w.lies (w.trains i).up (front (w.trains i).body) ∷ (w.trains i).body)
trains_after p w (Draws i) = with_train w.trains i (w.trains i).up (without_last (w.trains i).body)
trains_after p w (Reverses i) = with_train w.trains i (not (w.trains i).up) (reversed (w.trains i).body)
trains_after p w (Comes i up x) = with_train w.trains i up (x ∷ [])
trains_after p w (Leaves i) = with_train w.trains i (w.trains i).up []

unfoldable pub lies_after : World → Event → Positions
lies_after w (Asked a) = w.lies
lies_after w (Turns q) = λ k. pick (k == q) (w.interlocking.wanted k) (w.lies k)
lies_after w (Goes i) = w.lies
lies_after w (Draws i) = w.lies
lies_after w (Reverses i) = w.lies
lies_after w (Comes i up x) = w.lies
lies_after w (Leaves i) = w.lies

unfoldable pub state_after : Plan → ℕ → World → Event → State
state_after p n w (Asked a) = acts p w.interlocking (occupied n w.trains) w.lies a
state_after p n w (Turns q) = w.interlocking
state_after p n w (Goes i) = notes p w.interlocking (occupied n (trains_after p w (Goes i)))
state_after p n w (Draws i) = notes p w.interlocking (occupied n (trains_after p w (Draws i)))
state_after p n w (Reverses i) = w.interlocking
state_after p n w (Comes i up x) = w.interlocking
state_after p n w (Leaves i) = w.interlocking

-- no train is anywhere, the interlocking is at rest, and the points lie as they lie
unfoldable pub empty_station : Positions → World
empty_station t = record { interlocking = at_rest; lies = t; trains = λ i. record { up = true; body = [] } }

-- one step
abbrev pub next : Plan → ℕ → World → Event → World
next p n w h = record { interlocking = state_after p n w h; lies = lies_after w h; trains = trains_after p w h }

-- after a row of events, the latest written first
unfoldable pub after : Plan → ℕ → Positions → List Event → World
after p n t [] = empty_station t
after p n t (h ∷ hs) = next p n (after p n t hs) h

-- each event of a row could happen when it did
unfoldable pub Lawful : Plan → ℕ → Positions → List Event → Type 0
Lawful p n t [] = 0 ≤ n
Lawful p n t (h ∷ hs) = (can p n (after p n t hs) h ≡ true) × Lawful p n t hs
