-- Noting what is reported (o), whatever it is, keeps what is safe: a route that is entered too early only has less that is kept of it.
use Rattle.std.proofs.Common.{◌≡◌, ℕ, ◌<◌, Bool, true, false, length, arith}
use Rattle.plan.specs.Plan.{Plan, Positions, route, among}
use Rattle.interlocking.specs.declared.Stage.{Stage}
use Rattle.interlocking.specs.declared.Stage.TheVariants.{Used, Falling}
use Rattle.interlocking.specs.State.{is_idle, State, Occupancy}
use Rattle.occupancy.specs.Notes.{entering, notes}
use Rattle.model.specs.World.{Train, occupied}
use Rattle.safety.specs.Safe.{is_waiting, is_cleared, OnRoute, Kept, Run, Books, Unmarked, Sure}
use Rattle.safety.proofs.Carry.{route_moves, run_moves}

-- the stage that is noted: idle, waiting, cleared or falling only if it was
entered_busy : (p : Plan) (o : Occupancy) (r : ℕ) (g : Stage) → is_idle (entering p o r g) ≡ is_idle g
entered_busy p o r g = grind arith

pub entered_waiting : (p : Plan) (o : Occupancy) (r : ℕ) (g : Stage) → is_waiting (entering p o r g) ≡ true → is_waiting g ≡ true
entered_waiting p o r g h = grind arith

entered_cleared : (p : Plan) (o : Occupancy) (r : ℕ) (g : Stage) → is_cleared (entering p o r g) ≡ is_cleared g
entered_cleared p o r g = grind arith

entered_falling : (p : Plan) (o : Occupancy) (r : ℕ) (g : Stage) (m : ℕ) → entering p o r g ≡ Falling m → g ≡ Falling m
entered_falling p o r g m h = grind arith

pub notes_used : (p : Plan) (h : State) (o : Occupancy) (r : ℕ) → h.stage r ≡ Used → (notes p h o).stage r ≡ h.stage r
unfolding notes
notes_used p h o r e = grind arith

pub notes_kept : (p : Plan) (h : State) (s o : Occupancy) (t : Positions) → Kept p h s t → Kept p (notes p h o) s t
unfolding notes
notes_kept p h s o t k = record {
  still = k.still;
  owner = λ x r e. let old = k.owner x r e in let same = entered_busy p o r (h.stage r) in (old.0, old.1, grind arith);
  waits = λ r l w. k.waits r l (entered_waiting p o r (h.stage r) w);
  wants = λ r l w. let same = entered_busy p o r (h.stage r) in k.wants r l (grind arith);
  lies = λ r l w. let same = entered_cleared p o r (h.stage r) in k.lies r l (grind arith);
}

pub notes_on : (p : Plan) (h : State) (s o : Occupancy) (t : Positions) (up : Bool) (x r k : ℕ) → OnRoute p h s t up x r k → OnRoute p (notes p h o) s t up x r k
unfolding notes
notes_on p h s o t up x r k q = route_moves p h (notes p h o) s s t up x r k q (notes_used p h o r q.in_use) (λ j a b l. l) (λ j a b l v. v)

pub notes_run : (p : Plan) (n : ℕ) (h : State) (o : Occupancy) (t : Positions) (ts : ℕ → Train) → Run p n h t ts → Run p n (notes p h o) t ts
notes_run p n h o t ts run = run_moves p n h (notes p h o) t ts run (λ up x r k c q. notes_on p h (occupied n ts) o t up x r k q)

pub notes_sure : (p : Plan) (n : ℕ) (h : State) (o : Occupancy) (t : Positions) (ts : ℕ → Train) → Sure p n h t ts → Sure p n (notes p h o) t ts
notes_sure p n h o t ts k = (notes_kept p h (occupied n ts) o t k.0, notes_run p n h o t ts k.1)

-- whatever was reported before (b)
pub notes_books : (p : Plan) (h : State) (b o : Occupancy) → Books p h b → Books p (notes p h o) o
unfolding notes
notes_books p h b o k = record {
  named = λ r e. let same = entered_busy p o r (h.stage r) in k.named r (grind arith);
  soon = λ r m e. k.soon r m (entered_falling p o r (h.stage r) m e);
  marked = λ x r e c. grind arith;
}

-- if of a route that still waits, nothing in its path is reported occupied
pub notes_unmarked : (p : Plan) (h : State) (o : Occupancy) → Unmarked p h →
    ((r : ℕ) → r < length p.routes → is_waiting (entering p o r (h.stage r)) ≡ true → (x : ℕ) → among x (route p r).path ≡ true → o x ≡ false) → Unmarked p (notes p h o)
unfolding notes
notes_unmarked p h o k none = record {
  clean = λ x e. let old = k.clean x e in grind arith;
  fresh = λ r l w x c. let old = k.fresh r l (entered_waiting p o r (h.stage r) w) x c in let reported = none r l w x c in grind arith;
}
