-- A tick keeps what is safe.
use Rattle.std.proofs.Common.{◌≡◌, ℕ, zero, suc, ◌<◌, ◌≤◌, length, refl, arith}
use Rattle.plan.specs.Plan.{Plan, Positions}
use Rattle.interlocking.specs.declared.Stage.{Stage}
use Rattle.interlocking.specs.declared.Stage.TheVariants.{Idle, Set, Shown, Used, Falling}
use Rattle.interlocking.specs.State.{State, Occupancy, fallen, all_fall, done}
use Rattle.interlocking.specs.declared.Request.TheVariants.{Tick}
use Rattle.model.specs.World.{Train}
use Rattle.safety.specs.Safe.{Kept, Books, Unmarked, Sure}
use Rattle.safety.proofs.Carry.{stage_books, stage_unmarked, let_go_kept, let_go_books}
use Rattle.safety.proofs.Back.{falls_kept, falls, waiting_goes, waiting_unmarked}

-- one route: one that is falling falls by one or is let go, any other stays
fallen_kept : (p : Plan) (h : State) (s : Occupancy) (t : Positions) (r : ℕ) → Kept p h s t → (g : Stage) → h.stage r ≡ g → Kept p (fallen h r g) s t
fallen_kept p h s t r k Idle e = k
fallen_kept p h s t r k Set e = k
fallen_kept p h s t r k Shown e = k
fallen_kept p h s t r k Used e = k
fallen_kept p h s t r k (Falling zero) e = let_go_kept p h s t r h.passed k
fallen_kept p h s t r k (Falling (suc m)) e = falls_kept p h s t r m k (rw e) (rw e)

fallen_sure : (p : Plan) (n : ℕ) (h : State) (t : Positions) (ts : ℕ → Train) (r : ℕ) → Sure p n h t ts → (g : Stage) → h.stage r ≡ g → Sure p n (fallen h r g) t ts
fallen_sure p n h t ts r k Idle e = k
fallen_sure p n h t ts r k Set e = k
fallen_sure p n h t ts r k Shown e = k
fallen_sure p n h t ts r k Used e = k
fallen_sure p n h t ts r k (Falling zero) e = waiting_goes p n h t ts r h.passed (rw e) k
fallen_sure p n h t ts r k (Falling (suc m)) e = falls p n h t ts r m (rw e) (rw e) k

fallen_books : (p : Plan) (h : State) (o : Occupancy) (r : ℕ) → Books p h o → (g : Stage) → h.stage r ≡ g → Books p (fallen h r g) o
fallen_books p h o r b Idle e = b
fallen_books p h o r b Set e = b
fallen_books p h o r b Shown e = b
fallen_books p h o r b Used e = b
fallen_books p h o r b (Falling zero) e = let_go_books p h o r h.passed b (λ x f. refl)
fallen_books p h o r b (Falling (suc m)) e = stage_books p h o r (Falling m) b (rw e) (λ i q. let old = b.soon r (suc m) e in grind arith)

fallen_unmarked : (p : Plan) (h : State) (s : Occupancy) (t : Positions) (r : ℕ) → r < length p.routes → Kept p h s t → Unmarked p h → (g : Stage) → h.stage r ≡ g → Unmarked p (fallen h r g)
fallen_unmarked p h s t r l k b Idle e = b
fallen_unmarked p h s t r l k b Set e = b
fallen_unmarked p h s t r l k b Shown e = b
fallen_unmarked p h s t r l k b Used e = b
fallen_unmarked p h s t r l k b (Falling zero) e = waiting_unmarked p h s t r l (rw e) k b
fallen_unmarked p h s t r l k b (Falling (suc m)) e = stage_unmarked p h r (Falling m) b (rw e)

-- all of them, one after another
all_fall_sure : (p : Plan) (n : ℕ) (h : State) (t : Positions) (ts : ℕ → Train) (r : ℕ) → Sure p n h t ts → Sure p n (all_fall r h) t ts
unfolding all_fall
all_fall_sure p n h t ts zero k = k
all_fall_sure p n h t ts (suc r) k = fallen_sure p n (all_fall r h) t ts r (all_fall_sure p n h t ts r k) ((all_fall r h).stage r) refl

all_fall_books : (p : Plan) (h : State) (o : Occupancy) (r : ℕ) → Books p h o → Books p (all_fall r h) o
unfolding all_fall
all_fall_books p h o zero b = b
all_fall_books p h o (suc r) b = fallen_books p (all_fall r h) o r (all_fall_books p h o r b) ((all_fall r h).stage r) refl

all_fall_unmarked : (p : Plan) (h : State) (s : Occupancy) (t : Positions) (r : ℕ) → r ≤ length p.routes → Kept p h s t → Unmarked p h → Kept p (all_fall r h) s t × Unmarked p (all_fall r h)
unfolding all_fall
all_fall_unmarked p h s t zero l k b = (k, b)
all_fall_unmarked p h s t (suc r) l k b =
    let o = all_fall_unmarked p h s t r (omega arith) k b in
    (fallen_kept p (all_fall r h) s t r o.0 ((all_fall r h).stage r) refl, fallen_unmarked p (all_fall r h) s t r l o.0 o.1 ((all_fall r h).stage r) refl)

pub tick_sure : (p : Plan) (n : ℕ) (h : State) (t : Positions) (ts : ℕ → Train) → Sure p n h t ts → Sure p n (done p h Tick) t ts
unfolding done
tick_sure p n h t ts k = all_fall_sure p n h t ts (length p.routes) k

pub tick_books : (p : Plan) (h : State) (o : Occupancy) → Books p h o → Books p (done p h Tick) o
unfolding done
tick_books p h o b = all_fall_books p h o (length p.routes) b

pub tick_unmarked : (p : Plan) (h : State) (s : Occupancy) (t : Positions) → Kept p h s t → Unmarked p h → Unmarked p (done p h Tick)
unfolding done
tick_unmarked p h s t k b = (all_fall_unmarked p h s t (length p.routes) (omega arith) k b).1
