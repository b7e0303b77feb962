-- What lies ahead of trains, and the rest of what is kept, carried from one state to another.
use Rattle.std.proofs.Common.{◌≡◌, ℕ, suc, ◌<◌, ◌≤◌, Bool, true, false, List, length, get_or, sym, ◌∙◌, arith}
use native.Mathlib.Nat.{suc_inj}
use Rattle.plan.specs.Plan.{Plan, Positions, route, met}
use Rattle.interlocking.specs.declared.Stage.{Stage}
use Rattle.interlocking.specs.declared.Stage.TheVariants.{Idle, Falling}
use Rattle.interlocking.specs.State.{is_idle, State, Occupancy}
use Rattle.model.specs.World.{Train, occupied}
use Rattle.safety.specs.Safe.{is_waiting, is_cleared, Rest, Mine, OnRoute, Ahead, at_signal, at_end, on_route, Kept, Run, Books, Unmarked}
use Rattle.safety.proofs.Tests.{either_way}
use Rattle.safety.proofs.Lists.{front_among}
use Rattle.safety.proofs.Occupied.{occupied_at}
use Rattle.safety.proofs.Stages.{waiting_unused, stage_else, unlocked_else, staged, let_go}

-- THE REST OF A PATH, where what is the route's own stays so and what is vacant stays so
pub rest_moves : (p : Plan) (path : List ℕ) (mine mine' : ℕ → Type 0) (s s' : Occupancy) (t : Positions) (up : Bool) (k : ℕ) → k < length path → Rest p path mine s t up k →
    ((j : ℕ) → k ≤ j → j < length path → mine (get_or path j 0) → mine' (get_or path j 0)) →
    ((j : ℕ) → k < j → j < length path → mine (get_or path j 0) → s (get_or path j 0) ≡ false → s' (get_or path j 0) ≡ false) → Rest p path mine' s' t up k
rest_moves p path mine mine' s s' t up k inside o f g = record {
  own = f k (omega arith) inside o.own;
  vacant = λ j a b. let v = o.vacant j a b in (f j (omega arith) b v.0, g j a b v.0 v.1);
  joins = o.joins;
}

-- a used route, where its stage and the locks of its rest stay, and what is vacant of it stays so
pub route_moves : (p : Plan) (h h' : State) (s s' : Occupancy) (t : Positions) (up : Bool) (x r k : ℕ) → OnRoute p h s t up x r k → h'.stage r ≡ h.stage r →
    ((j : ℕ) → k ≤ j → j < length (route p r).path → h.lock (get_or (route p r).path j 0) ≡ suc r → h'.lock (get_or (route p r).path j 0) ≡ suc r) →
    ((j : ℕ) → k < j → j < length (route p r).path → h.lock (get_or (route p r).path j 0) ≡ suc r → s (get_or (route p r).path j 0) ≡ false → s' (get_or (route p r).path j 0) ≡ false) →
    OnRoute p h' s' t up x r k
route_moves p h h' s s' t up x r k o e f g = record {
  there = o.there;
  in_use = e ∙ o.in_use;
  way = o.way;
  inside = o.inside;
  here = o.here;
  rest = rest_moves p (route p r).path (Mine h r) (Mine h' r) s s' t up k (let i = o.inside in omega arith) o.rest f g;
}

pub ahead_moves : (p : Plan) (h h' : State) (s s' : Occupancy) (t : Positions) (up : Bool) (x : ℕ) →
    ((r k : ℕ) → OnRoute p h s t up x r k → OnRoute p h' s' t up x r k) → Ahead p h s t up x → Ahead p h' s' t up x
ahead_moves p h h' s s' t up x f (at_signal e) = at_signal e
ahead_moves p h h' s s' t up x f (at_end e) = at_end e
ahead_moves p h h' s s' t up x f (on_route r k o) = on_route r k (f r k o)

-- the trains where they are, and a state that keeps what lies ahead of them
pub run_moves : (p : Plan) (n : ℕ) (h h' : State) (t : Positions) (ts : ℕ → Train) → Run p n h t ts →
    ((up : Bool) (x r k : ℕ) → occupied n ts x ≡ true → OnRoute p h (occupied n ts) t up x r k → OnRoute p h' (occupied n ts) t up x r k) → Run p n h' t ts
run_moves p n h h' t ts run f = record {
  inside = run.inside;
  once = run.once;
  apart = run.apart;
  hangs = run.hangs;
  ahead = λ i x xs a b. ahead_moves p h h' (occupied n ts) (occupied n ts) t (ts i).up x
      (λ r k o. f (ts i).up x r k (occupied_at n ts x i a (front_among (ts i).body x xs b)) o) (run.ahead i x xs a b);
}

-- A WAITING ROUTE COMES TO ANOTHER STAGE: any but idle, if its points lie as it needs where the stage says so
pub stage_kept : (p : Plan) (h : State) (s : Occupancy) (t : Positions) (r : ℕ) (g : Stage) → Kept p h s t → is_waiting (h.stage r) ≡ true → is_idle g ≡ false →
    (r < length p.routes → is_cleared g ≡ true → met t (route p r).needs ≡ true) → Kept p (staged h r g) s t
stage_kept p h s t r g k w busy m = record {
  still = k.still;
  owner = λ x r' a. let old = k.owner x r' a in (old.0, old.1, grind arith);
  waits = λ r' a b. k.waits r' a (grind arith);
  wants = λ r' a b. k.wants r' a (grind arith);
  lies = λ r' a b. let old = k.lies r' a in grind (arith, old, m);
}

pub stage_run : (p : Plan) (n : ℕ) (h : State) (t : Positions) (ts : ℕ → Train) (r : ℕ) (g : Stage) → Run p n h t ts → is_waiting (h.stage r) ≡ true → Run p n (staged h r g) t ts
stage_run p n h t ts r g run w = run_moves p n h (staged h r g) t ts run
    (λ up x r' k c o. route_moves p h (staged h r g) (occupied n ts) (occupied n ts) t up x r' k o
    (stage_else h.stage r g r' (λ e. waiting_unused (h.stage r') (rw e w) o.in_use)) (λ j a b l. l) (λ j a b l v. v))

pub stage_books : (p : Plan) (h : State) (o : Occupancy) (r : ℕ) (g : Stage) → Books p h o → is_waiting (h.stage r) ≡ true → ((m : ℕ) → g ≡ Falling m → m ≤ p.time) → Books p (staged h r g) o
stage_books p h o r g b w less = record {
  named = λ r' e. b.named r' (grind arith);
  soon = λ r' m e. let old = b.soon r' m in let new = less m in grind (arith, old, new);
  marked = b.marked;
}

pub stage_unmarked : (p : Plan) (h : State) (r : ℕ) (g : Stage) → Unmarked p h → is_waiting (h.stage r) ≡ true → Unmarked p (staged h r g)
stage_unmarked p h r g b w = record { clean = b.clean; fresh = λ r' a c. b.fresh r' a (grind arith) }

-- A ROUTE IS LET GO that no train is on with some of it ahead
pub let_go_kept : (p : Plan) (h : State) (s : Occupancy) (t : Positions) (r : ℕ) (f : ℕ → Bool) → Kept p h s t → Kept p (let_go h r f) s t
let_go_kept p h s t r f k = record {
  still = k.still;
  owner = λ x r' a. let old = k.owner x r' (grind arith) in (old.0, old.1, grind arith);
  waits = λ r' a b x c. let old = k.waits r' a (grind arith) x c in grind (arith, old);
  wants = λ r' a b. k.wants r' a (grind arith);
  lies = λ r' a b. k.lies r' a (grind arith);
}

pub let_go_run : (p : Plan) (n : ℕ) (h : State) (t : Positions) (ts : ℕ → Train) (r : ℕ) (f : ℕ → Bool) → Run p n h t ts →
    ((up : Bool) (x k : ℕ) → occupied n ts x ≡ true → OnRoute p h (occupied n ts) t up x r k → ⊥) → Run p n (let_go h r f) t ts
let_go_run p n h t ts r f run off = run_moves p n h (let_go h r f) t ts run
    (λ up x r' k c o. either_way r' r
    (λ e. absurd (off up x k c (rw e at o)))
    (λ e. route_moves p h (let_go h r f) (occupied n ts) (occupied n ts) t up x r' k o (stage_else h.stage r Idle r' e)
    (λ j a b l. unlocked_else h r (get_or (route p r').path j 0) (λ z. e (suc_inj (sym l ∙ z))) ∙ l) (λ j a b l v. v)))

pub let_go_books : (p : Plan) (h : State) (o : Occupancy) (r : ℕ) (f : ℕ → Bool) → Books p h o → ((x : ℕ) → (h.lock x ≡ suc r → ⊥) → f x ≡ h.passed x) → Books p (let_go h r f) o
let_go_books p h o r f b else = record {
  named = λ r' e. b.named r' (grind arith);
  soon = λ r' m e. b.soon r' m (grind arith);
  marked = λ x r' a c. let old = b.marked x r' in let other = else x in grind (arith, old, other);
}

pub let_go_unmarked : (p : Plan) (h : State) (r : ℕ) (f : ℕ → Bool) → Unmarked p h →
    ((x : ℕ) → h.lock x ≡ suc r → f x ≡ false) → ((x : ℕ) → (h.lock x ≡ suc r → ⊥) → f x ≡ h.passed x) → Unmarked p (let_go h r f)
let_go_unmarked p h r f b own else = record {
  clean = λ x a. let old = b.clean x in grind (arith, old, own, else);
  fresh = λ r' a c x d. let old = b.fresh r' a (grind arith) x d in grind (arith, old, own, else);
}
