-- Taking a route back keeps what is safe.
use Rattle.std.proofs.Common.{◌≡◌, ℕ, suc, ◌<◌, Bool, true, false, not, ◌&&◌, ◌||◌, eqb, List, [], ◌∷◌, length, refl, arith}
use Rattle.plan.specs.Plan.{Plan, Positions, route, among}
use Rattle.interlocking.specs.declared.Stage.{Stage}
use Rattle.interlocking.specs.declared.Stage.TheVariants.{Idle, Set, Shown, Used, Falling}
use Rattle.interlocking.specs.State.{is_used, can_fall, State, Occupancy, all_vacant, does, taken_back, done}
use Rattle.interlocking.specs.declared.Request.TheVariants.{Back}
use Rattle.model.specs.World.{Train, occupied}
use Rattle.safety.specs.Safe.{is_waiting, is_cleared, Kept, Books, Unmarked, Covers, Sure}
use Rattle.safety.proofs.Tests.{clash}
use Rattle.safety.proofs.Lists.{among_at, among_head, among_tail}
use Rattle.safety.proofs.Stages.{waiting_unused, staged, let_go}
use Rattle.safety.proofs.Carry.{stage_kept, stage_run, stage_books, stage_unmarked, let_go_kept, let_go_run, let_go_books, let_go_unmarked}

-- sections all of which are vacant, read at one of them, and from all of them
pub all_vacant_at : (s : Occupancy) (xs : List ℕ) (x : ℕ) → all_vacant s xs ≡ true → among x xs ≡ true → s x ≡ false
unfolding among all_vacant
all_vacant_at s [] x a b = grind arith
all_vacant_at s (y ∷ ys) x a b = let ih = all_vacant_at s ys x in grind (arith, ih)

pub vacant_all : (s : Occupancy) (xs : List ℕ) → ((x : ℕ) → among x xs ≡ true → s x ≡ false) → all_vacant s xs ≡ true
unfolding all_vacant
vacant_all s [] h = refl
vacant_all s (x ∷ xs) h = let a = h x (among_head x xs) in let ih = vacant_all s xs (λ y a. h y (among_tail y x xs a)) in grind arith

-- a route that may be entered may fall from any time
pub falls_kept : (p : Plan) (h : State) (s : Occupancy) (t : Positions) (r m : ℕ) → Kept p h s t → is_waiting (h.stage r) ≡ true → is_cleared (h.stage r) ≡ true → Kept p (staged h r (Falling m)) s t
falls_kept p h s t r m k w c = stage_kept p h s t r (Falling m) k w refl (λ a b. k.lies r a c)

pub falls : (p : Plan) (n : ℕ) (h : State) (t : Positions) (ts : ℕ → Train) (r m : ℕ) → is_waiting (h.stage r) ≡ true → is_cleared (h.stage r) ≡ true →
    Sure p n h t ts → Sure p n (staged h r (Falling m)) t ts
falls p n h t ts r m w c k = (falls_kept p h (occupied n ts) t r m k.0 w c, stage_run p n h t ts r (Falling m) k.1 w)

-- a waiting route may be let go, whatever has been passed (f)
pub waiting_goes : (p : Plan) (n : ℕ) (h : State) (t : Positions) (ts : ℕ → Train) (r : ℕ) (f : ℕ → Bool) → is_waiting (h.stage r) ≡ true → Sure p n h t ts → Sure p n (let_go h r f) t ts
waiting_goes p n h t ts r f w k =
    (let_go_kept p h (occupied n ts) t r f k.0, let_go_run p n h t ts r f k.1 (λ up x j b q. waiting_unused (h.stage r) w q.in_use))

pub waiting_unmarked : (p : Plan) (h : State) (s : Occupancy) (t : Positions) (r : ℕ) → r < length p.routes → is_waiting (h.stage r) ≡ true → Kept p h s t → Unmarked p h → Unmarked p (let_go h r h.passed)
waiting_unmarked p h s t r l w k b = let_go_unmarked p h r h.passed b (λ x e. b.fresh r l w x (k.owner x r e).1) (λ x e. refl)

-- a used route may be let go if no train is really in its path
pub used_goes : (p : Plan) (n : ℕ) (h : State) (t : Positions) (ts : ℕ → Train) (r : ℕ) (f : ℕ → Bool) → ((x : ℕ) → among x (route p r).path ≡ true → occupied n ts x ≡ false) →
    Sure p n h t ts → Sure p n (let_go h r f) t ts
used_goes p n h t ts r f none k = (
  let_go_kept p h (occupied n ts) t r f k.0,
  let_go_run p n h t ts r f k.1 (λ up x j b q. clash (occupied n ts x) b
      (none x (rw (← q.here) (among_at (route p r).path j (let i = q.inside in omega arith))))),
)

-- as it is asked, at each stage
back_at : (p : Plan) (n : ℕ) (h : State) (o : Occupancy) (t : Positions) (ts : ℕ → Train) (r : ℕ) → Covers o (occupied n ts) → Sure p n h t ts →
    (g : Stage) → h.stage r ≡ g → (can_fall g || (is_used g && all_vacant o (route p r).path)) ≡ true → Sure p n (taken_back p.time h r g) t ts
back_at p n h o t ts r covers k Idle e a = absurd (grind arith)
back_at p n h o t ts r covers k Set e a = waiting_goes p n h t ts r h.passed (rw e) k
back_at p n h o t ts r covers k Shown e a = falls p n h t ts r p.time (rw e) (rw e) k
back_at p n h o t ts r covers k Used e a =
    used_goes p n h t ts r (λ x. not (eqb (h.lock x) (suc r)) && h.passed x) (λ x b. let f = all_vacant_at o (route p r).path x a b in let c = covers x in grind arith) k
back_at p n h o t ts r covers k (Falling m) e a = absurd (grind arith)

pub back_sure : (p : Plan) (n : ℕ) (h : State) (o : Occupancy) (t u : Positions) (ts : ℕ → Train) (r : ℕ) → Covers o (occupied n ts) → Sure p n h t ts →
    does p h o u (Back r) ≡ true → Sure p n (done p h (Back r)) t ts
unfolding does done
back_sure p n h o t u ts r covers k ok = back_at p n h o t ts r covers k (h.stage r) refl (grind arith)

books_at : (p : Plan) (h : State) (o : Occupancy) (r : ℕ) → Books p h o → (g : Stage) → h.stage r ≡ g → Books p (taken_back p.time h r g) o
books_at p h o r b Idle e = b
books_at p h o r b Set e = let_go_books p h o r h.passed b (λ x f. refl)
books_at p h o r b Shown e = stage_books p h o r (Falling p.time) b (rw e) (λ m q. grind arith)
books_at p h o r b Used e = let_go_books p h o r (λ x. not (eqb (h.lock x) (suc r)) && h.passed x) b (λ x f. grind arith)
books_at p h o r b (Falling m) e = b

pub back_books : (p : Plan) (h : State) (o : Occupancy) (r : ℕ) → Books p h o → Books p (done p h (Back r)) o
unfolding done
back_books p h o r b = books_at p h o r b (h.stage r) refl

unmarked_at : (p : Plan) (h : State) (s : Occupancy) (t : Positions) (r : ℕ) → r < length p.routes → Kept p h s t → Unmarked p h → (g : Stage) → h.stage r ≡ g → Unmarked p (taken_back p.time h r g)
unmarked_at p h s t r l k b Idle e = b
unmarked_at p h s t r l k b Set e = waiting_unmarked p h s t r l (rw e) k b
unmarked_at p h s t r l k b Shown e = stage_unmarked p h r (Falling p.time) b (rw e)
unmarked_at p h s t r l k b Used e = let_go_unmarked p h r (λ x. not (eqb (h.lock x) (suc r)) && h.passed x) b (λ x f. grind arith) (λ x f. grind arith)
unmarked_at p h s t r l k b (Falling m) e = b

pub back_unmarked : (p : Plan) (h : State) (s o : Occupancy) (t u : Positions) (r : ℕ) → Kept p h s t → Unmarked p h → does p h o u (Back r) ≡ true → Unmarked p (done p h (Back r))
unfolding does done
back_unmarked p h s o t u r k b ok = unmarked_at p h s t r (grind arith) k b (h.stage r) refl
