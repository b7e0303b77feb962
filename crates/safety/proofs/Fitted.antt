-- There is room for a plan that is sized: what is cut off beyond 64 sections, 64 routes and 32 points is nothing that it speaks of.
use Rattle.std.proofs.Common.{◌≡◌, ℕ, zero, suc, ◌<◌, ◌≤◌, true, false, length, get_or, refl, arith}
use Rattle.plan.specs.Plan.{Plan, Positions, route, among}
use Rattle.soundness.specs.Sound.{Fit, Sound}
use Rattle.interlocking.specs.State.{State, Occupancy, fitted}
use Rattle.model.specs.World.{Train, occupied}
use Rattle.safety.specs.Promise.{Sized, Same, InRoom, SameInRoom}
use Rattle.safety.specs.Safe.{Kept, Run, Books, Unmarked, Sure}
use Rattle.safety.proofs.Lists.{among_place}
use Rattle.safety.proofs.Needs.{met_agree}
use Rattle.safety.proofs.Ways.{leads_inside}
use Rattle.safety.proofs.Carry.{route_moves, run_moves}

-- what is within the room stays
pub fitted_lock : (h : State) (x : ℕ) → x < 64 → (fitted h).lock x ≡ h.lock x
unfolding fitted
fitted_lock h x l = grind arith

pub fitted_stage : (h : State) (r : ℕ) → r < 64 → (fitted h).stage r ≡ h.stage r
unfolding fitted
fitted_stage h r l = grind arith

pub fitted_wanted : (h : State) (q : ℕ) → q < 32 → (fitted h).wanted q ≡ h.wanted q
unfolding fitted
fitted_wanted h q l = grind arith

pub fitted_below : (h : State) → SameInRoom h (fitted h)
unfolding fitted
fitted_below h = record { lock = λ x l. grind arith; passed = λ x l. grind arith; stage = λ r l. grind arith; wanted = λ q l. grind arith }

pub fitted_in_room : (h : State) → InRoom (fitted h)
unfolding fitted
fitted_in_room h = record { lock = λ x l. grind arith; passed = λ x l. grind arith; stage = λ r l. grind arith; wanted = λ q l. grind arith }

-- a section in a path, and one that is locked, is within the room
path_inside : (p : Plan) (r x : ℕ) → Sound p → r < length p.routes → among x (route p r).path ≡ true → x < p.sections
path_inside p r x snd l a =
    let fit : Fit p (route p r) = snd.routes_fit r l in
    let way = fit.meets in
    let at = among_place x (route p r).path a in
    rw (← at.2) (leads_inside p way.0 (route p r).up (route p r).begin (route p r).path at.0 (fit.leads way.0 way.1) at.1)

lock_inside : (p : Plan) (h : State) (s : Occupancy) (t : Positions) (x r : ℕ) → Sized p → Sound p → Kept p h s t → h.lock x ≡ suc r → x < 64
lock_inside p h s t x r sz snd k e = let o = k.owner x r e in let l = path_inside p r x snd o.0 o.1 in let m = sz.sections in omega arith

fitted_locked : (h : State) (x r : ℕ) → (fitted h).lock x ≡ suc r → h.lock x ≡ suc r
unfolding fitted
fitted_locked h x r e = grind arith

pub fitted_kept : (p : Plan) (h : State) (s : Occupancy) (t : Positions) → Sized p → Sound p → Kept p h s t → Kept p (fitted h) s t
fitted_kept p h s t sz snd k = record {
  still = λ q l e. rw (fitted_wanted h q (points q l)) (k.still q l e);
  owner = λ x r e. let old = k.owner x r (fitted_locked h x r e) in (old.0, old.1, rw (fitted_stage h r (routes r old.0)) old.2);
  waits = λ r l w x a.
      let old = k.waits r l (rw (fitted_stage h r (routes r l)) at w) x a in
      (rw (fitted_lock h x (lock_inside p h s t x r sz snd k old.0)) old.0, old.1);
  wants = λ r l b. met_agree h.wanted (fitted h).wanted (route p r).needs (k.wants r l (rw (fitted_stage h r (routes r l)) at b))
      (λ q e. fitted_wanted h q (points q ((snd.routes_fit r l).known q e)));
  lies = λ r l c. k.lies r l (rw (fitted_stage h r (routes r l)) at c);
}
  where
    points : (q : ℕ) → q < p.points → q < 32
    points q l = let m = sz.points in omega arith

    routes : (r : ℕ) → r < length p.routes → r < 64
    routes r l = let m = sz.routes in omega arith

pub fitted_run : (p : Plan) (n : ℕ) (h : State) (t : Positions) (ts : ℕ → Train) → Sized p → Sound p → Kept p h (occupied n ts) t → Run p n h t ts → Run p n (fitted h) t ts
fitted_run p n h t ts sz snd k run = run_moves p n h (fitted h) t ts run
    (λ up x r i c o. route_moves p h (fitted h) (occupied n ts) (occupied n ts) t up x r i o
    (fitted_stage h r (let l = o.there in let m = sz.routes in omega arith))
    (λ j a b l. rw (fitted_lock h (get_or (route p r).path j 0) (lock_inside p h (occupied n ts) t (get_or (route p r).path j 0) r sz snd k l)) l) (λ j a b l v. v))

pub fitted_sure : (p : Plan) (n : ℕ) (h : State) (t : Positions) (ts : ℕ → Train) → Sized p → Sound p → Sure p n h t ts → Sure p n (fitted h) t ts
fitted_sure p n h t ts sz snd k = (fitted_kept p h (occupied n ts) t sz snd k.0, fitted_run p n h t ts sz snd k.0 k.1)

pub fitted_books : (p : Plan) (h : State) (o : Occupancy) → Books p h o → Books p (fitted h) o
unfolding fitted
fitted_books p h o b = record {
  named = λ r e. b.named r (grind arith);
  soon = λ r m e. b.soon r m (grind arith);
  marked = λ x r e c. let old = b.marked x r in grind arith;
}

pub fitted_unmarked : (p : Plan) (h : State) → Unmarked p h → Unmarked p (fitted h)
unfolding fitted
fitted_unmarked p h b = record {
  clean = λ x e. let old = b.clean x in grind arith;
  fresh = λ r l w x a. let old = b.fresh r l in grind (arith, old);
}

-- nothing is cut off where all of the invariant holds and no point beyond the room is wanted left
pub fitted_same : (p : Plan) (h : State) (s o : Occupancy) (t : Positions) → Sized p → Sound p → Kept p h s t → Books p h o → Unmarked p h → ((q : ℕ) → 32 ≤ q → h.wanted q ≡ false) → Same h (fitted h)
unfolding fitted
fitted_same p h s o t sz snd k b u right = record {
  lock = λ x. lock_at x (h.lock x) refl;
  passed = λ x. passed_at x (h.lock x) refl;
  stage = λ r. let named = b.named r in let m = sz.routes in grind arith;
  wanted = λ q. let out = right q in grind arith;
}
  where
    lock_at : (x m : ℕ) → h.lock x ≡ m → (fitted h).lock x ≡ h.lock x
    lock_at x zero e = grind arith
    lock_at x (suc r) e = fitted_lock h x (lock_inside p h s t x r sz snd k e)

    passed_at : (x m : ℕ) → h.lock x ≡ m → (fitted h).passed x ≡ h.passed x
    passed_at x zero e = let none = u.clean x e in grind arith
    passed_at x (suc r) e = let l = lock_inside p h s t x r sz snd k e in grind arith
