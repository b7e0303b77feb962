-- The promises of a world that are read off what is safe.
use Rattle.std.proofs.Common.{◌≡◌, ℕ, zero, suc, ◌<◌, Bool, true, false, not, ◌&&◌, ◌||◌, eqb, length, get_or, refl, inl, inr, arith}
use Rattle.plan.specs.Plan.{Plan, Positions, route, beyond}
use Rattle.soundness.specs.Sound.{Sound}
use Rattle.interlocking.specs.State.{State, Occupancy}
use Rattle.occupancy.specs.Notes.{entering, notes}
use Rattle.model.specs.World.{World, occupied, front}
use Rattle.safety.specs.Promise.{Apart, Standing, Still, ShownWhen, WayBefore, NoOrphan, Noted, EachOnce, FallsSoon, BeyondSame, Alone, OwnWay, Enters}
use Rattle.safety.specs.Safe.{is_waiting, Books, Safe}
use Rattle.safety.proofs.Lists.{among_at, some_long, split_front}
use Rattle.safety.proofs.Stages.{open_waits, open_cleared}
use Rattle.safety.proofs.Enters.{Enter, enters, alone, may_go}
use Rattle.safety.proofs.Goes.{can_go}
use Rattle.safety.proofs.Occupied.{occupied_some}
use Rattle.safety.proofs.Ways.{beyond_same}

-- noting again: a route that may be entered has not been, and what is locked and occupied has been passed
noted_stage : (p : Plan) (h : State) (o : Occupancy) (r : ℕ) → Books p h o → (is_waiting (h.stage r) ≡ true → r < length p.routes → o (get_or (route p r).path 0 0) ≡ false) →
    entering p o r (h.stage r) ≡ h.stage r
noted_stage p h o r b first = let there = b.named r in grind arith

noted_passed : (p : Plan) (h : State) (o : Occupancy) (x : ℕ) → Books p h o → (h.passed x || (not (eqb (h.lock x) 0) && o x)) ≡ h.passed x
noted_passed p h o x b = go (h.lock x) refl
  where
    go : (m : ℕ) → h.lock x ≡ m → (h.passed x || (not (eqb m 0) && o x)) ≡ h.passed x
    go zero e = grind arith
    go (suc r) e = let old = b.marked x r e in grind arith

own_way : (p : Plan) (h : State) (s : Occupancy) (t : Positions) (up : Bool) (x b r j : ℕ) → Enter p h s t up x b r j → OwnWay p h s up x b r j
own_way p h s t up x b r j e =
    record { inside = e.inside; here = e.here; lock = rw (← e.here) e.rest.own; vacant = e.vacant; how = elim e.how [ inl a ↦ inl a | inr a ↦ inr (a.2.in_use, rw (← a.2.here) a.2.rest.own, (a.0, a.1, a.2.here)) ] }

module _ (p : Plan) (n : ℕ) (w : World) (snd : Sound p) (safe : Safe p n w) where
  pub apart : Apart p n w
  apart = safe.run.apart

  pub standing : Standing p n w
  standing = safe.run.hangs

  pub still : Still p n w
  still = safe.kept.still

  pub shown_when : ShownWhen p n w
  shown_when r less o =
      (safe.kept.waits r less (open_waits (w.interlocking.stage r) o), safe.kept.lies r less (open_cleared (w.interlocking.stage r) o))

  pub way_before : WayBefore p n w
  way_before i x xs less body sign inside =
      (enters p w.interlocking (occupied n w.trains) w.lies (w.trains i).up x snd safe.kept (safe.run.ahead i x xs less body) inside (inl sign)).2.vacant

  pub no_orphan : NoOrphan p n w
  no_orphan x r e lock = let busy = (safe.kept.owner x r lock).2 in grind arith

  pub noted : Noted p n w
  unfolding notes
  noted = record {
    lock = λ x. refl;
    passed = λ x. noted_passed p w.interlocking (occupied n w.trains) x safe.books;
    stage = λ r. noted_stage p w.interlocking (occupied n w.trains) r safe.books
        (λ g less. (safe.kept.waits r less g (get_or (route p r).path 0 0) (among_at (route p r).path 0 (some_long (route p r).path (snd.routes_fit r less).some))).1);
    wanted = λ q. refl;
  }

  pub each_once : EachOnce p n w
  each_once = safe.run.once

  pub falls_soon : FallsSoon p n w
  falls_soon = safe.books.soon

  pub same_beyond : BeyondSame p n w
  same_beyond up x e =
      let who = occupied_some n w.trains x e in
      beyond_same p w.interlocking (occupied n w.trains) w.lies snd safe.kept up x (safe.run.inside who.0 x who.1 who.2) e

  pub one_open : Alone p n w
  one_open up x r q a b = alone p w.interlocking (occupied n w.trains) w.lies up x r q snd safe.kept a b

  pub goes_own_way : Enters p n w
  goes_own_way i ok =
      let c = can_go p n w i ok in
      let split = split_front (w.trains i).body c.1 in
      let up : Bool = (w.trains i).up in
      let x : ℕ = front (w.trains i).body in
      let e = enters p w.interlocking (occupied n w.trains) w.lies up x snd safe.kept (safe.run.ahead i x split.0 c.0 split.1) c.2 (may_go p w.interlocking up x c.3) in
      (e.0, e.1, own_way p w.interlocking (occupied n w.trains) w.lies up x (beyond p w.lies up x) e.0 e.1 e.2)
