-- Letting a section go behind a train keeps what is safe.
use Rattle.std.proofs.Common.{◌≡◌, ℕ, zero, suc, ◌-◌, ◌<◌, ◌≤◌, Bool, true, false, eqb, ◌⊎◌, List, [], ◌∷◌, length, get_or, sym, ap, ◌∙◌, inl, inr, arith}
use Rattle.plan.specs.Plan.{pick, Plan, Positions, route, among, last_of, Once}
use Rattle.soundness.specs.Sound.{Sound}
use Rattle.interlocking.specs.declared.Stage.TheVariants.{Idle, Used}
use Rattle.interlocking.specs.State.{is_idle, State, Occupancy, behind_free, does, done, after_free}
use Rattle.interlocking.specs.declared.Request.TheVariants.{Free}
use Rattle.model.specs.World.{Train, occupied}
use Rattle.safety.specs.Safe.{OnRoute, Kept, Books, Unmarked, Covers, Sure}
use Rattle.safety.proofs.Tests.{clash, either_way}
use Rattle.plan.proofs.Walks.{last_at}
use Rattle.safety.proofs.Lists.{among_at, among_place, once_head, once_tail, once_same}
use Rattle.safety.proofs.Stages.{used_only}
use Rattle.safety.proofs.Carry.{route_moves, run_moves}

-- what lies before a place of a path, where all behind it is free, is not locked for the route
pub behind_at : (h : State) (r z : ℕ) (xs : List ℕ) (k j : ℕ) → Once xs → behind_free h (suc r) z xs ≡ true → j < length xs → get_or xs j 0 ≡ z → k < j → h.lock (get_or xs k 0) ≡ suc r → ⊥
unfolding behind_free
behind_at h r z [] k j o b l e less m = omega arith
behind_at h r z (y ∷ ys) k zero o b l e less m = omega arith
behind_at h r z (y ∷ ys) zero (suc j) o b l e less m =
    let in_rest = among_at ys j (omega arith) in let not_in = once_head o in grind arith
behind_at h r z (y ∷ ys) (suc k) (suc j) o b l e less m =
    let in_rest = among_at ys j (omega arith) in let not_in = once_head o in
    behind_at h r z ys k j (once_tail o) (grind arith) (omega arith) e (omega arith) m

-- what it takes: the section is locked for a used route, all before it is free, and it is really vacant or the last. That it was passed is not needed
pub record Freed (p : Plan) (h : State) (s : Occupancy) (z q : ℕ) : Type 0 where
  pub held : h.lock z ≡ suc q
  pub in_use : h.stage q ≡ Used
  pub behind : behind_free h (suc q) z (route p q).path ≡ true
  pub gone : (s z ≡ false) ⊎ (z ≡ last_of 0 (route p q).path)

pub freed : (p : Plan) (h : State) (s o : Occupancy) (u : Positions) (z : ℕ) → Covers o s → does p h o u (Free z) ≡ true → Freed p h s z (h.lock z - 1)
unfolding does
freed p h s o u z covers e =
    let held : h.lock z ≡ suc (h.lock z - 1) = grind arith in
    record { held = held; in_use = used_only (h.stage (h.lock z - 1)) (grind arith); behind = rw (← held) (grind arith); gone = let c = covers z in grind arith }

-- the route's stage then: as it was, or idle if the section was the last
free_stage : (p : Plan) (h : State) (z q r : ℕ) → ((after_free p h q z).stage r ≡ h.stage r) ⊎ (((after_free p h q z).stage r ≡ Idle) × (r ≡ q) × (z ≡ last_of 0 (route p q).path))
unfolding after_free
free_stage p h z q r = grind arith

module _ (p : Plan) (h : State) (s : Occupancy) (t : Positions) (z q : ℕ) (snd : Sound p) (k : Kept p h s t) (f : Freed p h s z q) where
  once : Once (route p q).path
  once = once_tail (snd.routes_fit q (k.owner z q f.held).0).once

  -- where the last is let go, no other section was locked
  last_only : z ≡ last_of 0 (route p q).path → (x : ℕ) → (x ≡ z → ⊥) → h.lock x ≡ suc q → ⊥
  last_only e x ne l =
      let a = among_place x (route p q).path (k.owner x q l).1 in
      let m : ℕ = length (route p q).path - 1 in
      let less = a.1 in
      let at_last = last_at 0 (route p q).path m (omega arith) in
      either_way a.0 m
      (λ same. ne (sym a.2 ∙ ap (λ j. get_or (route p q).path j 0) same ∙ at_last ∙ sym e))
      (λ other. behind_at h q z (route p q).path a.0 m once f.behind (omega arith) (at_last ∙ sym e) (omega arith) (rw a.2 l))

  pub free_kept : Kept p (after_free p h q z) s t
  unfolding after_free
  free_kept = record {
    still = k.still;
    owner = λ x r e. let old = k.owner x r (grind arith) in let st = free_stage p h z q r in let only = last_only in (old.0, old.1, free_owner x r e old);
    waits = λ r l w x c.
        let st = free_stage p h z q r in let old = k.waits r l in let u = f.in_use in let m = f.held in grind (arith, old);
    wants = λ r l w. let st = free_stage p h z q r in let old = k.wants r l in grind (arith, old);
    lies = λ r l w. let st = free_stage p h z q r in let old = k.lies r l in grind (arith, old);
  }
    where
      free_owner : (x r : ℕ) → pick (eqb x z) 0 (h.lock x) ≡ suc r → (r < length p.routes) × (among x (route p r).path ≡ true) × (is_idle (h.stage r) ≡ false) →
          is_idle ((after_free p h q z).stage r) ≡ false
      free_owner x r e old =
          elim (free_stage p h z q r) [
            | inl same ↦ rw same old.2
            | inr gone ↦ absurd (last_only gone.2 x (λ at. grind arith) (let same = gone.1 in grind arith))
          ]

  -- no section of the rest of a route on which a front really stands is let go, from the front's own on
  ahead_stays : (up : Bool) (x i : ℕ) → s x ≡ true → OnRoute p h s t up x q i → (j : ℕ) → i ≤ j → j < length (route p q).path → get_or (route p q).path j 0 ≡ z → ⊥
  ahead_stays up x i sx o j le l e =
      either_way i j (λ same. own same f.gone)
      (λ other. behind_at h q z (route p q).path i j once f.behind l e (omega arith) o.rest.own)
    where
      own : i ≡ j → (s z ≡ false) ⊎ (z ≡ last_of 0 (route p q).path) → ⊥
      own same (inl vacant) = clash (s z) (rw (← e, ← same, o.here) sx) vacant
      own same (inr last) =
          let m : ℕ = length (route p q).path - 1 in
          let at_last = last_at 0 (route p q).path m (omega arith) in
          let again : j ≡ m = once_same (route p q).path j m once l (omega arith) (e ∙ last ∙ sym at_last) in
          let inside = o.inside in omega arith

  free_on : (up : Bool) (x r i : ℕ) → s x ≡ true → OnRoute p h s t up x r i → OnRoute p (after_free p h q z) s t up x r i
  unfolding after_free
  free_on up x r i sx o = route_moves p h (after_free p h q z) s s t up x r i o (stage (free_stage p h z q r))
      (λ j a b l. let held = f.held in
      let ne : r ≡ q → get_or (route p r).path j 0 ≡ z → ⊥ = λ same e. ahead_stays up x i sx (rw same at o) j a (rw same at b) (rw (← same) e) in grind arith)
      (λ j a b l v. v)
    where
      stage : ((after_free p h q z).stage r ≡ h.stage r) ⊎ (((after_free p h q z).stage r ≡ Idle) × (r ≡ q) × (z ≡ last_of 0 (route p q).path)) → (after_free p h q z).stage r ≡ h.stage r
      stage (inl same) = same
      stage (inr gone) =
          let on : OnRoute p h s t up x q i = rw gone.1 at o in
          let m : ℕ = length (route p q).path - 1 in
          let inside = on.inside in
          absurd (ahead_stays up x i sx on m (omega arith) (omega arith) (last_at 0 (route p q).path m (omega arith) ∙ sym gone.2))

pub free_sure : (p : Plan) (n : ℕ) (h : State) (o : Occupancy) (t u : Positions) (ts : ℕ → Train) (z : ℕ) → Sound p → Covers o (occupied n ts) → Sure p n h t ts →
    does p h o u (Free z) ≡ true → Sure p n (done p h (Free z)) t ts
unfolding done
free_sure p n h o t u ts z snd covers k ok =
    let q : ℕ = h.lock z - 1 in
    let f = freed p h (occupied n ts) o u z covers ok in (
      free_kept p h (occupied n ts) t z q snd k.0 f,
      run_moves p n h (after_free p h q z) t ts k.1 (λ up x r i sx on. free_on p h (occupied n ts) t z q snd k.0 f up x r i sx on),
    )

pub free_books : (p : Plan) (h : State) (o : Occupancy) (z : ℕ) → Books p h o → Books p (done p h (Free z)) o
unfolding done after_free
free_books p h o z b = record {
  named = λ r e. let st = free_stage p h z (h.lock z - 1) r in let old = b.named r in grind (arith, old);
  soon = λ r m e. let st = free_stage p h z (h.lock z - 1) r in let old = b.soon r m in grind (arith, old);
  marked = λ x r e c. let old = b.marked x r in grind arith;
}

pub free_unmarked : (p : Plan) (h : State) (z : ℕ) → Unmarked p h → Unmarked p (done p h (Free z))
unfolding done after_free
free_unmarked p h z b = record {
  clean = λ x e. let old = b.clean x in grind arith;
  fresh = λ r l w x c. let st = free_stage p h z (h.lock z - 1) r in let old = b.fresh r l in grind (arith, old);
}
