-- What was looked at in parts is what is promised of the world.
use Rattle.std.proofs.Common.{◌≡◌, ℕ, ◌+◌, ◌<◌, ◌≤◌, true, List, ◌∷◌, length, Some, None, Option, subst, sym, ap, ◌∙◌, MatchOption, arith}
use Rattle.plan.specs.Plan.{Plan, Positions, Once}
use Rattle.interlocking.specs.State.{State, Occupancy, is_open}
use Rattle.occupancy.specs.Notes.{notes}
use Rattle.model.specs.Stations.{station_plan, station_world}
use Rattle.model.specs.World.{Train, World, occupied}
use Rattle.model.specs.declared.station.Station.{Station}
use Rattle.safety.specs.Promise.{Hangs}
use Rattle.watch.specs.Broken.{ApartLists, FallsSoonAt, Fine, Held, LetsGoAt, NoOrphanAt, Placed, ShownRight, Violated, ViolatedIn, WantedAt, WayAt}
use Rattle.watch.specs.Scene.{BrokenIn, Looked, Shows, body_in, lies_in, occupied_in, plan_in, state_in, trains_in, up_in}
use Rattle.watch.specs.declared.Broken.{Broken}
use Rattle.watch.specs.declared.scene.Scene.{Scene}
use Rattle.watch.proofs.Lists.{both_ways}

such : (V : Broken → Type 0) (A B : Type 0) (o : Option Broken) → (A → B) → MatchOption o A V → MatchOption o B V
such V A B None f a = f a
such V A B (Some x) f a = a

module _ (s : Scene) where
  abbrev ApartIn : Type 0
  ApartIn = (i : ℕ) → i < 16 → (j : ℕ) → i + 1 ≤ j → j < 16 → ApartLists (body_in s i) (body_in s j)

  abbrev StandsIn : Type 0
  StandsIn = (i : ℕ) → i < 16 → Hangs (plan_in s) (lies_in s) (up_in s i) (body_in s i)

  abbrev StillIn : Type 0
  StillIn = (q : ℕ) → q < (plan_in s).points → occupied 16 (trains_in s) ((plan_in s).place q) ≡ true → (state_in s).wanted q ≡ lies_in s q

  abbrev ShownIn : Type 0
  ShownIn = (r : ℕ) → r < length (plan_in s).routes → is_open ((state_in s).stage r) ≡ true → ShownRight (plan_in s) (state_in s) (lies_in s) (occupied_in s) r

  abbrev WayIn : Type 0
  WayIn = (i : ℕ) → i < 16 → (x : ℕ) → (xs : List ℕ) → body_in s i ≡ x ∷ xs → WayAt (plan_in s) (lies_in s) (occupied_in s) (up_in s i) x

  -- the last of the looks, where those before it found nothing
  pub placed : (r : Option Broken) → ApartIn → StandsIn → StillIn → ShownIn → Looked s r WayIn → Looked s r (Placed (plan_in s) (state_in s) (lies_in s) (occupied_in s) (trains_in s))
  placed r a b c d =
      such (BrokenIn s) WayIn _ r
      (λ e. record {
        apart = both_ways 16 (body_in s) (λ i j l m. a i (omega arith) j (omega arith) m);
        standing = b;
        still = c;
        shown = d;
        way = e;
      })

  abbrev OrphanIn : Type 0
  OrphanIn = (x : ℕ) → x < 64 → NoOrphanAt (state_in s) x

  abbrev OnceIn : Type 0
  OnceIn = (i : ℕ) → i < 16 → Once (body_in s i)

  abbrev FallsIn : Type 0
  FallsIn = (r : ℕ) → r < 64 → FallsSoonAt (plan_in s) (state_in s) r

  abbrev EnteredIn : Type 0
  EnteredIn = (r : ℕ) → r < length (plan_in s).routes → (notes (plan_in s) (state_in s) (occupied_in s)).stage r ≡ (state_in s).stage r

  abbrev PassedIn : Type 0
  PassedIn = (x : ℕ) → x < 64 → (notes (plan_in s) (state_in s) (occupied_in s)).passed x ≡ (state_in s).passed x

  abbrev WantedIn : Type 0
  WantedIn = (r : ℕ) → r < 64 → WantedAt (plan_in s) (state_in s) r

  abbrev LetsGoIn : Type 0
  LetsGoIn = (r : ℕ) → r < 64 → LetsGoAt (plan_in s) (state_in s) (lies_in s) (occupied_in s) r

  pub held : (r : Option Broken) → OrphanIn → OnceIn → FallsIn → EnteredIn → PassedIn → WantedIn → Looked s r LetsGoIn → Looked s r (Held (plan_in s) (state_in s) (lies_in s) (occupied_in s) (trains_in s))
  held r a b c d e f = such (BrokenIn s) LetsGoIn _ r (λ g. record { orphan = a; once = b; falls = c; entered = d; passed = e; wanted = f; lets_go = g })

abbrev world : State → Positions → (ℕ → Train) → World
world h t ts = record { interlocking = h; lies = t; trains = ts }

fine : (p : Plan) (h : State) (t : Positions) (ts : ℕ → Train) → Placed p h t (occupied 16 ts) ts × Held p h t (occupied 16 ts) ts → Fine p (world h t ts)
fine p h t ts a = record {
  apart = a.0.apart;
  standing = a.0.standing;
  still = a.0.still;
  shown_when = a.0.shown;
  way_before = λ i x xs l. a.0.way i l x xs;
  each_once = a.1.once;
  held = a.1;
}

told_of : (p : Plan) (h : State) (t : Positions) (s : Occupancy) (ts : ℕ → Train) (r : Option Broken) (w : World) → s ≡ occupied 16 ts → h ≡ w.interlocking → t ≡ w.lies → ts ≡ w.trains →
    MatchOption r (Placed p h t s ts × Held p h t s ts) (ViolatedIn p h t s ts) → MatchOption r (Fine p w) (Violated p w)
told_of p h t s ts r w e f g k m =
    let at : MatchOption r (Placed p h t (occupied 16 ts) ts × Held p h t (occupied 16 ts) ts) (ViolatedIn p h t (occupied 16 ts) ts) =
    subst (λ (z : Occupancy). MatchOption r (Placed p h t z ts × Held p h t z ts) (ViolatedIn p h t z ts)) e m in
    let told : MatchOption r (Fine p (world h t ts)) (Violated p (world h t ts)) = such (Violated p (world h t ts)) _ _ r (fine p h t ts) at in
    subst (λ (z : ℕ → Train). MatchOption r (Fine p (world w.interlocking w.lies z)) (Violated p (world w.interlocking w.lies z))) k
    (subst (λ (z : Positions). MatchOption r (Fine p (world w.interlocking z ts)) (Violated p (world w.interlocking z ts))) g
    (subst (λ (z : State). MatchOption r (Fine p (world z t ts)) (Violated p (world z t ts))) f told))

-- what a scene says of the station that it shows
module _ (s : Scene) (t : Station) (h : Shows s t) where
  abbrev PlacedIn : Type 0
  PlacedIn = Placed (plan_in s) (state_in s) (lies_in s) (occupied_in s) (trains_in s)

  abbrev HeldIn : Type 0
  HeldIn = Held (plan_in s) (state_in s) (lies_in s) (occupied_in s) (trains_in s)

  seen : (r : Option Broken) → Looked s r (PlacedIn × HeldIn) → MatchOption r (Fine (station_plan t) (station_world t)) (Violated (station_plan t) (station_world t))
  seen r x =
      subst (λ (p : Plan). MatchOption r (Fine p (station_world t)) (Violated p (station_world t))) h.plan
      (told_of (plan_in s) (state_in s) (lies_in s) (occupied_in s) (trains_in s) r (station_world t) (h.occupied ∙ ap (occupied 16) (sym h.trains)) h.state h.lies h.trains x)

  pub broken : (b : Broken) → BrokenIn s b → Violated (station_plan t) (station_world t) b
  broken b x = seen (Some b) x

  pub told : (r : Option Broken) → PlacedIn → Looked s r HeldIn → MatchOption r (Fine (station_plan t) (station_world t)) (Violated (station_plan t) (station_world t))
  told r x y = seen r (such (BrokenIn s) HeldIn (PlacedIn × HeldIn) r (λ z. (x, z)) y)
