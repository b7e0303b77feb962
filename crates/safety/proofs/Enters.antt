-- What a front enters when it goes on: the first section of the one open route that begins there, or the next of the used one that it is on.
use Rattle.std.proofs.Common.{◌≡◌, ℕ, zero, suc, ◌<◌, Bool, true, false, not, ◌||◌, ◌⊎◌, List, length, get_or, sym, refl, ap, ◌∙◌, inl, inr, arith}
use native.Mathlib.Nat.{suc_inj}
use Rattle.plan.specs.Plan.{sameb, Plan, Positions, beyond, Joined, route, Leads}
use Rattle.soundness.specs.Sound.{Fit, Sound}
use Rattle.interlocking.specs.State.{is_open, State, Occupancy}
use Rattle.model.specs.World.{open_here}
use Rattle.safety.specs.Promise.{Open}
use Rattle.safety.specs.Safe.{is_cleared, Rest, Mine, OnRoute, Ahead, at_signal, at_end, on_route, Kept}
use Rattle.safety.proofs.Tests.{clash, decide}
use Rattle.safety.proofs.Lists.{among_at, some_long}
use Rattle.safety.proofs.Stages.{open_waits, open_cleared}
use Rattle.safety.proofs.Ways.{joined_beyond, leads_first, leads_at}

-- some route that may be entered begins here
open_below : (p : Plan) (h : State) (up : Bool) (x m : ℕ) → open_here p h up x m ≡ true →
    (r : ℕ) × (r < m) × (is_open (h.stage r) ≡ true) × ((route p r).begin ≡ x) × ((route p r).up ≡ up)
unfolding open_here sameb
open_below p h up x zero e = absurd (grind arith)
open_below p h up x (suc m) e =
    elim (decide (open_here p h up x m)) [
      | inl f ↦ (let r = open_below p h up x m f in (r.0, omega (arith, r.1), r.2, r.3, r.4))
      | inr f ↦ (m, omega arith, grind arith, grind arith, grind arith)
    ]

pub open_some : (p : Plan) (h : State) (up : Bool) (x : ℕ) → open_here p h up x (length p.routes) ≡ true → (r : ℕ) × Open p h up x r
open_some p h up x e = let o = open_below p h up x (length p.routes) e in (o.0, record { there = o.1; may = o.2; begins = o.3; way = o.4 })

-- in one of two ways: j is the first place of a route that may be entered at x, or the next place of the used one that x is on
abbrev pub How : Plan → State → Occupancy → Positions → Bool → ℕ → ℕ → ℕ → Type 0
How p h s t up x r j = (Open p h up x r × (j ≡ 0)) ⊎ ((k : ℕ) × (j ≡ suc k) × OnRoute p h s t up x r k)

-- the section b beyond a front in x is at place j of the path of a route that may be entered at x, or that is used from x on; the rest of the path from b on is the route's, and vacant
pub record Enter (p : Plan) (h : State) (s : Occupancy) (t : Positions) (up : Bool) (x b r j : ℕ) : Type 0 where
  pub there : r < length p.routes
  pub way : (route p r).up ≡ up
  pub inside : j < length (route p r).path
  pub here : get_or (route p r).path j 0 ≡ b
  pub join : Joined p t up x b
  pub vacant : s b ≡ false
  pub rest : Rest p (route p r).path (Mine h r) s t up j
  pub cleared : is_cleared (h.stage r) ≡ true
  pub how : How p h s t up x r j

-- the first section of an open route
pub enter_open : (p : Plan) (h : State) (s : Occupancy) (t : Positions) (up : Bool) (x r : ℕ) → Sound p → Kept p h s t → Open p h up x r → Enter p h s t up x (beyond p t up x) r 0
enter_open p h s t up x r snd k o =
    let path : List ℕ = (route p r).path in
    let fit : Fit p (route p r) = snd.routes_fit r o.there in
    let time : 0 < length path = some_long path fit.some in
    let cleared : is_cleared (h.stage r) ≡ true = open_cleared (h.stage r) o.may in
    let leads : Leads p t (route p r).up (route p r).begin path = fit.leads t (k.lies r o.there cleared) in
    let waits : (m : ℕ) → m < length path → (h.lock (get_or path m 0) ≡ suc r) × (s (get_or path m 0) ≡ false) =
    λ m less. k.waits r o.there (open_waits (h.stage r) o.may) (get_or path m 0) (among_at path m less) in
    let join : Joined p t up x (get_or path 0 0) = rw (o.way, o.begins) at (leads_first p t (route p r).up (route p r).begin path time leads) in
    let here : get_or path 0 0 ≡ beyond p t up x = joined_beyond p t up x (get_or path 0 0) join in
    record {
      there = o.there;
      way = o.way;
      inside = time;
      here = here;
      join = rw (← here) join;
      vacant = rw (← here) (waits 0 time).1;
      rest = record {
        own = (waits 0 time).0;
        vacant = λ m gt less. waits m less;
        joins = λ m le less. rw (← o.way) (leads_at p t (route p r).up (route p r).begin path m leads less);
      };
      cleared = cleared;
      how = inl (o, refl);
    }

-- the next section of the used route that the front is on; this needs nothing but what lies ahead of it
pub enter_used : (p : Plan) (h : State) (s : Occupancy) (t : Positions) (up : Bool) (x r k : ℕ) → OnRoute p h s t up x r k → Enter p h s t up x (beyond p t up x) r (suc k)
enter_used p h s t up x r k o =
    let path : List ℕ = (route p r).path in
    let old = o.rest in
    let next_one = old.vacant (suc k) (omega arith) o.inside in
    let join : Joined p t up x (get_or path (suc k) 0) = rw (← o.here) (old.joins k (omega arith) o.inside) in
    let here : get_or path (suc k) 0 ≡ beyond p t up x = joined_beyond p t up x (get_or path (suc k) 0) join in
    record {
      there = o.there;
      way = o.way;
      inside = o.inside;
      here = here;
      join = rw (← here) join;
      vacant = rw (← here) next_one.1;
      rest = record { own = next_one.0; vacant = λ m gt less. old.vacant m (omega arith) less; joins = λ m le less. old.joins m (omega arith) less };
      cleared = rw o.in_use;
      how = inr (k, refl, o);
    }

-- ENTERS: where a section is beyond a front, and there is no signal or some open route begins there, the front enters the first of that route or the next of its used one
pub enters : (p : Plan) (h : State) (s : Occupancy) (t : Positions) (up : Bool) (x : ℕ) → Sound p → Kept p h s t → Ahead p h s t up x → beyond p t up x < p.sections →
    (p.signal up x ≡ false) ⊎ ((r : ℕ) × Open p h up x r) → (r j : ℕ) × Enter p h s t up x (beyond p t up x) r j
enters p h s t up x snd k a inside (inr o) = (o.0, 0, enter_open p h s t up x o.0 snd k o.1)
enters p h s t up x snd k (at_signal e) inside (inl sign) = clash (p.signal up x) e sign
enters p h s t up x snd k (at_end e) inside (inl sign) = absurd (omega (arith, e t))
enters p h s t up x snd k (on_route r i o) inside (inl sign) = (r, suc i, enter_used p h s t up x r i o)

-- ALONE: two open routes at one signal are the same, for both lead on to what lies beyond
pub alone : (p : Plan) (h : State) (s : Occupancy) (t : Positions) (up : Bool) (x r q : ℕ) → Sound p → Kept p h s t → Open p h up x r → Open p h up x q → r ≡ q
alone p h s t up x r q snd k a b =
    let e = enter_open p h s t up x r snd k a in
    let f = enter_open p h s t up x q snd k b in
    suc_inj (sym e.rest.own ∙ ap h.lock (e.here ∙ sym f.here) ∙ f.rest.own)

-- no signal, or an open route
pub may_go : (p : Plan) (h : State) (up : Bool) (x : ℕ) → (not (p.signal up x) || open_here p h up x (length p.routes)) ≡ true → (p.signal up x ≡ false) ⊎ ((r : ℕ) × Open p h up x r)
may_go p h up x ok = elim (decide (p.signal up x)) [ inl e ↦ inr (open_some p h up x (grind arith)) | inr e ↦ inl e ]
