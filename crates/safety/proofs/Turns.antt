-- A point that turns keeps what is safe; and so does a loose one that comes to lie anyhow.
use Rattle.std.proofs.Common.{◌≡◌, ℕ, suc, ◌<◌, Bool, true, false, eqb, ◌⊎◌, length, get_or, sym, refl, ◌∙◌, inl, inr, arith}
use Rattle.plan.specs.Plan.{pick, Plan, Positions, beyond, route, needed}
use Rattle.soundness.specs.Sound.{Fit, Sound}
use Rattle.interlocking.specs.State.{State, Occupancy}
use Rattle.model.specs.World.{next, Train, World, occupied, state_after, lies_after, trains_after}
use Rattle.model.specs.declared.Event.TheVariants.{Turns}
use Rattle.safety.specs.Safe.{is_cleared, Ahead, at_signal, at_end, on_route, Kept, Run, Sure, Safe}
use Rattle.safety.proofs.Tests.{clash, decide, either_way}
use Rattle.safety.proofs.Lists.{among_at}
use Rattle.safety.proofs.Occupied.{occupied_at}
use Rattle.safety.proofs.Needs.{met_same, met_agree}
use Rattle.safety.proofs.Stages.{cleared_busy}
use Rattle.safety.proofs.Ways.{beyond_agree, joined_agree, hangs_agree, leads_inside}

-- nobody stands on its place, and no cleared route needs it
pub record Unbound (p : Plan) (h : State) (s : Occupancy) (q : ℕ) : Type 0 where
  pub vacant : s (p.place q) ≡ false
  pub unneeded : (r : ℕ) → r < length p.routes → is_cleared (h.stage r) ≡ true → needed q (route p r).needs ≡ false

-- points lie as they did but where they are unbound
abbrev pub OnlyUnbound : Plan → State → Occupancy → Positions → Positions → Type 0
OnlyUnbound p h s t t' = (q : ℕ) → q < p.points → (t' q ≡ t q) ⊎ Unbound p h s q

module _ (p : Plan) (h : State) (s : Occupancy) (t t' : Positions) (snd : Sound p) (only : OnlyUnbound p h s t t') where
  -- beyond a section that is occupied, and beyond one of a cleared route's path, lies what did
  occupied_same : (x : ℕ) → x < p.sections → s x ≡ true → (v : Bool) → beyond p t' v x ≡ beyond p t v x
  occupied_same x inside e = beyond_agree p t t' snd x inside (λ q l at. elim (only q l) [ inl same ↦ same | inr f ↦ clash (s x) e (rw at at f.vacant) ])

  path_same : (r k : ℕ) → r < length p.routes → is_cleared (h.stage r) ≡ true → k < length (route p r).path →
      (v : Bool) → beyond p t' v (get_or (route p r).path k 0) ≡ beyond p t v (get_or (route p r).path k 0)
  path_same r k l c less =
      let fit : Fit p (route p r) = snd.routes_fit r l in
      let way = fit.meets in
      beyond_agree p t t' snd (get_or (route p r).path k 0) (leads_inside p way.0 (route p r).up (route p r).begin (route p r).path k (fit.leads way.0 way.1) less)
      (λ q in_plan at. elim (only q in_plan) [
        | inl same ↦ same
        | inr f ↦ clash (needed q (route p r).needs) (fit.hold q in_plan (rw at (among_at (route p r).path k less))) (f.unneeded r l c)
      ])

  pub loose_kept : Kept p h s t → Kept p h s t'
  loose_kept k = record {
    still = λ q l e. elim (only q l) [ inl same ↦ k.still q l e ∙ sym same | inr f ↦ clash (s (p.place q)) e f.vacant ];
    owner = k.owner;
    waits = k.waits;
    wants = k.wants;
    lies = λ r l c. met_agree t t' (route p r).needs (k.lies r l c)
        (λ q e. elim (only q ((snd.routes_fit r l).known q e)) [ inl same ↦ same | inr f ↦ clash (needed q (route p r).needs) e (f.unneeded r l c) ]);
  }

  loose_ahead : (up : Bool) (x : ℕ) → Ahead p h s t up x → Ahead p h s t' up x
  loose_ahead up x (at_signal e) = at_signal e
  loose_ahead up x (at_end e) = at_end e
  loose_ahead up x (on_route r k o) =
      let c : is_cleared (h.stage r) ≡ true = rw o.in_use in
      on_route r k (record {
        there = o.there;
        in_use = o.in_use;
        way = o.way;
        inside = o.inside;
        here = o.here;
        rest = record {
          own = o.rest.own;
          vacant = o.rest.vacant;
          joins = λ j a b. joined_agree p t t' up (get_or (route p r).path j 0) (get_or (route p r).path (suc j) 0)
              (path_same r j o.there c (omega arith)) (path_same r (suc j) o.there c b) (o.rest.joins j a b);
        };
      })

-- LOOSE: points on whose places nobody stands and that no cleared route needs may lie anyhow
pub loose_run : (p : Plan) (n : ℕ) (h : State) (t t' : Positions) (ts : ℕ → Train) → Sound p → OnlyUnbound p h (occupied n ts) t t' → Run p n h t ts → Run p n h t' ts
loose_run p n h t t' ts snd only run = record {
  inside = run.inside;
  once = run.once;
  apart = run.apart;
  hangs = λ i l. hangs_agree p t t' (ts i).up (ts i).body
      (λ x a. occupied_same p h (occupied n ts) t t' snd only x (run.inside i x l a) (occupied_at n ts x i l a)) (run.hangs i l);
  ahead = λ i x xs l e. loose_ahead p h (occupied n ts) t t' snd only (ts i).up x (run.ahead i x xs l e);
}

pub loose_sure : (p : Plan) (n : ℕ) (h : State) (t t' : Positions) (ts : ℕ → Train) → Sound p → OnlyUnbound p h (occupied n ts) t t' → Sure p n h t ts → Sure p n h t' ts
loose_sure p n h t t' ts snd only k = (loose_kept p h (occupied n ts) t t' snd only k.0, loose_run p n h t t' ts snd only k.1)

-- and so, in a whole world, may one point
pub loose : (p : Plan) (n : ℕ) (w : World) (q : ℕ) (left : Bool) → Sound p → Safe p n w → Unbound p w.interlocking (occupied n w.trains) q →
    Safe p n (record { interlocking = w.interlocking; lies = λ j. pick (eqb j q) left (w.lies j); trains = w.trains })
loose p n w q left snd safe f =
    let s : Occupancy = occupied n w.trains in
    let t' : Positions = λ j. pick (eqb j q) left (w.lies j) in
    let only : OnlyUnbound p w.interlocking s w.lies t' = λ j l. either_way j q (λ e. inr (rw e f)) (λ e. inl (grind arith)) in
    record {
      kept = loose_kept p w.interlocking s w.lies t' snd only safe.kept;
      run = loose_run p n w.interlocking w.lies t' w.trains snd only safe.run;
      books = safe.books;
      unmarked = safe.unmarked;
    }

-- a point that turns as it is wanted lies so already, or is unbound
turns_unbound : (p : Plan) (h : State) (s : Occupancy) (t : Positions) (q : ℕ) → Kept p h s t → OnlyUnbound p h s t (λ j. pick (eqb j q) (h.wanted j) (t j))
turns_unbound p h s t q k j l = go (h.wanted j) (t j) refl refl
  where
    unbound : (h.wanted j ≡ t j → ⊥) → Unbound p h s j
    unbound ne = record {
      vacant = elim (decide (s (p.place j))) [ inl e ↦ absurd (ne (k.still j l e)) | inr e ↦ e ];
      unneeded = λ r m c. elim (decide (needed j (route p r).needs)) [
        | inl e ↦ absurd (ne (met_same h.wanted t (route p r).needs j (k.wants r m (cleared_busy (h.stage r) c)) (k.lies r m c) e))
        | inr e ↦ e
      ];
    }

    go : (a b : Bool) → h.wanted j ≡ a → t j ≡ b → (pick (eqb j q) (h.wanted j) (t j) ≡ t j) ⊎ Unbound p h s j
    go true true e f = inl (grind arith)
    go false false e f = inl (grind arith)
    go true false e f = inr (unbound (λ same. grind arith))
    go false true e f = inr (unbound (λ same. grind arith))

pub turns_keeps : (p : Plan) (n : ℕ) (w : World) (q : ℕ) → Sound p → Safe p n w → Safe p n (next p n w (Turns q))
unfolding state_after lies_after trains_after
turns_keeps p n w q snd safe =
    let t' : Positions = λ j. pick (eqb j q) (w.interlocking.wanted j) (w.lies j) in
    let only = turns_unbound p w.interlocking (occupied n w.trains) w.lies q safe.kept in
    record {
      kept = loose_kept p w.interlocking (occupied n w.trains) w.lies t' snd only safe.kept;
      run = loose_run p n w.interlocking w.lies t' w.trains snd only safe.run;
      books = safe.books;
      unmarked = safe.unmarked;
    }
