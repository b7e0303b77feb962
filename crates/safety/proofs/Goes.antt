-- A train that goes on keeps what is safe.
use Rattle.std.proofs.Common.{◌≡◌, ℕ, suc, ◌<◌, Bool, true, false, not, ◌||◌, eqb, ◌⊎◌, List, ◌∷◌, length, get_or, sym, ap, ◌∙◌, subst, inl, inr, arith, eq-eqb, eqb-true}
use Rattle.plan.specs.Plan.{Plan, Positions, beyond, route, among, last_of, Once, more}
use Rattle.soundness.specs.Sound.{Sound}
use Rattle.interlocking.specs.declared.Stage.TheVariants.{Used}
use Rattle.interlocking.specs.State.{State, Occupancy}
use Rattle.occupancy.specs.Notes.{entering, notes}
use Rattle.model.specs.World.{next, Train, World, occupied, front, empty, open_here, can, with_train, trains_after, lies_after, state_after}
use Rattle.model.specs.declared.Event.TheVariants.{Goes}
use Rattle.safety.specs.Promise.{Hangs, in_more, Open}
use Rattle.safety.specs.Safe.{is_waiting, Rest, Mine, OnRoute, Ahead, at_signal, at_end, on_route, Kept, Run, Sure, Safe}
use Rattle.safety.proofs.Tests.{clash, decide, either_way, same_truth, untrue}
use Rattle.plan.proofs.Walks.{last_at}
use Rattle.safety.proofs.Lists.{among_at, front_among, front_of, split_front, once_tail, once_same}
use Rattle.safety.proofs.Occupied.{occupied_some, occupied_at, each_train}
use Rattle.safety.proofs.Needs.{met_same}
use Rattle.safety.proofs.Stages.{cleared_busy}
use Rattle.safety.proofs.Carry.{rest_moves, route_moves, ahead_moves}
use Rattle.safety.proofs.Enters.{How, Enter, enters, may_go}
use Rattle.safety.proofs.Notes.{notes_used, notes_kept, notes_books, notes_unmarked}

-- a vacant section that is locked for a route stays vacant, if it is not the one that is entered
stays_vacant : (h : State) (z s : Occupancy) (b y q r : ℕ) → h.lock b ≡ suc r → z y ≡ (eqb y b || s y) → h.lock y ≡ suc q → s y ≡ false → (q ≡ r → y ≡ b → ⊥) → z y ≡ false
stays_vacant h z s b y q r own g l f apart = grind arith

-- WHAT IS SO AFTER, when b is occupied too (z) and the interlocking notes what is reported (o), b among it
module _ (p : Plan) (h : State) (s z o : Occupancy) (t : Positions) (up : Bool) (x b r j : ℕ) (snd : Sound p) (e : Enter p h s t up x b r j)
    (grown : (y : ℕ) → z y ≡ (eqb y b || s y)) (reported : o b ≡ true) where
  locked_here : h.lock b ≡ suc r
  locked_here = rw (← e.here) e.rest.own

  once : Once (route p r).path
  once = once_tail (snd.routes_fit r e.there).once

  after_still : Kept p h s t → (q : ℕ) → q < p.points → z (p.place q) ≡ true → h.wanted q ≡ t q
  after_still k q less a =
      let old = k.still q less in let hold = (snd.routes_fit r e.there).hold q less in let in_path = among_at (route p r).path j e.inside in
      let agree = met_same h.wanted t (route p r).needs q (k.wants r e.there (cleared_busy (h.stage r) e.cleared)) (k.lies r e.there e.cleared) in
      let at = e.here in let g = grown (p.place q) in grind arith

  -- a route that still waits is not the one that was entered
  after_other : (q : ℕ) → is_waiting (entering p o q (h.stage q)) ≡ true → q ≡ r → ⊥
  after_other q w same = go e.how
    where
      go : How p h s t up x r j → ⊥
      go (inl a) = let there = e.there in let may = a.0.may in let first = a.1 in let at = e.here in grind arith
      go (inr a) = let there = e.there in let busy = a.2.in_use in grind arith

  pub after_kept : Kept p h s t → Kept p (notes p h o) z t
  unfolding notes
  after_kept k =
      let new = notes_kept p h s o t k in
      record {
        still = after_still k;
        owner = new.owner;
        waits = λ q l w y a.
            let old = new.waits q l w y a in let other = after_other q w in let own = locked_here in let g = grown y in (old.0, grind (arith, eqb-true, eq-eqb));
        wants = new.wants;
        lies = new.lies;
      }

  -- what lies before the front of the train that went
  after_used : (notes p h o).stage r ≡ Used
  unfolding notes
  after_used = go e.how
    where
      go : How p h s t up x r j → entering p o r (h.stage r) ≡ Used
      go (inl a) = let there = e.there in let may = a.0.may in let first = a.1 in let at = e.here in grind arith
      go (inr a) = let there = e.there in let busy = a.2.in_use in grind arith

  after_rest : Rest p (route p r).path (Mine (notes p h o) r) z t up j
  unfolding notes
  after_rest = rest_moves p (route p r).path (Mine h r) (Mine h r) s z t up j e.inside e.rest (λ m a c l. l)
      (λ m gt less l v. let g = grown (get_or (route p r).path m 0) in let at = e.here in let same = once_same (route p r).path m j once less e.inside in grind arith)

  pub after_ahead : b < p.sections → Ahead p (notes p h o) z t up b
  after_ahead inside =
      either_way (suc j) (length (route p r).path)
      (λ last. at_last (sym (last_at 0 (route p r).path j last) ∙ e.here))
      (λ ne. on_route r j (record { there = e.there; in_use = after_used; way = e.way; inside = omega (arith, e.inside); here = e.here; rest = after_rest }))
    where
      at_last : last_of 0 (route p r).path ≡ b → Ahead p (notes p h o) z t up b
      at_last here =
          elim (snd.routes_fit r e.there).end [
            | inl sign ↦ at_signal (rw (← e.way, ← here) sign)
            | inr edge ↦ elim (snd.edges b inside (rw (← here) edge) up) [ inl sign ↦ at_signal sign | inr out ↦ at_end out ]
          ]

  -- what lies before another front, one that is not in x too if x is locked for the route: b is not in the rest of its route, for x would be too
  other_apart : s x ≡ true → (v : Bool) (y : ℕ) → (h.lock x ≡ suc r → y ≡ x → ⊥) → (k : ℕ) → OnRoute p h s t v y r k → (m : ℕ) → k < m → m < length (route p r).path → get_or (route p r).path m 0 ≡ b → ⊥
  other_apart sx v y ne k on m gt less f = go e.how
    where
      at : m ≡ j
      at = once_same (route p r).path m j once less e.inside (f ∙ sym e.here)

      go : How p h s t up x r j → ⊥
      go (inl a) = omega (arith, at, a.1)
      go (inr a) =
          let i : ℕ = a.0 in
          let next_to : j ≡ suc i = a.1 in
          let here : get_or (route p r).path i 0 ≡ x = a.2.here in
          either_way k i
          (λ same. ne (rw (← here) a.2.rest.own) (sym on.here ∙ ap (λ (l : ℕ). get_or (route p r).path l 0) same ∙ here))
          (λ other. clash (s x) sx (rw (← here) (on.rest.vacant i (omega (arith, at)) (omega (arith, at))).1))

  pub after_others : s x ≡ true → (v : Bool) (y : ℕ) → (h.lock x ≡ suc r → y ≡ x → ⊥) → Ahead p h s t v y → Ahead p (notes p h o) z t v y
  unfolding notes
  after_others sx v y ne = ahead_moves p h (notes p h o) s z t v y
      (λ q k on. route_moves p h (notes p h o) s z t v y q k on (notes_used p h o q on.in_use) (λ m a c l. l)
      (λ m gt less l f. stays_vacant h z s b (get_or (route p q).path m 0) q r locked_here (grown (get_or (route p q).path m 0)) l f
      (λ same at. other_apart sx v y ne k (rw same at on) m gt (rw same at less) (rw (← same) at))))

-- what is in a train when one has gone on, and what is occupied
on_back : (ts : ℕ → Train) (i : ℕ) (up : Bool) (b y k : ℕ) → among y (with_train ts i up (b ∷ (ts i).body) k).body ≡ true →
    ((k ≡ i) × (y ≡ b)) ⊎ (among y (ts k).body ≡ true)
unfolding with_train among
on_back ts i up b y k a = grind arith

pub occupied_on : (n : ℕ) (ts : ℕ → Train) (i : ℕ) (up : Bool) (b y : ℕ) → i < n → occupied n (with_train ts i up (b ∷ (ts i).body)) y ≡ (eqb y b || occupied n ts y)
unfolding with_train among
occupied_on n ts i up b y less = same_truth (occupied n us y) (eqb y b || occupied n ts y)
    (λ a. let o = occupied_some n us y a in let k = on_back ts i up b y o.0 o.2 in let s = occupied_at n ts y o.0 o.1 in grind arith)
    (λ a. elim (decide (eqb y b)) [
      | inl e ↦ occupied_at n us y i less (grind arith)
      | inr e ↦ (let o = occupied_some n ts y (grind arith) in occupied_at n us y o.0 o.1 (grind arith))
    ])
  where
    us : ℕ → Train
    us = with_train ts i up (b ∷ (ts i).body)

-- a train whose front is in x enters b, and b is reported
pub entered_sure : (p : Plan) (n : ℕ) (h : State) (o : Occupancy) (t : Positions) (ts : ℕ → Train) (i x b r j : ℕ) (xs : List ℕ) → Sound p → Sure p n h t ts →
    i < n → (ts i).body ≡ x ∷ xs → b < p.sections → Enter p h (occupied n ts) t (ts i).up x b r j → o b ≡ true →
    let us : ℕ → Train = with_train ts i (ts i).up (b ∷ (ts i).body) in Sure p n (notes p h o) t us
entered_sure p n h o t ts i x b r j xs snd both less body inside e reported = (
  after_kept p h s z o t up x b r j snd e grown reported K,
  record {
    inside = λ k y lk a. elim (on_back ts i up b y k a) [ inl c ↦ rw c.1 inside | inr c ↦ U.inside k y lk c ];
    once = each_train ts i up (b ∷ (ts i).body) (λ k tr. k < n → Once tr.body)
        (λ lk. more b (ts i).body (untrue (among b (ts i).body) (λ a. clash (s b) (occupied_at n ts b i less a) e.vacant)) (U.once i less)) (λ k ne. U.once k);
    apart = λ k m y lk lm ne a c.
        let a' = on_back ts i up b y k a in let c' = on_back ts i up b y m c in let both = U.apart k m y lk lm ne in
        let k' = occupied_at n ts y k lk in let m' = occupied_at n ts y m lm in let b' = e.vacant in grind arith;
    hangs = each_train ts i up (b ∷ (ts i).body) (λ k tr. k < n → Hangs p t tr.up tr.body)
        (λ lk. rw body (in_more b x xs e.join (rw body at (U.hangs i less)))) (λ k ne. U.hangs k);
    ahead = λ k y ys. each_train ts i up (b ∷ (ts i).body) (λ k tr. k < n → tr.body ≡ y ∷ ys → Ahead p (notes p h o) z t tr.up y)
        (λ lk eq. subst (λ (c : ℕ). Ahead p (notes p h o) z t up c) (front_of (b ∷ (ts i).body) y ys eq) (after_ahead p h s z o t up x b r j snd e grown reported inside))
        (λ m ne lm eq. after_others p h s z o t up x b r j snd e grown reported (occupied_at n ts x i less front_in) (ts m).up y
        (λ lock same. U.apart m i y lm less ne (front_among (ts m).body y ys eq) (rw same front_in)) (U.ahead m y ys lm eq)) k;
  },
)
  where
    K : Kept p h (occupied n ts) t
    K = both.0

    U : Run p n h t ts
    U = both.1

    up : Bool
    up = (ts i).up

    s : Occupancy
    s = occupied n ts

    z : Occupancy
    z = occupied n (with_train ts i up (b ∷ (ts i).body))

    grown : (y : ℕ) → z y ≡ (eqb y b || s y)
    grown y = occupied_on n ts i up b y less

    front_in : among x (ts i).body ≡ true
    front_in = front_among (ts i).body x xs body

-- GOES: what it takes is a section beyond the front, and no signal there or some open route that begins there, and that this section is reported occupied (o)
pub goes_sure : (p : Plan) (n : ℕ) (h : State) (o : Occupancy) (t : Positions) (ts : ℕ → Train) (i x : ℕ) (xs : List ℕ) → Sound p → Sure p n h t ts →
    i < n → (ts i).body ≡ x ∷ xs → beyond p t (ts i).up x < p.sections → (p.signal (ts i).up x ≡ false) ⊎ ((r : ℕ) × Open p h (ts i).up x r) → o (beyond p t (ts i).up x) ≡ true →
    let us : ℕ → Train = with_train ts i (ts i).up (beyond p t (ts i).up x ∷ (ts i).body) in Sure p n (notes p h o) t us
goes_sure p n h o t ts i x xs snd k less body inside may reported =
    let e = enters p h (occupied n ts) t (ts i).up x snd k.0 (k.1.ahead i x xs less body) inside may in
    entered_sure p n h o t ts i x (beyond p t (ts i).up x) e.0 e.1 xs snd k less body inside e.2 reported

-- what `can` says
pub can_go : (p : Plan) (n : ℕ) (w : World) (i : ℕ) → can p n w (Goes i) ≡ true →
    let x : ℕ = front (w.trains i).body in let up : Bool = (w.trains i).up in
    (i < n) × (empty (w.trains i).body ≡ false) × (beyond p w.lies up x < p.sections) × ((not (p.signal up x) || open_here p w.interlocking up x (length p.routes)) ≡ true)
unfolding can
can_go p n w i ok = grind arith

pub goes_keeps : (p : Plan) (n : ℕ) (w : World) (i : ℕ) → Sound p → Safe p n w → can p n w (Goes i) ≡ true → Safe p n (next p n w (Goes i))
unfolding state_after lies_after trains_after notes
goes_keeps p n w i snd safe ok =
    let c = can_go p n w i ok in
    let split = split_front (w.trains i).body c.1 in
    let up : Bool = (w.trains i).up in
    let x : ℕ = front (w.trains i).body in
    let b : ℕ = beyond p w.lies up x in
    let us : ℕ → Train = with_train w.trains i up (b ∷ (w.trains i).body) in
    let reported : occupied n us b ≡ true = rw (occupied_on n w.trains i up b b c.0) (grind arith) in
    let v = goes_sure p n w.interlocking (occupied n us) w.lies w.trains i x split.0 snd (safe.kept, safe.run) c.0 split.1 c.2 (may_go p w.interlocking up x c.3) reported in
    record {
      kept = v.0;
      run = v.1;
      books = notes_books p w.interlocking (occupied n w.trains) (occupied n us) safe.books;
      unmarked = notes_unmarked p w.interlocking (occupied n us) safe.unmarked (λ r l g y a. (v.0.waits r l g y a).1);
    }
