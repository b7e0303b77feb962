-- A route that is set, or can be, comes to be shown: turn each point that it needs, and clear it.
use Rattle.std.proofs.Common.{◌≡◌, ℕ, ◌<◌, Bool, true, eqb, ◌⊎◌, List, [], ◌∷◌, ◌++◌, length, sym, refl, ap, subst, inl, inr, append_assoc, arith, lt-ltb}
use Rattle.plan.specs.Plan.{pick, sameb, Plan, Positions, route, met, needed}
use Rattle.plan.specs.declared.Need.{Need}
use Rattle.interlocking.specs.declared.Stage.TheVariants.{Set, Shown}
use Rattle.interlocking.specs.State.{is_idle, State, Occupancy, does, done, fitted, acts}
use Rattle.interlocking.specs.declared.Request.TheVariants.{Ask, Clear}
use Rattle.model.specs.World.{World, occupied, can, lies_after, state_after, after, Lawful}
use Rattle.model.specs.declared.Event.{Event}
use Rattle.model.specs.declared.Event.TheVariants.{Asked, Turns}
use Rattle.soundness.specs.Sound.{Sound}
use Rattle.safety.specs.Promise.{Sized, is_request_or_turn, all_by, RequestsAndTurns, ComesToShow, SetComesToShow}
use Rattle.safety.proofs.Tests.{decide}
use Rattle.safety.proofs.Needs.{met_nil, met_tail, met_either}
use Rattle.safety.proofs.Steps.{always}

turnings : List Need → List Event
turnings [] = []
turnings (m ∷ ms) = Turns m.point ∷ turnings ms

turnings_lawful : (p : Plan) (n : ℕ) (t : Positions) (hs : List Event) (ms : List Need) → ((q : ℕ) → needed q ms ≡ true → q < p.points) → Lawful p n t hs →
    Lawful p n t (turnings ms ++ hs)
unfolding turnings Lawful can needed
turnings_lawful p n t hs [] known l = l
turnings_lawful p n t hs (m ∷ ms) known l =
    (lt-ltb m.point p.points (known m.point (grind arith)), turnings_lawful p n t hs ms (λ q e. known q (grind arith)) l)

turnings_only : (ms : List Need) → RequestsAndTurns (turnings ms)
unfolding turnings all_by is_request_or_turn
turnings_only [] = refl
turnings_only (m ∷ ms) = turnings_only ms

turnings_state : (p : Plan) (n : ℕ) (t : Positions) (hs : List Event) (ms : List Need) → (after p n t (turnings ms ++ hs)).interlocking ≡ (after p n t hs).interlocking
unfolding turnings after state_after
turnings_state p n t hs [] = refl
turnings_state p n t hs (m ∷ ms) = turnings_state p n t hs ms

-- when one more point has turned
lies_either : (q : ℕ) (a b : Positions) (k : ℕ) → (pick (eqb k q) (a k) (b k) ≡ a k) ⊎ (pick (eqb k q) (a k) (b k) ≡ b k)
lies_either q a b k = elim (decide (eqb k q)) [ inl e ↦ inl (grind arith) | inr e ↦ inr (grind arith) ]

met_more : (q : ℕ) (a b : Positions) (m : Need) (ms : List Need) → q ≡ m.point → met a (m ∷ ms) ≡ true → met b ms ≡ true → met (λ k. pick (eqb k q) (a k) (b k)) (m ∷ ms) ≡ true
unfolding met sameb
met_more q a b m ms at h k = let rest = met_either a b (λ k. pick (eqb k q) (a k) (b k)) ms (lies_either q a b) in grind arith

turnings_met : (p : Plan) (n : ℕ) (t : Positions) (hs : List Event) (ms : List Need) → met (after p n t hs).interlocking.wanted ms ≡ true →
    met (after p n t (turnings ms ++ hs)).lies ms ≡ true
unfolding turnings after lies_after
turnings_met p n t hs [] h = met_nil (after p n t hs).lies
turnings_met p n t hs (m ∷ ms) h =
    met_more m.point (after p n t (turnings ms ++ hs)).interlocking.wanted (after p n t (turnings ms ++ hs)).lies m ms refl
    (rw (turnings_state p n t hs ms) h) (turnings_met p n t hs ms (met_tail (after p n t hs).interlocking.wanted m ms h))

-- what is asked is done
clear_shows : (p : Plan) (h : State) (s : Occupancy) (t : Positions) (r : ℕ) → Sized p → r < length p.routes → h.stage r ≡ Set → met t (route p r).needs ≡ true → met h.wanted (route p r).needs ≡ true →
    (acts p h s t (Clear r)).stage r ≡ Shown
unfolding acts does done fitted
clear_shows p h s t r sz less e m w = let room = sz.routes in grind arith

ask_sets : (p : Plan) (h : State) (s : Occupancy) (t : Positions) (r : ℕ) → Sized p → does p h s t (Ask r) ≡ true → (acts p h s t (Ask r)).stage r ≡ Set
unfolding acts does done fitted
ask_sets p h s t r sz d = let room = sz.routes in grind arith

pub set_comes_to_show : (p : Plan) (n : ℕ) (t : Positions) (hs : List Event) → Sized p → Sound p → Lawful p n t hs → SetComesToShow p n t hs
unfolding after Lawful can state_after all_by is_request_or_turn
set_comes_to_show p n t hs sz snd l r e = (
  Asked (Clear r) ∷ turnings ms,
  turnings_only ms,
  (refl, turnings_lawful p n t hs ms (snd.routes_fit r less).known l),
  clear_shows p w.interlocking (occupied n w.trains) w.lies r sz less (rw same e) (turnings_met p n t hs ms wants) (rw same wants),
)
  where
    ms : List Need
    ms = (route p r).needs

    w : World
    w = after p n t (turnings ms ++ hs)

    less : r < length p.routes
    less = (always p n t hs sz snd l).books.named r (ap is_idle e)

    same : w.interlocking ≡ (after p n t hs).interlocking
    same = turnings_state p n t hs ms

    wants : met (after p n t hs).interlocking.wanted ms ≡ true
    wants = (always p n t hs sz snd l).kept.wants r less (ap is_idle e)

pub only_more : (f : Event → Bool) (gs ks : List Event) → all_by f gs ≡ true → all_by f ks ≡ true → all_by f (gs ++ ks) ≡ true
unfolding all_by
only_more f [] ks a b = b
only_more f (g ∷ gs) ks a b = let ih = only_more f gs ks in grind (arith, ih)

pub comes_to_show : (p : Plan) (n : ℕ) (t : Positions) (hs : List Event) → Sized p → Sound p → Lawful p n t hs → ComesToShow p n t hs
unfolding after Lawful can state_after all_by is_request_or_turn
comes_to_show p n t hs sz snd l r d =
    let a = ask_sets p (after p n t hs).interlocking (occupied n (after p n t hs).trains) (after p n t hs).lies r sz d in
    let o = set_comes_to_show p n t (Asked (Ask r) ∷ hs) sz snd (refl, l) r a in
    let P : List Event → Type 0 = λ ks. Lawful p n t ks × ((after p n t ks).interlocking.stage r ≡ Shown) in
    let q : P ((o.0 ++ (Asked (Ask r) ∷ [])) ++ hs) = subst P (sym (append_assoc o.0 (Asked (Ask r) ∷ []) hs)) (o.2, o.3) in
    (o.0 ++ (Asked (Ask r) ∷ []), only_more is_request_or_turn o.0 (Asked (Ask r) ∷ []) o.1 refl, q.0, q.1)
