-- Lemmas on needs: points that lie as needed, and points that are wanted as needed.
use Rattle.std.proofs.Common.{◌≡◌, ℕ, zero, suc, ◌<◌, true, false, ◌⊎◌, List, [], ◌∷◌, length, sym, refl, ◌∙◌, arith}
use Rattle.plan.specs.Plan.{sameb, Plan, Positions, route, met, needed}
use Rattle.plan.specs.declared.Need.{Need}
use Rattle.interlocking.specs.State.{is_idle, State, Occupancy, held, can_have, with_wants}
use Rattle.safety.proofs.Tests.{cases}

pub met_nil : (t : Positions) → met t [] ≡ true
unfolding met
met_nil t = refl

pub met_tail : (t : Positions) (m : Need) (ms : List Need) → met t (m ∷ ms) ≡ true → met t ms ≡ true
unfolding met
met_tail t m ms h = grind arith

-- two ways to lie that meet the same needs are the same at each point that is needed
pub met_same : (t u : Positions) (ns : List Need) (q : ℕ) → met t ns ≡ true → met u ns ≡ true → needed q ns ≡ true → t q ≡ u q
unfolding met needed sameb
met_same t u [] q a b c = grind arith
met_same t u (n ∷ ns) q a b c = let ih = met_same t u ns q in grind (arith, ih)

-- one that is the same at each point that is needed meets them too
pub met_agree : (t u : Positions) (ns : List Need) → met t ns ≡ true → ((q : ℕ) → needed q ns ≡ true → u q ≡ t q) → met u ns ≡ true
unfolding met needed sameb
met_agree t u [] a f = refl
met_agree t u (n ∷ ns) a f =
    let ih : met t ns ≡ true → met u ns ≡ true = λ e. met_agree t u ns e (λ q g. f q (grind arith)) in
    let here = f n.point in grind (arith, ih, here)

-- and so does one that is everywhere as one of two that do
pub met_either : (t u v : Positions) (ms : List Need) → ((q : ℕ) → (v q ≡ t q) ⊎ (v q ≡ u q)) → met t ms ≡ true → met u ms ≡ true → met v ms ≡ true
unfolding met sameb
met_either t u v [] c h k = refl
met_either t u v (m ∷ ms) c h k = let ih = met_either t u v ms c in let q = c m.point in grind arith

-- what is not needed is wanted as before
pub with_wants_out : (ns : List Need) (t : Positions) (q : ℕ) → needed q ns ≡ false → with_wants ns t q ≡ t q
unfolding with_wants needed
with_wants_out [] t q a = refl
with_wants_out (n ∷ ns) t q a = let ih = with_wants_out ns t q in grind (arith, ih)

-- where all needs can be met together, one that is needed is wanted so
pub with_wants_in : (ns : List Need) (t u : Positions) (q : ℕ) → met u ns ≡ true → needed q ns ≡ true → with_wants ns t q ≡ u q
unfolding with_wants needed met sameb
with_wants_in [] t u q a b = grind arith
with_wants_in (n ∷ ns) t u q a b = let ih = with_wants_in ns t u q in grind (arith, ih)

-- and so all are met by what is wanted then
pub with_wants_met : (ns : List Need) (t u : Positions) → met u ns ≡ true → met (with_wants ns t) ns ≡ true
with_wants_met ns t u m = met_agree u (with_wants ns t) ns m (λ q e. with_wants_in ns t u q m e)

-- nothing holds a point, and nothing stands or is locked where it lies
pub record Loose (p : Plan) (h : State) (o : Occupancy) (q : ℕ) : Type 0 where
  pub unheld : held p h q (length p.routes) ≡ false
  pub empty_place : o (p.place q) ≡ false
  pub unlock : h.lock (p.place q) ≡ 0

pub can_have_at : (p : Plan) (h : State) (o : Occupancy) (ns : List Need) (u : Positions) (q : ℕ) →
    can_have p h o ns ≡ true → met u ns ≡ true → needed q ns ≡ true → (Loose p h o q → ⊥) → h.wanted q ≡ u q
unfolding can_have needed met sameb
can_have_at p h o [] u q a b c f = grind arith
can_have_at p h o (n ∷ ns) u q a b c f =
    let ih = can_have_at p h o ns u q in
    let loose : held p h q (length p.routes) ≡ false → o (p.place q) ≡ false → h.lock (p.place q) ≡ 0 → ⊥ = λ x y z. f (record { unheld = x; empty_place = y; unlock = z }) in
    grind (arith, ih, loose)

-- of needs that can be had, a point that isn't loose is wanted as it was
pub wanted_still : (p : Plan) (h : State) (o : Occupancy) (ns : List Need) (u : Positions) (q : ℕ) →
    can_have p h o ns ≡ true → met u ns ≡ true → (Loose p h o q → ⊥) → with_wants ns h.wanted q ≡ h.wanted q
wanted_still p h o ns u q c m f =
    cases (needed q ns) (λ e. with_wants_in ns h.wanted u q m e ∙ sym (can_have_at p h o ns u q c m e f)) (λ e. with_wants_out ns h.wanted q e)

-- what nothing holds, no route that isn't idle needs
pub held_none : (p : Plan) (h : State) (q n r : ℕ) → held p h q n ≡ false → r < n → is_idle (h.stage r) ≡ false → needed q (route p r).needs ≡ false
unfolding held
held_none p h q zero r a b c = grind arith
held_none p h q (suc n) r a b c = let ih = held_none p h q n r in grind (arith, ih)
