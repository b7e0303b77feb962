-- Asking for a route keeps what is safe. The lemmas are over any list of sections (xs) and of needs (ns) that serve as the route's path and needs.
use Rattle.std.proofs.Common.{◌≡◌, ℕ, ◌<◌, true, false, List, [], ◌∷◌, length, get_or, refl, ◌∙◌, arith}
use Rattle.plan.specs.declared.Need.{Need}
use Rattle.plan.specs.Plan.{Plan, Positions, route, met, among, needed}
use Rattle.soundness.specs.Sound.{Sound}
use Rattle.interlocking.specs.declared.Stage.TheVariants.{Set}
use Rattle.interlocking.specs.State.{is_idle, State, Occupancy, all_free, can_have, with_wants, with_stage, locked, does, done}
use Rattle.interlocking.specs.declared.Request.TheVariants.{Ask}
use Rattle.model.specs.World.{Train, occupied}
use Rattle.safety.specs.Safe.{Kept, Run, Books, Unmarked, Covers, Sure}
use Rattle.safety.proofs.Tests.{clash, either_way, fails}
use Rattle.safety.proofs.Needs.{Loose, met_agree, with_wants_met, wanted_still, held_none}
use Rattle.safety.proofs.Carry.{route_moves, run_moves}

-- a state in which a route is set: these sections are locked for it, and points are wanted as these needs say
abbrev pub asks : State → ℕ → List ℕ → List Need → State
asks h r xs ns = record { lock = locked h r xs; passed = h.passed; stage = with_stage h.stage r Set; wanted = with_wants ns h.wanted }

-- sections that are all free, read at one of them
all_free_at : (h : State) (o : Occupancy) (xs : List ℕ) (x : ℕ) → all_free h o xs ≡ true → among x xs ≡ true → (h.lock x ≡ 0) × (o x ≡ false)
unfolding among all_free
all_free_at h o [] x a b = grind arith
all_free_at h o (y ∷ ys) x a b = let ih = all_free_at h o ys x in grind (arith, ih)

-- what it takes: an idle route of the plan, the sections not locked and not reported occupied, the needs to be had
pub record Asked (p : Plan) (h : State) (o : Occupancy) (r : ℕ) (xs : List ℕ) (ns : List Need) : Type 0 where
  pub there : r < length p.routes
  pub rests : is_idle (h.stage r) ≡ true
  pub vacant : (x : ℕ) → among x xs ≡ true → (h.lock x ≡ 0) × (o x ≡ false)
  pub had : can_have p h o ns ≡ true

pub asked : (p : Plan) (h : State) (o : Occupancy) (u : Positions) (r : ℕ) → does p h o u (Ask r) ≡ true → Asked p h o r (route p r).path (route p r).needs
unfolding does
asked p h o u r ok =
    record { there = grind arith; rests = grind arith; vacant = λ x e. all_free_at h o (route p r).path x (grind arith) e; had = grind arith }

module _ (p : Plan) (h : State) (s o : Occupancy) (t u : Positions) (r : ℕ) (xs : List ℕ) (ns : List Need) (covers : Covers o s) (can : met u ns ≡ true)
    (all : (x : ℕ) → among x xs ≡ among x (route p r).path) (serves : (v : Positions) → met v ns ≡ true → met v (route p r).needs ≡ true)
    (k : Kept p h s t) (a : Asked p h o r xs ns) where
  -- a point that isn't loose is wanted as it was
  same_wanted : (q : ℕ) → (Loose p h o q → ⊥) → with_wants ns h.wanted q ≡ h.wanted q
  same_wanted q f = wanted_still p h o ns u q a.had can f

  ask_wants : (r' : ℕ) → r' < length p.routes → is_idle (with_stage h.stage r Set r') ≡ false → met (with_wants ns h.wanted) (route p r').needs ≡ true
  ask_wants r' l b = either_way r' r
      (λ e. rw e (serves (with_wants ns h.wanted) (with_wants_met ns h.wanted u can)))
      (λ e. let busy : is_idle (h.stage r') ≡ false = grind arith in
      met_agree h.wanted (with_wants ns h.wanted) (route p r').needs (k.wants r' l busy)
      (λ q d. same_wanted q (λ f. clash (needed q (route p r').needs) d (held_none p h q (length p.routes) r' f.unheld l busy))))

  really : (x : ℕ) → among x xs ≡ true → (h.lock x ≡ 0) × (s x ≡ false)
  really x e = let v = a.vacant x e in (v.0, fails (o x) (s x) (covers x) v.1)

  pub ask_kept : Kept p (asks h r xs ns) s t
  ask_kept = record {
    still = λ q l b. same_wanted q (λ f. clash (o (p.place q)) (covers (p.place q) b) f.empty_place) ∙ k.still q l b;
    owner = λ x r' e. let old = k.owner x r' in let l = a.there in let same = all x in grind (arith, old, l);
    waits = λ r' l b x c. let old = k.waits r' l in let new = really x in let same = all x in grind (arith, old, new);
    wants = ask_wants;
    lies = λ r' l b. k.lies r' l (grind arith);
  }

pub ask_run : (p : Plan) (n : ℕ) (h : State) (o : Occupancy) (t : Positions) (ts : ℕ → Train) (r : ℕ) (xs : List ℕ) (ns : List Need) → Asked p h o r xs ns → Run p n h t ts → Run p n (asks h r xs ns) t ts
ask_run p n h o t ts r xs ns a run = run_moves p n h (asks h r xs ns) t ts run
    (λ up x r' k c q. route_moves p h (asks h r xs ns) (occupied n ts) (occupied n ts) t up x r' k q
    (let e = q.in_use in let i = a.rests in grind arith)
    (λ j b d l. let v = a.vacant (get_or (route p r').path j 0) in grind arith) (λ j b d l v. v))

pub ask_sure : (p : Plan) (n : ℕ) (h : State) (o : Occupancy) (t u : Positions) (ts : ℕ → Train) (r : ℕ) → Sound p → Covers o (occupied n ts) → Sure p n h t ts →
    does p h o u (Ask r) ≡ true → Sure p n (done p h (Ask r)) t ts
unfolding done
ask_sure p n h o t u ts r snd covers k ok =
    let a = asked p h o u r ok in
    let way = (snd.routes_fit r a.there).meets in (
      ask_kept p h (occupied n ts) o t way.0 r (route p r).path (route p r).needs covers way.1 (λ x. refl) (λ v e. e) k.0 a,
      ask_run p n h o t ts r (route p r).path (route p r).needs a k.1,
    )

pub ask_books : (p : Plan) (h : State) (o : Occupancy) (r : ℕ) (xs : List ℕ) (ns : List Need) → Asked p h o r xs ns → Books p h o → Books p (asks h r xs ns) o
ask_books p h o r xs ns a b = record {
  named = λ r' e. let old = b.named r' in let new = a.there in grind (arith, old, new);
  soon = λ r' m e. b.soon r' m (grind arith);
  marked = λ x r' l c. let old = b.marked x r' in let new = a.vacant x in grind (arith, old, new);
}

pub ask_unmarked : (p : Plan) (h : State) (o : Occupancy) (r : ℕ) (xs : List ℕ) (ns : List Need) → ((x : ℕ) → among x xs ≡ among x (route p r).path) → Asked p h o r xs ns → Unmarked p h → Unmarked p (asks h r xs ns)
ask_unmarked p h o r xs ns all a b = record {
  clean = λ x e. b.clean x (grind arith);
  fresh = λ r' l w x c. let old = b.fresh r' l in let new = a.vacant x in let clean = b.clean x in let same = all x in grind (arith, old, new, clean);
}
