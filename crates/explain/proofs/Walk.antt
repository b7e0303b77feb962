-- Steps of the searches for a fault.
use Rattle.std.proofs.Common.{◌≡◌, ℕ, zero, suc, ◌+◌, ◌-◌, ◌<◌, ◌≤◌, Bool, true, false, not, ltb, List, [], ◌∷◌, Option, None, Some, is_some, length, get_or, take, drop, sym, refl, ap, ◌∙◌, subst, add-one, arith}
use Rattle.std.specs.Option.{MatchOption}
use Rattle.std.specs.List.{AllWithin, HoldsAt}
use Rattle.std.proofs.lemmas.List.{get_or-take, length-take-le}
use Rattle.plan.specs.Plan.{pick, sameb, Route, Plan, among, needed, repeated}
use Rattle.plan.specs.View.{no_need}
use Rattle.plan.specs.declared.Need.{Need}
use Rattle.plan.proofs.Walks.{all_at_places}
use Rattle.soundness.proofs.Each.{all_true}
use Rattle.soundness.specs.Tests.{agree, all_below, known, quiet, needed_so, route_test}
use Rattle.soundness.proofs.Loops.{a_place, differ_is}
use Rattle.soundness.specs.declared.RouteRule.TheVariants.{Differs, Agrees, Knows, Hangs, Passes}
use Rattle.explain.specs.Faults.{Again, Blames, Finds, Inner, Step}
use Rattle.explain.specs.declared.RouteFault.{RouteFault}
use Rattle.explain.specs.declared.RouteFault.TheVariants.{Twice, NeedsBoth, NoPoint, NoSection, Signal}

-- what a route needs at some place it needs
pub need_so : (ns : List Need) (i : ℕ) → i < length ns → needed_so (get_or ns i no_need).point (get_or ns i no_need).left ns ≡ true
unfolding needed_so sameb
need_so [] i l = absurd (omega arith)
need_so (n ∷ ns) zero l = grind arith
need_so (n ∷ ns) (suc i) l = let ih = need_so ns i (omega arith) in grind arith

pub need_known : (ns : List Need) (i : ℕ) → i < length ns → needed (get_or ns i no_need).point ns ≡ true
unfolding needed
need_known [] i l = absurd (omega arith)
need_known (n ∷ ns) zero l = grind arith
need_known (n ∷ ns) (suc i) l = let ih = need_known ns i (omega arith) in grind arith

-- what stands again stands at some place
again_on : (x y : ℕ) (xs : List ℕ) (b : Bool) → among x xs ≡ b → pick b (Some x) (repeated xs) ≡ Some y → (repeated xs ≡ Some y → Again y xs) → Again y (x ∷ xs)
again_on x y xs true e h f = let q : x ≡ y = cc in record { place = 0; inside = omega arith; here = q; later = subst (λ (k : ℕ). among k xs ≡ true) q e }
again_on x y xs false e h f =
    let a = f h in
    let n : suc a.place + 1 ≡ suc (a.place + 1) = omega arith in
    record { place = suc a.place; inside = omega (arith, a.inside); here = a.here; later = subst (λ (k : ℕ). among y (drop k (x ∷ xs)) ≡ true) (sym n) a.later }

again : (xs : List ℕ) (y : ℕ) → repeated xs ≡ Some y → Again y xs
unfolding repeated
again [] y h = absurd (cc)
again (x ∷ xs) y h = again_on x y xs (among x xs) refl h (again xs y)

pub among_at : (xs : List ℕ) (i : ℕ) → i < length xs → among (get_or xs i 0) xs ≡ true
unfolding among
among_at [] i l = absurd (omega arith)
among_at (x ∷ xs) zero l = grind arith
among_at (x ∷ xs) (suc i) l = let ih = among_at xs i (omega arith) in grind arith

-- 3
pub differs_by : (p : Plan) (r : Route) (x : ℕ) (xs : List ℕ) (b : Bool) (o : Option ℕ) (res : Option RouteFault) → x ≡ r.begin → xs ≡ r.path → b ≡ among x xs → b ≡ false → o ≡ repeated xs →
    MatchOption o (res ≡ None) (λ y. res ≡ Some (Twice y)) → Finds p r Differs res
unfolding route_test
differs_by p r x xs b None res f g e t h k = rw k (let d = differ_is x xs in let i = ap is_some h in grind arith)
differs_by p r x xs b (Some y) res f g e t h k = rw k (record { rule = refl; wrong = subst (λ ys. Again y ys) g (again xs y (sym h)) })

-- 4: what a route needs at one place it needs on the other side too
abbrev pub contrary : Route → Need → Bool
contrary r n = needed_so n.point (not n.left) r.needs

pub agrees_none : (p : Plan) (r : Route) (Y : Need → Type 0) (o : Option Need) (res : Option RouteFault) →
    MatchOption o ((i : ℕ) → i < length r.needs → contrary r (get_or r.needs i no_need) ≡ false) Y → o ≡ None → res ≡ None → Finds p r Agrees res
unfolding route_test agree
agrees_none p r Y None res h e f = rw f (all_at_places (agree r.needs) (λ n. not (contrary r n)) refl (λ n ns. refl) r.needs (λ i l. ap not (h i l)))
agrees_none p r Y (Some n) res h e f = absurd (cc)

both_on : (p : Plan) (r : Route) (n : Need) (i : ℕ) → i < length r.needs → get_or r.needs i no_need ≡ n → contrary r n ≡ true → Blames p r Agrees (NeedsBoth n.point)
both_on p r n i l e t = record { rule = refl; wrong = go n.left refl }
  where
    so : needed_so n.point n.left r.needs ≡ true
    so = let s = need_so r.needs i l in cc

    go : (k : Bool) → n.left ≡ k → (needed_so n.point true r.needs ≡ true) × (needed_so n.point false r.needs ≡ true)
    go true k = let s = so in (cc, cc)
    go false k = let s = so in (cc, cc)

pub agrees_some : (p : Plan) (r : Route) (X : Type 0) (o : Option Need) (n : Need) →
    MatchOption o X (λ m. (i : ℕ) × (i < length r.needs) × (get_or r.needs i no_need ≡ m) × (contrary r m ≡ true)) → o ≡ Some n → Blames p r Agrees (NeedsBoth n.point)
agrees_some p r X None n h e = absurd (cc)
agrees_some p r X (Some m) n h e = let q : m ≡ n = cc in subst (λ (k : Need). Blames p r Agrees (NeedsBoth k.point)) q (both_on p r m h.0 h.1 h.2 h.3)

-- 5
pub knows_none : (p : Plan) (r : Route) (k : ℕ) (Y : Need → Type 0) (o : Option Need) (res : Option RouteFault) → k ≡ p.points →
    MatchOption o ((i : ℕ) → i < length r.needs → (get_or r.needs i no_need).point < k) Y → o ≡ None → res ≡ None → Finds p r Knows res
unfolding route_test known
knows_none p r k Y None res g h e f = rw f (all_at_places (known p.points) (λ n. ltb n.point p.points) refl (λ n ns. refl) r.needs (λ i l. a_place _ _ _ _ refl g (h i l)))
knows_none p r k Y (Some n) res g h e f = absurd (cc)

pub knows_some : (p : Plan) (r : Route) (k : ℕ) (X : Type 0) (o : Option Need) (n : Need) → k ≡ p.points →
    MatchOption o X (λ m. (i : ℕ) × (i < length r.needs) × (get_or r.needs i no_need ≡ m) × (k ≤ m.point)) → o ≡ Some n → Blames p r Knows (NoPoint n.point k)
knows_some p r k X None n g h e = absurd (cc)
knows_some p r k X (Some m) n g h e =
    let q : m ≡ n = cc in
    let s = need_known r.needs h.0 h.1 in
    let t = h.2 in
    subst (λ (j : Need). Blames p r Knows (NoPoint j.point k)) q (record { rule = refl; wrong = (cc, sym g, h.3) })

-- 6
pub no_section : (p : Plan) (r : Route) (a b n : ℕ) → Step r a b → n ≡ p.sections → n ≤ b → Blames p r Hangs (NoSection b n)
no_section p r a b n s e l = let m = among_at r.path s.place s.inside in let t = s.to in record { rule = refl; wrong = (cc, sym e, l) }

pub step_next : (r : Route) (xs : List ℕ) (i : ℕ) → xs ≡ r.path → get_or xs i 0 ≡ get_or (r.begin ∷ r.path) (i + 1) 0
step_next r xs i e = rw add-one (ap (λ (ys : List ℕ). get_or ys i 0) e)

quiet_all : (p : Plan) (u : Bool) (xs : List ℕ) → ((k : ℕ) → k < length xs → p.signal u (get_or xs k 0) ≡ false) → quiet p u xs ≡ true
unfolding quiet
quiet_all p u [] h = refl
quiet_all p u (x ∷ xs) h = let a = h 0 (omega arith) in let b = quiet_all p u xs (λ k l. h (suc k) (omega arith)) in cc

inner_at : (xs : List ℕ) (k i x : ℕ) → k ≡ length xs - 1 → i < length (take k xs) → get_or (take k xs) i 0 ≡ x → Inner x xs
inner_at xs k i x e l g =
    let n : length (take k xs) ≡ k = length-take-le k xs (omega arith) in
    let t : i < k = grind arith in
    record { place = i; before = omega arith; here = sym (get_or-take k xs i 0 t) ∙ g }

abbrev Passed : Plan → Bool → List ℕ → Option ℕ → Type 0
Passed p u ys o = MatchOption o (AllWithin (λ x. p.signal u x ≡ false) ys 0 (length ys)) (λ x. (p.signal u x ≡ true) × (i : ℕ) × (i < length ys) × HoldsAt (λ y. y ≡ x) ys i × AllWithin (λ y. p.signal u y ≡ false) ys 0 i)

pub passes_none : (p : Plan) (r : Route) (xs : List ℕ) (k : ℕ) (u : Bool) (o : Option ℕ) (res : Option RouteFault) → xs ≡ r.path → k ≡ length xs - 1 → u ≡ r.up →
    Passed p u (take (k - 0) xs) o → o ≡ None → res ≡ None → Finds p r Passes res
unfolding route_test
passes_none p r xs k u None res a m f h e g = rw g (let z : k - 0 ≡ length xs - 1 = omega arith in let q = quiet_all p u (take (k - 0) xs) (λ i l. h i 0 (omega arith) l) in cc)
passes_none p r xs k u (Some x) res a m f h e g = absurd (cc)

pub passes_some : (p : Plan) (r : Route) (xs : List ℕ) (k : ℕ) (u : Bool) (o : Option ℕ) (x : ℕ) → xs ≡ r.path → k ≡ length xs - 1 → u ≡ r.up →
    Passed p u (take (k - 0) xs) o → o ≡ Some x → Blames p r Passes (Signal u x)
passes_some p r xs k u None x a m f h e = absurd (cc)
passes_some p r xs k u (Some y) x a m f h e =
    let q : y ≡ x = cc in
    subst (λ (z : ℕ). Blames p r Passes (Signal u z)) q (record { rule = refl; wrong = (sym f, subst (λ (zs : List ℕ). Inner y zs) a (inner_at xs (k - 0) h.1 y (omega arith) h.2 (h.3 0)), h.0) })

-- what holds of each number below n is tested of all
pub below_found : {T : Type 0} (n : ℕ) (f : ℕ → Bool) (Y : T → Type 0) (o : Option T) → MatchOption o ((k : ℕ) → k < n → f k ≡ true) Y → MatchOption o (all_below n f ≡ true) Y
below_found n f Y None h = all_true n f h
below_found n f Y (Some x) h = h

-- the same where a search found nothing
pub below_none : {T : Type 0} (n m : ℕ) (f : ℕ → Bool) (Y : T → Type 0) (X : ℕ → Type 0) (o : Option ℕ) (res : Option T) → n ≡ m →
    MatchOption o ((k : ℕ) → 0 ≤ k → k < n → f k ≡ true) X → o ≡ None → res ≡ None → MatchOption res (all_below m f ≡ true) Y
below_none n m f Y X None res g h e r = rw r (all_true m f (λ k l. h k (omega arith) (omega arith)))
below_none n m f Y X (Some q) res g h e r = absurd (cc)
