-- Locks, wants and what holds a point, over lists.
use Rattle.std.proofs.Common.{◌≡◌, ℕ, zero, suc, ◌+◌, ◌-◌, ◌<◌, ◌≤◌, Bool, true, false, not, ◌&&◌, ◌||◌, eqb, ◌≢◌, List, [], ◌∷◌, ◌++◌, length, get_or, set, is_some, sym, refl, ap, ◌∙◌, add-one, arith, eqb-true}
use borrow.Author.Tests.{eqb-false}
use Rattle.std.proofs.lemmas.List.{get_or-set_same, get_or-set_other, length-set, append_assoc, append-nil}
use Rattle.std.specs.List.{list_any}
use Rattle.std.specs.List.{range_with_len}
use Rattle.plan.specs.declared.Need.{Need}
use Rattle.plan.specs.Plan.{pick, Plan, Route, route, needed, among, last_of, marks}
use Rattle.plan.specs.Numbers.{plan_in, refused, routes_from}
use Rattle.plan.proofs.Formed.{formed}
use Rattle.plan.proofs.Parts.{length_routes}
use Rattle.interlocking.specs.State.{State, is_idle, held, with_wants, restaged, done, after_free, fitted}
use Rattle.interlocking.specs.Says.{state_of, lock_all, lock_path, want_all, with_wanted}
use Rattle.interlocking.specs.declared.Interlocking.{Interlocking}
use Rattle.interlocking.specs.declared.Stage.{Stage}
use Rattle.interlocking.specs.declared.Stage.TheVariants.{Idle, Set}
use Rattle.interlocking.specs.declared.Request.TheVariants.{Ask, Free}
use Rattle.interlocking.proofs.Sweeps.{written}
use Rattle.interlocking.proofs.States.{same_state}
use Rattle.interlocking.proofs.Fits.{Alike, alike_fits}

or_more : (f : ℕ → Bool) (a n : ℕ) → list_any f (range_with_len a (suc n)) ≡ f (a + n) || list_any f (range_with_len a n)
or_more f a zero = let z : a + 0 ≡ a = omega arith in cc
or_more f a (suc n) = let r = or_more f (a + 1) n in let z : a + 1 + n ≡ a + suc n = omega arith in or_through (f a) (f (a + suc n)) _ _ (cc)
  where
    or_through : (b c d e : Bool) → d ≡ c || e → b || d ≡ c || (b || e)
    or_through true true d e q = refl
    or_through true false d e q = refl
    or_through false c d e q = q

-- what the routes below a number hold, gone through from the first on
pub held_is : (p : Plan) (h : State) (q n : ℕ) → list_any (λ r. not (is_idle (h.stage r)) && needed q (route p r).needs) (range_with_len 0 n) ≡ held p h q n
unfolding held
held_is p h q zero = refl
held_is p h q (suc n) =
    let r = held_is p h q n in let m = or_more (λ r. not (is_idle (h.stage r)) && needed q (route p r).needs) 0 n in let z : 0 + n ≡ n = omega arith in cc

pub locked_at : (v : ℕ) (xs ls : List ℕ) (x : ℕ) → x < length ls → get_or (lock_all v xs ls) x 0 ≡ pick (among x xs) v (get_or ls x 0)
unfolding among
locked_at v [] ls x l = refl
locked_at v (y ∷ ys) ls x l = go (eqb x y) refl (locked_at v ys (set ls y v) x (simp length-set l))
  where
    both : (b : Bool) → pick b v v ≡ v
    both true = refl
    both false = refl

    go : (d : Bool) → eqb x y ≡ d → get_or (lock_all v ys (set ls y v)) x 0 ≡ pick (among x ys) v (get_or (set ls y v) x 0) → get_or (lock_all v ys (set ls y v)) x 0 ≡ pick (eqb x y || among x ys) v (get_or ls x 0)
    go true e ih =
        let z = eqb-true x y e in
        let k : y < length ls = omega arith in
        let a = get_or-set_same ls y v 0 k in
        let b = both (among x ys) in cc
    go false e ih =
        let z : x ≢ y = eqb-false x y e in
        let a = get_or-set_other ls y x v 0 z in cc

length_want : (ns : List Need) (w : List Bool) → length (want_all ns w) ≡ length w
length_want [] w = refl
length_want (n ∷ ns) w = length-set (want_all ns w) n.point n.left ∙ length_want ns w

pub wanted_at : (ns : List Need) (w : List Bool) (q : ℕ) → q < length w → get_or (want_all ns w) q false ≡ with_wants ns (marks w) q
unfolding with_wants
wanted_at [] w q l = refl
wanted_at (n ∷ ns) w q l = go (eqb q n.point) refl (wanted_at ns w q l)
  where
    go : (d : Bool) → eqb q n.point ≡ d → get_or (want_all ns w) q false ≡ with_wants ns (marks w) q → get_or (set (want_all ns w) n.point n.left) q false ≡ pick (eqb q n.point) n.left (with_wants ns (marks w) q)
    go true e ih =
        let z = eqb-true q n.point e in
        let s = length_want ns w in
        let k : n.point < length (want_all ns w) = omega arith in
        let a = get_or-set_same (want_all ns w) n.point n.left false k in cc
    go false e ih =
        let z : q ≢ n.point = eqb-false q n.point e in
        let a = get_or-set_other (want_all ns w) n.point q n.left false z in cc

granted_alike : (p : Plan) (h l w g : Interlocking) (r : ℕ) (k : Route) (path : List ℕ) → length h.locks ≡ 64 → length h.wanted ≡ 32 →
    k ≡ route p r → path ≡ k.path → l ≡ lock_path (r + 1) path h → w ≡ with_wanted l (want_all k.needs l.wanted) →
    state_of g ≡ restaged (state_of w) r Set → Alike (state_of g) (done p (state_of h) (Ask r))
unfolding done
granted_alike p h l w g r k path nl nw ek ep el ew eg = record {
  lock = λ x b.
      let m : x < length h.locks = omega arith in
      let a = locked_at (r + 1) path h.locks x m in
      let s = add-one r in
      let e : get_or g.locks x 0 ≡ get_or w.locks x 0 = ap (λ (z : State). z.lock x) eg in
      let f : get_or w.locks x 0 ≡ get_or (lock_all (r + 1) path h.locks) x 0 = ap (λ (z : Interlocking). get_or z.locks x 0) (ew ∙ ap (λ (z : Interlocking). with_wanted z (want_all k.needs z.wanted)) el) in cc;
  passed = λ x b.
      let e : get_or g.passed x false ≡ get_or w.passed x false = ap (λ (z : State). z.passed x) eg in
      let f : get_or w.passed x false ≡ get_or h.passed x false = ap (λ (z : Interlocking). get_or z.passed x false) (ew ∙ ap (λ (z : Interlocking). with_wanted z (want_all k.needs z.wanted)) el) in e ∙ f;
  stage = λ x b.
      let e : get_or g.stages x Idle ≡ pick (eqb x r) Set (get_or w.stages x Idle) = ap (λ (z : State). z.stage x) eg in
      let f : get_or w.stages x Idle ≡ get_or h.stages x Idle = ap (λ (z : Interlocking). get_or z.stages x Idle) (ew ∙ ap (λ (z : Interlocking). with_wanted z (want_all k.needs z.wanted)) el) in cc;
  wanted = λ x b.
      let m : x < length h.wanted = omega arith in
      let a = wanted_at k.needs h.wanted x m in
      let e : get_or g.wanted x false ≡ get_or w.wanted x false = ap (λ (z : State). z.wanted x) eg in
      let f : get_or w.wanted x false ≡ get_or (want_all k.needs h.wanted) x false = ap (λ (z : Interlocking). get_or z.wanted x false) (ew ∙ ap (λ (z : Interlocking). with_wanted z (want_all k.needs z.wanted)) el) in
      let j : with_wants k.needs (marks h.wanted) x ≡ with_wants (route p r).needs (marks h.wanted) x = ap (λ (z : Route). with_wants z.needs (marks h.wanted) x) ek in
      e ∙ f ∙ a ∙ j;
}

pub granted_is : (p : Plan) (h l w g : Interlocking) (r v : ℕ) (k : Route) (path : List ℕ) → length h.locks ≡ 64 → length h.wanted ≡ 32 →
    length g.locks ≡ 64 → length g.passed ≡ 64 → length g.stages ≡ 64 → length g.wanted ≡ 32 →
    k ≡ route p r → path ≡ k.path → v ≡ r + 1 → l ≡ lock_path v path h → w ≡ with_wanted l (want_all k.needs l.wanted) →
    state_of g ≡ restaged (state_of w) r Set → state_of g ≡ fitted (done p (state_of h) (Ask r))
granted_is p h l w g r v k path nl nw a b c d ek ep ev el ew eg =
    alike_fits g _ a b c d (granted_alike p h l w g r k path nl nw ek ep (el ∙ ap (λ (z : ℕ). lock_path z path h) ev) ew eg)

-- the needs gone through from the last on: what is left of them, and the rest
pub want_back : (e s g : Interlocking) (left front rest all : List Need) (n : Need) → left ≡ front ++ n ∷ [] → left ++ rest ≡ all → s ≡ with_wanted e (want_all rest e.wanted) →
    g ≡ with_wanted s (set s.wanted n.point n.left) → (x : List Need) × (front ++ x ≡ all) × (g ≡ with_wanted e (want_all x e.wanted))
want_back e s g left front rest all n el ea es eg =
    (n ∷ rest, sym (append_assoc front (n ∷ []) rest) ∙ ap (λ k. k ++ rest) (sym el) ∙ ea, eg ∙ ap (λ (k : Interlocking). with_wanted k (set k.wanted n.point n.left)) es)

pub want_first : (e : Interlocking) (left all : List Need) → left ≡ all → (x : List Need) × (left ++ x ≡ all) × (e ≡ with_wanted e (want_all x e.wanted))
want_first e left all h = ([], append-nil left ∙ h, refl)

pub want_through : (e s : Interlocking) (left rest all : List Need) → left ≡ [] → left ++ rest ≡ all → s ≡ with_wanted e (want_all rest e.wanted) → s ≡ with_wanted e (want_all all e.wanted)
want_through e s left rest all el ea es =
    let r : rest ≡ all = ap (λ k. k ++ rest) (sym el) ∙ ea in es ∙ ap (λ (k : List Need). with_wanted e (want_all k e.wanted)) r

-- a section freed
pub freed_is : (p : Plan) (h : Interlocking) (x r : ℕ) (k : Route) (o : Bool) (g : Stage) → x < length h.locks → x < length h.passed → r < length h.stages →
    r ≡ get_or h.locks x 0 - 1 → k ≡ route p r → o ≡ eqb x (last_of 0 k.path) → g ≡ pick o Idle (get_or h.stages r Idle) →
    state_of (record { locks = set h.locks x 0; passed = set h.passed x false; stages = set h.stages r g; wanted = h.wanted }) ≡ done p (state_of h) (Free x)
unfolding done after_free
freed_is p h x r k o g a b c er ek eo eg = same_state _ _
    (λ y. written h.locks x 0 y 0 a) (λ y. written h.passed x false y false b)
    (λ y. let s = written h.stages r g y Idle c in cc) (λ y. refl)

-- a lock stands at a section that there can be
pub within_locked : (ls : List ℕ) (x : ℕ) → 0 < get_or ls x 0 → x < length ls
within_locked [] x h = absurd (omega arith)
within_locked (y ∷ ys) zero h = omega arith
within_locked (y ∷ ys) (suc x) h = let r = within_locked ys x h in omega arith

-- a plan has 64 routes at most
pub few_routes : (xs : List ℕ) → is_some (refused xs) ≡ false → length (plan_in xs).routes ≤ 64
unfolding plan_in
few_routes xs h = let n = length_routes xs (routes_from xs) (get_or xs 3 0) in let f = (formed xs h).routes in omega arith
