-- Two paths gone through side by side, and the tests by which two routes are told to be strangers.
use Rattle.std.proofs.Common.{◌≡◌, ℕ, ◌+◌, ◌<◌, ◌≤◌, Bool, true, false, ◌&&◌, ◌||◌, ◌⊎◌, List, [], ◌∷◌, ltb, min, length, get_or, sym, refl, ◌∙◌, subst, inl, inr, arith, below_more, ltb-true}
use Rattle.plan.specs.Plan.{Plan, Route, route, among, needed}
use Rattle.plan.specs.declared.Need.{Need}
use Rattle.safety.specs.Promise.{Strangers}
use Rattle.safety.specs.Sides.{clear_of, all_unrelated}
use Rattle.safety.proofs.Tests.{clash, untrue}
use Rattle.safety.proofs.Lists.{among_at, among_place, among_head, among_tail}

-- PATHS
pub clear_says : (xs ys : List ℕ) → clear_of xs ys ≡ true → (x : ℕ) → among x xs ≡ true → among x ys ≡ false
unfolding clear_of among
clear_says [] ys c x a = absurd (grind arith)
clear_says (y ∷ xs) ys c x a = let ih = clear_says xs ys in grind (arith, ih)

pub clear_all : (xs ys : List ℕ) → ((x : ℕ) → among x xs ≡ true → among x ys ≡ false) → clear_of xs ys ≡ true
unfolding clear_of
clear_all [] ys f = refl
clear_all (x ∷ xs) ys f = let here = f x (among_head x xs) in let ih = clear_all xs ys (λ y a. f y (among_tail y x xs a)) in grind arith

-- of the sections at the first places of both, none is in the other path
abbrev pub Passed : List ℕ → List ℕ → ℕ → Type 0
Passed xs ys i = (k : ℕ) → k < i → (among (get_or xs k 0) ys ≡ false) × (among (get_or ys k 0) xs ≡ false)

-- the sections at one place of both
pub record Pair (xs ys : List ℕ) (i x y : ℕ) : Type 0 where
  pub first : i < length xs
  pub second : i < length ys
  pub x_is : x ≡ get_or xs i 0
  pub y_is : y ≡ get_or ys i 0

pub passed_more : (xs ys : List ℕ) (i j x y : ℕ) (b : Bool) → Pair xs ys i x y → Passed xs ys i → b ≡ (among x ys || among y xs) → b ≡ false → j ≡ i + 1 → Passed xs ys j
passed_more xs ys i j x y b t p e f g =
    let n : among x ys ≡ false = grind arith in
    let m : among y xs ≡ false = grind arith in
    subst (λ (k : ℕ). Passed xs ys k) (sym g)
    (below_more (λ k. (among (get_or xs k 0) ys ≡ false) × (among (get_or ys k 0) xs ≡ false)) i p (rw (← t.x_is) n, rw (← t.y_is) m))

ends : (n m i : ℕ) → i ≡ min n m → (n ≤ i) ⊎ (m ≤ i)
ends n m i e = go (ltb n m) refl
  where
    go : (b : Bool) → ltb n m ≡ b → (n ≤ i) ⊎ (m ≤ i)
    go true q = let l : n < m = ltb-true n m q in inl (omega arith)
    go false q = let l : m ≤ n = grind arith in inr (omega arith)

-- the shorter was gone through: a section in both would have been found, wherever the other path has it
pub passed_all : (xs ys : List ℕ) (i : ℕ) → i ≡ min (length xs) (length ys) → Passed xs ys i → true ≡ clear_of xs ys
passed_all xs ys i done p = sym (clear_all xs ys (λ x a. untrue (among x ys) (λ b. go (ends (length xs) (length ys) i done) x a b)))
  where
    go : (length xs ≤ i) ⊎ (length ys ≤ i) → (x : ℕ) → among x xs ≡ true → among x ys ≡ true → ⊥
    go (inl l) x a b = let at = among_place x xs a in clash (among x ys) b (rw (← at.2) (p at.0 (omega (arith, at.1))).0)
    go (inr l) x a b = let at = among_place x ys b in clash (among x xs) a (rw (← at.2) (p at.0 (omega (arith, at.1))).1)

-- one of two sections at a place is in the other path
pub passed_stop : (xs ys : List ℕ) (i x y : ℕ) (b : Bool) → Pair xs ys i x y → b ≡ (among x ys || among y xs) → b ≡ true → false ≡ clear_of xs ys
passed_stop xs ys i x y b t e f = sym (untrue (clear_of xs ys) (λ c.
    let one : among x ys ≡ false = clear_says xs ys c x (rw t.x_is (among_at xs i t.first)) in
    let two = clear_says xs ys c y in
    let in_own : among y ys ≡ true = rw t.y_is (among_at ys i t.second) in grind arith))

-- POINTS
pub unrelated_says : (p : Plan) (r : Route) (ns : List Need) → all_unrelated p r ns ≡ true → (q : ℕ) → needed q ns ≡ true → (needed q r.needs ≡ false) × (among (p.place q) r.path ≡ false)
unfolding all_unrelated needed
unrelated_says p r [] u q e = absurd (grind arith)
unrelated_says p r (n ∷ ns) u q e = let ih = unrelated_says p r ns in grind (arith, ih)

needed_head : (n : Need) (ns : List Need) → needed n.point (n ∷ ns) ≡ true
unfolding needed
needed_head n ns = grind arith

needed_tail : (q : ℕ) (n : Need) (ns : List Need) → needed q ns ≡ true → needed q (n ∷ ns) ≡ true
unfolding needed
needed_tail q n ns e = grind arith

pub unrelated_all : (p : Plan) (r : Route) (ns : List Need) → ((q : ℕ) → needed q ns ≡ true → (needed q r.needs ≡ false) × (among (p.place q) r.path ≡ false)) → all_unrelated p r ns ≡ true
unfolding all_unrelated
unrelated_all p r [] f = refl
unrelated_all p r (n ∷ ns) f =
    let here = f n.point (needed_head n ns) in let ih = unrelated_all p r ns (λ q e. f q (needed_tail q n ns e)) in grind arith

-- BOTH: the three tests, of what the plan has for two routes
tests_yes : (p : Plan) (a b : ℕ) → clear_of (route p a).path (route p b).path ≡ true → all_unrelated p (route p b) (route p a).needs ≡ true →
    all_unrelated p (route p a) (route p b).needs ≡ true → Strangers p a b
tests_yes p a b c d e = record {
  sections = clear_says (route p a).path (route p b).path c;
  points = unrelated_says p (route p b) (route p a).needs d;
  points_too = λ q f. (unrelated_says p (route p a) (route p b).needs e q f).1;
}

tests_all : (p : Plan) (a b : ℕ) → Strangers p a b → (clear_of (route p a).path (route p b).path ≡ true) × (all_unrelated p (route p b) (route p a).needs ≡ true) ×
    (all_unrelated p (route p a) (route p b).needs ≡ true)
tests_all p a b st = (
  clear_all (route p a).path (route p b).path st.sections,
  unrelated_all p (route p b) (route p a).needs st.points,
  unrelated_all p (route p a) (route p b).needs (λ q e.
      (untrue (needed q (route p a).needs) (λ f. clash (needed q (route p b).needs) e (st.points q f).0), st.points_too q e)),
)

-- as they come out: one and other are those routes, xs and ys their paths
pub record Told (p : Plan) (a b : ℕ) (one other : Route) (xs ys : List ℕ) (c d e : Bool) : Type 0 where
  pub first : one ≡ route p a
  pub second : other ≡ route p b
  pub path : xs ≡ one.path
  pub path_too : ys ≡ other.path
  pub clear : c ≡ clear_of xs ys
  pub points : d ≡ all_unrelated p other one.needs
  pub points_too : e ≡ all_unrelated p one other.needs

told : (p : Plan) (a b : ℕ) (one other : Route) (xs ys : List ℕ) (c d e : Bool) → Told p a b one other xs ys c d e →
    (c ≡ clear_of (route p a).path (route p b).path) × (d ≡ all_unrelated p (route p b) (route p a).needs) × (e ≡ all_unrelated p (route p a) (route p b).needs)
told p a b one other xs ys c d e t =
    let f = t.first in let s = t.second in let x = t.path in let y = t.path_too in let k = t.clear in let l = t.points in let m = t.points_too in (cc, cc, cc)

pub told_yes : (p : Plan) (a b : ℕ) (one other : Route) (xs ys : List ℕ) (c d e : Bool) → Told p a b one other xs ys c d e → ((c && d) && e) ≡ true → Strangers p a b
told_yes p a b one other xs ys c d e t all_so =
    let all = told p a b one other xs ys c d e t in
    tests_yes p a b (sym all.0 ∙ grind arith) (sym all.1 ∙ grind arith) (sym all.2 ∙ grind arith)

pub told_no : (p : Plan) (a b : ℕ) (one other : Route) (xs ys : List ℕ) (c d e : Bool) → Told p a b one other xs ys c d e → ((c && d) && e) ≡ false → Strangers p a b → ⊥
told_no p a b one other xs ys c d e t not_so st =
    let all = told p a b one other xs ys c d e t in
    let tests = tests_all p a b st in
    let f : c ≡ true = all.0 ∙ tests.0 in let g : d ≡ true = all.1 ∙ tests.1 in let h : e ≡ true = all.2 ∙ tests.2 in grind arith
