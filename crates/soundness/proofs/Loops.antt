-- Steps of the loops that test lists, and all numbers below one.
use Rattle.std.proofs.Common.{◌≡◌, ℕ, zero, suc, ◌+◌, ◌<◌, ◌≤◌, Bool, true, false, not, is_some, ◌&&◌, ◌||◌, eqb, ltb, List, [], ◌∷◌, length, get_or, drop, sym, refl, ap, arith, le-ltb, lt-ltb, eq-eqb, ne_eqb}
use Rattle.std.proofs.lemmas.List.{at_drop_more, at_drop_all}
use Rattle.std.specs.List.{list_all, range_with_len}
use Rattle.plan.proofs.Walks.{and_assoc}
use Rattle.plan.specs.Plan.{End, Plan, Route, among, last_of, repeated}
use Rattle.plan.specs.declared.Need.{Need}
use Rattle.soundness.specs.Tests.{all_below, empty, differ, joins, hangs, leads_to, needed_so, route_test}
use Rattle.soundness.specs.declared.RouteRule.TheVariants.{Ends}
use Rattle.soundness.proofs.Each.{all_true}

-- all different: none stands again
differ_rest : (xs : List ℕ) → not (is_some (repeated xs)) ≡ differ xs
unfolding differ repeated
differ_rest [] = refl
differ_rest (x ∷ xs) = let r = differ_rest xs in grind arith

pub differ_is : (x : ℕ) (xs : List ℕ) → not (among x xs) && not (is_some (repeated xs)) ≡ differ (x ∷ xs)
unfolding differ
differ_is x xs = let r = differ_rest xs in cc

-- a path that hangs together
pub hangs_more : (p : Plan) (ns : List Need) (up : Bool) (a : ℕ) (xs : List ℕ) (i : ℕ) (b t : Bool) → i < length xs → b ≡ joins p ns up a (get_or xs i 0) → b ≡ true →
    hangs p ns up a (drop i xs) ≡ t → hangs p ns up (get_or xs i 0) (drop (i + 1) xs) ≡ t
unfolding hangs
hangs_more p ns up a xs i b t l e f h = let u = at_drop_more (hangs p ns up a) xs i 0 l in cc

pub hangs_stop : (p : Plan) (ns : List Need) (up : Bool) (a : ℕ) (xs : List ℕ) (i : ℕ) (b t : Bool) → i < length xs → b ≡ joins p ns up a (get_or xs i 0) → b ≡ false →
    hangs p ns up a (drop i xs) ≡ t → false ≡ t
unfolding hangs
hangs_stop p ns up a xs i b t l e f h = let u = at_drop_more (hangs p ns up a) xs i 0 l in cc

pub hangs_all : (p : Plan) (ns : List Need) (up : Bool) (a : ℕ) (xs : List ℕ) (i : ℕ) (t : Bool) → length xs ≤ i → hangs p ns up a (drop i xs) ≡ t → true ≡ t
unfolding hangs
hangs_all p ns up a xs i t l h = let u = at_drop_all (hangs p ns up a) xs i l in cc

pub a_place : (a b x y : ℕ) → x ≡ a → y ≡ b → x < y → ltb a b ≡ true
a_place a b x y e f l = lt-ltb a b (omega arith)

pub empty_is : (xs : List ℕ) → length xs ≡ 0 → empty xs ≡ true
unfolding empty
empty_is [] h = refl
empty_is (x ∷ xs) h = absurd (omega arith)

pub goes_is : (xs ys : List ℕ) (b : Bool) → b ≡ eqb (length ys) 0 → ys ≡ xs → not b ≡ not (empty xs)
unfolding empty
goes_is [] ys b e f = let l : length ys ≡ 0 = ap length f in let z = eq-eqb (length ys) 0 l in cc
goes_is (x ∷ xs) ys b e f = let l : length ys ≡ suc (length xs) = ap length f in let z = ne_eqb (length ys) 0 (λ q. omega arith) in cc

pub ends_is : (p : Plan) (r : Route) (x : ℕ) (u a b : Bool) → x ≡ last_of 0 r.path → u ≡ r.up → a ≡ p.signal u x → b ≡ p.edge x → a || b ≡ route_test p r Ends
unfolding route_test
ends_is p r x u a b e f g h = cc

-- an end that a point moves, and one that none does
pub leads_moved : (ns : List Need) (e : End) (x : ℕ) (a b : Bool) → e.moves ≡ true → a ≡ (eqb e.on_left x || needed_so e.point false ns) →
    b ≡ (eqb e.on_right x || needed_so e.point true ns) → a && b ≡ leads_to ns e x
unfolding leads_to
leads_moved ns e x a b m f g = cc

pub leads_plain : (ns : List Need) (e : End) (x : ℕ) → e.moves ≡ false → eqb e.on_left x ≡ leads_to ns e x
unfolding leads_to
leads_plain ns e x m = cc

and_true : (b : Bool) → b && true ≡ b
and_true true = refl
and_true false = refl

-- the library's test of a row of numbers is that of all below one
row_more : (f : ℕ → Bool) (a n : ℕ) → list_all f (range_with_len a (suc n)) ≡ list_all f (range_with_len a n) && f (a + n)
row_more f a zero = let z : a + 0 ≡ a = omega arith in let l = and_true (f a) in cc
row_more f a (suc n) = let r = row_more f (a + 1) n in let z : a + 1 + n ≡ a + suc n = omega arith in let s = and_assoc (f a) (list_all f (range_with_len (a + 1) n)) (f (a + suc n)) in cc

pub below_is : (f : ℕ → Bool) (n : ℕ) → list_all f (range_with_len 0 n) ≡ all_below n f
unfolding all_below
below_is f zero = refl
below_is f (suc n) = let r = below_is f n in let m = row_more f 0 n in let z : 0 + n ≡ n = omega arith in cc
