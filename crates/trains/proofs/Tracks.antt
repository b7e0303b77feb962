-- What lies before a train, and which sections are marked.
use Rattle.std.proofs.Common.{◌≡◌, ℕ, zero, suc, ◌+◌, ◌<◌, ◌≤◌, Bool, true, false, ◌&&◌, ◌||◌, eqb, ltb, List, [], ◌∷◌, length, get_or, set, replicate, MatchBool, sym, refl, ap, ◌∙◌, add-one, arith, eqb-true}
use mathlib.Core.Path.{fun_ext}
use borrow.Author.Tests.{eqb-false}
use Rattle.std.proofs.lemmas.List.{get_or_past, get_or-set_same, get_or-set_other, length-set}
use Rattle.std.specs.List.{AllWithin, HoldsAt, range_with_len}
use Rattle.std.proofs.lemmas.List.FromFn.{get_or-range_with_len, length-range_with_len}
use Rattle.plan.specs.Plan.{pick, Plan, End, Positions, beyond, route, among, marks}
use Rattle.plan.specs.View.{end_of, plan_of}
use Rattle.plan.specs.Numbers.{plan_in}
use Rattle.plan.specs.declared.End.{End as HeldEnd}
use Rattle.plan.specs.declared.view.Plan.{Plan as HeldPlan}
use Rattle.plan.proofs.Formed.{formed}
use Rattle.interlocking.specs.State.{State}
use Rattle.trains.specs.Trains.{Train, occupied, open_here}
use Rattle.trains.specs.Held.{ahead, opens, mark_all, within}

pub few_sections : (v : HeldPlan) → (plan_of v).sections ≤ 64
unfolding plan_in
few_sections v = (formed v.numbers.now v.formed).sections

pub few_points : (v : HeldPlan) → (plan_of v).points ≤ 32
unfolding plan_in
few_points v = (formed v.numbers.now v.formed).points

pub beyond_is : (p : Plan) (t : Positions) (up : Bool) (x : ℕ) (e : HeldEnd) (left : Bool) (r : ℕ) →
    end_of e ≡ p.end up x → left ≡ t e.point → r ≡ ahead e left → r ≡ beyond p t up x
unfolding beyond
beyond_is p t up x e left r a b d =
    d ∙ ap (ahead e) b ∙ ap (λ (z : End). pick z.moves (pick (t z.point) z.on_left z.on_right) z.on_left) a

-- is the route of this number open to a train at x
abbrev pub open_to : Plan → State → Bool → ℕ → ℕ → Bool
open_to p h up x r = opens (h.stage r) (route p r) up x

pub some_open : (p : Plan) (h : State) (up : Bool) (x n r : ℕ) → r < n → open_to p h up x r ≡ true → true ≡ open_here p h up x n
unfolding open_here
some_open p h up x zero r l e = absurd (omega arith)
some_open p h up x (suc n) r l e = go (eqb r n) refl (λ k. some_open p h up x n r k e)
  where
    go : (b : Bool) → eqb r n ≡ b → (r < n → true ≡ open_here p h up x n) → true ≡ open_to p h up x n || open_here p h up x n
    go true q f = let s = ap (open_to p h up x) (eqb-true r n q) in grind arith
    go false q f = let ne = eqb-false r n q in let k : r < n = omega (arith, ne) in let ih = f k in grind arith

pub none_open : (p : Plan) (h : State) (up : Bool) (x n : ℕ) → ((r : ℕ) → r < n → open_to p h up x r ≡ false) → false ≡ open_here p h up x n
unfolding open_here
none_open p h up x zero f = refl
none_open p h up x (suc n) f =
    let e = f n (omega arith) in let ih = none_open p h up x n (λ r l. f r (omega arith)) in grind arith

-- a route of those from 0 on is open, or none is
pub open_among : (p : Plan) (h : State) (up : Bool) (x n m : ℕ) (b : Bool) → n ≡ m →
    MatchBool b ((k : ℕ) × (k < length (range_with_len 0 n)) × HoldsAt (λ r. open_to p h up x r ≡ true) (range_with_len 0 n) k)
    (AllWithin (λ r. open_to p h up x r ≡ false) (range_with_len 0 n) 0 (length (range_with_len 0 n))) → b ≡ open_here p h up x m
open_among p h up x n m true e w =
    let l = length-range_with_len 0 n in
    let k : w.0 < n = omega (arith, l, w.1) in
    let z : 0 + w.0 ≡ w.0 = omega arith in
    let s = ap (open_to p h up x) (get_or-range_with_len 0 n w.0 0 k ∙ z) in
    some_open p h up x m w.0 (omega arith) (sym s ∙ w.2 0)
open_among p h up x n m false e f = none_open p h up x m (λ r d. one r (omega (arith, e)))
  where
    one : (r : ℕ) → r < n → open_to p h up x r ≡ false
    one r k =
        let l = length-range_with_len 0 n in
        let z : 0 + r ≡ r = omega arith in
        let s = ap (open_to p h up x) (get_or-range_with_len 0 n r 0 k ∙ z) in
        sym s ∙ f r 0 (omega arith) (omega (arith, l))

-- marks
pub length_marked : (xs : List ℕ) (bs : List Bool) → length (mark_all xs bs) ≡ length bs
unfolding mark_all
length_marked [] bs = refl
length_marked (x ∷ xs) bs = length_marked xs (set bs x true) ∙ length-set bs x true

one_marked : (bs : List Bool) (x y : ℕ) → get_or (set bs y true) x false ≡ (ltb x (length bs) && eqb x y) || get_or bs x false
one_marked bs x y = go (eqb x y) refl (ltb x (length bs)) refl
  where
    go : (b : Bool) → eqb x y ≡ b → (c : Bool) → ltb x (length bs) ≡ c → get_or (set bs y true) x false ≡ (c && b) || get_or bs x false
    go true e true f =
        let s : x ≡ y = eqb-true x y e in
        let l : y < length bs = grind arith in
        ap (λ (k : ℕ). get_or (set bs y true) k false) s ∙ get_or-set_same bs y true false l
    go true e false f =
        let l : length bs ≤ x = grind arith in
        let m : length (set bs y true) ≤ x = simp length-set l in
        get_or_past (set bs y true) x false m ∙ sym (get_or_past bs x false l)
    go false e true f = get_or-set_other bs y x true false (eqb-false x y e)
    go false e false f = get_or-set_other bs y x true false (eqb-false x y e)

pub all_marked : (xs : List ℕ) (bs : List Bool) (x : ℕ) → get_or (mark_all xs bs) x false ≡ (ltb x (length bs) && among x xs) || get_or bs x false
unfolding mark_all among
all_marked [] bs x = grind arith
all_marked (y ∷ xs) bs x =
    let a = all_marked xs (set bs y true) x in
    let b = one_marked bs x y in
    let n = length-set bs y true in
    let d : ltb x (length (set bs y true)) ≡ ltb x (length bs) = ap (ltb x) n in grind arith

-- the trains' sections marked one train after the other
pub seen_none : (ts : ℕ → Train) (bs : List Bool) → ((x : ℕ) → get_or bs x false ≡ false) → marks bs ≡ within (occupied 0 ts)
unfolding occupied
seen_none ts bs h = fun_ext (λ x. let e = h x in grind arith)

pub all_clear : (n x : ℕ) → get_or (replicate n false) x false ≡ false
all_clear zero x = refl
all_clear (suc n) zero = refl
all_clear (suc n) (suc x) = all_clear n x

pub seen_more : (ts : ℕ → Train) (bs new : List Bool) (i : ℕ) (t : Train) → length bs ≡ 64 → t ≡ ts i → new ≡ mark_all t.body bs →
    marks bs ≡ within (occupied i ts) → marks new ≡ within (occupied (i + 1) ts)
unfolding occupied
seen_more ts bs new i t n e f h = fun_ext (λ x. rw add-one (go x))
  where
    go : (x : ℕ) → marks new x ≡ within (occupied (suc i) ts) x
    go x =
        let a = all_marked t.body bs x in
        let b : ltb x (length bs) ≡ ltb x 64 = ap (ltb x) n in
        let d : get_or bs x false ≡ ltb x 64 && occupied i ts x = ap (λ (g : ℕ → Bool). g x) h in
        let k : get_or new x false ≡ get_or (mark_all t.body bs) x false = ap (λ (z : List Bool). get_or z x false) f in
        let m : among x t.body ≡ among x (ts i).body = ap (λ (z : Train). among x z.body) e in grind arith
