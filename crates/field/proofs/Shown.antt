-- Which route clears a signal, and the orders gone through.
use Rattle.std.proofs.Common.{Option, Some, None, ◌≡◌, ℕ, zero, suc, ◌+◌, ◌<◌, ◌≤◌, Bool, true, false, ◌&&◌, ◌||◌, eqb, ◌≢◌, List, [], ◌∷◌, ◌++◌, length, sym, refl, ap, ◌∙◌, add-one, arith, eq-eqb, eqb-true}
use borrow.Author.Tests.{eqb-false}
use Rattle.std.proofs.lemmas.Bool.{and_parts, or_right}
use Rattle.std.proofs.lemmas.List.{append-nil, append_assoc}
use Rattle.std.specs.List.{list_any, range_with_len}
use Rattle.std.specs.Option.{option_to_list}
use Rattle.std.specs.Iterator.{Drains}
use Rattle.std.specs.Iterator.Adapters.{once_item, once_steps}
use Rattle.std.specs.declared.iter.Once.{Once}
use Rattle.std.proofs.iter.Yields.{Once-Drains}
use Rattle.plan.specs.Plan.{sameb, Plan, route}
use Rattle.interlocking.specs.State.{State}
use Rattle.interlocking.specs.declared.Stage.{Stage}
use Rattle.interlocking.specs.declared.Stage.TheVariants.{Idle, Set, Shown, Used, Falling}
use Rattle.field.specs.Field.{is_shown, clears, shows_below, ClearedBy, ShowsExactly, signal_order, signal_orders, point_orders, orders_of}
use Rattle.field.specs.declared.Order.{Order}
use Rattle.field.specs.declared.Order.TheVariants.{Point}

shows_at : (p : Plan) (h : State) (up : Bool) (x r n : ℕ) → r < n → clears p h up x r ≡ true → shows_below p h up x n ≡ true
unfolding shows_below
shows_at p h up x r zero l f = absurd (omega arith)
shows_at p h up x r (suc n) l f = go (eqb r n) refl (λ m. shows_at p h up x r n m f)
  where
    go : (d : Bool) → eqb r n ≡ d → (r < n → shows_below p h up x n ≡ true) → shows_below p h up x (suc n) ≡ true
    go true e ih = let z = eqb-true r n e in cc
    go false e ih =
        let z : r ≢ n = eqb-false r n e in
        let m : r < n = omega arith in or_right (clears p h up x n) (shows_below p h up x n) (ih m)

or_swap : (a b c : Bool) → (a || (b || c)) ≡ (b || (a || c))
or_swap true true c = refl
or_swap true false c = refl
or_swap false b c = refl

-- a test of numbers that follow each other, begun at the last
any_more : (t : ℕ → Bool) (a n : ℕ) → list_any t (range_with_len a (suc n)) ≡ (t (a + n) || list_any t (range_with_len a n))
any_more t a zero = let e : a + 0 ≡ a = omega arith in cc
any_more t a (suc n) =
    let e : a + 1 + n ≡ a + suc n = omega arith in
    let q = any_more t (a + 1) n in
    let w = or_swap (t a) (t (a + suc n)) (list_any t (range_with_len (a + 1) n)) in cc

pub any_shows : (p : Plan) (h : State) (up : Bool) (x n : ℕ) → list_any (λ r. clears p h up x r) (range_with_len 0 n) ≡ shows_below p h up x n
unfolding shows_below
any_shows p h up x zero = refl
any_shows p h up x (suc n) =
    let e : 0 + n ≡ n = omega arith in
    let q = any_more (λ r. clears p h up x r) 0 n in
    let w = any_shows p h up x n in cc

shown_stage : (g : Stage) → is_shown g ≡ true → g ≡ Shown
shown_stage Idle e = grind arith
shown_stage Set e = grind arith
shown_stage Shown e = refl
shown_stage Used e = grind arith
shown_stage (Falling n) e = grind arith

same_way : (a b : Bool) → sameb a b ≡ true → a ≡ b
unfolding sameb
same_way true b e = sym e
same_way false true e = grind arith
same_way false false e = refl

same_self : (a : Bool) → sameb a a ≡ true
unfolding sameb
same_self true = refl
same_self false = refl

-- some route below n that clears it
some_below : (p : Plan) (h : State) (up : Bool) (x n : ℕ) → shows_below p h up x n ≡ true → (r : ℕ) × ((r < n) × (clears p h up x r ≡ true))
unfolding shows_below
some_below p h up x zero e = absurd (grind arith)
some_below p h up x (suc n) e = go (clears p h up x n) refl e (λ q. some_below p h up x n q)
  where
    go : (b : Bool) → clears p h up x n ≡ b → (b || shows_below p h up x n) ≡ true →
        (shows_below p h up x n ≡ true → (r : ℕ) × ((r < n) × (clears p h up x r ≡ true))) → (r : ℕ) × ((r < suc n) × (clears p h up x r ≡ true))
    go true c q ih = (n, (omega arith, c))
    go false c q ih = let w = ih q in let l : w.0 < suc n = omega (arith, w.1.0) in (w.0, (l, w.1.1))

cleared : (p : Plan) (h : State) (up : Bool) (x r : ℕ) → r < length p.routes → clears p h up x r ≡ true → ClearedBy p h up x r
cleared p h up x r l e =
    let a = and_parts (is_shown (h.stage r)) (eqb (route p r).begin x && sameb (route p r).up up) e in
    let b = and_parts (eqb (route p r).begin x) (sameb (route p r).up up) a.1 in record {
      there = l;
      begins = eqb-true (route p r).begin x b.0;
      goes = same_way (route p r).up up b.1;
      shown = shown_stage (h.stage r) a.0;
    }

clears_by : (p : Plan) (h : State) (up : Bool) (x r : ℕ) → ClearedBy p h up x r → clears p h up x r ≡ true
clears_by p h up x r k =
    let a = ap is_shown k.shown in
    let b = eq-eqb (route p r).begin x k.begins in
    let c = ap (λ w. sameb (route p r).up w) (sym k.goes) ∙ same_self (route p r).up in cc

pub exactly : ShowsExactly
exactly p h up x = (
  (λ e. let w = some_below p h up x (length p.routes) e in (w.0, cleared p h up x w.0 w.1.0 w.1.1)),
  (λ r k. shows_at p h up x r (length p.routes) k.there (clears_by p h up x r k)),
)

-- a list extended by an option
pub one_put : {A : Type 0} (o : Option A) (old xs new : List A) (it : Once A) → once_item it ≡ o → new ≡ old ++ xs → Drains once_steps it xs → new ≡ old ++ option_to_list o
one_put None old xs new it q e d = let w : xs ≡ [] = Once-Drains it None xs q d in cc
one_put (Some x) old xs new it q e d = let w : xs ≡ x ∷ [] = Once-Drains it (Some x) xs q d in cc

-- the orders, one section or one point more
pub none_yet : (p : Plan) (h : State) → signal_orders p h 0 ≡ []
unfolding signal_orders
none_yet p h = refl

pub section_more : (p : Plan) (h : State) (x : ℕ) (a b c : List Order) → a ≡ signal_orders p h x → b ≡ a ++ signal_order p h true x → c ≡ b ++ signal_order p h false x → c ≡ signal_orders p h (x + 1)
unfolding signal_orders
section_more p h x a b c e f g = let i = add-one x in cc

pub no_point : (p : Plan) (h : State) (n m k : ℕ) (a : List Order) → a ≡ signal_orders p h n → n ≤ m → m ≤ n → m ≡ k → a ≡ signal_orders p h k ++ point_orders h 0
unfolding point_orders
no_point p h n m k a e l r q = let z : n ≡ k = omega arith in let u = append-nil (signal_orders p h k) in cc

pub point_more : (p : Plan) (h : State) (k q : ℕ) (a b : List Order) (w : Bool) → a ≡ signal_orders p h k ++ point_orders h q → w ≡ h.wanted q → b ≡ a ++ Point q w ∷ [] → b ≡ signal_orders p h k ++ point_orders h (q + 1)
unfolding point_orders
point_more p h k q a b w e f g =
    let i = add-one q in let u = append_assoc (signal_orders p h k) (point_orders h q) (Point q w ∷ []) in cc

pub all_orders : (p : Plan) (h : State) (n m : ℕ) (a : List Order) → a ≡ signal_orders p h p.sections ++ point_orders h n → n ≤ m → m ≤ n → m ≡ p.points → a ≡ orders_of p h
unfolding orders_of
all_orders p h n m a e l r q = let z : n ≡ p.points = omega arith in cc
