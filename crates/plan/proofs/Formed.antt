-- Numbers are formed just if they are not refused.
use Rattle.std.proofs.Common.{◌≡◌, ℕ, zero, suc, ◌+◌, ◌-◌, ◌*◌, ◌/◌, ◌%◌, ◌<◌, ◌≤◌, Bool, true, false, ◌&&◌, eqb, leb, ◌⊎◌, List, length, get_or, take, drop, is_some, Some, None, Option, sym, refl, ap, ◌∙◌, subst, inl, inr, add-one, arith, eq-eqb, ne_eqb, eqb-true, le-leb, leb-false, leb-true}
use borrow.Author.Tests.{lt-leb, eqb-false}
use Rattle.plan.specs.Plan.{pick, route, no_route}
use Rattle.plan.specs.Numbers.{bad_size, counts, routes_from, whole, most, too_large, refused, Formed, Sized, FirstLarge, Says, RefusedSays, sized, numbered, Stands, plan_in, route_at}
use Rattle.plan.specs.declared.Size.{Size}
use Rattle.plan.specs.declared.Size.TheVariants.{Sections, Points, Routes, Time}
use Rattle.plan.specs.declared.Refusal.{Refusal}
use Rattle.plan.specs.declared.Refusal.TheVariants.{Sizes, Length, Number}
use Rattle.std.proofs.lemmas.List.{get_or_past}
use Rattle.plan.proofs.Parts.{length_routes, route_nth, route_part}

pub not_too_large : (xs : List ℕ) (k n i : ℕ) → is_some (too_large xs k n) ≡ false → k ≤ i → i < k + n → get_or xs i 0 ≤ most (routes_from xs) i
unfolding too_large
not_too_large xs k zero i h l m = absurd (omega arith)
not_too_large xs k (suc n) i h l m = go (λ q a b. not_too_large xs (suc k) n i q a b) (leb (get_or xs k 0) (most (routes_from xs) k)) refl h
  where
    go : (is_some (too_large xs (suc k) n) ≡ false → suc k ≤ i → i < suc k + n → get_or xs i 0 ≤ most (routes_from xs) i) →
        (b : Bool) → leb (get_or xs k 0) (most (routes_from xs) k) ≡ b → is_some (pick b (too_large xs (suc k) n) (Some k)) ≡ false → get_or xs i 0 ≤ most (routes_from xs) i
    go ih false e q = absurd (grind arith)
    go ih true e q = eq (eqb i k) refl
      where
        eq : (c : Bool) → eqb i k ≡ c → get_or xs i 0 ≤ most (routes_from xs) i
        eq true f = let s : i ≡ k = grind arith in rw s (grind arith)
        eq false f = ih q (grind arith) (omega arith)

pub formed : (xs : List ℕ) → is_some (refused xs) ≡ false → Formed xs
unfolding refused
formed xs h = record {
  some = grind arith;
  sections = grind arith;
  points = grind arith;
  time = grind arith;
  routes = grind arith;
  size = grind arith;
  small = λ k l. not_too_large xs 0 (length xs) k (grind arith) (omega arith) (omega arith);
}

-- one step of the search for a number that is too large
pub large_step : (xs : List ℕ) (k n m : ℕ) → n ≡ suc m → too_large xs k n ≡ pick (leb (get_or xs k 0) (most (routes_from xs) k)) (too_large xs (suc k) m) (Some k)
unfolding too_large
large_step xs k n m e = rw e refl

sixteen : (f r j : ℕ) → (j ≡ 2) ⊎ (j ≡ 3) → most f (f + 52 * r + j) ≡ 16
sixteen f r j (inl e) = let q : (f + 52 * r + j - f) % 52 ≡ 2 = omega arith in let l : f ≤ f + 52 * r + j = omega arith in grind arith
sixteen f r j (inr e) = let q : (f + 52 * r + j - f) % 52 ≡ 3 = omega arith in let l : f ≤ f + 52 * r + j = omega arith in grind arith

pub stands : (xs : List ℕ) (r : ℕ) → Formed xs → r < get_or xs 3 0 → Stands xs (routes_from xs + 52 * r)
stands xs r f l =
    let s = f.size in
    let w : routes_from xs + 52 * r + 52 ≤ length xs = omega arith in
    let two = f.small (routes_from xs + 52 * r + 2) (omega arith) in
    let three = f.small (routes_from xs + 52 * r + 3) (omega arith) in
    let a = sixteen (routes_from xs) r 2 (inl refl) in
    let b = sixteen (routes_from xs) r 3 (inr refl) in
    record { within = w; sections = rw a at two; points = rw b at three }

-- a loop that looks for it
pub large_more : (xs : List ℕ) (f k m : ℕ) (t : Option ℕ) → f ≡ routes_from xs → k < length xs → m ≡ most f k → get_or xs k 0 ≤ m → too_large xs k (length xs - k) ≡ t →
    too_large xs (k + 1) (length xs - (k + 1)) ≡ t
large_more xs f k m t a l e h i =
    let s = large_step xs k (length xs - k) (length xs - (k + 1)) (omega arith) in
    let g : get_or xs k 0 ≤ most (routes_from xs) k = subst (λ (z : ℕ). get_or xs k 0 ≤ most z k) a (rw e at h) in
    let b = le-leb (get_or xs k 0) (most (routes_from xs) k) g in
    let n = add-one k in cc

pub large_stop : (xs : List ℕ) (f k m : ℕ) (t : Option ℕ) → f ≡ routes_from xs → k < length xs → m ≡ most f k → m < get_or xs k 0 → too_large xs k (length xs - k) ≡ t → Some k ≡ t
large_stop xs f k m t a l e h i =
    let s = large_step xs k (length xs - k) (length xs - (k + 1)) (omega arith) in
    let g : most (routes_from xs) k < get_or xs k 0 = subst (λ (z : ℕ). most z k < get_or xs k 0) a (rw e at h) in
    let b = lt-leb (get_or xs k 0) (most (routes_from xs) k) g in cc

pub large_none : (xs : List ℕ) (k : ℕ) (t : Option ℕ) → length xs ≤ k → too_large xs k (length xs - k) ≡ t → None ≡ t
unfolding too_large
large_none xs k t l i = let z : length xs - k ≡ 0 = omega arith in cc

-- where each is small enough none is too large
none_large : (xs : List ℕ) (k n : ℕ) → ((i : ℕ) → k ≤ i → i < k + n → get_or xs i 0 ≤ most (routes_from xs) i) → None ≡ too_large xs k n
unfolding too_large
none_large xs k zero h = refl
none_large xs k (suc n) h =
    let b = le-leb (get_or xs k 0) (most (routes_from xs) k) (h k (omega arith) (omega arith)) in
    let ih = none_large xs (suc k) n (λ i l m. h i (omega arith) (omega arith)) in rw b ih

-- the counts of routes stand two and three places behind the beginning of each
all_small : (xs : List ℕ) (f n : ℕ) → length xs ≡ f + 52 * n → ((k : ℕ) → k < length xs → get_or xs k 0 ≤ 1000) →
    ((i : ℕ) → i < n → (get_or xs (f + 52 * i + 2) 0 ≤ 16) × (get_or xs (f + 52 * i + 3) 0 ≤ 16)) → (k : ℕ) → k < length xs → get_or xs k 0 ≤ most f k
all_small xs f n e all few k l = go (counts f k) refl
  where
    go : (b : Bool) → counts f k ≡ b → get_or xs k 0 ≤ pick b 16 1000
    go false q = all k l
    go true q = at (eqb ((k - f) % 52) 2) refl
      where
        at : (b : Bool) → eqb ((k - f) % 52) 2 ≡ b → get_or xs k 0 ≤ 16
        at true m =
            let j : f + 52 * ((k - f) / 52) + 2 ≡ k = grind arith in
            let i : (k - f) / 52 < n = omega arith in rw j at (few ((k - f) / 52) i).0
        at false m =
            let j : f + 52 * ((k - f) / 52) + 3 ≡ k = grind arith in
            let i : (k - f) / 52 < n = omega arith in rw j at (few ((k - f) / 52) i).1

pub fits_none : (xs : List ℕ) (f n : ℕ) → f ≡ routes_from xs → length xs ≡ f + 52 * n → ((k : ℕ) → k < length xs → get_or xs k 0 ≤ 1000) →
    ((i : ℕ) → i < n → (get_or xs (f + 52 * i + 2) 0 ≤ 16) × (get_or xs (f + 52 * i + 3) 0 ≤ 16)) → None ≡ too_large xs 0 (length xs)
fits_none xs f n a e all few =
    none_large xs 0 (length xs) (λ k l m. subst (λ (z : ℕ). get_or xs k 0 ≤ most z k) a (all_small xs f n e all few k (omega arith)))

-- the route that stands at its place
pub route_place : (xs : List ℕ) (r : ℕ) → is_some (refused xs) ≡ false → r < length (plan_in xs).routes → Stands xs (routes_from xs + 52 * r)
unfolding plan_in
route_place xs r h l = let n = length_routes xs (routes_from xs) (get_or xs 3 0) in stands xs r (formed xs h) (omega arith)

pub route_few : (xs : List ℕ) (r : ℕ) → is_some (refused xs) ≡ false → r < length (plan_in xs).routes → r < 64
unfolding plan_in
route_few xs r h l = let n = length_routes xs (routes_from xs) (get_or xs 3 0) in let f = (formed xs h).routes in omega arith

pub route_past : (xs : List ℕ) (r : ℕ) → length (plan_in xs).routes ≤ r → route (plan_in xs) r ≡ no_route
unfolding route
route_past xs r l = get_or_past (plan_in xs).routes r no_route l

pub route_is : (xs ys : List ℕ) (r : ℕ) → is_some (refused xs) ≡ false → r < length (plan_in xs).routes → ys ≡ take 52 (drop (routes_from xs + 52 * r) xs) →
    route_at ys 0 ≡ route (plan_in xs) r
unfolding plan_in route
route_is xs ys r h l e =
    let n = length_routes xs (routes_from xs) (get_or xs 3 0) in
    let i : r < get_or xs 3 0 = omega arith in
    let s = stands xs r (formed xs h) i in
    let b = route_part xs (routes_from xs + 52 * r) s.sections s.points in
    let d = route_nth xs (routes_from xs) (get_or xs 3 0) r (routes_from xs + 52 * r) no_route i refl in
    ap (λ (z : List ℕ). route_at z 0) e ∙ b ∙ sym d

-- the refusals, one after the other
pub refused_sizes : (xs : List ℕ) (s : Size) → Some s ≡ bad_size xs → Some (Sizes s) ≡ refused xs
unfolding refused
refused_sizes xs s e = rw (← e) refl

pub refused_length : (xs : List ℕ) (n : ℕ) → None ≡ bad_size xs → n ≡ whole xs → (length xs ≡ n → ⊥) → Some (Length n) ≡ refused xs
unfolding refused
refused_length xs n e w h = let z = ne_eqb (length xs) (whole xs) (λ q. h (q ∙ sym w)) in rw (← e, z) (ap (λ (m : ℕ). Some (Length m)) w)

pub refused_number : (xs : List ℕ) (n k : ℕ) → None ≡ bad_size xs → n ≡ whole xs → length xs ≡ n → Some k ≡ too_large xs 0 (length xs) → Some (Number k) ≡ refused xs
unfolding refused
refused_number xs n k e w h q = let z = eq-eqb (length xs) (whole xs) (h ∙ w) in rw (← e, z, ← q) refl

pub refused_none : (xs : List ℕ) (n : ℕ) → None ≡ bad_size xs → n ≡ whole xs → length xs ≡ n → None ≡ too_large xs 0 (length xs) → None ≡ refused xs
unfolding refused
refused_none xs n e w h q = let z = eq-eqb (length xs) (whole xs) (h ∙ w) in rw (← e, z, ← q) refl

-- what the search for a number that is too large finds
abbrev Large : List ℕ → Option ℕ → Type 0
Large xs None = (j : ℕ) → j < length xs → get_or xs j 0 ≤ most (routes_from xs) j
Large xs (Some k) = FirstLarge xs k

small_more : (xs : List ℕ) (k : ℕ) → ((j : ℕ) → j < k → get_or xs j 0 ≤ most (routes_from xs) j) → get_or xs k 0 ≤ most (routes_from xs) k →
    (j : ℕ) → j < suc k → get_or xs j 0 ≤ most (routes_from xs) j
small_more xs k before here j l = go (eqb j k) refl
  where
    go : (b : Bool) → eqb j k ≡ b → get_or xs j 0 ≤ most (routes_from xs) j
    go true e = let s : j ≡ k = grind arith in rw s here
    go false e = before j (grind arith)

large_says : (xs : List ℕ) (k n : ℕ) → k + n ≡ length xs → ((j : ℕ) → j < k → get_or xs j 0 ≤ most (routes_from xs) j) → Large xs (too_large xs k n)
unfolding too_large
large_says xs k zero e before = λ j l. before j (omega arith)
large_says xs k (suc n) e before =
    go (λ h. large_says xs (suc k) n (omega arith) (small_more xs k before h)) (leb (get_or xs k 0) (most (routes_from xs) k)) refl
  where
    go : (get_or xs k 0 ≤ most (routes_from xs) k → Large xs (too_large xs (suc k) n)) →
        (b : Bool) → leb (get_or xs k 0) (most (routes_from xs) k) ≡ b → Large xs (pick b (too_large xs (suc k) n) (Some k))
    go rest true f = rest (leb-true (get_or xs k 0) (most (routes_from xs) k) f)
    go rest false f = record { inside = omega arith; here = leb-false (get_or xs k 0) (most (routes_from xs) k) f; before = before }

says_large : (xs : List ℕ) → Sized xs → length xs ≡ whole xs → (o : Option ℕ) → Large xs o → Says xs (numbered o)
says_large xs s e None h = record { some = s.some; sections = s.sections; points = s.points; time = s.time; routes = s.routes; size = e; small = h }
says_large xs s e (Some k) h = (s, e, h)

says_rest : (xs : List ℕ) → Sized xs → (b : Bool) → eqb (length xs) (whole xs) ≡ b → Says xs (pick b (numbered (too_large xs 0 (length xs))) (Some (Length (whole xs))))
says_rest xs s true e = says_large xs s (eqb-true _ _ e) (too_large xs 0 (length xs)) (large_says xs 0 (length xs) (omega arith) (λ j l. absurd (omega arith)))
says_rest xs s false e = (s, refl, eqb-false _ _ e)

says_sizes : (xs : List ℕ) (rest : Option Refusal) → (Sized xs → Says xs rest) → (b1 b2 b3 b4 : Bool) →
    leb 4 (length xs) && (leb 1 (get_or xs 0 0) && leb (get_or xs 0 0) 64) ≡ b1 → leb (get_or xs 1 0) 32 ≡ b2 → leb (get_or xs 3 0) 64 ≡ b3 → leb (get_or xs 2 0) 1000 ≡ b4 →
    Says xs (sized (pick b1 (pick b2 (pick b3 (pick b4 None (Some Time)) (Some Routes)) (Some Points)) (Some Sections)) rest)
says_sizes xs rest next false b2 b3 b4 e1 e2 e3 e4 = λ h. grind arith
says_sizes xs rest next true false b3 b4 e1 e2 e3 e4 = grind arith
says_sizes xs rest next true true false b4 e1 e2 e3 e4 = grind arith
says_sizes xs rest next true true true false e1 e2 e3 e4 = grind arith
says_sizes xs rest next true true true true e1 e2 e3 e4 =
    next (record { four = grind arith; some = grind arith; sections = grind arith; points = grind arith; routes = grind arith; time = grind arith })

pub refused_says : RefusedSays
unfolding refused
refused_says xs = says_sizes xs _ (λ s. says_rest xs s (eqb (length xs) (whole xs)) refl) _ _ _ _ refl refl refl refl
