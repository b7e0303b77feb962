-- Lists of sections, and trains.
use Rattle.std.proofs.Common.{Option, Some, None, MatchOption, ◌≡◌, ℕ, zero, suc, ◌+◌, ◌-◌, ◌<◌, ◌≤◌, Bool, true, false, eqb, ltb, List, [], ◌∷◌, length, get_or, take, drop, sym, refl, ap, ◌∙◌, subst, arith}
use Rattle.std.proofs.lemmas.List.{take_rest}
use Rattle.std.specs.Prelude.{slice_get}
use Rattle.plan.specs.Plan.{Plan, Positions, Joined, Once, none, more, among, met, pick, repeated, sameb}
use Rattle.plan.proofs.Walks.{all_at_places}
use Rattle.plan.specs.View.{no_need}
use Rattle.plan.specs.declared.Need.{Need}
use Rattle.model.specs.World.{Train, occupied}
use Rattle.safety.specs.Promise.{Hangs, nowhere, in_one, in_more}
use Rattle.interlocking.specs.State.{Occupancy}
use Rattle.watch.specs.Broken.{ApartLists, Doubled, LiesWrong, Parted, WayAt, WayBlocked, joined}

-- what stands at a place is among them
pub among_at : (xs : List ℕ) (k : ℕ) → k < length xs → among (get_or xs k 0) xs ≡ true
unfolding among
among_at [] k h = absurd (omega arith)
among_at (x ∷ xs) zero h = grind arith
among_at (x ∷ xs) (suc k) h = let ih = among_at xs k (omega arith) in grind arith

-- what holds at each place holds of each that is among them
pub each_among : (P : ℕ → Type 0) (xs : List ℕ) → ((k : ℕ) → k < length xs → P (get_or xs k 0)) → (x : ℕ) → among x xs ≡ true → P x
unfolding among
each_among P [] h x e = absurd (grind arith)
each_among P (y ∷ ys) h x e =
    let ih = each_among P ys (λ k l. h (suc k) (omega arith)) x in go (eqb x y) refl ih
  where
    go : (b : Bool) → eqb x y ≡ b → (among x ys ≡ true → P x) → P x
    go true q f = let s : x ≡ y = grind arith in rw s (h 0 (omega arith))
    go false q f = f (grind arith)

-- the first section that stands again: there is none, or it does
doubled_on : (x z : ℕ) (ys : List ℕ) → Doubled z ys → Doubled z (x ∷ ys)
doubled_on x z ys h =
    let n : suc h.0 + 1 ≡ suc (h.0 + 1) = omega arith in
    (suc h.0, omega (arith, h.1), h.2, subst (λ (k : ℕ). among z (drop k (x ∷ ys)) ≡ true) (sym n) h.3)

pub doubled_is : (xs : List ℕ) → MatchOption (repeated xs) (Once xs) (λ x. Doubled x xs)
unfolding repeated
doubled_is [] = none
doubled_is (x ∷ xs) = go (among x xs) refl (repeated xs) (doubled_is xs)
  where
    go : (b : Bool) → among x xs ≡ b → (o : Option ℕ) → MatchOption o (Once xs) (λ y. Doubled y xs) → MatchOption (pick b (Some x) o) (Once (x ∷ xs)) (λ y. Doubled y (x ∷ xs))
    go true e o h = (0, omega arith, refl, e)
    go false e None h = more x xs e h
    go false e (Some y) h = doubled_on x y xs h

-- what holds of each later one holds of each other one, if it holds both ways
pub both_ways : (n : ℕ) (f : ℕ → List ℕ) → ((i j : ℕ) → i < j → j < n → ApartLists (f i) (f j)) →
    (i j x : ℕ) → i < n → j < n → (i ≡ j → ⊥) → among x (f i) ≡ true → among x (f j) ≡ true → ⊥
both_ways n f h i j x a b d e g = go (ltb i j) refl
  where
    go : (t : Bool) → ltb i j ≡ t → ⊥
    go true q = h i j (grind arith) b x e g
    go false q = let l : j < i = grind arith in h j i l a x g e

-- no train stands in a section
pub vacant_all : (ts : ℕ → Train) (x n : ℕ) → ((k : ℕ) → k < n → among x (ts k).body ≡ false) → occupied n ts x ≡ false
unfolding occupied
vacant_all ts x zero h = refl
vacant_all ts x (suc n) h = let ih = vacant_all ts x n (λ k l. h k (omega arith)) in let e = h n (omega arith) in grind arith

-- sections that hang together each with the next
pub hangs_all : (p : Plan) (t : Positions) (up : Bool) (xs : List ℕ) →
    ((k : ℕ) → suc k < length xs → Joined p t up (get_or xs (suc k) 0) (get_or xs k 0)) → Hangs p t up xs
hangs_all p t up [] h = nowhere
hangs_all p t up (x ∷ []) h = in_one x
hangs_all p t up (x ∷ (y ∷ ys)) h = in_more x y ys (h 0 (omega arith)) (hangs_all p t up (y ∷ ys) (λ k l. h (suc k) (omega arith)))

pub hangs_looked : (p : Plan) (t : Positions) (up : Bool) (xs : List ℕ) (n : ℕ) → length xs ≤ n →
    ((k : ℕ) → k < n → 0 < k → Joined p t up (get_or xs k 0) (get_or xs (k - 1) 0)) → Hangs p t up xs
hangs_looked p t up xs n l h =
    hangs_all p t up xs (λ k m. let e : suc k - 1 ≡ k = omega arith in
    subst (λ (j : ℕ). Joined p t up (get_or xs (suc k) 0) (get_or xs j 0)) e (h (suc k) (omega arith) (omega arith)))

-- joined, by a test
pub joined_is : (p : Plan) (t : Positions) (up : Bool) (a b : ℕ) (r : Bool) → r ≡ joined p t up a b → r ≡ true → Joined p t up a b
unfolding Joined
joined_is p t up a b r e f = grind arith

pub joined_not : (p : Plan) (t : Positions) (up : Bool) (a b : ℕ) (r : Bool) → r ≡ joined p t up a b → r ≡ false → Joined p t up a b → ⊥
unfolding Joined
joined_not p t up a b r e f j = let g = j.0 in let k = j.1 in grind arith

-- a way of two sections or more, its first two and the rest
pub parted_here : (p : Plan) (t : Positions) (up : Bool) (xs : List ℕ) → 2 ≤ length xs → (Joined p t up (get_or xs 1 0) (get_or xs 0 0) → ⊥) → Parted p t up xs (get_or xs 1 0) (get_or xs 0 0)
parted_here p t up xs l n = (1, omega arith, omega arith, refl, refl, n)

parted_on : (p : Plan) (t : Positions) (up : Bool) (x : ℕ) (xs : List ℕ) (a b : ℕ) → Parted p t up xs a b → Parted p t up (x ∷ xs) a b
parted_on p t up x xs a b h = (suc h.0, omega arith, omega (arith, h.2), h.3, before h.0 h.1 h.4, h.5)
  where
    before : (k : ℕ) → 0 < k → get_or xs (k - 1) 0 ≡ b → get_or (x ∷ xs) (suc k - 1) 0 ≡ b
    before zero l e = absurd (omega arith)
    before (suc k) l e =
        let z : suc k - 1 ≡ k = omega arith in
        let w : suc (suc k) - 1 ≡ suc k = omega arith in
        ap (λ (j : ℕ). get_or (x ∷ xs) j 0) w ∙ ap (λ (j : ℕ). get_or xs j 0) (sym z) ∙ e

pub parted_rest : (p : Plan) (t : Positions) (up : Bool) (xs : List ℕ) → 2 ≤ length xs → (a b : ℕ) → Parted p t up (take (length xs - 1) (drop 1 xs)) a b → Parted p t up xs a b
parted_rest p t up [] l a b h = absurd (omega arith)
parted_rest p t up (x ∷ xs) l a b h = parted_on p t up x xs a b (subst (λ (z : List ℕ). Parted p t up z a b) (take_rest (x ∷ xs) 1) h)

pub hangs_rest : (p : Plan) (t : Positions) (up : Bool) (xs : List ℕ) → 2 ≤ length xs → Joined p t up (get_or xs 1 0) (get_or xs 0 0) → Hangs p t up (take (length xs - 1) (drop 1 xs)) → Hangs p t up xs
hangs_rest p t up [] l j h = absurd (omega arith)
hangs_rest p t up (x ∷ []) l j h = absurd (omega arith)
hangs_rest p t up (x ∷ (y ∷ ys)) l j h = in_more x y ys j (subst (λ (z : List ℕ). Hangs p t up z) (take_rest (x ∷ (y ∷ ys)) 1) h)

pub hangs_short : (p : Plan) (t : Positions) (up : Bool) (xs : List ℕ) → length xs < 2 → Hangs p t up xs
hangs_short p t up [] l = nowhere
hangs_short p t up (x ∷ []) l = in_one x
hangs_short p t up (x ∷ (y ∷ ys)) l = absurd (omega arith)

-- the way before the sections ys of a train, by its front
pub way_told : (p : Plan) (t : Positions) (s : Occupancy) (up : Bool) (ys : List ℕ) (x : ℕ) (o : Option ℕ) → slice_get ys 0 ≡ Some x → MatchOption o (WayAt p t s up x) (λ z. WayBlocked p t s up x z) →
    MatchOption o ((y : ℕ) → (zs : List ℕ) → ys ≡ y ∷ zs → WayAt p t s up y) (λ z. (y : ℕ) × (zs : List ℕ) × (ys ≡ y ∷ zs) × WayBlocked p t s up y z)
way_told p t s up [] x o e h = absurd (cc)
way_told p t s up (y ∷ ys) x None e h = λ z zs f. let q : x ≡ z = cc in subst (λ (k : ℕ). WayAt p t s up k) q h
way_told p t s up (y ∷ ys) x (Some z) e h = let q : x ≡ y = cc in (y, ys, refl, subst (λ (k : ℕ). WayBlocked p t s up k z) q h)

-- needs that are all met, and one that is not
pub met_all : (t : Positions) (ns : List Need) (Y : Need → Type 0) (o : Option Need) (r : Option ℕ) →
    MatchOption o ((i : ℕ) → i < length ns → sameb (t (get_or ns i no_need).point) (get_or ns i no_need).left ≡ true) Y → o ≡ None → r ≡ None → MatchOption r (met t ns ≡ true) (LiesWrong t ns)
unfolding met
met_all t ns Y None r h e f = rw f (all_at_places (met t) (λ n. sameb (t n.point) n.left) refl (λ n ns. refl) ns h)
met_all t ns Y (Some n) r h e f = absurd (cc)

pub lies_wrong : (t : Positions) (ns : List Need) (X : Type 0) (o : Option Need) (n : Need) →
    MatchOption o X (λ m. (i : ℕ) × (i < length ns) × (get_or ns i no_need ≡ m) × (sameb (t m.point) m.left ≡ false)) → o ≡ Some n → LiesWrong t ns n.point
lies_wrong t ns X None n h e = absurd (cc)
lies_wrong t ns X (Some m) n h e =
    let q : m ≡ n = cc in
    subst (λ (k : Need). LiesWrong t ns k.point) q (h.0, h.1, ap (λ (z : Need). z.point) h.2, ap (λ (z : Need). sameb (t m.point) z.left) h.2 ∙ h.3)
