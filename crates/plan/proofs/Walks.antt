-- A loop that goes through a list and stops at the first element that fails a test: `F` is the test of a whole list, `f` that of one element.
use Rattle.std.proofs.Common.{◌≡◌, ℕ, zero, suc, ◌+◌, ◌-◌, ◌<◌, ◌≤◌, Bool, true, false, ◌&&◌, ◌||◌, List, [], ◌∷◌, Option, None, Some, length, get_or, drop, sym, refl, ap, arith}
use Rattle.std.proofs.lemmas.List.{at_drop_more, at_drop_all}
use Rattle.std.specs.List.{AllWithin, HoldsAt, list_all, list_any}
use Rattle.std.specs.Option.{MatchOption}
use Rattle.plan.specs.View.{no_need}
use Rattle.plan.specs.declared.Need.{Need}
use Rattle.plan.specs.Plan.{among, last_of, repeated}

-- the test of a list is that of its first element, and that of the rest
abbrev pub Ands : {X : Type 0} → (List X → Bool) → (X → Bool) → Type 0
Ands {X} F f = (x : X) (xs : List X) → F (x ∷ xs) ≡ f x && F xs

pub ands_all : {X : Type 0} (F : List X → Bool) → F [] ≡ true → (xs : List X) (i : ℕ) (t : Bool) →
    length xs ≤ i → F (drop i xs) ≡ t → true ≡ t
ands_all F n xs i t l e = let u = at_drop_all F xs i l in cc

pub and_assoc : (a b c : Bool) → a && (b && c) ≡ (a && b) && c
and_assoc true b c = refl
and_assoc false b c = refl

-- A loop that changes a state by each element: `F xs s` is what the whole list makes of a state.
pub folds_more : {X S R : Type 0} (F : List X → S → R) (step : S → X → S) → ((x : X) (xs : List X) (s : S) → F (x ∷ xs) s ≡ F xs (step s x)) →
    (xs : List X) (i : ℕ) (d : X) (s s' : S) (t : R) → i < length xs → F (drop i xs) s ≡ t → s' ≡ step s (get_or xs i d) → F (drop (i + 1) xs) s' ≡ t
folds_more F step a xs i d s s' t l e p =
    let u = at_drop_more (λ ys. F ys s) xs i d l in let v = a (get_or xs i d) (drop (i + 1) xs) s in cc

pub folds_all : {X S R : Type 0} (F : List X → S → R) (xs : List X) (i : ℕ) (s : S) (t : R) →
    length xs ≤ i → F (drop i xs) s ≡ t → F [] s ≡ t
folds_all F xs i s t l e = let u = at_drop_all (λ ys. F ys s) xs i l in cc

-- A loop that stops at the first element that passes a test.
abbrev pub Ors : {X : Type 0} → (List X → Bool) → (X → Bool) → Type 0
Ors {X} F f = (x : X) (xs : List X) → F (x ∷ xs) ≡ f x || F xs

-- the last of a path
pub last_at : (d : ℕ) (xs : List ℕ) (k : ℕ) → suc k ≡ length xs → get_or xs k 0 ≡ last_of d xs
unfolding last_of
last_at d [] k h = omega arith
last_at d (x ∷ []) zero h = refl
last_at d (x ∷ (y ∷ ys)) zero h = omega arith
last_at d (x ∷ xs) (suc k) h = last_at x xs k (omega arith)

pub last_is : (xs : List ℕ) → 0 < length xs → get_or xs (length xs - 1) 0 ≡ last_of 0 xs
last_is xs l = last_at 0 xs (length xs - 1) (omega arith)

pub last_nil : (xs : List ℕ) → length xs ≡ 0 → last_of 0 xs ≡ 0
unfolding last_of
last_nil [] h = refl
last_nil (x ∷ xs) h = absurd (omega arith)

-- the last of a path, or 0
pub last_or : (xs : List ℕ) → get_or xs (length xs - 1) 0 ≡ last_of 0 xs
unfolding last_of
last_or [] = refl
last_or (x ∷ xs) = last_is (x ∷ xs) (omega arith)

-- A test of a whole list that goes by its first element and the rest is the library's.
pub all_is : {X : Type 0} (F : List X → Bool) (f : X → Bool) → F [] ≡ true → Ands F f → (xs : List X) → list_all f xs ≡ F xs
all_is F f n a [] = sym n
all_is F f n a (x ∷ xs) = let e = all_is F f n a xs in let s = a x xs in cc

pub any_is : {X : Type 0} (F : List X → Bool) (f : X → Bool) → F [] ≡ false → Ors F f → (xs : List X) → list_any f xs ≡ F xs
any_is F f n a [] = sym n
any_is F f n a (x ∷ xs) = let e = any_is F f n a xs in let s = a x xs in cc

-- A loop that looks for the first section that stands again.
pub repeated_here : (x : ℕ) (xs rest : List ℕ) (b : Bool) (t : Option ℕ) → rest ≡ x ∷ xs → b ≡ among x xs → b ≡ true → repeated rest ≡ t → Some x ≡ t
unfolding repeated
repeated_here x xs rest b t e f g h = let u = ap repeated e in cc

pub repeated_behind : (x : ℕ) (xs rest : List ℕ) (b : Bool) (t : Option ℕ) → rest ≡ x ∷ xs → b ≡ among x xs → b ≡ false → repeated rest ≡ t → repeated xs ≡ t
unfolding repeated
repeated_behind x xs rest b t e f g h = let u = ap repeated e in cc

pub repeated_no_more : (rest : List ℕ) (t : Option ℕ) → length rest ≡ 0 → repeated rest ≡ t → None ≡ t
unfolding repeated
repeated_no_more [] t e h = h
repeated_no_more (x ∷ xs) t e h = absurd (omega arith)

-- What a search through needs came to, by their places.
pub found_need : (ns : List Need) (o : Option Need) (No Yes : Need → Type 0) →
    MatchOption o (AllWithin No ns 0 (length ns)) (λ n. Yes n × (i : ℕ) × (i < length ns) × HoldsAt (λ m. m ≡ n) ns i × AllWithin No ns 0 i) →
    MatchOption o ((i : ℕ) → i < length ns → No (get_or ns i no_need)) (λ n. (i : ℕ) × (i < length ns) × (get_or ns i no_need ≡ n) × Yes n)
found_need ns None No Yes h = λ i l. h i no_need (omega arith) l
found_need ns (Some n) No Yes h = (h.1, h.2, h.3 no_need, h.0)

-- a test that each place passes
pub all_at_places : (F : List Need → Bool) (f : Need → Bool) → F [] ≡ true → Ands F f → (ns : List Need) → ((i : ℕ) → i < length ns → f (get_or ns i no_need) ≡ true) → F ns ≡ true
all_at_places F f n a [] h = n
all_at_places F f n a (x ∷ ns) h =
    let e = h 0 (omega arith) in
    let r = all_at_places F f n a ns (λ i l. h (suc i) (omega arith)) in
    let s = a x ns in cc
