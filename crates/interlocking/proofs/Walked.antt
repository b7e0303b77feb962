-- A path gone through: is it free, is it vacant, and what lies before a section of it.
use Rattle.std.proofs.Common.{◌≡◌, ℕ, ◌+◌, ◌<◌, Bool, true, false, not, ◌&&◌, eqb, List, [], ◌∷◌, length, get_or, drop, sym, refl, ◌∙◌, eq-eqb, ne_eqb}
use Rattle.std.proofs.lemmas.List.{at_drop_more}
use Rattle.plan.specs.Plan.{pick, Plan}
use Rattle.plan.specs.declared.Need.{Need}
use Rattle.plan.proofs.Walks.{and_assoc}
use Rattle.interlocking.specs.State.{State, Occupancy, all_free, all_vacant, behind_free, can_have, can_want}

pub free_nil : (h : State) (s : Occupancy) → all_free h s [] ≡ true
unfolding all_free
free_nil h s = refl

pub free_cons : (h : State) (s : Occupancy) (x : ℕ) (xs : List ℕ) → all_free h s (x ∷ xs) ≡ ((eqb (h.lock x) 0 && not (s x)) && all_free h s xs)
unfolding all_free
free_cons h s x xs = and_assoc (eqb (h.lock x) 0) (not (s x)) (all_free h s xs)

pub vacant_nil : (s : Occupancy) → all_vacant s [] ≡ true
unfolding all_vacant
vacant_nil s = refl

pub vacant_cons : (s : Occupancy) (x : ℕ) (xs : List ℕ) → all_vacant s (x ∷ xs) ≡ (not (s x) && all_vacant s xs)
unfolding all_vacant
vacant_cons s x xs = refl

pub have_nil : (p : Plan) (h : State) (s : Occupancy) → can_have p h s [] ≡ true
unfolding can_have
have_nil p h s = refl

pub have_cons : (p : Plan) (h : State) (s : Occupancy) (n : Need) (ns : List Need) → can_have p h s (n ∷ ns) ≡ (can_want p h s n && can_have p h s ns)
unfolding can_have
have_cons p h s n ns = refl

pub behind_nil : (h : State) (lock x : ℕ) → behind_free h lock x [] ≡ true
unfolding behind_free
behind_nil h lock x = refl

behind_cons : (h : State) (lock x y : ℕ) (ys : List ℕ) → behind_free h lock x (y ∷ ys) ≡ pick (eqb y x) true (not (eqb (h.lock y) lock) && behind_free h lock x ys)
unfolding behind_free
behind_cons h lock x y ys = refl

-- the sections before one in a path, gone through
pub behind_here : (h : State) (lock x : ℕ) (path : List ℕ) (i : ℕ) (t : Bool) → i < length path → behind_free h lock x (drop i path) ≡ t → get_or path i 0 ≡ x → true ≡ t
behind_here h lock x path i t l e f =
    let u = at_drop_more (behind_free h lock x) path i 0 l in
    let w = behind_cons h lock x (get_or path i 0) (drop (i + 1) path) in
    let g = eq-eqb (get_or path i 0) x f in cc

pub behind_stop : (h : State) (lock x : ℕ) (path : List ℕ) (i v : ℕ) (t : Bool) → i < length path → behind_free h lock x (drop i path) ≡ t → (get_or path i 0 ≡ x → ⊥) →
    v ≡ h.lock (get_or path i 0) → v ≡ lock → false ≡ t
behind_stop h lock x path i v t l e f a b =
    let u = at_drop_more (behind_free h lock x) path i 0 l in
    let w = behind_cons h lock x (get_or path i 0) (drop (i + 1) path) in
    let g = ne_eqb (get_or path i 0) x f in
    let z : h.lock (get_or path i 0) ≡ lock = sym a ∙ b in
    let k = eq-eqb (h.lock (get_or path i 0)) lock z in cc

pub behind_more : (h : State) (lock x : ℕ) (path : List ℕ) (i v : ℕ) (t : Bool) → i < length path → behind_free h lock x (drop i path) ≡ t → (get_or path i 0 ≡ x → ⊥) →
    v ≡ h.lock (get_or path i 0) → (v ≡ lock → ⊥) → behind_free h lock x (drop (i + 1) path) ≡ t
behind_more h lock x path i v t l e f a b =
    let u = at_drop_more (behind_free h lock x) path i 0 l in
    let w = behind_cons h lock x (get_or path i 0) (drop (i + 1) path) in
    let g = ne_eqb (get_or path i 0) x f in
    let k = ne_eqb (h.lock (get_or path i 0)) lock (λ z. b (a ∙ z)) in cc
