-- Trains by their numbers: one read, one written, and the sections that they stand in.
use Rattle.std.proofs.Common.{◌≡◌, ℕ, zero, suc, ◌+◌, ◌<◌, ◌≤◌, Bool, true, false, ◌&&◌, eqb, ltb, ◌≢◌, List, [], ◌∷◌, ◌++◌, map, length, get_or, set, vec_items, sym, refl, ap, ◌∙◌, subst, arith, eqb-true}
use mathlib.Core.Path.{fun_ext}
use borrow.Author.Tests.{eqb-false}
use Rattle.std.proofs.lemmas.List.{get_or-map, get_or_past, map-set, length-map, get_or-set_same, get_or-set_other, length_push}
use Rattle.plan.specs.Plan.{pick}
use Rattle.trains.specs.Trains.{Train, occupied, with_train}
use Rattle.trains.specs.Held.{train_of, trains_of, nowhere, all_inside, trains_inside, within, Nowhere}
use Rattle.trains.specs.declared.train.Train.{Train as HeldTrain}
use Rattle.trains.proofs.Bodies.{among_inside}

pub trains_at : (ts : List HeldTrain) (i : ℕ) (t : HeldTrain) → i < length ts → t ≡ get_or ts i t → train_of t ≡ trains_of ts i
unfolding trains_of
trains_at ts i t l e = ap train_of e ∙ sym (get_or-map train_of ts i t nowhere l)

pub train_here : (ts : List HeldTrain) (i n : ℕ) (t : HeldTrain) → i < n → n ≡ length ts → t ≡ get_or ts i t → train_of t ≡ trains_of ts i
train_here ts i n t l e f = trains_at ts i t (omega arith) f

pub train_past : (ts : List HeldTrain) (i : ℕ) → length ts ≤ i → trains_of ts i ≡ nowhere
unfolding trains_of
train_past ts i l = get_or_past (map train_of ts) i nowhere (simp length-map l)

written : (ts : List HeldTrain) (i : ℕ) (t : HeldTrain) → i < length ts → (j : ℕ) (b : Bool) → eqb j i ≡ b → trains_of (set ts i t) j ≡ pick b (train_of t) (trains_of ts j)
unfolding trains_of
written ts i t l j true e =
    let s : j ≡ i = eqb-true j i e in
    ap (λ (us : List Train). get_or us j nowhere) (map-set train_of ts i t) ∙ ap (λ (k : ℕ). get_or (set (map train_of ts) i (train_of t)) k nowhere) s
    ∙ get_or-set_same (map train_of ts) i (train_of t) nowhere (simp length-map l)
written ts i t l j false e =
    let ne : j ≢ i = eqb-false j i e in
    ap (λ (us : List Train). get_or us j nowhere) (map-set train_of ts i t) ∙ get_or-set_other (map train_of ts) i j (train_of t) nowhere ne

-- one train written
pub trains_set : (ts us : List HeldTrain) (i : ℕ) (t : HeldTrain) (new : Train) → us ≡ set ts i t → train_of t ≡ new → i < length ts →
    trains_of us ≡ with_train (trains_of ts) i new.up new.body
unfolding with_train
trains_set ts us i t new e f l =
    ap trains_of e ∙ fun_ext (λ j. written ts i t l j (eqb j i) refl ∙ ap (λ (n : Train). pick (eqb j i) n (trains_of ts j)) f)

-- a train written as it was
pub with_same : (ts : ℕ → Train) (i : ℕ) → with_train ts i (ts i).up (ts i).body ≡ ts
unfolding with_train
with_same ts i = fun_ext (λ j. go j (eqb j i) refl)
  where
    go : (j : ℕ) (b : Bool) → eqb j i ≡ b → pick b (record { up = (ts i).up; body = (ts i).body }) (ts j) ≡ ts j
    go j true e = ap ts (sym (eqb-true j i e))
    go j false e = refl

-- the sections of each train
pub inside_at : (ts : List HeldTrain) (i : ℕ) → trains_inside ts ≡ true → all_inside (trains_of ts i).body ≡ true
unfolding trains_of trains_inside all_inside
inside_at [] i h = refl
inside_at (t ∷ ts) zero h = grind arith
inside_at (t ∷ ts) (suc i) h = inside_at ts i (grind arith)

inside_one : (ts : List HeldTrain) (i : ℕ) (t : HeldTrain) → trains_inside ts ≡ true → all_inside (vec_items t.body) ≡ true → trains_inside (set ts i t) ≡ true
unfolding trains_inside
inside_one [] i t h k = h
inside_one (s ∷ ts) zero t h k = grind arith
inside_one (s ∷ ts) (suc i) t h k = let ih = inside_one ts i t in grind arith

pub inside_set : (ts us : List HeldTrain) (i : ℕ) (t : HeldTrain) (new : Train) → us ≡ set ts i t → train_of t ≡ new →
    trains_inside ts ≡ true → all_inside new.body ≡ true → trains_inside us ≡ true
inside_set ts us i t new e f h k = ap trains_inside e ∙ inside_one ts i t h (ap (λ (n : Train). all_inside n.body) f ∙ k)

-- what lies past 64 is not occupied
pub vacant_outside : (ts : List HeldTrain) (n x : ℕ) → trains_inside ts ≡ true → 64 ≤ x → occupied n (trains_of ts) x ≡ false
unfolding occupied
vacant_outside ts zero x h l = refl
vacant_outside ts (suc n) x h l =
    let a = among_inside (trains_of ts n).body x (inside_at ts n h) l in let ih = vacant_outside ts n x h l in grind arith

-- trains that are nowhere
nowhere_none : Nowhere 0 []
unfolding trains_of trains_inside
nowhere_none = record { long = refl; none = λ i. refl; inside = refl }

pub nowhere_start : (ts : List HeldTrain) → ts ≡ [] → Nowhere 0 ts
nowhere_start ts e = subst (λ (z : List HeldTrain). Nowhere 0 z) (sym e) nowhere_none

pub nowhere_all : (n m : ℕ) (ts : List HeldTrain) → n ≡ m → Nowhere n ts → Nowhere m ts
nowhere_all n m ts e h = subst (λ (k : ℕ). Nowhere k ts) e h

push_none : (ts : List HeldTrain) (t : HeldTrain) (i : ℕ) → ((j : ℕ) → trains_of ts j ≡ nowhere) → train_of t ≡ nowhere → trains_of (ts ++ t ∷ []) i ≡ nowhere
unfolding trains_of
push_none [] t zero h e = e
push_none [] t (suc i) h e = refl
push_none (s ∷ ts) t zero h e = h 0
push_none (s ∷ ts) t (suc i) h e = push_none ts t i (λ j. h (suc j)) e

push_inside : (ts : List HeldTrain) (t : HeldTrain) → trains_inside ts ≡ true → train_of t ≡ nowhere → trains_inside (ts ++ t ∷ []) ≡ true
unfolding trains_inside all_inside
push_inside [] t h e = let k : all_inside (vec_items t.body) ≡ true = ap (λ (r : Train). all_inside r.body) e in grind arith
push_inside (s ∷ ts) t h e = let ih = push_inside ts t in grind arith

pub nowhere_more : (n : ℕ) (ts us : List HeldTrain) (t : HeldTrain) → us ≡ ts ++ t ∷ [] → train_of t ≡ nowhere → Nowhere n ts → Nowhere (n + 1) us
nowhere_more n ts us t f e h =
    subst (λ (z : List HeldTrain). Nowhere (n + 1) z) (sym f)
    (record { long = length_push ts t ∙ ap (λ (k : ℕ). k + 1) h.long; none = λ i. push_none ts t i h.none e; inside = push_inside ts t h.inside e })

-- what is seen in 64 places is all that is occupied
pub seen_all : (ts : List HeldTrain) (n : ℕ) → trains_inside ts ≡ true → within (occupied n (trains_of ts)) ≡ occupied n (trains_of ts)
seen_all ts n h = fun_ext (λ x. go x (ltb x 64) refl)
  where
    go : (x : ℕ) (b : Bool) → ltb x 64 ≡ b → b && occupied n (trains_of ts) x ≡ occupied n (trains_of ts) x
    go x true e = refl
    go x false e = sym (vacant_outside ts n x h (grind arith))
