-- An array that a closure made, place by place.
use Rattle.std.proofs.Common.{◌≡◌, ◌≢◌, ℕ, zero, suc, ◌+◌, ◌<◌, ◌≤◌, Bool, true, false, eqb, ltb, List, length, get_or, refl, arith, eqb-true, ltb-false, ltb-true}
use borrow.Author.Tests.{eqb-false}
use denote.Param.Members.{Mut, Called}
use Rattle.std.specs.Array.{IsFromFnResult, IsFromFnResultFrom}
use Rattle.std.proofs.lemmas.List.{get_or_past}
use Rattle.plan.specs.Plan.{pick}
use Rattle.interlocking.specs.Says.{Swept}

-- where each call keeps a fact of the closure, and says what it makes
pub made : {F B : Type 0} (g : Mut F (ℕ × Unit {0}) B) (f : F) (ys : List B) (n : ℕ) (Kept : F → Type 0) (v : ℕ → B) → Kept f →
    ((p q : F) (i : ℕ) (y : B) → Kept p → Called g p (i, tt) y q → Kept q × (y ≡ v i)) → IsFromFnResult g f ys n → (i : ℕ) (d : B) → i < n → get_or ys i d ≡ v i
made {F} {B} g f ys n Kept v s k a i d l = go n 0 f s a.each i (omega arith) (omega arith)
  where
    here : (j i : ℕ) (y : B) (o : Bool) → eqb i j ≡ o → get_or ys j d ≡ y → y ≡ v j → (i ≢ j → get_or ys i d ≡ v i) → get_or ys i d ≡ v i
    here j i y true z e w r = let t = eqb-true i j z in cc
    here j i y false z e w r = r (eqb-false i j z)

    go : (m j : ℕ) (p : F) → Kept p → IsFromFnResultFrom g p ys j m → (i : ℕ) → j ≤ i → i < j + m → get_or ys i d ≡ v i
    go zero j p s e i b c = absurd (omega arith)
    go (suc m) j p s (q, y, e, c, r) i b l =
        let w = k p q j y s c in here j i y (eqb i j) refl (e.1 d) w.1 (λ (t : i ≢ j). go m (j + 1) q w.0 r i (omega arith) (omega arith))

pub made_filled : {F B : Type 0} (g : Mut F (ℕ × Unit {0}) B) (f : F) (ys : List B) (n : ℕ) (Kept : F → Type 0) (v : ℕ → B) (d : B) → Kept f →
    ((p q : F) (i : ℕ) (y : B) → Kept p → Called g p (i, tt) y q → Kept q × (y ≡ v i)) → IsFromFnResult g f ys n → (x : ℕ) → get_or ys x d ≡ pick (ltb x n) (v x) d
made_filled {F} {B} g f ys n Kept v d s k a x = go (ltb x n) refl
  where
    go : (b : Bool) → ltb x n ≡ b → get_or ys x d ≡ pick (ltb x n) (v x) d
    go true q = let e = made g f ys n Kept v s k a x d (ltb-true x n q) in cc
    go false q =
        let m : n ≤ x = ltb-false x n q in
        let h : length ys ≡ n = a.long in
        let l : length ys ≤ x = omega arith in
        let e = get_or_past ys x d l in cc

-- each place made of what stood there
pub made_swept : {F B : Type 0} (g : Mut F (ℕ × Unit {0}) B) (f : F) (old ys : List B) (n : ℕ) (Kept : F → Type 0) (v : ℕ → B → B) (d : B) → length old ≡ n → Kept f →
    ((p q : F) (i : ℕ) (y : B) → Kept p → Called g p (i, tt) y q → Kept q × (y ≡ v i (get_or old i d))) → ((x : ℕ) → n ≤ x → v x d ≡ d) → IsFromFnResult g f ys n → Swept v d old ys
made_swept {F} {B} g f old ys n Kept v d h s k z a x = go (ltb x n) refl
  where
    e : get_or ys x d ≡ pick (ltb x n) (v x (get_or old x d)) d
    e = made_filled g f ys n Kept (λ x. v x (get_or old x d)) d s k a x

    go : (b : Bool) → ltb x n ≡ b → get_or ys x d ≡ v x (get_or old x d)
    go true q = let r = e in cc
    go false q =
        let r = e in
        let m : n ≤ x = ltb-false x n q in
        let l : length old ≤ x = omega arith in
        let t = get_or_past old x d l in
        let u = z x m in cc
