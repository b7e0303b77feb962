-- A train that comes in at an edge keeps what is safe.
use Rattle.std.proofs.Common.{◌≡◌, ℕ, suc, ◌<◌, Bool, true, false, ◌⊎◌, [], ◌∷◌, sym, refl, ◌∙◌, inl, inr, arith}
use Rattle.plan.specs.Plan.{Plan, Positions, among, Once, none, more}
use Rattle.soundness.specs.Sound.{Sound}
use Rattle.interlocking.specs.State.{State, Occupancy}
use Rattle.model.specs.World.{next, Train, World, occupied, with_train, can, state_after, lies_after, trains_after}
use Rattle.model.specs.declared.Event.TheVariants.{Comes}
use Rattle.safety.specs.Promise.{Hangs, in_one}
use Rattle.safety.specs.Safe.{Ahead, at_signal, Kept, Run, Books, Sure, Safe}
use Rattle.safety.proofs.Tests.{fails}
use Rattle.safety.proofs.Lists.{among_none, among_one}
use Rattle.safety.proofs.Occupied.{each_train, occupied_less, vacant_at}
use Rattle.safety.proofs.Shorter.{books_less, ahead_less}

-- what it takes: a section with no point in it, a signal that way, not locked and vacant
pub record Entry (p : Plan) (h : State) (s : Occupancy) (up : Bool) (x : ℕ) : Type 0 where
  pub inside : x < p.sections
  pub plain : (q : ℕ) → q < p.points → p.place q ≡ x → ⊥
  pub sign : p.signal up x ≡ true
  pub unlocked : h.lock x ≡ 0
  pub vacant : s x ≡ false

entry : (p : Plan) (n : ℕ) (w : World) (i : ℕ) (up : Bool) (x : ℕ) → Sound p → can p n w (Comes i up x) ≡ true → Entry p w.interlocking (occupied n w.trains) up x
unfolding can
entry p n w i up x snd ok = record {
  inside = grind arith;
  plain = λ q l e. let old = snd.clean q l in grind arith;
  sign = grind arith;
  unlocked = grind arith;
  vacant = grind arith;
}

comes_who : (ts : ℕ → Train) (i : ℕ) (up : Bool) (x j y : ℕ) → among y (with_train ts i up (x ∷ []) j).body ≡ true → ((j ≡ i) × (y ≡ x)) ⊎ (among y (ts j).body ≡ true)
comes_who ts i up x j y =
    each_train ts i up (x ∷ []) (λ k v. among y v.body ≡ true → ((k ≡ i) × (y ≡ x)) ⊎ (among y (ts k).body ≡ true))
    (λ a. inl (refl, among_one y x a)) (λ k ne a. inr a) j

comes_occupied : (n : ℕ) (ts : ℕ → Train) (i : ℕ) (up : Bool) (x y : ℕ) → (y ≡ x → ⊥) → occupied n (with_train ts i up (x ∷ [])) y ≡ true → occupied n ts y ≡ true
comes_occupied n ts i up x y ne e =
    occupied_less n ts (with_train ts i up (x ∷ [])) y (λ j l a. elim (comes_who ts i up x j y a) [ inl q ↦ absurd (ne q.1) | inr b ↦ b ]) e

module _ (p : Plan) (n : ℕ) (h : State) (t : Positions) (ts : ℕ → Train) (i : ℕ) (up : Bool) (x : ℕ) (c : Entry p h (occupied n ts) up x) where
  abbrev us : ℕ → Train
  us = with_train ts i up (x ∷ [])

  -- no more of what is locked is occupied
  comes_locked : (y r : ℕ) → h.lock y ≡ suc r → occupied n us y ≡ true → occupied n ts y ≡ true
  comes_locked y r l e = comes_occupied n ts i up x y (λ q. let Free = c.unlocked in grind arith) e

  pub comes_kept : Kept p h (occupied n ts) t → Kept p h (occupied n us) t
  comes_kept k = record {
    still = λ q l e. k.still q l (comes_occupied n ts i up x (p.place q) (c.plain q l) e);
    owner = k.owner;
    waits = λ r l v y a. let u = k.waits r l v y a in (u.0, fails (occupied n ts y) (occupied n us y) (comes_locked y r u.0) u.1);
    wants = k.wants;
    lies = k.lies;
  }

  pub comes_run : Run p n h t ts → Run p n h t us
  comes_run run =
      let alone : (j y : ℕ) → j < n → y ≡ x → among y (ts j).body ≡ true → ⊥ = λ j y l q a. vacant_at n ts x j l c.vacant (rw q at a) in
      record {
        inside = λ j y l a. elim (comes_who ts i up x j y a) [ inl q ↦ omega (arith, q.1, c.inside) | inr b ↦ run.inside j y l b ];
        once = each_train ts i up (x ∷ []) (λ j v. j < n → Once v.body) (λ l. more x [] (among_none x) none) (λ j ne l. run.once j l);
        apart = λ j k y l m ne a b. elim (comes_who ts i up x j y a) [
          | inl q ↦ elim (comes_who ts i up x k y b) [ inl q' ↦ ne (q.0 ∙ sym q'.0) | inr b' ↦ alone k y m q.1 b' ]
          | inr a' ↦ elim (comes_who ts i up x k y b) [ inl q' ↦ alone j y l q'.1 a' | inr b' ↦ run.apart j k y l m ne a' b' ]
        ];
        hangs = each_train ts i up (x ∷ []) (λ j v. j < n → Hangs p t v.up v.body) (λ l. in_one x) (λ j ne l. run.hangs j l);
        ahead = λ j y ys l e.
            each_train ts i up (x ∷ []) (λ k v. k < n → v.body ≡ y ∷ ys → Ahead p h (occupied n us) t v.up y)
            (λ m q. let d : x ≡ y = cc in at_signal (rw (← d) c.sign))
            (λ k ne m q. ahead_less p h (occupied n ts) (occupied n us) t (ts k).up y comes_locked (run.ahead k y ys m q))
            j l e;
      }

  pub comes_sure : Sure p n h t ts → Sure p n h t us
  comes_sure k = (comes_kept k.0, comes_run k.1)

  pub comes_books : Books p h (occupied n ts) → Books p h (occupied n us)
  comes_books b = books_less p h (occupied n ts) (occupied n us) comes_locked b

pub comes_keeps : (p : Plan) (n : ℕ) (w : World) (i : ℕ) (up : Bool) (x : ℕ) → Sound p → Safe p n w → can p n w (Comes i up x) ≡ true → Safe p n (next p n w (Comes i up x))
unfolding state_after lies_after trains_after
comes_keeps p n w i up x snd safe ok =
    let c = entry p n w i up x snd ok in
    record {
      kept = comes_kept p n w.interlocking w.lies w.trains i up x c safe.kept;
      run = comes_run p n w.interlocking w.lies w.trains i up x c safe.run;
      books = comes_books p n w.interlocking w.lies w.trains i up x c safe.books;
      unmarked = safe.unmarked;
    }
