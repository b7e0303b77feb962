-- What `find_map` came to over a row of numbers.
use Rattle.std.proofs.Common.{◌≡◌, ℕ, suc, ◌+◌, ◌-◌, ◌<◌, ◌≤◌, Bool, true, false, ltb, List, [], ◌∷◌, refl, ap, ◌∙◌, sym, subst, arith, Option, Some, None, MatchOption, IsSomeAnd}
use denote.Param.Members.{Mut, Called}
use Rattle.std.specs.Prelude.{IsTrue, slice_get}
use Rattle.std.specs.Iterator.{Yields}
use Rattle.std.specs.Iterator.Runs.{AllItemsGive, CallKeepsClosure, IsFirstToGive, SomeRun, YieldsRun}
use Rattle.std.specs.declared.ops.Range.{Range}

-- a range as it counts up
abbrev counts : Range ℕ → Option ℕ → Range ℕ → Type 0
counts s r t = (t.end ≡ s.end) × MatchOption r ((s.end - s.start ≡ 0) × (t.start ≡ s.start)) (λ x. (0 < s.end - s.start) × (x ≡ s.start) × (t.start ≡ s.start + 1))

-- each number of a range comes at some place
comes : (xs : List ℕ) (s t u : Range ℕ) → Yields counts s xs t → counts t None u → (k : ℕ) → s.start ≤ k → k < s.end → (i : ℕ) × (slice_get xs i ≡ Some k)
comes [] s t u y n k a b = let e : s.start ≡ t.start = ap (λ (r : Range ℕ). r.start) y in let f : s.end ≡ t.end = ap (λ (r : Range ℕ). r.end) y in absurd (omega (arith, n.1.0))
comes (x ∷ xs) s t u y n k a b = go (ltb s.start k) refl (λ l. comes xs y.0 t u y.2 n k (omega (arith, y.1.1.2)) (omega (arith, y.1.0)))
  where
    go : (c : Bool) → ltb s.start k ≡ c → (s.start < k → (i : ℕ) × (slice_get xs i ≡ Some k)) → (i : ℕ) × (slice_get (x ∷ xs) i ≡ Some k)
    go true e h = let l : s.start < k = grind arith in (suc (h l).0, (h l).1)
    go false e h = let l : k ≤ s.start = grind arith in let z : x ≡ k = omega (arith, y.1.1.1) in (0, ap Some z)

module _ {F T : Type 0} {g : Mut F (ℕ × Unit {0}) (Option T)} {f : F} (P : ℕ → Type 0) (Named : T → Type 0)
    (calls : (x : ℕ) (r : Option T) (q : F) → Called g f (x, tt) r q → (q ≡ f) × MatchOption r (P x) Named) where
  keeps : CallKeepsClosure g f
  keeps a r q k = (calls a.0 r q k).0

  at_some : (o : Option ℕ) (y : T) → IsSomeAnd o (λ x. Called g f (x, tt) (Some y) f) → Named y
  at_some None y h = elim h [ ]
  at_some (Some x) y h = (calls x (Some y) f h).1

  abbrev pub Looked : Range ℕ → Option T → Type 0
  Looked s o = SomeRun counts s (λ p. MatchOption o (IsTrue p.whole × AllItemsGive p g f None) (λ y. (i : ℕ) × (i < p.len) × (p.len ≡ i + 1) × IsFirstToGive p g f (Some y) None i))

  none : (s : Range ℕ) → Looked s None → (k : ℕ) → s.start ≤ k → k < s.end → P k
  unfolding YieldsRun
  none s d k a b =
      let r = d.0.gave in
      let h = comes d.0.items d.0.from r.0.0 (r.0.2 d.2.0).0 r.0.1 (r.0.2 d.2.0).1 k (subst (λ (r : Range ℕ). r.start ≤ k) (sym d.1) a) (subst (λ (r : Range ℕ). k < r.end) (sym d.1) b) in
      (calls k None f (subst (λ (o : Option ℕ). MatchOption o (Unit {0}) (λ x. Called g f (x, tt) None f)) (r.1 h.0 ∙ h.1) (d.2.1 keeps h.0))).1

  -- `find_map` over a range: where it found nothing, P holds of each number
  pub looked_over : (s : Range ℕ) (o : Option T) → Looked s o → MatchOption o ((k : ℕ) → s.start ≤ k → k < s.end → P k) Named
  looked_over s None d = none s d
  looked_over s (Some y) d = at_some (d.0.at d.2.0) y (d.2.3 keeps).0

  -- the same, of the numbers below m
  pub looked_below : (n m : ℕ) (o : Option T) → n ≡ m → Looked (record { start = 0; end = n }) o → MatchOption o ((k : ℕ) → k < m → P k) Named
  looked_below n m None e d = λ k l. looked_over _ None d k (omega arith) (omega arith)
  looked_below n m (Some y) e d = looked_over _ (Some y) d
