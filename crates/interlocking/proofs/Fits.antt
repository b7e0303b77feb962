-- There is room for 64 sections, 64 routes and 32 points: what lies beyond is as nothing had been written there.
use Rattle.std.proofs.Common.{◌≡◌, ℕ, ◌<◌, ◌≤◌, Bool, true, false, ltb, List, length, get_or, replicate, refl, ap, ◌∙◌, arith, ltb-false, ltb-true}
use Rattle.std.proofs.lemmas.List.{get_or_past, get_or-replicate, length-replicate}
use Rattle.plan.specs.Plan.{pick}
use Rattle.interlocking.specs.State.{State, fitted, at_rest}
use Rattle.interlocking.specs.Says.{state_of}
use Rattle.interlocking.specs.declared.Interlocking.{Interlocking}
use Rattle.interlocking.specs.declared.Stage.TheVariants.{Idle}
use Rattle.interlocking.proofs.States.{same_state}

-- two that agree wherever there is room
pub record Alike (h g : State) : Type 0 where
  pub lock : (x : ℕ) → x < 64 → h.lock x ≡ g.lock x
  pub passed : (x : ℕ) → x < 64 → h.passed x ≡ g.passed x
  pub stage : (r : ℕ) → r < 64 → h.stage r ≡ g.stage r
  pub wanted : (q : ℕ) → q < 32 → h.wanted q ≡ g.wanted q

-- a list of n is what it has below n, and its default beyond
short : {X : Type 0} (xs : List X) (n x : ℕ) (d v : X) → length xs ≡ n → (x < n → get_or xs x d ≡ v) → get_or xs x d ≡ pick (ltb x n) v d
short {X} xs n x d v l e = go (ltb x n) refl
  where
    go : (b : Bool) → ltb x n ≡ b → get_or xs x d ≡ pick (ltb x n) v d
    go true q = let f = e (ltb-true x n q) in cc
    go false q =
        let m : n ≤ x = ltb-false x n q in
        let k : length xs ≤ x = omega arith in
        let f = get_or_past xs x d k in cc

pub alike_fits : (h : Interlocking) (g : State) → length h.locks ≡ 64 → length h.passed ≡ 64 → length h.stages ≡ 64 → length h.wanted ≡ 32 →
    Alike (state_of h) g → state_of h ≡ fitted g
unfolding fitted
alike_fits h g a b c d e = same_state _ _
    (λ x. short h.locks 64 x 0 (g.lock x) a (e.lock x)) (λ x. short h.passed 64 x false (g.passed x) b (e.passed x))
    (λ x. short h.stages 64 x Idle (g.stage x) c (e.stage x)) (λ x. short h.wanted 32 x false (g.wanted x) d (e.wanted x))

pub same_fits : (h : Interlocking) (g : State) → length h.locks ≡ 64 → length h.passed ≡ 64 → length h.stages ≡ 64 → length h.wanted ≡ 32 →
    state_of h ≡ g → state_of h ≡ fitted g
same_fits h g a b c d e = alike_fits h g a b c d (record {
  lock = λ x l. ap (λ (k : State). k.lock x) e;
  passed = λ x l. ap (λ (k : State). k.passed x) e;
  stage = λ x l. ap (λ (k : State). k.stage x) e;
  wanted = λ x l. ap (λ (k : State). k.wanted x) e;
})

-- nothing written anywhere, and all wanted left
plain : {X : Type 0} (n x : ℕ) (d : X) → get_or (replicate n d) x d ≡ d
plain {X} n x d = short (replicate n d) n x d d (length-replicate n d) (λ l. get_or-replicate n x d d l) ∙ same (ltb x n)
  where
    same : (b : Bool) → pick b d d ≡ d
    same true = refl
    same false = refl

left_below : (n x : ℕ) → get_or (replicate n true) x false ≡ ltb x n
left_below n x = short (replicate n true) n x false true (length-replicate n true) (λ l. get_or-replicate n x true false l) ∙ same (ltb x n)
  where
    same : (b : Bool) → pick b true false ≡ b
    same true = refl
    same false = refl

pub resting : (w : List Bool) → w ≡ replicate 32 true → state_of (record { locks = replicate 64 0; passed = replicate 64 false; stages = replicate 64 Idle; wanted = w }) ≡ at_rest
unfolding at_rest
resting w e = same_state _ _ (λ x. plain 64 x 0) (λ x. plain 64 x false) (λ x. plain 64 x Idle) (λ x. ap (λ (v : List Bool). get_or v x false) e ∙ left_below 32 x)
