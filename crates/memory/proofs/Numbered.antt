-- What numbers say, and which numbers say it.
use Rattle.std.proofs.Common.{◌≡◌, ℕ, zero, suc, ◌+◌, ◌-◌, ◌<◌, ◌≤◌, Bool, true, false, ltb, List, length, get_or, replicate, sym, refl, ap, ◌∙◌, subst, arith, ltb-false, ltb-true, le-ltb, lt-ltb, eqb-true}
use Rattle.std.proofs.lemmas.List.{get_or_past, get_or-replicate, length-replicate, get_or_append_left, get_or-append_right}
use Rattle.plan.specs.Plan.{pick}
use Rattle.plan.specs.Numbers.{bitb}
use Rattle.interlocking.specs.State.{State, at_rest}
use Rattle.interlocking.specs.Says.{state_of}
use Rattle.interlocking.specs.declared.Interlocking.{Interlocking}
use Rattle.interlocking.specs.declared.Stage.{Stage}
use Rattle.interlocking.specs.declared.Stage.TheVariants.{Idle, Set, Shown, Used, Falling}
use Rattle.interlocking.proofs.States.{same_state}
use Rattle.memory.specs.Memory.{remarked, stage_in, stage_number, state_in, number_in, Written, empty_memory}
use Rattle.memory.specs.Entry.{Stored}
use Rattle.memory.proofs.Filled.{within}

-- the number at a place of each part

pub number_lock : (h : State) (k old : ℕ) → k < 64 → number_in h k old ≡ h.lock k
unfolding number_in
number_lock h k old l = let a = lt-ltb k 64 l in cc

pub number_passed : (h : State) (k old : ℕ) → 64 ≤ k → k < 128 → number_in h k old ≡ remarked old (h.passed (k - 64))
unfolding number_in
number_passed h k old l m = let a = le-ltb k 64 l in let b = lt-ltb k 128 m in cc

pub number_stage : (h : State) (k old : ℕ) → 128 ≤ k → k < 192 → number_in h k old ≡ stage_number (h.stage (k - 128))
unfolding number_in
number_stage h k old l m =
    let i : 64 ≤ k = omega arith in let a = le-ltb k 64 i in let b = le-ltb k 128 l in let c = lt-ltb k 192 m in cc

pub number_wanted : (h : State) (k old : ℕ) → 192 ≤ k → k < 224 → number_in h k old ≡ remarked old (h.wanted (k - 192))
unfolding number_in
number_wanted h k old l m =
    let i : 64 ≤ k = omega arith in let j : 128 ≤ k = omega arith in
    let a = le-ltb k 64 i in let b = le-ltb k 128 j in let c = le-ltb k 192 l in let d = lt-ltb k 224 m in cc

pub number_past : (h : State) (k old : ℕ) → 224 ≤ k → number_in h k old ≡ old
unfolding number_in
number_past h k old l =
    let i : 64 ≤ k = omega arith in let j : 128 ≤ k = omega arith in let n : 192 ≤ k = omega arith in
    let a = le-ltb k 64 i in let b = le-ltb k 128 j in let c = le-ltb k 192 n in let d = le-ltb k 224 l in cc

-- written and read back

bit_back : (old : ℕ) (b : Bool) → bitb (remarked old b) ≡ b
bit_back old true = refl
bit_back old false = go (bitb old) refl
  where
    go : (b : Bool) → bitb old ≡ b → bitb (pick (bitb old) 0 old) ≡ false
    go true e = ap (λ b. bitb (pick b 0 old)) e
    go false e = ap (λ b. bitb (pick b 0 old)) e ∙ e

remark_same : (old : ℕ) → remarked old (bitb old) ≡ old
remark_same old = go (bitb old) refl
  where
    go : (b : Bool) → bitb old ≡ b → pick (bitb old) 1 (pick (bitb old) 0 old) ≡ old
    go true e = let q = eqb-true old 1 e in cc
    go false e = cc

-- the time that is left, with what it takes to be written
abbrev pub size : Stage → ℕ
size Idle = 0
size Set = 1
size Shown = 2
size Used = 3
size (Falling n) = n + 4

abbrev pub Fits : (ℕ → Stage) → Type 0
Fits f = (k : ℕ) → size (f k) < 65536

stage_back : (s : Stage) → size s < 65536 → stage_in (stage_number s) ≡ s
stage_back Idle l = refl
stage_back Set l = refl
stage_back Shown l = refl
stage_back Used l = refl
stage_back (Falling n) l =
    let m : n < 65532 = omega arith in
    let b = lt-ltb n 65532 m in
    let e : pick (ltb n 65532) (n + 4) 65535 ≡ n + 4 = cc in
    let f : n + 4 ≡ suc (suc (suc (suc n))) = omega arith in
    ap stage_in (e ∙ f)

number_back : (n : ℕ) → n < 65536 → stage_number (stage_in n) ≡ n
number_back zero l = refl
number_back (suc zero) l = refl
number_back (suc (suc zero)) l = refl
number_back (suc (suc (suc zero))) l = refl
number_back (suc (suc (suc (suc n)))) l =
    let m : n < 65532 = omega arith in
    let b = lt-ltb n 65532 m in
    let e : pick (ltb n 65532) (n + 4) 65535 ≡ n + 4 = cc in
    let f : n + 4 ≡ suc (suc (suc (suc n))) = omega arith in
    e ∙ f

-- a part of a memory, one place of it

state_lock : (h : State) (m m₁ : List ℕ) (x : ℕ) → length m ≡ 224 → Written h m m₁ → x < 64 → get_or m₁ x 0 ≡ h.lock x
state_lock h m m₁ x e w l = let o : x < length m = omega arith in w.numbers x o ∙ number_lock h x (get_or m x 0) l

state_passed : (h : State) (m m₁ : List ℕ) (x : ℕ) → length m ≡ 224 → Written h m m₁ → x < 64 → bitb (get_or m₁ (64 + x) 0) ≡ h.passed x
state_passed h m m₁ x e w l =
    let o : 64 + x < length m = omega arith in
    let a : 64 ≤ 64 + x = omega arith in let b : 64 + x < 128 = omega arith in
    let z : (64 + x) - 64 ≡ x = omega arith in
    ap bitb (w.numbers (64 + x) o ∙ number_passed h (64 + x) (get_or m (64 + x) 0) a b) ∙ bit_back (get_or m (64 + x) 0) (h.passed ((64 + x) - 64)) ∙ ap h.passed z

state_stage : (h : State) (m m₁ : List ℕ) (x : ℕ) → length m ≡ 224 → Written h m m₁ → Fits h.stage → x < 64 → stage_in (get_or m₁ (128 + x) 0) ≡ h.stage x
state_stage h m m₁ x e w f l =
    let o : 128 + x < length m = omega arith in
    let a : 128 ≤ 128 + x = omega arith in let b : 128 + x < 192 = omega arith in
    let z : (128 + x) - 128 ≡ x = omega arith in
    ap stage_in (w.numbers (128 + x) o ∙ number_stage h (128 + x) (get_or m (128 + x) 0) a b) ∙ stage_back (h.stage ((128 + x) - 128)) (f _) ∙ ap h.stage z

state_wanted : (h : State) (m m₁ : List ℕ) (x : ℕ) → length m ≡ 224 → Written h m m₁ → x < 32 → bitb (get_or m₁ (192 + x) 0) ≡ h.wanted x
state_wanted h m m₁ x e w l =
    let o : 192 + x < length m = omega arith in
    let a : 192 ≤ 192 + x = omega arith in let b : 192 + x < 224 = omega arith in
    let z : (192 + x) - 192 ≡ x = omega arith in
    ap bitb (w.numbers (192 + x) o ∙ number_wanted h (192 + x) (get_or m (192 + x) 0) a b) ∙ bit_back (get_or m (192 + x) 0) (h.wanted ((192 + x) - 192)) ∙ ap h.wanted z

-- an interlocking's arrays have their lengths
pub record Whole (h : Interlocking) : Type 0 where
  pub locks : length h.locks ≡ 64
  pub passed : length h.passed ≡ 64
  pub stages : length h.stages ≡ 64
  pub wanted : length h.wanted ≡ 32

stored_held : (h : Interlocking) (m m₁ : List ℕ) → length m ≡ 224 → Whole h → Fits (state_of h).stage → Written (state_of h) m m₁ → Stored (state_of h) m m₁
unfolding state_in
stored_held h m m₁ l a f w = record {
  whole = w.whole;
  state = same_state _ _
      (λ x. within h.locks 64 x 0 (get_or m₁ x 0) a.locks (state_lock (state_of h) m m₁ x l w))
      (λ x. within h.passed 64 x false (bitb (get_or m₁ (64 + x) 0)) a.passed (state_passed (state_of h) m m₁ x l w))
      (λ x. within h.stages 64 x Idle (stage_in (get_or m₁ (128 + x) 0)) a.stages (state_stage (state_of h) m m₁ x l w f))
      (λ x. within h.wanted 32 x false (bitb (get_or m₁ (192 + x) 0)) a.wanted (state_wanted (state_of h) m m₁ x l w));
  numbers = λ k. go k (ltb k 224) refl;
}
  where
    go : (k : ℕ) (b : Bool) → ltb k 224 ≡ b → get_or m₁ k 0 ≡ number_in (state_of h) k (get_or m k 0)
    go k true q = let o = ltb-true k 224 q in let i : k < length m = omega arith in w.numbers k i
    go k false q =
        let o : 224 ≤ k = ltb-false k 224 q in
        let e = w.whole in
        let i : length m ≤ k = omega arith in let j : length m₁ ≤ k = omega arith in
        get_or_past m₁ k 0 j ∙ sym (get_or_past m k 0 i) ∙ sym (number_past (state_of h) k (get_or m k 0) o)

-- what was made, written into its memory
pub stored_from : (g : State) (h : Interlocking) (m m₁ : List ℕ) → length m ≡ 224 → Whole h → Fits g.stage → state_of h ≡ g → Written (state_of h) m m₁ → Stored g m m₁
stored_from g h m m₁ l a f e w =
    let F : State → Type 0 = λ k. Fits k.stage in
    let P : State → Type 0 = λ k. Stored k m m₁ in
    subst P e (stored_held h m m₁ l a (subst F (sym e) f) w)

-- a memory says what it says with the same numbers

same_mark : (m : List ℕ) (n k w : ℕ) → n ≤ k → k < n + w → remarked (get_or m k 0) (pick (ltb (k - n) w) (bitb (get_or m (n + (k - n)) 0)) false) ≡ get_or m k 0
same_mark m n k w l o =
    let e : n + (k - n) ≡ k = omega arith in
    let i : k - n < w = omega arith in
    let b = lt-ltb (k - n) w i in
    let z : pick (ltb (k - n) w) (bitb (get_or m (n + (k - n)) 0)) false ≡ bitb (get_or m k 0) = cc in
    ap (remarked (get_or m k 0)) z ∙ remark_same (get_or m k 0)

same_stage : (m : List ℕ) (k : ℕ) → 128 ≤ k → k < 192 → get_or m k 0 < 65536 →
    stage_number (pick (ltb (k - 128) 64) (stage_in (get_or m (128 + (k - 128)) 0)) Idle) ≡ get_or m k 0
same_stage m k l o f =
    let e : 128 + (k - 128) ≡ k = omega arith in
    let i : k - 128 < 64 = omega arith in
    let b = lt-ltb (k - 128) 64 i in
    let z : pick (ltb (k - 128) 64) (stage_in (get_or m (128 + (k - 128)) 0)) Idle ≡ stage_in (get_or m k 0) = cc in
    ap stage_number z ∙ number_back (get_or m k 0) f

same_number : (m : List ℕ) (k : ℕ) → get_or m k 0 < 65536 → number_in (state_in m) k (get_or m k 0) ≡ get_or m k 0
unfolding state_in
same_number m k f = one (ltb k 64) refl
  where
    four : (b : Bool) → ltb k 224 ≡ b → 192 ≤ k → number_in (state_in m) k (get_or m k 0) ≡ get_or m k 0
    four true q l = let o = ltb-true k 224 q in number_wanted (state_in m) k (get_or m k 0) l o ∙ same_mark m 192 k 32 l (omega arith)
    four false q l = number_past (state_in m) k (get_or m k 0) (ltb-false k 224 q)

    three : (b : Bool) → ltb k 192 ≡ b → 128 ≤ k → number_in (state_in m) k (get_or m k 0) ≡ get_or m k 0
    three true q l = let o = ltb-true k 192 q in number_stage (state_in m) k (get_or m k 0) l o ∙ same_stage m k l o f
    three false q l = four (ltb k 224) refl (ltb-false k 192 q)

    two : (b : Bool) → ltb k 128 ≡ b → 64 ≤ k → number_in (state_in m) k (get_or m k 0) ≡ get_or m k 0
    two true q l = let o = ltb-true k 128 q in number_passed (state_in m) k (get_or m k 0) l o ∙ same_mark m 64 k 64 l (omega arith)
    two false q l = three (ltb k 192) refl (ltb-false k 128 q)

    one : (b : Bool) → ltb k 64 ≡ b → number_in (state_in m) k (get_or m k 0) ≡ get_or m k 0
    one true q = number_lock (state_in m) k (get_or m k 0) (ltb-true k 64 q) ∙ ap (λ b. pick b (get_or m k 0) 0) q
    one false q = two (ltb k 128) refl (ltb-false k 64 q)

pub stored_same : (m : List ℕ) → ((i : ℕ) → get_or m i 0 < 65536) → Stored (state_in m) m m
stored_same m f = record { whole = refl; state = refl; numbers = λ k. sym (same_number m k (f k)) }

-- the memory of an interlocking at rest

empty_zero : (k : ℕ) → k < 192 → get_or empty_memory k 0 ≡ 0
empty_zero k l =
    let e = length-replicate {A = ℕ} 192 0 in
    let o : k < length (replicate {A = ℕ} 192 0) = omega arith in
    get_or_append_left (replicate 192 0) (replicate 32 1) 0 k o ∙ get_or-replicate 192 k 0 0 l

empty_one : (q : ℕ) → q < 32 → get_or empty_memory (192 + q) 0 ≡ 1
empty_one q l =
    let o : 192 ≤ 192 + q = omega arith in
    let z : (192 + q) - 192 ≡ q = omega arith in
    get_or-append_right (replicate 192 0) (replicate 32 1) 192 (192 + q) 0 (length-replicate {A = ℕ} 192 0) o ∙ ap (λ k. get_or (replicate 32 1) k 0) z ∙ get_or-replicate 32 q 1 0 l

same_pick : {X : Type 0} (b : Bool) (v d : X) → (b ≡ true → v ≡ d) → pick b v d ≡ d
same_pick true v d e = e refl
same_pick false v d e = refl

pick_left : (b c : Bool) → (b ≡ true → c ≡ true) → pick b c false ≡ b
pick_left true c e = e refl
pick_left false c e = refl

pub at_rest_empty : state_in empty_memory ≡ at_rest
unfolding state_in at_rest
at_rest_empty = same_state _ _
    (λ x. same_pick (ltb x 64) _ _ (λ q. let o = ltb-true x 64 q in empty_zero x (omega arith)))
    (λ x. same_pick (ltb x 64) _ _ (λ q. let o = ltb-true x 64 q in ap bitb (empty_zero (64 + x) (omega arith))))
    (λ x. same_pick (ltb x 64) _ _ (λ q. let o = ltb-true x 64 q in ap stage_in (empty_zero (128 + x) (omega arith))))
    (λ x. pick_left (ltb x 32) _ (λ q. ap bitb (empty_one x (ltb-true x 32 q))))
