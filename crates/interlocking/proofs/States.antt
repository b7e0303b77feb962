-- What the arrays stand for after a write.
use Rattle.std.proofs.Common.{◌≡◌, ℕ, ◌+◌, ◌<◌, Bool, false, List, length, get_or, set, sym, refl, ap, ◌∙◌, add-one, arith}
use mathlib.Core.Path.{fun_ext}
use Rattle.interlocking.specs.State.{State, is_falling, let_go, forget, restaged, fallen, all_fall}
use Rattle.interlocking.specs.Says.{state_of, Swept, released, forgotten}
use Rattle.interlocking.specs.declared.Interlocking.{Interlocking}
use Rattle.interlocking.specs.declared.Stage.{Stage}
use Rattle.interlocking.specs.declared.Stage.TheVariants.{Idle, Set, Shown, Used, Falling}
use Rattle.interlocking.proofs.Sweeps.{written}

unfoldable mk : (ℕ → ℕ) → (ℕ → Bool) → (ℕ → Stage) → (ℕ → Bool) → State
mk a b c d = record { lock = a; passed = b; stage = c; wanted = d }

pub same_state : (h g : State) → ((x : ℕ) → h.lock x ≡ g.lock x) → ((x : ℕ) → h.passed x ≡ g.passed x) →
    ((r : ℕ) → h.stage r ≡ g.stage r) → ((q : ℕ) → h.wanted q ≡ g.wanted q) → h ≡ g
unfolding mk
same_state h g a b c d =
    let p = fun_ext a in let q = fun_ext b in let r = fun_ext c in let s = fun_ext d in
    let e : mk h.lock h.passed h.stage h.wanted ≡ mk g.lock g.passed g.stage g.wanted = cc in e

pub restaged_state : (h : Interlocking) (r : ℕ) (g : Stage) → r < length h.stages →
    state_of (record { locks = h.locks; passed = h.passed; stages = set h.stages r g; wanted = h.wanted }) ≡ restaged (state_of h) r g
restaged_state h r g l = same_state _ _ (λ x. refl) (λ x. refl) (λ k. written h.stages r g k Idle l) (λ x. refl)

pub let_go_state : (h : Interlocking) (r : ℕ) (ls : List ℕ) → r < length h.stages → Swept (released (r + 1)) 0 h.locks ls →
    state_of (record { locks = ls; passed = h.passed; stages = set h.stages r Idle; wanted = h.wanted }) ≡ let_go (state_of h) r
let_go_state h r ls l s =
    same_state _ _ (λ x. let e = s x in let a = add-one r in cc) (λ x. refl) (λ k. written h.stages r Idle k Idle l) (λ x. refl)

pub forget_state : (h : Interlocking) (r : ℕ) (ps : List Bool) → Swept (forgotten h.locks (r + 1)) false h.passed ps →
    state_of (record { locks = h.locks; passed = ps; stages = h.stages; wanted = h.wanted }) ≡ forget (state_of h) r
forget_state h r ps s =
    same_state _ _ (λ x. refl) (λ x. let e = s x in let a = add-one r in cc) (λ x. refl) (λ x. refl)

pub fall_more : (h g s : Interlocking) (r : ℕ) → state_of s ≡ all_fall r (state_of h) → state_of g ≡ fallen (state_of s) r (get_or s.stages r Idle) →
    state_of g ≡ all_fall (r + 1) (state_of h)
unfolding all_fall
fall_more h g s r e f =
    let a = add-one r in
    let k : get_or s.stages r Idle ≡ (all_fall r (state_of h)).stage r = ap (λ (z : State). z.stage r) e in
    f ∙ ap (λ (z : State). fallen z r (z.stage r)) e ∙ ap (λ n. all_fall n (state_of h)) (sym a)

-- what is not falling stays as it is
pub stays : (h : State) (r : ℕ) (g : Stage) → is_falling g ≡ false → h ≡ fallen h r g
stays h r Idle e = refl
stays h r Set e = refl
stays h r Shown e = refl
stays h r Used e = refl
stays h r (Falling n) e = grind arith
