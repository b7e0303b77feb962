-- What is noted of a section and of a route.
use Rattle.std.proofs.Common.{◌≡◌, ℕ, ◌<◌, Bool, true, false, not, ◌&&◌, ltb, length, get_or, sym, refl, ap, ◌∙◌, arith}
use Rattle.plan.specs.Plan.{Plan, Route, pick, route}
use Rattle.interlocking.specs.declared.Stage.{Stage}
use Rattle.interlocking.specs.declared.Stage.TheVariants.{Idle, Set, Shown, Used, Falling}
use Rattle.interlocking.specs.State.{Occupancy, State, is_open}
use Rattle.occupancy.specs.Notes.{entered, notes}

entered_shut : (b : Bool) (g : Stage) → is_open g ≡ false → entered b g ≡ g
entered_shut b Idle e = refl
entered_shut b Set e = refl
entered_shut b Shown e = absurd (grind arith)
entered_shut b Used e = refl
entered_shut b (Falling n) e = absurd (grind arith)

entered_vacant : (g : Stage) → entered false g ≡ g
entered_vacant Idle = refl
entered_vacant Set = refl
entered_vacant Shown = refl
entered_vacant Used = refl
entered_vacant (Falling n) = refl

entered_open : (g : Stage) → is_open g ≡ true → entered true g ≡ g → ⊥
entered_open Idle e f = grind arith
entered_open Set e f = grind arith
entered_open Shown e f = grind arith
entered_open Used e f = grind arith
entered_open (Falling n) e f = grind arith

pick_same : {A : Type 0} (b : Bool) (x y : A) → x ≡ y → pick b x y ≡ y
pick_same true x y e = e
pick_same false x y e = refl

pub stage_shut : (p : Plan) (h : State) (s : Occupancy) (r : ℕ) (g : Stage) (b : Bool) → g ≡ h.stage r → b ≡ is_open g → b ≡ false → (notes p h s).stage r ≡ h.stage r
unfolding notes
stage_shut p h s r g b e f k = pick_same (ltb r (length p.routes)) _ _ (entered_shut _ (h.stage r) (ap is_open (sym e) ∙ sym f ∙ k))

pub stage_vacant : (p : Plan) (h : State) (s : Occupancy) (r x y : ℕ) (way : Route) (b : Bool) → way ≡ route p r → x ≡ get_or way.path 0 0 → y ≡ x → b ≡ s y → b ≡ false → (notes p h s).stage r ≡ h.stage r
unfolding notes
stage_vacant p h s r x y way b e f k m n =
    let z : s (get_or (route p r).path 0 0) ≡ false = ap (λ (w : Route). s (get_or w.path 0 0)) (sym e) ∙ ap s (sym f) ∙ ap s (sym k) ∙ sym m ∙ n in
    pick_same (ltb r (length p.routes)) _ _ (ap (λ (v : Bool). entered v (h.stage r)) z ∙ entered_vacant (h.stage r))

pub stage_entered : (p : Plan) (h : State) (s : Occupancy) (r x y : ℕ) (way : Route) (g : Stage) (o b : Bool) → r < length p.routes → g ≡ h.stage r → o ≡ is_open g → o ≡ true →
    way ≡ route p r → x ≡ get_or way.path 0 0 → y ≡ x → b ≡ s y → b ≡ true → (notes p h s).stage r ≡ h.stage r → ⊥
unfolding notes
stage_entered p h s r x y way g o b l a d q e f k m n same =
    let z : s (get_or (route p r).path 0 0) ≡ true = ap (λ (w : Route). s (get_or w.path 0 0)) (sym e) ∙ ap s (sym f) ∙ ap s (sym k) ∙ sym m ∙ n in
    let t : ltb r (length p.routes) ≡ true = grind arith in
    entered_open (h.stage r) (ap is_open (sym a) ∙ sym d ∙ q)
    (sym (ap (λ (v : Bool). entered v (h.stage r)) z) ∙ sym (ap (λ (v : Bool). pick v (entered (s (get_or (route p r).path 0 0)) (h.stage r)) (h.stage r)) t) ∙ same)

-- y is the section by another name, and v, a, b what was read of it
pub mark_unlocked : (p : Plan) (h : State) (s : Occupancy) (x y v : ℕ) → y ≡ x → v ≡ h.lock y → v ≡ 0 → (notes p h s).passed x ≡ h.passed x
unfolding notes
mark_unlocked p h s x y v e f z = let k : h.lock x ≡ 0 = sym (f ∙ ap h.lock e) ∙ z in grind arith

pub mark_kept : (p : Plan) (h : State) (s : Occupancy) (x y : ℕ) (a b : Bool) → y ≡ x → a ≡ s y → b ≡ h.passed y → a && not b ≡ false → (notes p h s).passed x ≡ h.passed x
unfolding notes
mark_kept p h s x y a b e f g t =
    let k : a ≡ s x = f ∙ ap s e in
    let m : b ≡ h.passed x = g ∙ ap h.passed e in grind arith

pub mark_missed : (p : Plan) (h : State) (s : Occupancy) (x y v : ℕ) (a b : Bool) → y ≡ x → v ≡ h.lock y → (v ≡ 0 → ⊥) → a ≡ s y → b ≡ h.passed y → a && not b ≡ true → (notes p h s).passed x ≡ h.passed x → ⊥
unfolding notes
mark_missed p h s x y v a b e q n f g t same =
    let k : a ≡ s x = f ∙ ap s e in
    let m : b ≡ h.passed x = g ∙ ap h.passed e in
    let l : v ≡ h.lock x = q ∙ ap h.lock e in grind arith
