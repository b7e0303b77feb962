-- What can be done, case by case.
use Rattle.std.proofs.Common.{◌≡◌, ℕ, ◌-◌, ◌<◌, ◌≤◌, Bool, true, false, not, ◌&&◌, ◌||◌, eqb, ltb, length, refl, ◌∙◌, arith, eq-eqb, ne_eqb, le-leb}
use borrow.Author.Tests.{lt-leb}
use Rattle.plan.specs.Plan.{Plan, Route, Positions, route, met, last_of}
use Rattle.interlocking.specs.State.{State, Occupancy, is_idle, is_set, is_used, can_fall, all_vacant, all_free, can_have, behind_free, does}
use Rattle.interlocking.specs.declared.Request.TheVariants.{Ask, Clear, Back, Free, Tick}
use Rattle.interlocking.specs.declared.Stage.{Stage}

pub clear_there : (p : Plan) (h : State) (s : Occupancy) (t : Positions) (r : ℕ) → does p h s t (Clear r) ≡ true → r < length p.routes
unfolding does
clear_there p h s t r e = grind arith

pub back_there : (p : Plan) (h : State) (s : Occupancy) (t : Positions) (r : ℕ) → does p h s t (Back r) ≡ true → r < length p.routes
unfolding does
back_there p h s t r e = grind arith

pub ask_there : (p : Plan) (h : State) (s : Occupancy) (t : Positions) (r : ℕ) → does p h s t (Ask r) ≡ true → r < length p.routes
unfolding does
ask_there p h s t r e = grind arith

pub clear_is : (p : Plan) (h : State) (s : Occupancy) (t : Positions) (r n : ℕ) (k : Route) (g : Stage) (a b d i : Bool) → n ≡ length p.routes → k ≡ route p r →
    g ≡ h.stage r → b ≡ met t k.needs → d ≡ met h.wanted k.needs → i ≡ is_set g → a ≡ (ltb r n && (i && (b && d))) → a ≡ does p h s t (Clear r)
unfolding does
clear_is p h s t r n k g a b d i e f u v w y z = cc

pub back_is : (p : Plan) (h : State) (s : Occupancy) (t : Positions) (r n : ℕ) (k : Route) (g : Stage) (a d i j : Bool) → n ≡ length p.routes → k ≡ route p r →
    g ≡ h.stage r → d ≡ all_vacant s k.path → i ≡ can_fall g → j ≡ is_used g → a ≡ (ltb r n && (i || (j && d))) → a ≡ does p h s t (Back r)
unfolding does
back_is p h s t r n k g a d i j e f u w x y z = cc

pub ask_is : (p : Plan) (h : State) (s : Occupancy) (t : Positions) (r n : ℕ) (k : Route) (g : Stage) (a b d i : Bool) → n ≡ length p.routes → k ≡ route p r →
    g ≡ h.stage r → b ≡ all_free h s k.path → d ≡ can_have p h s k.needs → i ≡ is_idle g → a ≡ (ltb r n && (i && (b && d))) → a ≡ does p h s t (Ask r)
unfolding does
ask_is p h s t r n k g a b d i e f u v w y z = cc

pub tick_is : (p : Plan) (h : State) (s : Occupancy) (t : Positions) → true ≡ does p h s t Tick
unfolding does
tick_is p h s t = refl

pub free_locked : (p : Plan) (h : State) (s : Occupancy) (t : Positions) (x : ℕ) → does p h s t (Free x) ≡ true → 0 < h.lock x
unfolding does
free_locked p h s t x e = grind arith

pub free_there : (p : Plan) (h : State) (s : Occupancy) (t : Positions) (x : ℕ) → does p h s t (Free x) ≡ true → h.lock x ≤ length p.routes
unfolding does
free_there p h s t x e = grind arith

pub free_none : (p : Plan) (h : State) (s : Occupancy) (t : Positions) (x l : ℕ) → l ≡ h.lock x → l ≡ 0 → false ≡ does p h s t (Free x)
unfolding does
free_none p h s t x l e z = let y : h.lock x ≡ 0 = omega arith in let g = eq-eqb (h.lock x) 0 y in cc

pub free_above : (p : Plan) (h : State) (s : Occupancy) (t : Positions) (x l n : ℕ) → l ≡ h.lock x → n ≡ length p.routes → n < l → false ≡ does p h s t (Free x)
unfolding does
free_above p h s t x l n e f z =
    let y : h.lock x ≡ 0 → ⊥ = λ k. omega arith in let g = ne_eqb (h.lock x) 0 y in
    let m : length p.routes < h.lock x = omega arith in let k = lt-leb (h.lock x) (length p.routes) m in cc

pub free_is : (p : Plan) (h : State) (s : Occupancy) (t : Positions) (x l n : ℕ) (k : Route) (g : Stage) (a b d e o i : Bool) → l ≡ h.lock x → n ≡ length p.routes → (l ≡ 0 → ⊥) → l ≤ n →
    k ≡ route p (l - 1) → a ≡ h.passed x → g ≡ h.stage (l - 1) → d ≡ behind_free h l x k.path → e ≡ s x → o ≡ eqb x (last_of 0 k.path) →
    i ≡ is_used g → b ≡ (a && (i && (d && (not e || o)))) → b ≡ does p h s t (Free x)
unfolding does
free_is p h s t x l n k g a b d e o i q1 q2 nz le f u1 u2 u3 u4 u5 u6 z =
    let y : h.lock x ≡ 0 → ⊥ = λ z. nz (q1 ∙ z) in let j = ne_eqb (h.lock x) 0 y in
    let m : h.lock x ≤ length p.routes = omega arith in let o = le-leb (h.lock x) (length p.routes) m in cc
