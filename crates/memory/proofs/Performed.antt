-- A request, from memory to memory.
use Rattle.std.proofs.Common.{◌≡◌, ℕ, ◌<◌, ◌≤◌, Bool, true, false, List, length, get_or, None, Ok, Option, sym, refl, ap, ◌∙◌, subst, arith}
use Rattle.plan.specs.Numbers.{plan_in}
use Rattle.plan.specs.Plan.{pick, Plan, Positions, marks}
use Rattle.interlocking.specs.State.{State, Occupancy, does, done, fitted, acts}
use Rattle.interlocking.specs.Says.{state_of, Says}
use Rattle.interlocking.specs.declared.Interlocking.{Interlocking}
use Rattle.interlocking.specs.declared.Answer.{Answer}
use Rattle.interlocking.specs.declared.Request.{Request}
use Rattle.memory.specs.Memory.{state_in, Written}
use Rattle.memory.specs.Entry.{Stored, Performs, ActSays}
use Rattle.memory.specs.declared.Refusal.{Refusal}
use Rattle.memory.proofs.Numbered.{Whole, stored_from, stored_same}
use Rattle.memory.proofs.Room.{fit_acts, fit_in}

-- what was answered, said of the numbers
pub record Answered (p : Plan) (s : Occupancy) (t : Positions) (q : Request) (m : List ℕ) (left : Interlocking) (a : Answer) : Type 0 where
  pub request : a.request ≡ q
  pub done_is : a.done ≡ does p (state_in m) s t q
  pub state : state_of left ≡ acts p (state_in m) s t q

pub answered : (p : Plan) (s : Occupancy) (t : Positions) (q : Request) (m : List ℕ) (h left : Interlocking) (sb tb : List Bool) (a : Answer) →
    state_of h ≡ state_in m → marks sb ≡ s → marks tb ≡ t → Says p h (marks sb) (marks tb) q left a → Answered p s t q m left a
answered p s t q m h left sb tb a e f g says =
    let d : does p (state_of h) (marks sb) (marks tb) q ≡ does p (state_in m) s t q = cc in
    let c : acts p (state_of h) (marks sb) (marks tb) q ≡ acts p (state_in m) s t q = cc in
    record { request = says.request; done_is = says.done_is ∙ d; state = says.state ∙ c }

never : (b : Bool) → b ≡ true → b ≡ false → ⊥
never b e f = grind arith

pub performed : (p : Plan) (s : Occupancy) (t : Positions) (q : Request) (m m₁ : List ℕ) (left : Interlocking) (a : Answer) → Answered p s t q m left a → a.done ≡ true →
    p.time ≤ 1000 → ((i : ℕ) → get_or m i 0 < 65536) → length m ≡ 224 → Whole left → Written (state_of left) m m₁ → Performs p s t q m a m₁
performed p s t q m m₁ left a k e b f l o w = record {
  request = k.request;
  done_is = k.done_is;
  stored = stored_from (acts p (state_in m) s t q) left m m₁ l o (fit_acts p (state_in m) s t q b (fit_in m f)) k.state w;
  unchanged = λ z. absurd (never (does p (state_in m) s t q) (sym k.done_is ∙ e) z);
}

acts_not : (p : Plan) (h : State) (s : Occupancy) (t : Positions) (q : Request) → does p h s t q ≡ false → acts p h s t q ≡ h
unfolding acts
acts_not p h s t q e = ap (λ b. pick b (fitted (done p h q)) h) e

pub not_performed : (p : Plan) (s : Occupancy) (t : Positions) (q : Request) (m : List ℕ) (left : Interlocking) (a : Answer) → Answered p s t q m left a → a.done ≡ false →
    ((i : ℕ) → get_or m i 0 < 65536) → Performs p s t q m a m
not_performed p s t q m left a k e f =
    let P : State → Type 0 = λ g. Stored g m m in
    record {
      request = k.request;
      done_is = k.done_is;
      stored = subst P (sym (acts_not p (state_in m) s t q (sym k.done_is ∙ e))) (stored_same m f);
      unchanged = λ z. refl;
    }

pub acted : (o : Option Refusal) (xs ys : List ℕ) (s : Occupancy) (t : Positions) (q r : Request) (m m₁ : List ℕ) (a : Answer) → None ≡ o → ys ≡ xs → q ≡ r →
    Performs (plan_in ys) s t q m a m₁ → ActSays o (plan_in xs) s t r m (Ok a) m₁
acted o xs ys s t q r m m₁ a e f g k =
    let P : List ℕ → Type 0 = λ zs. Performs (plan_in zs) s t r m a m₁ in
    let R : Request → Type 0 = λ z. Performs (plan_in ys) s t z m a m₁ in
    let Q : Option Refusal → Type 0 = λ z. ActSays z (plan_in xs) s t r m (Ok a) m₁ in
    subst Q e (a, refl, subst P f (subst R g k))
