-- An answer where the request was done, and where it was not.
use Rattle.std.proofs.Common.{◌≡◌, Bool, true, false, sym, ap, ◌∙◌, arith}
use Rattle.plan.specs.Plan.{pick, Plan, Positions}
use Rattle.interlocking.specs.State.{State, Occupancy, does, done, acts, fitted}
use Rattle.interlocking.specs.Says.{state_of, Says}
use Rattle.interlocking.specs.declared.Interlocking.{Interlocking}
use Rattle.interlocking.specs.declared.Request.{Request}
use Rattle.interlocking.specs.declared.Answer.{Answer}

never : (b : Bool) → b ≡ true → b ≡ false → ⊥
never b e f = grind arith

acts_done : (p : Plan) (h : State) (s : Occupancy) (t : Positions) (a : Request) → does p h s t a ≡ true → acts p h s t a ≡ fitted (done p h a)
unfolding acts
acts_done p h s t a e = ap (λ (b : Bool). pick b (fitted (done p h a)) h) e

acts_cant : (p : Plan) (h : State) (s : Occupancy) (t : Positions) (a : Request) → does p h s t a ≡ false → acts p h s t a ≡ h
unfolding acts
acts_cant p h s t a e = ap (λ (b : Bool). pick b (fitted (done p h a)) h) e

pub said_done : (p : Plan) (h : Interlocking) (s : Occupancy) (t : Positions) (a : Request) (left : Interlocking) (r : Answer) (b : Bool) → r.request ≡ a → r.done ≡ b →
    b ≡ does p (state_of h) s t a → b ≡ true → state_of left ≡ fitted (done p (state_of h) a) → Says p h s t a left r
said_done p h s t a left r b k d e f q = record {
  request = k;
  done_is = d ∙ e;
  state = q ∙ sym (acts_done p (state_of h) s t a (sym e ∙ f));
  unchanged = λ z. absurd (never (does p (state_of h) s t a) (sym e ∙ f) z);
}

pub said_cant : (p : Plan) (h : Interlocking) (s : Occupancy) (t : Positions) (a : Request) (left : Interlocking) (r : Answer) (b : Bool) → r.request ≡ a → r.done ≡ b →
    b ≡ does p (state_of h) s t a → b ≡ false → left ≡ h → Says p h s t a left r
said_cant p h s t a left r b k d e f q = record {
  request = k;
  done_is = d ∙ e;
  state = ap state_of q ∙ sym (acts_cant p (state_of h) s t a (sym e ∙ f));
  unchanged = λ z. q;
}
