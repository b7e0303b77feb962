-- What is not refused is as it should be.
use Rattle.std.proofs.Common.{◌≡◌, ℕ, Bool, true, eqb, List, length, get_or, Some, None, Option, refl, ap, ◌∙◌, arith}
use Rattle.plan.specs.declared.Refusal.{Refusal as PlanRefusal}
use Rattle.plan.specs.Numbers.{plan_in, refused, routes_from}
use Rattle.plan.proofs.Parts.{length_routes}
use Rattle.memory.specs.Entry.{bad_lent, bad_asked, lent_after, asked_after, lent_refusal, refusal}
use Rattle.memory.specs.declared.Lent.{Lent}
use Rattle.memory.specs.declared.Asked.{Asked}
use Rattle.memory.specs.declared.Refusal.{Refusal}
use Rattle.memory.specs.declared.Refusal.TheVariants.{Plan as OfPlan, Asked as OfAsked}

plan_none : (a : Option PlanRefusal) (b : Option Lent) → lent_after a b ≡ None → a ≡ None
plan_none (Some e) b q = let z : ◌≡◌ {A = ℕ} 0 1 = cc in absurd (omega arith)
plan_none None b q = refl

lent_none : (a : Option PlanRefusal) (b : Option Lent) → lent_after a b ≡ None → b ≡ None
lent_none (Some e) b q = let z : ◌≡◌ {A = ℕ} 0 1 = cc in absurd (omega arith)
lent_none None (Some e) q = let z : ◌≡◌ {A = ℕ} 0 1 = cc in absurd (omega arith)
lent_none None None q = refl

pub record Sound (p m s : List ℕ) (b : Bool) : Type 0 where
  pub plan : refused p ≡ None
  pub memory : length m ≡ 224
  pub occupancy : length s ≡ 64
  pub positions : b ≡ true

pub lent_sound : (plan memory seen : List ℕ) (positions : Bool) → lent_refusal plan memory seen positions ≡ None → Sound plan memory seen positions
unfolding lent_refusal
lent_sound plan memory seen positions e =
    let s = lent_none (refused plan) (bad_lent memory seen positions (get_or plan 3 0)) e in
    record {
      plan = plan_none (refused plan) (bad_lent memory seen positions (get_or plan 3 0)) e;
      memory = grind arith;
      occupancy = grind arith;
      positions = grind arith;
    }

asked_none : (a : Option Refusal) (b : Option Asked) → asked_after a b ≡ None → a ≡ None
asked_none (Some e) b q = let z : ◌≡◌ {A = ℕ} 0 1 = cc in absurd (omega arith)
asked_none None b q = refl

pub taken_sound : (plan memory seen turned : List ℕ) (kind which : ℕ) → refusal plan memory seen turned kind which ≡ None →
    Sound plan memory seen (eqb (length turned) 32)
unfolding refusal
taken_sound plan memory seen turned kind which e =
    let positions = eqb (length turned) 32 in
    lent_sound plan memory seen positions (asked_none (lent_refusal plan memory seen positions) (bad_asked kind which) e)

-- the routes that a plan says it has
routes_said : (xs : List ℕ) → length (plan_in xs).routes ≡ get_or xs 3 0
unfolding plan_in
routes_said xs = length_routes xs (routes_from xs) (get_or xs 3 0)

-- each way to a refusal, and the way past all

pub by_plan : (plan memory seen : List ℕ) (positions : Bool) (e : PlanRefusal) → Some e ≡ refused plan → Some (OfPlan e) ≡ lent_refusal plan memory seen positions
unfolding lent_refusal
by_plan plan memory seen positions e p = ap (λ o. lent_after o (bad_lent memory seen positions (get_or plan 3 0))) p

-- `o` is what is said of the rest, once the plan is one
pub after_plan : (plan ys memory seen : List ℕ) (positions : Bool) (n : ℕ) (o : Option Lent) → None ≡ refused plan → ys ≡ plan → n ≡ length (plan_in ys).routes →
    o ≡ bad_lent memory seen positions n → lent_after None o ≡ lent_refusal plan memory seen positions
unfolding lent_refusal
after_plan plan ys memory seen positions n o p q r s =
    let e : n ≡ get_or plan 3 0 = r ∙ ap (λ zs. length (plan_in zs).routes) q ∙ routes_said plan in
    ap (lent_after None) (s ∙ ap (bad_lent memory seen positions) e) ∙ ap (λ o. lent_after o (bad_lent memory seen positions (get_or plan 3 0))) p

pub by_before : (plan memory seen turned : List ℕ) (kind which : ℕ) (e : Refusal) → Some e ≡ lent_refusal plan memory seen (eqb (length turned) 32) →
    Some e ≡ refusal plan memory seen turned kind which
unfolding refusal
by_before plan memory seen turned kind which e p = ap (λ o. asked_after o (bad_asked kind which)) p

pub by_asked : (plan memory seen turned : List ℕ) (kind which : ℕ) (e : Asked) → None ≡ lent_refusal plan memory seen (eqb (length turned) 32) → Some e ≡ bad_asked kind which →
    Some (OfAsked e) ≡ refusal plan memory seen turned kind which
unfolding refusal
by_asked plan memory seen turned kind which e p q = ap (asked_after None) q ∙ ap (λ o. asked_after o (bad_asked kind which)) p

pub all_well : (plan memory seen turned : List ℕ) (kind which : ℕ) → None ≡ lent_refusal plan memory seen (eqb (length turned) 32) → None ≡ bad_asked kind which →
    None ≡ refusal plan memory seen turned kind which
unfolding refusal
all_well plan memory seen turned kind which p q = ap (asked_after None) q ∙ ap (λ o. asked_after o (bad_asked kind which)) p
