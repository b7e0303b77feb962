-- What belongs to an outcome: refusals, and verdicts.
use Rattle.std.proofs.Common.{◌≡◌, ℕ, ◌<◌, true, List, length, Some, None, Ok, Option, Result, sym, ap, ◌∙◌, subst, MatchOption}
use Rattle.std.specs.Prelude.{IsSomeAnd}
use Rattle.plan.specs.Plan.{Plan, route}
use Rattle.plan.specs.Numbers.{Says, refused, plan_in}
use Rattle.plan.proofs.Formed.{refused_says}
use Rattle.soundness.specs.Rules.{FirstBroken, FirstRoute, FirstWhole}
use Rattle.soundness.specs.Tests.{route_test, whole_test}
use Rattle.soundness.specs.declared.RouteRule.{RouteRule}
use Rattle.soundness.specs.declared.WholeRule.{WholeRule}
use Rattle.soundness.specs.declared.Verdict.{Verdict}
use Rattle.soundness.specs.declared.Verdict.TheVariants.{Sound as IsSound, Route as InRoute, Whole as InWhole}
use Rattle.soundness.proofs.Order.{kept, whole_kept}
use Rattle.plan.specs.declared.Refusal.{Refusal}
use Rattle.explain.specs.Faults.{Blames, FindsWhole}
use Rattle.explain.specs.Reasons.{Explains}
use Rattle.explain.specs.declared.RouteFault.{RouteFault}
use Rattle.explain.specs.declared.PlanFault.{PlanFault}
use Rattle.explain.specs.declared.Reason.{Reason}
use Rattle.explain.specs.declared.Reason.TheVariants.{Route as ReasonRoute, Whole as ReasonWhole}

pub says_some : (xs : List ℕ) (e : Refusal) → Some e ≡ refused xs → Says xs (Some e)
says_some xs e h = subst (Says xs) (sym h) (refused_says xs)

-- a rule whose test is passed is not broken
pub no_fault_route : (p : Plan) (v : Verdict) (r : ℕ) (k : RouteRule) → v ≡ InRoute r k → (r < length p.routes → route_test p (route p r) k ≡ true) → FirstBroken p v → v ≡ IsSound
no_fault_route p v r k e h f =
    let g : FirstRoute p r k = subst (FirstBroken p) e f in absurd (g.rule.broken (kept p (route p r) k (h g.there)))

pub no_fault_whole : (p : Plan) (v : Verdict) (k : WholeRule) → v ≡ InWhole k → whole_test p k ≡ true → FirstBroken p v → v ≡ IsSound
no_fault_whole p v k e h f =
    let g : FirstWhole p k = subst (FirstBroken p) e f in absurd (g.broken (whole_kept p k h))

-- a verdict as what the judge answers
abbrev said : Verdict → Result Verdict Refusal
said v = Ok v

-- what is made of a fault is a reason for the verdict
pub in_route : (xs : List ℕ) (v : Verdict) (r : ℕ) (k : RouteRule) (o : Option RouteFault) (q : Option Reason) → v ≡ InRoute r k →
    MatchOption o (r < length (plan_in xs).routes → route_test (plan_in xs) (route (plan_in xs) r) k ≡ true) (λ f. (r < length (plan_in xs).routes) × Blames (plan_in xs) (route (plan_in xs) r) k f) →
    MatchOption o (q ≡ None) (λ f. IsSomeAnd q (λ w. w ≡ ReasonRoute r f)) → Explains xs v q
in_route xs v r k None q e h m = subst (Explains xs v) (sym m) (no_fault_route (plan_in xs) v r k e h)
in_route xs v r k (Some f) None e h m = absurd m
in_route xs v r k (Some f) (Some w) e h m =
    let b = h.1 in let z = b.rule in subst (λ (w : Reason). Explains xs v (Some w)) (sym m) (ap (λ k. said (InRoute r k)) z ∙ ap said (sym e), (h.0, b.wrong))

pub in_whole : (xs : List ℕ) (v : Verdict) (k : WholeRule) (o : Option PlanFault) (q : Option Reason) → v ≡ InWhole k → FindsWhole (plan_in xs) k o →
    MatchOption o (q ≡ None) (λ f. IsSomeAnd q (λ w. w ≡ ReasonWhole f)) → Explains xs v q
in_whole xs v k None q e h m = subst (Explains xs v) (sym m) (no_fault_whole (plan_in xs) v k e h)
in_whole xs v k (Some f) None e h m = absurd m
in_whole xs v k (Some f) (Some w) e h m =
    subst (λ (w : Reason). Explains xs v (Some w)) (sym m) (ap (λ k. said (InWhole k)) h.rule ∙ ap said (sym e), h.wrong)
