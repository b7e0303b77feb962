use Rattle.std.proofs.Common.{◌≡◌, Err, ap, sym, ◌∙◌, rules}
use Rattle.std.specs.Result.{result_err}
use Rattle.memory.specs.declared.Refusal.TheVariants.{Plan as OfPlan, Lent as OfLent}
use Rattle.memory.proofs.Refuses.{by_plan, after_plan}
use Rattle.memory.proofs.entry.lent.Goals as goal

pub returns-in_err-plan-clause-refused : goal.returns-in_err-plan-clause-refused
returns-in_err-plan-clause-refused c =
    let e : c.from_residual.result ≡ Err (OfPlan c.in_err-plan.field-0.0) = search rules in
    ap result_err e ∙ by_plan c.args.plan.now c.args.memory.now c.args.seen.now c.args.positions _ (sym c.in_err-plan.ensures)

pub returns-in_err-check_lent-clause-refused : goal.returns-in_err-check_lent-clause-refused
returns-in_err-check_lent-clause-refused c =
    let e : c.from_residual-in_err-check_lent.result ≡ Err (OfLent c.in_err-check_lent.field-0.0) = search rules in
    ap result_err e ∙ after_plan c.args.plan.now _ c.args.memory.now c.args.seen.now c.args.positions _ _ (sym c.in_ok-plan.ensures.0) c.in_ok-plan.ensures.1 c.routes.ensures c.in_err-check_lent.ensures

pub returns-clause-refused : goal.returns-clause-refused
returns-clause-refused c =
    after_plan c.args.plan.now _ c.args.memory.now c.args.seen.now c.args.positions _ _ (sym c.in_ok-plan.ensures.0) c.in_ok-plan.ensures.1 c.routes.ensures c.in_ok-check_lent.ensures
