use Rattle.std.proofs.Common.{◌≡◌, Err, ap, ◌∙◌, rules}
use Rattle.std.specs.Result.{result_err}
use Rattle.memory.specs.declared.Refusal.TheVariants.{Asked as OfAsked}
use Rattle.memory.proofs.Refuses.{by_before, by_asked, all_well}
use Rattle.memory.proofs.entry.taken.Goals as goal

pub returns-in_err-plan-clause-refused : goal.returns-in_err-plan-clause-refused
returns-in_err-plan-clause-refused c =
    let e : c.from_residual.result ≡ Err c.in_err-plan.field-0.0 = search rules in
    ap result_err e ∙ by_before c.args.plan.now c.args.memory.now c.args.seen.now c.args.turned.now c.args.kind c.args.which _ c.in_err-plan.ensures.refused

pub returns-in_err-asked-clause-refused : goal.returns-in_err-asked-clause-refused
returns-in_err-asked-clause-refused c =
    let e : c.from_residual-in_err-asked.result ≡ Err (OfAsked c.in_err-asked.field-0.0) = search rules in
    ap result_err e ∙ by_asked c.args.plan.now c.args.memory.now c.args.seen.now c.args.turned.now c.args.kind c.args.which _ c.in_ok-plan.ensures.refused c.in_err-asked.ensures.refused

pub returns-clause-refused : goal.returns-clause-refused
returns-clause-refused c =
    all_well c.args.plan.now c.args.memory.now c.args.seen.now c.args.turned.now c.args.kind c.args.which c.in_ok-plan.ensures.refused c.in_ok-asked.ensures.refused
