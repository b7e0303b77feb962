use Rattle.std.proofs.Common.{◌≡◌, length, sym, ap, ◌∙◌, subst}
use Rattle.std.proofs.lemmas.Bool.{eqb-false}
use Rattle.plan.specs.Plan.{marks}
use Rattle.plan.specs.View.{plan_of}
use Rattle.interlocking.specs.Says.{Says}
use Rattle.desk.specs.Desk.{waiting_of}
use Rattle.desk.specs.declared.Ticketed.{Ticketed}
use Rattle.desk.proofs.Rows.{serves_one, row_first}
use Rattle.desk.proofs.Desk.serve.Goals as goal

pub returns : goal.returns
returns c =
    let some : length (waiting_of c.args.self.now) ≡ 0 → ⊥ = eqb-false _ 0 (sym c.is_empty.ensures ∙ c.if-is_empty.false) in
    let e = row_first c.args.self.now.places c.args.self.now.count _ some in
    record {
      served = serves_one (plan_of c.args.sight.plan) c.args.interlocking (marks c.args.sight.occupied.now) (marks c.args.sight.lies.now) (waiting_of c.args.self.now) _ _ _ _ some c.remove.ensures.waiting
          (ap (λ (w : Ticketed). w.ticket) e)
          (subst (λ (w : Ticketed). Says (plan_of c.args.sight.plan) c.args.interlocking (marks c.args.sight.occupied.now) (marks c.args.sight.lies.now) w.request c.perform.result.0 c.perform.result.1) e c.perform.ensures);
      next = c.remove.ensures.next;
    }
