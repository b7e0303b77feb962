use Rattle.plan.proofs.Walks.{repeated_here, repeated_behind, repeated_no_more}
use Rattle.plan.proofs.read.repeated.Goals as goal

pub returns-then-found : goal.returns-then-found
returns-then-found c = repeated_here _ _ _ _ _ c.in-Some.ensures.cases.0 c.found.ensures c.if-found.true c.loop-x.invariant

pub loop-x-preserved : goal.loop-x-preserved
loop-x-preserved c = repeated_behind _ _ _ _ _ c.in-Some.ensures.cases.0 c.found.ensures c.if-found.false c.loop-x.invariant

pub returns : goal.returns
returns c = repeated_no_more _ _ c.in_default.ensures.cases c.loop-x.invariant
