use Rattle.std.proofs.Common.{◌+◌, Ok, vec_items, ap, ◌∙◌, arith}
use Rattle.plan.specs.Plan.{marks}
use Rattle.plan.specs.View.{plan_of}
use Rattle.model.specs.Stations.{station_plan, station_world}
use Rattle.replay.proofs.Stepping.{handed_on, moves_on, one_more, start, whole, wrong_within}
use Rattle.replay.proofs.replay.Goals as goal

pub loop-init : goal.loop-init
loop-init c =
    let s = c.in_ok-replay.ensures in
    record { plan = s.1; at = s.0; run = start _ _ _ _ _ s.0 s.2 }

pub loop-preserved : goal.loop-preserved
loop-preserved c =
    let s = c.loop.replay in let n = c.next.new.self in let i = c.loop.invariant in let e = c.in_ok-next.ensures in let t = marks c.args.journal.now.lies in
    let es = vec_items c.args.journal.now.entries in let l = i.at in
    let m = moves_on (station_plan s.station) es s.at (station_world s.station) n.at (station_world n.station) c.in_ok-next.field-0
    (omega (arith, c.loop-test.true, c.min-end.ensures, c.len.ensures, c.args.journal.now.entries.ok.0)) e.nexts in
    record {
      plan = e.plan ∙ i.plan;
      at = m ∙ ap (λ z. z + 1) l;
      run = (one_more _ _ t _ s.at (station_world s.station) n.at (station_world n.station) (Ok c.in_ok-next.field-0) i.plan (e.run t) i.run).0;
    }

pub returns-in_err-next : goal.returns-in_err-next
returns-in_err-next c =
    let s = c.loop.replay in let n = c.next.new.self in let t = marks c.args.journal.now.lies in let i = c.loop.invariant in let l = i.at in
    let w = wrong_within (plan_of c.args.plan) _ t (vec_items c.args.journal.now.entries) s.at c.args.upto (station_world s.station) n.at (station_world n.station) c.in_err-next.field-0.0
    i.plan (omega (arith, c.loop-test.true, c.min-end.ensures)) c.in_err-next.ensures.nexts (c.in_err-next.ensures.run t) i.run in
    handed_on _ t _ c.args.upto c.from_residual-in_err-next.result c.in_err-next.field-0.0 w c.from_residual-in_err-next.ensures.1

pub returns : goal.returns
returns c =
    let s = c.loop.replay in let i = c.loop.invariant in let l = i.at in
    whole c.args.plan.numbers.now _ _ _ c.args.upto s.at _ c.args.plan.formed i.plan
    (omega (arith, c.loop-test.false, c.loop.auto.counter-end, c.min-end.ensures, c.len.ensures, c.args.journal.now.entries.ok.0)) i.run
