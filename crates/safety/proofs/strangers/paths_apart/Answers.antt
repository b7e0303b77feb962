use Rattle.std.proofs.Common.{length}
use Rattle.std.proofs.lemmas.List.{length_push}
use Rattle.std.proofs.lemmas.Slice.Zip.{zip_end, zip_turn}
use Rattle.safety.proofs.Sides.{Pair, passed_more, passed_all, passed_stop}
use Rattle.safety.proofs.strangers.paths_apart.Goals as goal

pub returns-then-crosses : goal.returns-then-crosses
returns-then-crosses c =
    let t = zip_turn c.args.xs.now c.args.ys.now c.loop-x.yielded c.into_iter-x-iterator.result c.loop-x.x-iterator c.next.new.self _ (cc) (cc) c.loop-x.yielded_by (c.in-Some.x, c.in-Some.y) c.in-Some.is c.next.ensures.steps in
    let pair : Pair c.args.xs.now c.args.ys.now (length c.loop-x.yielded) c.in-Some.x.now c.in-Some.y.now = record { first = t.0; second = t.1; x_is = t.2 0; y_is = t.3 0 } in
    passed_stop c.args.xs.now c.args.ys.now (length c.loop-x.yielded) c.in-Some.x.now c.in-Some.y.now c.crosses.result pair c.crosses.ensures c.if-crosses.true

pub loop-x-preserved : goal.loop-x-preserved
loop-x-preserved c =
    let t = zip_turn c.args.xs.now c.args.ys.now c.loop-x.yielded c.into_iter-x-iterator.result c.loop-x.x-iterator c.next.new.self _ (cc) (cc) c.loop-x.yielded_by (c.in-Some.x, c.in-Some.y) c.in-Some.is c.next.ensures.steps in
    let pair : Pair c.args.xs.now c.args.ys.now (length c.loop-x.yielded) c.in-Some.x.now c.in-Some.y.now = record { first = t.0; second = t.1; x_is = t.2 0; y_is = t.3 0 } in
    passed_more c.args.xs.now c.args.ys.now (length c.loop-x.yielded) _ c.in-Some.x.now c.in-Some.y.now c.crosses.result pair c.loop-x.invariant c.crosses.ensures c.if-crosses.false
    (length_push c.loop-x.yielded (c.in-Some.x, c.in-Some.y))

pub returns : goal.returns
returns c =
    passed_all c.args.xs.now c.args.ys.now (length c.loop-x.yielded)
    (zip_end c.args.xs.now c.args.ys.now c.loop-x.yielded c.into_iter-x-iterator.result c.loop-x.x-iterator c.next.new.self _ (cc) (cc) c.loop-x.yielded_by c.in-None.is c.next.ensures.steps) c.loop-x.invariant
