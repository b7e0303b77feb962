use Rattle.std.proofs.Common.{◌≡◌, ◌+◌, ◌-◌, ◌*◌, rules, tests, arith}
use Rattle.std.proofs.lemmas.Iterator.{YieldsList-from_slice}
use Rattle.std.proofs.lemmas.Iterator.Search.{all_from_yields_List}
use Rattle.plan.proofs.Parts.{counted, counts_by}
use Rattle.plan.proofs.read.counts_fit.Goals as goal

pub returns : goal.returns
returns c t =
    let m : c.args.first_route + 52 * c.args.routes - c.args.first_route ≡ 52 * c.args.routes = omega arith in
    counts_by c.args.numbers.now c.args.first_route c.args.routes _ _ _ c.requires m c.as_chunks.ensures.front
    (all_from_yields_List counted c.all.new.self _ _ c.all.ensures.ran (YieldsList-from_slice c.as_chunks.result.0.now (cc)) (λ x b q k. search (rules, tests))) t
