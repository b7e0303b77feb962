use Rattle.std.proofs.Common.{eqb, ◌∙◌, rules, tests}
use Rattle.std.proofs.lemmas.Iterator.{YieldsList-from_slice}
use Rattle.std.proofs.lemmas.Iterator.Search.{position_from_yields_List}
use Rattle.desk.specs.declared.Ticketed.{Ticketed}
use Rattle.desk.proofs.Rows.{place_is}
use Rattle.desk.proofs.place_of.Goals as goal

pub returns : goal.returns
returns c =
    let p = position_from_yields_List (λ (w : Ticketed). eqb w.ticket c.args.ticket) _ _ c.position.result c.position.ensures.ran (YieldsList-from_slice c.args.waiting.now cc) (λ x b q k. search (rules, tests)) in
    c.unwrap_or.ensures ∙ place_is c.args.ticket c.args.waiting.now c.position.result p
