use Rattle.std.proofs.Common.{not, ◌∙◌, rules, tests}
use Rattle.std.proofs.lemmas.Iterator.{YieldsList-from_slice}
use Rattle.std.proofs.lemmas.Iterator.Search.{all_from_yields_List}
use Rattle.plan.specs.Plan.{marks}
use Rattle.plan.proofs.Walks.{all_is}
use Rattle.interlocking.specs.State.{all_vacant}
use Rattle.interlocking.proofs.Walked.{vacant_nil, vacant_cons}
use Rattle.interlocking.proofs.sweep.all_vacant.Goals as goal

pub returns : goal.returns
returns c =
    all_from_yields_List (λ x. not (marks c.args.occupied.now x)) c.all.new.self _ _ c.all.ensures.ran (YieldsList-from_slice c.args.path.now cc) (λ x b q k. search (rules, tests))
    ∙ all_is (all_vacant (marks c.args.occupied.now)) _ (vacant_nil (marks c.args.occupied.now)) (vacant_cons (marks c.args.occupied.now)) _
