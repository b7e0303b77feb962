use Rattle.std.proofs.Common.{not, ◌&&◌, ◌∙◌, eqb, rules, tests}
use Rattle.std.proofs.lemmas.Iterator.{YieldsList-from_slice}
use Rattle.std.proofs.lemmas.Iterator.Search.{all_from_yields_List}
use Rattle.plan.specs.Plan.{marks}
use Rattle.plan.proofs.Walks.{all_is}
use Rattle.interlocking.specs.State.{all_free}
use Rattle.interlocking.specs.Says.{state_of}
use Rattle.interlocking.proofs.Walked.{free_nil, free_cons}
use Rattle.interlocking.proofs.Interlocking.all_free.Goals as goal

pub returns : goal.returns
returns c =
    all_from_yields_List (λ x. eqb ((state_of c.args.self.now).lock x) 0 && not (marks c.args.occupied.now x)) c.all.new.self _ _ c.all.ensures.ran (YieldsList-from_slice c.args.path.now cc)
    (λ x b q k. search (rules, tests))
    ∙ all_is (all_free (state_of c.args.self.now) (marks c.args.occupied.now)) _ (free_nil (state_of c.args.self.now) (marks c.args.occupied.now)) (free_cons (state_of c.args.self.now) (marks c.args.occupied.now)) _
