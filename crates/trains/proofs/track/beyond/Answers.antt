use Rattle.std.proofs.Common.{ap, ◌∙◌}
use Rattle.plan.specs.Plan.{marks}
use Rattle.plan.specs.View.{plan_of}
use Rattle.trains.proofs.Tracks.{beyond_is}
use Rattle.trains.proofs.track.beyond.Goals as goal

pub returns : goal.returns
returns c = beyond_is (plan_of c.args.plan) (marks c.args.lies.now) c.args.up c.args.x _ _ _ c.end-end.ensures (c.mark_at.ensures ∙ ap (marks c.args.lies.now) c.from.ensures) c.ahead.ensures
