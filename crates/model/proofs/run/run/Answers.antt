use Rattle.std.proofs.Common.{◌≡◌, min, length, vec_items, sym, ◌∙◌, arith}
use Rattle.std.proofs.lemmas.Iterator.{YieldsList-from_slice, YieldsList-from_take}
use Rattle.std.proofs.lemmas.Iterator.Consumers.{YieldsList-end, YieldsList-turn}
use Rattle.std.proofs.lemmas.List.{length_push, length-take}
use Rattle.plan.specs.Plan.{marks}
use Rattle.plan.specs.View.{plan_of}
use Rattle.model.specs.Held.{world_of}
use Rattle.model.proofs.Runs.{played_from, played_allowed, played_start}
use Rattle.model.proofs.run.run.Goals as goal

pub loop-event-init : goal.loop-event-init
loop-event-init c = (
  c.new-answers.ensures.len,
  c.in_ok-station.ensures.0,
  played_start (plan_of c.args.plan) (marks c.args.lies) c.args.events.now (vec_items c.new-answers.result) (world_of c.in_ok-station.station.world) c.new-answers.ensures.items c.in_ok-station.ensures.1,
)

pub loop-event-preserved : goal.loop-event-preserved
loop-event-preserved c =
    let t = YieldsList-turn (YieldsList-from_take c.args.budget (YieldsList-from_slice c.args.events.now cc) cc) c.loop-event.yielded _ c.loop-event.yielded_by _ _ c.in-Some.event c.in-Some.is c.next.ensures.steps in
    let n : length (vec_items c.loop-event.answers) ≡ length c.loop-event.yielded = sym c.loop-event.answers.ok.0 ∙ c.loop-event.invariant.0 in
    let more = length_push c.loop-event.yielded c.in-Some.event in (
      omega (arith, more, c.in_ok-push.ensures.len),
      c.in_ok-done.ensures.plan ∙ c.loop-event.invariant.1,
      played_allowed (plan_of c.args.plan) (plan_of c.loop-event.station.plan) (marks c.in_ok-station.station.world.lies) c.args.budget c.args.events.now (vec_items c.loop-event.answers)
          (vec_items c.push.new.self) (world_of c.loop-event.station.world) (world_of c.step.new.self.world) (length c.loop-event.yielded) c.in-Some.event.now c.in_ok-done.done
          c.in_ok-push.ensures.items n t c.loop-event.invariant.1 c.in_ok-done.ensures.steps c.loop-event.invariant.2,
    )

pub returns : goal.returns
returns c =
    let t = YieldsList-end (YieldsList-from_take c.args.budget (YieldsList-from_slice c.args.events.now cc) cc) c.loop-event.yielded _ c.loop-event.yielded_by _ _ c.in-None.is c.next.ensures.steps in
    let m = length-take c.args.budget c.args.events.now in
    let e : length (vec_items c.loop-event.answers) ≡ min c.args.budget (length c.args.events.now) = omega (arith, m, t.1, c.loop-event.invariant.0, c.loop-event.answers.ok.0) in (
      c.loop-event.invariant.1,
      record {
        count = e;
        played = played_from (plan_of c.args.plan) (marks c.args.lies) c.args.events.now (vec_items c.loop-event.answers) (world_of c.in_ok-station.station.world) (world_of c.loop-event.station.world) c.in_ok-station.ensures.1 c.loop-event.invariant.2;
      },
    )
