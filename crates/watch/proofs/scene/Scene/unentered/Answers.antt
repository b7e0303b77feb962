use Rattle.std.proofs.Common.{◌≡◌}
use Rattle.plan.specs.View.{route_of}
use Rattle.occupancy.specs.Notes.{notes}
use Rattle.watch.specs.Scene.{BrokenIn, occupied_in, plan_in, state_in}
use Rattle.watch.specs.declared.Broken.TheVariants.{Unentered}
use Rattle.watch.proofs.Looks.{named_if}
use Rattle.watch.proofs.Marks.{stage_shut, stage_vacant, stage_entered}
use Rattle.watch.proofs.scene.Scene.unentered.Goals as goal

pub returns-then-not-is_open : goal.returns-then-not-is_open
returns-then-not-is_open c = let s = c.args.self.now in stage_shut (plan_in s) (state_in s) (occupied_in s) c.args.r _ _ c.stage_of.ensures c.is_open.ensures c.if-not-is_open.true

pub returns : goal.returns
returns c =
    let s = c.args.self.now in
    named_if ((notes (plan_in s) (state_in s) (occupied_in s)).stage c.args.r ≡ (state_in s).stage c.args.r) (BrokenIn s) c.mark_at.result (Unentered c.args.r) _ c.then_some.ensures
    (λ e. stage_vacant (plan_in s) (state_in s) (occupied_in s) c.args.r _ _ (route_of c.route.result) _ c.route.ensures c.first.ensures c.from.ensures c.mark_at.ensures e)
    (λ e. stage_entered (plan_in s) (state_in s) (occupied_in s) c.args.r _ _ (route_of c.route.result) _ _ _ c.requires c.stage_of.ensures c.is_open.ensures c.if-not-is_open.false
    c.route.ensures c.first.ensures c.from.ensures c.mark_at.ensures e)
