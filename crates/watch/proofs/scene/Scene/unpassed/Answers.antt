use Rattle.std.proofs.Common.{◌≡◌, not, ◌&&◌}
use Rattle.occupancy.specs.Notes.{notes}
use Rattle.watch.specs.Scene.{BrokenIn, occupied_in, plan_in, state_in}
use Rattle.watch.specs.declared.Broken.TheVariants.{Unpassed}
use Rattle.watch.proofs.Looks.{named_if}
use Rattle.watch.proofs.Marks.{mark_unlocked, mark_kept, mark_missed}
use Rattle.watch.proofs.scene.Scene.unpassed.Goals as goal

pub returns-then-lock_of-eq0 : goal.returns-then-lock_of-eq0
returns-then-lock_of-eq0 c = let s = c.args.self.now in mark_unlocked (plan_in s) (state_in s) (occupied_in s) c.args.x _ _ c.from-at.ensures c.lock_of.ensures c.if-lock_of-eq0.true

pub returns : goal.returns
returns c =
    let s = c.args.self.now in
    named_if ((notes (plan_in s) (state_in s) (occupied_in s)).passed c.args.x ≡ (state_in s).passed c.args.x) (BrokenIn s) (c.mark_at.result && not c.is_passed.result) (Unpassed c.args.x) _ c.then_some.ensures
    (λ e. mark_kept (plan_in s) (state_in s) (occupied_in s) c.args.x _ _ _ c.from-at.ensures c.mark_at.ensures c.is_passed.ensures e)
    (λ e. mark_missed (plan_in s) (state_in s) (occupied_in s) c.args.x _ _ _ _ c.from-at.ensures c.lock_of.ensures c.if-lock_of-eq0.false c.mark_at.ensures c.is_passed.ensures e)
