use Rattle.watch.specs.Scene.{lies_in, plan_in}
use Rattle.watch.proofs.Lists.{hangs_rest, hangs_short, joined_is, joined_not, parted_here, parted_rest}
use Rattle.watch.proofs.scene.Scene.parted.Goals as goal

pub returns-then-not-joined : goal.returns-then-not-joined
returns-then-not-joined c =
    let s = c.args.self.now in
    c.loop-rest.invariant.parts _ _
    (parted_here (plan_in s) (lies_in s) c.args.up c.loop-rest.rest.now c.in-len2-up.len_at_least (joined_not (plan_in s) (lies_in s) c.args.up _ _ _ c.joined.ensures c.if-not-joined.true))

pub loop-rest-preserved : goal.loop-rest-preserved
loop-rest-preserved c =
    let s = c.args.self.now in
    record {
      parts = λ a b h. c.loop-rest.invariant.parts a b (parted_rest (plan_in s) (lies_in s) c.args.up c.loop-rest.rest.now c.in-len2-up.len_at_least a b h);
      hangs = λ h. c.loop-rest.invariant.hangs
          (hangs_rest (plan_in s) (lies_in s) c.args.up c.loop-rest.rest.now c.in-len2-up.len_at_least (joined_is (plan_in s) (lies_in s) c.args.up _ _ _ c.joined.ensures c.if-not-joined.false) h);
    }

pub returns : goal.returns
returns c = let s = c.args.self.now in c.loop-rest.invariant.hangs (hangs_short (plan_in s) (lies_in s) c.args.up c.loop-rest.rest.now c.in_default.len_below)
