use Rattle.watch.proofs.Joined.{placed}
use Rattle.watch.proofs.scene.Scene.misplaced.Goals as goal

pub returns : goal.returns
returns c =
    placed c.args.self.now c.way_before.result c.in_default.ensures c.in_default-standing.ensures c.in_default-still.ensures c.in_default-shown.ensures c.way_before.ensures
