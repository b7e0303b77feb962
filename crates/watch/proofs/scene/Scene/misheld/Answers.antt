use Rattle.watch.proofs.Joined.{held}
use Rattle.watch.proofs.scene.Scene.misheld.Goals as goal

pub returns : goal.returns
returns c =
    held c.args.self.now c.lets_go.result c.in_default.ensures c.in_default-each_once.ensures c.in_default-falls_soon.ensures c.in_default-entered.ensures c.in_default-passed.ensures
    c.in_default-wanted.ensures c.lets_go.ensures
