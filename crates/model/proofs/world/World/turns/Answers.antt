use Rattle.std.proofs.Common.{◌<◌, length, ◌∙◌, arith}
use Rattle.model.proofs.Steps.{turn_done}
use Rattle.model.proofs.world.World.turns.Goals as goal

pub returns : goal.returns
returns c p =
    let l : c.args.q < length c.args.self.now.lies = omega arith in
    turn_done p c.args.self.now c.args.q c.turned.result l (c.turned.ensures ∙ c.wants_left-wanted.ensures)
