use Rattle.std.proofs.Common.{vec_items, ap}
use Rattle.std.proofs.lemmas.Result.{err_from_is_err_and}
use Rattle.plan.specs.View.{plan_of}
use Rattle.trains.proofs.Tracks.{few_sections}
use Rattle.model.specs.Held.{world_of}
use Rattle.model.proofs.Steps.{go_either_still, go_next, go_under, move_failed}
use Rattle.model.proofs.world.World.goes.Goals as goal

pub index-requires : goal.index-requires
index-requires c = go_under (plan_of c.args.plan) c.args.self.now.trains.len (world_of c.args.self.now) c.args.i c.requires

pub index_mut-requires : goal.index_mut-requires
index_mut-requires c = go_under (plan_of c.args.plan) c.args.self.now.trains.len (world_of c.args.self.now) c.args.i c.requires

pub invariant_of-self : goal.invariant_of-self
invariant_of-self c = record {
  count = c.args.self.now.count;
  inside = go_either_still (plan_of c.args.plan) c.args.self.now c.args.i c.ahead-x.result c.index.result.now c.index_mut.result.now c.goes.new.self _ (few_sections c.args.plan) c.requires
      c.index.ensures c.index_mut.ensures.value c.ahead-x.ensures c.goes.ensures;
}

pub returns-in_err-goes : goal.returns-in_err-goes
returns-in_err-goes c =
    let l = go_under (plan_of c.args.plan) c.args.self.now.trains.len (world_of c.args.self.now) c.args.i c.requires in
    let d = move_failed c.args.self.now c.args.i c.index_mut.result.now c.goes.new.self l c.index_mut.ensures.value c.in_err-goes.ensures in
    let p = err_from_is_err_and c.from_residual.result c.from_residual.ensures.1 in rw p.1 d.0

pub returns : goal.returns
returns c =
    go_next (plan_of c.args.plan) c.args.self.now c.note.new.self c.args.i c.ahead-x.result c.index.result.now c.index_mut.result.now c.goes.new.self c.requires
    c.index.ensures c.index_mut.ensures.value c.ahead-x.ensures c.in_ok-goes.ensures c.note.ensures.interlocking c.note.ensures.lies (ap (λ v. vec_items v) c.note.ensures.trains)
