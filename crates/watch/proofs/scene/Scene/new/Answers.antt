use Rattle.std.proofs.Common.{ℕ, refl, ap, ◌∙◌, vec_items}
use Rattle.plan.specs.Plan.{marks}
use Rattle.interlocking.specs.Says.{state_of}
use Rattle.model.specs.Stations.{station_world}
use Rattle.model.specs.World.{occupied}
use Rattle.trains.specs.Held.{within}
use Rattle.trains.proofs.Trains.{seen_all}
use Rattle.watch.proofs.scene.Scene.new.Goals as goal

pub returns : goal.returns
returns c = record {
  plan = c.plan.ensures;
  state = ap state_of c.interlocking.ensures;
  lies = ap marks c.lies.ensures;
  occupied = c.occupancy.ensures ∙ ap (λ (n : ℕ). within (occupied n (station_world c.args.station.now).trains)) c.args.station.now.world.count
      ∙ seen_all (vec_items c.args.station.now.world.trains) 16 c.args.station.now.world.inside;
  trains = refl;
}
