use Rattle.watch.proofs.Joined.{broken, told}
use Rattle.watch.proofs.first_broken.Goals as goal

pub returns-in-Some : goal.returns-in-Some
returns-in-Some c = broken c.new-scene.result c.args.station.now c.new-scene.ensures c.in-Some.broken c.in-Some.ensures

pub returns : goal.returns
returns c = told c.new-scene.result c.args.station.now c.new-scene.ensures c.misheld.result c.in_default.ensures c.misheld.ensures
