use Rattle.plan.specs.View.{plan_of, route_of}
use Rattle.safety.proofs.Sides.{Told, told_yes, told_no}
use Rattle.safety.proofs.strangers.strangers.Goals as goal

pub returns : goal.returns
returns c =
    let t : Told (plan_of c.args.plan) c.args.a c.args.b (route_of c.route-one.result) (route_of c.route-other.result) c.path-xs.result.now c.path-ys.result.now
    c.paths_apart-sections.result c.points_apart-points.result c.points_apart-points_too.result = record {
      first = c.route-one.ensures;
      second = c.route-other.ensures;
      path = c.path-xs.ensures;
      path_too = c.path-ys.ensures;
      clear = c.paths_apart-sections.ensures;
      points = c.points_apart-points.ensures;
      points_too = c.points_apart-points_too.ensures;
    } in
    record {
      yes = λ e. told_yes _ _ _ _ _ _ _ _ _ _ t e;
      no = λ e. told_no _ _ _ _ _ _ _ _ _ _ t e;
    }
