-- The theorem: all promises, after every lawful row of events of every sound plan that there is room for.
use Rattle.safety.specs.Promise.{Theorem}
use Rattle.safety.specs.Safe.{Safe}
use Rattle.model.specs.World.{World, after}
use Rattle.safety.proofs.Steps.{always}
use Rattle.safety.proofs.Always as read
use Rattle.safety.proofs.Shows as shows
use Rattle.safety.proofs.LetsGo as goes

pub theorem : Theorem
theorem p n t hs sz snd l =
    let w : World = after p n t hs in
    let safe : Safe p n w = always p n t hs sz snd l in
    record {
      apart = read.apart p n w snd safe;
      standing = read.standing p n w snd safe;
      still = read.still p n w snd safe;
      shown_when = read.shown_when p n w snd safe;
      way_before = read.way_before p n w snd safe;
      comes_to_show = shows.comes_to_show p n t hs sz snd l;
      set_comes_to_show = shows.set_comes_to_show p n t hs sz snd l;
      lets_go = goes.lets_go p n t hs sz snd l;
      no_orphan = read.no_orphan p n w snd safe;
      all_let_go = goes.all_let_go p n t hs sz snd l;
      noted = read.noted p n w snd safe;
      each_once = read.each_once p n w snd safe;
      falls_soon = read.falls_soon p n w snd safe;
      beyond_same = read.same_beyond p n w snd safe;
      alone = read.one_open p n w snd safe;
      enters = read.goes_own_way p n w snd safe;
    }
