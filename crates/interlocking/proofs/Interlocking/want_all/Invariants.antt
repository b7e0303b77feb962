use Rattle.std.proofs.Common.{◌≡◌, ◌++◌, List}
use Rattle.plan.specs.View.{needs_left, route_of}
use Rattle.plan.specs.declared.Need.{Need}
use Rattle.interlocking.specs.Says.{want_all, with_wanted}
use Rattle.interlocking.proofs.Interlocking.want_all.Given as goal

-- the last needs are gone through
abbrev pub invariant-loop-need : goal.invariant-loop-need
invariant-loop-need l =
    (rest : List Need) × (needs_left l.need-iterator.iter ++ rest ≡ (route_of l.route).needs) × (l.self ≡ with_wanted l.initial.self (want_all rest l.initial.self.wanted))
