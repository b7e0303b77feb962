use Rattle.std.proofs.Common.{◌≡◌, ◌++◌, vec_items}
use Rattle.std.specs.Iterator.Adapters.{zip_first, zip_second}
use Rattle.std.specs.Slice.Iter.{iter_rest}
use Rattle.journal.specs.Entries.{paired}
use Rattle.journal.proofs.Journal.of_run.Given as goal

abbrev pub invariant-loop-event : goal.invariant-loop-event
invariant-loop-event l = record {
  lies : l.journal.lies ≡ l.initial.journal.lies;
  kept : vec_items l.journal.entries ++ paired (iter_rest (zip_first l.event-iterator)) (iter_rest (zip_second l.event-iterator)) ≡ paired l.events l.answers;
}
