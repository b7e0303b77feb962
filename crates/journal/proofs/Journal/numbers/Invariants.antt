use Rattle.std.proofs.Common.{◌≡◌, take, vec_items}
use Rattle.journal.specs.Entries.{journal_numbers}
use Rattle.journal.proofs.Journal.numbers.Given as goal

abbrev pub invariant-loop-entry : goal.invariant-loop-entry
invariant-loop-entry l = vec_items l.numbers ≡ journal_numbers l.self.lies (take l.entry-index (vec_items l.self.entries))
