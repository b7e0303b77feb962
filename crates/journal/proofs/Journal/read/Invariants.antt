use Rattle.std.proofs.Common.{◌≡◌, vec_items}
use Rattle.std.specs.Slice.Iter.{chunks_rest, chunks_size}
use Rattle.journal.proofs.Begun.{SoFar}
use Rattle.journal.proofs.Journal.read.Given as goal

abbrev pub invariant-loop-i : goal.invariant-loop-i
invariant-loop-i l = record {
  size : chunks_size l.i-iterator.iter ≡ 5;
  read : SoFar l.numbers l.journal.lies (vec_items l.journal.entries) l.i-iterator.count (chunks_rest l.i-iterator.iter);
}
