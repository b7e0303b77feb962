use Rattle.std.proofs.Common.{◌≡◌, ◌+◌, ◌-◌, ◌*◌, drop, length, min, ap, sym, subst, ◌∙◌, arith}
use Rattle.std.proofs.lemmas.List.{length-drop, take_all}
use Rattle.std.specs.Slice.Iter.{chunks_rest}
use Rattle.journal.specs.Reads.{FirstWrong}
use Rattle.journal.proofs.Begun.{SoFar, points_there, so_more, so_none, wrong_row}
use Rattle.journal.proofs.Journal.read.Goals as goal

pub slice_bounds-rows-count : goal.slice_bounds-rows-count
slice_bounds-rows-count c = points_there _ _ c.in_ok-lies_in.ensures

pub slice_bounds-rows-start : goal.slice_bounds-rows-start
slice_bounds-rows-start c = points_there _ _ c.in_ok-lies_in.ensures

pub loop-i-init : goal.loop-i-init
loop-i-init c =
    let ns = c.args.numbers.now in let l = length-drop 32 ns in
    let whole = take_all (length ns - 32) (drop 32 ns) (omega arith) in
    let r : chunks_rest c.into_iter-i-iterator.result.iter ≡ drop 32 ns =
    ap (λ z. chunks_rest z.iter) c.into_iter-i-iterator.ensures.into_iter_gives ∙ ap chunks_rest c.enumerate-i-items.ensures.source ∙ c.chunks.ensures.rest ∙ whole in
    let n : c.into_iter-i-iterator.result.count ≡ 0 = ap (λ z. z.count) c.into_iter-i-iterator.ensures.into_iter_gives ∙ c.enumerate-i-items.ensures.count in
    let s = so_none ns _ c.new-journal.result.lies (c.new-journal.result.entries.items) c.in_ok-lies_in.ensures c.new-journal.ensures.lies c.new-journal.ensures.entries in
    record {
      size = cc;
      read = subst (λ z. SoFar ns c.new-journal.result.lies c.new-journal.result.entries.items c.into_iter-i-iterator.result.count z) (sym r)
          (subst (λ z. SoFar ns c.new-journal.result.lies c.new-journal.result.entries.items z (drop 32 ns)) (sym n) s);
    }

pub loop-i-preserved : goal.loop-i-preserved
loop-i-preserved c =
    let s = c.in-Some.ensures.steps in
    record {
      size = s.0.0 ∙ c.loop-i.invariant.size;
      read = subst (λ z. SoFar c.args.numbers.now c.keep.new.self.lies c.keep.new.self.entries.items z (chunks_rest c.next.new.self.iter)) (sym s.2)
          (so_more _ _ _ _ c.in-Some.few.now _ _ c.loop-i.invariant.read s.0.1.0 _ _ c.in-Ok.entry c.in-Ok.ensures c.in_ok-keep-in-Ok.ensures.lies c.in_ok-keep-in-Ok.ensures.entries);
    }

pub returns-in-Err : goal.returns-in-Err
returns-in-Err c =
    let s = c.in-Some.ensures.steps in
    let l = s.0.1.1 ∙ ap (λ z. min z (length (chunks_rest c.loop-i.i-iterator.iter))) c.loop-i.invariant.size in
    subst (λ z. FirstWrong c.args.numbers.now (32 + 5 * z + c.in-Err.wrong.place)) (sym s.1)
    (wrong_row _ _ _ _ c.in-Some.few.now _ _ c.loop-i.invariant.read s.0.1.0 l c.in-Err.wrong.place c.in-Err.ensures s.0.1.2)
