use Rattle.std.proofs.Common.{◌≡◌, ℕ, ◌+◌, ◌<◌, Bool, List, [], ◌∷◌, ◌++◌, length, get_or, take, sym, ap, ◌∙◌}
use Rattle.std.proofs.lemmas.List.{take_more}
use Rattle.journal.specs.Entries.{entry_numbers, journal_numbers}
use Rattle.journal.specs.declared.Entry.{Entry}
use Rattle.journal.proofs.Begun.{none_yet, numbers_more}
use Rattle.journal.proofs.Journal.numbers.Goals as goal

pub loop-entry-init : goal.loop-entry-init
loop-entry-init c = c.in_ok-numbers.ensures ∙ sym (none_yet c.args.self.now.lies)

more : (ls : List Bool) (es items : List Entry) (i : ℕ) (d : Entry) (v w n : List ℕ) → items ≡ es → i < length items → n ≡ entry_numbers (get_or items i d) → w ≡ v ++ n →
    v ≡ journal_numbers ls (take i es) → w ≡ journal_numbers ls (take (i + 1) es)
more ls es items i d v w n e l g h k =
    h ∙ ap (λ z. z ++ n) k ∙ ap (λ z. journal_numbers ls (take i es) ++ z) g
    ∙ sym (numbers_more ls (take i es) (take (i + 1) es) (get_or items i d) (ap (λ z. take (i + 1) z) (sym e) ∙ take_more items i d l ∙ ap (λ z. take i z ++ get_or items i d ∷ []) e))

pub loop-entry-preserved : goal.loop-entry-preserved
loop-entry-preserved c =
    more c.args.self.now.lies _ c.deref-entry-items.result.now c.loop-entry.entry-index _ _ _ c.numbers.result c.deref-entry-items.ensures.value c.loop-entry-test.true c.numbers.ensures
    c.in_ok-extend_from_slice.ensures.items c.loop-entry.invariant
