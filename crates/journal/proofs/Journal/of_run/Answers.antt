use Rattle.std.proofs.Common.{◌≡◌, Bool, ◌⊎◌, inl, inr, List, [], ◌∷◌, ◌++◌, refl, sym, ap, ◌∙◌, arith}
use Rattle.std.proofs.lemmas.List.{append_assoc, append-nil}
use Rattle.std.proofs.lemmas.Slice.Zip.{Zip-more, either_empty_from_Zip}
use Rattle.model.specs.declared.Event.{Event}
use Rattle.journal.specs.Entries.{entry_of, paired}
use Rattle.journal.specs.declared.Entry.{Entry}
use Rattle.journal.proofs.Journal.of_run.Goals as goal

more : (v w all : List Entry) (e : Event) (b : Bool) (es es₁ : List Event) (bs bs₁ : List Bool) → w ≡ v ++ entry_of e b ∷ [] → (es ≡ e ∷ es₁) × (bs ≡ b ∷ bs₁) → v ++ paired es bs ≡ all →
    w ++ paired es₁ bs₁ ≡ all
unfolding paired
more v w all e b es es₁ bs bs₁ h (f, g) k =
    ap (λ z. z ++ paired es₁ bs₁) h ∙ append_assoc v (entry_of e b ∷ []) (paired es₁ bs₁) ∙ sym (ap (λ z. v ++ paired z bs) f ∙ ap (λ z. v ++ paired (e ∷ es₁) z) g) ∙ k

none : (es : List Event) (bs : List Bool) → (es ≡ []) ⊎ (bs ≡ []) → paired es bs ≡ []
unfolding paired
none [] bs h = refl
none (e ∷ es) [] h = refl
none (e ∷ es) (b ∷ bs) (inl h) = absurd (grind arith)
none (e ∷ es) (b ∷ bs) (inr h) = absurd (grind arith)

pub loop-event-preserved : goal.loop-event-preserved
loop-event-preserved c = record {
  lies = c.in_ok-keep.ensures.lies ∙ c.loop-event.invariant.lies;
  kept = more _ _ _ _ _ _ _ _ _ c.in_ok-keep.ensures.entries (Zip-more c.loop-event.event-iterator c.next.new.self c.next.result _ c.in-Some.is c.next.ensures.steps) c.loop-event.invariant.kept;
}

pub returns : goal.returns
returns c = (
  c.loop-event.invariant.lies ∙ c.new-journal.ensures.lies,
  sym (append-nil _) ∙ ap (λ z. c.loop-event.journal.entries.items ++ z) (sym (none _ _ (either_empty_from_Zip c.loop-event.event-iterator c.next.new.self c.next.result c.in-None.is c.next.ensures.steps))) ∙ c.loop-event.invariant.kept,
)
