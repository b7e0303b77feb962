-- The journal of a run replays as the run went.
use Rattle.std.proofs.Common.{◌≡◌, ℕ, zero, suc, ◌+◌, ◌<◌, ◌≤◌, Bool, true, false, eqb, List, [], ◌∷◌, length, get_or, take, sym, refl, ap, ◌∙◌, subst, arith, eqb-true}
use borrow.Author.Tests.{eqb-false}
use Rattle.std.proofs.lemmas.List.{get_or-take, length-map, length-take, take_all, take_more, take-take}
use Rattle.plan.specs.Plan.{pick, Plan, Positions}
use Rattle.model.specs.World.{World, Lawful, after}
use Rattle.model.specs.Steps.{happens}
use Rattle.model.specs.Ran.{done_onto, done_row, no_event, Played}
use Rattle.model.specs.declared.Event.{Event}
use Rattle.model.proofs.Runs.{row_push}
use Rattle.journal.specs.Entries.{answers_of, events_of, paired}
use Rattle.journal.specs.declared.Entry.{Entry}
use Rattle.replay.specs.Replayed.{FirstFalse, Own, OwnAt}

paired_answers : (es : List Event) (bs : List Bool) → length bs ≤ length es → answers_of (paired es bs) ≡ bs
unfolding paired
paired_answers [] [] l = refl
paired_answers [] (b ∷ bs) l = absurd (omega arith)
paired_answers (e ∷ es) [] l = refl
paired_answers (e ∷ es) (b ∷ bs) l = ap (λ (z : List Bool). b ∷ z) (paired_answers es bs (omega arith))

paired_events : (es : List Event) (bs : List Bool) → length bs ≤ length es → events_of (paired es bs) ≡ take (length bs) es
unfolding paired
paired_events [] [] l = refl
paired_events [] (b ∷ bs) l = absurd (omega arith)
paired_events (e ∷ es) [] l = refl
paired_events (e ∷ es) (b ∷ bs) l = ap (λ (z : List Event). e ∷ z) (paired_events es bs (omega arith))

-- events that have no answer are not done
onto_take : (row : List Event) (bs : List Bool) (n : ℕ) (es : List Event) → length bs ≤ n → done_onto row bs (take n es) ≡ done_onto row bs es
unfolding done_onto
onto_take row [] n es l = refl
onto_take row (b ∷ bs) zero es l = absurd (omega arith)
onto_take row (b ∷ bs) (suc n) [] l = refl
onto_take row (b ∷ bs) (suc n) (e ∷ es) l = onto_take (pick b (e ∷ row) row) bs n es (omega arith)

row_take : (bs : List Bool) (n : ℕ) (es : List Event) → length bs ≤ n → done_row bs (take n es) ≡ done_row bs es
unfolding done_row
row_take bs n es l = onto_take [] bs n es l

-- a row that is lawful was so before its last event
shorter : (p : Plan) (t : Positions) (e : Event) (row : List Event) (b : Bool) → Lawful p 16 t (pick b (e ∷ row) row) → Lawful p 16 t row
unfolding Lawful
shorter p t e row true h = h.1
shorter p t e row false h = h

down : (P : ℕ → Type 0) (n : ℕ) → ((k : ℕ) → k < n → P (k + 1) → P k) → P n → (k : ℕ) → k ≤ n → P k
down P zero s h k l = let e : 0 ≡ k = omega arith in subst P e h
down P (suc n) s h k l =
    let e : suc n ≡ n + 1 = omega arith in
    either (down P n (λ j m. s j (omega arith)) (s n (omega arith) (subst P e h)) k) (eqb k (suc n)) refl
  where
    either : (k ≤ n → P k) → (b : Bool) → eqb k (suc n) ≡ b → P k
    either f true q = subst P (sym (eqb-true k (suc n) q)) h
    either f false q = let ne = eqb-false k (suc n) q in f (omega (arith, ne))

module _ (p : Plan) (t : Positions) (events : List Event) (answers : List Bool) (w : World) (h : Played p t events answers w) (l : length answers ≤ length events) where
  lawful : (k : ℕ) → k ≤ length answers → Lawful p 16 t (done_row (take k answers) events)
  lawful k o = down (λ (j : ℕ). Lawful p 16 t (done_row (take j answers) events)) (length answers) before
      (subst (λ (z : List Bool). Lawful p 16 t (done_row z events)) (sym (take_all (length answers) answers (omega arith))) h.lawful) k o
    where
      before : (j : ℕ) → j < length answers → Lawful p 16 t (done_row (take (j + 1) answers) events) → Lawful p 16 t (done_row (take j answers) events)
      before j m x =
          let a = length-take j answers in
          let r = ap (λ (z : List Bool). done_row z events) (take_more answers j false m) ∙ row_push (take j answers) (get_or answers j false) events (omega arith) in
          shorter p t (get_or events (length (take j answers)) no_event) (done_row (take j answers) events) (get_or answers j false) (subst (Lawful p 16 t) r x)

  -- the run's first entries, with only the events that have answers
  front : (k : ℕ) → k ≤ length answers → Played p t (take (length answers) events) (take k answers) (after p 16 t (done_row (take k answers) events))
  front k o = record { told = told; world = ap (after p 16 t) (sym (same k o)); lawful = subst (Lawful p 16 t) (sym (same k o)) (lawful k o) }
    where
      same : (j : ℕ) → j ≤ length answers → done_row (take j answers) (take (length answers) events) ≡ done_row (take j answers) events
      same j m = let a = length-take j answers in row_take (take j answers) (length answers) events (omega arith)

      told : (j : ℕ) → j < length (take k answers) →
          get_or (take k answers) j false ≡ happens p 16 (after p 16 t (done_row (take j (take k answers)) (take (length answers) events))) (get_or (take (length answers) events) j no_event)
      told j m =
          let a = length-take k answers in
          let i : j < k = omega arith in let n : j < length answers = omega arith in
          get_or-take k answers j false i ∙ h.told j n
          ∙ ap (λ (z : List Event). happens p 16 (after p 16 t z) (get_or events j no_event)) (sym (ap (λ (z : List Bool). done_row z (take (length answers) events)) (take-take j k answers (omega arith)) ∙ same j (omega arith)))
          ∙ ap (happens p 16 (after p 16 t (done_row (take j (take k answers)) (take (length answers) events)))) (sym (get_or-take (length answers) events j no_event n))

  -- and so with the entries of its journal
  turned : (P : List Event → List Bool → Type 0) → P (take (length answers) events) answers → P (events_of (paired events answers)) (answers_of (paired events answers))
  turned P x =
      let Q : List Bool → Type 0 = λ z. P (take (length answers) events) z in
      let R : List Event → Type 0 = λ z. P z (answers_of (paired events answers)) in
      subst R (sym (paired_events events answers l)) (subst Q (sym (paired_answers events answers l)) x)

  own_world : (k : ℕ) → k ≤ length answers → after p 16 t (done_row (take k (answers_of (paired events answers))) (events_of (paired events answers))) ≡ after p 16 t (done_row (take k answers) events)
  own_world k o = turned (λ es bs. after p 16 t (done_row (take k bs) es) ≡ after p 16 t (done_row (take k answers) events)) (sym (front k o).world)

  not_false : (k : ℕ) → k ≤ length answers → FirstFalse p t (paired events answers) k → ⊥
  not_false k o f =
      let a = length-map (paired events answers) (λ (e : Entry). e.done) in let b = ap length (paired_answers events answers l) in
      let m = f.there in
      let n : k < length answers = omega arith in
      f.here
      (turned (λ es bs. get_or bs k false ≡ happens p 16 (after p 16 t (done_row (take k bs) es)) (get_or es k no_event))
      (h.told k n ∙ ap (λ (z : World). happens p 16 z (get_or events k no_event)) (front k o).world
      ∙ ap (happens p 16 (after p 16 t (done_row (take k answers) (take (length answers) events)))) (sym (get_or-take (length answers) events k no_event n))))

  own_at : (k : ℕ) → k ≤ length answers → OwnAt p t events answers k
  own_at k o = record {
    accepted = not_false k o;
    replayed = turned (λ es bs. Played p t es (take k bs) (after p 16 t (done_row (take k answers) events))) (front k o);
    world = λ v r. r.world ∙ own_world k o;
  }

pub own : Own
own p t events budget answers w r k o = let n = r.count in own_at p t events answers w r.played (omega arith) k o
