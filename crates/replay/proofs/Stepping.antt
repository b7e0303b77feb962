-- One more entry, and a whole replay.
use Rattle.std.proofs.Common.{◌≡◌, ℕ, ◌+◌, ◌<◌, min, Bool, false, List, [], ◌∷◌, ◌++◌, length, get_or, take, is_some, Some, None, Ok, Err, Option, Result, IsErrAnd, sym, refl, ap, ◌∙◌, subst, arith}
use Rattle.std.proofs.lemmas.List.{get_or-map, get_or_read, length-map, length-take, take_min, take_more}
use Rattle.plan.specs.Plan.{Plan, Positions}
use Rattle.plan.specs.Numbers.{plan_in, refused}
use Rattle.model.specs.World.{World, empty_station}
use Rattle.model.specs.Steps.{happens, Told}
use Rattle.model.specs.Ran.{no_event, Played}
use Rattle.model.specs.declared.Event.{Event}
use Rattle.model.specs.declared.station.Station.{Station}
use Rattle.model.proofs.Runs.{played_from, played_next, played_start}
use Rattle.safety.specs.Promised.{Promised}
use Rattle.safety.proofs.Promised.{promised}
use Rattle.journal.specs.Entries.{answers_of, events_of}
use Rattle.journal.specs.declared.Entry.{Entry}
use Rattle.replay.specs.Replayed.{Nexts, no_entry, RefusedRightly, Refuses, Replayed, Replays, Stands, Stepped}
use Rattle.replay.specs.declared.Wrong.{Wrong}
use Rattle.replay.specs.declared.Wrong.TheVariants.{Memory, Entry as EntryWrong}

-- what stands at a place of a journal

event_at : (es : List Entry) (k : ℕ) → k < length es → get_or (events_of es) k no_event ≡ (get_or es k no_entry).event
event_at es k l = get_or-map (λ (e : Entry). e.event) es k no_entry no_event l

answer_at : (es : List Entry) (k : ℕ) → k < length es → get_or (answers_of es) k false ≡ (get_or es k no_entry).done
answer_at es k l = get_or-map (λ (e : Entry). e.done) es k no_entry false l

-- one step of the station

pub refuses : (p : Plan) (es : List Entry) (k : ℕ) (old : World) (e : Entry) (given : Bool) → k < length es → e ≡ get_or es k e → given ≡ happens p 16 old e.event → (e.done ≡ given → ⊥) →
    Refuses p es k old k old k
refuses p es k old e given l r h n =
    let q = get_or_read es k e l r no_entry in record {
      place_is = refl;
      there = l;
      not_own = λ z. n (ap (λ (x : Entry). x.done) q ∙ z ∙ ap (λ (x : Entry). happens p 16 old x.event) (sym q) ∙ sym h);
      stays = record { at_is = refl; world = refl };
    }

pub stepped : (p : Plan) (es : List Entry) (k : ℕ) (old : World) (at : ℕ) (new : World) (e : Entry) (given b : Bool) → k < length es → e ≡ get_or es k e → given ≡ happens p 16 old e.event →
    e.done ≡ given → Told p 16 old new e.event b → at ≡ k + 1 → Stepped p es k old at new e
stepped p es k old at new e given b l r h o s a = record {
  there = l;
  entry_is = get_or_read es k e l r no_entry;
  told = subst (Told p 16 old new e.event) (s.told ∙ sym h ∙ sym o) s;
  at_is = a;
}

-- the run that it makes

pub step_run : (p : Plan) (t : Positions) (es : List Entry) (k : ℕ) (old : World) (at : ℕ) (new : World) (e : Entry) → Stepped p es k old at new e → Replayed p t es k old → Replayed p t es at new
step_run p t es k old at new e s h =
    let l = s.there in
    let la = length-map es (λ (x : Entry). x.done) in let le = length-map es (λ (x : Entry). x.event) in
    let lt = length-take k (answers_of es) in
    let ev : e.event ≡ get_or (events_of es) k no_event = ap (λ (x : Entry). x.event) s.entry_is ∙ sym (event_at es k l) in
    let an : get_or (answers_of es) k false ≡ e.done = answer_at es k l ∙ ap (λ (x : Entry). x.done) (sym s.entry_is) in
    let row : take at (answers_of es) ≡ take k (answers_of es) ++ e.done ∷ [] =
    ap (λ (n : ℕ). take n (answers_of es)) s.at_is ∙ take_more (answers_of es) k false (omega arith) ∙ ap (λ (b : Bool). take k (answers_of es) ++ b ∷ []) an in
    played_next p p t (events_of es) (take k (answers_of es)) (take at (answers_of es)) old new k e.done row (omega arith) (omega arith) refl
    (subst (λ (x : Event). Told p 16 old new x e.done) ev s.told) h

-- a whole replay

pub moves_on : (p : Plan) (es : List Entry) (k : ℕ) (old : World) (at : ℕ) (new : World) (o : Option Entry) → k < length es → Nexts p es k old at new (Ok o) → at ≡ k + 1
moves_on p es k old at new None l n = let m = n.0 in absurd (omega arith)
moves_on p es k old at new (Some e) l n = n.at_is

pub start : (p : Plan) (t : Positions) (es : List Entry) (at : ℕ) (w : World) → at ≡ 0 → w ≡ empty_station t → Replayed p t es at w
start p t es at w e h =
    let P : ℕ → Type 0 = λ n. Replayed p t es n w in
    subst P (sym e) (played_from p t (events_of es) [] w w h (played_start p t (events_of es) [] w refl h))

-- what stands of a replay's own plan stands of the one that it was given
pub one_more : (p q : Plan) (t : Positions) (es : List Entry) (k : ℕ) (old : World) (at : ℕ) (new : World) {A : Type 0} (r : Result A Wrong) → q ≡ p →
    (Replayed q t es k old → Replayed q t es at new × RefusedRightly q t es r) → Replayed p t es k old → Replayed p t es at new × RefusedRightly p t es r
one_more p q t es k old at new {A} r e s h =
    let P : Plan → Type 0 = λ x. Replayed x t es k old → Replayed x t es at new × RefusedRightly x t es r in
    subst P e s h

pub wrong_within : (p q : Plan) (t : Positions) (es : List Entry) (k upto : ℕ) (old : World) (at : ℕ) (new : World) (w : Wrong) → q ≡ p → k < upto → Nexts q es k old at new (Err w) →
    Stands q t es k old at new (Err w) → Replayed p t es k old → Replays p t es upto (Err w)
wrong_within p q t es k upto old at new Memory e l n s h = tt
wrong_within p q t es k upto old at new (EntryWrong j) e l n s h =
    let o = n.place_is in (omega arith, (one_more p q t es k old at new {A = Option Entry} (Err (EntryWrong j)) e s h).1)

pub handed_on : (p : Plan) (t : Positions) (es : List Entry) (upto : ℕ) (r : Result Station Wrong) (w : Wrong) → Replays p t es upto (Err w) → IsErrAnd r (λ y. y ≡ w) → Replays p t es upto r
handed_on p t es upto (Ok s) w k h = absurd h
handed_on p t es upto (Err y) w k h = subst (λ (z : Wrong). Replays p t es upto (Err z)) (sym h) k

pub whole : (xs : List ℕ) (q : Plan) (t : Positions) (es : List Entry) (upto at : ℕ) (w : World) → is_some (refused xs) ≡ false → q ≡ plan_in xs → at ≡ min upto (length es) →
    Replayed (plan_in xs) t es at w → (q ≡ plan_in xs) × Promised (plan_in xs) t (events_of es) upto (take upto (answers_of es)) w
whole xs q t es upto at w f g e h =
    let la = length-map es (λ (x : Entry). x.done) in let le = length-map es (λ (x : Entry). x.event) in
    let lt = length-take upto (answers_of es) in
    let row : take at (answers_of es) ≡ take upto (answers_of es) =
    ap (λ (n : ℕ). take n (answers_of es)) (e ∙ ap (min upto) (sym la)) ∙ take_min upto (answers_of es) in
    let P : List Bool → Type 0 = λ bs. Played (plan_in xs) t (events_of es) bs w in
    (g, promised xs t (events_of es) upto (take upto (answers_of es)) w f (record { count = lt ∙ ap (min upto) (la ∙ sym le); played = subst P row h }))
