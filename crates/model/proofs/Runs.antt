-- A run grows by one event at a time.
use Rattle.std.proofs.Common.{◌≡◌, ℕ, ◌<◌, Bool, true, false, eqb, List, [], ◌∷◌, ◌++◌, length, get_or, take, sym, refl, ap, ◌∙◌, subst, arith, eqb-true}
use mathlib.Core.Path.{fun_ext}
use borrow.Author.Tests.{eqb-false}
use Rattle.std.proofs.lemmas.List.{get_or_append_left, get_or_push, get_or_read, get_or-take, length_push, length-take, take-append-le, take_all}
use Rattle.plan.specs.Plan.{pick, Plan, Positions}
use Rattle.interlocking.specs.State.{State, at_rest}
use Rattle.model.specs.World.{World, Lawful, after, can, next, empty_station}
use Rattle.trains.specs.Held.{Nowhere, trains_of}
use Rattle.model.specs.Steps.{happens, Told}
use Rattle.model.specs.Ran.{done_onto, done_row, no_event, Played}
use Rattle.model.specs.declared.Event.{Event}
use Rattle.trains.specs.declared.train.Train.{Train as HeldTrain}
use Rattle.model.proofs.Steps.{happens_can, same_world}

-- one more answer
onto_push : (row : List Event) (bs : List Bool) (b : Bool) (es : List Event) → length bs < length es →
    done_onto row (bs ++ b ∷ []) es ≡ pick b (get_or es (length bs) no_event ∷ done_onto row bs es) (done_onto row bs es)
unfolding done_onto
onto_push row [] b [] l = absurd (omega arith)
onto_push row [] true (e ∷ es) l = nil (e ∷ row) es
  where
    nil : (r : List Event) (es : List Event) → done_onto r [] es ≡ r
    nil r es = refl
onto_push row [] false (e ∷ es) l = refl
onto_push row (c ∷ bs) b [] l = absurd (omega arith)
onto_push row (c ∷ bs) b (e ∷ es) l = onto_push (pick c (e ∷ row) row) bs b es (omega arith)

pub row_push : (bs : List Bool) (b : Bool) (es : List Event) → length bs < length es →
    done_row (bs ++ b ∷ []) es ≡ pick b (get_or es (length bs) no_event ∷ done_row bs es) (done_row bs es)
unfolding done_row
row_push bs b es l = onto_push [] bs b es l

-- what a step that is done, or is not, makes of the row
grown : (p : Plan) (t : Positions) (w v : World) (e : Event) (row : List Event) (b : Bool) → w ≡ after p 16 t row → Told p 16 w v e b → v ≡ after p 16 t (pick b (e ∷ row) row)
unfolding after
grown p t w v e row true h s = s.done refl ∙ ap (λ (z : World). next p 16 z e) h
grown p t w v e row false h s = s.not_done refl ∙ h

lawful_grown : (p : Plan) (t : Positions) (w v : World) (e : Event) (row : List Event) (b : Bool) → w ≡ after p 16 t row → Told p 16 w v e b → Lawful p 16 t row →
    Lawful p 16 t (pick b (e ∷ row) row)
unfolding Lawful
lawful_grown p t w v e row true h s k = (ap (λ (z : World). can p 16 z e) (sym h) ∙ happens_can p 16 w e (sym s.told), k)
lawful_grown p t w v e row false h s k = k

played_none : (p : Plan) (t : Positions) (es : List Event) (w : World) → w ≡ empty_station t → Played p t es [] w
unfolding done_row done_onto after Lawful
played_none p t es w h = record { told = λ k l. absurd (omega arith); world = h; lawful = omega arith }

played_more : (p : Plan) (t : Positions) (es : List Event) (bs new : List Bool) (w v : World) (i : ℕ) (e : Event) (b : Bool) → new ≡ bs ++ b ∷ [] → length bs ≡ i → i < length es →
    e ≡ get_or es i no_event → Told p 16 w v e b → Played p t es bs w → Played p t es new v
played_more p t es bs new w v i e b f n l g s k = subst (λ (z : List Bool). Played p t es z v) (sym f) (record { told = told; world = world; lawful = lawful })
  where
    here : e ≡ get_or es (length bs) no_event
    here = g ∙ ap (λ (j : ℕ). get_or es j no_event) (sym n)

    row : done_row (bs ++ b ∷ []) es ≡ pick b (e ∷ done_row bs es) (done_row bs es)
    row = row_push bs b es (omega arith) ∙ ap (λ (z : Event). pick b (z ∷ done_row bs es) (done_row bs es)) (sym here)

    world : v ≡ after p 16 t (done_row (bs ++ b ∷ []) es)
    world = grown p t w v e (done_row bs es) b k.world s ∙ ap (after p 16 t) (sym row)

    lawful : Lawful p 16 t (done_row (bs ++ b ∷ []) es)
    lawful = subst (Lawful p 16 t) (sym row) (lawful_grown p t w v e (done_row bs es) b k.world s k.lawful)

    old : (j : ℕ) → j < length bs → get_or (bs ++ b ∷ []) j false ≡ happens p 16 (after p 16 t (done_row (take j (bs ++ b ∷ [])) es)) (get_or es j no_event)
    old j m =
        get_or_append_left bs (b ∷ []) false j m ∙ k.told j m
        ∙ ap (λ (z : List Bool). happens p 16 (after p 16 t (done_row z es)) (get_or es j no_event)) (sym (take-append-le j bs (b ∷ []) (omega arith)))

    newest : get_or (bs ++ b ∷ []) (length bs) false ≡ happens p 16 (after p 16 t (done_row (take (length bs) (bs ++ b ∷ [])) es)) (get_or es (length bs) no_event)
    newest =
        get_or_push bs b false (length bs) refl ∙ s.told ∙ ap (λ (z : World). happens p 16 z e) k.world
        ∙ ap (λ (z : List Bool). happens p 16 (after p 16 t (done_row z es)) e) (sym (take-append-le (length bs) bs (b ∷ []) (omega arith) ∙ take_all (length bs) bs (omega arith)))
        ∙ ap (λ (z : Event). happens p 16 (after p 16 t (done_row (take (length bs) (bs ++ b ∷ [])) es)) z) here

    told : (j : ℕ) → j < length (bs ++ b ∷ []) → get_or (bs ++ b ∷ []) j false ≡ happens p 16 (after p 16 t (done_row (take j (bs ++ b ∷ [])) es)) (get_or es j no_event)
    told j m = go (eqb j (length bs)) refl
      where
        go : (c : Bool) → eqb j (length bs) ≡ c → get_or (bs ++ b ∷ []) j false ≡ happens p 16 (after p 16 t (done_row (take j (bs ++ b ∷ [])) es)) (get_or es j no_event)
        go true q = let z : length bs ≡ j = sym (eqb-true j (length bs) q) in subst (λ (u : ℕ). get_or (bs ++ b ∷ []) u false ≡ happens p 16 (after p 16 t (done_row (take u (bs ++ b ∷ [])) es)) (get_or es u no_event)) z newest
        go false q = let ne = eqb-false j (length bs) q in let len = length_push bs b in old j (omega (arith, ne))

start_lies : (t : Positions) (w : World) → w ≡ empty_station t → w.lies ≡ t
unfolding empty_station
start_lies t w h = ap (λ (z : World). z.lies) h

pub played_start : (p : Plan) (t : Positions) (es : List Event) (bs : List Bool) (w : World) → bs ≡ [] → w ≡ empty_station t → Played p w.lies es bs w
played_start p t es bs w e h =
    subst (λ (z : List Bool). Played p w.lies es z w) (sym e) (played_none p w.lies es w (h ∙ ap empty_station (sym (start_lies t w h))))

pub played_from : (p : Plan) (t : Positions) (es : List Event) (bs : List Bool) (w v : World) → w ≡ empty_station t → Played p w.lies es bs v → Played p t es bs v
played_from p t es bs w v h k = subst (λ (z : Positions). Played p z es bs v) (start_lies t w h) k

pub played_next : (p q : Plan) (t : Positions) (es : List Event) (bs new : List Bool) (w v : World) (i : ℕ) (b : Bool) → new ≡ bs ++ b ∷ [] → length bs ≡ i → i < length es → q ≡ p →
    Told q 16 w v (get_or es i no_event) b → Played p t es bs w → Played p t es new v
played_next p q t es bs new w v i b f n l h s k =
    played_more p t es bs new w v i (get_or es i no_event) b f n l refl (subst (λ (z : Plan). Told z 16 w v (get_or es i no_event) b) h s) k

-- an event of those that the budget allows
abbrev pub Allowed : ℕ → List Event → ℕ → Event → Type 0
Allowed budget es i e = (i < length (take budget es)) × (e ≡ get_or (take budget es) i e)

allowed : (budget : ℕ) (es : List Event) (i : ℕ) (e : Event) → Allowed budget es i e → (i < length es) × (e ≡ get_or es i no_event)
allowed budget es i e h =
    let n = length-take budget es in
    let l : i < budget = omega (arith, n, h.0) in
    let m : i < length es = omega (arith, n, h.0) in (
      m,
      get_or_read es i e m (h.1 ∙ get_or-take budget es i e l) no_event,
    )

pub played_allowed : (p q : Plan) (t : Positions) (budget : ℕ) (es : List Event) (bs new : List Bool) (w v : World) (i : ℕ) (e : Event) (b : Bool) → new ≡ bs ++ b ∷ [] → length bs ≡ i → Allowed budget es i e → q ≡ p →
    Told q 16 w v e b → Played p t es bs w → Played p t es new v
played_allowed p q t budget es bs new w v i e b f n a h s k =
    let g = allowed budget es i e a in played_more p t es bs new w v i e b f n g.0 g.1 (subst (λ (z : Plan). Told z 16 w v e b) h s) k

pub start : (h : State) (t : Positions) (ts : List HeldTrain) → h ≡ at_rest → Nowhere 16 ts → ◌≡◌ {A = World} (record { interlocking = h; lies = t; trains = trains_of ts }) (empty_station t)
unfolding empty_station
start h t ts e n = same_world _ _ _ _ _ _ e refl (fun_ext n.none)
