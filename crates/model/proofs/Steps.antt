-- From one train written, and from what is noted, to one step of the world.
use Rattle.std.proofs.Common.{◌≡◌, ℕ, ◌<◌, ◌≤◌, Bool, true, false, not, ◌&&◌, eqb, ltb, List, [], ◌∷◌, ◌++◌, length, get_or, set, vec_items, vec_len, Result, Ok, Err, MatchResult, sym, refl, ap, ◌∙◌, subst, arith, ltb-true, eqb-true}
use mathlib.Core.Path.{fun_ext}
use borrow.Author.Tests.{eqb-false}
use Rattle.std.proofs.lemmas.List.{get_or-set_same, get_or-set_other}
use Rattle.plan.specs.Plan.{pick, Plan, Positions, beyond, marks}
use Rattle.interlocking.specs.State.{State, Occupancy, does, acts}
use Rattle.interlocking.specs.Says.{state_of, Says}
use Rattle.interlocking.specs.declared.Answer.{Answer}
use Rattle.interlocking.specs.declared.Request.{Request}
use Rattle.interlocking.specs.declared.Interlocking.{Interlocking}
use Rattle.occupancy.specs.Notes.{notes}
use Rattle.model.specs.World.{World, can, next, trains_after, lies_after, state_after}
use Rattle.trains.specs.Trains.{Train, occupied, front, without_last, reversed, empty, with_train}
use Rattle.model.specs.Held.{world_of, occupied_in}
use Rattle.trains.specs.Held.{train_of, trains_of, all_inside, trains_inside, within}
use Rattle.model.specs.Steps.{happens, Told}
use Rattle.model.specs.declared.Event.{Event}
use Rattle.model.specs.declared.Event.TheVariants.{Asked, Turns, Goes, Draws, Reverses, Comes, Leaves}
use Rattle.trains.specs.declared.train.Train.{Train as HeldTrain}
use Rattle.model.specs.declared.world.World.{World as HeldWorld}
use Rattle.trains.proofs.Bodies.{cons_inside, cut_inside, empty_nil, reversed_inside, none_inside}
use Rattle.trains.proofs.Trains.{trains_set, train_here, with_same, inside_at, inside_set, seen_all}

-- what can happen says
first : (a b : Bool) → a && b ≡ true → a ≡ true
first a b h = grind arith

pub go_under : (p : Plan) (n : ℕ) (w : World) (i : ℕ) → can p n w (Goes i) ≡ true → i < n
unfolding can
go_under p n w i h = ltb-true i n (first _ _ h)

pub draw_under : (p : Plan) (n : ℕ) (w : World) (i : ℕ) → can p n w (Draws i) ≡ true → i < n
unfolding can
draw_under p n w i h = ltb-true i n (first _ _ h)

pub reverse_under : (p : Plan) (n : ℕ) (w : World) (i : ℕ) → can p n w (Reverses i) ≡ true → i < n
unfolding can
reverse_under p n w i h = ltb-true i n (first _ _ h)

pub come_under : (p : Plan) (n : ℕ) (w : World) (i : ℕ) (up : Bool) (x : ℕ) → can p n w (Comes i up x) ≡ true → i < n
unfolding can
come_under p n w i up x h = ltb-true i n (first _ _ h)

pub leave_under : (p : Plan) (n : ℕ) (w : World) (i : ℕ) → can p n w (Leaves i) ≡ true → i < n
unfolding can
leave_under p n w i h = ltb-true i n (first _ _ h)

pub turn_under : (p : Plan) (n : ℕ) (w : World) (q : ℕ) → can p n w (Turns q) ≡ true → q < p.points
unfolding can
turn_under p n w q h = ltb-true q p.points h

third : (a b c d : Bool) → a && (b && (c && d)) ≡ true → c ≡ true
third a b c d h = grind arith

second : (a b c : Bool) → a && (b && c) ≡ true → b ≡ true
second a b c h = grind arith

pub go_inside : (p : Plan) (n : ℕ) (w : World) (i : ℕ) → can p n w (Goes i) ≡ true → beyond p w.lies (w.trains i).up (front (w.trains i).body) < p.sections
unfolding can
go_inside p n w i h = ltb-true _ p.sections (third (ltb i n) _ _ _ h)

pub come_nowhere : (p : Plan) (n : ℕ) (w : World) (i : ℕ) (up : Bool) (x : ℕ) → can p n w (Comes i up x) ≡ true → empty (w.trains i).body ≡ true
unfolding can
come_nowhere p n w i up x h = second (ltb i n) _ _ h

pub come_section : (p : Plan) (n : ℕ) (w : World) (i : ℕ) (up : Bool) (x : ℕ) → can p n w (Comes i up x) ≡ true → x < p.sections
unfolding can
come_section p n w i up x h = ltb-true x p.sections (third (ltb i n) (empty (w.trains i).body) _ _ h)

pub small_front : (p : Plan) (n : ℕ) (w : World) (i : ℕ) → can p n w (Goes i) ≡ true → p.sections ≤ 64 → beyond p w.lies (w.trains i).up (front (w.trains i).body) < 64
small_front p n w i h l = let k = go_inside p n w i h in omega arith

pub small_section : (p : Plan) (n : ℕ) (w : World) (i : ℕ) (up : Bool) (x : ℕ) → can p n w (Comes i up x) ≡ true → p.sections ≤ 64 → x < 64
small_section p n w i up x h l = let k = come_section p n w i up x h in omega arith

pub few_turn : (p : Plan) (n : ℕ) (w : World) (q : ℕ) → can p n w (Turns q) ≡ true → p.points ≤ 32 → q < 32
few_turn p n w q h l = let k = turn_under p n w q h in omega arith

-- the world with one train written
abbrev pub written : HeldWorld → ℕ → HeldTrain → World
written w i t = record { interlocking = state_of w.interlocking; lies = marks w.lies; trains = trains_of (set (vec_items w.trains) i t) }

moved : (w : HeldWorld) (i : ℕ) (t : HeldTrain) (r : Train) → i < vec_len w.trains → train_of t ≡ r →
    trains_of (set (vec_items w.trains) i t) ≡ with_train (trains_of (vec_items w.trains)) i r.up r.body
moved w i t r l f = let m = w.trains.ok.0 in trains_set (vec_items w.trains) _ i t r refl f (omega arith)

-- it stands in sections below 64, and so all do
still_inside : (w : HeldWorld) (i : ℕ) (t : HeldTrain) (r : Train) → train_of t ≡ r → all_inside r.body ≡ true → trains_inside (set (vec_items w.trains) i t) ≡ true
still_inside w i t r f k = inside_set (vec_items w.trains) _ i t r refl f w.inside k

inside_of : (w : HeldWorld) (i : ℕ) → all_inside (trains_of (vec_items w.trains) i).body ≡ true
inside_of w i = inside_at (vec_items w.trains) i w.inside

-- worlds with equal parts
pub same_world : (h g : State) (t u : Positions) (a b : ℕ → Train) → h ≡ g → t ≡ u → a ≡ b →
    ◌≡◌ {A = World} (record { interlocking = h; lies = t; trains = a }) (record { interlocking = g; lies = u; trains = b })
same_world h g t u a b e f k = λ i. record { interlocking = e i; lies = f i; trains = k i }

-- what is not done
pub told_not : (p : Plan) (n : ℕ) (w : World) (e : Event) (b : Bool) → b ≡ happens p n w e → b ≡ false → Told p n w w e false
told_not p n w e b h f = record { told = sym f ∙ h; done = λ z. absurd (grind arith); not_done = λ z. refl }

pub told_done : (p : Plan) (n : ℕ) (w v : World) (e : Event) (b : Bool) → b ≡ happens p n w e → b ≡ true → v ≡ next p n w e → Told p n w v e true
told_done p n w v e b h f k = record { told = sym f ∙ h; done = λ z. k; not_done = λ z. absurd (grind arith) }

-- a train read from the world
here : (w : HeldWorld) (i : ℕ) (b : HeldTrain) → i < vec_len w.trains → b ≡ get_or (vec_items w.trains) i b → train_of b ≡ trains_of (vec_items w.trains) i
here w i b l e = train_here (vec_items w.trains) i (vec_len w.trains) b l w.trains.ok.0 e

-- one train written, and no more
move_next : (p : Plan) (w : HeldWorld) (i : ℕ) (t : HeldTrain) (r : Train) (e : Event) → i < vec_len w.trains → train_of t ≡ r →
    state_after p (vec_len w.trains) (world_of w) e ≡ state_of w.interlocking → lies_after (world_of w) e ≡ marks w.lies →
    trains_after p (world_of w) e ≡ with_train (trains_of (vec_items w.trains)) i r.up r.body → written w i t ≡ next p (vec_len w.trains) (world_of w) e
move_next p w i t r e l f x y z = same_world _ _ _ _ _ _ (sym x) (sym y) (moved w i t r l f ∙ sym z)

-- one train written, and what is occupied noted
note_next : (p : Plan) (w v : HeldWorld) (i : ℕ) (t : HeldTrain) (r : Train) (e : Event) → i < vec_len w.trains → train_of t ≡ r →
    state_of v.interlocking ≡ notes p (state_of w.interlocking) (occupied (vec_len w.trains) (trains_of (set (vec_items w.trains) i t))) →
    v.lies ≡ w.lies → vec_items v.trains ≡ set (vec_items w.trains) i t →
    state_after p (vec_len w.trains) (world_of w) e ≡ notes p (state_of w.interlocking) (occupied (vec_len w.trains) (trains_after p (world_of w) e)) →
    lies_after (world_of w) e ≡ marks w.lies → trains_after p (world_of w) e ≡ with_train (trains_of (vec_items w.trains)) i r.up r.body →
    world_of v ≡ next p (vec_len w.trains) (world_of w) e
note_next p w v i t r e l f g m u x y z =
    let k : trains_of (set (vec_items w.trains) i t) ≡ trains_after p (world_of w) e = moved w i t r l f ∙ sym z in
    same_world _ _ _ _ _ _ (g ∙ ap (λ (ts : ℕ → Train). notes p (state_of w.interlocking) (occupied (vec_len w.trains) ts)) k ∙ sym x) (ap marks m ∙ sym y) (ap trains_of u ∙ k)

-- a train written as it was, for want of memory
pub move_failed : (w : HeldWorld) (i : ℕ) (b t : HeldTrain) → i < vec_len w.trains → b ≡ get_or (vec_items w.trains) i b → train_of t ≡ train_of b →
    (written w i t ≡ world_of w) × (trains_inside (set (vec_items w.trains) i t) ≡ true)
move_failed w i b t l e f =
    let h = f ∙ here w i b l e in (
      same_world _ _ _ _ _ _ refl refl (moved w i t (trains_of (vec_items w.trains) i) l h ∙ with_same (trains_of (vec_items w.trains)) i),
      still_inside w i t (trains_of (vec_items w.trains) i) h (inside_of w i),
    )

-- a train goes on
abbrev farther : Plan → HeldWorld → ℕ → Train
farther p w i = let r = trains_of (vec_items w.trains) i in record { up = r.up; body = beyond p (marks w.lies) r.up (front r.body) ∷ r.body }

gone : (p : Plan) (w : HeldWorld) (i x : ℕ) (a b t : HeldTrain) → i < vec_len w.trains → a ≡ get_or (vec_items w.trains) i a → b ≡ get_or (vec_items w.trains) i b →
    x ≡ beyond p (marks w.lies) a.up (front (vec_items a.body)) → train_of t ≡ record { up = b.up; body = x ∷ vec_items b.body } → train_of t ≡ farther p w i
gone p w i x a b t l e f h k =
    k ∙ ap (λ (y : ℕ). record { up = b.up; body = y ∷ vec_items b.body }) (h ∙ ap (λ (z : Train). beyond p (marks w.lies) z.up (front z.body)) (here w i a l e))
    ∙ ap (λ (z : Train). record { up = z.up; body = beyond p (marks w.lies) (trains_of (vec_items w.trains) i).up (front (trains_of (vec_items w.trains) i).body) ∷ z.body }) (here w i b l f)

go_inside_still : (p : Plan) (w : HeldWorld) (i x : ℕ) (a b t : HeldTrain) → p.sections ≤ 64 →
    can p (vec_len w.trains) (world_of w) (Goes i) ≡ true → a ≡ get_or (vec_items w.trains) i a → b ≡ get_or (vec_items w.trains) i b →
    x ≡ beyond p (marks w.lies) a.up (front (vec_items a.body)) → train_of t ≡ record { up = b.up; body = x ∷ vec_items b.body } →
    trains_inside (set (vec_items w.trains) i t) ≡ true
go_inside_still p w i x a b t q g e f h k =
    still_inside w i t (farther p w i) (gone p w i x a b t (go_under p (vec_len w.trains) (world_of w) i g) e f h k)
    (cons_inside _ _ (small_front p (vec_len w.trains) (world_of w) i g q) (inside_of w i))

-- or doesn't, for want of memory
pub go_either_still : {E : Type 0} (p : Plan) (w : HeldWorld) (i x : ℕ) (a b t : HeldTrain) (r : Result (Unit {0}) E) → p.sections ≤ 64 →
    can p (vec_len w.trains) (world_of w) (Goes i) ≡ true → a ≡ get_or (vec_items w.trains) i a → b ≡ get_or (vec_items w.trains) i b →
    x ≡ beyond p (marks w.lies) a.up (front (vec_items a.body)) →
    MatchResult r (λ _. train_of t ≡ record { up = b.up; body = x ∷ vec_items b.body }) (λ _. train_of t ≡ train_of b) → trains_inside (set (vec_items w.trains) i t) ≡ true
go_either_still p w i x a b t (Ok u) q g e f h k = go_inside_still p w i x a b t q g e f h k
go_either_still p w i x a b t (Err u) q g e f h k = (move_failed w i b t (go_under p (vec_len w.trains) (world_of w) i g) f k).1

pub go_next : (p : Plan) (w v : HeldWorld) (i x : ℕ) (a b t : HeldTrain) → can p (vec_len w.trains) (world_of w) (Goes i) ≡ true → a ≡ get_or (vec_items w.trains) i a → b ≡ get_or (vec_items w.trains) i b →
    x ≡ beyond p (marks w.lies) a.up (front (vec_items a.body)) → train_of t ≡ record { up = b.up; body = x ∷ vec_items b.body } →
    state_of v.interlocking ≡ notes p (state_of w.interlocking) (occupied (vec_len w.trains) (trains_of (set (vec_items w.trains) i t))) →
    v.lies ≡ w.lies → vec_items v.trains ≡ set (vec_items w.trains) i t → world_of v ≡ next p (vec_len w.trains) (world_of w) (Goes i)
unfolding state_after lies_after trains_after
go_next p w v i x a b t g e f h k n m u =
    let l = go_under p (vec_len w.trains) (world_of w) i g in
    note_next p w v i t (farther p w i) (Goes i) l (gone p w i x a b t l e f h k) n m u refl refl refl

-- its end draws up
abbrev drawn_up : HeldWorld → ℕ → Train
drawn_up w i = let r = trains_of (vec_items w.trains) i in record { up = r.up; body = without_last r.body }

drew : (w : HeldWorld) (i : ℕ) (b t : HeldTrain) → i < vec_len w.trains → b ≡ get_or (vec_items w.trains) i b →
    train_of t ≡ record { up = b.up; body = without_last (vec_items b.body) } → train_of t ≡ drawn_up w i
drew w i b t l e k = k ∙ ap (λ (z : Train). record { up = z.up; body = without_last z.body }) (here w i b l e)

pub draw_inside_still : (w : HeldWorld) (i : ℕ) (b t : HeldTrain) → i < vec_len w.trains → b ≡ get_or (vec_items w.trains) i b →
    train_of t ≡ record { up = b.up; body = without_last (vec_items b.body) } → trains_inside (set (vec_items w.trains) i t) ≡ true
draw_inside_still w i b t l e k = still_inside w i t (drawn_up w i) (drew w i b t l e k) (cut_inside (trains_of (vec_items w.trains) i).body (inside_of w i))

pub draw_next : (p : Plan) (w v : HeldWorld) (i : ℕ) (b t : HeldTrain) → i < vec_len w.trains → b ≡ get_or (vec_items w.trains) i b →
    train_of t ≡ record { up = b.up; body = without_last (vec_items b.body) } →
    state_of v.interlocking ≡ notes p (state_of w.interlocking) (occupied (vec_len w.trains) (trains_of (set (vec_items w.trains) i t))) →
    v.lies ≡ w.lies → vec_items v.trains ≡ set (vec_items w.trains) i t → world_of v ≡ next p (vec_len w.trains) (world_of w) (Draws i)
unfolding state_after lies_after trains_after
draw_next p w v i b t l e k n m u = note_next p w v i t (drawn_up w i) (Draws i) l (drew w i b t l e k) n m u refl refl refl

-- it turns round
abbrev turned_round : HeldWorld → ℕ → Train
turned_round w i = let r = trains_of (vec_items w.trains) i in record { up = not r.up; body = reversed r.body }

pub reverse_done : (w : HeldWorld) (i : ℕ) (b t : HeldTrain) → i < vec_len w.trains → b ≡ get_or (vec_items w.trains) i b →
    train_of t ≡ record { up = not b.up; body = reversed (vec_items b.body) } →
    ((p : Plan) → written w i t ≡ next p (vec_len w.trains) (world_of w) (Reverses i)) × (trains_inside (set (vec_items w.trains) i t) ≡ true)
unfolding state_after lies_after trains_after
reverse_done w i b t l e k =
    let h : train_of t ≡ turned_round w i = k ∙ ap (λ (z : Train). record { up = not z.up; body = reversed z.body }) (here w i b l e) in (
      λ p. move_next p w i t (turned_round w i) (Reverses i) l h refl refl refl,
      still_inside w i t (turned_round w i) h (reversed_inside (trains_of (vec_items w.trains) i).body (inside_of w i)),
    )

-- it comes in
pub come_done : (w : HeldWorld) (i : ℕ) (up : Bool) (x : ℕ) (b t : HeldTrain) → i < vec_len w.trains → empty (trains_of (vec_items w.trains) i).body ≡ true → x < 64 →
    b ≡ get_or (vec_items w.trains) i b → train_of t ≡ record { up = up; body = vec_items b.body ++ x ∷ [] } →
    ((p : Plan) → written w i t ≡ next p (vec_len w.trains) (world_of w) (Comes i up x)) × (trains_inside (set (vec_items w.trains) i t) ≡ true)
unfolding state_after lies_after trains_after
come_done w i up x b t l z q e k =
    let n = ap (λ (r : Train). r.body) (here w i b l e) ∙ empty_nil (trains_of (vec_items w.trains) i).body z in
    let h : train_of t ≡ record { up = up; body = x ∷ [] } = k ∙ ap (λ (ys : List ℕ). record { up = up; body = ys ++ x ∷ [] }) n in (
      λ p. move_next p w i t (record { up = up; body = x ∷ [] }) (Comes i up x) l h refl refl refl,
      still_inside w i t (record { up = up; body = x ∷ [] }) h (cons_inside x [] q none_inside),
    )

-- or doesn't, for want of memory
pub come_either : {E : Type 0} (w : HeldWorld) (i : ℕ) (up : Bool) (x : ℕ) (b t : HeldTrain) (r : Result (Unit {0}) E) → i < vec_len w.trains → empty (trains_of (vec_items w.trains) i).body ≡ true → x < 64 →
    b ≡ get_or (vec_items w.trains) i b → MatchResult r (λ _. train_of t ≡ record { up = up; body = vec_items b.body ++ x ∷ [] }) (λ _. train_of t ≡ train_of b) →
    MatchResult r (λ _. (p : Plan) → written w i t ≡ next p (vec_len w.trains) (world_of w) (Comes i up x)) (λ _. written w i t ≡ world_of w) × (trains_inside (set (vec_items w.trains) i t) ≡ true)
come_either w i up x b t (Ok u) l z q e k = come_done w i up x b t l z q e k
come_either w i up x b t (Err u) l z q e k = move_failed w i b t l e k

-- it leaves
abbrev left : HeldWorld → ℕ → Train
left w i = record { up = (trains_of (vec_items w.trains) i).up; body = [] }

pub leave_done : (w : HeldWorld) (i : ℕ) (b t : HeldTrain) → i < vec_len w.trains → b ≡ get_or (vec_items w.trains) i b → train_of t ≡ record { up = b.up; body = [] } →
    ((p : Plan) → written w i t ≡ next p (vec_len w.trains) (world_of w) (Leaves i)) × (trains_inside (set (vec_items w.trains) i t) ≡ true)
unfolding state_after lies_after trains_after
leave_done w i b t l e k =
    let h : train_of t ≡ left w i = k ∙ ap (λ (z : Train). record { up = z.up; body = [] }) (here w i b l e) in (
      λ p. move_next p w i t (left w i) (Leaves i) l h refl refl refl,
      still_inside w i t (left w i) h none_inside,
    )

-- a point that turned
pub turned_marks : (bs : List Bool) (q : ℕ) (b : Bool) (f : Positions) → q < length bs → b ≡ f q → marks (set bs q b) ≡ (λ k. pick (eqb k q) (f k) (marks bs k))
turned_marks bs q b f l e = fun_ext (λ k. go k (eqb k q) refl)
  where
    go : (k : ℕ) (d : Bool) → eqb k q ≡ d → marks (set bs q b) k ≡ pick d (f k) (marks bs k)
    go k true h =
        let s : k ≡ q = eqb-true k q h in
        ap (λ (z : ℕ). get_or (set bs q b) z false) s ∙ get_or-set_same bs q b false l ∙ e ∙ ap f (sym s)
    go k false h = get_or-set_other bs q k b false (eqb-false k q h)

pub turn_done : (p : Plan) (w : HeldWorld) (q : ℕ) (b : Bool) → q < length w.lies → b ≡ (state_of w.interlocking).wanted q →
    ◌≡◌ {A = World} (record { interlocking = state_of w.interlocking; lies = marks (set w.lies q b); trains = trains_of (vec_items w.trains) }) (next p (vec_len w.trains) (world_of w) (Turns q))
unfolding state_after lies_after trains_after
turn_done p w q b l e = same_world _ _ _ _ _ _ refl (turned_marks w.lies q b (state_of w.interlocking).wanted l e) refl

-- what is occupied is all seen
pub sees : (w : HeldWorld) (s : Occupancy) → s ≡ within (occupied_in w) → s ≡ occupied_in w
sees w s e = e ∙ seen_all (vec_items w.trains) (vec_len w.trains) w.inside

pub told_asked : (p : Plan) (w : HeldWorld) (a b : Request) (s : Occupancy) (left : Interlocking) (r : Answer) →
    Says p w.interlocking s (marks w.lies) b left r → b ≡ a → s ≡ occupied_in w →
    Told p (vec_len w.trains) (world_of w) (record { interlocking = state_of left; lies = marks w.lies; trains = trains_of (vec_items w.trains) }) (Asked a) r.done
unfolding happens state_after lies_after trains_after
told_asked p w a b s left r h e f =
    let d : r.done ≡ does p (state_of w.interlocking) (occupied_in w) (marks w.lies) a =
    h.done_is ∙ ap (λ (q : Occupancy). does p (state_of w.interlocking) q (marks w.lies) b) f ∙ ap (does p (state_of w.interlocking) (occupied_in w) (marks w.lies)) e
    in
    record {
      told = d;
      done = λ _. same_world _ _ _ _ _ _
          (h.state ∙ ap (λ (q : Occupancy). acts p (state_of w.interlocking) q (marks w.lies) b) f ∙ ap (acts p (state_of w.interlocking) (occupied_in w) (marks w.lies)) e) refl refl;
      not_done = λ k. same_world _ _ _ _ _ _ (ap state_of (h.unchanged (sym h.done_is ∙ k))) refl refl;
    }

pub happens_can : (p : Plan) (n : ℕ) (w : World) (e : Event) → happens p n w e ≡ true → can p n w e ≡ true
unfolding happens can
happens_can p n w (Asked a) h = refl
happens_can p n w (Turns q) h = h
happens_can p n w (Goes i) h = h
happens_can p n w (Draws i) h = h
happens_can p n w (Reverses i) h = h
happens_can p n w (Comes i up x) h = h
happens_can p n w (Leaves i) h = h

pub happens_else : (p : Plan) (n : ℕ) (w : World) (e : Event) → ((a : Request) → e ≡ Asked a → ⊥) → happens p n w e ≡ can p n w e
unfolding happens
happens_else p n w (Asked a) h = absurd (h a refl)
happens_else p n w (Turns q) h = refl
happens_else p n w (Goes i) h = refl
happens_else p n w (Draws i) h = refl
happens_else p n w (Reverses i) h = refl
happens_else p n w (Comes i up x) h = refl
happens_else p n w (Leaves i) h = refl

-- what can't happen is not done
pub told_cannot : (p : Plan) (n : ℕ) (w : World) (e : Event) (b : Bool) → b ≡ can p n w e → b ≡ false → Told p n w w e false
told_cannot p n w e b h f = told_not p n w e (happens p n w e) refl (go (happens p n w e) refl)
  where
    go : (d : Bool) → happens p n w e ≡ d → happens p n w e ≡ false
    go true k = let c = happens_can p n w e k in absurd (grind arith)
    go false k = k

-- what can, of an event by its variant
pub can_at : (p : Plan) (n : ℕ) (w : World) (e f : Event) (b : Bool) → e ≡ f → b ≡ can p n w e → b ≡ true → can p n w f ≡ true
can_at p n w e f b s g j = sym (g ∙ ap (can p n w) s) ∙ j

pub told_next : (p : Plan) (n : ℕ) (w v : World) (e f : Event) (b : Bool) → e ≡ f → b ≡ can p n w e → b ≡ true → happens p n w f ≡ can p n w f → v ≡ next p n w f → Told p n w v e true
told_next p n w v e f b s g j h k = subst (λ (z : Event). Told p n w v z true) (sym s) (told_done p n w v f b (g ∙ ap (can p n w) s ∙ sym h) j k)
