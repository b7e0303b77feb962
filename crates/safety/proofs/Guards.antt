-- What the guards in the definitions come to: every state keeps within its room, none of a sound plan is cut off, and what is tested before a section is freed.
use Rattle.std.proofs.Common.{◌≡◌, ℕ, zero, suc, ◌<◌, ◌≤◌, Bool, true, false, List, [], ◌∷◌, length, get_or, refl, ◌∙◌, arith}
use Rattle.std.proofs.lemmas.List.{get_or_past}
use Rattle.plan.specs.Plan.{pick, Plan, Positions, route, needed, Once}
use Rattle.soundness.specs.Sound.{Sound}
use Rattle.interlocking.specs.State.{State, Occupancy, behind_free, does, taken_back, fallen, all_fall, after_free, done, fitted, acts, at_rest}
use Rattle.interlocking.specs.declared.Request.{Request}
use Rattle.interlocking.specs.declared.Request.TheVariants.{Ask, Clear, Back, Free, Tick}
use Rattle.interlocking.specs.declared.Stage.{Stage}
use Rattle.interlocking.specs.declared.Stage.TheVariants.{Idle, Set, Shown, Used, Falling}
use Rattle.occupancy.specs.Notes.{notes}
use Rattle.model.specs.World.{World, occupied, trains_after, state_after, empty_station, after}
use Rattle.model.specs.declared.Event.{Event}
use Rattle.model.specs.declared.Event.TheVariants.{Asked, Turns, Goes, Draws, Reverses, Comes, Leaves}
use Rattle.safety.specs.Promise.{Sized, InRoom, ArraysInRoom, AlwaysInRoom, RoomEnough, FreeBefore, BehindSays, Agrees}
use Rattle.safety.specs.Safe.{Books, Unmarked, Sure, Safe}
use Rattle.safety.proofs.Tests.{untrue}
use Rattle.safety.proofs.Lists.{once_tail}
use Rattle.safety.proofs.Needs.{with_wants_out}
use Rattle.safety.proofs.Ask.{asked}
use Rattle.safety.proofs.Free.{behind_at}
use Rattle.safety.proofs.Fitted.{fitted_below, fitted_in_room, fitted_same}
use Rattle.safety.proofs.Steps.{always, done_sure, done_books, done_unmarked}

-- WITHIN THE ROOM
pub acts_in_room : (p : Plan) (h : State) (s : Occupancy) (t : Positions) (a : Request) → InRoom h → InRoom (acts p h s t a)
unfolding acts
acts_in_room p h s t a room = go (does p h s t a)
  where
    go : (b : Bool) → InRoom (pick b (fitted (done p h a)) h)
    go true = fitted_in_room (done p h a)
    go false = room

pub notes_in_room : (p : Plan) (h : State) (s : Occupancy) → InRoom h → InRoom (notes p h s)
unfolding notes
notes_in_room p h s room = record {
  lock = room.lock;
  passed = λ x l. let free = room.lock x l in let none = room.passed x l in grind arith;
  stage = λ r l. let idle = room.stage r l in grind arith;
  wanted = room.wanted;
}

step_in_room : (p : Plan) (n : ℕ) (w : World) (e : Event) → InRoom w.interlocking → InRoom (state_after p n w e)
unfolding state_after
step_in_room p n w (Asked a) room = acts_in_room p w.interlocking (occupied n w.trains) w.lies a room
step_in_room p n w (Turns q) room = room
step_in_room p n w (Goes i) room = notes_in_room p w.interlocking (occupied n (trains_after p w (Goes i))) room
step_in_room p n w (Draws i) room = notes_in_room p w.interlocking (occupied n (trains_after p w (Draws i))) room
step_in_room p n w (Reverses i) room = room
step_in_room p n w (Comes i up x) room = room
step_in_room p n w (Leaves i) room = room

rest_in_room : (t : Positions) → InRoom (empty_station t).interlocking
unfolding empty_station at_rest
rest_in_room t = record { lock = λ x l. refl; passed = λ x l. refl; stage = λ r l. refl; wanted = λ q l. grind arith }

pub always_in_room : AlwaysInRoom
unfolding after
always_in_room p n t [] = rest_in_room t
always_in_room p n t (h ∷ hs) = step_in_room p n (after p n t hs) h (always_in_room p n t hs)

pub arrays_in_room : ArraysInRoom
arrays_in_room locks passed stages wanted a b c d = record {
  lock = λ x l. get_or_past locks x 0 (omega arith);
  passed = λ x l. get_or_past passed x false (omega arith);
  stage = λ r l. get_or_past stages r Idle (omega arith);
  wanted = λ q l. get_or_past wanted q false (omega arith);
}

-- NOTHING CUT OFF
-- only a request for a route changes wants, and only of points that there is room for
taken_wanted : (m : ℕ) (h : State) (r : ℕ) (g : Stage) (q : ℕ) → (taken_back m h r g).wanted q ≡ h.wanted q
taken_wanted m h r g q = grind arith

fallen_wanted : (h : State) (r : ℕ) (g : Stage) (q : ℕ) → (fallen h r g).wanted q ≡ h.wanted q
fallen_wanted h r Idle q = refl
fallen_wanted h r Set q = refl
fallen_wanted h r Shown q = refl
fallen_wanted h r Used q = refl
fallen_wanted h r (Falling zero) q = refl
fallen_wanted h r (Falling (suc m)) q = refl

all_fall_wanted : (n : ℕ) (h : State) (q : ℕ) → (all_fall n h).wanted q ≡ h.wanted q
unfolding all_fall
all_fall_wanted zero h q = refl
all_fall_wanted (suc n) h q = fallen_wanted (all_fall n h) n ((all_fall n h).stage n) q ∙ all_fall_wanted n h q

done_wanted : (p : Plan) (h : State) (s : Occupancy) (t : Positions) (a : Request) (q : ℕ) → Sized p → Sound p → does p h s t a ≡ true → 32 ≤ q → (done p h a).wanted q ≡ h.wanted q
unfolding done after_free
done_wanted p h s t (Ask r) q sz snd d l =
    with_wants_out (route p r).needs h.wanted q
    (untrue (needed q (route p r).needs) (λ e. let known = (snd.routes_fit r (asked p h s t r d).there).known q e in let m = sz.points in omega arith))
done_wanted p h s t (Clear r) q sz snd d l = refl
done_wanted p h s t (Back r) q sz snd d l = taken_wanted p.time h r (h.stage r) q
done_wanted p h s t (Free x) q sz snd d l = refl
done_wanted p h s t Tick q sz snd d l = all_fall_wanted (length p.routes) h q

room_enough : RoomEnough
unfolding acts
room_enough p n t hs a sz snd l d = rw d (fitted_same p (done p w.interlocking a) s s w.lies sz snd sure.0 books unmarked right)
  where
    w : World
    w = after p n t hs

    s : Occupancy
    s = occupied n w.trains

    safe : Safe p n w
    safe = always p n t hs sz snd l

    sure : Sure p n (done p w.interlocking a) w.lies w.trains
    sure = done_sure p n w.interlocking s w.lies w.lies w.trains a snd (λ x e. e) (λ r e f. e) (safe.kept, safe.run) d

    books : Books p (done p w.interlocking a) s
    books = done_books p w.interlocking s w.lies a safe.books d

    right : (q : ℕ) → 32 ≤ q → (done p w.interlocking a).wanted q ≡ false
    right q l = done_wanted p w.interlocking s w.lies a q sz snd d l ∙ (always_in_room p n t hs).wanted q l

    unmarked : Unmarked p (done p w.interlocking a)
    unmarked = done_unmarked p w.interlocking s s w.lies w.lies a safe.kept safe.unmarked d

-- BEFORE A SECTION IS FREED
free_behind : (h : State) (r z : ℕ) (xs : List ℕ) (j : ℕ) → Once xs → j < length xs → get_or xs j 0 ≡ z → FreeBefore h r xs j → behind_free h (suc r) z xs ≡ true
unfolding behind_free
free_behind h r z [] j o l e f = refl
free_behind h r z (y ∷ ys) zero o l e f = grind arith
free_behind h r z (y ∷ ys) (suc j) o l e f =
    let here = f 0 (omega arith) in
    let ih = free_behind h r z ys j (once_tail o) (omega arith) e (λ k less. f (suc k) (omega arith)) in
    grind arith

behind_says : BehindSays
behind_says h r x path j once inside here lock =
    (λ b k less l. behind_at h r x path k j once (rw lock at b) inside here less l, λ f. rw lock (free_behind h r x path j once inside here f))

pub agrees : Agrees
agrees = record { beyond = fitted_below; room = room_enough; behind = behind_says }
