-- A train that draws its end up keeps what is safe.
use Rattle.std.proofs.Common.{◌≡◌, ℕ, ◌<◌, Bool, true, List, arith}
use Rattle.plan.specs.Plan.{Plan, Positions, Once}
use Rattle.interlocking.specs.State.{State, Occupancy}
use Rattle.occupancy.specs.Notes.{notes}
use Rattle.model.specs.World.{next, Train, World, occupied, without_last, with_train, can, state_after, lies_after, trains_after}
use Rattle.model.specs.declared.Event.TheVariants.{Draws}
use Rattle.safety.specs.Promise.{Hangs}
use Rattle.safety.specs.Safe.{Sure, Safe}
use Rattle.safety.proofs.Lists.{among_without_last, once_without_last, front_without_last}
use Rattle.safety.proofs.Ways.{hangs_without_last}
use Rattle.safety.proofs.Notes.{notes_kept, notes_run, notes_books, notes_unmarked}
use Rattle.safety.proofs.Shorter.{Shorter, kept_less, fewer_occupied, shorter_run}

draws_shorter : (p : Plan) (t : Positions) (up : Bool) (a : List ℕ) → Once a → Hangs p t up a → Shorter p t up a (without_last a)
draws_shorter p t up a o g = record {
  fewer = λ x e. among_without_last x a e;
  once = once_without_last a o;
  hangs = hangs_without_last p t up a g;
  front = λ x xs e. front_without_last x xs a e;
}

-- of the trains in a shorter train's stead, whatever is noted (o)
pub draws_sure : (p : Plan) (n : ℕ) (h : State) (o : Occupancy) (t : Positions) (ts : ℕ → Train) (i : ℕ) → i < n → Sure p n h t ts →
    let us : ℕ → Train = with_train ts i (ts i).up (without_last (ts i).body) in Sure p n (notes p h o) t us
draws_sure p n h o t ts i l k =
    let b : List ℕ = without_last (ts i).body in
    let us : ℕ → Train = with_train ts i (ts i).up b in
    let c = draws_shorter p t (ts i).up (ts i).body (k.1.once i l) (k.1.hangs i l) in (
      notes_kept p h (occupied n us) o t (kept_less p h (occupied n ts) (occupied n us) t (fewer_occupied n ts i b c.fewer) k.0),
      notes_run p n h o t us (shorter_run p n h t ts i b c k.1),
    )

draws_can : (p : Plan) (n : ℕ) (w : World) (i : ℕ) → can p n w (Draws i) ≡ true → i < n
unfolding can
draws_can p n w i ok = grind arith

pub draws_keeps : (p : Plan) (n : ℕ) (w : World) (i : ℕ) → Safe p n w → can p n w (Draws i) ≡ true → Safe p n (next p n w (Draws i))
unfolding state_after lies_after trains_after notes
draws_keeps p n w i safe ok =
    let us : ℕ → Train = with_train w.trains i (w.trains i).up (without_last (w.trains i).body) in
    let v = draws_sure p n w.interlocking (occupied n us) w.lies w.trains i (draws_can p n w i ok) (safe.kept, safe.run) in
    record {
      kept = v.0;
      run = v.1;
      books = notes_books p w.interlocking (occupied n w.trains) (occupied n us) safe.books;
      unmarked = notes_unmarked p w.interlocking (occupied n us) safe.unmarked (λ r l g x a. (v.0.waits r l g x a).1);
    }
