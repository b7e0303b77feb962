-- A train that leaves keeps what is safe.
use Rattle.std.proofs.Common.{◌≡◌, ℕ, Bool, List, [], arith}
use Rattle.plan.specs.Plan.{Plan, Positions, none}
use Rattle.interlocking.specs.State.{State}
use Rattle.model.specs.World.{next, Train, World, occupied, with_train, state_after, lies_after, trains_after}
use Rattle.model.specs.declared.Event.TheVariants.{Leaves}
use Rattle.safety.specs.Promise.{nowhere}
use Rattle.safety.specs.Safe.{Sure, Safe}
use Rattle.safety.proofs.Tests.{clash}
use Rattle.safety.proofs.Lists.{among_none}
use Rattle.safety.proofs.Shorter.{Shorter, kept_less, books_less, fewer_occupied, shorter_run}

leaves_shorter : (p : Plan) (t : Positions) (up : Bool) (a : List ℕ) → Shorter p t up a []
leaves_shorter p t up a = record {
  fewer = λ x e. clash _ e (among_none x);
  once = none;
  hangs = nowhere;
  front = λ x xs e. let z : ◌≡◌ {A = ℕ} 0 1 = cc in absurd (omega arith);
}

-- wherever it stands
pub leaves_sure : (p : Plan) (n : ℕ) (h : State) (t : Positions) (ts : ℕ → Train) (i : ℕ) → Sure p n h t ts → Sure p n h t (with_train ts i (ts i).up [])
leaves_sure p n h t ts i k =
    let c = leaves_shorter p t (ts i).up (ts i).body in
    (kept_less p h (occupied n ts) (occupied n (with_train ts i (ts i).up [])) t (fewer_occupied n ts i [] c.fewer) k.0, shorter_run p n h t ts i [] c k.1)

pub leaves_keeps : (p : Plan) (n : ℕ) (w : World) (i : ℕ) → Safe p n w → Safe p n (next p n w (Leaves i))
unfolding state_after lies_after trains_after
leaves_keeps p n w i safe =
    let us : ℕ → Train = with_train w.trains i (w.trains i).up [] in
    let c = leaves_shorter p w.lies (w.trains i).up (w.trains i).body in
    let v = leaves_sure p n w.interlocking w.lies w.trains i (safe.kept, safe.run) in
    record {
      kept = v.0;
      run = v.1;
      books = books_less p w.interlocking (occupied n w.trains) (occupied n us) (λ x r l e. fewer_occupied n w.trains i [] c.fewer x e) safe.books;
      unmarked = safe.unmarked;
    }
