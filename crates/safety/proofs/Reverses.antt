-- A train that turns round keeps what is safe.
use Rattle.std.proofs.Common.{◌≡◌, ℕ, ◌<◌, true, not, ◌∷◌, sym, refl, ◌∙◌, arith}
use mathlib.Core.Path.{fun_ext}
use Rattle.plan.specs.Plan.{Plan, Positions, among, last_of, Once}
use Rattle.interlocking.specs.State.{State}
use Rattle.model.specs.World.{next, Train, World, occupied, reversed, with_train, can, state_after, lies_after, trains_after}
use Rattle.model.specs.declared.Event.TheVariants.{Reverses}
use Rattle.safety.specs.Promise.{Hangs}
use Rattle.safety.specs.Safe.{Ahead, at_signal, Run, Sure, Safe}
use Rattle.safety.proofs.Lists.{among_round, once_round, front_round, front_of}
use Rattle.safety.proofs.Occupied.{each_train, occupied_same}
use Rattle.safety.proofs.Ways.{hangs_round}

module _ (p : Plan) (n : ℕ) (ts : ℕ → Train) (i : ℕ) where
  abbrev us : ℕ → Train
  us = with_train ts i (not (ts i).up) (reversed (ts i).body)

  -- the same sections are occupied, train by train and all together
  sames : (x j : ℕ) → among x (us j).body ≡ among x (ts j).body
  sames x = each_train ts i (not (ts i).up) (reversed (ts i).body) (λ j tr. among x tr.body ≡ among x (ts j).body) (among_round x (ts i).body) (λ j ne. refl)

  same : occupied n us ≡ occupied n ts
  same = fun_ext (λ x. occupied_same n us ts x (sames x))

  -- what it takes: a signal before what was its end
  pub reverses_run : (h : State) (t : Positions) → p.signal (not (ts i).up) (last_of 0 (ts i).body) ≡ true → Run p n h t ts → Run p n h t us
  reverses_run h t sign run = record {
    inside = λ j x less a. run.inside j x less (sym (sames x j) ∙ a);
    once = each_train ts i (not (ts i).up) (reversed (ts i).body) (λ j tr. j < n → Once tr.body) (λ less. once_round (ts i).body (run.once i less)) (λ j ne. run.once j);
    apart = λ j k x lj lk ne a b. run.apart j k x lj lk ne (sym (sames x j) ∙ a) (sym (sames x k) ∙ b);
    hangs = each_train ts i (not (ts i).up) (reversed (ts i).body) (λ j tr. j < n → Hangs p t tr.up tr.body)
        (λ less. hangs_round p t (ts i).up (ts i).body (run.hangs i less)) (λ j ne. run.hangs j);
    ahead = λ j x xs. each_train ts i (not (ts i).up) (reversed (ts i).body) (λ j tr. j < n → tr.body ≡ x ∷ xs → Ahead p h (occupied n us) t tr.up x)
        (λ less e. at_signal (let f = front_round 0 (ts i).body in let g = front_of (reversed (ts i).body) x xs e in grind arith))
        (λ k ne less e. rw same (run.ahead k x xs less e)) j;
  }

pub reverses_sure : (p : Plan) (n : ℕ) (h : State) (t : Positions) (ts : ℕ → Train) (i : ℕ) → p.signal (not (ts i).up) (last_of 0 (ts i).body) ≡ true → Sure p n h t ts →
    Sure p n h t (with_train ts i (not (ts i).up) (reversed (ts i).body))
reverses_sure p n h t ts i sign k = (rw (same p n ts i) k.0, reverses_run p n ts i h t sign k.1)

pub reverses_keeps : (p : Plan) (n : ℕ) (w : World) (i : ℕ) → Safe p n w → can p n w (Reverses i) ≡ true → Safe p n (next p n w (Reverses i))
unfolding state_after lies_after trains_after can
reverses_keeps p n w i safe ok = record {
  kept = rw (same p n w.trains i) safe.kept;
  run = reverses_run p n w.trains i w.interlocking w.lies (grind arith) safe.run;
  books = rw (same p n w.trains i) safe.books;
  unmarked = safe.unmarked;
}
