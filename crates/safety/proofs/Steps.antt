-- What is safe holds at the start, and each step keeps it.
use Rattle.std.proofs.Common.{◌≡◌, ℕ, zero, suc, Bool, true, false, List, [], ◌∷◌, refl, arith}
use Rattle.plan.specs.Plan.{pick, Plan, Positions, route, met, among, none}
use Rattle.soundness.specs.Sound.{Sound}
use Rattle.interlocking.specs.State.{State, Occupancy, does, done, fitted, acts, at_rest}
use Rattle.interlocking.specs.declared.Request.{Request}
use Rattle.interlocking.specs.declared.Request.TheVariants.{Ask, Clear, Back, Free, Tick}
use Rattle.model.specs.World.{Train, occupied, trains_after, lies_after, state_after, empty_station, after, Lawful}
use Rattle.model.specs.declared.Event.{Event}
use Rattle.model.specs.declared.Event.TheVariants.{Asked, Turns, Goes, Draws, Reverses, Comes, Leaves}
use Rattle.safety.specs.Promise.{Sized, nowhere}
use Rattle.safety.specs.Safe.{Kept, Books, Unmarked, Safe, Covers, Sure, Keeps}
use Rattle.safety.proofs.Ask.{asked, ask_sure, ask_books, ask_unmarked}
use Rattle.safety.proofs.Clear.{clear_sure, clear_books, clear_unmarked}
use Rattle.safety.proofs.Back.{back_sure, back_books, back_unmarked}
use Rattle.safety.proofs.Free.{free_sure, free_books, free_unmarked}
use Rattle.safety.proofs.Tick.{tick_sure, tick_books, tick_unmarked}
use Rattle.safety.proofs.Fitted.{fitted_sure, fitted_books, fitted_unmarked}
use Rattle.safety.proofs.Turns.{turns_keeps}
use Rattle.safety.proofs.Goes.{goes_keeps}
use Rattle.safety.proofs.Draws.{draws_keeps}
use Rattle.safety.proofs.Reverses.{reverses_keeps}
use Rattle.safety.proofs.Comes.{comes_keeps}
use Rattle.safety.proofs.Leaves.{leaves_keeps}

-- THE START
vacant_at_first : (n : ℕ) (t : Positions) (x : ℕ) → occupied n (empty_station t).trains x ≡ false
unfolding empty_station occupied among
vacant_at_first zero t x = refl
vacant_at_first (suc n) t x = vacant_at_first n t x

pub start_safe : (p : Plan) (n : ℕ) (t : Positions) → Safe p n (empty_station t)
unfolding empty_station at_rest among
start_safe p n t = record {
  kept = record {
    still = λ q less s. let none = vacant_at_first n t (p.place q) in grind arith;
    owner = λ x r e. absurd (omega arith);
    waits = λ r less a. absurd (grind arith);
    wants = λ r less a. grind arith;
    lies = λ r less a. grind arith;
  };
  run = record {
    inside = λ i x less a. grind arith;
    once = λ i less. none;
    apart = λ i j x li lj ne a b. grind arith;
    hangs = λ i less. nowhere;
    ahead = λ i x xs less e. absurd (grind arith);
  };
  books = record {
    named = λ r e. grind arith;
    soon = λ r m e. absurd (grind arith);
    marked = λ x r e c. absurd (omega arith);
  };
  unmarked = record { clean = λ x e. refl; fresh = λ r l w x a. refl };
}

-- EACH STEP
-- what is asked and done, over what is reported: all that is occupied is reported so (o), and points reported to lie as a route needs (u) do, if they are wanted so
pub done_sure : (p : Plan) (n : ℕ) (h : State) (o : Occupancy) (t u : Positions) (ts : ℕ → Train) (a : Request) → Sound p → Covers o (occupied n ts) →
    ((r : ℕ) → met u (route p r).needs ≡ true → met h.wanted (route p r).needs ≡ true → met t (route p r).needs ≡ true) → Sure p n h t ts →
    does p h o u a ≡ true → Sure p n (done p h a) t ts
done_sure p n h o t u ts (Ask r) snd covers real k d = ask_sure p n h o t u ts r snd covers k d
done_sure p n h o t u ts (Clear r) snd covers real k d = clear_sure p n h o t u ts r (real r) k d
done_sure p n h o t u ts (Back r) snd covers real k d = back_sure p n h o t u ts r covers k d
done_sure p n h o t u ts (Free x) snd covers real k d = free_sure p n h o t u ts x snd covers k d
done_sure p n h o t u ts Tick snd covers real k d = tick_sure p n h t ts k

pub done_books : (p : Plan) (h : State) (o : Occupancy) (u : Positions) (a : Request) → Books p h o → does p h o u a ≡ true → Books p (done p h a) o
unfolding done
done_books p h o u (Ask r) b d = ask_books p h o r (route p r).path (route p r).needs (asked p h o u r d) b
done_books p h o u (Clear r) b d = clear_books p h o u r b d
done_books p h o u (Back r) b d = back_books p h o r b
done_books p h o u (Free x) b d = free_books p h o x b
done_books p h o u Tick b d = tick_books p h o b

pub done_unmarked : (p : Plan) (h : State) (s o : Occupancy) (t u : Positions) (a : Request) → Kept p h s t → Unmarked p h → does p h o u a ≡ true → Unmarked p (done p h a)
unfolding done
done_unmarked p h s o t u (Ask r) k b d = ask_unmarked p h o r (route p r).path (route p r).needs (λ x. refl) (asked p h o u r d) b
done_unmarked p h s o t u (Clear r) k b d = clear_unmarked p h o u r b d
done_unmarked p h s o t u (Back r) k b d = back_unmarked p h s o t u r k b d
done_unmarked p h s o t u (Free x) k b d = free_unmarked p h x b
done_unmarked p h s o t u Tick k b d = tick_unmarked p h s t k b

-- what holds of a state, and of what is done where it is granted, holds after a request
acted : (p : Plan) (h : State) (o : Occupancy) (u : Positions) (a : Request) (P : State → Type 0) → P h → (does p h o u a ≡ true → P (fitted (done p h a))) → P (acts p h o u a)
unfolding acts
acted p h o u a P old new = go (does p h o u a) refl
  where
    go : (b : Bool) → does p h o u a ≡ b → P (pick b (fitted (done p h a)) h)
    go true d = new d
    go false d = old

pub act_sure : (p : Plan) (n : ℕ) (h : State) (o : Occupancy) (t u : Positions) (ts : ℕ → Train) (a : Request) → Sized p → Sound p → Covers o (occupied n ts) →
    ((r : ℕ) → met u (route p r).needs ≡ true → met h.wanted (route p r).needs ≡ true → met t (route p r).needs ≡ true) → Sure p n h t ts → Sure p n (acts p h o u a) t ts
act_sure p n h o t u ts a sz snd covers real k =
    acted p h o u a (λ g. Sure p n g t ts) k (λ d. fitted_sure p n (done p h a) t ts sz snd (done_sure p n h o t u ts a snd covers real k d))

pub act_books : (p : Plan) (h : State) (o : Occupancy) (u : Positions) (a : Request) → Books p h o → Books p (acts p h o u a) o
act_books p h o u a b = acted p h o u a (λ g. Books p g o) b (λ d. fitted_books p (done p h a) o (done_books p h o u a b d))

pub act_unmarked : (p : Plan) (h : State) (s o : Occupancy) (t u : Positions) (a : Request) → Kept p h s t → Unmarked p h → Unmarked p (acts p h o u a)
act_unmarked p h s o t u a k b = acted p h o u a (λ g. Unmarked p g) b (λ d. fitted_unmarked p (done p h a) (done_unmarked p h s o t u a k b d))

pub keeps : Keeps
unfolding state_after lies_after trains_after
keeps p n w (Asked a) sz snd safe ok =
    let s : Occupancy = occupied n w.trains in
    let v = act_sure p n w.interlocking s w.lies w.lies w.trains a sz snd (λ x e. e) (λ r e f. e) (safe.kept, safe.run) in
    record {
      kept = v.0;
      run = v.1;
      books = act_books p w.interlocking s w.lies a safe.books;
      unmarked = act_unmarked p w.interlocking s s w.lies w.lies a safe.kept safe.unmarked;
    }
keeps p n w (Turns q) sz snd safe ok = turns_keeps p n w q snd safe
keeps p n w (Goes i) sz snd safe ok = goes_keeps p n w i snd safe ok
keeps p n w (Draws i) sz snd safe ok = draws_keeps p n w i safe ok
keeps p n w (Reverses i) sz snd safe ok = reverses_keeps p n w i safe ok
keeps p n w (Comes i up x) sz snd safe ok = comes_keeps p n w i up x snd safe ok
keeps p n w (Leaves i) sz snd safe ok = leaves_keeps p n w i safe

-- so it always holds
pub always : (p : Plan) (n : ℕ) (t : Positions) (hs : List Event) → Sized p → Sound p → Lawful p n t hs → Safe p n (after p n t hs)
unfolding after Lawful
always p n t [] sz snd l = start_safe p n t
always p n t (h ∷ hs) sz snd l = keeps p n (after p n t hs) h sz snd (always p n t hs sz snd l.1) l.0
