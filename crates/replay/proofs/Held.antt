-- The time that is left has room in the memory, in every world that a row of events leads to.
use Rattle.std.proofs.Common.{◌≡◌, ℕ, ◌≤◌, List, [], ◌∷◌, length, sym, subst, lit<}
use Rattle.plan.specs.Plan.{Plan, Positions}
use Rattle.interlocking.specs.State.{at_rest}
use Rattle.interlocking.specs.Says.{state_of}
use Rattle.interlocking.specs.declared.Interlocking.{Interlocking}
use Rattle.memory.specs.Memory.{state_in, Written}
use Rattle.memory.proofs.Numbered.{Fits, Whole, stored_from}
use Rattle.memory.proofs.Room.{fit_acts}
use Rattle.occupancy.proofs.Lasting.{fit_notes}
use Rattle.model.specs.World.{World, after, empty_station, state_after}
use Rattle.model.specs.declared.Event.{Event}
use Rattle.model.specs.declared.Event.TheVariants.{Asked, Turns, Goes, Draws, Reverses, Comes, Leaves}

fit_next : (p : Plan) (w : World) (e : Event) → p.time ≤ 1000 → Fits w.interlocking.stage → Fits (state_after p 16 w e).stage
unfolding state_after
fit_next p w (Asked a) l f = fit_acts p w.interlocking _ w.lies a l f
fit_next p w (Turns q) l f = f
fit_next p w (Goes i) l f = fit_notes p w.interlocking _ f
fit_next p w (Draws i) l f = fit_notes p w.interlocking _ f
fit_next p w (Reverses i) l f = f
fit_next p w (Comes i up x) l f = f
fit_next p w (Leaves i) l f = f

fit_after : (p : Plan) (t : Positions) (row : List Event) → p.time ≤ 1000 → Fits (after p 16 t row).interlocking.stage
unfolding after empty_station at_rest
fit_after p t [] l = λ k. lit< tt
fit_after p t (e ∷ row) l = fit_next p (after p 16 t row) e l (fit_after p t row l)

pub memory_says : (p : Plan) (t : Positions) (row : List Event) (w : World) (h : Interlocking) (m m₁ : List ℕ) → p.time ≤ 1000 → length m ≡ 224 → Whole h → state_of h ≡ w.interlocking →
    Written (state_of h) m m₁ → w ≡ after p 16 t row → state_in m₁ ≡ w.interlocking
memory_says p t row w h m m₁ l n o e s a =
    let F : World → Type 0 = λ x. Fits x.interlocking.stage in
    (stored_from w.interlocking h m m₁ n o (subst F (sym a) (fit_after p t row l)) e s).state
