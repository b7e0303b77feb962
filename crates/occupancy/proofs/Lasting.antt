-- What is noted, from memory to memory.
use Rattle.std.proofs.Common.{◌≡◌, ℕ, ◌<◌, Bool, ltb, List, length, get_or, ap, ◌∙◌, lit<}
use Rattle.plan.specs.Plan.{Plan, marks}
use Rattle.interlocking.specs.State.{State, Occupancy}
use Rattle.interlocking.specs.Says.{state_of}
use Rattle.interlocking.specs.declared.Interlocking.{Interlocking}
use Rattle.interlocking.specs.declared.Stage.{Stage}
use Rattle.interlocking.specs.declared.Stage.TheVariants.{Idle, Set, Shown, Used, Falling}
use Rattle.memory.specs.Memory.{state_in, Written}
use Rattle.memory.specs.Entry.{Stored}
use Rattle.memory.proofs.Numbered.{size, Fits, Whole, stored_from}
use Rattle.memory.proofs.Room.{fit_pick, fit_in}
use Rattle.occupancy.specs.Notes.{entered, notes}

fit_entered : (b : Bool) (g : Stage) → size g < 65536 → size (entered b g) < 65536
fit_entered b Idle l = l
fit_entered b Set l = l
fit_entered b Shown l = fit_pick b Used Shown (lit< tt) l
fit_entered b Used l = l
fit_entered b (Falling n) l = fit_pick b Used (Falling n) (lit< tt) l

pub fit_notes : (p : Plan) (h : State) (s : Occupancy) → Fits h.stage → Fits (notes p h s).stage
unfolding notes
fit_notes p h s f k = fit_pick (ltb k (length p.routes)) _ (h.stage k) (fit_entered _ (h.stage k) (f k)) (f k)

pub noted_stored : (p : Plan) (s : Occupancy) (m m₁ : List ℕ) (h left : Interlocking) (sb : List Bool) → length m ≡ 224 → ((i : ℕ) → get_or m i 0 < 65536) →
    Whole left → state_of h ≡ state_in m → marks sb ≡ s → state_of left ≡ notes p (state_of h) (marks sb) → Written (state_of left) m m₁ →
    Stored (notes p (state_in m) s) m m₁
noted_stored p s m m₁ h left sb l f o eh es e w =
    let d : state_of left ≡ notes p (state_in m) s = e ∙ ap (λ (k : State). notes p k (marks sb)) eh ∙ ap (notes p (state_in m)) es in
    stored_from (notes p (state_in m) s) left m m₁ l o (fit_notes p (state_in m) s (fit_in m f)) d w
