-- The signals by the promise of shown routes, and the desk by induction over those that wait.
use mathlib.Core.Path.{◌≡◌, refl, ap}
use mathlib.Core.Bool.{true}
use mathlib.Core.List.{List, [], ◌∷◌}
use Prim.Native.Nat.{ℕ, ◌<◌}
use lib.ListN.{length}
use Rattle.plan.specs.Plan.{Plan, Positions}
use Rattle.interlocking.specs.State.{is_open}
use Rattle.model.specs.World.{World, occupied, after, Lawful, can, state_after, lies_after, trains_after}
use Rattle.model.specs.declared.Event.{Event}
use Rattle.model.specs.declared.Event.TheVariants.{Asked}
use Rattle.safety.specs.Promise.{ShownWhen}
use Rattle.safety.proofs.Theorem.{theorem}
use Rattle.field.specs.Field.{PathHeld}
use Rattle.field.proofs.Shown.{exactly}
use Rattle.desk.specs.Desk.{served_all}
use Rattle.desk.specs.declared.Ticketed.{Ticketed}
use Rattle.operation.specs.Runs.{SignalsAlwaysSafe, asked_after, ServedRun, DeskIsARun}

held : (p : Plan) (n : ℕ) (w : World) → ShownWhen p n w → (r : ℕ) → r < length p.routes → is_open (w.interlocking.stage r) ≡ true →
    PathHeld p w.interlocking (occupied n w.trains) w.lies r
held p n w shown r less may =
    let s = shown r less may in record { locked = λ x e. (s.0 x e).0; vacant = λ x e. (s.0 x e).1; lies = s.1 }

pub signals_always_safe : SignalsAlwaysSafe
signals_always_safe p n t hs sz snd l =
    let w : World = after p n t hs in
    let s = (theorem p n t hs sz snd l).shown_when in
    record {
      proceed = λ up x e. let c = (exactly p w.interlocking up x).0 e in (c.0, (c.1, held p n w s c.0 c.1.there (ap is_open c.1.shown)));
      passable = held p n w s;
    }

served_run : (p : Plan) (n : ℕ) (t : Positions) (hs : List Event) (ws : List Ticketed) → ServedRun p n t hs ws
unfolding asked_after served_all after Lawful can state_after lies_after trains_after
served_run p n t hs [] = record { lawful = λ l. l; state = refl; lies = refl; trains = refl }
served_run p n t hs (w ∷ ws) =
    let ih = served_run p n t (Asked w.request ∷ hs) ws in
    record { lawful = λ l. ih.lawful (refl, l); state = ih.state; lies = ih.lies; trains = ih.trains }

pub desk_is_a_run : DeskIsARun
desk_is_a_run = record {
  run = served_run;
  promises = λ p n t hs ws sz snd l. theorem p n t (asked_after hs ws) sz snd ((served_run p n t hs ws).lawful l);
}
