-- The signals, and the desk, over runs: statements, proved in proofs/.
use Rattle.std.specs.Prelude.{◌≡◌, List, [], ◌∷◌, ℕ}
use Rattle.plan.specs.Plan.{Plan, Positions}
use Rattle.soundness.specs.Sound.{Sound}
use Rattle.model.specs.World.{occupied, after, Lawful}
use Rattle.model.specs.declared.Event.{Event}
use Rattle.model.specs.declared.Event.TheVariants.{Asked}
use Rattle.safety.specs.Promise.{Sized, Promises}
use Rattle.field.specs.Field.{SignalsSafe}
use Rattle.desk.specs.Desk.{served_all}
use Rattle.desk.specs.declared.Ticketed.{Ticketed}

abbrev pub SignalsAlwaysSafe : Type 0
SignalsAlwaysSafe =
    (p : Plan) (n : ℕ) (t : Positions) (hs : List Event) → Sized p → Sound p → Lawful p n t hs →
    SignalsSafe p (after p n t hs).interlocking (occupied n (after p n t hs).trains) (after p n t hs).lies

-- those that wait, oldest first, each as an event behind the row before it, the latest first
unfoldable pub asked_after : List Event → List Ticketed → List Event
asked_after hs [] = hs
asked_after hs (w ∷ ws) = asked_after (Asked w.request ∷ hs) ws

-- what serving them all leads to
pub record ServedRun (p : Plan) (n : ℕ) (t : Positions) (hs : List Event) (ws : List Ticketed) : Type 0 where
  pub lawful : Lawful p n t hs → Lawful p n t (asked_after hs ws)
  pub state : (after p n t (asked_after hs ws)).interlocking ≡ served_all p (occupied n (after p n t hs).trains) (after p n t hs).lies ws (after p n t hs).interlocking
  pub lies : (after p n t (asked_after hs ws)).lies ≡ (after p n t hs).lies
  pub trains : (after p n t (asked_after hs ws)).trains ≡ (after p n t hs).trains

pub record DeskIsARun : Type 0 where
  pub run : (p : Plan) (n : ℕ) (t : Positions) (hs : List Event) (ws : List Ticketed) → ServedRun p n t hs ws
  pub promises : (p : Plan) (n : ℕ) (t : Positions) (hs : List Event) (ws : List Ticketed) → Sized p → Sound p → Lawful p n t hs → Promises p n t (asked_after hs ws)
