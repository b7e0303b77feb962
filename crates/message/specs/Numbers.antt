-- A message in five numbers: 0 for a request, 1 for an answer, 2 for an event; its kind; what it is about; the section where a train comes in; whether it was done.
-- What a message has no use for is 0. Assumes nothing: these are definitions.
use Rattle.std.specs.Prelude.{ℕ, zero, suc, Bool, true, false, ◌||◌, List, [], ◌∷◌, Some, None, Option, ◌==◌, nat_le}
use Rattle.plan.specs.Plan.{pick}
use Rattle.interlocking.specs.Says.{kind_of, request_of, which_of}
use Rattle.model.specs.declared.Event.{Event}
use Rattle.model.specs.declared.Event.TheVariants.{Asked, Turns, Goes, Draws, Reverses, Comes, Leaves}
use Rattle.message.specs.declared.Message.{Message}
use Rattle.message.specs.declared.Message.TheVariants.{Request as RequestTold, Answer as AnswerTold, Event as EventTold}

abbrev pub bit : Bool → ℕ
bit b = pick b 1 0

-- the kinds of requests, and then those of the other events
abbrev pub kind_in : Event → ℕ
kind_in (Asked a) = kind_of a
kind_in (Turns q) = 5
kind_in (Goes i) = 6
kind_in (Draws i) = 7
kind_in (Reverses i) = 8
kind_in (Comes i up x) = pick up 9 10
kind_in (Leaves i) = 11

abbrev pub first_of : Event → ℕ
first_of (Asked a) = which_of a
first_of (Turns q) = q
first_of (Goes i) = i
first_of (Draws i) = i
first_of (Reverses i) = i
first_of (Comes i up x) = i
first_of (Leaves i) = i

abbrev pub second_of : Event → ℕ
second_of (Asked a) = 0
second_of (Turns q) = 0
second_of (Goes i) = 0
second_of (Draws i) = 0
second_of (Reverses i) = 0
second_of (Comes i up x) = x
second_of (Leaves i) = 0

abbrev pub message_numbers : Message → List ℕ
message_numbers (RequestTold a) = 0 ∷ kind_of a ∷ which_of a ∷ 0 ∷ 0 ∷ []
message_numbers (AnswerTold a) = 1 ∷ kind_of a.request ∷ which_of a.request ∷ 0 ∷ bit a.done ∷ []
message_numbers (EventTold e done) = 2 ∷ kind_in e ∷ first_of e ∷ second_of e ∷ bit done ∷ []

-- and back, from numbers that a message can have

abbrev pub event_in : ℕ → ℕ → ℕ → Event
event_in kind first second =
    pick (kind == 5) (Turns first)
    (pick (kind == 6) (Goes first)
    (pick (kind == 7) (Draws first)
    (pick (kind == 8) (Reverses first)
    (pick (kind == 9) (Comes first true second)
    (pick (kind == 10) (Comes first false second)
    (pick (kind == 11) (Leaves first) (Asked (request_of kind first))))))))

abbrev pub message_in : ℕ → ℕ → ℕ → ℕ → ℕ → Message
message_in zero kind first second done = RequestTold (request_of kind first)
message_in (suc zero) kind first second done = AnswerTold (record { request = request_of kind first; done = (done == 1) })
message_in (suc (suc n)) kind first second done = EventTold (event_in kind first second) (done == 1)

-- the largest number that can stand at a place of a message of this sort and kind; where there is none, any can
abbrev pub last_at : ℕ → ℕ → ℕ → Option ℕ
last_at zero sort kind = Some 2
last_at (suc zero) sort kind = pick (sort == 2) (Some 11) (Some 4)
last_at (suc (suc zero)) sort kind = pick (kind == 4) (Some 0) None
last_at (suc (suc (suc zero))) sort kind = pick (kind == 9 || kind == 10) None (Some 0)
last_at (suc (suc (suc (suc n)))) sort kind = pick (sort == 0) (Some 0) (Some 1)

abbrev pub can_be : Option ℕ → ℕ → Bool
can_be None n = true
can_be (Some most) n = nat_le n most
