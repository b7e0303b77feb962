-- The entries of a journal, and its numbers. Assumes nothing: these are definitions.
use Rattle.std.specs.Prelude.{ℕ, Bool, List, [], ◌∷◌, ◌++◌, map}
use Rattle.std.specs.List.{flat_map}
use Rattle.message.specs.Numbers.{bit, message_numbers}
use Rattle.message.specs.declared.Message.TheVariants.{Event as EventTold}
use Rattle.model.specs.declared.Event.{Event}
use Rattle.journal.specs.declared.Entry.{Entry}

abbrev pub entry_of : Event → Bool → Entry
entry_of e b = record { event = e; done = b }

-- the events, as many as have an answer, each with its own
unfoldable pub paired : List Event → List Bool → List Entry
paired [] bs = []
paired (e ∷ es) [] = []
paired (e ∷ es) (b ∷ bs) = entry_of e b ∷ paired es bs

abbrev pub events_of : List Entry → List Event
events_of es = map (λ (e : Entry). e.event) es

abbrev pub answers_of : List Entry → List Bool
answers_of es = map (λ (e : Entry). e.done) es

abbrev pub entry_numbers : Entry → List ℕ
entry_numbers e = message_numbers (EventTold e.event e.done)

-- how the points lay, 1 for left, and then five numbers for each entry
unfoldable pub journal_numbers : List Bool → List Entry → List ℕ
journal_numbers lies es = map bit lies ++ flat_map entry_numbers es
