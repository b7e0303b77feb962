-- What numbers are read as, and where they are refused. Assumes nothing: these are definitions.
use Rattle.std.specs.Prelude.{◌≡◌, ℕ, suc, ◌<◌, true, false, List, length, take, Ok, Result, MatchResult, slice_index}
use Rattle.message.specs.Numbers.{can_be, last_at, message_numbers}
use Rattle.message.specs.declared.Message.{Message}
use Rattle.message.specs.declared.WrongAt.{WrongAt}

-- the first so many are those of a message
abbrev pub Begins : List ℕ → ℕ → Type 0
Begins ns k = (m : Message) × (take k ns ≡ take k (message_numbers m))

-- this is the first place that no message can have so; a list that is too short is wrong at its end, one that is too long at the sixth number
pub record FirstWrong (ns : List ℕ) (place : ℕ) : Type 0 where
  pub before : Begins ns place
  pub here : Begins ns (suc place) → ⊥

-- the message that has these numbers, or the first wrong place
abbrev pub Reads : List ℕ → Result Message WrongAt → Type 0
Reads ns r = MatchResult r (λ m. ns ≡ message_numbers m) (λ w. FirstWrong ns w.place)

-- so read, and whatever message has the numbers is it
pub record IsRead (ns : List ℕ) (r : Result Message WrongAt) : Type 0 where
  pub reads : Reads ns r
  pub every : (m : Message) → ns ≡ message_numbers m → r ≡ Ok m

-- the number at a place, one that can stand there
pub record Taken (ns : List ℕ) (place sort kind n : ℕ) : Type 0 where
  pub there : place < length ns
  pub is : n ≡ slice_index ns place
  pub can : can_be (last_at place sort kind) n ≡ true

-- none stands there, or one that can't
pub record Missing (ns : List ℕ) (place sort kind : ℕ) (wrong : WrongAt) : Type 0 where
  pub place_is : wrong.place ≡ place
  pub cannot : place < length ns → can_be (last_at place sort kind) (slice_index ns place) ≡ false

-- no two messages have the same numbers, and whatever reads numbers so reads back what was written
pub record ReadBack : Type 0 where
  pub apart : (m n : Message) → message_numbers m ≡ message_numbers n → m ≡ n
  pub same : (m : Message) (r : Result Message WrongAt) → Reads (message_numbers m) r → r ≡ Ok m
