-- What numbers are read as, and where they are refused. Assumes nothing: these are definitions.
use Rattle.std.specs.Prelude.{◌≡◌, ℕ, suc, Bool, List, length, take, Ok, Err, vec_items, Result}
use Rattle.journal.specs.Entries.{entry_numbers, journal_numbers}
use Rattle.journal.specs.declared.Entry.{Entry}
use Rattle.journal.specs.declared.Journal.{Journal}
use Rattle.journal.specs.declared.read.Refusal.{Refusal}
use Rattle.journal.specs.declared.read.Refusal.TheVariants.{Memory, Place}

-- the first so many are those of an entry
abbrev pub BeginsEntry : List ℕ → ℕ → Type 0
BeginsEntry ns k = (e : Entry) × (take k ns ≡ take k (entry_numbers e))

pub record FirstWrongEntry (ns : List ℕ) (place : ℕ) : Type 0 where
  pub before : BeginsEntry ns place
  pub here : BeginsEntry ns (suc place) → ⊥

-- the first so many are those of a journal
abbrev pub Begins : List ℕ → ℕ → Type 0
Begins ns k = (lies : List Bool) × (es : List Entry) × (length lies ≡ 32) × (take k ns ≡ take k (journal_numbers lies es))

-- this is the first place that no journal can have so; numbers that break off are wrong at their end
pub record FirstWrong (ns : List ℕ) (place : ℕ) : Type 0 where
  pub before : Begins ns place
  pub here : Begins ns (suc place) → ⊥

-- the journal that has these numbers, or the first wrong place, or there was no memory
abbrev pub Reads : List ℕ → Result Journal Refusal → Type 0
Reads ns (Ok j) = (length j.lies ≡ 32) × (ns ≡ journal_numbers j.lies (vec_items j.entries))
Reads ns (Err Memory) = Unit {0}
Reads ns (Err (Place k)) = FirstWrong ns k

-- what was written comes back, unless there was no memory
abbrev pub ComesBack : List Bool → List Entry → Result Journal Refusal → Type 0
ComesBack ls es (Ok j) = (j.lies ≡ ls) × (vec_items j.entries ≡ es)
ComesBack ls es (Err Memory) = Unit {0}
ComesBack ls es (Err (Place k)) = ⊥

-- no two journals have the same numbers, and whatever reads numbers so reads back what was written
pub record ReadBack : Type 0 where
  pub apart : (ls ms : List Bool) (es fs : List Entry) → length ls ≡ 32 → length ms ≡ 32 → journal_numbers ls es ≡ journal_numbers ms fs → (ls ≡ ms) × (es ≡ fs)
  pub same : (ls : List Bool) (es : List Entry) (r : Result Journal Refusal) → length ls ≡ 32 → Reads (journal_numbers ls es) r → ComesBack ls es r
