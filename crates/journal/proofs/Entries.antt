-- Which numbers an entry can begin with.
use Rattle.std.proofs.Common.{◌≡◌, ℕ, zero, suc, ◌<◌, ◌≤◌, Bool, true, false, ◌&&◌, eqb, ltb, List, length, get_or, take, sym, refl, ap, ◌∙◌, subst, arith, ltb-false, ltb-true}
use Rattle.std.proofs.lemmas.List.{length-take, take_all}
use Rattle.message.specs.Numbers.{message_numbers}
use Rattle.message.specs.Reads as message
use Rattle.message.specs.declared.Message.{Message}
use Rattle.message.specs.declared.Message.TheVariants.{Request as RequestTold, Answer as AnswerTold, Event as EventTold}
use Rattle.message.proofs.Places.{same_at}
use Rattle.model.specs.Ran.{no_event}
use Rattle.journal.specs.Entries.{entry_numbers, entry_of}
use Rattle.journal.specs.Reads.{BeginsEntry, FirstWrongEntry}
use Rattle.journal.specs.declared.Entry.{Entry}

abbrev told : Entry → Message
told e = EventTold e.event e.done

-- where the first number is none of an event's
pub wrong_first : (ns : List ℕ) → (0 < length ns → get_or ns 0 0 ≡ 2 → ⊥) → FirstWrongEntry ns 0
wrong_first ns f = record {
  before = (entry_of no_event false, refl);
  here = λ (e, g).
      let a = ap length g in let b = length-take 1 ns in
      f (omega arith) (same_at 0 ns (entry_numbers e) 0 (omega arith) g);
}

-- only events have 2 for their first number
entry_from : (m : Message) (k : ℕ) (ns : List ℕ) → get_or (message_numbers m) 0 0 ≡ 2 → take k ns ≡ take k (message_numbers m) → BeginsEntry ns k
entry_from (RequestTold a) k ns e g = absurd (omega arith)
entry_from (AnswerTold a) k ns e g = absurd (omega arith)
entry_from (EventTold x b) k ns e g = (entry_of x b, g)

begins_entry : (ns : List ℕ) (k : ℕ) → get_or ns 0 0 ≡ 2 → message.Begins ns k → BeginsEntry ns k
begins_entry ns zero e h = (entry_of no_event false, refl)
begins_entry ns (suc k) e (m, g) = entry_from m (suc k) ns (sym (same_at k ns (message_numbers m) 0 (omega arith) g) ∙ e) g

pub wrong_later : (ns : List ℕ) (place : ℕ) → get_or ns 0 0 ≡ 2 → message.FirstWrong ns place → FirstWrongEntry ns place
wrong_later ns place e w = record { before = begins_entry ns place e w.before; here = λ (x, g). w.here (told x, g) }

-- where five numbers or fewer are wrong

five : (e : Entry) → length (entry_numbers e) ≡ 5
five e = refl

pub within_five : (ns : List ℕ) (place : ℕ) → length ns ≤ 5 → FirstWrongEntry ns place → place < 5
within_five ns place l w = go (ltb place 5) refl
  where
    same : (e : Entry) → 5 ≤ place → take place ns ≡ take place (entry_numbers e) → take (suc place) ns ≡ take (suc place) (entry_numbers e)
    same e o g =
        let f = five e in
        let a = take_all (suc place) ns (omega arith) in let b = take_all place ns (omega arith) in
        let x = take_all (suc place) (entry_numbers e) (omega arith) in let y = take_all place (entry_numbers e) (omega arith) in
        a ∙ sym b ∙ g ∙ y ∙ sym x

    go : (b : Bool) → ltb place 5 ≡ b → place < 5
    go true q = ltb-true place 5 q
    go false q = absurd (w.here (w.before.0, same w.before.0 (ltb-false place 5 q) w.before.1))

-- of at most five numbers, the place that is called wrong is one of theirs or the next
pub within_length : (ns : List ℕ) (place : ℕ) → length ns ≤ 5 → FirstWrongEntry ns place → place ≤ length ns
within_length ns place l w =
    let o = within_five ns place l w in
    let a = ap length w.before.1 in let b = length-take place ns in let x = length-take place (entry_numbers w.before.0) in
    let f = five w.before.0 in omega arith

-- what is no event is wrong at once
pub not_event : (ns : List ℕ) (m : Message) (place : ℕ) → ns ≡ message_numbers m → (place ≡ 0) × (get_or (message_numbers m) 0 0 < 2) → FirstWrongEntry ns place
not_event ns m place e (f, l) =
    let a = ap (λ (z : List ℕ). get_or z 0 0) e in subst (FirstWrongEntry ns) (sym f) (wrong_first ns (λ x y. omega arith))

pub begins_event : (b : Bool) (ns : List ℕ) → b ≡ (ltb 0 (length ns) && eqb (get_or ns 0 0) 2) → b ≡ true → get_or ns 0 0 ≡ 2
begins_event b ns e f = grind arith

pub begins_other : (b : Bool) (ns : List ℕ) → b ≡ (ltb 0 (length ns) && eqb (get_or ns 0 0) 2) → b ≡ false → 0 < length ns → get_or ns 0 0 ≡ 2 → ⊥
begins_other b ns e f l g = grind arith
