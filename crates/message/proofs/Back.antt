-- Messages and their numbers, there and back.
use Rattle.std.proofs.Common.{◌≡◌, ℕ, zero, suc, Bool, true, false, eqb, leb, List, [], ◌∷◌, get_or, sym, refl, ap, ◌∙◌, arith}
use Rattle.interlocking.specs.Says.{kind_of, request_of, which_of}
use Rattle.interlocking.specs.declared.Request.{Request}
use Rattle.interlocking.specs.declared.Request.TheVariants.{Ask, Clear, Back, Free, Tick}
use Rattle.interlocking.specs.declared.Answer.{Answer}
use Rattle.interlocking.proofs.Requests.{number_of_request}
use Rattle.model.specs.declared.Event.{Event}
use Rattle.model.specs.declared.Event.TheVariants.{Asked, Turns, Goes, Draws, Reverses, Comes, Leaves}
use Rattle.message.specs.Numbers.{bit, can_be, event_in, first_of, kind_in, last_at, message_in, message_numbers, second_of}
use Rattle.message.specs.declared.Message.{Message}
use Rattle.message.specs.declared.Message.TheVariants.{Request as RequestTold, Answer as AnswerTold, Event as EventTold}

-- from a message and back

asked_back : (a : Request) → event_in (kind_of a) (which_of a) 0 ≡ Asked a
asked_back (Ask r) = refl
asked_back (Clear r) = refl
asked_back (Back r) = refl
asked_back (Free x) = refl
asked_back Tick = refl

event_back : (e : Event) → event_in (kind_in e) (first_of e) (second_of e) ≡ e
event_back (Asked a) = asked_back a
event_back (Turns q) = refl
event_back (Goes i) = refl
event_back (Draws i) = refl
event_back (Reverses i) = refl
event_back (Comes i true x) = refl
event_back (Comes i false x) = refl
event_back (Leaves i) = refl

bit_back : (b : Bool) → eqb (bit b) 1 ≡ b
bit_back true = refl
bit_back false = refl

abbrev answer_of : Request → Bool → Answer
answer_of a b = record { request = a; done = b }

-- what a list of numbers stands for
abbrev of : List ℕ → Message
of ns = message_in (get_or ns 0 0) (get_or ns 1 0) (get_or ns 2 0) (get_or ns 3 0) (get_or ns 4 0)

back : (m : Message) → of (message_numbers m) ≡ m
back (RequestTold a) = ap RequestTold (number_of_request a)
back (AnswerTold a) =
    ap (λ (z : Request). AnswerTold (answer_of z (eqb (bit a.done) 1))) (number_of_request a.request) ∙ ap (λ (z : Bool). AnswerTold (answer_of a.request z)) (bit_back a.done)
back (EventTold e b) = let p = event_back e in let q = bit_back b in cc

pub apart : (m n : Message) → message_numbers m ≡ message_numbers n → m ≡ n
apart m n e = sym (back m) ∙ ap of e ∙ back n

-- from numbers that a message can have, and back

pub record Can (s k a b d : ℕ) : Type 0 where
  pub sort : can_be (last_at 0 0 0) s ≡ true
  pub kind : can_be (last_at 1 s 0) k ≡ true
  pub first : can_be (last_at 2 s k) a ≡ true
  pub second : can_be (last_at 3 s k) b ≡ true
  pub done : can_be (last_at 4 s k) d ≡ true

request_kind : (k a : ℕ) → leb k 4 ≡ true → kind_of (request_of k a) ≡ k
request_kind zero a l = refl
request_kind (suc zero) a l = refl
request_kind (suc (suc zero)) a l = refl
request_kind (suc (suc (suc zero))) a l = refl
request_kind (suc (suc (suc (suc n)))) a l = grind arith

request_which : (k a s : ℕ) → leb k 4 ≡ true → can_be (last_at 2 s k) a ≡ true → which_of (request_of k a) ≡ a
request_which zero a s l m = refl
request_which (suc zero) a s l m = refl
request_which (suc (suc zero)) a s l m = refl
request_which (suc (suc (suc zero))) a s l m = refl
request_which (suc (suc (suc (suc n)))) a s l m = grind arith

record SameEvent (k a b : ℕ) : Type 0 where
  kind : kind_in (event_in k a b) ≡ k
  first : first_of (event_in k a b) ≡ a
  second : second_of (event_in k a b) ≡ b

same_event : (k a b s : ℕ) → leb k 11 ≡ true → can_be (last_at 2 s k) a ≡ true → can_be (last_at 3 s k) b ≡ true → SameEvent k a b
same_event k a b s l m n =
    let p = request_kind k a in let q = request_which k a s in
    record { kind = grind arith; first = grind arith; second = grind arith }

bit_same : (d : ℕ) → leb d 1 ≡ true → bit (eqb d 1) ≡ d
bit_same d l = grind arith

pub same_numbers : (s k a b d : ℕ) → Can s k a b d → message_numbers (message_in s k a b d) ≡ s ∷ k ∷ a ∷ b ∷ d ∷ []
same_numbers zero k a b d c =
    let p = request_kind k a c.kind in let q = request_which k a 0 c.kind c.first in
    let x = c.second in let y = c.done in
    let z : d ≡ 0 = grind arith in let w : b ≡ 0 = grind arith in cc
same_numbers (suc zero) k a b d c =
    let p = request_kind k a c.kind in let q = request_which k a 1 c.kind c.first in
    let x = c.second in let y = c.done in
    let z = bit_same d c.done in let w : b ≡ 0 = grind arith in cc
same_numbers (suc (suc zero)) k a b d c =
    let e = same_event k a b 2 c.kind c.first c.second in let z = bit_same d c.done in cc
same_numbers (suc (suc (suc n))) k a b d c = let l = c.sort in absurd (grind arith)
