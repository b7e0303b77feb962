-- Which numbers a message can begin with.
use Rattle.std.proofs.Common.{◌≡◌, ℕ, zero, suc, ◌<◌, ◌≤◌, Bool, true, false, leb, List, [], ◌∷◌, length, get_or, take, Some, None, Ok, Err, Option, Result, IsErrAnd, sym, refl, ap, ◌∙◌, subst, arith}
use Rattle.std.proofs.lemmas.List.{ext_get_or, get_or-take, length-take, take_all}
use Rattle.interlocking.specs.Says.{kind_of, which_of}
use Rattle.interlocking.specs.declared.Request.{Request}
use Rattle.interlocking.specs.declared.Request.TheVariants.{Ask, Clear, Back, Free, Tick}
use Rattle.model.specs.declared.Event.{Event}
use Rattle.model.specs.declared.Event.TheVariants.{Asked, Turns, Goes, Draws, Reverses, Comes, Leaves}
use Rattle.message.specs.Numbers.{bit, can_be, first_of, kind_in, last_at, message_in, message_numbers, second_of}
use Rattle.message.specs.Reads.{Begins, FirstWrong, IsRead, Missing, ReadBack, Reads, Taken}
use Rattle.message.specs.declared.Message.{Message}
use Rattle.message.specs.declared.WrongAt.{WrongAt}
use Rattle.message.specs.declared.Message.TheVariants.{Request as RequestTold, Answer as AnswerTold, Event as EventTold}
use Rattle.message.proofs.Back.{Can, apart, same_numbers}

pub five : (m : Message) → length (message_numbers m) ≡ 5
five (RequestTold a) = refl
five (AnswerTold a) = refl
five (EventTold e b) = refl

-- each number of a message can stand at its place

abbrev Stands : Message → ℕ → Type 0
Stands m k = can_be (last_at k (get_or (message_numbers m) 0 0) (get_or (message_numbers m) 1 0)) (get_or (message_numbers m) k 0) ≡ true

request_stands : (a : Request) (s : ℕ) → (can_be (last_at 1 s 0) (kind_of a) ≡ true) × (can_be (last_at 2 s (kind_of a)) (which_of a) ≡ true) × (can_be (last_at 3 s (kind_of a)) 0 ≡ true)
request_stands (Ask r) s = (grind arith, refl, refl)
request_stands (Clear r) s = (grind arith, refl, refl)
request_stands (Back r) s = (grind arith, refl, refl)
request_stands (Free x) s = (grind arith, refl, refl)
request_stands Tick s = (grind arith, refl, refl)

event_stands : (e : Event) → (can_be (last_at 1 2 0) (kind_in e) ≡ true) × (can_be (last_at 2 2 (kind_in e)) (first_of e) ≡ true) × (can_be (last_at 3 2 (kind_in e)) (second_of e) ≡ true)
event_stands (Asked a) = request_stands a 2
event_stands (Turns q) = (refl, refl, refl)
event_stands (Goes i) = (refl, refl, refl)
event_stands (Draws i) = (refl, refl, refl)
event_stands (Reverses i) = (refl, refl, refl)
event_stands (Comes i true x) = (refl, refl, refl)
event_stands (Comes i false x) = (refl, refl, refl)
event_stands (Leaves i) = (refl, refl, refl)

bit_stands : (b : Bool) → leb (bit b) 1 ≡ true
bit_stands true = refl
bit_stands false = refl

stands : (m : Message) (k : ℕ) → k < 5 → Stands m k
stands (RequestTold a) zero l = refl
stands (RequestTold a) (suc zero) l = (request_stands a 0).0
stands (RequestTold a) (suc (suc zero)) l = (request_stands a 0).1
stands (RequestTold a) (suc (suc (suc zero))) l = (request_stands a 0).2
stands (RequestTold a) (suc (suc (suc (suc zero)))) l = refl
stands (RequestTold a) (suc (suc (suc (suc (suc n))))) l = absurd (omega arith)
stands (AnswerTold a) zero l = refl
stands (AnswerTold a) (suc zero) l = (request_stands a.request 1).0
stands (AnswerTold a) (suc (suc zero)) l = (request_stands a.request 1).1
stands (AnswerTold a) (suc (suc (suc zero))) l = (request_stands a.request 1).2
stands (AnswerTold a) (suc (suc (suc (suc zero)))) l = bit_stands a.done
stands (AnswerTold a) (suc (suc (suc (suc (suc n))))) l = absurd (omega arith)
stands (EventTold e b) zero l = refl
stands (EventTold e b) (suc zero) l = (event_stands e).0
stands (EventTold e b) (suc (suc zero)) l = (event_stands e).1
stands (EventTold e b) (suc (suc (suc zero))) l = (event_stands e).2
stands (EventTold e b) (suc (suc (suc (suc zero)))) l = bit_stands b
stands (EventTold e b) (suc (suc (suc (suc (suc n))))) l = absurd (omega arith)

-- numbers that agree as far as a place

pub there : (k : ℕ) (ns : List ℕ) (m : Message) → k < 5 → take (suc k) ns ≡ take (suc k) (message_numbers m) → k < length ns
there k ns m l e =
    let a = ap length e in let b = length-take (suc k) ns in let c = length-take (suc k) (message_numbers m) in
    let f = five m in omega arith

pub same_at : (k : ℕ) (ns ms : List ℕ) (i : ℕ) → i < suc k → take (suc k) ns ≡ take (suc k) ms → get_or ns i 0 ≡ get_or ms i 0
same_at k ns ms i l e = sym (get_or-take (suc k) ns i 0 l) ∙ ap (λ (z : List ℕ). get_or z i 0) e ∙ get_or-take (suc k) ms i 0 l

same_last : (k s t q r : ℕ) → (0 < k → s ≡ t) → (1 < k → q ≡ r) → last_at k s q ≡ last_at k t r
same_last zero s t q r e f = refl
same_last (suc zero) s t q r e f = ap (λ z. last_at 1 z 0) (e (omega arith))
same_last (suc (suc n)) s t q r e f = let a = e (omega arith) in let b = f (omega arith) in cc

-- where a number can't stand no message begins so
never : (ns : List ℕ) (k s q : ℕ) → k < 5 → (0 < k → s ≡ get_or ns 0 0) → (1 < k → q ≡ get_or ns 1 0) →
    (k < length ns → can_be (last_at k s q) (get_or ns k 0) ≡ false) → Begins ns (suc k) → ⊥
never ns k s q l e f w (m, g) =
    let h = same_last k s (get_or (message_numbers m) 0 0) q (get_or (message_numbers m) 1 0)
    (λ z. e z ∙ same_at k ns (message_numbers m) 0 (omega arith) g) (λ z. f z ∙ same_at k ns (message_numbers m) 1 (omega arith) g) in
    let i = same_at k ns (message_numbers m) k (omega arith) g in
    let j = w (there k ns m l g) in
    let o = stands m k l in
    let z : true ≡ false = cc in grind arith

longer : (ns : List ℕ) (m : Message) → 5 < length ns → take 6 ns ≡ take 6 (message_numbers m) → ⊥
longer ns m l e =
    let a = ap length e in let b = length-take 6 ns in let c = length-take 6 (message_numbers m) in let f = five m in omega arith

-- numbers that can stand are those of a message, as far as they go
begins : (ns : List ℕ) (j s k a b d : ℕ) → j ≤ 5 → j ≤ length ns → Can s k a b d →
    (0 < j → s ≡ get_or ns 0 0) → (1 < j → k ≡ get_or ns 1 0) → (2 < j → a ≡ get_or ns 2 0) → (3 < j → b ≡ get_or ns 3 0) → (4 < j → d ≡ get_or ns 4 0) →
    take j ns ≡ take j (message_numbers (message_in s k a b d))
begins ns j s k a b d l n c p q r t u =
    let x = length-take j ns in let y = length-take j (s ∷ k ∷ a ∷ b ∷ d ∷ []) in
    ext_get_or 0 (take j ns) (take j (s ∷ k ∷ a ∷ b ∷ d ∷ [])) (omega arith)
    (λ i m. let o : i < j = omega arith in get_or-take j ns i 0 o ∙ front i o ∙ sym (get_or-take j (s ∷ k ∷ a ∷ b ∷ d ∷ []) i 0 o))
    ∙ ap (take j) (sym (same_numbers s k a b d c))
  where
    front : (i : ℕ) → i < j → get_or ns i 0 ≡ get_or (s ∷ k ∷ a ∷ b ∷ d ∷ []) i 0
    front zero o = sym (p o)
    front (suc zero) o = sym (q o)
    front (suc (suc zero)) o = sym (r o)
    front (suc (suc (suc zero))) o = sym (t o)
    front (suc (suc (suc (suc zero)))) o = sym (u o)
    front (suc (suc (suc (suc (suc i))))) o = absurd (omega arith)

can_zero : (o : Option ℕ) → can_be o 0 ≡ true
can_zero None = refl
can_zero (Some m) = grind arith

zero_at : (place s k : ℕ) → can_be (last_at place s k) 0 ≡ true
zero_at place s k = can_zero (last_at place s k)

-- what is read, and where it is refused

pub wrong_0 : (ns : List ℕ) (at : WrongAt) → Missing ns 0 0 0 at → FirstWrong ns at.place
wrong_0 ns at m =
    subst (FirstWrong ns) (sym m.place_is)
    (record { before = (RequestTold Tick, refl); here = never ns 0 0 0 (omega arith) (λ z. absurd (omega arith)) (λ z. absurd (omega arith)) m.cannot })

pub wrong_1 : (ns : List ℕ) (s : ℕ) (at : WrongAt) → Taken ns 0 0 0 s → Missing ns 1 s 0 at → FirstWrong ns at.place
wrong_1 ns s at t m =
    let o = t.there in
    let c : Can s 0 0 0 0 = record { sort = t.can; kind = zero_at 1 s 0; first = zero_at 2 s 0; second = zero_at 3 s 0; done = zero_at 4 s 0 } in
    subst (FirstWrong ns) (sym m.place_is)
    (record {
      before = (
        message_in s 0 0 0 0,
        begins ns 1 s 0 0 0 0 (omega arith) (omega arith) c (λ z. t.is) (λ z. absurd (omega arith)) (λ z. absurd (omega arith)) (λ z. absurd (omega arith)) (λ z. absurd (omega arith)),
      );
      here = never ns 1 s 0 (omega arith) (λ z. t.is) (λ z. absurd (omega arith)) m.cannot;
    })

pub wrong_2 : (ns : List ℕ) (s k : ℕ) (at : WrongAt) → Taken ns 0 0 0 s → Taken ns 1 s 0 k → Missing ns 2 s k at → FirstWrong ns at.place
wrong_2 ns s k at t u m =
    let o = u.there in
    let c : Can s k 0 0 0 = record { sort = t.can; kind = u.can; first = zero_at 2 s k; second = zero_at 3 s k; done = zero_at 4 s k } in
    subst (FirstWrong ns) (sym m.place_is)
    (record {
      before = (
        message_in s k 0 0 0,
        begins ns 2 s k 0 0 0 (omega arith) (omega arith) c (λ z. t.is) (λ z. u.is) (λ z. absurd (omega arith)) (λ z. absurd (omega arith)) (λ z. absurd (omega arith)),
      );
      here = never ns 2 s k (omega arith) (λ z. t.is) (λ z. u.is) m.cannot;
    })

pub wrong_3 : (ns : List ℕ) (s k a : ℕ) (at : WrongAt) → Taken ns 0 0 0 s → Taken ns 1 s 0 k → Taken ns 2 s k a → Missing ns 3 s k at → FirstWrong ns at.place
wrong_3 ns s k a at t u v m =
    let o = v.there in
    let c : Can s k a 0 0 = record { sort = t.can; kind = u.can; first = v.can; second = zero_at 3 s k; done = zero_at 4 s k } in
    subst (FirstWrong ns) (sym m.place_is)
    (record {
      before = (
        message_in s k a 0 0,
        begins ns 3 s k a 0 0 (omega arith) (omega arith) c (λ z. t.is) (λ z. u.is) (λ z. v.is) (λ z. absurd (omega arith)) (λ z. absurd (omega arith)),
      );
      here = never ns 3 s k (omega arith) (λ z. t.is) (λ z. u.is) m.cannot;
    })

pub wrong_4 : (ns : List ℕ) (s k a b : ℕ) (at : WrongAt) → Taken ns 0 0 0 s → Taken ns 1 s 0 k → Taken ns 2 s k a → Taken ns 3 s k b → Missing ns 4 s k at → FirstWrong ns at.place
wrong_4 ns s k a b at t u v w m =
    let o = w.there in
    let c : Can s k a b 0 = record { sort = t.can; kind = u.can; first = v.can; second = w.can; done = zero_at 4 s k } in
    subst (FirstWrong ns) (sym m.place_is)
    (record {
      before = (
        message_in s k a b 0,
        begins ns 4 s k a b 0 (omega arith) (omega arith) c (λ z. t.is) (λ z. u.is) (λ z. v.is) (λ z. w.is) (λ z. absurd (omega arith)),
      );
      here = never ns 4 s k (omega arith) (λ z. t.is) (λ z. u.is) m.cannot;
    })

module _ (ns : List ℕ) (s k a b d : ℕ) (t : Taken ns 0 0 0 s) (u : Taken ns 1 s 0 k) (v : Taken ns 2 s k a) (w : Taken ns 3 s k b) (x : Taken ns 4 s k d) where
  all_five : take 5 ns ≡ take 5 (message_numbers (message_in s k a b d))
  all_five =
      let o = x.there in
      begins ns 5 s k a b d (omega arith) (omega arith) (record { sort = t.can; kind = u.can; first = v.can; second = w.can; done = x.can })
      (λ z. t.is) (λ z. u.is) (λ z. v.is) (λ z. w.is) (λ z. x.is)

  pub right : length ns ≤ 5 → ns ≡ message_numbers (message_in s k a b d)
  right l =
      let f = five (message_in s k a b d) in
      sym (take_all 5 ns l) ∙ all_five ∙ take_all 5 (message_numbers (message_in s k a b d)) (omega arith)

  pub too_long : 5 < length ns → FirstWrong ns 5
  too_long l = record {
    before = (message_in s k a b d, all_five);
    here = λ (m, e). longer ns m l e;
  }

pub every : (ns : List ℕ) (r : Result Message WrongAt) → Reads ns r → (m : Message) → ns ≡ message_numbers m → r ≡ Ok m
every ns (Ok n) h m e = ap Ok (apart n m (sym h ∙ e))
every ns (Err w) h m e = absurd (h.here (m, ap (take (suc w.place)) e))

pub read_back : ReadBack
read_back = record { apart = apart; same = λ m r h. every (message_numbers m) r h m refl }

pub is_read : (ns : List ℕ) (r : Result Message WrongAt) → Reads ns r → IsRead ns r
is_read ns r h = record { reads = h; every = every ns r h }

-- a refusal that is handed on
pub refused : (ns : List ℕ) (r : Result Message WrongAt) (at : WrongAt) → FirstWrong ns at.place → IsErrAnd r (λ y. y ≡ at) → IsRead ns r
refused ns (Ok m) at w h = absurd h
refused ns (Err y) at w h = is_read ns (Err y) (subst (λ (z : WrongAt). FirstWrong ns z.place) (sym h) w)
