-- What one train can do is what can happen.
use Rattle.std.proofs.Common.{◌≡◌, ℕ, ◌<◌, ◌≤◌, Bool, true, false, not, ◌&&◌, eqb, ltb, List, length, vec_items, Option, Some, None, MatchOption, Bor, sym, ap, ◌∙◌, subst, arith, le-ltb, lt-ltb}
use Rattle.std.specs.List.{HoldsAt}
use Rattle.plan.specs.Plan.{Plan, marks}
use Rattle.interlocking.specs.State.{Occupancy}
use Rattle.model.specs.World.{World, can}
use Rattle.trains.specs.Trains.{Train, occupied, empty, may_enter}
use Rattle.trains.specs.Held.{nowhere, train_of, trains_of, within}
use Rattle.trains.specs.declared.train.Train.{Train as HeldTrain}
use Rattle.model.specs.Held.{occupied_in}
use Rattle.model.specs.declared.world.World.{World as HeldWorld}
use Rattle.model.specs.declared.Event.TheVariants.{Comes}
use Rattle.trains.proofs.Trains.{train_past, trains_at}

and_in : (a b c : Bool) → a ≡ true → b ≡ c → b ≡ a && c
and_in a b c e f = grind arith

and_out : (a c : Bool) → a ≡ false → false ≡ a && c
and_out a c e = grind arith

-- the train that `get` lends, if there is one of this number
abbrev pub Lent : List HeldTrain → ℕ → Option (Bor HeldTrain) → Type 0
Lent ts i o = MatchOption o (length ts ≤ i) (λ x. (i < length ts) × HoldsAt (λ y. x.now ≡ y) ts i)

lent : (xs ts : List HeldTrain) (i : ℕ) (x : Bor HeldTrain) → xs ≡ ts → (i < length xs) × HoldsAt (λ y. x.now ≡ y) xs i → train_of x.now ≡ trains_of ts i
lent xs ts i x s g = trains_at xs i x.now g.0 (g.1 x.now) ∙ ap (λ (ys : List HeldTrain). trains_of ys i) s

-- what is said of it, and of none what is said of a train that is nowhere
pub of_train : {V : Type 0} {P : Type 0} {Q : Bor HeldTrain → Type 0} (xs ts : List HeldTrain) (i : ℕ) (o : Option (Bor HeldTrain)) (r : V) (f : Train → V) → xs ≡ ts → Lent xs i o →
    MatchOption o P Q → (P → r ≡ f nowhere) → ((x : Bor HeldTrain) → Q x → r ≡ f (train_of x.now)) → r ≡ f (trains_of ts i)
of_train xs ts i None r f s g k z q = let l = subst (λ (ys : List HeldTrain). length ys ≤ i) s g in z k ∙ sym (ap f (train_past ts i l))
of_train xs ts i (Some x) r f s g k z q = q x k ∙ ap f (lent xs ts i x s g)

-- whether there is one, and it is as asked
pub train_is : (xs ts : List HeldTrain) (n i : ℕ) (x : Bor HeldTrain) (r : Bool) (f : Train → Bool) → xs ≡ ts → n ≡ length ts → (i < length xs) × HoldsAt (λ y. x.now ≡ y) xs i →
    r ≡ f (train_of x.now) → r ≡ ltb i n && f (trains_of ts i)
train_is xs ts n i x r f s e g k =
    let l : i < length ts = subst (λ (ys : List HeldTrain). i < length ys) s g.0 in and_in (ltb i n) r _ (lt-ltb i n (omega arith)) (k ∙ ap f (lent xs ts i x s g))

pub train_none : (xs ts : List HeldTrain) (n i : ℕ) (b : Bool) → xs ≡ ts → n ≡ length ts → length xs ≤ i → false ≡ ltb i n && b
train_none xs ts n i b s e g = let l : length ts ≤ i = subst (λ (ys : List HeldTrain). length ys ≤ i) s g in and_out (ltb i n) b (le-ltb i n (omega arith))

pub some_train : {Q : Bor HeldTrain → Type 0} (xs ts : List HeldTrain) (n i : ℕ) (o : Option (Bor HeldTrain)) (r : Bool) (f : Train → Bool) → xs ≡ ts → n ≡ length ts → Lent xs i o →
    MatchOption o (r ≡ false) Q → ((x : Bor HeldTrain) → Q x → r ≡ f (train_of x.now)) → r ≡ ltb i n && f (trains_of ts i)
some_train xs ts n i None r f s e g k q = k ∙ train_none xs ts n i (f (trains_of ts i)) s e g
some_train xs ts n i (Some x) r f s e g k q = train_is xs ts n i x r f s e g (q x k)

-- what is marked of a world's trains
pub seen_in : (w : HeldWorld) (bs : List Bool) (ts : List HeldTrain) → ts ≡ vec_items w.trains → marks bs ≡ within (occupied (length ts) (trains_of ts)) → marks bs ≡ within (occupied_in w)
seen_in w bs ts e h =
    h ∙ ap (λ (us : List HeldTrain). within (occupied (length us) (trains_of us))) e
    ∙ ap (λ (n : ℕ). within (occupied n (trains_of (vec_items w.trains)))) (sym w.trains.ok.0)

-- a section of 64 is seen as it is
pub seen_here : (s : Occupancy) (x : ℕ) → x < 64 → within s x ≡ s x
seen_here s x l = grind arith

come_tests : (a e c g : Bool) → a && e ≡ true → c ≡ true → g ≡ a && (e && (c && g))
come_tests a e c g h k = grind arith

pub come_in : (p : Plan) (n : ℕ) (w : World) (i : ℕ) (up : Bool) (x : ℕ) (b d : Bool) (s : Occupancy) → b ≡ ltb i n && empty (w.trains i).body → b ≡ true →
    x < p.sections → p.sections ≤ 64 → s ≡ within (occupied n w.trains) → d ≡ may_enter p w.interlocking s up x → d ≡ can p n w (Comes i up x)
unfolding can
come_in p n w i up x b d s e f m k g h =
    let r = seen_here (occupied n w.trains) x (omega arith) in
    let sees : s x ≡ occupied n w.trains x = ap (λ (z : Occupancy). z x) g ∙ r in
    h ∙ ap (λ (z : Bool). p.edge x && (p.signal up x && (eqb (w.interlocking.lock x) 0 && not z))) sees
    ∙ come_tests (ltb i n) (empty (w.trains i).body) (ltb x p.sections) _ (sym e ∙ f) (lt-ltb x p.sections m)

pub come_out : (p : Plan) (n : ℕ) (w : World) (i : ℕ) (up : Bool) (x : ℕ) (b : Bool) → b ≡ ltb i n && empty (w.trains i).body → b ≡ false → false ≡ can p n w (Comes i up x)
unfolding can
come_out p n w i up x b e f = out (ltb i n) (empty (w.trains i).body) _ (sym e ∙ f)
  where
    out : (a e c : Bool) → a && e ≡ false → false ≡ a && (e && c)
    out a e c h = grind arith

-- a number that is no section
pub come_far : (p : Plan) (n : ℕ) (w : World) (i : ℕ) (up : Bool) (x : ℕ) → p.sections ≤ x → false ≡ can p n w (Comes i up x)
unfolding can
come_far p n w i up x l = far (ltb i n) (empty (w.trains i).body) (ltb x p.sections) _ (le-ltb x p.sections l)
  where
    far : (a e c g : Bool) → c ≡ false → false ≡ a && (e && (c && g))
    far a e c g h = grind arith
