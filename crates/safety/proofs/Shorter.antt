-- A train gets shorter behind its front, or goes: what that keeps. Shared by `draws` and `leaves`.
use Rattle.std.proofs.Common.{◌≡◌, ℕ, suc, ◌<◌, Bool, true, List, ◌∷◌, get_or, refl}
use Rattle.plan.specs.Plan.{Plan, Positions, route, among, Once}
use Rattle.interlocking.specs.State.{State, Occupancy}
use Rattle.model.specs.World.{Train, occupied, with_train}
use Rattle.safety.specs.Promise.{Hangs}
use Rattle.safety.specs.Safe.{Ahead, Kept, Run, Books}
use Rattle.safety.proofs.Tests.{fails}
use Rattle.safety.proofs.Occupied.{each_train, occupied_less}
use Rattle.safety.proofs.Carry.{ahead_moves, route_moves}

-- less is occupied
pub kept_less : (p : Plan) (h : State) (s s' : Occupancy) (t : Positions) → ((x : ℕ) → s' x ≡ true → s x ≡ true) → Kept p h s t → Kept p h s' t
kept_less p h s s' t f k = record {
  still = λ q l e. k.still q l (f (p.place q) e);
  owner = k.owner;
  waits = λ r l w x a. let v = k.waits r l w x a in (v.0, fails (s x) (s' x) (f x) v.1);
  wants = k.wants;
  lies = k.lies;
}

-- less is reported occupied
pub books_less : (p : Plan) (h : State) (o o' : Occupancy) → ((x r : ℕ) → h.lock x ≡ suc r → o' x ≡ true → o x ≡ true) → Books p h o → Books p h o'
books_less p h o o' f b = record { named = b.named; soon = b.soon; marked = λ x r e c. b.marked x r e (f x r e c) }

-- what lies ahead, where no more of what is locked is occupied
pub ahead_less : (p : Plan) (h : State) (s s' : Occupancy) (t : Positions) (up : Bool) (x : ℕ) → ((y r : ℕ) → h.lock y ≡ suc r → s' y ≡ true → s y ≡ true) → Ahead p h s t up x → Ahead p h s' t up x
ahead_less p h s s' t up x f = ahead_moves p h h s s' t up x
    (λ r k o. route_moves p h h s s' t up x r k o refl (λ j a b l. l)
    (λ j a b l v. let y : ℕ = get_or (route p r).path j 0 in fails (s y) (s' y) (f y r l) v))

-- b is a, shorter: fewer sections, each once, that hang together, with the same front
pub record Shorter (p : Plan) (t : Positions) (up : Bool) (a b : List ℕ) : Type 0 where
  pub fewer : (x : ℕ) → among x b ≡ true → among x a ≡ true
  pub once : Once b
  pub hangs : Hangs p t up b
  pub front : (x : ℕ) (xs : List ℕ) → b ≡ x ∷ xs → (zs : List ℕ) × (a ≡ x ∷ zs)

fewer_all : (ts : ℕ → Train) (i : ℕ) (b : List ℕ) → ((x : ℕ) → among x b ≡ true → among x (ts i).body ≡ true) →
    (j x : ℕ) → among x (with_train ts i (ts i).up b j).body ≡ true → among x (ts j).body ≡ true
fewer_all ts i b f = each_train ts i (ts i).up b (λ j v. (x : ℕ) → among x v.body ≡ true → among x (ts j).body ≡ true) f (λ j ne x a. a)

pub fewer_occupied : (n : ℕ) (ts : ℕ → Train) (i : ℕ) (b : List ℕ) → ((x : ℕ) → among x b ≡ true → among x (ts i).body ≡ true) →
    (x : ℕ) → occupied n (with_train ts i (ts i).up b) x ≡ true → occupied n ts x ≡ true
fewer_occupied n ts i b f x e = occupied_less n ts (with_train ts i (ts i).up b) x (λ j l a. fewer_all ts i b f j x a) e

pub shorter_run : (p : Plan) (n : ℕ) (h : State) (t : Positions) (ts : ℕ → Train) (i : ℕ) (b : List ℕ) → Shorter p t (ts i).up (ts i).body b →
    Run p n h t ts → Run p n h t (with_train ts i (ts i).up b)
shorter_run p n h t ts i b c run =
    let u : ℕ → Train = with_train ts i (ts i).up b in
    let less : (j x : ℕ) → among x (u j).body ≡ true → among x (ts j).body ≡ true = fewer_all ts i b c.fewer in
    let moved : (up : Bool) (x : ℕ) → Ahead p h (occupied n ts) t up x → Ahead p h (occupied n u) t up x =
    λ up x a. ahead_less p h (occupied n ts) (occupied n u) t up x (λ y r l e. fewer_occupied n ts i b c.fewer y e) a in
    record {
      inside = λ j x l a. run.inside j x l (less j x a);
      once = each_train ts i (ts i).up b (λ j v. j < n → Once v.body) (λ l. c.once) (λ j ne l. run.once j l);
      apart = λ j k x l m ne a d. run.apart j k x l m ne (less j x a) (less k x d);
      hangs = each_train ts i (ts i).up b (λ j v. j < n → Hangs p t v.up v.body) (λ l. c.hangs) (λ j ne l. run.hangs j l);
      ahead = λ j x xs l e.
          each_train ts i (ts i).up b (λ k v. k < n → v.body ≡ x ∷ xs → Ahead p h (occupied n u) t v.up x)
          (λ m q. let z = c.front x xs q in moved (ts i).up x (run.ahead i x z.0 m z.1))
          (λ k ne m q. moved (ts k).up x (run.ahead k x xs m q))
          j l e;
    }
