-- What can't be done changes nothing, and two routes with nothing in common can be asked for in either order.
use Rattle.std.proofs.Common.{◌≡◌, ℕ, zero, suc, Bool, true, false, not, ◌&&◌, eqb, ltb, List, [], ◌∷◌, length, sym, refl, ap, ◌∙◌, arith}
use borrow.Author.Tests.{both_ways}
use Rattle.plan.specs.Plan.{pick, Plan, Positions, route, among, needed}
use Rattle.plan.specs.declared.Need.{Need}
use Rattle.interlocking.specs.declared.Stage.{Stage}
use Rattle.interlocking.specs.declared.Stage.TheVariants.{Set}
use Rattle.interlocking.specs.State.{is_idle, State, Occupancy, all_free, held, can_have, with_wants, does, done, fitted, acts}
use Rattle.interlocking.specs.declared.Request.TheVariants.{Ask}
use Rattle.safety.specs.Promise.{Unchanged, InRoom, Strangers, EitherOrder, StrangersInSound}
use Rattle.safety.proofs.Tests.{clash, untrue, cases, either_way}
use Rattle.safety.proofs.Needs.{with_wants_out}

pub unchanged : Unchanged
unfolding acts
unchanged p h s t a e = rw e

-- two states alike in what a test reads
all_free_same : (h h' : State) (s : Occupancy) (xs : List ℕ) → ((x : ℕ) → among x xs ≡ true → h'.lock x ≡ h.lock x) → all_free h' s xs ≡ all_free h s xs
unfolding all_free among
all_free_same h h' s [] f = refl
all_free_same h h' s (x ∷ xs) f =
    rw (f x (grind arith), all_free_same h h' s xs (λ y e. f y (grind arith)))

held_same : (p : Plan) (h h' : State) (q n : ℕ) →
    ((r : ℕ) → (not (is_idle (h'.stage r)) && needed q (route p r).needs) ≡ (not (is_idle (h.stage r)) && needed q (route p r).needs)) →
    held p h' q n ≡ held p h q n
unfolding held
held_same p h h' q zero f = refl
held_same p h h' q (suc n) f = rw (f n, held_same p h h' q n f)

record Alike (p : Plan) (h h' : State) (q : ℕ) : Type 0 where
  wanted : h'.wanted q ≡ h.wanted q
  held : held p h' q (length p.routes) ≡ held p h q (length p.routes)
  lock : h'.lock (p.place q) ≡ h.lock (p.place q)

can_have_same : (p : Plan) (h h' : State) (s : Occupancy) (ns : List Need) → ((q : ℕ) → needed q ns ≡ true → Alike p h h' q) → can_have p h' s ns ≡ can_have p h s ns
unfolding can_have needed
can_have_same p h h' s [] f = refl
can_have_same p h h' s (n ∷ ns) f =
    let a = f n.point (grind arith) in rw (a.wanted, a.held, a.lock, can_have_same p h h' s ns (λ q e. f q (grind arith)))

with_wants_same : (ns : List Need) (t u : Positions) (q : ℕ) → t q ≡ u q → with_wants ns t q ≡ with_wants ns u q
unfolding with_wants
with_wants_same [] t u q e = e
with_wants_same (n ∷ ns) t u q e = rw (with_wants_same ns t u q e)

swap : {A : Type 0} (c d : Bool) (x y z : A) → (c ≡ true → d ≡ false) → pick d y (pick c x z) ≡ pick c x (pick d y z)
swap c d x y z f = grind arith

strangers_back : (p : Plan) (a b : ℕ) → Strangers p a b → Strangers p b a
strangers_back p a b st = record {
  sections = λ x e. untrue (among x (route p a).path) (λ g. both_ways (among x (route p b).path) (st.sections x g) e);
  points = λ q e. (untrue (needed q (route p a).needs) (λ g. both_ways (needed q (route p b).needs) (st.points q g).0 e), st.points_too q e);
  points_too = λ q e. (st.points q e).1;
}

-- a state in which a route was asked for and set
abbrev put : Plan → State → ℕ → State
put p h a = fitted (done p h (Ask a))

-- what is not the route's own is as it was
put_lock : (p : Plan) (h : State) (a x : ℕ) → InRoom h → among x (route p a).path ≡ false → (put p h a).lock x ≡ h.lock x
unfolding fitted done
put_lock p h a x room e = let out = room.lock x in grind arith

put_stage : (p : Plan) (h : State) (a r : ℕ) → InRoom h → (r ≡ a → ⊥) → (put p h a).stage r ≡ h.stage r
unfolding fitted done
put_stage p h a r room e = let out = room.stage r in grind arith

put_wanted : (p : Plan) (h : State) (a q : ℕ) → InRoom h → needed q (route p a).needs ≡ false → (put p h a).wanted q ≡ h.wanted q
unfolding fitted done
put_wanted p h a q room e = let out = room.wanted q in let same = with_wants_out (route p a).needs h.wanted q e in grind arith

module _ (p : Plan) (h : State) (s : Occupancy) (t : Positions) (a b : ℕ) (room : InRoom h) (apart : a ≡ b → ⊥) (st : Strangers p a b) where
  held_still : (q r : ℕ) → needed q (route p b).needs ≡ true →
      (not (is_idle ((put p h a).stage r)) && needed q (route p r).needs) ≡ (not (is_idle (h.stage r)) && needed q (route p r).needs)
  held_still q r e = either_way r a
      (λ same. let z = ((strangers_back p a b st).points q e).0 in rw same (unneeded (not (is_idle ((put p h a).stage a))) (not (is_idle (h.stage a))) (needed q (route p a).needs) z))
      (λ ne. rw (put_stage p h a r room ne))
    where
      unneeded : (c d n : Bool) → n ≡ false → (c && n) ≡ (d && n)
      unneeded c d n z = grind arith

  -- when one has been asked for, the other can be had as before
  put_still : does p (put p h a) s t (Ask b) ≡ does p h s t (Ask b)
  unfolding does
  put_still =
      rw (
        put_stage p h a b room (λ e. apart (sym e)),
        all_free_same h (put p h a) s (route p b).path (λ x e. put_lock p h a x room ((strangers_back p a b st).sections x e)),
        can_have_same p h (put p h a) s (route p b).needs
            (λ q e. record {
              wanted = put_wanted p h a q room ((strangers_back p a b st).points q e).0;
              held = held_same p h (put p h a) q (length p.routes) (λ r. held_still q r e);
              lock = put_lock p h a (p.place q) room (st.points_too q e);
            }),
      )

  pub acts_still : does p (acts p h s t (Ask a)) s t (Ask b) ≡ does p h s t (Ask b)
  unfolding acts
  acts_still = go (does p h s t (Ask a))
    where
      go : (c : Bool) → does p (pick c (put p h a) h) s t (Ask b) ≡ does p h s t (Ask b)
      go true = put_still
      go false = refl

  two : acts p (acts p h s t (Ask a)) s t (Ask b) ≡ pick (does p h s t (Ask b)) (put p (pick (does p h s t (Ask a)) (put p h a) h) b) (pick (does p h s t (Ask a)) (put p h a) h)
  unfolding acts
  two = ap (λ c. pick c (put p (pick (does p h s t (Ask a)) (put p h a) h) b) (pick (does p h s t (Ask a)) (put p h a) h)) acts_still

  locks : (x : ℕ) → (done p (done p h (Ask a)) (Ask b)).lock x ≡ (done p (done p h (Ask b)) (Ask a)).lock x
  unfolding done
  locks x = swap (among x (route p a).path) (among x (route p b).path) (suc a) (suc b) (h.lock x) (st.sections x)

  wants : (q : ℕ) → (done p (done p h (Ask a)) (Ask b)).wanted q ≡ (done p (done p h (Ask b)) (Ask a)).wanted q
  unfolding done
  wants q = cases (needed q (route p a).needs)
      (λ e. let z = (st.points q e).0 in
      with_wants_out (route p b).needs (with_wants (route p a).needs h.wanted) q z
      ∙ sym (with_wants_same (route p a).needs (with_wants (route p b).needs h.wanted) h.wanted q (with_wants_out (route p b).needs h.wanted q z)))
      (λ e. with_wants_same (route p b).needs (with_wants (route p a).needs h.wanted) h.wanted q (with_wants_out (route p a).needs h.wanted q e)
      ∙ sym (with_wants_out (route p a).needs (with_wants (route p b).needs h.wanted) q e))

  stages : (r : ℕ) → (done p (done p h (Ask a)) (Ask b)).stage r ≡ (done p (done p h (Ask b)) (Ask a)).stage r
  unfolding done
  stages r = swap (eqb r a) (eqb r b) Set Set (h.stage r) (λ e. grind arith)

-- to cut off twice is to cut off once, and it keeps what is the same
again_lock : (p : Plan) (g : State) (b x : ℕ) → (put p (fitted g) b).lock x ≡ (put p g b).lock x
unfolding fitted done
again_lock p g b x = grind arith

again_passed : (p : Plan) (g : State) (b x : ℕ) → (put p (fitted g) b).passed x ≡ (put p g b).passed x
unfolding fitted done
again_passed p g b x = grind arith

again_stage : (p : Plan) (g : State) (b r : ℕ) → (put p (fitted g) b).stage r ≡ (put p g b).stage r
unfolding fitted done
again_stage p g b r = grind arith

again_wanted : (p : Plan) (g : State) (b q : ℕ) → (put p (fitted g) b).wanted q ≡ (put p g b).wanted q
unfolding fitted done
again_wanted p g b q = go (ltb q 32) refl
  where
    go : (c : Bool) → ltb q 32 ≡ c → pick c (with_wants (route p b).needs (fitted g).wanted q) false ≡ pick c (with_wants (route p b).needs g.wanted q) false
    go true e = with_wants_same (route p b).needs (fitted g).wanted g.wanted q (rw e)
    go false e = refl

cut_lock : (g g' : State) (x : ℕ) → g.lock x ≡ g'.lock x → (fitted g).lock x ≡ (fitted g').lock x
unfolding fitted
cut_lock g g' x e = rw e

cut_passed : (g g' : State) (x : ℕ) → g.passed x ≡ g'.passed x → (fitted g).passed x ≡ (fitted g').passed x
unfolding fitted
cut_passed g g' x e = rw e

cut_stage : (g g' : State) (r : ℕ) → g.stage r ≡ g'.stage r → (fitted g).stage r ≡ (fitted g').stage r
unfolding fitted
cut_stage g g' r e = rw e

cut_wanted : (g g' : State) (q : ℕ) → g.wanted q ≡ g'.wanted q → (fitted g).wanted q ≡ (fitted g').wanted q
unfolding fitted
cut_wanted g g' q e = rw e

both_passed : (p : Plan) (h : State) (a b x : ℕ) → (done p (done p h (Ask a)) (Ask b)).passed x ≡ (done p (done p h (Ask b)) (Ask a)).passed x
unfolding done
both_passed p h a b x = refl

mixed : {B : Type 0} (p : Plan) (h : State) (a b : ℕ) (f : State → B) (c d : Bool) → f (put p (put p h a) b) ≡ f (put p (put p h b) a) →
    f (pick d (put p (pick c (put p h a) h) b) (pick c (put p h a) h)) ≡ f (pick c (put p (pick d (put p h b) h) a) (pick d (put p h b) h))
mixed p h a b f true true e = e
mixed p h a b f true false e = refl
mixed p h a b f false true e = refl
mixed p h a b f false false e = refl

pub either_order : EitherOrder
either_order p h s t a b room apart st = record {
  first = sym (acts_still p h s t b a room (λ e. apart (sym e)) (strangers_back p a b st));
  second = sym (acts_still p h s t a b room apart st);
  same = record {
    lock = λ x. sym (by_field ℕ (λ w. w.lock x) (again_lock p ga b x ∙ cut_lock gab gba x (locks p h s t a b room apart st x) ∙ sym (again_lock p gb a x)));
    passed = λ x. sym (by_field Bool (λ w. w.passed x) (again_passed p ga b x ∙ cut_passed gab gba x (both_passed p h a b x) ∙ sym (again_passed p gb a x)));
    stage = λ r. sym (by_field Stage (λ w. w.stage r) (again_stage p ga b r ∙ cut_stage gab gba r (stages p h s t a b room apart st r) ∙ sym (again_stage p gb a r)));
    wanted = λ q. sym (by_field Bool (λ w. w.wanted q) (again_wanted p ga b q ∙ cut_wanted gab gba q (wants p h s t a b room apart st q) ∙ sym (again_wanted p gb a q)));
  };
}
  where
    ga : State
    ga = done p h (Ask a)

    gb : State
    gb = done p h (Ask b)

    gab : State
    gab = done p ga (Ask b)

    gba : State
    gba = done p gb (Ask a)

    by_field : (B : Type 0) (f : State → B) → f (put p (put p h a) b) ≡ f (put p (put p h b) a) → f (acts p (acts p h s t (Ask a)) s t (Ask b)) ≡ f (acts p (acts p h s t (Ask b)) s t (Ask a))
    by_field B f e =
        ap f (two p h s t a b room apart st) ∙ mixed p h a b f (does p h s t (Ask a)) (does p h s t (Ask b)) e
        ∙ sym (ap f (two p h s t b a room (λ g. apart (sym g)) (strangers_back p a b st)))

pub strangers_in_sound : StrangersInSound
strangers_in_sound p snd a b la lb sections points = record {
  sections = sections;
  points = λ q e. (
    points q e,
    untrue (among (p.place q) (route p b).path)
        (λ g. clash (needed q (route p b).needs) ((snd.routes_fit b lb).hold q ((snd.routes_fit a la).known q e) g) (points q e)),
  );
  points_too = λ q e. untrue (among (p.place q) (route p a).path)
      (λ g. clash (needed q (route p b).needs) e (points q ((snd.routes_fit a la).hold q ((snd.routes_fit b lb).known q e) g)));
}
