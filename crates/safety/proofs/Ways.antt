-- Lemmas on what lies beyond a section, on trains that hang together and on paths that lead on.
use Rattle.std.proofs.Common.{◌≡◌, ℕ, zero, suc, ◌<◌, Bool, true, false, not, List, [], ◌∷◌, ◌++◌, length, get_or, sym, ◌∙◌, arith}
use Rattle.plan.specs.Plan.{Plan, Positions, beyond, Joined, among, Leads, there, on}
use Rattle.soundness.specs.Sound.{Sound}
use Rattle.interlocking.specs.State.{State, Occupancy}
use Rattle.model.specs.World.{without_last, reversed}
use Rattle.safety.specs.Promise.{Hangs, nowhere, in_one, in_more}
use Rattle.safety.specs.Safe.{Kept}
use Rattle.safety.proofs.Lists.{among_head, among_tail}

-- BEYOND
-- what lies beyond a section's ends is the same, if the points that lie in it are as they were
pub beyond_agree : (p : Plan) (t u : Positions) → Sound p → (x : ℕ) → x < p.sections → ((q : ℕ) → q < p.points → p.place q ≡ x → u q ≡ t q) →
    (up : Bool) → beyond p u up x ≡ beyond p t up x
unfolding beyond
beyond_agree p t u snd x inside h up = let own = snd.own up x inside in let same = h (p.end up x).point in grind arith

-- where a train stands, what lies beyond is the same by the points as they are wanted and as they lie
pub beyond_same : (p : Plan) (h : State) (s : Occupancy) (t : Positions) → Sound p → Kept p h s t → (up : Bool) (x : ℕ) → x < p.sections → s x ≡ true →
    beyond p h.wanted up x ≡ beyond p t up x
beyond_same p h s t snd k up x inside e = beyond_agree p t h.wanted snd x inside (λ q less at. k.still q less (rw at e)) up

pub joined_beyond : (p : Plan) (t : Positions) (up : Bool) (a b : ℕ) → Joined p t up a b → b ≡ beyond p t up a
unfolding Joined
joined_beyond p t up a b j = sym j.0

-- joined as before, if it is the same beyond both
pub joined_agree : (p : Plan) (t u : Positions) (up : Bool) (a b : ℕ) → ((v : Bool) → beyond p u v a ≡ beyond p t v a) → ((v : Bool) → beyond p u v b ≡ beyond p t v b) →
    Joined p t up a b → Joined p u up a b
unfolding Joined
joined_agree p t u up a b f g j = (f up ∙ j.0, g (not up) ∙ j.1)

joined_back : (p : Plan) (t : Positions) (up : Bool) (a b : ℕ) → Joined p t up a b → Joined p t (not up) b a
unfolding Joined
joined_back p t true a b j = (j.1, j.0)
joined_back p t false a b j = (j.1, j.0)

-- HANGS
pub hangs_agree : (p : Plan) (t u : Positions) (up : Bool) (xs : List ℕ) → ((x : ℕ) → among x xs ≡ true → (v : Bool) → beyond p u v x ≡ beyond p t v x) →
    Hangs p t up xs → Hangs p u up xs
hangs_agree p t u up xs h nowhere = nowhere
hangs_agree p t u up xs h (in_one x) = in_one x
hangs_agree p t u up xs h (in_more x y ys j k) =
    in_more x y ys (joined_agree p t u up y x (h y (among_tail y x (y ∷ ys) (among_head y ys))) (h x (among_head x (y ∷ ys))) j)
    (hangs_agree p t u up (y ∷ ys) (λ z a. h z (among_tail z x (y ∷ ys) a)) k)

hangs_snoc : (p : Plan) (t : Positions) (up : Bool) (y x : ℕ) (zs : List ℕ) → Joined p t up x y → Hangs p t up (zs ++ (y ∷ [])) → Hangs p t up ((zs ++ (y ∷ [])) ++ (x ∷ []))
hangs_snoc p t up y x [] j h = in_more y x [] j (in_one x)
hangs_snoc p t up y x (z ∷ []) j (in_more a b bs i h) = in_more z y (x ∷ []) i (in_more y x [] j (in_one x))
hangs_snoc p t up y x (z ∷ (v ∷ zs)) j (in_more a b bs i h) = in_more z v ((zs ++ (y ∷ [])) ++ (x ∷ [])) i (hangs_snoc p t up y x (v ∷ zs) j h)

-- a train that is turned round hangs together the other way
pub hangs_round : (p : Plan) (t : Positions) (up : Bool) (xs : List ℕ) → Hangs p t up xs → Hangs p t (not up) (reversed xs)
unfolding reversed
hangs_round p t up xs nowhere = nowhere
hangs_round p t up xs (in_one x) = in_one x
hangs_round p t up xs (in_more x y ys j h) = hangs_snoc p t (not up) y x (reversed ys) (joined_back p t up y x j) (hangs_round p t up (y ∷ ys) h)

hangs_more : (p : Plan) (t : Positions) (up : Bool) (x y : ℕ) (ys : List ℕ) → Joined p t up y x → Hangs p t up (without_last (y ∷ ys)) → Hangs p t up (x ∷ without_last (y ∷ ys))
unfolding without_last
hangs_more p t up x y [] j h = in_one x
hangs_more p t up x y (z ∷ zs) j h = in_more x y (without_last (z ∷ zs)) j h

-- and so does one without its last section
pub hangs_without_last : (p : Plan) (t : Positions) (up : Bool) (xs : List ℕ) → Hangs p t up xs → Hangs p t up (without_last xs)
unfolding without_last
hangs_without_last p t up xs nowhere = nowhere
hangs_without_last p t up xs (in_one x) = nowhere
hangs_without_last p t up xs (in_more x y ys j h) = hangs_more p t up x y ys j (hangs_without_last p t up (y ∷ ys) h)

-- LEADS
-- the start is joined to the first of the path, each section of it to the next, and all are sections of the plan
pub leads_first : (p : Plan) (t : Positions) (up : Bool) (a : ℕ) (xs : List ℕ) → 0 < length xs → Leads p t up a xs → Joined p t up a (get_or xs 0 0)
leads_first p t up a xs less (there c) = absurd (omega arith)
leads_first p t up a xs less (on c b bs inside j l) = j

pub leads_at : (p : Plan) (t : Positions) (up : Bool) (a : ℕ) (xs : List ℕ) (k : ℕ) → Leads p t up a xs → suc k < length xs → Joined p t up (get_or xs k 0) (get_or xs (suc k) 0)
leads_at p t up a xs k (there c) less = absurd (omega arith)
leads_at p t up a xs zero (on c b bs inside j l) less = leads_first p t up b bs (omega arith) l
leads_at p t up a xs (suc k) (on c b bs inside j l) less = leads_at p t up b bs k l (omega arith)

pub leads_inside : (p : Plan) (t : Positions) (up : Bool) (a : ℕ) (xs : List ℕ) (k : ℕ) → Leads p t up a xs → k < length xs → get_or xs k 0 < p.sections
leads_inside p t up a xs k (there c) less = absurd (omega arith)
leads_inside p t up a xs zero (on c b bs inside j l) less = inside
leads_inside p t up a xs (suc k) (on c b bs inside j l) less = leads_inside p t up b bs k l (omega arith)
