-- Points can lie as needed just if none is needed on both sides; and a path hangs together, however the others lie, just if each step does by its test.
use Rattle.std.proofs.Common.{◌≡◌, ℕ, ◌<◌, Bool, true, false, not, eqb, List, [], ◌∷◌, refl, inl, inr, arith}
use Rattle.plan.specs.Plan.{pick, sameb, End, Plan, Positions, beyond, Joined, met, Leads, there, on}
use Rattle.plan.specs.declared.Need.{Need}
use Rattle.soundness.specs.Tests.{needed_so, agree, leads_to, joins, hangs}
use Rattle.soundness.proofs.Each.{decide}

pub met_so : (t : Positions) (ns : List Need) (q : ℕ) (l : Bool) → met t ns ≡ true → needed_so q l ns ≡ true → t q ≡ l
unfolding met needed_so sameb
met_so t [] q l h e = absurd (grind arith)
met_so t (n ∷ ns) q l h e = let ih = met_so t ns q l in grind arith

pub met_if : (t : Positions) (ns : List Need) → ((q : ℕ) (l : Bool) → needed_so q l ns ≡ true → t q ≡ l) → met t ns ≡ true
unfolding met needed_so sameb
met_if t [] h = refl
met_if t (n ∷ ns) h =
    let ih = met_if t ns (λ q l e. h q l (grind arith)) in
    let here = h n.point n.left (grind arith) in grind arith

agree_so : (all ns : List Need) (q : ℕ) → agree all ns ≡ true → needed_so q true ns ≡ true → needed_so q false all ≡ false
unfolding agree needed_so sameb
agree_so all [] q h e = grind arith
agree_so all (n ∷ ns) q h e =
    let ih = agree_so all ns q in
    elim (decide (eqb q n.point)) [
      | inl f ↦ (let s : q ≡ n.point = grind arith in elim (decide n.left) [
        | inl l ↦ (let g : needed_so n.point (not n.left) all ≡ false = grind arith in rw (← s, l) at g)
        | inr l ↦ ih (grind arith) (grind arith)
      ])
      | inr f ↦ ih (grind arith) (grind arith)
    ]

pub agree_meets : (ns : List Need) → agree ns ns ≡ true → (t : Positions) × (met t ns ≡ true)
agree_meets ns h = (λ q. needed_so q true ns, met_if (λ q. needed_so q true ns) ns go)
  where
    go : (q : ℕ) (l : Bool) → needed_so q l ns ≡ true → needed_so q true ns ≡ l
    go q true e = e
    go q false e = let g = agree_so ns ns q h in grind arith

pub meets_agree : (t : Positions) (all ns : List Need) → met t all ≡ true → met t ns ≡ true → agree all ns ≡ true
unfolding agree met sameb
meets_agree t all [] a h = refl
meets_agree t all (n ∷ ns) a h =
    let ih = meets_agree t all ns a (grind arith) in
    let so = met_so t all n.point (not n.left) a in grind arith

-- one point laid so
abbrev laid : Positions → ℕ → Bool → Positions
laid t q l k = pick (eqb k q) l (t k)

met_laid : (t : Positions) (ns : List Need) (q : ℕ) (l : Bool) → met t ns ≡ true → needed_so q (not l) ns ≡ false → met (laid t q l) ns ≡ true
unfolding met needed_so sameb
met_laid t [] q l h e = refl
met_laid t (n ∷ ns) q l h e = let ih = met_laid t ns q l in grind arith

-- what lies beyond an end
abbrev lies : Positions → End → ℕ
lies t e = pick e.moves (pick (t e.point) e.on_left e.on_right) e.on_left

lies_at : (t : Positions) (ns : List Need) (e : End) (b : ℕ) → met t ns ≡ true → leads_to ns e b ≡ true → lies t e ≡ b
unfolding leads_to
lies_at t ns e b h k =
    let a = met_so t ns e.point true h in
    let c = met_so t ns e.point false h in grind arith

at_lies : (t : Positions) (ns : List Need) (e : End) (b : ℕ) → met t ns ≡ true → ((u : Positions) → met u ns ≡ true → lies u e ≡ b) → leads_to ns e b ≡ true
unfolding leads_to
at_lies t ns e b h k =
    let here = k t h in
    let a = k (laid t e.point true) in
    let c = met_laid t ns e.point true h in
    let d = k (laid t e.point false) in
    let f = met_laid t ns e.point false h in grind arith

joins_joined : (p : Plan) (t : Positions) (ns : List Need) (up : Bool) (a b : ℕ) → met t ns ≡ true → joins p ns up a b ≡ true → (b < p.sections) × Joined p t up a b
unfolding joins Joined beyond
joins_joined p t ns up a b h k =
    let f = lies_at t ns (p.end up a) b h (grind arith) in
    let g = lies_at t ns (p.end (not up) b) a h (grind arith) in (grind arith, (f, g))

pub hangs_leads : (p : Plan) (t : Positions) (ns : List Need) (up : Bool) (a : ℕ) (xs : List ℕ) → met t ns ≡ true → hangs p ns up a xs ≡ true → Leads p t up a xs
unfolding hangs
hangs_leads p t ns up a [] h k = there a
hangs_leads p t ns up a (b ∷ xs) h k =
    let j = joins_joined p t ns up a b h (grind arith) in
    on a b xs j.0 j.1 (hangs_leads p t ns up b xs h (grind arith))

first_step : {p : Plan} {t : Positions} {up : Bool} {a b : ℕ} {xs : List ℕ} → Leads p t up a (b ∷ xs) → (b < p.sections) × Joined p t up a b × Leads p t up b xs
first_step (on a b xs l j r) = (l, j, r)

pub leads_hangs : (p : Plan) (t : Positions) (ns : List Need) (up : Bool) (a : ℕ) (xs : List ℕ) → met t ns ≡ true →
    ((u : Positions) → met u ns ≡ true → Leads p u up a xs) → hangs p ns up a xs ≡ true
unfolding hangs joins Joined beyond
leads_hangs p t ns up a [] h k = refl
leads_hangs p t ns up a (b ∷ xs) h k =
    let ih = leads_hangs p t ns up b xs h (λ u m. (first_step (k u m)).2) in
    let l = (first_step (k t h)).0 in
    let f = at_lies t ns (p.end up a) b h (λ u m. (first_step (k u m)).1.0) in
    let g = at_lies t ns (p.end (not up) b) a h (λ u m. (first_step (k u m)).1.1) in grind arith
