-- A part in its place, and how many numbers a plan's parts are.
use Rattle.std.proofs.Common.{◌≡◌, ℕ, ◌+◌, ◌*◌, ◌≤◌, Bool, true, false, ◌&&◌, eqb, leb, List, [], ◌∷◌, ◌++◌, length, take, Some, None, Option, sym, refl, ap, ◌∙◌, append_assoc, arith, length-append, length-take-le}
use borrow.Rule.Slice.PartMut.{put_mid}
use Rattle.plan.specs.Plan.{pick}
use Rattle.plan.specs.Numbers.{bad_size, numbered, refused, sized, too_large, whole}
use Rattle.plan.specs.declared.Refusal.{Refusal}
use Rattle.plan.specs.declared.Refusal.TheVariants.{Length}
use Rattle.plan.specs.declared.Size.{Size}
use Rattle.plan.specs.declared.Size.TheVariants as size
use Rattle.std.proofs.lemmas.Slice.{put_mid-paste}
use Rattle.rows.specs.declared.Rows.{Rows}
use Rattle.rows.specs.declared.Sizes.{Sizes}
use Rattle.rows.specs.Rows.{few, numbers_in, parts_in, sizes_in, NotLength, put_in}

pub put_fits : (k m : ℕ) (xs ys part : List ℕ) → k + length part ≤ length xs → ys ≡ part → m ≡ length part → put_mid k m xs ys ≡ put_in xs k part
unfolding put_in
put_fits k m xs ys part h e q =
    let p = put_mid-paste k m xs ys part (length part) e (sym q) refl in
    let t : leb (k + length part) (length xs) ≡ true = grind arith in
    rw t p

pub put_none : (k : ℕ) (xs part : List ℕ) → (k + length part ≤ length xs → ⊥) → xs ≡ put_in xs k part
unfolding put_in
put_none k xs part h =
    let t : leb (k + length part) (length xs) ≡ false = grind arith in
    rw t

never : (o : Option Size) (m : Option ℕ) → NotLength (sized o (numbered m))
never (Some s) m = tt
never None (Some k) = tt
never None None = tt

-- as many numbers as the sizes ask for
pub exact : (v : List ℕ) → length v ≡ whole v → NotLength (refused v)
unfolding refused
exact v h =
    let t : eqb (length v) (whole v) ≡ true = grind arith in
    rw t (never (bad_size v) (too_large v 0 (length v)))

sized_out : (b1 b2 b3 b4 b5 b6 : Bool) (x : Option Refusal) → (b3 && (b4 && b5)) ≡ false →
    NotLength (sized (pick (b1 && (b2 && b3)) (pick b4 (pick b5 (pick b6 None (Some size.Time)) (Some size.Routes)) (Some size.Points)) (Some size.Sections)) x)
sized_out false b2 b3 b4 b5 b6 x e = tt
sized_out true false b3 b4 b5 b6 x e = tt
sized_out true true false b4 b5 b6 x e = tt
sized_out true true true false b5 b6 x e = tt
sized_out true true true true false b6 x e = tt
sized_out true true true true true b6 x e = let z : ◌≡◌ {A = ℕ} 0 1 = cc in absurd (omega arith)

-- only the sizes, where there are too many
pub only_sizes : (s : Sizes) (r : Rows) (v : List ℕ) → few s ≡ false → v ≡ sizes_in s → (v ≡ numbers_in s r) × NotLength (refused v)
unfolding refused numbers_in
only_sizes s r v f e =
    let a : v ≡ sizes_in s ++ pick (few s) (parts_in s r) [] = rw f e in
    let n : NotLength (refused (sizes_in s)) = sized_out (leb 4 (length (sizes_in s))) (leb 1 s.sections) (leb s.sections 64) (leb s.points 32) (leb s.routes 64) (leb s.time 1000)
    (pick (eqb (length (sizes_in s)) (whole (sizes_in s))) (numbered (too_large (sizes_in s) 0 (length (sizes_in s)))) (Some (Length (whole (sizes_in s))))) f in
    (a, rw e n)

small : (s : Sizes) → few s ≡ true → (s.sections ≤ 64) × (s.points ≤ 32) × (s.routes ≤ 64)
small s f = grind arith

long : (n p t r : ℕ) (a b c : List ℕ) → length a ≡ 11 * n → length b ≡ p → length c ≡ 52 * r →
    length ((n ∷ (p ∷ (t ∷ (r ∷ [])))) ++ ((a ++ b) ++ c)) ≡ whole ((n ∷ (p ∷ (t ∷ (r ∷ [])))) ++ ((a ++ b) ++ c))
long n p t r a b c ha hb hc =
    let l : length ((a ++ b) ++ c) ≡ 11 * n + p + 52 * r = omega (arith, length-append (a ++ b) c, length-append a b) in
    omega arith

-- the sizes and all parts, where there are few enough
pub all_parts : (s : Sizes) (r : Rows) (v a b c : List ℕ) → few s ≡ true → v ≡ ((sizes_in s ++ a) ++ b) ++ c →
    a ≡ take (11 * s.sections) r.sections → b ≡ take s.points r.points → c ≡ take (52 * s.routes) r.routes →
    length r.sections ≡ 704 → length r.points ≡ 32 → length r.routes ≡ 3328 → (v ≡ numbers_in s r) × NotLength (refused v)
unfolding numbers_in
all_parts s r v a b c f e ea eb ec la lb lc =
    let m = small s f in
    let ja : length a ≡ 11 * s.sections = ap length ea ∙ length-take-le (11 * s.sections) r.sections (omega arith) in
    let jb : length b ≡ s.points = ap length eb ∙ length-take-le s.points r.points (omega arith) in
    let jc : length c ≡ 52 * s.routes = ap length ec ∙ length-take-le (52 * s.routes) r.routes (omega arith) in
    let e2 : v ≡ sizes_in s ++ ((a ++ b) ++ c) = e ∙ simp append_assoc in
    let n : length v ≡ whole v = rw e2 (long s.sections s.points s.time s.routes a b c ja jb jc) in
    let x : v ≡ sizes_in s ++ pick (few s) (parts_in s r) [] = rw (f, ← ea, ← eb, ← ec) e2 in
    (x, exact v n)
