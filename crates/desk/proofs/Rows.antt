-- A row of those that wait: what is asked for, withdrawn and served, over lists.
use Rattle.std.proofs.Common.{◌≡◌, ℕ, zero, suc, ◌+◌, ◌-◌, ◌<◌, ◌≤◌, Bool, true, false, ◌||◌, eqb, List, [], ◌∷◌, ◌++◌, length, get_or, take, drop, set, ltb, cond, Option, Some, None, refl, ap, ◌∙◌, add-one, arith, rules, ltb-false}
use Rattle.std.proofs.lemmas.List.Sums.{prefix_len-le-length}
use Rattle.std.proofs.lemmas.List.{at_drop_more, at_drop_all, append_assoc, append-nil, take_more_set, length-take, same_lists, places}
use Rattle.std.specs.List.{position_or_len}
use Rattle.std.specs.Option.{unwrap_or}
use lib.Seq.{paste}
use Rattle.plan.specs.Plan.{pick, Plan, Positions}
use Rattle.plan.proofs.Walks.{folds_more, folds_all}
use Rattle.interlocking.specs.State.{State, Occupancy, does, acts}
use Rattle.interlocking.specs.Says.{Says, state_of}
use Rattle.interlocking.specs.declared.Interlocking.{Interlocking}
use Rattle.interlocking.specs.declared.Answer.{Answer}
use Rattle.interlocking.specs.declared.Request.{Request}
use Rattle.desk.specs.Desk.{waits, first_at, without, served_all, answers, Serves, Rising, KeepsOrder}
use Rattle.desk.specs.Desk.Rising.{end, then}
use Rattle.desk.specs.declared.Served.{Served}
use Rattle.desk.specs.declared.Ticketed.{Ticketed}

-- the place of a ticket is where the library finds it
pub position_is : (n : ℕ) (ws : List Ticketed) → position_or_len (λ (w : Ticketed). eqb w.ticket n) ws ≡ first_at n ws
unfolding first_at
position_is n [] = refl
position_is n (w ∷ ws) = let r = position_is n ws in go (eqb w.ticket n) refl r
  where
    go : (b : Bool) → eqb w.ticket n ≡ b → position_or_len (λ (w : Ticketed). eqb w.ticket n) ws ≡ first_at n ws → position_or_len (λ (w : Ticketed). eqb w.ticket n) (w ∷ ws) ≡ pick (eqb w.ticket n) 0 (suc (first_at n ws))
    go true e r = grind arith
    go false e r = grind arith

pub place_is : (n : ℕ) (ws : List Ticketed) (r : Option ℕ) →
    r ≡ cond (ltb (position_or_len (λ (w : Ticketed). eqb w.ticket n) ws) (length ws)) (Some (position_or_len (λ (w : Ticketed). eqb w.ticket n) ws)) None → unwrap_or r (length ws) ≡ first_at n ws
place_is n ws r e =
    let l : position_or_len (λ (w : Ticketed). eqb w.ticket n) ws ≤ length ws = prefix_len-le-length _ ws in
    go (position_or_len (λ (w : Ticketed). eqb w.ticket n) ws) (ltb (position_or_len (λ (w : Ticketed). eqb w.ticket n) ws) (length ws)) refl l e ∙ position_is n ws
  where
    go : (p : ℕ) (b : Bool) → ltb p (length ws) ≡ b → p ≤ length ws → r ≡ cond b (Some p) None → unwrap_or r (length ws) ≡ p
    go p true t l e = rw e
    go p false t l e = let k = ltb-false p (length ws) t in rw e (omega arith)

-- what goes is the first that has the ticket
pub waits_at : (n : ℕ) (ws : List Ticketed) → first_at n ws < length ws → true ≡ waits n ws
unfolding first_at waits
waits_at n [] l = absurd (omega arith)
waits_at n (w ∷ ws) l = go (eqb w.ticket n) refl (waits_at n ws)
  where
    go : (b : Bool) → eqb w.ticket n ≡ b → (first_at n ws < length ws → true ≡ waits n ws) → true ≡ (eqb w.ticket n || waits n ws)
    go true e ih = rw e
    go false e ih = let m : pick (eqb w.ticket n) 0 (suc (first_at n ws)) < length (w ∷ ws) = l in rw e (ih (let k = rw e at m in omega arith))

pub waits_not : (n : ℕ) (ws : List Ticketed) → length ws ≤ first_at n ws → false ≡ waits n ws
unfolding first_at waits
waits_not n [] l = refl
waits_not n (w ∷ ws) l = go (eqb w.ticket n) refl (waits_not n ws)
  where
    go : (b : Bool) → eqb w.ticket n ≡ b → (length ws ≤ first_at n ws → false ≡ waits n ws) → false ≡ (eqb w.ticket n || waits n ws)
    go true e ih = let m : length (w ∷ ws) ≤ pick (eqb w.ticket n) 0 (suc (first_at n ws)) = l in absurd (let k = rw e at m in omega arith)
    go false e ih = let m : length (w ∷ ws) ≤ pick (eqb w.ticket n) 0 (suc (first_at n ws)) = l in rw e (ih (let k = rw e at m in omega arith))

pub goes_one : (n : ℕ) (ws : List Ticketed) → first_at n ws < length ws → take (first_at n ws) ws ++ drop (suc (first_at n ws)) ws ≡ without n ws
unfolding first_at without
goes_one n [] l = absurd (omega arith)
goes_one n (w ∷ ws) l = go (eqb w.ticket n) refl (goes_one n ws)
  where
    go : (b : Bool) → eqb w.ticket n ≡ b → (first_at n ws < length ws → take (first_at n ws) ws ++ drop (suc (first_at n ws)) ws ≡ without n ws) →
        take (pick (eqb w.ticket n) 0 (suc (first_at n ws))) (w ∷ ws) ++ drop (suc (pick (eqb w.ticket n) 0 (suc (first_at n ws)))) (w ∷ ws) ≡ pick (eqb w.ticket n) ws (w ∷ without n ws)
    go true e ih = rw e
    go false e ih =
        let m : pick (eqb w.ticket n) 0 (suc (first_at n ws)) < length (w ∷ ws) = l in
        rw e (ap (λ zs. w ∷ zs) (ih (let k = rw e at m in omega arith)))

pub goes_none : (n : ℕ) (ws : List Ticketed) → length ws ≤ first_at n ws → ws ≡ without n ws
unfolding first_at without
goes_none n [] l = refl
goes_none n (w ∷ ws) l = go (eqb w.ticket n) refl (goes_none n ws)
  where
    go : (b : Bool) → eqb w.ticket n ≡ b → (length ws ≤ first_at n ws → ws ≡ without n ws) → w ∷ ws ≡ pick (eqb w.ticket n) ws (w ∷ without n ws)
    go true e ih = let m : length (w ∷ ws) ≤ pick (eqb w.ticket n) 0 (suc (first_at n ws)) = l in absurd (let k = rw e at m in omega arith)
    go false e ih = let m : length (w ∷ ws) ≤ pick (eqb w.ticket n) 0 (suc (first_at n ws)) = l in rw e (ap (λ zs. w ∷ zs) (ih (let k = rw e at m in omega arith)))

-- the row, one more behind
pub row_more : (xs : List Ticketed) (c n : ℕ) (w : Ticketed) → n ≡ length (take c xs) → n < length xs → take (n + 1) (set xs n w) ≡ take c xs ++ w ∷ []
row_more xs c n w e l =
    let a = length-take c xs in
    let f : c ≡ n = omega arith in
    let b = take_more_set xs n w l in cc

-- the row, one less from some place on
pub row_less : (xs : List Ticketed) (c n i : ℕ) → length xs ≡ 64 → n ≡ length (take c xs) → i < n →
    take (n - 1) (paste xs i (drop (i + 1) xs) (length xs - (i + 1))) ≡ take i (take c xs) ++ drop (i + 1) (take c xs)
row_less xs c n i m e l =
    let a = length-take c xs in
    same_lists _ _ (search (rules, places)) (λ k d h. grind (arith, places))

-- the row, served from the front
pub serves_one : (p : Plan) (h : Interlocking) (s : Occupancy) (t : Positions) (ws rest : List Ticketed) (left : Interlocking) (v : Served) (d : Ticketed) → (length ws ≡ 0 → ⊥) →
    rest ≡ drop 1 ws → v.ticket ≡ (get_or ws 0 d).ticket → Says p h s t (get_or ws 0 d).request left v.answer → Serves p h s t ws rest left (Some v)
serves_one p h s t [] rest left v d f e g k = absurd (f refl)
serves_one p h s t (w ∷ ws) rest left v d f e g k = (e, g, k)

pub row_first : (xs : List Ticketed) (c : ℕ) (d : Ticketed) → (length (take c xs) ≡ 0 → ⊥) → get_or xs 0 d ≡ get_or (take c xs) 0 d
row_first xs zero d f = absurd (f refl)
row_first [] (suc c) d f = refl
row_first (x ∷ xs) (suc c) d f = refl

-- all served, one after the other
module _ (p : Plan) (s : Occupancy) (t : Positions) where
  served_cons : (w : Ticketed) (ws : List Ticketed) (h : State) → served_all p s t (w ∷ ws) h ≡ served_all p s t ws (acts p h s t w.request)
  unfolding served_all
  served_cons w ws h = refl

  answers_cons : (w : Ticketed) (ws : List Ticketed) (h : State) →
      answers p s t (w ∷ ws) h ≡ record { ticket = w.ticket; answer = record { request = w.request; done = does p h s t w.request } } ∷ answers p s t ws (acts p h s t w.request)
  unfolding answers
  answers_cons w ws h = refl

  pub served_more : (ws : List Ticketed) (i : ℕ) (d : Ticketed) (h left : Interlocking) (a : Answer) (r : State) → i < length ws → served_all p s t (drop i ws) (state_of h) ≡ r →
      Says p h s t (get_or ws i d).request left a → served_all p s t (drop (i + 1) ws) (state_of left) ≡ r
  served_more ws i d h left a r l e q =
      folds_more (served_all p s t) (λ g w. acts p g s t w.request) served_cons ws i d (state_of h) (state_of left) r l e q.state

  pub served_end : (ws : List Ticketed) (i : ℕ) (h : State) (r : State) → length ws ≤ i → served_all p s t (drop i ws) h ≡ r → h ≡ r
  unfolding served_all
  served_end ws i h r l e = folds_all (served_all p s t) ws i h r l e

  answer_is : (a : Answer) (q : Request) (b : Bool) → a.request ≡ q → a.done ≡ b → a ≡ record { request = q; done = b }
  answer_is a q b e f = rw (← e, ← f)

  pub answers_more : (ws : List Ticketed) (i : ℕ) (d : Ticketed) (h left : Interlocking) (a : Answer) (vs us : List Served) (r : List Served) → i < length ws →
      vs ++ answers p s t (drop i ws) (state_of h) ≡ r → Says p h s t (get_or ws i d).request left a →
      us ≡ vs ++ record { ticket = (get_or ws i d).ticket; answer = a } ∷ [] → us ++ answers p s t (drop (i + 1) ws) (state_of left) ≡ r
  answers_more ws i d h left a vs us r l e q f =
      let u = at_drop_more (λ zs. answers p s t zs (state_of h)) ws i d l in
      let v = answers_cons (get_or ws i d) (drop (i + 1) ws) (state_of h) in
      let w = q.state in
      let g = answer_is a (get_or ws i d).request (does p (state_of h) s t (get_or ws i d).request) q.request q.done_is in
      let k = append_assoc vs (record { ticket = (get_or ws i d).ticket; answer = a } ∷ []) (answers p s t (drop (i + 1) ws) (state_of left)) in cc

  pub answers_end : (ws : List Ticketed) (i : ℕ) (h : State) (vs r : List Served) → length ws ≤ i → vs ++ answers p s t (drop i ws) h ≡ r → vs ≡ r
  unfolding answers
  answers_end ws i h vs r l e =
      let u = at_drop_all (λ zs. answers p s t zs h) ws i l in
      let v = append-nil vs in cc

-- tickets in order
weaker : (low lower : ℕ) (ws : List Ticketed) (next : ℕ) → lower ≤ low → Rising low ws next → Rising lower ws next
weaker low lower [] next l (end a b m) = end lower next (omega arith)
weaker low lower (w ∷ ws) next l (then a b x xs m r) = then lower next w ws (omega arith) r

rising_asked : (low : ℕ) (ws : List Ticketed) (next : ℕ) (a : Request) → Rising low ws next → Rising low (ws ++ record { ticket = next; request = a } ∷ []) (next + 1)
rising_asked low [] next a (end x y m) = then low (next + 1) (record { ticket = next; request = a }) [] m (end (suc next) (next + 1) (omega arith))
rising_asked low (w ∷ ws) next a (then x y v vs m r) = then low (next + 1) w (ws ++ record { ticket = next; request = a } ∷ []) m (rising_asked (suc w.ticket) ws next a r)

rising_without : (low n : ℕ) (ws : List Ticketed) (next : ℕ) → Rising low ws next → Rising low (without n ws) next
unfolding without
rising_without low n [] next r = r
rising_without low n (w ∷ ws) next (then x y v vs m r) = go (eqb w.ticket n) (rising_without (suc w.ticket) n ws next r)
  where
    go : (b : Bool) → Rising (suc w.ticket) (without n ws) next → Rising low (pick b ws (w ∷ without n ws)) next
    go true k = weaker (suc w.ticket) low ws next (omega arith) r
    go false k = then low next w (without n ws) m k

pub order_kept : KeepsOrder
order_kept = record {
  asked = rising_asked;
  withdrawn = rising_without;
  served = λ low w ws next r. tail low w ws next r;
}
  where
    tail : (low : ℕ) (w : Ticketed) (ws : List Ticketed) (next : ℕ) → Rising low (w ∷ ws) next → Rising low ws next
    tail low w ws next (then x y v vs m r) = weaker (suc w.ticket) low ws next (omega arith) r

pub none_served : (vs us : List Served) → vs ≡ [] → vs ++ us ≡ us
none_served vs us e = rw e

-- a ticket withdrawn: the row that was looked at is the row, and the place is where it stands
pub withdrawn_one : (n : ℕ) (ws vs : List Ticketed) (i m : ℕ) (rest : List Ticketed) → vs ≡ ws → i ≡ first_at n vs → m ≡ length ws → i < m → rest ≡ take i ws ++ drop (i + 1) ws →
    (true ≡ waits n ws) × (rest ≡ without n ws)
withdrawn_one n ws vs i m rest e f g l r =
    let h : i ≡ first_at n ws = f ∙ ap (first_at n) e in
    let k : first_at n ws < length ws = omega arith in
    let a = goes_one n ws k in
    let b = add-one i in (waits_at n ws k, cc)

pub withdrawn_none : (n : ℕ) (ws vs : List Ticketed) (i m : ℕ) → vs ≡ ws → i ≡ first_at n vs → m ≡ length ws → m ≤ i → (false ≡ waits n ws) × (ws ≡ without n ws)
withdrawn_none n ws vs i m e f g l =
    let h : i ≡ first_at n ws = f ∙ ap (first_at n) e in
    let k : length ws ≤ first_at n ws = omega arith in (waits_not n ws k, goes_none n ws k)
