-- Which numbers a journal can begin with.
use Rattle.std.proofs.Common.{◌≡◌, ℕ, suc, ◌+◌, ◌*◌, min, ◌<◌, ◌≤◌, Bool, true, false, leb, List, [], ◌∷◌, ◌++◌, map, length, get_or, take, drop, set, Ok, Err, vec_items, Result, sym, refl, ap, ◌∙◌, subst, arith}
use lib.Seq.{take-append-add}
use Rattle.std.specs.List.{flat_map}
use Rattle.std.proofs.lemmas.List.{append_assoc, append-nil, drop_at, drop-take, get_or_append_left, get_or-map, flat_map_more, length-append, length-drop, length-map, length-take, map-set, take_all, take-append-drop, take-append-le, take_at, take_more, take_more_set, take-take}
use Rattle.message.specs.Numbers.{bit}
use Rattle.message.specs.declared.Message.TheVariants.{Event as EventTold}
use Rattle.message.proofs.Places.{same_at}
use Rattle.message.proofs.Back.{apart}
use Rattle.model.specs.declared.Event.{Event}
use Rattle.journal.specs.Entries.{entry_numbers, entry_of, journal_numbers}
use Rattle.journal.specs.Reads.{ComesBack, ReadBack, Reads, Begins, FirstWrong, FirstWrongEntry}
use Rattle.journal.specs.declared.Entry.{Entry}
use Rattle.journal.specs.declared.Journal.{Journal}
use Rattle.journal.specs.declared.read.Refusal.{Refusal}
use Rattle.journal.specs.declared.read.Refusal.TheVariants.{Memory, Place}
use Rattle.journal.proofs.Entries.{within_five, within_length}

-- beyond a part that two lists have of the same length
past : {A : Type 0} (n k : ℕ) (xs ys xs₁ ys₁ : List A) → length xs ≡ n → length xs₁ ≡ n → take (n + k) (xs ++ ys) ≡ take (n + k) (xs₁ ++ ys₁) → take k ys ≡ take k ys₁
past {A} n k xs ys xs₁ ys₁ e f g = sym (rest xs ys e) ∙ ap (drop n) g ∙ rest xs₁ ys₁ f
  where
    rest : (xs ys : List A) → length xs ≡ n → drop n (take (n + k) (xs ++ ys)) ≡ take k ys
    rest xs ys e = drop-take n k (xs ++ ys) ∙ ap (take k) (drop_at xs ys n e)

ahead : {A : Type 0} (n k : ℕ) (xs ys : List A) → length xs ≡ n → take (n + k) (xs ++ ys) ≡ xs ++ take k ys
ahead n k xs ys e = subst (λ (m : ℕ). take (m + k) (xs ++ ys) ≡ xs ++ take k ys) e (take-append-add xs ys k)

-- entries, with nothing before them

abbrev BeginsRows : List ℕ → ℕ → Type 0
BeginsRows ns k = (es : List Entry) × (take k ns ≡ take k (flat_map entry_numbers es))

none_there : (e : Entry) (ns : List ℕ) (k : ℕ) → take (5 + k) (entry_numbers e ++ ns) ≡ take (5 + k) [] → ⊥
none_there e ns k g =
    let a = ap length g in let b = length-take (5 + k) (entry_numbers e ++ ns) in let x = length-take {A = ℕ} (5 + k) [] in
    let y = length-append (entry_numbers e) ns in
    let z : length (entry_numbers e) ≡ 5 = refl in
    omega arith

after_entry : (e : Entry) (ns : List ℕ) (k : ℕ) → BeginsRows (entry_numbers e ++ ns) (5 + k) → BeginsRows ns k
after_entry e ns k ([], g) = absurd (none_there e ns k g)
after_entry e ns k (f ∷ fs, g) = (fs, past 5 k (entry_numbers e) ns (entry_numbers f) (flat_map entry_numbers fs) refl refl g)

after_rows : (es : List Entry) (ns : List ℕ) (n k : ℕ) → n ≡ length (flat_map entry_numbers es) → BeginsRows (flat_map entry_numbers es ++ ns) (n + k) → BeginsRows ns k
after_rows [] ns n k e h = let a : n + k ≡ k = omega arith in subst (BeginsRows ns) a h
after_rows (x ∷ es) ns n k e h =
    let a = length-append (entry_numbers x) (flat_map entry_numbers es) in
    let z : length (entry_numbers x) ≡ 5 = refl in
    let b : n + k ≡ 5 + (length (flat_map entry_numbers es) + k) = omega arith in
    let P : ℕ → Type 0 = λ m. BeginsRows (entry_numbers x ++ (flat_map entry_numbers es ++ ns)) m in
    let f = append_assoc (entry_numbers x) (flat_map entry_numbers es) ns in
    let Q : List ℕ → Type 0 = λ m. BeginsRows m (n + k) in
    after_rows es ns (length (flat_map entry_numbers es)) k refl (after_entry x (flat_map entry_numbers es ++ ns) (length (flat_map entry_numbers es) + k) (subst P b (subst Q f h)))

bits_long : (ls : List Bool) → length ls ≡ 32 → length (map bit ls) ≡ 32
bits_long ls e = length-map ls bit ∙ e

-- beyond a whole journal
after_journal : (ls : List Bool) (es : List Entry) (ns : List ℕ) (n k : ℕ) → length ls ≡ 32 → n ≡ length (journal_numbers ls es) → Begins (journal_numbers ls es ++ ns) (n + k) → BeginsRows ns k
unfolding journal_numbers
after_journal ls es ns n k l e (ms, fs, o, g) =
    let a = length-append (map bit ls) (flat_map entry_numbers es) in let b = bits_long ls l in
    let x : n + k ≡ 32 + (length (flat_map entry_numbers es) + k) = omega arith in
    let P : ℕ → Type 0 = λ m. take m ((map bit ls ++ flat_map entry_numbers es) ++ ns) ≡ take m (map bit ms ++ flat_map entry_numbers fs) in
    let h = subst P x g in
    let i = ap (take (32 + (length (flat_map entry_numbers es) + k))) (append_assoc (map bit ls) (flat_map entry_numbers es) ns) in
    after_rows es ns (length (flat_map entry_numbers es)) k refl
    (fs, past 32 (length (flat_map entry_numbers es) + k) (map bit ls) (flat_map entry_numbers es ++ ns) (map bit ms) (flat_map entry_numbers fs) b (bits_long ms o) (sym i ∙ h))

pub numbers_more : (ls : List Bool) (es fs : List Entry) (e : Entry) → fs ≡ es ++ e ∷ [] → journal_numbers ls fs ≡ journal_numbers ls es ++ entry_numbers e
unfolding journal_numbers
numbers_more ls es fs e f = ap (λ (z : List Entry). map bit ls ++ flat_map entry_numbers z) f ∙ sym (flat_map_more entry_numbers (map bit ls) es e)

-- where an entry is wrong
module _ (ls : List Bool) (es : List Entry) (rest : List ℕ) (n place : ℕ) (l : length ls ≡ 32) (e : n ≡ length (journal_numbers ls es)) (w : FirstWrongEntry (take 5 rest) place) where
  short : place < 5
  short = let a = length-take 5 rest in within_five (take 5 rest) place (omega arith) w

  wrong_before : Begins (journal_numbers ls es ++ rest) (n + place)
  wrong_before =
      let o = short in
      let x = w.before.0 in
      let a : take place rest ≡ take place (entry_numbers x) = sym (take-take place 5 rest (omega arith)) ∙ w.before.1 in (
        ls,
        es ++ x ∷ [],
        l,
        ahead n place (journal_numbers ls es) rest (sym e) ∙ ap (λ (z : List ℕ). journal_numbers ls es ++ z) a
            ∙ sym (ahead n place (journal_numbers ls es) (entry_numbers x) (sym e)) ∙ ap (take (n + place)) (sym (numbers_more ls es (es ++ x ∷ []) x refl)),
      )

  no_row : 0 < length rest → BeginsRows rest (suc place) → ⊥
  no_row p ([], g) =
      let a = ap length g in let b = length-take (suc place) rest in let x = length-take {A = ℕ} (suc place) [] in omega arith
  no_row p (f ∷ fs, g) =
      let o = short in
      let z : length (entry_numbers f) ≡ 5 = refl in
      w.here (f, take-take (suc place) 5 rest (omega arith) ∙ g ∙ take-append-le (suc place) (entry_numbers f) (flat_map entry_numbers fs) (omega arith))

  wrong_here : 0 < length rest → Begins (journal_numbers ls es ++ rest) (suc (n + place)) → ⊥
  wrong_here p h =
      let a : suc (n + place) ≡ n + suc place = omega arith in
      no_row p (after_journal ls es rest n (suc place) l e (subst (Begins (journal_numbers ls es ++ rest)) a h))

  pub wrong_entry : (ns : List ℕ) → ns ≡ journal_numbers ls es ++ rest → 0 < length rest → FirstWrong ns (n + place)
  wrong_entry ns f p =
      subst (λ (z : List ℕ). FirstWrong z (n + place)) (sym f) (record { before = wrong_before; here = wrong_here p })

-- how the points lay

pub none_yet : (ls : List Bool) → journal_numbers ls [] ≡ map bit ls
unfolding journal_numbers
none_yet ls = append-nil (map bit ls)

bit_most : (b : Bool) → bit b ≤ 1
bit_most true = omega arith
bit_most false = omega arith

bits_in : (ls : List Bool) (es : List Entry) (i : ℕ) → i < length ls → get_or (journal_numbers ls es) i 0 ≤ 1
unfolding journal_numbers
bits_in ls es i l =
    let a = get_or_append_left (map bit ls) (flat_map entry_numbers es) 0 i (let z = length-map ls bit in omega arith) in
    let b = get_or-map bit ls i false 0 l in
    let m = bit_most (get_or ls i false) in omega arith

long : (ls : List Bool) (es : List Entry) → length ls ≤ length (journal_numbers ls es)
unfolding journal_numbers
long ls es = let a = length-append (map bit ls) (flat_map entry_numbers es) in let z = length-map ls bit in omega arith

pub wrong_point : (ns : List ℕ) (ls : List Bool) (i : ℕ) → length ls ≡ 32 → i < 32 → take i ns ≡ take i (map bit ls) → (i < length ns → 1 < get_or ns i 0) → FirstWrong ns i
wrong_point ns ls i l o e w = record {
  before = (ls, [], l, e ∙ ap (take i) (sym (none_yet ls)));
  here = λ (ms, es, m, g).
      let a = ap length g in let b = length-take (suc i) ns in let c = length-take (suc i) (journal_numbers ms es) in let d = long ms es in
      let there : i < length ns = omega arith in
      let s = same_at i ns (journal_numbers ms es) i (omega arith) g in
      let f = bits_in ms es i (omega arith) in
      let h = w there in omega arith;
}

pub points_more : (ns : List ℕ) (ls ms : List Bool) (i : ℕ) (b : Bool) → length ls ≡ 32 → i < 32 → i < length ns → get_or ns i 0 ≡ bit b → ms ≡ set ls i b →
    take i ns ≡ take i (map bit ls) → take (i + 1) ns ≡ take (i + 1) (map bit ms)
points_more ns ls ms i b l o p e f k =
    let z = length-map ls bit in
    take_more ns i 0 p ∙ ap (λ (x : ℕ). take i ns ++ x ∷ []) e ∙ ap (λ (x : List ℕ). x ++ bit b ∷ []) k
    ∙ sym (take_more_set (map bit ls) i (bit b) (omega arith)) ∙ ap (take (i + 1)) (sym (map-set bit ls i b) ∙ ap (map bit) (sym f))

pub points_there : (ns : List ℕ) (ls : List Bool) → (length ls ≡ 32) × (take 32 ns ≡ map bit ls) → 32 ≤ length ns
points_there ns ls (l, e) = let a = ap length e in let b = length-take 32 ns in let c = bits_long ls l in omega arith

-- what is read so far

rows_long : (es : List Entry) → length (flat_map entry_numbers es) ≡ 5 * length es
rows_long [] = refl
rows_long (e ∷ es) =
    let a = length-append (entry_numbers e) (flat_map entry_numbers es) in let b = rows_long es in
    let z : length (entry_numbers e) ≡ 5 = refl in omega arith

numbers_long : (ls : List Bool) (es : List Entry) → length ls ≡ 32 → length (journal_numbers ls es) ≡ 32 + 5 * length es
unfolding journal_numbers
numbers_long ls es l =
    let a = length-append (map bit ls) (flat_map entry_numbers es) in let b = rows_long es in let c = bits_long ls l in omega arith

-- a journal of n entries that was read, and the numbers that follow
pub record SoFar (ns : List ℕ) (ls : List Bool) (es : List Entry) (n : ℕ) (rest : List ℕ) : Type 0 where
  pub lies : length ls ≡ 32
  pub count : n ≡ length es
  pub so : ns ≡ journal_numbers ls es ++ rest

pub so_none : (ns : List ℕ) (ls ms : List Bool) (es : List Entry) → (length ls ≡ 32) × (take 32 ns ≡ map bit ls) → ms ≡ ls → es ≡ [] → SoFar ns ms es 0 (drop 32 ns)
so_none ns ls ms es (l, e) f g =
    let a : journal_numbers ms es ≡ map bit ls = ap (λ (z : List Bool). journal_numbers z es) f ∙ ap (journal_numbers ls) g ∙ none_yet ls in
    let b = ap length g in
    record {
      lies = ap length f ∙ l;
      count = sym b;
      so = sym (take-append-drop 32 ns) ∙ ap (λ (z : List ℕ). z ++ drop 32 ns) (e ∙ sym a);
    }

-- five numbers, or as many as there are
module _ (ns : List ℕ) (ls : List Bool) (es : List Entry) (n : ℕ) (few rest later : List ℕ) (k : SoFar ns ls es n rest) (f : rest ≡ few ++ later) where
  pub so_more : (ms : List Bool) (fs : List Entry) (e : Entry) → few ≡ entry_numbers e → ms ≡ ls → fs ≡ es ++ e ∷ [] → SoFar ns ms fs (n + 1) later
  so_more ms fs e g h i =
      let a : journal_numbers ms fs ≡ journal_numbers ls es ++ entry_numbers e = ap (λ (z : List Bool). journal_numbers z fs) h ∙ numbers_more ls es fs e i in
      let b = ap length i in let c = length-append es (e ∷ []) in let d = k.count in
      let z : length (e ∷ []) ≡ 1 = refl in
      record {
        lies = ap length h ∙ k.lies;
        count = omega arith;
        so = k.so ∙ ap (λ (x : List ℕ). journal_numbers ls es ++ x) (f ∙ ap (λ (x : List ℕ). x ++ later) g) ∙ sym (append_assoc (journal_numbers ls es) (entry_numbers e) later) ∙ ap (λ (x : List ℕ). x ++ later) (sym a);
      }

  module _ (l : length few ≡ min 5 (length rest)) (place : ℕ) (w : FirstWrongEntry few place) where
    five : (b : Bool) → leb 5 (length rest) ≡ b → few ≡ take 5 rest
    five true q = sym (ap (take 5) f ∙ take_at few later 5 (grind arith))
    five false q =
        let a = ap length f in let b = length-append few later in
        let none : later ≡ [] = nothing later (grind arith) in
        sym (take_all 5 rest (grind arith) ∙ f ∙ ap (λ (x : List ℕ). few ++ x) none ∙ append-nil few)
      where
        nothing : (xs : List ℕ) → length xs ≡ 0 → xs ≡ []
        nothing [] o = refl
        nothing (x ∷ xs) o = absurd (omega arith)

    pub wrong_row : 0 < length rest → FirstWrong ns (32 + 5 * n + place)
    wrong_row p =
        let P : List ℕ → Type 0 = λ z. FirstWrongEntry z place in let q = k.count in
        let c = numbers_long ls es k.lies in
        wrong_entry ls es rest (32 + 5 * n) place k.lies (omega arith) (subst P (five (leb 5 (length rest)) refl) w) ns k.so p

-- no two journals have the same numbers

entry_apart : (e f : Entry) → entry_numbers e ≡ entry_numbers f → e ≡ f
entry_apart e f g =
    let h = apart (EventTold e.event e.done) (EventTold f.event f.done) g in
    let a : e.event ≡ f.event = cc in let b : e.done ≡ f.done = cc in
    ap (λ (x : Event). entry_of x e.done) a ∙ ap (λ (x : Bool). entry_of f.event x) b

rows_apart : (es fs : List Entry) → flat_map entry_numbers es ≡ flat_map entry_numbers fs → es ≡ fs
rows_apart [] [] g = refl
rows_apart [] (f ∷ fs) g = let a = ap length g in absurd (omega arith)
rows_apart (e ∷ es) [] g = let a = ap length g in absurd (omega arith)
rows_apart (e ∷ es) (f ∷ fs) g =
    let a : entry_numbers e ≡ entry_numbers f =
    sym (take_at (entry_numbers e) (flat_map entry_numbers es) 5 refl) ∙ ap (take 5) g ∙ take_at (entry_numbers f) (flat_map entry_numbers fs) 5 refl in
    let b : flat_map entry_numbers es ≡ flat_map entry_numbers fs =
    sym (drop_at (entry_numbers e) (flat_map entry_numbers es) 5 refl) ∙ ap (drop 5) g ∙ drop_at (entry_numbers f) (flat_map entry_numbers fs) 5 refl in
    let x = entry_apart e f a in let y = rows_apart es fs b in cc

bit_apart : (b c : Bool) → bit b ≡ bit c → b ≡ c
bit_apart true true e = refl
bit_apart true false e = absurd (omega arith)
bit_apart false true e = absurd (omega arith)
bit_apart false false e = refl

bits_apart : (ls ms : List Bool) → map bit ls ≡ map bit ms → ls ≡ ms
bits_apart [] [] g = refl
bits_apart [] (m ∷ ms) g = let a = ap length g in absurd (omega arith)
bits_apart (l ∷ ls) [] g = let a = ap length g in absurd (omega arith)
bits_apart (l ∷ ls) (m ∷ ms) g =
    let a : bit l ≡ bit m = cc in let b : map bit ls ≡ map bit ms = cc in
    let x = bit_apart l m a in let y = bits_apart ls ms b in cc

journals_apart : (ls ms : List Bool) (es fs : List Entry) → length ls ≡ 32 → length ms ≡ 32 → journal_numbers ls es ≡ journal_numbers ms fs → (ls ≡ ms) × (es ≡ fs)
unfolding journal_numbers
journals_apart ls ms es fs l m g =
    let x : map bit ls ≡ map bit ms =
    sym (take_at (map bit ls) (flat_map entry_numbers es) 32 (bits_long ls l)) ∙ ap (take 32) g ∙ take_at (map bit ms) (flat_map entry_numbers fs) 32 (bits_long ms m) in
    let y : flat_map entry_numbers es ≡ flat_map entry_numbers fs =
    sym (drop_at (map bit ls) (flat_map entry_numbers es) 32 (bits_long ls l)) ∙ ap (drop 32) g ∙ drop_at (map bit ms) (flat_map entry_numbers fs) 32 (bits_long ms m) in
    (bits_apart ls ms x, rows_apart es fs y)

comes_back : (ls : List Bool) (es : List Entry) (r : Result Journal Refusal) → length ls ≡ 32 → Reads (journal_numbers ls es) r → ComesBack ls es r
comes_back ls es (Ok j) l (m, e) = journals_apart j.lies ls (vec_items j.entries) es m l (sym e)
comes_back ls es (Err Memory) l h = tt
comes_back ls es (Err (Place k)) l h = h.here (ls, es, l, refl)

pub read_back : ReadBack
read_back = record { apart = journals_apart; same = comes_back }

-- and so in a journal's numbers, of which an entry's are the next five
pub place_there : (ns : List ℕ) (at : ℕ) (few : List ℕ) → few ≡ take 5 (drop at ns) → (place : ℕ) → at < length ns → FirstWrongEntry few place → at + place ≤ length ns
place_there ns at few f place l w =
    let a = ap length f in let b = length-take 5 (drop at ns) in let c = length-drop at ns in
    let o = within_length few place (omega arith) w in omega arith
