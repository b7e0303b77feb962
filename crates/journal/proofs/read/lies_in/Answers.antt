use Rattle.std.proofs.Common.{◌≡◌, ℕ, ◌<◌, Bool, List, Some, None, Ok, Err, Option, Result, MatchOption, MatchResult, IsErrAnd, map, length, take, get_or, refl, sym, ◌∙◌, subst, arith}
use Rattle.std.specs.Option.{ok_or}
use Rattle.std.proofs.lemmas.List.{length-set}
use Rattle.message.specs.Numbers.{bit}
use Rattle.message.specs.declared.WrongAt.{WrongAt}
use Rattle.journal.specs.Reads.{FirstWrong}
use Rattle.journal.proofs.Begun.{points_more, wrong_point}
use Rattle.journal.proofs.read.lies_in.Goals as goal

abbrev wrong_at : ℕ → WrongAt
wrong_at i = record { place = i }

refused : (ns : List ℕ) (ls : List Bool) (i : ℕ) (o : Option Bool) (at : WrongAt) (r : Result (List Bool) WrongAt) → length ls ≡ 32 → i < 32 → take i ns ≡ take i (map bit ls) →
    MatchOption o (i < length ns → 1 < get_or ns i 0) (λ b. (i < length ns) × (get_or ns i 0 ≡ bit b)) → Err at ≡ ok_or o (wrong_at i) → IsErrAnd r (λ y. y ≡ at) →
    MatchResult r (λ lies. (length lies ≡ 32) × (take 32 ns ≡ map bit lies)) (λ w. FirstWrong ns w.place)
refused ns ls i (Some b) at r l o e m v h = absurd (grind arith)
refused ns ls i None at (Ok x) l o e m v h = absurd h
refused ns ls i None at (Err y) l o e m v h =
    let g : y ≡ wrong_at i = h ∙ cc in
    subst (λ (z : WrongAt). FirstWrong ns z.place) (sym g) (wrong_point ns ls i l o e m)

pub returns-in_err-left : goal.returns-in_err-left
returns-in_err-left c =
    let a = c.loop-place-test.true in let b = c.loop-place.invariant.long in
    refused c.args.numbers.now c.loop-place.left-items c.loop-place.place _ _ _ b (omega arith) c.loop-place.invariant.read c.lay_at.ensures c.in_err-left.ensures.value
    c.from_residual.ensures.1

pub loop-place-preserved : goal.loop-place-preserved
loop-place-preserved c =
    let a = c.loop-place-test.true in let b = c.loop-place.invariant.long in
    let P : Option Bool → Type 0 = λ o. MatchOption o (c.loop-place.place < length c.args.numbers.now → 1 < get_or c.args.numbers.now c.loop-place.place 0)
    (λ left. (c.loop-place.place < length c.args.numbers.now) × (get_or c.args.numbers.now c.loop-place.place 0 ≡ bit left)) in
    let h = subst P c.in_ok-left.ensures.ok_part c.lay_at.ensures in
    record {
      long = length-set c.loop-place.left-items c.loop-place.place c.in_ok-left.field-0 ∙ b;
      read = points_more c.args.numbers.now c.loop-place.left-items _ c.loop-place.place c.in_ok-left.field-0 b (omega arith) h.0 h.1 refl c.loop-place.invariant.read;
    }
