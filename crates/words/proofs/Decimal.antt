-- A number that is written out is digits alone.
use Rattle.std.proofs.Common.{◌≡◌, ℕ, ◌^◌, ◌<◌, ◌&&◌, true, List, [], ◌∷◌, decimal, length, sym, refl, ap, ◌∙◌, arith}
use Rattle.std.specs.Char.{is_ascii_digit}
use Rattle.std.specs.List.{list_all}
use Rattle.std.specs.Str.{all_ascii_digits}
use Rattle.std.proofs.lemmas.Fmt.{decimal_nonempty, digits_decimal}
use Rattle.std.proofs.lemmas.Str.Parse.{numerals_by_value, tells_all_ascii_digits}

same : (ds : List ℕ) → all_ascii_digits ds ≡ list_all is_ascii_digit ds
same [] = refl
same (c ∷ cs) = ap (λ b. is_ascii_digit c && b) (same cs)

pub digits : (n : ℕ) (bs : List ℕ) → n < 2 ^ 16 → bs ≡ decimal n → (0 < length bs) × (list_all is_ascii_digit bs ≡ true)
digits n bs l e =
    let small : n < 2 ^ 64 = omega arith in
    let d = sym (same (decimal n)) ∙ digits_decimal (numerals_by_value _ tells_all_ascii_digits) n small in
    rw e (decimal_nonempty n small, d)
