use Rattle.std.proofs.Common.{refl, ◌∙◌, arith}
use Rattle.std.proofs.lemmas.Fmt.{parse-decimal}
use Rattle.words.proofs.Decimal.{digits}
use Rattle.words.proofs.number_of.Goals as goal

pub returns-then-is_empty : goal.returns-then-is_empty
returns-then-is_empty c n l e =
    let d = digits n c.as_bytes-bytes.result.now l (c.as_bytes-bytes.ensures.value ∙ e) in grind arith

pub returns : goal.returns
returns c n l e =
    let p = parse-decimal 16 n c.args.text.now c.parse.result l (omega arith) e c.parse.ensures.value.0 in
    rw (c.unwrap_or.ensures, p) refl
