use Rattle.std.proofs.Common.{◌≡◌, ◌-◌, ◌*◌, true, false, take, arith}
use native.Mathlib.Nat.{sub-zero}
use Rattle.std.proofs.lemmas.Slice.{pushed}
use Rattle.rows.specs.Rows.{few}
use Rattle.rows.proofs.Placed.{all_parts, only_sizes}
use Rattle.rows.proofs.assemble.Goals as goal

pub returns-then-not-few : goal.returns-then-not-few
returns-then-not-few c =
    let f : few c.args.sizes ≡ false = grind arith in
    let both = only_sizes c.args.sizes c.args.rows.now _ f c.in_ok-numbers.ensures.items in
    record { exact = both.0; whole = both.1 }

pub returns : goal.returns
returns c =
    let f : few c.args.sizes ≡ true = grind arith in
    let r = c.args.rows.now in
    let ys = take (11 * c.from.result - 0) r.sections in
    let zs = take (c.from-2.result - 0) r.points in
    let ws = take (52 * c.from-3.result - 0) r.routes in
    let a1 = pushed ys c.in_ok-numbers.ensures.items c.in_ok-extend_from_slice.was c.extend_from_slice.ensures.items in
    let a2 = pushed zs a1 c.in_ok-extend_from_slice-2.was c.extend_from_slice-2.ensures.items in
    let a3 = pushed ws a2 c.in_ok-extend_from_slice-3.was c.extend_from_slice-3.ensures.items in
    let both = all_parts c.args.sizes r _ ys zs ws f a3
    (simp (sub-zero, c.from.ensures)) (simp (sub-zero, c.from-2.ensures)) (simp (sub-zero, c.from-3.ensures))
    (omega arith) (omega arith) (omega arith) in
    record { exact = both.0; whole = both.1 }
