use Rattle.std.proofs.Common.{◌≡◌, length, map, take}
use Rattle.message.specs.Numbers.{bit}
use Rattle.journal.proofs.read.lies_in.Given as goal

abbrev pub invariant-loop-place : goal.invariant-loop-place
invariant-loop-place l = record { long : length l.left-items ≡ 32; read : take l.place l.numbers ≡ take l.place (map bit l.left-items) }
