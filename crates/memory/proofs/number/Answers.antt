use Rattle.std.proofs.Common.{sym, ap, ◌∙◌}
use Rattle.interlocking.specs.Says.{state_of}
use Rattle.memory.specs.Memory.{remarked, stage_number}
use Rattle.memory.proofs.Numbered.{number_lock, number_passed, number_stage, number_wanted, number_past}
use Rattle.memory.proofs.number.Goals as goal

pub returns-then-k-lt64 : goal.returns-then-k-lt64
returns-then-k-lt64 c = c.lock_of.ensures ∙ sym (number_lock (state_of c.args.interlocking.now) c.args.k c.args.old c.if-k-lt64.true)

pub returns-then-k-lt128 : goal.returns-then-k-lt128
returns-then-k-lt128 c =
    c.remarked.ensures ∙ ap (remarked c.args.old) c.is_passed.ensures
    ∙ sym (number_passed (state_of c.args.interlocking.now) c.args.k c.args.old c.if-k-lt64.false c.if-k-lt128.true)

pub returns-then-k-lt192 : goal.returns-then-k-lt192
returns-then-k-lt192 c =
    c.stage_number.ensures ∙ ap stage_number c.stage_of.ensures
    ∙ sym (number_stage (state_of c.args.interlocking.now) c.args.k c.args.old c.if-k-lt128.false c.if-k-lt192.true)

pub returns-then-k-lt224 : goal.returns-then-k-lt224
returns-then-k-lt224 c =
    c.remarked-then-k-lt224.ensures ∙ ap (remarked c.args.old) c.wants_left.ensures
    ∙ sym (number_wanted (state_of c.args.interlocking.now) c.args.k c.args.old c.if-k-lt192.false c.if-k-lt224.true)

pub returns-else-k-lt224 : goal.returns-else-k-lt224
returns-else-k-lt224 c = sym (number_past (state_of c.args.interlocking.now) c.args.k c.args.old c.if-k-lt224.false)
