use Rattle.std.proofs.Common.{◌∙◌, ap}
use Rattle.std.proofs.lemmas.Result.{MatchResult-weaker}
use Rattle.message.specs.Numbers.{message_numbers}
use Rattle.journal.proofs.Entries.{begins_event, begins_other, not_event, wrong_first, wrong_later}
use Rattle.journal.proofs.read.entry_in.Goals as goal

pub returns-in-Ok : goal.returns-in-Ok
returns-in-Ok c =
    MatchResult-weaker c.try_from-in-Ok.result c.try_from-in-Ok.ensures (λ e h. c.in-Ok.ensures.reads ∙ ap message_numbers h)
    (λ w h. not_event c.args.numbers.now c.in-Ok.message w.place c.in-Ok.ensures.reads h)

pub returns-in-Err : goal.returns-in-Err
returns-in-Err c = wrong_later c.args.numbers.now _ (begins_event _ c.args.numbers.now c.is_event.ensures c.if-is_event.true) c.in-Err.ensures.reads

pub returns-in-Err-2 : goal.returns-in-Err-2
returns-in-Err-2 c = wrong_first c.args.numbers.now (begins_other _ c.args.numbers.now c.is_event.ensures c.if-is_event.false)
