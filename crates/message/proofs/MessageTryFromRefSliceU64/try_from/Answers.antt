use Rattle.std.proofs.Common.{◌∙◌, sym, ap}
use Rattle.message.specs.Numbers.{message_numbers}
use Rattle.message.proofs.Places.{is_read, refused, right, too_long, wrong_0, wrong_1, wrong_2, wrong_3, wrong_4}
use Rattle.message.proofs.MessageTryFromRefSliceU64.try_from.Goals as goal

pub returns-in_err-sort : goal.returns-in_err-sort
returns-in_err-sort c = refused _ _ _ (wrong_0 _ _ c.in_err-sort.ensures) c.from_residual.ensures.1

pub returns-in_err-kind : goal.returns-in_err-kind
returns-in_err-kind c = refused _ _ _ (wrong_1 _ _ _ c.in_ok-sort.ensures c.in_err-kind.ensures) c.from_residual-in_err-kind.ensures.1

pub returns-in_err-first : goal.returns-in_err-first
returns-in_err-first c =
    refused _ _ _ (wrong_2 _ _ _ _ c.in_ok-sort.ensures c.in_ok-kind.ensures c.in_err-first.ensures) c.from_residual-in_err-first.ensures.1

pub returns-in_err-second : goal.returns-in_err-second
returns-in_err-second c =
    refused _ _ _ (wrong_3 _ _ _ _ _ c.in_ok-sort.ensures c.in_ok-kind.ensures c.in_ok-first.ensures c.in_err-second.ensures) c.from_residual-in_err-second.ensures.1

pub returns-in_err-done : goal.returns-in_err-done
returns-in_err-done c =
    refused _ _ _ (wrong_4 _ _ _ _ _ _ c.in_ok-sort.ensures c.in_ok-kind.ensures c.in_ok-first.ensures c.in_ok-second.ensures c.in_err-done.ensures)
    c.from_residual-in_err-done.ensures.1

pub returns-then-numbers-gt5 : goal.returns-then-numbers-gt5
returns-then-numbers-gt5 c =
    is_read _ _ (too_long _ _ _ _ _ _ c.in_ok-sort.ensures c.in_ok-kind.ensures c.in_ok-first.ensures c.in_ok-second.ensures c.in_ok-done.ensures c.if-numbers-gt5.true)

pub returns : goal.returns
returns c =
    let h = right _ _ _ _ _ _ c.in_ok-sort.ensures c.in_ok-kind.ensures c.in_ok-first.ensures c.in_ok-second.ensures c.in_ok-done.ensures c.if-numbers-gt5.false in
    is_read _ _ (h ∙ ap message_numbers (sym c.made.ensures))
