use Rattle.plan.proofs.Formed.{refused_sizes, refused_length, refused_number, refused_none, fits_none}
use Rattle.plan.proofs.read.check.Goals as goal

pub returns-in-Err : goal.returns-in-Err
returns-in-Err c = refused_sizes c.args.numbers.now c.in-Err.size c.in-Err.ensures

pub returns-then-numbers-whole : goal.returns-then-numbers-whole
returns-then-numbers-whole c = refused_length c.args.numbers.now _ c.in_default.ensures (cc) c.if-numbers-whole.true

pub returns-then-counts_fit : goal.returns-then-counts_fit
returns-then-counts_fit c =
    refused_none c.args.numbers.now _ c.in_default.ensures (cc) c.if-numbers-whole.false
    (fits_none c.args.numbers.now _ _ (cc) c.if-numbers-whole.false (c.all_fit.ensures c.if-all_fit.true) (c.counts_fit.ensures c.if-counts_fit.true))

pub returns-in-Some : goal.returns-in-Some
returns-in-Some c = refused_number c.args.numbers.now _ _ c.in_default.ensures (cc) c.if-numbers-whole.false c.in-Some.ensures

pub returns-in-None : goal.returns-in-None
returns-in-None c = refused_none c.args.numbers.now _ c.in_default.ensures (cc) c.if-numbers-whole.false c.in-None.ensures
