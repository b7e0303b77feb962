use Rattle.interlocking.specs.State.{behind_free}
use Rattle.interlocking.specs.Says.{state_of}
use Rattle.plan.proofs.Walks.{ands_all}
use Rattle.interlocking.proofs.Walked.{behind_here, behind_stop, behind_more, behind_nil}
use Rattle.interlocking.proofs.Interlocking.behind_free.Goals as goal

pub returns-then-y-x : goal.returns-then-y-x
returns-then-y-x c = behind_here (state_of c.args.self.now) c.args.lock c.args.x c.args.path.now _ _ c.loop-y-test.true c.loop-y.invariant c.if-y-x.true

pub returns-then-lock_of-lock : goal.returns-then-lock_of-lock
returns-then-lock_of-lock c =
    behind_stop (state_of c.args.self.now) c.args.lock c.args.x c.args.path.now _ _ _ c.loop-y-test.true c.loop-y.invariant c.if-y-x.false c.lock_of.ensures c.if-lock_of-lock.true

pub loop-y-preserved : goal.loop-y-preserved
loop-y-preserved c =
    behind_more (state_of c.args.self.now) c.args.lock c.args.x c.args.path.now _ _ _ c.loop-y-test.true c.loop-y.invariant c.if-y-x.false c.lock_of.ensures c.if-lock_of-lock.false

pub returns : goal.returns
returns c = ands_all (behind_free (state_of c.args.self.now) c.args.lock c.args.x) (behind_nil (state_of c.args.self.now) c.args.lock c.args.x) _ _ _ c.loop-y-test.false c.loop-y.invariant
