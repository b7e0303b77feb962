use Rattle.words.specs.Cursor.{left_of}
use Rattle.statement.proofs.needs_of.Given as goal

abbrev pub decreases-loop-point : goal.decreases-loop-point
decreases-loop-point l = left_of l.cursor
