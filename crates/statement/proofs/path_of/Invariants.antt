use Rattle.words.specs.Cursor.{left_of}
use Rattle.statement.proofs.path_of.Given as goal

abbrev pub decreases-loop-x : goal.decreases-loop-x
decreases-loop-x l = left_of l.cursor
