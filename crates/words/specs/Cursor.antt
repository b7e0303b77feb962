-- How many tokens of a line are left.
use Rattle.std.specs.Prelude.{ℕ, length}
use Rattle.words.specs.declared.cursor.Cursor.{Cursor}

abbrev pub left_of : Cursor → ℕ
left_of c = length c.rest.now
