-- How words are spelled.
use Rattle.std.specs.Prelude.{ℕ, List, codes}
use Rattle.words.specs.declared.Word.{Word}
use Rattle.words.specs.declared.Word.TheVariants as w

abbrev pub spelled : Word → List ℕ
spelled w.Section = codes "section"
spelled w.Point = codes "point"
spelled w.Signal = codes "signal"
spelled w.Edge = codes "edge"
spelled w.Route = codes "route"
spelled w.Time = codes "time"
spelled w.Up = codes "up"
spelled w.Down = codes "down"
spelled w.Outside = codes "outside"
spelled w.In = codes "in"
spelled w.Or = codes "or"
spelled w.From = codes "from"
spelled w.By = codes "by"
spelled w.Needs = codes "needs"
spelled w.Left = codes "left"
spelled w.Right = codes "right"
spelled w.Ask = codes "ask"
spelled w.Clear = codes "clear"
spelled w.Back = codes "back"
spelled w.Free = codes "free"
spelled w.Tick = codes "tick"
spelled w.Turns = codes "turns"
spelled w.Comes = codes "comes"
spelled w.Goes = codes "goes"
spelled w.Draws = codes "draws"
spelled w.Reverses = codes "reverses"
spelled w.Leaves = codes "leaves"
spelled w.Lies = codes "lies"
