-- No two words are spelled alike: the first word of all that is spelled like a word is that word.
use Rattle.std.proofs.Common.{◌≡◌, List, [], ◌∷◌, Some, refl}
use Rattle.std.specs.List.{find}
use Rattle.std.specs.Str.{bytes_eq}
use Rattle.words.specs.declared.Word.{Word}
use Rattle.words.specs.declared.Word.TheVariants as w
use Rattle.words.specs.Spelled.{spelled}

abbrev pub all : List Word
all =
    w.Section ∷ w.Point ∷ w.Signal ∷ w.Edge ∷ w.Route ∷ w.Time ∷ w.Up ∷
    w.Down ∷ w.Outside ∷ w.In ∷ w.Or ∷ w.From ∷ w.By ∷ w.Needs ∷
    w.Left ∷ w.Right ∷ w.Ask ∷ w.Clear ∷ w.Back ∷ w.Free ∷ w.Tick ∷
    w.Turns ∷ w.Comes ∷ w.Goes ∷ w.Draws ∷ w.Reverses ∷ w.Leaves ∷ w.Lies ∷ []

pub found : (v : Word) → find (λ x. bytes_eq (spelled x) (spelled v)) all ≡ Some v
found w.Section = refl
found w.Point = refl
found w.Signal = refl
found w.Edge = refl
found w.Route = refl
found w.Time = refl
found w.Up = refl
found w.Down = refl
found w.Outside = refl
found w.In = refl
found w.Or = refl
found w.From = refl
found w.By = refl
found w.Needs = refl
found w.Left = refl
found w.Right = refl
found w.Ask = refl
found w.Clear = refl
found w.Back = refl
found w.Free = refl
found w.Tick = refl
found w.Turns = refl
found w.Comes = refl
found w.Goes = refl
found w.Draws = refl
found w.Reverses = refl
found w.Leaves = refl
found w.Lies = refl
