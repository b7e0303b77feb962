use Rattle.std.proofs.Common.{ℕ, List, ap, ◌∙◌}
use Rattle.std.specs.List.{find}
use Rattle.std.specs.Str.{bytes_eq}
use Rattle.words.specs.Spelled.{spelled}
use Rattle.words.proofs.Spells.{all, found}
use Rattle.words.proofs.word_of.Goals as goal

pub returns-clause-every : goal.returns-clause-every
returns-clause-every c w e =
    c.first_spelled.ensures.first ∙ ap (λ (t : List ℕ). find (λ x. bytes_eq (spelled x) t) all) e ∙ found w
