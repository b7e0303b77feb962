-- The tests by which two routes are told to be strangers. Assumes nothing: these are definitions.
use Rattle.std.specs.Prelude.{ℕ, Bool, true, not, ◌&&◌, ◌||◌, List, [], ◌∷◌}
use Rattle.plan.specs.Plan.{Plan, Route, among, needed}
use Rattle.plan.specs.declared.Need.{Need}

-- no section of the first path is in the second
unfoldable pub clear_of : List ℕ → List ℕ → Bool
clear_of [] ys = true
clear_of (x ∷ xs) ys = not (among x ys) && clear_of xs ys

-- a point is neither needed by a route nor in its path
abbrev pub unrelated : Plan → Route → ℕ → Bool
unrelated p r q = not (needed q r.needs || among (p.place q) r.path)

unfoldable pub all_unrelated : Plan → Route → List Need → Bool
all_unrelated p r [] = true
all_unrelated p r (n ∷ ns) = unrelated p r n.point && all_unrelated p r ns
