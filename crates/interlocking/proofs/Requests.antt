-- A request and its numbers.
use Rattle.std.proofs.Common.{◌≡◌, ℕ, refl, ap, ◌∙◌}
use Rattle.interlocking.specs.Says.{kind_of, request_of, which_of}
use Rattle.interlocking.specs.declared.Request.{Request}
use Rattle.interlocking.specs.declared.Request.TheVariants.{Ask, Clear, Back, Free, Tick}

-- its numbers stand for it
pub number_of_request : (a : Request) → request_of (kind_of a) (which_of a) ≡ a
number_of_request (Ask r) = refl
number_of_request (Clear r) = refl
number_of_request (Back r) = refl
number_of_request (Free x) = refl
number_of_request Tick = refl

pub same_request : (k n : ℕ) (a : Request) → k ≡ kind_of a → n ≡ which_of a → request_of k n ≡ a
same_request k n a e f = ap (λ (z : ℕ). request_of z n) e ∙ ap (request_of (kind_of a)) f ∙ number_of_request a
