use Rattle.std.proofs.Common.{ℕ, ◌<◌, refl}
use Rattle.std.proofs.lemmas.Bool.{lt-ltb}
use Rattle.prime_field.specs.Modular.{modular}
use Rattle.quadratic.specs.Signs.{ParitySigns}
use Rattle.quadratic.proofs.Heights.{signs_are_sgn0}
use Rattle.vectors.proofs.values.prime_tower_signs_are_sgn0.Goals as goal

parity-signs : (p : ℕ) → 0 < p → ParitySigns (modular p)
parity-signs p h = record { zero_is = refl; zero_in = lt-ltb 0 p h; same_is = λ a b _ _. refl; sign_is = λ a _. refl }

pub returns : goal.returns
returns c p h = signs_are_sgn0 (modular p) (parity-signs p h)
