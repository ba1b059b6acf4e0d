-- No two proper lines are written alike: the first byte tells the key, and the rest the value.
use Rattle.std.proofs.Common.{codes, get_or, ap, arith}
use Rattle.std.proofs.lemmas.List.{append_cancel_left}
use Rattle.lines.specs.Lines.{prime, nonresidue, step, alpha, len, find, WrittenOnce}
use Rattle.lines.proofs.Numerals.{numeral_injective}
use Rattle.lines.proofs.Spelled.{spelled_injective}

pub written_once : WrittenOnce
written_once (prime u) (prime v) g h e = ap prime (numeral_injective u v g h (append_cancel_left (codes "prime=") _ _ e))
written_once (nonresidue u) (nonresidue v) g h e = ap nonresidue (numeral_injective u v g h (append_cancel_left (codes "nonresidue=") _ _ e))
written_once (step us) (step vs) g h e = ap step (spelled_injective us vs g h (append_cancel_left (codes "step=") _ _ e))
written_once (alpha us) (alpha vs) g h e = ap alpha (spelled_injective us vs g h (append_cancel_left (codes "alpha=") _ _ e))
written_once (len u) (len v) g h e = ap len (numeral_injective u v g h (append_cancel_left (codes "length=") _ _ e))
written_once (find us) (find vs) g h e = ap find (spelled_injective us vs g h (append_cancel_left (codes "find=") _ _ e))
written_once s t g h e = absurd (omega (arith, ap (λ l. get_or l 0 0) e))
