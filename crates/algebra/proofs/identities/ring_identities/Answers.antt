use Rattle.algebra.proofs.Solved.{difference_of_squares, pairs_associate, determinants_of_two_terms}
use Rattle.algebra.proofs.identities.ring_identities.Goals as goal

pub returns : goal.returns
returns g c =
    let l = (g.met.F.Field.laws c.args.field.now).arithmetic in
    record {
      squares = difference_of_squares l;
      pairs = pairs_associate l;
      determinants = determinants_of_two_terms l;
    }
