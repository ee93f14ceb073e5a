use Rattle.std.proofs.Common.{rules, arith, ◌≡◌, ◌+◌, ◌*◌, length, get_or}
use Rattle.std.proofs.lemmas.Grind.{common_steps}
use Rattle.quotient_row.proofs.Carrying.{legal_none}
use Rattle.quotient_row.proofs.RuleStays.{starts}
use Rattle.quotient_row.proofs.row.Row.new.Goals as goal

pub of_words-requires : goal.of_words-requires
of_words-requires g c =
    let long : length c.as_slice.result.now ≡ 1 + 5 * c.args.places = first_of (search rules, grind (arith, common_steps)) in
    let blank : get_or c.as_slice.result.now 0 0 ≡ 0 = first_of (search rules, grind (arith, common_steps)) in
    starts _ _ _ _ _ _ long blank (legal_none g.M.Monomial.vector g.R.CoeffRing.value _)
