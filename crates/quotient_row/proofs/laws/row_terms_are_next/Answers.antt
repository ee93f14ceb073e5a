use Rattle.quotient_row.proofs.Carrying.{terms_are_next}
use Rattle.quotient_row.proofs.laws.row_terms_are_next.Goals as goal

pub returns : goal.returns
returns c = terms_are_next
