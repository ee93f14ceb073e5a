use Rattle.quotient_row.proofs.Spelled.{four_are}
use Rattle.quotient_row.proofs.reader.with_fifth.Goals as goal

pub returns : goal.returns
returns c = four_are c.args.four.now c.args.fifth c.told-four
