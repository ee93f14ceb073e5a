use Rattle.text_laws.proofs.OneTree.{one_tree}
use Rattle.text_laws.proofs.OneReading.{one_place, one_reading}
use Rattle.text_laws.proofs.one_reading.Goals as goal

pub returns-clause-tree : goal.returns-clause-tree
returns-clause-tree c = one_tree

pub returns-clause-place : goal.returns-clause-place
returns-clause-place c = one_place

pub returns-clause-reading : goal.returns-clause-reading
returns-clause-reading c = one_reading
