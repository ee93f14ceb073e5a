use Rattle.std.proofs.Common.{◌∙◌}
use Rattle.sdmp_laws.specs.Order.{Grlex}
use Rattle.whole_laws.specs.Notes.{ProductScript}
use Rattle.thread_tests.proofs.squares.hire.Goals as goal

pub returns-clause-script : goal.returns-clause-script
returns-clause-script c =
    c.in_ok-made.ensures.script ∙ (λ i. ProductScript record { ord = Grlex; p = c.requires.modulus i; n = 1; f = c.requires.f i; g = c.requires.g i } 2 c.args.worker)
