use Rattle.std.proofs.Common.{pos, ap, ◌∙◌}
use Rattle.sdmp_laws.specs.Division.{Division}
use Rattle.quotient_row.specs.Names.{RowName}
use Rattle.division_tests.proofs.Dividing.{is_by_line}
use Rattle.division_tests.proofs.merges.second_row.Goals as goal

pub returns-clause-name : goal.returns-clause-name
returns-clause-name c =
    let at : Division → RowName = λ d. record { division = d; start = 1 } in
    c.in_ok-made.ensures.name ∙ ap at (is_by_line 2 (pos 1) (pos 1) c.in_ok-f.f c.in_ok-g.g c.in_ok-f.ensures.modulus c.in_ok-f.ensures.list c.in_ok-g.ensures.list)
