use Rattle.std.proofs.Common.{pos, sym, ap, ◌∙◌, subst}
use Rattle.sdmp_laws.specs.Division.{Division, IsAccepted}
use Rattle.whole_laws.specs.Notes.{QuotientScript}
use Rattle.quotient_row.specs.Names.{RowName}
use Rattle.division_tests.proofs.Dividing.{is_by_line, square_accepted}
use Rattle.division_tests.proofs.merges.begin_all.Goals as goal

pub begin-requires-clause-accepted : goal.begin-requires-clause-accepted
begin-requires-clause-accepted c κs =
    subst IsAccepted (sym (is_by_line 2 (pos 1) (pos 1) c.in_ok-f.f c.in_ok-g.g c.in_ok-f.ensures.modulus c.in_ok-f.ensures.list c.in_ok-g.ensures.list)) square_accepted

pub returns-clause-script : goal.returns-clause-script
returns-clause-script c =
    c.in_ok-ring.ensures.script ∙ ap (λ (d : Division). QuotientScript d 1 0) (is_by_line 2 (pos 1) (pos 1) c.in_ok-f.f c.in_ok-g.g c.in_ok-f.ensures.modulus c.in_ok-f.ensures.list c.in_ok-g.ensures.list)

pub returns-clause-name : goal.returns-clause-name
returns-clause-name c =
    let at : Division → RowName = λ d. record { division = d; start = 0 } in
    c.in_ok-row.ensures.name ∙ ap at (is_by_line 2 (pos 1) (pos 1) c.in_ok-f.f c.in_ok-g.g c.in_ok-f.ensures.modulus c.in_ok-f.ensures.list c.in_ok-g.ensures.list)
