use Rattle.std.proofs.Common.{◌≡◌, sym, ap, ◌∙◌}
use Rattle.quotient_row.specs.Names.{RowName}
use Rattle.divide_merge.specs.Names.{RowIdentity, row_identity}
use Rattle.division_tests.proofs.merges.goes_on_with_a_new_row.Goals as goal

pub change_row-requires-clause-division : goal.change_row-requires-clause-division
change_row-requires-clause-division g c κs =
    let begun = c.in_ok-begun.ensures in let next = c.in_ok-next_row.ensures in
    let same : c.advance-full.new.self.row ≡ row_identity c.in_ok-begun.begun.row = c.advance-full.ensures.grows.row ∙ (c.reserve.ensures.row ∙ begun.row) in
    ap (λ (n : RowName). n.division) (next.writer.2 ∙ next.name) ∙ (sym (ap (λ (n : RowName). n.division) (ap (λ (r : RowIdentity). r.name) same ∙ begun.name)) ∙ c.whole.ensures.sound.row_division)
