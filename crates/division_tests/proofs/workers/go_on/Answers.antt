use Rattle.std.proofs.Common.{◌≡◌, length, sym, ap, ◌∙◌, arith}
use Rattle.std.proofs.lemmas.List.{length-map}
use Rattle.divide_merge.specs.Names.{RowIdentity}
use Rattle.divide_workers.specs.Paying.{HasRows}
use Rattle.divide_workers.proofs.Teams.{caught_rows}
use Rattle.division_tests.proofs.workers.go_on.Goals as goal

pub returns-clause-room : goal.returns-clause-room
returns-clause-room g c = λ rows.
    let a = c.args.worker.now.part.sender in
    let u = c.catch_up.ensures.catches_up in
    let some : HasRows a.state = λ none. rows (sym (caught_rows _ _ _ a c.catch_up.new.self.part.sender u) ∙ none) in
    let spare = u.spare some in
    let learned = u.learned some in
    let found = sym (length-map c.quotient.result.now _) ∙ ap length c.quotient.ensures.terms in
    let one = c.if-quotient-ne1.false in
    let none : length a.state.known ≡ 0 = ap length c.requires.learned in
    let places = ap (λ (r : RowIdentity). r.places) u.row_is in
    let room = c.requires.room in
    omega (arith, spare, learned, found, one, none, places, room)
