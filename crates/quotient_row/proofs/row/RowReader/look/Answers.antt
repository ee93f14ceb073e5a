use Rattle.std.proofs.Common.{arith, ◌≡◌, ◌<◌, ◌≤◌, ◌+◌, ◌*◌, ◌∷◌, ◌++◌, [], Some, length, sym, ap, ◌∙◌, subst}
use Rattle.quotient_row.specs.Legal.{Fits, Legal}
use Rattle.quotient_row.specs.Spelling.{Belongs}
use Rattle.quotient_row.specs.Rule.{place}
use Rattle.quotient_row.proofs.Carrying.{legal_front}
use Rattle.quotient_row.proofs.RuleStays.{learns}
use Rattle.quotient_row.proofs.row.RowReader.look.Goals as goal

pub load-fifth-requires : goal.load-fifth-requires
load-fifth-requires g c =
    let w = c.sees_more.new.self.end in let row = c.args.row.now in let read = c.read_four-four.ensures.3 in let of = c.sees_more.ensures.of in
    let count : length w.seat.me.0.notes ≡ w.number = w.counted.0 in let ahead : length w.seat.me.0.notes < w.seat.me.0.seen = c.if-not-sees_more.ensures.more in
    let most : w.seat.me.0.seen ≤ row.table.shared.key.places = c.sees_more.ensures.count.1 in let sized = row.sized in
    let spot : 5 + 5 * w.number ≡ place (length c.read_four-four.new.seat.me.0.notes) 4 = let e : length c.read_four-four.new.seat.me.0.notes ≡ w.number = ap (λ m. length m.0.notes) read ∙ count in omega arith in (
      c.read_four-four.ensures.0 ∙ of.1,
      omega arith,
      learns _ _ _ _ _ _ _ _ _ (ap (λ m. m.0.kind) read ∙ of.0) (ap (λ m. length m.0.words) read ∙ c.read_four-four.ensures.2) (ap (λ m. m.0.subject) read ∙ (w.named.0 ∙ ap Some of.2))
          (subst (λ m. length m.0.notes < m.0.seen) (sym read) ahead)
          spot,
    )

pub from_words-requires-after_bounds : goal.from_words-requires-after_bounds
from_words-requires-after_bounds g c κs within =
    let w = c.sees_more.new.self.end in let row = c.args.row.now in let s = row.table.shared.key.name.value in let read = c.read_four-four.ensures.3 in
    let named : c.read_four-four.new.seat.me.0.subject ≡ Some s = ap (λ m. m.0.subject) read ∙ (w.named.0 ∙ ap Some c.sees_more.ensures.of.2) in
    let told = c.load-fifth.ensures.2 in let same : told.2.0 ≡ s = cc (told.2.1, named) in
    let over : g.R.CoeffRing.characteristic c.coefficients.result ≡ s.division.p = c.coefficients.ensures ∙ row.over in (
      told.0,
      subst (λ p. Belongs (g.R.CoeffRing.belongs p) told.0) (sym over) (subst (λ z. Fits g.R.CoeffRing.belongs z told.0) same told.2.2.0),
      c.with_fifth.ensures ∙ sym (told.3 ∙ ap (λ m. m.0.words ++ c.load-fifth.result ∷ []) read),
    )

pub returns-clause-legal : goal.returns-clause-legal
returns-clause-legal g c =
    let w = c.sees_more.new.self.end in let s = c.args.row.now.table.shared.key.name.value in let now = c.read_four-four.new.seat.me in
    let named : now.0.subject ≡ Some s = ap (λ m. m.0.subject) c.read_four-four.ensures.3 ∙ (w.named.0 ∙ ap Some c.sees_more.ensures.of.2) in
    let told = c.load-fifth.ensures.2 in let same : told.2.0 ≡ s = cc (told.2.1, named) in
    let front = legal_front g.M.Monomial.vector g.R.CoeffRing.value told.2.0 now.0.notes told.1 told.0 told.2.2.1 in
    subst (λ z. Legal g.M.Monomial.vector g.R.CoeffRing.value z c.load-fifth.new.seat.me.0.notes) same (subst (Legal g.M.Monomial.vector g.R.CoeffRing.value told.2.0) (sym (ap (λ m. m.0.notes) told.5)) front)
