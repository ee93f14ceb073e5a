use Rattle.std.proofs.Common.{rules, ◌∷◌, ◌++◌, [], sym, subst}
use Rattle.std.proofs.lemmas.List.Elements.{All-get_or}
use Rattle.quotient_row.specs.Ends.{name_of}
use Rattle.quotient_row.specs.Legal.{Fits, Legal}
use Rattle.quotient_row.proofs.Carrying.{legal_next}
use Rattle.thread_tests.proofs.rows.publish_from.Goals as goal

pub publish-requires-clause-fits : goal.publish-requires-clause-fits
publish-requires-clause-fits g c κs within =
    let P = Fits g.R.CoeffRing.belongs (name_of c.args.row.now) in
    subst P (sym c.index-list-i.is) (All-get_or P c.args.list.now c.loop-i.i c.index-list-i.result (search rules) c.requires.fits)

pub publish-requires-clause-legal : goal.publish-requires-clause-legal
publish-requires-clause-legal g c κs within =
    let s = name_of c.args.row.now in
    subst (λ l. Legal g.M.Monomial.vector g.R.CoeffRing.value s (l ++ c.index-list-i.result ∷ [])) (sym c.loop-i.invariant.published_is)
    (legal_next g.M.Monomial.vector g.R.CoeffRing.value s c.args.list.now c.loop-i.i c.index-list-i.result (search rules) c.index-list-i.is c.requires.legal)
