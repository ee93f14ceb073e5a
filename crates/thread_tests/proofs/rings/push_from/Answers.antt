use Rattle.std.proofs.Common.{rules, ◌∷◌, ◌++◌, [], sym, subst}
use Rattle.std.proofs.lemmas.List.Elements.{All-get_or}
use Rattle.term_ring.specs.Ends.{script_in}
use Rattle.term_ring.specs.Carried.{Fits, Carries}
use Rattle.term_ring.proofs.Carrying.{carries_next}
use Rattle.thread_tests.proofs.rings.push_from.Goals as goal

pub push-requires-clause-fits : goal.push-requires-clause-fits
push-requires-clause-fits g c κs within =
    let P = Fits g.R.CoeffRing.belongs (script_in c.args.ring.now) in
    subst P (sym c.index-list-i.is) (All-get_or P c.args.list.now c.loop-i.i c.index-list-i.result (search rules) c.requires.fits)

pub push-requires-clause-carries : goal.push-requires-clause-carries
push-requires-clause-carries g c κs within =
    let s = script_in c.args.ring.now in
    subst (λ l. Carries g.M.Monomial.vector g.R.CoeffRing.value s (l ++ c.index-list-i.result ∷ [])) (sym c.loop-i.invariant.sent_is)
    (carries_next g.M.Monomial.vector g.R.CoeffRing.value s c.args.list.now c.loop-i.i c.index-list-i.result (search rules) c.index-list-i.is c.requires.carries)
