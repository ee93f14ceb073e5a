use Rattle.std.proofs.Common.{length, true≢false, refl, sym, subst, ◌∙◌, arith}
use Rattle.std.proofs.lemmas.List.{length-map}
use Rattle.canonical_terms.specs.View.{term_of, sum_of}
use Rattle.divide_workers.proofs.Meeting.{CaughtUp, caught_idle, caught, under_still, caught_up_is, catches_up}
use Rattle.divide_workers.proofs.sender.Sender.catch_up.Goals.{then-has_rows, else-has_rows}
use Rattle.divide_workers.proofs.sender.Sender.catch_up.Goals as goal
use Rattle.divide_merge.specs.Inside.{vector_of}

pub take_front-requires-clause-front : goal.take_front-requires-clause-front
take_front-requires-clause-front g c κs within =
    let e = c.learn_rest.ensures.known in let l = length-map c.args.q.now (term_of g.M.Monomial.vector g.R.CoeffRing.value) in
    under_still c.args.self.now c.learn_rest.new.self (sum_of g.M.Monomial.vector g.R.CoeffRing.value c.args.q.now) (vector_of g.M.Monomial.vector c.args.front) c.learn_rest.ensures.learns c.requires.q.begins (omega (arith, e, l)) c.requires.front

pub invariant_of-self : goal.invariant_of-self
invariant_of-self g c =
    let monos = g.met.M.Monomial g.world.𝓛 g.world.𝓜 g.world.𝓡 ((λ s x. x), (λ x. x), (λ x. x), λ x. x) in
    let k : CaughtUp (length c.args.q.now) (vector_of g.M.Monomial.vector c.args.front) c.args.self.now c.if-has_rows.self =
    elim c.if-has_rows.branch [
      | then-has_rows w ↦
          subst (CaughtUp (length c.args.q.now) (vector_of g.M.Monomial.vector c.args.front) c.args.self.now) (sym w.self-is)
          (caught c.args.self.now w.learn_rest.new.self w.take_front.new.self (length c.args.q.now) (vector_of g.M.Monomial.vector c.args.front) (c.has_rows.ensures.0 w.if-has_rows.true) w.learn_rest.ensures.learns w.learn_rest.ensures.known w.take_front.ensures.learns w.take_front.ensures.known w.take_front.ensures.lowered)
      | else-has_rows w ↦ subst (CaughtUp (length c.args.q.now) (vector_of g.M.Monomial.vector c.args.front) c.args.self.now) (sym w.self-is) (caught_idle c.args.self.now (length c.args.q.now) (vector_of g.M.Monomial.vector c.args.front) (λ r. true≢false (sym (c.has_rows.ensures.1 r) ∙ w.if-has_rows.false)))
    ] in
    caught_up_is g.M.Monomial.vector g.R.CoeffRing.value g.R.CoeffRing.belongs g.M.Monomial.order g.M.Monomial.VARS g.M.Monomial.LIM (g.R.CoeffRing.characteristic c.self-2.inside.coefficients) c.self-2.inside.worker monos.vars c.self-2.inside.rows c.self-2.inside.writer c.self-2.inside.reader c.self-2.inside.lead c.self-2.inside.place c.self-2.inside.front c.self-2.inside.kept c.self-2.inside.marked c.self-2.invariant c.if-has_rows.self c.self-2.view_is c.args.reader c.requires.looking c.requires.nothing c.args.self.now (length c.args.q.now) (vector_of g.M.Monomial.vector c.args.front) c.requires.row k (length c.args.q.now) refl

pub returns : goal.returns
returns g c =
    let monos = g.met.M.Monomial g.world.𝓛 g.world.𝓜 g.world.𝓡 ((λ s x. x), (λ x. x), (λ x. x), λ x. x) in
    let k : CaughtUp (length c.args.q.now) (vector_of g.M.Monomial.vector c.args.front) c.args.self.now c.if-has_rows.self =
    elim c.if-has_rows.branch [
      | then-has_rows w ↦
          subst (CaughtUp (length c.args.q.now) (vector_of g.M.Monomial.vector c.args.front) c.args.self.now) (sym w.self-is)
          (caught c.args.self.now w.learn_rest.new.self w.take_front.new.self (length c.args.q.now) (vector_of g.M.Monomial.vector c.args.front) (c.has_rows.ensures.0 w.if-has_rows.true) w.learn_rest.ensures.learns w.learn_rest.ensures.known w.take_front.ensures.learns w.take_front.ensures.known w.take_front.ensures.lowered)
      | else-has_rows w ↦ subst (CaughtUp (length c.args.q.now) (vector_of g.M.Monomial.vector c.args.front) c.args.self.now) (sym w.self-is) (caught_idle c.args.self.now (length c.args.q.now) (vector_of g.M.Monomial.vector c.args.front) (λ r. true≢false (sym (c.has_rows.ensures.1 r) ∙ w.if-has_rows.false)))
    ] in
    catches_up g.M.Monomial.vector g.R.CoeffRing.value g.R.CoeffRing.belongs g.M.Monomial.order g.M.Monomial.VARS g.M.Monomial.LIM (g.R.CoeffRing.characteristic c.self-2.inside.coefficients) c.self-2.inside.worker monos.vars c.self-2.inside.rows c.self-2.inside.writer c.self-2.inside.reader c.self-2.inside.lead c.self-2.inside.place c.self-2.inside.front c.self-2.inside.kept c.self-2.inside.marked c.self-2.invariant c.if-has_rows.self c.self-2.view_is c.args.reader c.requires.looking c.requires.nothing c.args.self.now (length c.args.q.now) (vector_of g.M.Monomial.vector c.args.front) c.requires.row k
