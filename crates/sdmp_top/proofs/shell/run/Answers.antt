use Rattle.std.proofs.Common.{rules, ◌≡◌, ℕ, subst}
use Rattle.calc_session.specs.Demo.{demo_input}
use Rattle.sdmp_top.specs.Work.{IsTallied, calculations, tally_of}
use Rattle.sdmp_top.proofs.WorkLemmas.{demo_tallied}
use Rattle.sdmp_top.proofs.shell.run.Goals as goal

pub returns-in-Some-clause-tallied : goal.returns-in-Some-clause-tallied
returns-in-Some-clause-tallied g c = λ answered settings is.
    let same : c.in-Ok.settings ≡ settings = search rules in
    demo_tallied c.in-Ok.settings settings c.in-Some.seed _ (tally_of c.args.ends.now) (tally_of c.run_demo.new.ends) same c.in-Some.is
    (subst (λ (W : ℕ). IsTallied W (calculations (demo_input c.in-Some.seed)) (tally_of c.args.ends.now) (tally_of c.run_demo.new.ends)) c.new-by.ensures (c.run_demo.ensures.tallied answered))
