use Rattle.std.proofs.Common.{rules, ◌≡◌, ◌+◌, ◌≤◌, [], length, All, get_or, map, refl, sym, ap, ◌∙◌, subst, arith}
use Rattle.std.proofs.lemmas.List.{length-map}
use Rattle.sdmp_laws.specs.Division.{Division}
use Rattle.turnstile.proofs.Lists.{popped}
use Rattle.quotient_row.specs.Ends.{known}
use Rattle.divide_merge.specs.Names.{IsLooking, reader_row}
use Rattle.divide_workers.specs.Paying.{HasRows}
use Rattle.divide_workers.specs.Steps.{CatchesUp}
use Rattle.divide_workers.proofs.Changing.{changed_first, still_here, changed_here}
use Rattle.divide_workers.proofs.NewRow.{begun_there, front_there, name_there, caught_there}
use Rattle.divide_workers.proofs.rounds.catch_up_all.Given as given
use Rattle.divide_workers.proofs.rounds.catch_up_all.Goals as goal
use Rattle.divide_workers.proofs.rounds.catch_up_all.Goals.{After-quotient}

-- the next worker's division is the merge's
its_division : (g : given.Over) (c : After-quotient g) → (get_or c.loop-worker.workers c.loop-worker.worker c.index-workers-worker.result).worker.sender.state.division ≡ c.args.merge.now.run.state.division
its_division g c =
    let m = c.args.merge.now in
    still_here (CatchesUp m.row (length m.run.state.q) m.run.state.front) (λ w. w.worker.sender) c.args.workers.now c.loop-worker.workers c.loop-worker.worker c.index-workers-worker.result (λ v. v.state.division ≡ m.run.state.division) c.requires.division c.loop-worker.invariant.changed c.loop-worker-test.true

length_is : (g : given.Over) (c : After-quotient g) → length c.quotient.result.now ≡ length c.args.merge.now.run.state.q
length_is g c = sym (length-map c.quotient.result.now _) ∙ ap length c.quotient.ensures.terms

-- the reader that is popped reads the merge's row, and so do those left
taken : (g : given.Over) (c : After-quotient g) → (IsLooking c.in-Some.reader × (reader_row c.in-Some.reader ≡ c.args.merge.now.row) × (known c.in-Some.reader ≡ [])) × All (λ r. IsLooking r × (reader_row r ≡ c.args.merge.now.row) × (known r ≡ [])) c.pop.new.self.items × (length c.loop-worker.readers.items ≡ length c.pop.new.self.items + 1)
taken g c =
    let e = c.pop.ensures in
    popped (λ r. IsLooking r × (reader_row r ≡ c.args.merge.now.row) × (known r ≡ [])) _ _ _ _ c.in-Some.reader (search rules) e.items e.value e.rest c.in-Some.is c.loop-worker.invariant.readers

pub loop-worker-init : goal.loop-worker-init
loop-worker-init g c =
    let m = c.args.merge.now in record {
      changed = changed_first (CatchesUp m.row (length m.run.state.q) m.run.state.front) (map (λ w. w.worker.sender) c.args.workers.now);
      readers = c.requires.readers;
      count = let n = c.requires.count in omega arith;
    }

pub catch_up-requires-clause-q : goal.catch_up-requires-clause-q
catch_up-requires-clause-q g c κs within =
    let m = c.args.merge.now in
    let mine = its_division g (goal.at.catch_up-requires-clause-q g c).After-quotient in
    begun_there g.M.Monomial.LIM m (get_or c.loop-worker.workers c.loop-worker.worker c.index-workers-worker.result).worker.sender _ c.whole.ensures.sound mine c.quotient.ensures.terms

pub catch_up-requires-clause-front : goal.catch_up-requires-clause-front
catch_up-requires-clause-front g c κs within =
    let m = c.args.merge.now in
    let mine = its_division g (goal.at.catch_up-requires-clause-front g c).After-quotient in
    front_there g.M.Monomial.LIM m (get_or c.loop-worker.workers c.loop-worker.worker c.index-workers-worker.result).worker.sender _ c.whole.ensures.sound mine c.quotient.ensures.terms _ c.front-front.ensures.front

pub catch_up-requires-clause-belongs : goal.catch_up-requires-clause-belongs
catch_up-requires-clause-belongs g c κs within =
    let mine = its_division g (goal.at.catch_up-requires-clause-belongs g c).After-quotient in
    subst (λ (d : Division). All (λ t. g.R.CoeffRing.belongs d.p t.coef) c.quotient.result.now) (sym mine) c.quotient.ensures.belongs

pub catch_up-requires-clause-looking : goal.catch_up-requires-clause-looking
catch_up-requires-clause-looking g c κs within = (taken g (goal.at.catch_up-requires-clause-looking g c).After-quotient).0.0

pub catch_up-requires-clause-row : goal.catch_up-requires-clause-row
catch_up-requires-clause-row g c κs within =
    let m = c.args.merge.now in
    let mine = its_division g (goal.at.catch_up-requires-clause-row g c).After-quotient in
    let h = taken g (goal.at.catch_up-requires-clause-row g c).After-quotient in
    name_there g.M.Monomial.LIM m (get_or c.loop-worker.workers c.loop-worker.worker c.index-workers-worker.result).worker.sender _ c.whole.ensures.sound mine c.quotient.ensures.terms (reader_row c.in-Some.reader) (length c.quotient.result.now) h.0.1 (length_is g (goal.at.catch_up-requires-clause-row g c).After-quotient ∙ sym c.requires.new)

pub catch_up-requires-clause-nothing : goal.catch_up-requires-clause-nothing
catch_up-requires-clause-nothing g c κs within = (taken g (goal.at.catch_up-requires-clause-nothing g c).After-quotient).0.2

pub catch_up-requires-clause-spare : goal.catch_up-requires-clause-spare
catch_up-requires-clause-spare g c κs within =
    let m = c.args.merge.now in
    let room = still_here (CatchesUp m.row (length m.run.state.q) m.run.state.front) (λ w. w.worker.sender) c.args.workers.now c.loop-worker.workers c.loop-worker.worker c.index-workers-worker.result (λ v. HasRows v.state → length m.run.state.q ≤ length v.state.known + v.spare) c.requires.room c.loop-worker.invariant.changed c.loop-worker-test.true in
    λ rows. subst (λ n. n ≤ length (get_or c.loop-worker.workers c.loop-worker.worker c.index-workers-worker.result).worker.sender.state.known + (get_or c.loop-worker.workers c.loop-worker.worker c.index-workers-worker.result).worker.sender.spare) (sym (length_is g (goal.at.catch_up-requires-clause-spare g c).After-quotient)) (room rows)

pub loop-worker-preserved : goal.loop-worker-preserved
loop-worker-preserved g c =
    let m = c.args.merge.now in
    let i = c.loop-worker.invariant in
    let h = taken g (goal.at.loop-worker-preserved g c).After-quotient in
    record {
      changed = changed_here (CatchesUp m.row (length m.run.state.q) m.run.state.front) (λ w. w.worker.sender) c.args.workers.now c.loop-worker.workers c.loop-worker.worker c.index-workers-worker.result _ c.catch_up.new.self.sender refl i.changed
          (let t = c.loop-worker-test.true in let l = c.loop-worker.auto.workers in omega arith)
          (caught_there m (get_or c.loop-worker.workers c.loop-worker.worker c.index-workers-worker.result).worker.sender c.catch_up.new.self.sender _ _ _ h.0.1 (length_is g (goal.at.loop-worker-preserved g c).After-quotient) c.front-front.ensures.front c.catch_up.ensures);
      readers = h.1;
      count = let n = i.count in let k = h.2 in omega arith;
    }

pub returns : goal.returns
returns g c =
    let i = c.loop-worker.invariant.changed in record {
      long = i.long;
      each = λ k d lt. i.done k d (let t = c.loop-worker-test.false in let l = length-map c.args.workers.now (λ w. w.worker.sender) in omega arith);
    }
