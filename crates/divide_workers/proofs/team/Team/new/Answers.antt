use Rattle.std.proofs.Common.{rules, ◌≡◌, [], map, subst, ◌∙◌, arith}
use Rattle.division_laws.specs.Outcome.{division_of}
use Rattle.term_ring.specs.Ends.{taken}
use Rattle.term_ring.specs.Names.{ring_name, reader_name, IsReading}
use Rattle.term_ring.proofs.Lists.{same_more}
use Rattle.term_ring.proofs.Naming.{name_of_reader}
use Rattle.quotient_row.specs.Ends.{IsReaderOf, IsNew}
use Rattle.divide_merge.specs.Names.{row_identity}
use Rattle.turnstile.proofs.Lists.{one_more, popped}
use Rattle.divide_workers.proofs.Hiring.{AreHired, hired_more, row_of_reader, hired_scripts, hired_members, hired_fresh}
use Rattle.divide_workers.proofs.team.Team.new.Goals as goal

pub loop-worker-preserved : goal.loop-worker-preserved
loop-worker-preserved g c =
    let i = c.loop-worker.invariant in
    let e = c.pop.ensures in
    let h = c.in_ok-ring.ensures in
    let a = c.push_reserved.ensures in
    let b = c.push_reserved-in-loop-worker.ensures in
    let d = c.push_reserved-in-loop-worker-2.ensures in
    let t = c.loop-worker-test.true in
    let looker = popped (λ r. IsReaderOf c.in_ok-row.row r × IsNew r) _ _ _ _ c.in-Some.looker (search rules) e.items e.value e.rest c.in-Some.is i.looking in
    record {
      below = omega (arith, t);
      rings = (let n = i.rings.0 in let l = a.len in omega (arith, n, l), let n = i.rings.1 in let l = a.capacity in omega (arith, n, l));
      readers = (let n = i.readers.0 in let l = b.len in omega (arith, n, l), let n = i.readers.1 in let l = b.capacity in omega (arith, n, l));
      team = (let n = i.team.0 in let l = d.len in omega (arith, n, l), let n = i.team.1 in let l = d.capacity in omega (arith, n, l));
      lookers = let n = i.lookers in let l = e.len in omega (arith, n, l, t);
      looking = looker.1;
      names = same_more c.loop-worker.readers.items c.push_reserved-in-loop-worker.new.self.items c.in_ok-ring.reader c.loop-worker.rings.items c.push_reserved.new.self.items c.in_ok-ring.ring b.items a.items reader_name ring_name i.names (name_of_reader c.in_ok-ring.ring c.in_ok-ring.reader h.reader);
      reading = one_more IsReading c.loop-worker.readers.items c.push_reserved-in-loop-worker.new.self.items c.in_ok-ring.reader b.items i.reading h.reader.0;
      taken = one_more (λ r. taken r ≡ []) c.loop-worker.readers.items c.push_reserved-in-loop-worker.new.self.items c.in_ok-ring.reader b.items i.taken h.taken;
      hired = hired_more c.loop-worker.rings.items c.push_reserved.new.self.items c.in_ok-ring.ring c.loop-worker.team.items c.push_reserved-in-loop-worker-2.new.self.items c.in_ok-ring.member a.items d.items ring_name (λ w. w.worker.sender)
          (division_of c.args.job.now.mode g.M.Monomial.order g.M.Monomial.VARS c.args.job.now.f.now c.args.job.now.g.now) c.args.workers (row_identity c.in_ok-row.row) c.loop-worker.worker i.hired
          record { script = h.script; places = h.places; number = h.number; ring = h.ring; row_is = h.row ∙ row_of_reader c.in_ok-row.row c.in-Some.looker looker.0.0; fresh = h.fresh };
    }

pub returns-clause-read : goal.returns-clause-read
returns-clause-read g c =
    let i = c.loop-worker.invariant in
    let d = division_of c.args.job.now.mode g.M.Monomial.order g.M.Monomial.VARS c.args.job.now.f.now c.args.job.now.g.now in
    let row = row_identity c.in_ok-row.row in
    let names = map ring_name c.loop-worker.rings.items in
    let team = map (λ w. w.worker.sender) c.loop-worker.team.items in
    let h : AreHired d c.args.workers row names team c.args.workers = subst (λ n. AreHired d c.args.workers row names team n) (let b = i.below in let t = c.loop-worker-test.false in omega (arith, b, t)) i.hired in
    record { same = i.names; scripts = hired_scripts d c.args.workers row names team h; count = h.count }

pub returns-clause-members : goal.returns-clause-members
returns-clause-members g c =
    let i = c.loop-worker.invariant in
    let d = division_of c.args.job.now.mode g.M.Monomial.order g.M.Monomial.VARS c.args.job.now.f.now c.args.job.now.g.now in
    let row = row_identity c.in_ok-row.row in
    let names = map ring_name c.loop-worker.rings.items in
    let team = map (λ w. w.worker.sender) c.loop-worker.team.items in
    hired_members d c.args.workers row names team (subst (λ n. AreHired d c.args.workers row names team n) (let b = i.below in let t = c.loop-worker-test.false in omega (arith, b, t)) i.hired)

pub returns-clause-fresh : goal.returns-clause-fresh
returns-clause-fresh g c =
    let i = c.loop-worker.invariant in
    let d = division_of c.args.job.now.mode g.M.Monomial.order g.M.Monomial.VARS c.args.job.now.f.now c.args.job.now.g.now in
    let row = row_identity c.in_ok-row.row in
    let names = map ring_name c.loop-worker.rings.items in
    let team = map (λ w. w.worker.sender) c.loop-worker.team.items in
    hired_fresh d c.args.workers row names team (subst (λ n. AreHired d c.args.workers row names team n) (let b = i.below in let t = c.loop-worker-test.false in omega (arith, b, t)) i.hired)
