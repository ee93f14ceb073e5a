use Rattle.std.proofs.Common.{rules, ◌≡◌, ◌<◌, [], map, sym, subst, arith}
use Rattle.term_ring.specs.Ends.{taken}
use Rattle.term_ring.specs.Names.{ring_name, reader_name, IsReading}
use Rattle.term_ring.proofs.Lists.{same_more}
use Rattle.term_ring.proofs.Naming.{name_of_reader}
use Rattle.mul_workers.specs.Products.{product_of}
use Rattle.turnstile.proofs.Lists.{one_more}
use Rattle.mul_workers.proofs.Hiring.{AreHired, none_hired, hired_more, hired_scripts, hired_members}
use Rattle.mul_workers.proofs.team.Team.new.Goals as goal

pub loop-worker-init : goal.loop-worker-init
loop-worker-init g c = record {
  below = search rules;
  rings = search rules;
  readers = search rules;
  team = search rules;
  names = search rules;
  reading = search rules;
  taken = search rules;
  hired = none_hired (product_of g.M.Monomial.order g.M.Monomial.VARS c.args.f.now c.args.g.now) c.args.workers ring_name (λ w. w.worker.sender) c.in-Ok.rings.items c.in-Ok-with_capacity-2.team.items (search rules) (search rules);
}

pub loop-worker-preserved : goal.loop-worker-preserved
loop-worker-preserved g c =
    let i = c.loop-worker.invariant in
    let h = c.in_ok-ring.ensures in
    let a = c.push_reserved.ensures in
    let b = c.push_reserved-in-loop-worker.ensures in
    let d = c.push_reserved-in-loop-worker-2.ensures in
    let m = product_of g.M.Monomial.order g.M.Monomial.VARS c.args.f.now c.args.g.now in
    record {
      below = let t = c.loop-worker-test.true in omega arith;
      rings = (let n = i.rings.0 in let e = a.len in omega arith, let n = i.rings.1 in let e = a.capacity in omega arith);
      readers = (let n = i.readers.0 in let e = b.len in omega arith, let n = i.readers.1 in let e = b.capacity in omega arith);
      team = (let n = i.team.0 in let e = d.len in omega arith, let n = i.team.1 in let e = d.capacity in omega arith);
      names = same_more c.loop-worker.readers.items c.push_reserved-in-loop-worker.new.self.items c.in_ok-ring.reader c.loop-worker.rings.items c.push_reserved.new.self.items c.in_ok-ring.ring b.items a.items reader_name ring_name i.names (name_of_reader c.in_ok-ring.ring c.in_ok-ring.reader h.reader);
      reading = one_more IsReading c.loop-worker.readers.items c.push_reserved-in-loop-worker.new.self.items c.in_ok-ring.reader b.items i.reading h.reader.0;
      taken = one_more (λ r. taken r ≡ []) c.loop-worker.readers.items c.push_reserved-in-loop-worker.new.self.items c.in_ok-ring.reader b.items i.taken h.taken;
      hired = hired_more c.loop-worker.rings.items c.push_reserved.new.self.items c.in_ok-ring.ring c.loop-worker.team.items c.push_reserved-in-loop-worker-2.new.self.items c.in_ok-ring.member a.items d.items ring_name (λ w. w.worker.sender) m c.args.workers c.loop-worker.worker i.hired
          record { script = h.script; places = subst (λ n. 0 < n) (sym h.places) c.requires.places; sender = h.worker };
    }

pub returns-clause-read : goal.returns-clause-read
returns-clause-read g c =
    let i = c.loop-worker.invariant in
    let m = product_of g.M.Monomial.order g.M.Monomial.VARS c.args.f.now c.args.g.now in
    let names = map ring_name c.loop-worker.rings.items in
    let team = map (λ w. w.worker.sender) c.loop-worker.team.items in
    let h : AreHired m c.args.workers names team c.args.workers = subst (λ n. AreHired m c.args.workers names team n) (let b = i.below in let t = c.loop-worker-test.false in omega arith) i.hired in
    record { same = i.names; scripts = hired_scripts m c.args.workers names team h; count = h.count }

pub returns-clause-members : goal.returns-clause-members
returns-clause-members g c =
    let i = c.loop-worker.invariant in
    let m = product_of g.M.Monomial.order g.M.Monomial.VARS c.args.f.now c.args.g.now in
    let names = map ring_name c.loop-worker.rings.items in
    let team = map (λ w. w.worker.sender) c.loop-worker.team.items in
    hired_members m c.args.workers names team (subst (λ n. AreHired m c.args.workers names team n) (let b = i.below in let t = c.loop-worker-test.false in omega arith) i.hired)
