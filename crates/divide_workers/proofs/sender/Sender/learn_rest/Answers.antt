use Rattle.std.proofs.Common.{◌≡◌, ◌+◌, List, length, sym, ap, subst, ◌∙◌, arith}
use Rattle.std.proofs.lemmas.List.{length_push}
use mathlib.Core.List.{IsPrefix}
use Rattle.sdmp_laws.specs.Poly.{Term}
use Rattle.sdmp_laws.specs.LongDivision.{quotient_list}
use Rattle.canonical_terms.specs.View.{term_of, sum_of}
use Rattle.divide_workers.specs.Views.{WorkerView}
use Rattle.divide_workers.specs.Steps.{IsNextTerm}
use Rattle.divide_workers.proofs.Fields.{learns_none, learns_again}
use Rattle.divide_workers.proofs.Looking.{next_at, begun_still, knows_more}
use Rattle.divide_workers.proofs.sender.Sender.learn_rest.Goals as goal

pub loop-k-init : goal.loop-k-init
loop-k-init g c =
    let e : length c.args.self.now.state.known ≡ c.known-k.result = sym (c.known-k.ensures ∙ ap (λ (v : WorkerView). length v.state.known) c.self.view_is) in record {
      learns = learns_none c.args.self.now;
      count = e;
      ends = omega (arith, e);
      knows = subst (λ (v : WorkerView). IsPrefix v.state.known (quotient_list v.state.division)) c.self.view_is c.self.invariant.working.whole.knows;
    }

pub learn_next-requires-clause-next : goal.learn_next-requires-clause-next
learn_next-requires-clause-next g c κs within =
    let i = c.loop-k.invariant in
    next_at g.M.Monomial.vector g.R.CoeffRing.value c.loop-k.self.state c.args.q.now c.loop-k.k c.index-q-k.result i.knows
    (begun_still c.args.self.now c.loop-k.self (sum_of g.M.Monomial.vector g.R.CoeffRing.value c.args.q.now) i.learns c.requires.q) i.count c.loop-k-test.true c.index-q-k.is

pub loop-k-preserved : goal.loop-k-preserved
loop-k-preserved g c =
    let i = c.loop-k.invariant in let t = term_of g.M.Monomial.vector g.R.CoeffRing.value c.index-q-k.result in
    let next : IsNextTerm c.loop-k.self.state t =
    next_at g.M.Monomial.vector g.R.CoeffRing.value c.loop-k.self.state c.args.q.now c.loop-k.k c.index-q-k.result i.knows
    (begun_still c.args.self.now c.loop-k.self (sum_of g.M.Monomial.vector g.R.CoeffRing.value c.args.q.now) i.learns c.requires.q) i.count c.loop-k-test.true c.index-q-k.is in
    record {
      learns = learns_again c.args.self.now c.loop-k.self c.learn_next.new.self i.learns c.learn_next.ensures.learns;
      count = ap (λ (L : List Term). length L) c.learn_next.ensures.known ∙ length_push c.loop-k.self.state.known t ∙ ap (λ k. k + 1) i.count;
      ends = let l = c.loop-k-test.true in omega (arith, l);
      knows = knows_more c.loop-k.self c.learn_next.new.self t c.learn_next.ensures.learns c.learn_next.ensures.known next;
    }

pub returns-clause-known : goal.returns-clause-known
returns-clause-known g c =
    let e : length c.args.self.now.state.known ≡ c.known-k.result = sym (c.known-k.ensures ∙ ap (λ (v : WorkerView). length v.state.known) c.self.view_is) in
    let i = c.loop-k.invariant in let a = i.count in let b = i.ends in let l = c.loop-k-test.false in let k = c.loop-k.auto.k in omega (arith, e, a, b, l, k)
