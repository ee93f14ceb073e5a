use Rattle.std.proofs.Common.{◌∙◌, List, length, sym, ap, refl, arith}
use Rattle.canonical_terms.specs.declared.term.TermOf.{TermOf}
use Rattle.divide_merge.proofs.Reserving.{reserved, on_ok, fits_first, fits_second, fits_both}
use Rattle.divide_merge.proofs.merge.DivideMerge.reserve.Goals as goal

pub invariant_of-self : goal.invariant_of-self
invariant_of-self g c =
    let k = c.self.invariant in
    reserved g.M.Monomial.vector g.R.CoeffRing.value g.R.CoeffRing.belongs _ _ g.M.Monomial.LIM _ _ _ _ k _ _ _ _ _ c.reserve.ensures.items refl
    (let a = k.terms.room in let b = c.reserve.ensures.capacity in omega arith) k.terms.rest_fits

pub invariant_of-self-then-is_err-2 : goal.invariant_of-self-then-is_err-2
invariant_of-self-then-is_err-2 g c =
    let k = c.self.invariant in
    reserved g.M.Monomial.vector g.R.CoeffRing.value g.R.CoeffRing.belongs _ _ g.M.Monomial.LIM _ _ _ _ k _ _ _ _ _ c.reserve.ensures.items c.reserve-2.ensures.items
    (let a = k.terms.room in let b = c.reserve.ensures.capacity in omega arith) (let a = k.terms.rest_fits in let b = c.reserve-2.ensures.capacity in omega arith)

pub invariant_of-self-2 : goal.invariant_of-self-2
invariant_of-self-2 g c =
    let k = c.self.invariant in
    let q = c.reserve.ensures in
    let r = c.reserve-2.ensures in
    let lq = c.len.ensures ∙ c.reserve.new.self.ok.0 ∙ ap (λ (ts : List (TermOf _ _)). length ts) q.items in
    let lr = c.len-2.ensures ∙ c.reserve-2.new.self.ok.0 ∙ ap (λ (ts : List (TermOf _ _)). length ts) r.items in
    reserved g.M.Monomial.vector g.R.CoeffRing.value g.R.CoeffRing.belongs _ _ g.M.Monomial.LIM _ _ _ _ k _ _ _ _ _ q.items r.items
    (let f = fits_first c.capacity.result c.len.result _ c.min-self-inside.result c.min-self-inside.ensures (let a = k.terms.room in let b = q.capacity in let e = c.capacity.ensures in let l = lq in omega arith) in let e = c.capacity.ensures in let l = lq in omega arith)
    (let f = fits_second c.capacity-2.result c.len-2.result _ c.min-self-inside.result c.min-self-inside.ensures (let a = k.terms.rest_fits in let b = r.capacity in let e = c.capacity-2.ensures in let l = lr in omega arith) in let e = c.capacity-2.ensures in let l = lr in omega arith)

pub returns-clause-room : goal.returns-clause-room
returns-clause-room g c =
    let q = on_ok c.reserve.result (sym c.is_err.ensures.value ∙ c.if-is_err.false) c.reserve.ensures.ok in
    let r = on_ok c.reserve-2.result (sym c.is_err-2.ensures.value ∙ c.if-is_err-2.false) c.reserve-2.ensures.ok in
    fits_both c.capacity.result c.len.result c.capacity-2.result c.len-2.result c.args.n c.min-self-inside.result c.min-self-inside.ensures
    (let e = c.capacity.ensures in let l = c.len.ensures in let m = q in omega arith) (let e = c.capacity-2.ensures in let l = c.len-2.ensures in let m = r in omega arith)
