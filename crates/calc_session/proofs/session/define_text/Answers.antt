use Rattle.std.proofs.Common.{rules, ◌≡◌, ◌+◌, length, drop, arith}
use Rattle.std.proofs.lemmas.List.{take_rest, length-drop}
use Rattle.calc_session.proofs.CommandLemmas.{read_ok, read_err}
use Rattle.calc_session.proofs.Places.{fault_placed}
use Rattle.calc_session.proofs.session.define_text.Goals as goal

pub in_line-requires : goal.in_line-requires
in_line-requires g c =
    let fits = fault_placed g.M.Monomial.order c.args.names.now (g.R.CoeffRing.characteristic c.args.ring) g.M.Monomial.LIM _ c.in-Err.fault c.in-Err.ensures.fault in
    let shorter : length (drop c.args.start c.args.line.now) + c.args.start ≡ length c.args.line.now = grind (arith, length-drop c.args.start c.args.line.now, c.requires.within) in
    grind (arith, fits, shorter, take_rest c.args.line.now c.args.start, c.requires.within)

pub returns-else-is_err-clause-ok : goal.returns-else-is_err-clause-ok
returns-else-is_err-clause-ok g c = (
  c.in-Ok.poly.list,
  read_ok g.M.Monomial.order c.args.names.now (g.R.CoeffRing.characteristic c.args.ring) g.M.Monomial.LIM c.args.start c.args.line.now _ c.in-Ok.poly.list
      (take_rest c.args.line.now c.args.start) c.in-Ok.ensures.terms,
  search rules,
)

pub returns-in-Err-clause-refused : goal.returns-in-Err-clause-refused
returns-in-Err-clause-refused g c = λ other.
    read_err g.M.Monomial.order c.args.names.now (g.R.CoeffRing.characteristic c.args.ring) g.M.Monomial.LIM c.args.start c.args.line.now _ c.in-Err.fault c.in_line.result
    (take_rest c.args.line.now c.args.start) c.in-Err.ensures.fault c.in_line.ensures other
