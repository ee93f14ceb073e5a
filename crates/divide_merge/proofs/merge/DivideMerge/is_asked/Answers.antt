use Rattle.std.proofs.Common.{◌≡◌, nat_lt, cond, eqb, length, arith, sym, ap, ◌∙◌, true≢false}
use Rattle.divide_merge.proofs.Hearing.{missing_is, head_there, asked_no, asked_is}
use Rattle.divide_merge.proofs.merge.DivideMerge.is_asked.Goals as goal

pub is_missing-requires-after_bounds : goal.is_missing-requires-after_bounds
is_missing-requires-after_bounds g c κs within = head_there c.self.invariant c.self.view_is c.args.worker c.requires

pub returns-then-not-is_missing : goal.returns-then-not-is_missing
returns-then-not-is_missing g c =
    let missing = missing_is c.self.invariant c.self.view_is c.args.worker c.requires c.is_missing.result c.is_missing.ensures in
    asked_no c.self.invariant c.self.view_is c.args.worker (λ none. true≢false (sym (missing.1 none) ∙ c.if-not-is_missing.true))

pub returns : goal.returns
returns g c =
    let missing = missing_is c.self.invariant c.self.view_is c.args.worker c.requires c.is_missing.result c.is_missing.ensures in
    let long : c.len.result ≡ length c.self.inside.readers.items = omega (arith, c.len.ensures, c.self.inside.readers.ok) in
    asked_is c.self.invariant c.self.view_is c.args.worker c.requires (missing.0 c.if-not-is_missing.false) _
    (ap (λ i. nat_lt i c.self.inside.divisor.terms) (c.first_place.ensures ∙ ap (λ n. cond (eqb c.args.worker 0) n c.args.worker) long))
