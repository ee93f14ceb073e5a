use Rattle.std.proofs.Common.{rules, arith, ◌≡◌, ◌<◌, ℕ, List, [], ◌∷◌, ◌++◌, length, length-set, sym, ap, ◌∙◌, subst}
use Rattle.std.proofs.lemmas.List.{take_more_set, length-take-le, take_all}
use Rattle.quotient_row.specs.Rule.{place}
use Rattle.quotient_row.proofs.RuleStays.{peeks}
use Rattle.quotient_row.proofs.reader.read_four.Goals as goal

pub load-requires : goal.load-requires
load-requires g c =
    let inv = c.loop-k.invariant in let m = c.args.seat.now.me in let k : ℕ = c.loop-k.k in let few : k < 4 = search rules in let fewer : k < 5 = omega arith in
    let sized = c.args.row.now.sized in let count : length m.0.notes ≡ c.args.number = c.requires.ahead.0 in let below = c.requires.ahead.2 in
    let ahead : length m.0.notes < m.0.seen = subst (λ (z : ℕ). z < m.0.seen) (sym count) c.requires.ahead.1 in (
      search rules,
      omega arith,
      peeks _ _ _ _ _ _ _ _ k _ (ap (λ m. m.0.kind) inv.3 ∙ c.requires.looking.0) (ap (λ m. length m.0.words) inv.3 ∙ length-take-le k c.loop-k.bits (omega arith)) fewer
          (subst (λ m. length m.0.notes < m.0.seen) (sym inv.3) ahead)
          (subst (λ m. place c.args.number k ≡ place (length m.0.notes) k) (sym inv.3) (λ i. place (sym count i) k)),
    )

pub loop-k-preserved : goal.loop-k-preserved
loop-k-preserved g c =
    let inv = c.loop-k.invariant in let m = c.args.seat.now.me in let k : ℕ = c.loop-k.k in let bits : List ℕ = c.loop-k.bits in let few : k < length bits = omega arith in (
      c.load.ensures.0 ∙ inv.0,
      c.load.ensures.1 ∙ inv.1,
      length-set bits k c.load.result ∙ inv.2,
      c.load.ensures.2 ∙ (ap (λ n. (record n.0 { words = n.0.words ++ c.load.result ∷ [] }, n.1)) inv.3 ∙ ap (λ ws. (record m.0 { words = ws }, m.1)) (sym (take_more_set bits k c.load.result few))),
    )

pub returns : goal.returns
returns g c =
    let inv = c.loop-k.invariant in let m = c.args.seat.now.me in let bits : List ℕ = c.loop-k.bits in
    (inv.0, inv.1, inv.2, inv.3 ∙ ap (λ ws. (record m.0 { words = ws }, m.1)) (take_all c.loop-k.k bits (omega arith)))
