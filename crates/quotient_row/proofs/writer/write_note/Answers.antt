use Rattle.std.proofs.Common.{rules, arith, ◌≡◌, ◌<◌, ℕ, List, [], ◌∷◌, ◌++◌, length, get_or, sym, ap, ◌∙◌, subst}
use Rattle.std.proofs.lemmas.List.{take_more, length-take-le, take_all}
use Rattle.quotient_row.specs.Rule.{place}
use Rattle.quotient_row.proofs.RuleStays.{puts}
use Rattle.quotient_row.proofs.writer.write_note.Goals as goal

pub store-requires : goal.store-requires
store-requires g c =
    let inv = c.loop-k.invariant in let m = c.args.seat.now.me in let k : ℕ = c.loop-k.k in let few : k < 5 = search rules in
    let sized = c.args.row.now.sized in let count : length m.0.notes ≡ c.args.number = c.requires.free.0 in let below = c.requires.free.1 in
    let within : length m.0.notes < m.0.places = let same = c.requires.table.1 in omega arith in (
      search rules,
      omega arith,
      puts _ _ _ _ _ _ _ _ k _ _ (ap (λ m. m.0.kind) inv.2 ∙ c.requires.writing.0) (ap (λ m. length m.0.words) inv.2 ∙ length-take-le k c.args.bits.now (omega (arith, c.told-bits))) few
          (subst (λ m. length m.0.notes < m.0.places) (sym inv.2) within)
          (subst (λ m. place c.args.number k ≡ place (length m.0.notes) k) (sym inv.2) (λ i. place (sym count i) k)),
    )

pub loop-k-preserved : goal.loop-k-preserved
loop-k-preserved g c =
    let inv = c.loop-k.invariant in let m = c.args.seat.now.me in let k : ℕ = c.loop-k.k in let bits : List ℕ = c.args.bits.now in let few : k < length bits = omega (arith, c.told-bits) in (
      c.store.ensures.0 ∙ inv.0,
      c.store.ensures.1 ∙ inv.1,
      c.store.ensures.2 ∙ (ap (λ n. (record n.0 { words = n.0.words ++ get_or bits k 0 ∷ [] }, n.1)) inv.2 ∙ ap (λ ws. (record m.0 { words = ws }, m.1)) (sym (take_more bits k 0 few))),
    )

pub returns : goal.returns
returns g c =
    let inv = c.loop-k.invariant in let m = c.args.seat.now.me in let bits : List ℕ = c.args.bits.now in
    (inv.0, inv.1, inv.2 ∙ ap (λ ws. (record m.0 { words = ws }, m.1)) (take_all c.loop-k.k bits (omega (arith, c.told-bits))))
