use Rattle.std.proofs.Common.{rules, arith, ◌≡◌, ◌<◌, ◌+◌, ◌*◌, ℕ, List, [], ◌∷◌, ◌++◌, length, take, sym, ap, ◌∙◌, subst, length-append}
use Rattle.std.proofs.lemmas.List.{length-take-le, take_all}
use Rattle.term_ring.specs.Rule.{place, words_of_ring}
use Rattle.term_ring.proofs.Lists.{place_below}
use Rattle.term_ring.proofs.RuleStays.{finds, puts}
use Rattle.term_ring.proofs.writer.write_note.Goals as goal

pub load-requires : goal.load-requires
load-requires g c =
    let inv = c.loop-k.invariant in let m = c.args.seat.now.me in let k : ℕ = c.loop-k.k in let few : k < 5 = search rules in
    let ring = c.args.ring.now in let places : ℕ = ring.table.shared.key.places in let same : m.0.places ≡ places = c.requires.table.1 in
    let long : length c.args.bits.now ≡ 5 = search rules in
    let here : 32 + 5 * c.args.slot + k ≡ place places (length m.0.notes) k = ap (λ (z : ℕ). 32 + 5 * z + k) c.requires.slot.2 in (
      search rules,
      subst (λ (z : ℕ). 32 + 5 * c.args.slot + k < z) (sym ring.sized) (subst (λ (z : ℕ). z < words_of_ring places) (sym here) (place_below places (length m.0.notes) k c.requires.slot.0 few)),
      finds _ _ _ _ _ _ _ _ k _ (ap (λ m. m.0.kind) inv.2 ∙ c.requires.writing.0) (ap (λ m. length m.0.words) inv.2 ∙ length-take-le k c.args.bits.now (omega arith)) few
          (subst (λ m. length m.0.notes < m.0.seen + m.0.places) (sym inv.2) (subst (λ (z : ℕ). length m.0.notes < m.0.seen + z) (sym same) c.requires.free))
          (subst (λ m. 32 + 5 * c.args.slot + k ≡ place m.0.places (length m.0.notes) k) (sym inv.2) (here ∙ λ i. place (sym same i) (length m.0.notes) k)),
    )

pub store-requires : goal.store-requires
store-requires g c =
    let inv = c.loop-k.invariant in let m = c.args.seat.now.me in let k : ℕ = c.loop-k.k in let few : k < 5 = search rules in
    let ring = c.args.ring.now in let places : ℕ = ring.table.shared.key.places in let same : m.0.places ≡ places = c.requires.table.1 in
    let long : length c.args.bits.now ≡ 5 = search rules in let known : List ℕ = take k c.args.bits.now in let r : ℕ = c.load.result in
    let here : 32 + 5 * c.args.slot + k ≡ place places (length m.0.notes) k = ap (λ (z : ℕ). 32 + 5 * z + k) c.requires.slot.2 in
    let found : c.load.new.seat.me ≡ (record m.0 { words = known ++ r ∷ [] }, m.1) = c.load.ensures.2 ∙ ap (λ n. (record n.0 { words = n.0.words ++ r ∷ [] }, n.1)) inv.2 in (
      search rules,
      subst (λ (z : ℕ). 32 + 5 * c.args.slot + k < z) (sym ring.sized) (subst (λ (z : ℕ). z < words_of_ring places) (sym here) (place_below places (length m.0.notes) k c.requires.slot.0 few)),
      puts _ _ _ _ _ _ _ _ k _ _ (ap (λ m. m.0.kind) found ∙ c.requires.writing.0)
          (ap (λ m. length m.0.words) found ∙ (length-append known (r ∷ []) ∙ ap (λ (z : ℕ). z + 1) (length-take-le k c.args.bits.now (omega arith)))) few
          (subst (λ m. length m.0.notes < m.0.seen + m.0.places) (sym found) (subst (λ (z : ℕ). length m.0.notes < m.0.seen + z) (sym same) c.requires.free))
          (subst (λ m. 32 + 5 * c.args.slot + k ≡ place m.0.places (length m.0.notes) k) (sym found) (here ∙ λ i. place (sym same i) (length m.0.notes) k)),
    )

pub returns : goal.returns
returns g c =
    let inv = c.loop-k.invariant in let m = c.args.seat.now.me in let bits : List ℕ = c.args.bits.now in
    (inv.0, inv.1, inv.2 ∙ ap (λ ws. (record m.0 { words = ws }, m.1)) (take_all c.loop-k.k bits (omega (arith, c.told-bits))))
