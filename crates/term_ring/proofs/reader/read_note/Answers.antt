use Rattle.std.proofs.Common.{rules, arith, ◌≡◌, ◌<◌, ◌+◌, ◌*◌, ℕ, List, [], ◌∷◌, ◌++◌, length, length-set, sym, ap, ◌∙◌, subst}
use Rattle.std.proofs.lemmas.List.{take_more_set, length-take-le, take_all}
use Rattle.term_ring.specs.Rule.{place, words_of_ring}
use Rattle.term_ring.proofs.Lists.{place_below}
use Rattle.term_ring.proofs.RuleStays.{peeks}
use Rattle.term_ring.proofs.reader.read_note.Goals as goal

pub load-requires : goal.load-requires
load-requires g c =
    let inv = c.loop-k.invariant in let m = c.args.seat.now.me in let k : ℕ = c.loop-k.k in let few : k < 5 = search rules in
    let ring = c.args.ring.now in let places : ℕ = ring.table.shared.key.places in let same : m.0.places ≡ places = c.requires.table.1 in
    let here : 32 + 5 * c.args.slot + k ≡ place places (length m.0.notes) k = ap (λ (z : ℕ). 32 + 5 * z + k) c.requires.slot.2 in (
      search rules,
      subst (λ (z : ℕ). 32 + 5 * c.args.slot + k < z) (sym ring.sized) (subst (λ (z : ℕ). z < words_of_ring places) (sym here) (place_below places (length m.0.notes) k c.requires.slot.0 few)),
      peeks _ _ _ _ _ _ _ _ k _ (ap (λ m. m.0.kind) inv.3 ∙ c.requires.reading.0) (ap (λ m. length m.0.words) inv.3 ∙ length-take-le k c.loop-k.bits (omega arith)) few
          (subst (λ m. length m.0.notes < m.0.seen) (sym inv.3) c.requires.ahead)
          (subst (λ m. 32 + 5 * c.args.slot + k ≡ place m.0.places (length m.0.notes) k) (sym inv.3) (here ∙ λ i. place (sym same i) (length m.0.notes) k)),
    )

pub loop-k-preserved : goal.loop-k-preserved
loop-k-preserved g c =
    let inv = c.loop-k.invariant in let m = c.args.seat.now.me in let k : ℕ = c.loop-k.k in let bits : List ℕ = c.loop-k.bits in let few : k < length bits = omega arith in (
      c.load.ensures.0 ∙ inv.0,
      c.load.ensures.1 ∙ inv.1,
      length-set bits k c.load.result ∙ inv.2,
      c.load.ensures.2 ∙ (ap (λ n. (record n.0 { words = n.0.words ++ c.load.result ∷ [] }, n.1)) inv.3 ∙ ap (λ ws. (record m.0 { words = ws }, m.1)) (sym (take_more_set bits k c.load.result few))),
    )

pub returns : goal.returns
returns g c =
    let inv = c.loop-k.invariant in let m = c.args.seat.now.me in let bits : List ℕ = c.loop-k.bits in
    (inv.0, inv.1, inv.3 ∙ ap (λ ws. (record m.0 { words = ws }, m.1)) (take_all c.loop-k.k bits (omega arith)))
