use Rattle.std.proofs.Common.{rules, arith, ◌≡◌, ◌<◌, ◌+◌, ◌*◌, ℕ, zero, suc, List, length, replicate, get_or, refl, ap, ◌∙◌}
use Rattle.std.proofs.lemmas.Grind.{common_steps}
use Rattle.term_ring.proofs.Carrying.{carries_none}
use Rattle.term_ring.proofs.RuleStays.{starts, parts}
use Rattle.term_ring.proofs.ring.Ring.new.Goals as goal

abbrev zeros : ℕ → List ℕ
zeros n = replicate n 0

blank : (n i : ℕ) → get_or (zeros n) i 0 ≡ zero
blank zero i = refl
blank (suc n) zero = refl
blank (suc n) (suc i) = blank n i

pub of_words-requires : goal.of_words-requires
of_words-requires g c =
    let none : c.as_slice.result.now ≡ zeros (32 + 5 * c.args.places) = first_of (search rules, grind (arith, common_steps)) in
    let long : length c.as_slice.result.now ≡ 32 + 5 * c.args.places = first_of (search rules, grind (arith, common_steps)) in
    starts _ _ _ _ _ _ c.requires.places long (λ i. ap (λ (l : List ℕ). get_or l i 0) none ∙ blank (32 + 5 * c.args.places) i) (carries_none g.M.Monomial.vector g.R.CoeffRing.value _)

pub split_seat-other-requires : goal.split_seat-other-requires
split_seat-other-requires g c =
    let e = c.in-Ok-of_words.ensures in
    let long : length c.as_slice.result.now ≡ 32 + 5 * c.args.places = first_of (search rules, grind (arith, common_steps)) in
    let some_word : 0 < c.in-Ok-of_words.made.0.shared.table_id.words = omega (arith, e.0) in (e.2, some_word, parts _ _ _ _ _ _ _ (ap (λ m. m.0.kind) e.4))
