use Rattle.std.proofs.Common.{map, sym, ◌∙◌, true≢false}
use Rattle.ring_heads.specs.Places.{place_of}
use Rattle.ring_heads.proofs.TopLemmas.{top_begins, none_on, none_ends, place_here, place_term, places_end, no_term_place}
use Rattle.ring_heads.proofs.scan.no_head.Goals.{in-Term, in_default}
use Rattle.ring_heads.proofs.scan.no_head.Goals as goal

pub loop-head-init : goal.loop-head-init
loop-head-init g c = top_begins g.M.Ord.cmp (map place_of c.args.list.now)

pub loop-head-preserved : goal.loop-head-preserved
loop-head-preserved g c =
    let hs = c.args.list.now in
    let i = c.loop-head.head-index in
    none_on g.M.Ord.cmp (map place_of hs) i (elim c.match-matches.branch [
      | in-Term w ↦ absurd (true≢false (sym w.matches-is ∙ c.if-matches.false))
      | in_default w ↦ place_here hs i c.head-item.result c.loop-head-test.true c.head-item.is ∙ no_term_place c.head-item.result w.in_default.not-Term
    ]) c.loop-head.invariant

pub returns-then-matches-clause-no : goal.returns-then-matches-clause-no
returns-then-matches-clause-no g c =
    λ _ none. elim c.match-matches.branch [
      | in-Term w ↦ none c.loop-head.head-index _ (place_term c.args.list.now c.loop-head.head-index c.head-item.result _ c.loop-head-test.true c.head-item.is w.in-Term.is)
      | in_default w ↦ true≢false (sym c.if-matches.true ∙ w.matches-is)
    ]

pub returns-clause-yes : goal.returns-clause-yes
returns-clause-yes g c = λ _. none_ends g.M.Ord.cmp (map place_of c.args.list.now) c.loop-head.head-index (places_end c.args.list.now c.loop-head.head-index c.loop-head-test.false) c.loop-head.invariant
