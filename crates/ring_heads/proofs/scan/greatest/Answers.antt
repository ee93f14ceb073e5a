use Rattle.std.proofs.Common.{map, sym, subst, ◌+◌, ◌∙◌}
use Rattle.ring_heads.specs.Places.{place_of}
use Rattle.ring_heads.proofs.TopLemmas.{TopBefore, top_begins, top_pass, top_on, top_ends, place_here, place_term, places_end, no_term_place}
use Rattle.ring_heads.proofs.scan.greatest.Goals.{in-Term, in_default}
use Rattle.ring_heads.proofs.scan.greatest.Goals as goal

pub loop-head-init : goal.loop-head-init
loop-head-init g c = top_begins g.M.Ord.cmp (map place_of c.args.list.now)

pub loop-head-preserved : goal.loop-head-preserved
loop-head-preserved g c =
    let o = (g.met.M.Ord g.world.𝓛 g.world.𝓜 g.world.𝓡 ((λ s x. x), (λ x. x), (λ x. x), λ x. x)).total in
    let hs = c.args.list.now in
    let i = c.loop-head.head-index in
    let h = c.head-item.result in
    elim c.match-head.branch [
      | in-Term w ↦ subst (λ t. TopBefore g.M.Ord.cmp (map place_of hs) (i + 1) t) (sym w.top-is) (top_on g.M.Ord.cmp o (map place_of hs) i _ _ _ (place_term hs i h _ c.loop-head-test.true c.head-item.is w.in-Term.is) w.higher_of.ensures c.loop-head.invariant)
      | in_default w ↦ subst (λ t. TopBefore g.M.Ord.cmp (map place_of hs) (i + 1) t) (sym w.top-is)
          (top_pass g.M.Ord.cmp (map place_of hs) i _ (place_here hs i h c.loop-head-test.true c.head-item.is ∙ no_term_place h w.in_default.not-Term) c.loop-head.invariant)
    ]

pub returns : goal.returns
returns g c = top_ends g.M.Ord.cmp _ c.loop-head.head-index c.loop-head.top (places_end c.args.list.now c.loop-head.head-index c.loop-head-test.false) c.loop-head.invariant
