use Rattle.std.proofs.Common.{ap, ◌∙◌, sym, arith, length, map}
use Rattle.std.proofs.lemmas.List.{length-replicate}
use Rattle.std.proofs.lemmas.Option.{same_Some}
use Rattle.ring_heads.specs.Places.{place_of}
use Rattle.ring_heads.specs.declared.head.HeadOf.TheVariants as head
use Rattle.ring_heads.proofs.HeadLemmas.{place_start}
use Rattle.ring_heads.proofs.heads.Heads.new.Goals as goal

pub invariant_of-result-2 : goal.invariant_of-result-2
invariant_of-result-2 g c =
    let items = c.in-Ok.ensures.items_if_clones_equal (λ y h. h) in (
      (λ x is. sym (same_Some _ _ is) ∙ c.in-Ok-with_rows.ensures ∙ place_start g.row.R-E.Denot c.args.workers ∙ ap (λ hs. map place_of hs) (sym items)),
      (let long = ap (λ hs. length hs) items ∙ length-replicate c.args.workers head.Missing in let fits = c.ranges.workers.fits in omega arith),
    )
