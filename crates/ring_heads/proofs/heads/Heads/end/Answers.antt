use Rattle.std.proofs.Common.{◌<◌, ◌^◌, get_or, subst, sym, length-set, ap, ◌∙◌}
use Rattle.ring_heads.proofs.HeadLemmas.{place_ended}
use Rattle.ring_heads.specs.declared.head.HeadOf.TheVariants as head
use Rattle.ring_heads.proofs.heads.Heads.end.Goals as goal

pub invariant_of-self : goal.invariant_of-self
invariant_of-self g c =
    let hs = c.self.inside.list.items in (
      (λ x is. c.self.invariant.0 x is ∙ place_ended hs c.args.worker (ap (λ v. get_or v c.args.worker head.Missing) c.self.view_is ∙ c.requires.missing)),
      subst (λ n. n < 2 ^ 32) (sym (length-set hs c.args.worker head.Ended)) c.self.invariant.1,
    )
