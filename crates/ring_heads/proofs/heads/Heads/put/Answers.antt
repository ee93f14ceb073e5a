use Rattle.std.proofs.Common.{◌≡◌, ◌<◌, ◌^◌, Some, length, map, subst, sym, length-set, set, ap, ◌∙◌}
use Rattle.std.proofs.lemmas.Option.{same_Some}
use Rattle.chained_heap.specs.declared.node.Place.TheVariants.{In}
use Rattle.ring_heads.specs.Places.{place_of}
use Rattle.ring_heads.specs.declared.head.HeadOf.TheVariants as head
use Rattle.ring_heads.proofs.HeadLemmas.{place_set}
use Rattle.ring_heads.proofs.heads.Heads.put.Goals.{in-Some, in_default}
use Rattle.ring_heads.proofs.heads.Heads.put.Goals as goal

pub invariant_of-self : goal.invariant_of-self
invariant_of-self g c =
    let hs = c.self.inside.list.items in
    let h = head.Term c.args.term in
    let few = subst (λ n. n < 2 ^ 32) (sym (length-set hs c.args.worker h)) c.self.invariant.1 in
    elim c.match-self.branch [
      | in-Some w ↦ subst (λ s. ((x : _) → s.heap ≡ Some x → x ≡ map place_of s.list.items) × (length s.list.items < 2 ^ 32)) (sym w.self-inside-is) (
        (λ x is. sym (same_Some _ _ is) ∙ w.insert.ensures.places ∙ ap (λ ps. set ps c.args.worker (In c.args.term.mono)) (c.self.invariant.0 w.in-Some.heap w.in-Some.is) ∙ place_set hs c.args.worker h),
        few,
      )
      | in_default w ↦ subst (λ s. ((x : _) → s.heap ≡ Some x → x ≡ map place_of s.list.items) × (length s.list.items < 2 ^ 32)) (sym w.self-inside-is) (
        (λ x is. absurd (w.in_default.not-Some x is)),
        few,
      )
    ]
