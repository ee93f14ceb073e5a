use Rattle.std.proofs.Common.{rules, ◌≡◌, ℤ, pos, List, All, length, get_or, replicate, sym, ap, subst, ◌∙◌}
use Rattle.std.proofs.lemmas.List.{length-replicate}
use Rattle.std.proofs.lemmas.List.Elements.{All-replicate}
use Rattle.packed_monomial.specs.declared.packed.Packed.{Packed}
use Rattle.ring_heads.specs.declared.head.HeadOf.{HeadOf}
use Rattle.ring_heads.specs.declared.head.HeadOf.TheVariants as head
use Rattle.thread_tests.proofs.Few.{Small, none_yet, put_long, put_ahead, put_small}
use Rattle.thread_tests.proofs.heads.filled.Goals as goal

pub loop-worker-init : goal.loop-worker-init
loop-worker-init c =
    let n = length c.args.pairs.now in
    let is : c.in_ok-heads.heads ≡ replicate n head.Missing = search rules in record {
      long = ap (λ (hs : List (HeadOf (Packed 1) ℤ)). length hs) is ∙ length-replicate n head.Missing;
      ahead = λ k above. subst (λ hs. get_or hs k head.Missing ≡ head.Missing) (sym is) (none_yet n k);
      small = subst (All Small) (sym is) (All-replicate Small n head.Missing tt);
    }

pub loop-worker-preserved : goal.loop-worker-preserved
loop-worker-preserved c =
    let i = c.loop-worker.invariant in let hs = c.loop-worker.heads in let w = c.loop-worker.worker in
    let coef = c.requires.small w (0, pos 0) c.loop-worker-test.true in record {
      long = put_long hs c.put.new.self w _ c.put.ensures ∙ i.long;
      ahead = put_ahead hs c.put.new.self w _ c.put.ensures i.ahead;
      small = put_small hs c.put.new.self w _ c.put.ensures (search rules) i.small;
    }
