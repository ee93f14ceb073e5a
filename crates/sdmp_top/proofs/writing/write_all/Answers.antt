use Rattle.std.proofs.Common.{List, ℕ, sym, subst, ◌∙◌}
use Rattle.std.proofs.lemmas.List.{take_rest}
use Rattle.sdmp_top.proofs.OutsideLemmas.{Leaves, leaves_less}
use Rattle.sdmp_top.proofs.writing.write_all.Goals as goal

pub loop-rest-preserved : goal.loop-rest-preserved
loop-rest-preserved g c = record {
  leaves = subst (λ (r : List ℕ). Leaves (g.K.Sink.held c.args.sink.now) (g.K.Sink.held c.write.new.self) c.args.bytes.now r)
      (sym (take_rest c.loop-rest.rest.now c.in_ok-n.n))
      (leaves_less _ _ _ _ _ c.in_ok-n.n c.loop-rest.invariant.leaves c.in_ok-n.ensures.appends);
  steady = c.in_ok-n.ensures.cause.steady ∙ c.loop-rest.invariant.steady;
}
