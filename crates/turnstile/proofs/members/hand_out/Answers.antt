use Rattle.std.proofs.Common.{rules, refl, ap, ◌∙◌, ◌+◌}
use Rattle.std.proofs.Math.Seq.{map-set_same}
use Rattle.turnstile.specs.Passes.{HasPass}
use Rattle.turnstile.proofs.Lists.{set_more}
use Rattle.turnstile.proofs.Passes.{still_has}
use Rattle.turnstile.proofs.members.hand_out.Goals as goal

pub loop-member-preserved : goal.loop-member-preserved
loop-member-preserved g c = let i = c.loop-member.invariant in let e = c.pass-pass.ensures in let s = c.loop-member.turnstile in let t = c.pass-pass.new.self in record {
  made = e.made ∙ i.made;
  out = e.passes ∙ ap (λ n. n + 1) i.out;
  workers = map-set_same (λ m. m.worker) c.loop-member.members c.loop-member.member _ _ refl ∙ i.workers;
  have = set_more (λ m. HasPass s m.pass) (λ m. HasPass t m.pass) c.loop-member.members c.loop-member.member _ i.have (λ m. still_has s t m.pass e.table e.made) (c.pass-pass.result, refl, e.of, e.outside) (search rules);
}
