use Rattle.std.proofs.Common.{rules, arith, refl, sym, subst, ◌∙◌, ◌≤◌, get_or, length-set, vec_capacity}
use Rattle.std.proofs.Math.Seq.{map-set_same}
use Rattle.turnstile.specs.Passes.{IsPassOf, IsOutside, HasPass}
use Rattle.turnstile.proofs.Lists.{set_less, one_more}
use Rattle.turnstile.proofs.Passes.{its_pass, no_pass}
use Rattle.turnstile.proofs.members.collect.Goals as goal

pub loop-member-preserved : goal.loop-member-preserved
loop-member-preserved g c = let i = c.loop-member.invariant in let e = c.push_reserved.ensures in let t = c.args.turnstile.now in let n = c.loop-member.member in let ms = c.loop-member.members in let m = get_or ms n c.index-members-member.result in
    let h = its_pass t m.pass c.in-Some.pass (sym c.take.ensures.value ∙ c.in-Some.is) (i.have n c.index-members-member.result (omega arith) (search rules)) in record {
      count = let a = i.count in let b = e.len in omega arith;
      room = subst (λ k. k ≤ vec_capacity c.push_reserved.new.self) (sym (length-set ms n _)) (let a = i.room in let b = e.capacity in omega arith);
      each = one_more (λ p. IsPassOf t p × IsOutside p) _ _ c.in-Some.pass e.items i.each h;
      workers = map-set_same (λ x. x.worker) ms n _ _ refl ∙ i.workers;
      have = set_less (λ x. HasPass t x.pass) ms n _ i.have;
    }

pub unreachable-requires : goal.unreachable-requires
unreachable-requires g c =
    let i = c.loop-member.invariant in
    let m = get_or c.loop-member.members c.loop-member.member c.index-members-member.result in
    no_pass c.args.turnstile.now m.pass (i.have c.loop-member.member c.index-members-member.result (omega arith) (let t = c.loop-member-test.true in let l = c.loop-member.auto.members in omega arith)) (sym c.take.ensures.value ∙ c.in_default.is)
