use Rattle.std.specs.Ordering.{nat_cmp}
use Rattle.sdmp_laws.specs.Order.{Grlex}
use Rattle.packed_monomial.specs.Packing.{vector_of}
use Rattle.packed_monomial.specs.declared.packed.Packed.{Packed}
use Rattle.thread_tests.proofs.Few.{all_belong, taken_small, top_fits}
use Rattle.thread_tests.proofs.heads.take_one.Goals as goal

pub sum_at_top-sum-requires-clause-belongs : goal.sum_at_top-sum-requires-clause-belongs
sum_at_top-sum-requires-clause-belongs c κs = all_belong c.args.heads.now c.requires.small

pub sum_at_top-sum-requires-clause-bound : goal.sum_at_top-sum-requires-clause-bound
sum_at_top-sum-requires-clause-bound c κs z = top_fits (λ (m : Packed 1). vector_of 1 m.word) Grlex c.args.heads.now c.requires.few c.requires.small

pub take_top-requires-clause-belongs : goal.take_top-requires-clause-belongs
take_top-requires-clause-belongs c κs = all_belong c.args.heads.now c.requires.small

pub take_top-requires-clause-bound : goal.take_top-requires-clause-bound
take_top-requires-clause-bound c κs z = top_fits (λ (m : Packed 1). vector_of 1 m.word) Grlex c.args.heads.now c.requires.few c.requires.small

pub returns-in_err-sum-clause-small : goal.returns-in_err-sum-clause-small
returns-in_err-sum-clause-small c = taken_small (λ (a b : Packed 1). nat_cmp a.word b.word) c.in_ok-taken.taken.mono c.args.heads.now c.take_top.new.self c.in_ok-taken.ensures.heads c.requires.small

pub returns-in_err-top-clause-small : goal.returns-in_err-top-clause-small
returns-in_err-top-clause-small c = taken_small (λ (a b : Packed 1). nat_cmp a.word b.word) c.in_ok-taken.taken.mono c.args.heads.now c.take_top.new.self c.in_ok-taken.ensures.heads c.requires.small

pub returns-clause-small : goal.returns-clause-small
returns-clause-small c = taken_small (λ (a b : Packed 1). nat_cmp a.word b.word) c.in_ok-taken.taken.mono c.args.heads.now c.take_top.new.self c.in_ok-taken.ensures.heads c.requires.small
