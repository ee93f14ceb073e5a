use Rattle.std.proofs.Common.{refl, arith}
use Rattle.std.proofs.lemmas.List.{length-map}
use Rattle.divide_workers.specs.Rounds.{MakesRoom}
use Rattle.divide_workers.proofs.Changing.{changed_here}
use Rattle.divide_workers.proofs.rounds.make_room.Goals as goal

pub loop-worker-preserved : goal.loop-worker-preserved
loop-worker-preserved g c =
    changed_here (MakesRoom c.args.found c.args.places) (λ w. w.worker.sender) c.args.workers.now c.loop-worker.workers c.loop-worker.worker c.index-workers-worker.result _ c.reserve.new.self.sender refl c.loop-worker.invariant
    (let t = c.loop-worker-test.true in let l = c.loop-worker.auto.workers in omega arith)
    record {
      same = c.in_ok-reserve.ensures.same;
      room = λ rows. let m = c.saturating_sub-missing.ensures in let k = c.known.ensures in let q = c.in_ok-reserve.ensures.room rows in omega arith;
    }

pub returns : goal.returns
returns g c =
    let i = c.loop-worker.invariant in record {
      long = i.long;
      each = λ k d lt. i.done k d (let t = c.loop-worker-test.false in let l = length-map c.args.workers.now (λ w. w.worker.sender) in omega arith);
    }
