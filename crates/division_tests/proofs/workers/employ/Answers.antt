use Rattle.std.proofs.Common.{◌≡◌, ℕ, [], ◌∷◌, get_or, sym, ap, ◌∙◌, arith}
use Rattle.row_merge.specs.Learned.{QuotientState}
use Rattle.term_ring.specs.Names.{ring_name, writer_name}
use Rattle.divide_workers.specs.Views.{WorkerView, script_workers}
use Rattle.divide_workers.proofs.Hiring.{its_part}
use Rattle.division_tests.proofs.workers.employ.Goals as goal

pub new-worker-requires-clause-rows : goal.new-worker-requires-clause-rows
new-worker-requires-clause-rows g c κs within =
    let same = c.in_ok-reserve.ensures.same in
    let script = c.requires.writer.2 ∙ c.requires.script in
    its_part c.reserve.new.self c.in_ok-rows.rows _ 1 _ 0 _ _ c.in_ok-rows.ensures (ap (λ (q : QuotientState). q.rows) same) (ap (λ (q : QuotientState). q.divisor) same ∙ ap (λ (q : QuotientState). q.divisor) c.in_ok-rows.ensures) (ap script_workers script)

pub returns-clause-among : goal.returns-clause-among
returns-clause-among g c =
    let h = c.requires.writer in
    let s = c.new-worker.ensures.sender in
    let name : writer_name c.args.writer ≡ ring_name c.args.ring.now = λ i. record { table = h.1 i; script = h.2 i; places = h.3 i } in
    let first : c.new-worker.result.part.sender.state.worker ≡ 0 = ap (λ (v : WorkerView). v.state.worker) s in record {
      number = omega (arith, first);
      ring = λ d. ap (λ (k : ℕ). get_or (ring_name c.args.ring.now ∷ []) k d) first ∙ sym (ap (λ (v : WorkerView). v.ring) s ∙ name);
    }
