use Rattle.std.proofs.Common.{ℕ, ◌<◌, negsuc, [], ◌∷◌, length, get_or, sym, ap, ◌∙◌, subst}
use Rattle.sdmp_laws.specs.Division.{IsAccepted}
use Rattle.term_ring.specs.Names.{ring_name}
use Rattle.term_ring.specs.Sending.{IsAmong}
use Rattle.division_tests.proofs.Dividing.{is_by_line, cube_accepted}
use Rattle.division_tests.proofs.workers.one_worker_by_its_own_calls.Goals as goal

pub begin_again-requires-clause-accepted : goal.begin_again-requires-clause-accepted
begin_again-requires-clause-accepted g c =
    subst IsAccepted (sym (is_by_line 3 (negsuc 0) (negsuc 0) c.in_ok-f.f c.in_ok-g.g c.in_ok-f.ensures.modulus c.in_ok-f.ensures.list c.in_ok-g.ensures.list)) cube_accepted

pub quotient_of-requires-clause-ring : goal.quotient_of-requires-clause-ring
quotient_of-requires-clause-ring g c κs =
    let names = ring_name c.in_ok-stage.stage.ring ∷ [] in
    let m = subst (IsAmong names) (sym c.in_ok-go_on.ensures.sender) c.in_ok-turnstile.ensures.among in
    let s = c.advance-stop.ensures.works.sends in record {
      number = subst (λ (w : ℕ). w < length names) (sym s.worker) m.number;
      ring = λ d. ap (λ (w : ℕ). get_or names w d) s.worker ∙ m.ring d ∙ sym s.ring;
    }
