-- The one worker of a product.
use Rattle.std.proofs.Common.{◌≡◌, ℕ, zero, suc, ◌<◌, List, [], ◌∷◌, length, get_or, map, sym, ap, ◌∙◌, subst, arith}
use Rattle.whole_laws.specs.Notes.{Product, ProductScript}
use Rattle.term_ring.specs.Ends.{IsReaderOf, script_in}
use Rattle.term_ring.specs.declared.ring.Ring.{Ring}
use Rattle.term_ring.specs.declared.ring.Reader.{Reader}
use Rattle.term_ring.specs.Names.{RingName, ring_name, reader_name}
use Rattle.global_heap.specs.Names.{HasScripts}
use Rattle.term_ring.specs.Sending.{SenderView, Sends, IsAmong}
use Rattle.term_ring.proofs.Naming.{name_of_reader}
use Rattle.mul_workers.specs.Rounds.{AreRead}

one_script : (m : Product) (a : RingName) → a.script ≡ ProductScript m 1 0 → HasScripts m (a ∷ [])
one_script m a e zero d l = e
one_script m a e (suc w) d l = absurd (omega arith)

module _ {X M E : Type 0} (ring : Ring X M E) (r : Reader X M E) (rs : List (Reader X M E)) (is : rs ≡ r ∷ []) (of : IsReaderOf ring r) where
  pub its_ring : map reader_name rs ≡ ring_name ring ∷ []
  its_ring = ap (map reader_name) is ∙ ap (λ (n : RingName). n ∷ []) (name_of_reader ring r of)

-- the reader of a product's one ring
pub alone_read : {X M E : Type 0} (m : Product) (ring : Ring X M E) (r : Reader X M E) (rs : List (Reader X M E)) → rs ≡ r ∷ [] → IsReaderOf ring r → script_in ring ≡ ProductScript m 1 0 → AreRead m 1 (ring_name ring ∷ []) (map reader_name rs)
alone_read m ring r rs is of script = record { same = its_ring ring r rs is of; scripts = one_script m (ring_name ring) script; count = omega arith }

pub one_among : (a : RingName) (s : SenderView) → s.worker ≡ 0 → s.ring ≡ a → IsAmong (a ∷ []) s
one_among a s first its = record {
  number = omega arith;
  ring = λ d. ap (λ (k : ℕ). get_or (a ∷ []) k d) first ∙ sym its;
}

-- a worker that sends stays the one of its ring
pub among_still : (names : List RingName) (a b : SenderView) → IsAmong names a → Sends a b → IsAmong names b
among_still names a b m s = record {
  number = subst (λ (w : ℕ). w < length names) (sym s.worker) m.number;
  ring = λ d. ap (λ (w : ℕ). get_or names w d) s.worker ∙ m.ring d ∙ sym s.ring;
}
