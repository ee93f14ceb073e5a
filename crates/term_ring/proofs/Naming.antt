-- The name of an end's ring.
use Rattle.std.proofs.Common.{◌≡◌}
use Rattle.term_ring.specs.Ends.{IsReaderOf, IsWriterOf}
use Rattle.term_ring.specs.Names.{ring_name, reader_name, writer_name}
use Rattle.term_ring.specs.declared.ring.Ring.{Ring}
use Rattle.term_ring.specs.declared.ring.Reader.{Reader}
use Rattle.term_ring.specs.declared.ring.Writer.{Writer}

module _ {X M E : Type 0} where
  pub name_of_reader : (ring : Ring X M E) (r : Reader X M E) → IsReaderOf ring r → reader_name r ≡ ring_name ring
  name_of_reader ring r h = λ i. record { table = h.1 i; script = h.2 i; places = h.3 i }

  pub name_of_writer : (ring : Ring X M E) (w : Writer X M E) → IsWriterOf ring w → writer_name w ≡ ring_name ring
  name_of_writer ring w h = λ i. record { table = h.1 i; script = h.2 i; places = h.3 i }
