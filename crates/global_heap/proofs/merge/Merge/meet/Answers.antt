use Rattle.global_heap.proofs.Asking.{asked, own_reader, idle_kept, met, met_owed}
use Rattle.global_heap.proofs.merge.Merge.meet.Goals as goal

pub meet-requires-clause-reader : goal.meet-requires-clause-reader
meet-requires-clause-reader g c κs within = own_reader (asked c.args.ring.now c.self.invariant c.self.view_is c.requires.worker c.requires.ring c.index_mut.ensures.value)

pub invariant_of-self : goal.invariant_of-self
invariant_of-self g c =
    let e = c.meet.ensures in
    idle_kept (asked c.args.ring.now c.self.invariant c.self.view_is c.requires.worker c.requires.ring c.index_mut.ensures.value) c.meet.new.self e.of e.taken

pub returns : goal.returns
returns g c =
    let e = c.meet.ensures in
    let a = (asked c.args.ring.now c.self.invariant c.self.view_is c.requires.worker c.requires.ring c.index_mut.ensures.value) in
    let m = met a c.meet.new.self c.self.view_is e.of e.taken e.tail e.prefix e.head_seen e.tail_seen in
    record {
      state = m.state;
      rings = m.rings;
      spare = m.spare;
      tails = m.tails;
      writer = e.writer;
      sent = e.sent;
      head = e.head;
      prefix = m.prefix;
      reader_seen = m.reader_seen;
      writer_seen = m.writer_seen;
      owed = met_owed a c.meet.new.self c.self.view_is e.of e.taken e.prefix;
    }
