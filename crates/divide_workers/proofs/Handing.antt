-- That a worker holds fewer products where it has come by a term to send.
use Rattle.std.proofs.Common.{◌≡◌, ◌⊎◌, inl, ◌<◌, length, arith}
use Rattle.divide_workers.specs.Views.{WorkerView}
use Rattle.divide_workers.specs.Steps.{HandsOut}

-- it handed out a product, or keeps what it kept before
abbrev pub HandsFewer : WorkerView → WorkerView → Type 0
HandsFewer a b = (length b.state.unread < length a.state.unread) ⊎ (b.state.kept ≡ a.state.kept)

pub hands_fewer : (a b c : WorkerView) → HandsOut a b → length c.state.unread < length b.state.unread → HandsFewer a c
hands_fewer a b c h f = inl (let l = h.less in omega (arith, l, f))
