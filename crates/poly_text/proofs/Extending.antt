-- Lists that were appended to.
use Rattle.std.proofs.Common.{◌≡◌, ℕ, List, [], ◌∷◌, ◌++◌, refl, sym, ◌∙◌, ap, append_assoc, append-nil}
use Rattle.poly_text.specs.Printed.{Extends}

pub extends_none : (xs : List ℕ) → Extends xs xs
extends_none xs = record { more = []; is = sym (append-nil xs) }

pub extends_by : (old new xs : List ℕ) → new ≡ old ++ xs → Extends old new
extends_by old new xs e = record { more = xs; is = e }

pub extends_more : (old new xs : List ℕ) → Extends old new → Extends old (new ++ xs)
extends_more old new xs e = record { more = e.more ++ xs; is = ap (λ l. l ++ xs) e.is ∙ append_assoc old e.more xs }

pub extends_same : (old new newer : List ℕ) → Extends old new → newer ≡ new → Extends old newer
extends_same old new newer e f = record { more = e.more; is = f ∙ e.is }

pub extends_twice : (a b c : List ℕ) → Extends a b → Extends b c → Extends a c
extends_twice a b c e f = record { more = e.more ++ f.more; is = f.is ∙ ap (λ l. l ++ f.more) e.is ∙ append_assoc a e.more f.more }

pub ruleset extending = (extends_none, extends_more, extends_twice, append_assoc)
