use Rattle.std.proofs.Common.{rules, arith, ◌≡◌, ℕ, ◌+◌, ◌-◌, ◌<◌, ◌≤◌, ℤ, pos, [], ◌∷◌, ◌++◌, All, sym, subst}
use Rattle.std.specs.Prelude.{unsigned_abs}
use Rattle.std.proofs.lemmas.List.Elements.{All-nil, All-push}
use Rattle.sdmp_laws.specs.Limits.{greatest_norm}
use Rattle.packed_monomial.specs.Packing.{vector_of}
use Rattle.packed_monomial.specs.declared.packed.Packed.{Packed}
use Rattle.divide_wholes.specs.Row.{RowCarry}
use Rattle.quotient_row.specs.declared.note.RowNoteOf.TheVariants.{Term, Front}
use Rattle.thread_tests.specs.Examples.{square_less_one}
use Rattle.quotient_row.specs.Spelling.{Belongs, notes_of}
use Rattle.thread_tests.proofs.Published.{Falls, falls_none, front_falls, all_fall}
use Rattle.thread_tests.proofs.rows.falling_list.Goals as goal

pub loop-k-init : goal.loop-k-init
loop-k-init c =
    let is : c.new-out.result.items ≡ [] = search rules in record {
      fits = subst (All (Belongs (λ (a : ℤ). unsigned_abs a ≤ greatest_norm))) (sym is) (All-nil (Belongs (λ (a : ℤ). unsigned_abs a ≤ greatest_norm)));
      falls = subst (λ l. Falls 302 (notes_of (λ (m : Packed 1). vector_of 1 m.word) (λ (a : ℤ). a) l)) (sym is) (falls_none 302);
    }

pub loop-k-preserved : goal.loop-k-preserved
loop-k-preserved c =
    let inv = c.loop-k.invariant in let k : ℕ = c.loop-k.k in let front = c.in_ok-front.front in let out = c.loop-k.out.items in
    let few : k < 300 = search rules in
    let is : c.push.new.self.items ≡ out ++ Front front ∷ [] = search rules in
    let v : vector_of 1 front.word ≡ (301 - k) ∷ [] = search rules in
    let next : 301 - k ≡ 302 - (k + 1) = omega arith in record {
      fits = subst (All (Belongs (λ (a : ℤ). unsigned_abs a ≤ greatest_norm))) (sym is) (All-push (Belongs (λ (a : ℤ). unsigned_abs a ≤ greatest_norm)) out (Front front) inv.fits tt);
      falls = subst (λ (n : ℕ). Falls n (notes_of (λ (m : Packed 1). vector_of 1 m.word) (λ (a : ℤ). a) c.push.new.self.items)) next
          (subst (λ l. Falls (301 - k) (notes_of (λ (m : Packed 1). vector_of 1 m.word) (λ (a : ℤ). a) l)) (sym is)
          (front_falls (λ (m : Packed 1). vector_of 1 m.word) (λ (a : ℤ). a) (302 - k) out front (301 - k) v (omega arith) (omega arith) inv.falls));
    }

pub returns-clause-legal : goal.returns-clause-legal
returns-clause-legal c =
    let out = c.loop-k.out.items in let one = c.in_ok-one.one in let zero = c.in_ok-zero.zero in
    let is : c.push-3.new.self.items ≡ (out ++ Term record { mono = one; coef = pos 1 } ∷ []) ++ Term record { mono = zero; coef = pos 1 } ∷ [] = search rules in
    let x : vector_of 1 one.word ≡ 1 ∷ [] = search rules in let unit : vector_of 1 zero.word ≡ 0 ∷ [] = search rules in
    subst (λ l. RowCarry square_less_one 0 (notes_of (λ (m : Packed 1). vector_of 1 m.word) (λ (a : ℤ). a) l)) (sym is)
    (all_fall (λ (m : Packed 1). vector_of 1 m.word) (λ (a : ℤ). a) (302 - c.loop-k.k) out record { mono = one; coef = pos 1 } record { mono = zero; coef = pos 1 }
    (λ i. record { monomial = x i; coefficient = pos 1 }) (λ i. record { monomial = unit i; coefficient = pos 1 }) c.loop-k.invariant.falls)
