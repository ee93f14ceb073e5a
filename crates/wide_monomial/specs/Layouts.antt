-- The layouts of the words, one for each number of variables from 1 to 15.
use Rattle.std.specs.Prelude.{ℕ, zero, suc, ◌+◌, ◌-◌, ◌*◌, ◌/◌, ◌^◌, ◌≤◌, ◌<◌, ◌≡◌, ◌⊎◌, min, replicate, get_or}
use Rattle.std.proofs.Common.{refl, inl, inr, arith}
use Rattle.wide_monomial.specs.declared.layout.WideLayout.{WideLayout}
use Rattle.wide_monomial.specs.declared.layout.TheConstants.{WIDE_LAYOUTS}
use Rattle.packed_monomial.specs.Fields.{fields_word}

-- the layout for n variables
abbrev pub layout_of : ℕ → WideLayout
layout_of zero = record { bits = 0; limit = 0; guards = 0 }
layout_of (suc zero) = record { bits = 64; limit = 2147483647; guards = 0x80000000000000008000000000000000 }
layout_of (suc (suc zero)) = record { bits = 42; limit = 2147483647; guards = 0x20000000000800000000020000000000 }
layout_of (suc (suc (suc zero))) = record { bits = 32; limit = 2147483647; guards = 0x80000000800000008000000080000000 }
layout_of (suc (suc (suc (suc zero)))) = record { bits = 25; limit = 16777215; guards = 0x10000008000004000002000001000000 }
layout_of (suc (suc (suc (suc (suc zero))))) = record { bits = 21; limit = 1048575; guards = 0x20000100000800004000020000100000 }
layout_of (suc (suc (suc (suc (suc (suc zero)))))) = record { bits = 18; limit = 131071; guards = 0x20000800020000800020000800020000 }
layout_of (suc (suc (suc (suc (suc (suc (suc zero))))))) = record { bits = 16; limit = 32767; guards = 0x80008000800080008000800080008000 }
layout_of (suc (suc (suc (suc (suc (suc (suc (suc zero)))))))) = record { bits = 14; limit = 8191; guards = 0x20008002000800200080020008002000 }
layout_of (suc (suc (suc (suc (suc (suc (suc (suc (suc zero))))))))) = record { bits = 12; limit = 2047; guards = 0x800800800800800800800800800800 }
layout_of (suc (suc (suc (suc (suc (suc (suc (suc (suc (suc zero)))))))))) = record { bits = 11; limit = 1023; guards = 0x1002004008010020040080100200400 }
layout_of (suc (suc (suc (suc (suc (suc (suc (suc (suc (suc (suc zero))))))))))) = record { bits = 10; limit = 511; guards = 0x802008020080200802008020080200 }
layout_of (suc (suc (suc (suc (suc (suc (suc (suc (suc (suc (suc (suc zero)))))))))))) = record { bits = 9; limit = 255; guards = 0x100804020100804020100804020100 }
layout_of (suc (suc (suc (suc (suc (suc (suc (suc (suc (suc (suc (suc (suc zero))))))))))))) = record { bits = 9; limit = 255; guards = 0x20100804020100804020100804020100 }
layout_of (suc (suc (suc (suc (suc (suc (suc (suc (suc (suc (suc (suc (suc (suc zero)))))))))))))) = record { bits = 8; limit = 127; guards = 0x808080808080808080808080808080 }
layout_of (suc (suc (suc (suc (suc (suc (suc (suc (suc (suc (suc (suc (suc (suc (suc zero))))))))))))))) = record { bits = 8; limit = 127; guards = 0x80808080808080808080808080808080 }
layout_of (suc (suc (suc (suc (suc (suc (suc (suc (suc (suc (suc (suc (suc (suc (suc (suc n)))))))))))))))) = record { bits = 0; limit = 0; guards = 0 }

-- what the packing rests on: the widest fields that fit 128 bits, and the limit all ones below the guard, but at most 2147483647
pub record IsLayout (n : ℕ) (l : WideLayout) : Type 0 where
  pub capacity : l.bits * suc n ≤ 128
  pub narrow : l.bits ≤ 64
  pub limit_bound : l.limit ≤ 2147483647
  pub room : 2 * l.limit < 2 ^ l.bits
  pub guarded : ((l.bits ≡ 0) × (l.limit ≡ 0) × l.guards ≡ 0) ⊎ ((0 < l.bits) × (l.bits ≡ 128 / suc n) × (l.limit ≡ min (2 ^ (l.bits - 1) - 1) 2147483647) × (2 ^ l.bits ≡ 2 ^ (l.bits - 1) + 2 ^ (l.bits - 1)) × l.guards ≡ fields_word l.bits (replicate (suc n) (2 ^ (l.bits - 1))))

pub layout_is : (n : ℕ) → IsLayout n (layout_of n)
layout_is zero = record { capacity = omega arith; narrow = omega arith; limit_bound = omega arith; room = omega arith; guarded = inl (refl, refl, refl) }
layout_is (suc zero) = record { capacity = omega arith; narrow = omega arith; limit_bound = omega arith; room = omega arith; guarded = inr (omega arith, refl, refl, refl, refl) }
layout_is (suc (suc zero)) = record { capacity = omega arith; narrow = omega arith; limit_bound = omega arith; room = omega arith; guarded = inr (omega arith, refl, refl, refl, refl) }
layout_is (suc (suc (suc zero))) = record { capacity = omega arith; narrow = omega arith; limit_bound = omega arith; room = omega arith; guarded = inr (omega arith, refl, refl, refl, refl) }
layout_is (suc (suc (suc (suc zero)))) = record { capacity = omega arith; narrow = omega arith; limit_bound = omega arith; room = omega arith; guarded = inr (omega arith, refl, refl, refl, refl) }
layout_is (suc (suc (suc (suc (suc zero))))) = record { capacity = omega arith; narrow = omega arith; limit_bound = omega arith; room = omega arith; guarded = inr (omega arith, refl, refl, refl, refl) }
layout_is (suc (suc (suc (suc (suc (suc zero)))))) = record { capacity = omega arith; narrow = omega arith; limit_bound = omega arith; room = omega arith; guarded = inr (omega arith, refl, refl, refl, refl) }
layout_is (suc (suc (suc (suc (suc (suc (suc zero))))))) = record { capacity = omega arith; narrow = omega arith; limit_bound = omega arith; room = omega arith; guarded = inr (omega arith, refl, refl, refl, refl) }
layout_is (suc (suc (suc (suc (suc (suc (suc (suc zero)))))))) = record { capacity = omega arith; narrow = omega arith; limit_bound = omega arith; room = omega arith; guarded = inr (omega arith, refl, refl, refl, refl) }
layout_is (suc (suc (suc (suc (suc (suc (suc (suc (suc zero))))))))) = record { capacity = omega arith; narrow = omega arith; limit_bound = omega arith; room = omega arith; guarded = inr (omega arith, refl, refl, refl, refl) }
layout_is (suc (suc (suc (suc (suc (suc (suc (suc (suc (suc zero)))))))))) = record { capacity = omega arith; narrow = omega arith; limit_bound = omega arith; room = omega arith; guarded = inr (omega arith, refl, refl, refl, refl) }
layout_is (suc (suc (suc (suc (suc (suc (suc (suc (suc (suc (suc zero))))))))))) = record { capacity = omega arith; narrow = omega arith; limit_bound = omega arith; room = omega arith; guarded = inr (omega arith, refl, refl, refl, refl) }
layout_is (suc (suc (suc (suc (suc (suc (suc (suc (suc (suc (suc (suc zero)))))))))))) = record { capacity = omega arith; narrow = omega arith; limit_bound = omega arith; room = omega arith; guarded = inr (omega arith, refl, refl, refl, refl) }
layout_is (suc (suc (suc (suc (suc (suc (suc (suc (suc (suc (suc (suc (suc zero))))))))))))) = record { capacity = omega arith; narrow = omega arith; limit_bound = omega arith; room = omega arith; guarded = inr (omega arith, refl, refl, refl, refl) }
layout_is (suc (suc (suc (suc (suc (suc (suc (suc (suc (suc (suc (suc (suc (suc zero)))))))))))))) = record { capacity = omega arith; narrow = omega arith; limit_bound = omega arith; room = omega arith; guarded = inr (omega arith, refl, refl, refl, refl) }
layout_is (suc (suc (suc (suc (suc (suc (suc (suc (suc (suc (suc (suc (suc (suc (suc zero))))))))))))))) = record { capacity = omega arith; narrow = omega arith; limit_bound = omega arith; room = omega arith; guarded = inr (omega arith, refl, refl, refl, refl) }
layout_is (suc (suc (suc (suc (suc (suc (suc (suc (suc (suc (suc (suc (suc (suc (suc (suc n)))))))))))))))) = record { capacity = omega arith; narrow = omega arith; limit_bound = omega arith; room = omega arith; guarded = inl (refl, refl, refl) }

-- the table has these rows
pub row_is : (n : ℕ) (d : WideLayout) → 0 < n → n < 16 → get_or WIDE_LAYOUTS (n - 1) d ≡ layout_of n
row_is zero d h g = absurd (omega arith)
row_is (suc zero) d h g = refl
row_is (suc (suc zero)) d h g = refl
row_is (suc (suc (suc zero))) d h g = refl
row_is (suc (suc (suc (suc zero)))) d h g = refl
row_is (suc (suc (suc (suc (suc zero))))) d h g = refl
row_is (suc (suc (suc (suc (suc (suc zero)))))) d h g = refl
row_is (suc (suc (suc (suc (suc (suc (suc zero))))))) d h g = refl
row_is (suc (suc (suc (suc (suc (suc (suc (suc zero)))))))) d h g = refl
row_is (suc (suc (suc (suc (suc (suc (suc (suc (suc zero))))))))) d h g = refl
row_is (suc (suc (suc (suc (suc (suc (suc (suc (suc (suc zero)))))))))) d h g = refl
row_is (suc (suc (suc (suc (suc (suc (suc (suc (suc (suc (suc zero))))))))))) d h g = refl
row_is (suc (suc (suc (suc (suc (suc (suc (suc (suc (suc (suc (suc zero)))))))))))) d h g = refl
row_is (suc (suc (suc (suc (suc (suc (suc (suc (suc (suc (suc (suc (suc zero))))))))))))) d h g = refl
row_is (suc (suc (suc (suc (suc (suc (suc (suc (suc (suc (suc (suc (suc (suc zero)))))))))))))) d h g = refl
row_is (suc (suc (suc (suc (suc (suc (suc (suc (suc (suc (suc (suc (suc (suc (suc zero))))))))))))))) d h g = refl
row_is (suc (suc (suc (suc (suc (suc (suc (suc (suc (suc (suc (suc (suc (suc (suc (suc n)))))))))))))))) d h g = absurd (omega arith)

pub no_row : (n : ℕ) → (n ≡ 0) ⊎ (16 ≤ n) → layout_of n ≡ record { bits = 0; limit = 0; guards = 0 }
no_row zero h = refl
no_row (suc zero) h = absurd (omega arith)
no_row (suc (suc zero)) h = absurd (omega arith)
no_row (suc (suc (suc zero))) h = absurd (omega arith)
no_row (suc (suc (suc (suc zero)))) h = absurd (omega arith)
no_row (suc (suc (suc (suc (suc zero))))) h = absurd (omega arith)
no_row (suc (suc (suc (suc (suc (suc zero)))))) h = absurd (omega arith)
no_row (suc (suc (suc (suc (suc (suc (suc zero))))))) h = absurd (omega arith)
no_row (suc (suc (suc (suc (suc (suc (suc (suc zero)))))))) h = absurd (omega arith)
no_row (suc (suc (suc (suc (suc (suc (suc (suc (suc zero))))))))) h = absurd (omega arith)
no_row (suc (suc (suc (suc (suc (suc (suc (suc (suc (suc zero)))))))))) h = absurd (omega arith)
no_row (suc (suc (suc (suc (suc (suc (suc (suc (suc (suc (suc zero))))))))))) h = absurd (omega arith)
no_row (suc (suc (suc (suc (suc (suc (suc (suc (suc (suc (suc (suc zero)))))))))))) h = absurd (omega arith)
no_row (suc (suc (suc (suc (suc (suc (suc (suc (suc (suc (suc (suc (suc zero))))))))))))) h = absurd (omega arith)
no_row (suc (suc (suc (suc (suc (suc (suc (suc (suc (suc (suc (suc (suc (suc zero)))))))))))))) h = absurd (omega arith)
no_row (suc (suc (suc (suc (suc (suc (suc (suc (suc (suc (suc (suc (suc (suc (suc zero))))))))))))))) h = absurd (omega arith)
no_row (suc (suc (suc (suc (suc (suc (suc (suc (suc (suc (suc (suc (suc (suc (suc (suc n)))))))))))))))) h = refl
