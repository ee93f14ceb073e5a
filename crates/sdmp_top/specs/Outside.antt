-- What a source gives and a sink takes, where they tell it.
use Rattle.std.specs.Prelude.{◌≡◌, ◌⊎◌, ◌<◌, ◌≤◌, ℕ, List, ◌++◌, length, take, drop, Option, Some, None, Result, OnOk, OnErr}

-- the first n bytes of what is left have come into the first n places of the buffer
abbrev pub Gives : Option (List ℕ) → Option (List ℕ) → List ℕ → ℕ → Type 0
Gives None now buffer n = Unit {0}
Gives (Some left) now buffer n = (n ≤ length left) × (take n buffer ≡ take n left) × (now ≡ Some (drop n left))

-- 0 is the end
abbrev pub EndsAt : Option (List ℕ) → List ℕ → ℕ → Type 0
EndsAt None buffer n = Unit {0}
EndsAt (Some left) buffer n = 0 < length buffer → n ≡ 0 → length left ≡ 0

-- the bytes stand after what was held
abbrev pub Appends : Option (List ℕ) → Option (List ℕ) → List ℕ → Type 0
Appends None now bytes = Unit {0}
Appends (Some held) now bytes = now ≡ Some (held ++ bytes)

-- the count of faults has risen, or stands at its last value
abbrev pub Rose : ℕ → ℕ → Type 0 → Type 0
Rose before now at_last = (before < now) ⊎ at_last

-- An error comes only where the count rose, and else the count stays.
pub record HasCause {T E : Type 0} (before now : ℕ) (at_last : Type 0) (result : Result T E) : Type 0 where
  pub later : before ≤ now
  pub steady : OnOk result (now ≡ before)
  pub failed : OnErr result (Rose before now at_last)

-- where a count in 64 bits ends
abbrev pub last_count : ℕ
last_count = 18446744073709551615

-- these bytes have come, and the source has the rest
abbrev pub HasGiven : Option (List ℕ) → Option (List ℕ) → List ℕ → Type 0
HasGiven None now bytes = Unit {0}
HasGiven (Some left) now bytes = (rest : List ℕ) × (now ≡ Some rest) × (left ≡ bytes ++ rest)

-- some beginning of the bytes stands after what was held
pub record AppendsPart (old now : Option (List ℕ)) (bytes : List ℕ) : Type 0 where
  pub part : List ℕ
  pub rest : List ℕ
  pub whole : bytes ≡ part ++ rest
  pub appends : Appends old now part

-- the count of faults didn't rise, and could have risen
pub record DidNotFail (before now : ℕ) (at_last : Type 0) : Type 0 where
  pub same : now ≡ before
  pub not_last : at_last → ⊥
