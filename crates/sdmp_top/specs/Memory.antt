-- When the ends over memory fail.
use Rattle.std.specs.Prelude.{ℕ, Bool, List, min, ◌+◌, ◌==◌, ◌&&◌, nat_lt}
use Rattle.std.specs.List.{list_any}
use Rattle.sdmp_top.specs.Outside.{last_count}

-- one more, where the count has room for that
abbrev pub counted_on : ℕ → ℕ
counted_on n = min (n + 1) last_count

-- the call of this number is among those that fail
abbrev pub is_failing : List ℕ → ℕ → Bool
is_failing failing call = list_any (λ c. c == call) failing

-- where so much room is left, a piece of so many bytes finds none
abbrev pub finds_no_room : ℕ → ℕ → Bool
finds_no_room room bytes = (room == 0) && nat_lt 0 bytes
