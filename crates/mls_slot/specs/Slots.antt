-- What the bytes of the two areas stand for.
use Rattle.std.specs.Prelude.{ℕ, ◌+◌, ◌%◌, List, length, take, drop, get_or, Option, None, Some, Bool, true, false, ◌&&◌, if◌then◌else◌, ◌==◌, nat_le}
use Rattle.std.specs.Int.{w64, from_be_bytes}
use Rattle.mls_slot.specs.Disks.{Areas}

-- the bytes before the payload: a gate byte, a number byte and the payload's length in eight bytes
abbrev pub head_length : ℕ
head_length = 10

-- a slot's gate byte, number byte, length and payload
abbrev pub gate : List ℕ → ℕ
gate bytes = get_or bytes 0 0

abbrev pub number : List ℕ → ℕ
number bytes = get_or bytes 1 0

abbrev pub payload_length : List ℕ → ℕ
payload_length bytes = from_be_bytes w64 (take 8 (drop 2 bytes))

abbrev pub payload : List ℕ → List ℕ
payload bytes = take (payload_length bytes) (drop head_length bytes)

-- whole: the gate is 1, the number is 0 to 2, and the area has at least head_length + length bytes
abbrev pub is_whole : List ℕ → Bool
is_whole bytes = (gate bytes == 1) && (nat_le (number bytes) 2 && nat_le (head_length + payload_length bytes) (length bytes))

-- the number of another is this one's plus 1 modulo 3
abbrev pub next : ℕ → ℕ
next n = (n + 1) % 3

-- what the newer or only whole one of two slots has in it
abbrev pub value_of : Bool → List ℕ → Bool → List ℕ → Option (List ℕ)
value_of false x false y = None
value_of true x false y = Some (payload x)
value_of false x true y = Some (payload y)
value_of true x true y = if number x == next (number y) then Some (payload x) else if number y == next (number x) then Some (payload y) else Some (payload x)

-- the disk's value
abbrev pub value : Areas → Option (List ℕ)
value areas = value_of (is_whole (areas 0)) (areas 0) (is_whole (areas 1)) (areas 1)
