-- What is known of an area from its head.
use Rattle.std.specs.Prelude.{◌≡◌, ℕ, ◌-◌, ◌<◌, List, length, Option, None, Some, Bool, ◌&&◌, not, if◌then◌else◌, ◌==◌, nat_lt}
use Rattle.mls_slot.specs.Disks.{Areas}
use Rattle.mls_slot.specs.Slots.{gate, number, payload, payload_length, is_whole, next, value}
use Rattle.mls_slot.specs.declared.heads.Slot.{Slot}
use Rattle.mls_slot.specs.declared.heads.Head.{Head}
use Rattle.mls_slot.specs.declared.heads.Heads.{Heads}

-- there is a gate, and it isn't 1
abbrev pub is_shut : List ℕ → Bool
is_shut bytes = nat_lt 0 (length bytes) && not (gate bytes == 1)

abbrev pub slot_of : List ℕ → Option Slot
slot_of bytes = if is_whole bytes then Some (record { number = number bytes; length = payload_length bytes }) else None

pub record IsHead (bytes : List ℕ) (head : Head) : Type 0 where
  pub shut : head.shut ≡ is_shut bytes
  pub slot : head.slot ≡ slot_of bytes

pub record AreHeads (areas : Areas) (heads : Heads) : Type 0 where
  pub zero : IsHead (areas 0) heads.zero
  pub one : IsHead (areas 1) heads.one

abbrev pub other : ℕ → ℕ
other area = 1 - area

-- the value of an area alone
abbrev pub alone : List ℕ → Option (List ℕ)
alone bytes = if is_whole bytes then Some (payload bytes) else None

-- the number that follows an area's, 0 where it isn't whole
abbrev pub following : List ℕ → ℕ
following bytes = if is_whole bytes then next (number bytes) else 0

-- The area isn't the current one: the disk's value is that of the other, and this number follows the other's.
pub record IsTarget (areas : Areas) (area n : ℕ) : Type 0 where
  pub below : area < 2
  pub kept : value areas ≡ alone (areas (other area))
  pub number : n ≡ following (areas (other area))
