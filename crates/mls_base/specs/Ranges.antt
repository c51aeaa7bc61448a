-- The ranges of a study's numbers, one part after another, as they are checked.
use Rattle.std.specs.Prelude.{ℕ, ◌*◌, ◌≤◌, List, length, min, IsTrue, nat_le}
use Rattle.std.specs.List.{list_all}
use Rattle.mls_model.specs.Studies.{rises}

-- m cells, s steps and g groups, and r ranks and c clients that work on them
pub record AreCounts (m s g r c : ℕ) : Type 0 where
  pub some_cells : 1 ≤ m
  pub cells : m ≤ 1048576
  pub some_steps : 1 ≤ s
  pub steps : s ≤ 4096
  pub some_groups : 1 ≤ g
  pub groups : g ≤ 65535
  pub some_ranks : 1 ≤ r
  pub ranks : r ≤ min m 64
  pub some_clients : 1 ≤ c
  pub clients : c ≤ min m 64

-- how groups are launched: n at once, dead after t seconds of silence, in l lives
pub record AreLaunched (n t l : ℕ) : Type 0 where
  pub some_slots : 1 ≤ n
  pub slots : n ≤ 65535
  pub some_silence : 1 ≤ t
  pub silence : t ≤ 86400
  pub some_lives : 1 ≤ l
  pub lives : l ≤ 255

-- p parameters that a group varies, and f fields
pub record AreVaried (p f : ℕ) : Type 0 where
  pub some_parameters : 1 ≤ p
  pub parameters : p ≤ 16
  pub some_fields : 1 ≤ f
  pub fields : f ≤ 4

-- at most eight numbers of 16 bits that rise
pub record AreThresholds (thresholds : List ℕ) : Type 0 where
  pub few : length thresholds ≤ 8
  pub rising : IsTrue (rises thresholds)
  pub fit : IsTrue (list_all (λ t. nat_le t 65535) thresholds)

-- the products
pub record AreProducts (cells steps groups ranks fields : ℕ) : Type 0 where
  pub mesh : cells * steps * fields ≤ 1048576
  pub marks : groups * steps * fields * ranks ≤ 1073741824
