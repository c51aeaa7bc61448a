-- What a disk of two areas tells, and what its calls do to it. Between two syncs a crash may tear what was written.
use Rattle.std.specs.Prelude.{◌≡◌, ◌≢◌, ◌⊎◌, ℕ, ◌+◌, ◌-◌, ◌<◌, ◌≤◌, min, max, List, ◌++◌, length, take, drop}

-- the bytes of each area
abbrev pub Areas : Type 0
Areas = ℕ → List ℕ

pub record View : Type 1 where
  -- what a read of each area gives
  pub seen : Areas
  -- which bytes of an area a crash now may leave
  pub may_leave : ℕ → List ℕ → Type 0
  -- the moment, a number that doesn't fall
  pub moment : ℕ
  -- which images a crash at some moment from that one on might have left, in a call or between two
  pub left_since : ℕ → Areas → Type 0

-- an image of the disk that a crash now may leave: each area by itself
abbrev pub IsLeft : View → Areas → Type 0
IsLeft view image = (area : ℕ) → area < 2 → view.may_leave area (image area)

-- a crash leaves these bytes and no others
abbrev pub Only : List ℕ → (List ℕ → Type 0) → Type 0
Only bytes may_leave = (c : List ℕ) → may_leave c → c ≡ bytes

-- a crash leaves just what a read gives, in both areas
abbrev pub IsAtRest : View → Type 0
IsAtRest view = (area : ℕ) → area < 2 → Only (view.seen area) (view.may_leave area)

-- these bytes at this place of old, over what is there and past the end
abbrev pub over : List ℕ → ℕ → List ℕ → List ℕ
over old at bytes = take at old ++ bytes ++ drop (at + length bytes) old

-- After a write of n bytes that a crash tears: any bytes in the range and past the old end, the same elsewhere, and
-- the end anywhere from the old to the new one.
pub record Torn (at n : ℕ) (old new : List ℕ) : Type 0 where
  pub before : take at new ≡ take at old
  pub after : drop (at + n) new ≡ drop (at + n) old
  pub no_shorter : length old ≤ length new
  pub no_longer : length new ≤ max (length old) (at + n)

-- each new outcome of a crash is an old one after a torn write
abbrev pub Follows : ℕ → ℕ → (List ℕ → Type 0) → (List ℕ → Type 0) → Type 0
Follows at n old new = (c : List ℕ) → new c → (d : List ℕ) × old d × Torn at n d c

-- Time goes on: a crash since a moment might have left what it might have left before, or what it may leave now.
pub record Elapses (old new : View) : Type 0 where
  pub later : old.moment ≤ new.moment
  pub nothing_else : (t : ℕ) (image : Areas) → t ≤ old.moment → new.left_since t image → old.left_since t image ⊎ IsLeft new image
  pub keeps : (t : ℕ) (image : Areas) → t ≤ old.moment → old.left_since t image → new.left_since t image

-- a read gives the same of an area, and a crash may leave the same
pub record SameArea (area : ℕ) (old new : View) : Type 0 where
  pub seen : new.seen area ≡ old.seen area
  pub fewer : (c : List ℕ) → new.may_leave area c → old.may_leave area c
  pub more : (c : List ℕ) → old.may_leave area c → new.may_leave area c

-- nothing changed but the moment
pub record Untouched (old new : View) : Type 0 where
  pub same : (area : ℕ) → SameArea area old new
  pub time : Elapses old new

-- a call on one area changed nothing of the other
pub record Elsewhere (area : ℕ) (old new : View) : Type 0 where
  pub same : (other : ℕ) → other < 2 → other ≢ area → SameArea other old new
  pub time : Elapses old new

-- after a write that succeeded
pub record Wrote (area at : ℕ) (bytes : List ℕ) (old new : View) : Type 0 where
  pub seen : new.seen area ≡ over (old.seen area) at bytes
  pub torn : Follows at (length bytes) (old.may_leave area) (new.may_leave area)
  pub elsewhere : Elsewhere area old new

-- after a write that failed: as after one with no sync
pub record WroteBadly (area at n : ℕ) (old new : View) : Type 0 where
  pub torn : Follows at n (old.may_leave area) (new.may_leave area)
  pub elsewhere : Elsewhere area old new

-- after a sync that succeeded
pub record Synced (area : ℕ) (old new : View) : Type 0 where
  pub seen : new.seen area ≡ old.seen area
  pub only : Only (old.seen area) (new.may_leave area)
  pub fewer : (c : List ℕ) → new.may_leave area c → old.may_leave area c
  pub elsewhere : Elsewhere area old new

-- after a sync that failed
pub record SyncedBadly (area : ℕ) (old new : View) : Type 0 where
  pub fewer : (c : List ℕ) → new.may_leave area c → old.may_leave area c
  pub elsewhere : Elsewhere area old new

-- the bytes from a place on, as many as are there, at the front of what was there
pub record Gave (bytes : List ℕ) (at : ℕ) (old new : List ℕ) (n : ℕ) : Type 0 where
  pub many : n ≡ min (length old) (length bytes - at)
  pub front : new ≡ take n (drop at bytes) ++ drop n old
