-- What a link tells of itself, and what its calls make of it.
use Rattle.std.specs.Prelude.{◌≡◌, ℕ, ◌≤◌, List, [], ◌++◌, length, take, drop, Option, Some, None, IfSome}
use Rattle.mls_base.specs.Told.{MayCease}

-- what was read of a link, what is left to read, and what was written to it
pub record Talk : Type 0 where
  pub read : List ℕ
  pub left : List ℕ
  pub written : List ℕ

-- after n bytes of what is left were read
abbrev pub reading : ℕ → Talk → Talk
reading n talk = record { read = talk.read ++ take n talk.left; left = drop n talk.left; written = talk.written }

-- after these bytes were written
abbrev pub writing : List ℕ → Talk → Talk
writing bytes talk = record { read = talk.read; left = talk.left; written = talk.written ++ bytes }

-- what is told after n bytes were read
abbrev pub after_read : ℕ → Option Talk → Option Talk
after_read n None = None
after_read n (Some talk) = Some (reading n talk)

-- what is told after these bytes were written
abbrev pub after_write : List ℕ → Option Talk → Option Talk
after_write bytes None = None
after_write bytes (Some talk) = Some (writing bytes talk)

-- A read gave the first n bytes of what was left, at the front of a slice. None come only where none were left.
pub record Gives (left : List ℕ) (n : ℕ) (old new : List ℕ) : Type 0 where
  pub within : n ≤ length left
  pub front : new ≡ take n left ++ drop n old
  pub ended : n ≡ 0 → left ≡ []

-- a link that had no fault, and of which nothing was read and to which nothing was written, where it tells
pub record IsFresh (faults : ℕ) (told : Option Talk) : Type 0 where
  pub faultless : faults ≡ 0
  pub unread : IfSome told (λ talk. talk.read ≡ [])
  pub unwritten : IfSome told (λ talk. talk.written ≡ [])

-- A front of the text was written. What is told may have ceased.
pub record SentFront (old new : Option Talk) (text : List ℕ) : Type 0 where
  pub front : List ℕ
  pub rest : List ℕ
  pub is_text : front ++ rest ≡ text
  pub written : MayCease (after_write front old) new
