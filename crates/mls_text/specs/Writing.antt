-- What a call that writes a text does to a sink.
use Rattle.std.specs.Prelude.{◌≡◌, ℕ, ◌+◌, ◌<◌, ◌≤◌, List, length, Option, Result, Ok, Err}
use Rattle.mls_base.specs.declared.faults.Failed.{Failed}
use Rattle.mls_base.specs.Told.{appended, Rose, WroteFront}

-- what a writer sees of its sink: what it tells, how many writes failed, and how many more bytes it takes for sure
pub record SinkState : Type 0 where
  pub told : Option (List ℕ)
  pub faults : ℕ
  pub sure : ℕ

-- what is seen of this sink
abbrev pub sink_seen : {S : Type 0} → (S → Option (List ℕ)) → (S → ℕ) → (S → ℕ) → S → SinkState
sink_seen told faults sure sink = record { told = told sink; faults = faults sink; sure = sure sink }

-- The text was appended, and no write failed. What the sink takes for sure fell by no more than the text's bytes.
pub record Wrote (old new : SinkState) (text : List ℕ) : Type 0 where
  pub told : new.told ≡ appended old.told text
  pub faults : new.faults ≡ old.faults
  pub sure : old.sure ≤ new.sure + length text

-- A write failed after a front of the text. The sink took fewer bytes for sure than the text has.
pub record FailedAfter (old new : SinkState) (text : List ℕ) : Type 0 where
  pub front : WroteFront old.told new.told text
  pub rose : Rose old.faults new.faults
  pub unsure : old.sure < length text

-- After Ok the text was appended and no write failed; after Failed a front of it went out and a write failed.
abbrev pub Writes : {A : Type 0} → Result A Failed → List ℕ → SinkState → SinkState → Type 0
Writes (Ok done) text old new = Wrote old new text
Writes (Err failed) text old new = FailedAfter old new text

-- The same of a sink, from what it tells, its count of faults and what it takes for sure.
abbrev pub WritesTo : {S A : Type 0} → (S → Option (List ℕ)) → (S → ℕ) → (S → ℕ) → S → S → Result A Failed → List ℕ → Type 0
WritesTo told faults sure old new result text = Writes result text (sink_seen told faults sure old) (sink_seen told faults sure new)
