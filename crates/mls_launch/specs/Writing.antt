-- What writing a watch leaves, and the numbers of groups at its end.
use Rattle.std.specs.Prelude.{◌≡◌, ℕ, Result, Ok, Err, List}
use Rattle.mls_launch.specs.declared.totals.Totals.{Totals}
use Rattle.mls_launch.specs.declared.faults.OutFault.{OutFault}
use Rattle.mls_launch.specs.declared.faults.OutFault.TheVariants.{WriteFault, Memory}
use Rattle.mls_text.specs.Writing.{SinkState, Wrote, FailedAfter}
use Rattle.mls_model.specs.Studies.{Sizes}
use Rattle.mls_model.specs.Pasts.{Entry, runs, waits, is_finished, is_given_up}
use Rattle.mls_model.specs.WatchText.{group_count}

-- the numbers of groups that run, wait, are finished and are given up
pub record AreTotals (t : Totals) (s : Sizes) (past : List Entry) : Type 0 where
  pub running : t.running ≡ group_count s (λ g. runs g past)
  pub waiting : t.waiting ≡ group_count s (λ g. waits g past)
  pub finished : t.finished ≡ group_count s (λ g. is_finished g past)
  pub given_up : t.given_up ≡ group_count s (λ g. is_given_up g past)

-- After Ok the text was appended and no write failed; after a write fault a front of it went out and a write failed;
-- after want of memory the sink is as before.
abbrev pub OutLeaves : OutFault → List ℕ → SinkState → SinkState → Type 0
OutLeaves WriteFault text old new = FailedAfter old new text
OutLeaves Memory text old new = new ≡ old

abbrev pub WritesOut : {A : Type 0} → Result A OutFault → List ℕ → SinkState → SinkState → Type 0
WritesOut (Ok done) text old new = Wrote old new text
WritesOut (Err fault) text old new = OutLeaves fault text old new
