use Rattle.std.proofs.Common.{ℕ, ◌+◌, List, length}
use Rattle.mls_design.specs.declared.trial.stock.Stock.{Stock}
use Rattle.mls_design.specs.TrialSchedule.{stock_events}
use Rattle.mls_design.specs.TrialMixing.{Rise, IsMixing}
use Rattle.mls_design.proofs.trial.mixing.pick_all.Given as goal

abbrev pub invariant-loop-words : goal.invariant-loop-words
invariant-loop-words l = (number at : ℕ) (all : List Stock) → Rise all → IsMixing number at all l.fn.order.items l.fn.still.items l.fn.words → IsMixing number at all l.order.items l.still.items l.words

abbrev pub decreases-loop-words : goal.decreases-loop-words
decreases-loop-words l = stock_events l.still.items + length l.still.items
