-- What a fold prints of a tape whose order doesn't matter.
use Rattle.std.specs.Prelude.{◌≡◌, ℕ, true, List, Option, Some, None, ⊤}
use Rattle.std.specs.Option.{option_and_then}
use Rattle.mls_base.specs.Told.{Names}
use Rattle.mls_text.specs.Writing.{SinkState, Wrote}
use Rattle.mls_model.specs.Schedules.{is_complete}
use Rattle.mls_orders.specs.OrderFree.{IsOrderFree}
use Rattle.mls_orders.specs.CellLines.{text_with_plain_lines}
use Rattle.mls_cli.specs.declared.words.Words.{Words}
use Rattle.mls_cli.specs.declared.words.Words.TheVariants as words
use Rattle.mls_cli.specs.Words.{words_of}
use Rattle.mls_cli.specs.Fold.{Folded, results, asked_fold, right_inputs}

-- what the command `fold` prints the result text of, where its inputs are right
abbrev pub command_prints : Words → Names → Option Folded
command_prints (words.Fold study tape schedule) held = asked_fold (right_inputs results study tape schedule held)
command_prints command held = None

unfoldable pub printed_of : Names → List (List ℕ) → Option Folded
printed_of held words = option_and_then (λ command. command_prints command held) (words_of words)

-- Of a tape whose order doesn't matter, under a complete schedule, the text was appended that has the step and cell lines of the
-- plain schedule.
abbrev pub HasPlainLines : Option Folded → SinkState → SinkState → Type 0
HasPlainLines None old new = ⊤
HasPlainLines (Some f) old new = IsOrderFree f.study.sizes f.lanes → is_complete f.study.sizes.ranks f.lanes f.orders ≡ true → Wrote old new (text_with_plain_lines f.study f.lanes f.orders)
