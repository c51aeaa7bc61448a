use Rattle.std.proofs.Common.{ℕ, ◌+◌, ◌-◌, List, ap, ◌∙◌, sym, arith}
use Rattle.mls_ckpt.specs.Reading.{many}
use Rattle.mls_ckpt.specs.States.{after_one}
use Rattle.mls_ckpt.specs.Places.{cursor_of}
use Rattle.mls_ckpt.specs.CellParts.{column_at}
use Rattle.mls_field.specs.Answered.{before}
use Rattle.mls_field.specs.Taken.{totals_of, columns_in}
use Rattle.mls_field.proofs.ReadInOrder.{goes_on}
use Rattle.mls_field.proofs.TakenCells.{IsSet, columns_more, rules_more, outputs_kept, columns_done}
use Rattle.mls_field.proofs.taken.take_columns.Goals as goal

pub loop-k-preserved : goal.loop-k-preserved
loop-k-preserved c =
    let h = c.loop-k.invariant in
    let k = c.loop-k.k in
    let n = c.args.n in
    let t = c.args.outputs.now in
    let column = c.in_ok-column.column in
    let put = c.set_column.ensures in
    let is : IsSet k column c.loop-k.sums c.set_column.new.sums = record { long = c.in_ok-column.ensures.long; first = put.first; second = put.second; with_a = put.with_a; with_b = put.with_b; before = put.before } in
    record {
      read = ap (λ (columns : List (List ℕ)). before columns (many (λ i from. column_at n (totals_of t) from) after_one (c.args.parameters - (k + 1)) (k + 1) (cursor_of c.take_column.new.from))) (sym (columns_more k column c.loop-k.sums c.set_column.new.sums is)) ∙
          goes_on (λ i from. column_at n (totals_of t) from) after_one c.args.parameters k k (columns_in c.loop-k.sums k) column (cursor_of c.loop-k.from) (cursor_of c.take_column.new.from) _ (omega arith) c.in_ok-column.ensures.exact h.read;
      rules = rules_more n k t column c.loop-k.sums c.set_column.new.sums is h.outputs c.in_ok-column.ensures.rules h.rules;
      outputs = outputs_kept t k column c.loop-k.sums c.set_column.new.sums is h.outputs;
      beyond = λ i high. put.beyond i (omega (arith, high)) ∙ h.beyond i high;
    }

pub returns-clause-exact : goal.returns-clause-exact
returns-clause-exact c = columns_done c.args.n c.args.parameters c.loop-k.k (totals_of c.args.outputs.now) c.loop-k.sums (cursor_of c.args.from.now) (cursor_of c.loop-k.from) (omega arith) c.loop-k.invariant.read
