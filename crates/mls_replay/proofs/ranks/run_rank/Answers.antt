-- The core stands for the history of the whole list.
use Rattle.std.proofs.Common.{Bor, List, ◌∙◌, ap, subst}
use Rattle.mls_model.specs.Histories.{LaneEvent, history}
use Rattle.mls_tape.specs.declared.tape.Tape.{Tape}
use Rattle.mls_book.specs.Books.{IsCarried}
use Rattle.mls_book.specs.Histories.{Sure}
use Rattle.mls_replay.proofs.ranks.run_rank.Goals as goal

pub returns-in-Ok-answer-clause-stands : goal.returns-in-Ok-answer-clause-stands
returns-in-Ok-answer-clause-stands g c = λ sure.
    let book = c.take_all-answer.new.book in
    let lanes = c.args.tape.now.lanes in
    let order = c.args.order.now in
    let lanes_same = ap (λ (l : Bor Tape). l.now.lanes) (c.take_all-answer.ensures.lanes ∙ c.in-Ok.ensures.lanes) in
    let same = ap (λ ls. history ls book.journal) lanes_same ∙ ap (history lanes) c.in-Ok-answer.ensures.journal in
    let carried = subst (λ (h : List LaneEvent). IsCarried g.F.RowFold g.K.Keeper book h) same c.on_tape.ensures.carried in
    c.finish-finished.ensures.stands (history lanes order) (carried.stands (subst (λ k. Sure (g.K.Keeper.held k) (history lanes order)) c.finish-finished.ensures.keeper sure))
