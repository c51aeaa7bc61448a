use Rattle.mls_desk.proofs.Saving.{taken_of, same_named, save_put, put_holds}
use Rattle.mls_desk.proofs.saves.save_last.Goals as goal

pub returns-in-Ok-Taken-clause-named : goal.returns-in-Ok-Taken-clause-named
returns-in-Ok-Taken-clause-named g c =
    let t = taken_of {U = g.K.Keeper} c.args.book.now c.offer.new.self c.decoded-event.result c.in-Ok-Taken.field-0-0 c.in-Ok-Taken.field-0-1 c.in-Ok-Taken.field-0 c.in-Ok-Taken.field-0-is c.in-Ok-Taken.ensures.taken in
    same_named {U = g.K.Keeper} {N = g.N.Run} c.args.book.now c.offer.new.self t.same c.requires.named
    (λ start b. c.beginnings_go_on.ensures.taken start c.args.book.now c.offer.new.self c.decoded-event.result c.in-Ok-Taken.field-0-0 c.in-Ok-Taken.field-0-1 t b)

pub returns-in-Ok-Taken-clause-holds : goal.returns-in-Ok-Taken-clause-holds
returns-in-Ok-Taken-clause-holds g c =
    let t = taken_of {U = g.K.Keeper} c.args.book.now c.offer.new.self c.decoded-event.result c.in-Ok-Taken.field-0-0 c.in-Ok-Taken.field-0-1 c.in-Ok-Taken.field-0 c.in-Ok-Taken.field-0-is c.in-Ok-Taken.ensures.taken in
    let e = c.decoded-event.ensures.event in
    put_holds (g.K.Keeper.held c.args.book.now.keeper) (g.K.Keeper.held c.offer.new.self.keeper) _ (save_put {U = g.K.Keeper} c.args.book.now c.offer.new.self c.decoded-event.result c.in-Ok-Taken.field-0-0 c.in-Ok-Taken.field-0-1 t e.0 e.1)

pub returns-in-Err-clause-named : goal.returns-in-Err-clause-named
returns-in-Err-clause-named g c =
    same_named {U = g.K.Keeper} {N = g.N.Run} c.args.book.now c.offer.new.self c.in-Err.ensures.refused.same c.requires.named
    (λ start b. c.beginnings_go_on.ensures.refused start c.args.book.now c.offer.new.self c.decoded-event.result c.in-Err.fault c.in-Err.ensures.refused b)
