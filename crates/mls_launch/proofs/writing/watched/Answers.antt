use Rattle.std.proofs.Common.{ap, ◌∙◌, ◌++◌, get_or}
use Rattle.mls_model.specs.declared.launcher.Event.TheVariants.{Tick}
use Rattle.mls_model.specs.Launcher.{actions_at, past_of}
use Rattle.mls_launch.proofs.TimedMore.{watched_none, watched_more}
use Rattle.mls_launch.proofs.writing.watched.Goals as goal

pub loop-event-init : goal.loop-event-init
loop-event-init c = watched_none c.args.shape.now c.in_ok-watch.watch c.new-lines.result.items c.in_ok-watch.ensures.sizes c.in_ok-watch.ensures.stands c.new-lines.ensures.items

pub loop-event-preserved : goal.loop-event-preserved
loop-event-preserved c =
    watched_more c.args.shape.now c.loop-event.watch c.step.new.self c.loop-event.lines.items c.add_timed.new.lines.items c.args.events.now c.loop-event.event-index (Tick 0) c.in_ok-time.time c.deref.result.now
    c.loop-event-test.true c.loop-event.invariant c.in_ok-time.ensures.sizes c.in_ok-time.ensures.stands c.in_ok-time.ensures.time
    (λ events h. c.deref.ensures.value ∙ c.in_ok-time.ensures.actions events h
    ∙ ap (λ l. l ++ actions_at c.loop-event.watch.sizes (past_of c.loop-event.watch.sizes events) (get_or c.args.events.now c.loop-event.event-index (Tick 0))) c.new-actions.ensures.items)
    c.in_ok-add_timed.ensures
