use Rattle.mls_model.specs.Launcher.{past_of}
use Rattle.mls_launch.proofs.Safe.{sound_of, has_course, stays_settled, no_tick, all_timely}
use Rattle.mls_launch.proofs.laws.launches_safely.Goals as goal

pub returns : goal.returns
returns c = record {
  slots = λ s are events. (sound_of s events are).slots;
  course = has_course;
  settled = stays_settled;
  ticks = λ s events e. no_tick s (past_of s events) e;
  timely = λ s events e. all_timely s (past_of s events) e;
}
