use Rattle.std.proofs.Common.{◌≡◌, ℕ, List, length, drop, ap, ◌∙◌}
use Rattle.mls_model.specs.Frames.{spelling, sight}
use Rattle.mls_frame.specs.Views.{frame_of}
use Rattle.mls_tape.proofs.Entries.{in_lanes, event_there, event_is, told_event, is_whole}
use Rattle.mls_tape.proofs.tape.Tape.event.Goals as goal

pub lane_kind-kind-requires : goal.lane_kind-kind-requires
lane_kind-kind-requires c = in_lanes c.args.self.now.lanes c.args.lane c.args.number c.requires

pub frame_at-view-requires-clause-whole : goal.frame_at-view-requires-clause-whole
frame_at-view-requires-clause-whole c =
    let e = event_there c.args.self.now.lanes c.args.lane c.args.number c.requires in
    rw c.bytes.ensures (is_whole (sight (drop c.start-start.result c.args.self.now.bytes)) e.frame (length (spelling e.frame)) (c.start-start.ensures.whole e.lane e.frame e.on e.at))

pub new-requires : goal.new-requires
new-requires c =
    let e = event_there c.args.self.now.lanes c.args.lane c.args.number c.requires in
    let seen = c.start-start.ensures.whole e.lane e.frame e.on e.at in
    let frame : frame_of c.frame_at-view.result ≡ e.frame = c.frame_at-view.ensures e.frame (length (spelling e.frame)) (ap (λ (bs : List ℕ). sight (drop c.start-start.result bs)) c.bytes.ensures ∙ seen) in
    let kind : c.lane_kind-kind.result ≡ e.lane.kind = c.lane_kind-kind.ensures e.lane e.on in
    rw (frame, kind) (told_event c.args.self.now.lanes c.args.lane c.args.number e.lane e.frame e.on e.at)

pub returns-clause-event : goal.returns-clause-event
returns-clause-event c =
    let e = event_there c.args.self.now.lanes c.args.lane c.args.number c.requires in
    let seen = c.start-start.ensures.whole e.lane e.frame e.on e.at in
    let frame : frame_of c.frame_at-view.result ≡ e.frame = c.frame_at-view.ensures e.frame (length (spelling e.frame)) (ap (λ (bs : List ℕ). sight (drop c.start-start.result bs)) c.bytes.ensures ∙ seen) in
    let kind : c.lane_kind-kind.result ≡ e.lane.kind = c.lane_kind-kind.ensures e.lane e.on in
    rw (c.new.ensures, frame, kind) (event_is c.args.self.now.lanes c.args.lane c.args.number e.lane e.frame e.on e.at)
