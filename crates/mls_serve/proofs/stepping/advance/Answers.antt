use Rattle.std.proofs.Common.{◌≡◌, ℕ, ◌+◌, ◌-◌, length, ap, sym, subst, refl, ◌∙◌, arith}
use Rattle.mls_model.specs.declared.lanes.LaneEnd.{LaneEnd}
use Rattle.mls_model.specs.Frames.{Sight, bad, sight}
use Rattle.mls_model.specs.Lanes.{end_by}
use Rattle.mls_frame.specs.Feeding.{Fed, IsNoFrame, bytes_taken}
use Rattle.mls_serve.specs.Readings.{EndsReading}
use Rattle.mls_serve.specs.Takings.{HasLooked, SawNone}
use Rattle.mls_serve.specs.declared.taking.Look.{Look}
use Rattle.mls_serve.proofs.Ends.{bad_end, bad_ends}
use Rattle.mls_serve.proofs.stepping.advance.Goals as goal

pub returns-in-Bad-clause-stepped : goal.returns-in-Bad-clause-stepped
returns-in-Bad-clause-stepped g c =
    let fault = c.in-Bad.fault in
    let fed = c.args.feeder.now in
    let told = g.L.Link.told c.args.link.now in
    let faults = g.L.Link.faults c.args.link.now in
    let looked : SawNone (sight fed.rest) (bad fault) (g.P.Post.told c.args.post.now) (g.P.Post.told c.take_next.new.post) =
    subst (λ (l : Look). HasLooked l c.args.seat.rank c.args.seat.lane (sight fed.rest) (g.P.Post.told c.args.post.now) (g.P.Post.told c.take_next.new.post)) c.in-Bad.is c.in_ok-take_next.ensures.looked in
    let e = looked.is_seen in
    let here : c.offset.result ≡ fed.offset + 0 = c.offset.ensures ∙ ap (λ (x : Fed). x.offset) c.in_ok-take_next.ensures.fed ∙ ap (λ (s : Sight). fed.offset + bytes_taken s) e in
    let at : c.offset.result ≡ fed.offset = omega (arith, here) in
    let is : c.bad_end.result ≡ end_by (fed.offset - c.args.head) (bad fault) = c.bad_end.ensures ∙ ap (λ (n : ℕ). end_by (n - c.args.head) (bad fault)) at in
    let size = (fed.offset + length fed.rest) - c.args.head in
    record {
      ended = subst (λ (end : LaneEnd). EndsReading end (fed.offset - c.args.head) fed.rest size told told faults faults) (sym is)
          (bad_ends fault (fed.offset - c.args.head) fed.rest size told told faults faults (record { is_end = sym (bad_end (fed.offset - c.args.head) fed.rest fault e); link = refl; faultless = refl }));
      none = subst IsNoFrame (sym e) tt;
      posts = looked.none;
    }
